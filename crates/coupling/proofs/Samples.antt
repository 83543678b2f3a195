-- Larger windows, and agreeing sources, give the same sample.
use Rattle.std.proofs.Common.{◌≡◌, ℕ, ◌<◌, ◌≤◌, List, [], ◌∷◌, ◌++◌, sym, ◌∙◌, ⊎_elim, arith}
use Rattle.std.proofs.lemmas.Bool.{cases_lt}
use Rattle.lattice.specs.Kind.{Meaning}
use Rattle.sources.specs.Sources.{Reading, Sound}
use Rattle.coupling.specs.Ends.{AgreeingSourcesMeetAlike, OlderWordsChangeNothing, LargerWindowsKeepTheSample}
use Rattle.coupling.specs.Lead.{Words, lead, met_in, outcome}
use Rattle.coupling.specs.Windows.{Agree, CanFill, window_words}
use Rattle.coupling.proofs.Filled.{fills_smaller, older_words, same_window, window_is_words}
use Rattle.coupling.proofs.Laws.{Laws}
use Rattle.coupling.proofs.Sandwich.{lead_append, lead_lawful, meets_where_all_end}

words_front : (older newer : List ℕ) → Words (older ++ newer) → Words older
words_front [] newer all = tt
words_front (w ∷ ws) newer all = (all.0, words_front ws newer all.1)

words_back : (older newer : List ℕ) → Words (older ++ newer) → Words newer
words_back [] newer all = all
words_back (w ∷ ws) newer all = words_back ws newer all.1

module _ (m : Meaning) (laws : Laws m) where
  -- words in front of some that meet change nothing
  pub older_change_nothing : OlderWordsChangeNothing m
  older_change_nothing older newer all y met =
      let meets = meets_where_all_end m laws in
      let together = (meets newer (words_back older newer all) y).0 met in
      (meets (older ++ newer) all y).1
      (λ x h. lead_append m older newer x ∙ together (lead m older x) (lead_lawful m laws.closed older (words_front older newer all) x h))

  pub larger_windows : (r : Reading) → Sound r → LargerWindowsKeepTheSample m r
  larger_windows r sound stretch d T U fill upto y met =
      let p = older_words r stretch d T U upto in
      let all = window_is_words r sound stretch d U fill in
      rw p.1 (older_change_nothing p.0 (window_words r stretch d T) (rw p.1 at all) y met)

  -- where one source's window is at most the other's
  smaller_first : (r q : Reading) → Sound q → Agree r q → (stretch d T U : ℕ) → CanFill r stretch d T → CanFill q stretch d U → T ≤ U → (x y : List ℕ) → outcome m (window_words r stretch d T) ≡ met_in x → outcome m (window_words q stretch d U) ≡ met_in y → x ≡ y
  smaller_first r q sound agree stretch d T U fill too upto x y first second =
      let small = fills_smaller q stretch d T U fill.some upto too in
      let words = same_window r q agree stretch d T fill small in
      let kept = larger_windows q sound stretch d T U too upto x (rw words at first) in
      cc

  pub agreeing_sources : (r q : Reading) → Sound r → Sound q → AgreeingSourcesMeetAlike m r q
  agreeing_sources r q sound also agree stretch d T U fill too x y first second =
      ⊎_elim
      (λ (l : T < U). smaller_first r q also agree stretch d T U fill too (omega arith) x y first second)
      (λ (g : U ≤ T). sym (smaller_first q r sound (λ place h k. sym (agree place k h)) stretch d U T too fill g y x second first))
      (cases_lt T U)
