-- In every history answers are exact, and agreeing histories sample alike.
use Rattle.std.proofs.Common.{◌≡◌, ℕ, [], ◌∷◌, sym, ap, ◌∙◌, subst, inl, inr}
use Rattle.coupling.proofs.Laws.{Laws}
use Rattle.coupling.proofs.Samples.{agreeing_sources}
use Rattle.coupling.specs.Lead.{met_in, outcome}
use Rattle.coupling.specs.Windows.{CanFill, window_words}
use Rattle.sources.specs.Sources.{Sound}
use Rattle.batch.specs.Machine.{Machine}
use Rattle.batch.specs.Promises.{HoldsInEveryHistory}
use Rattle.batch.specs.Samples.{AgreeingHistoriesSampleAlike, AnswersAreExact, with_source}
use Rattle.batch.specs.Tries.{Setting}
use Rattle.batch.proofs.Counted.{counted}
use Rattle.batch.proofs.Responses.{Exact, carried_exact, carried_stretch}

pub exact : (s : Setting) (laws : Laws s.rule) (sound : Sound s.source) → AnswersAreExact s
exact s laws sound [] m history e has = absurd has
exact s laws sound (f ∷ es) m history e has =
    let before = history.0 in
    let stretch = sym (carried_stretch s f.states before before.out f.request f.response history.2) ∙ ap (λ (x : Machine). x.stretch) (sym history.3) in
    elim has [
      | inl same ↦ subst (λ (n : ℕ). Exact s n e) stretch
          (subst (Exact s before.stretch) (sym same) (carried_exact s laws sound f.states before before.out f.request f.response history.2))
      | inr older ↦ subst (λ (n : ℕ). Exact s n e) stretch (exact s laws sound es before history.1 e older)
    ]

pub alike : (s : Setting) (laws : Laws s.rule) (sound : Sound s.source) → AgreeingHistoriesSampleAlike s
alike s laws sound q also agree es fs m n h k same e f has too met meets c d out comes number =
    let x = (exact s laws sound es m h e has).0 met in
    let y = (exact (with_source s q) laws also fs n k f too).0 meets in
    let first : x.draw ≡ c = cc (x.out, out) in
    let second : y.draw ≡ d = cc (y.out, comes) in
    let numbers : x.draw.number ≡ y.draw.number = cc in
    let fill : CanFill q m.stretch x.draw.number y.draw.tried = rw (numbers, same) y.fills in
    let words : outcome s.rule (window_words q m.stretch x.draw.number y.draw.tried) ≡ met_in f.response.low = rw (numbers, same) y.by_words in
    agreeing_sources s.rule laws s.source q sound also agree m.stretch x.draw.number x.draw.tried y.draw.tried x.fills fill e.response.low f.response.low x.by_words words

pub holds : (s : Setting) (laws : Laws s.rule) (sound : Sound s.source) → HoldsInEveryHistory s
holds s laws sound =
    record { exact = exact s laws sound; alike = alike s laws sound; tally = counted s }
