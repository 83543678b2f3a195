-- A move changes nothing of where a trace ends.
use Rattle.std.proofs.Common.{◌≡◌, ℕ, zero, suc, ◌-◌, ◌≤◌, List, sym, ap, ◌∙◌, arith}
use Rattle.coupling.specs.Lead.{lead}
use Rattle.coupling.specs.Windows.{draw_place, window_words}
use Rattle.lattice.specs.Kind.{Meaning}
use Rattle.refusal.specs.Refusals.{given}
use Rattle.sources.specs.Sources.{Reading, has_place, word_answer}
use Rattle.session.specs.Traces.{end_of}
use Rattle.refusal.proofs.Provided.{passed, same_given}

word_given : (r : Reading) (place w : ℕ) → given w ≡ word_answer r place → w ≡ r.word place
word_given r place w e = same_given w (r.word place) (passed (has_place r place) _ (given (r.word place)) w e).1

place_of : (n : ℕ) → draw_place 0 0 n ≡ n
place_of n = omega arith

pub same_end : (m : Meaning) (r : Reading) (left w : ℕ) (cells moved : List ℕ) → 1 ≤ left → given w ≡ word_answer r left → moved ≡ m.step w cells → end_of m r (left - 1, moved) ≡ end_of m r (left, cells)
unfolding window_words
same_end m r zero w cells moved some at e = absurd (omega arith)
same_end m r (suc n) w cells moved some at e =
    let less : suc n - 1 ≡ n = omega arith in
    let word = word_given r (suc n) w at in
    ap (λ (k : ℕ). lead m (window_words r 0 0 k) moved) less
    ∙ ap (lead m (window_words r 0 0 n)) e
    ∙ ap (λ (v : ℕ). lead m (window_words r 0 0 n) (m.step v cells)) (word ∙ ap r.word (sym (place_of (suc n))))
