-- One word of a window, and the move that it makes.
use Rattle.std.proofs.Common.{◌≡◌, ℕ, suc, ◌<◌, Bool, true, false, List, arith}
use Rattle.coupling.specs.Lead.{lead}
use Rattle.coupling.specs.Windows.{draw_place, window_words}
use Rattle.lattice.specs.Kind.{Meaning}
use Rattle.refusal.specs.Refusals.{Refusal, given, provided}
use Rattle.sources.specs.Sources.{Reading, has_place}
use Rattle.batch.specs.Tries.{placed, read_for}

pub no_words : (m : Meaning) (r : Reading) (stretch d t : ℕ) (x end : List ℕ) → t < 1 → lead m (window_words r stretch d t) x ≡ end → x ≡ end
unfolding window_words
no_words m r stretch d t x end none leads = let e : t ≡ 0 = omega arith in rw e at leads

-- a word that was read is the source's
the_word : (number T w v : ℕ) (b : Bool) (c : Refusal) → given w ≡ read_for number T (provided b c (given v)) (λ u. u) → w ≡ v
the_word number T w v true c e = cc
the_word number T w v false c e = cc

-- a move by the oldest word, which was read at the place q, leaves the others to lead on
pub moved : (m : Meaning) (r : Reading) (stretch d T t n q w : ℕ) (x y end : List ℕ) → n ≡ suc t → given w ≡ placed r stretch d T q → q ≡ n → y ≡ m.step w x → lead m (window_words r stretch d n) x ≡ end → lead m (window_words r stretch d t) y ≡ end
unfolding window_words
moved m r stretch d T t n q w x y end e read at step leads =
    let here = the_word d T w _ (has_place r (draw_place stretch d q)) _ read in
    rw (step, here, at, e) (rw e at leads)
