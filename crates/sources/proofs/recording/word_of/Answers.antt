use Rattle.std.proofs.Common.{◌≡◌, ℕ, suc, ◌+◌, ◌*◌, ◌<◌, ◌%◌, length, List, drop, refl, ◌∙◌, w64, arith, drop-cons, rules}
use Rattle.std.proofs.lemmas.List.{drop_all}
use Rattle.std.specs.Int.{from_be_bytes}
use Rattle.std.specs.Prelude.{fold, slice_index}
use Rattle.sources.specs.Recordings.{big_endian}
use Rattle.sources.proofs.recording.word_of.Goals as goal

abbrev next : ℕ → ℕ → ℕ
next high b = 256 * high + b % 256

module _ (bs : List ℕ) (long : length bs ≡ 8) (small : (i : ℕ) → slice_index bs i < 256) where
  -- the byte at k comes next
  from : (k high : ℕ) → k < 8 → fold next high (drop k bs) ≡ fold next (next high (slice_index bs k)) (drop (suc k) bs)
  from k high h = rw (drop-cons bs k 0 (omega arith)) refl

  -- read one after the other, they write the number that they make
  read : big_endian bs ≡ from_be_bytes w64 bs
  read =
      from 0 _ (omega arith) ∙ from 1 _ (omega arith) ∙ from 2 _ (omega arith) ∙ from 3 _ (omega arith)
      ∙ from 4 _ (omega arith) ∙ from 5 _ (omega arith) ∙ from 6 _ (omega arith) ∙ from 7 _ (omega arith)
      ∙ rw (drop_all 8 bs (omega arith)) (omega (arith, small 0, small 1, small 2, small 3, small 4, small 5, small 6, small 7))

pub returns : goal.returns
returns c =
    let long : length c.args.bytes ≡ 8 = search rules in
    let small : (i : ℕ) → slice_index c.args.bytes i < 256 = search rules in
    let same = read c.args.bytes long small in
    cc
