use Rattle.std.proofs.Common.{◌≡◌, ℕ, zero, suc, ◌+◌, ◌-◌, ◌*◌, ◌<◌, ◌/◌, length, List, [], take, drop, get_or, refl, ap, ◌∙◌, arith}
use Rattle.std.proofs.lemmas.List.{drop-drop}
use Rattle.std.specs.Simd.{first_chunks}
use Rattle.sources.specs.Recordings.{big_endian}
use Rattle.sources.proofs.recording.RecordingSource.word.Goals as goal

-- chunk i of n elements each
chunk_at : {A : Type 0} (n k : ℕ) (xs : List A) (i : ℕ) (d : List A) → i < k → get_or (first_chunks n k xs) i d ≡ take n (drop (n * i) xs)
chunk_at n zero xs i d h = absurd (omega arith)
chunk_at n (suc k) xs zero d h = let e : n * 0 ≡ 0 = omega arith in rw e refl
chunk_at n (suc k) xs (suc i) d h =
    let e : n + n * i ≡ n * suc i = omega arith in
    rw (← e) (chunk_at n k (drop n xs) i d (omega arith) ∙ ap (take n) (drop-drop (n * i) n xs))

pub returns : goal.returns
returns c =
    let few : c.args.place - 1 < length c.args.self.now.bytes.now / 8 = omega (arith, c.in_ok-unless_among.ensures.bounds) in
    let chunk = ap (λ (ws : List (List ℕ)). get_or ws (c.args.place - 1) []) c.as_chunks.ensures.front ∙ chunk_at 8 _ c.args.self.now.bytes.now (c.args.place - 1) [] few in
    grind (arith, ap big_endian chunk)
