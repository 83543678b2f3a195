-- Every word of the counter generator fits 64 bits.
use Rattle.std.proofs.Common.{ℕ, ◌/◌, ◌^◌, ◌<◌, arith}
use Rattle.std.proofs.lemmas.Nat.{mod_below, shr_le, xor_lt}
use Rattle.sources.specs.Sources.{Sound}
use Rattle.sources.specs.SplitMix.{counter_reading, xorshift}

-- a shift and an exclusive or stay within 64 bits
xorshift_below : (bits z : ℕ) → z < 2 ^ 64 → xorshift bits z < 2 ^ 64
xorshift_below bits z h = xor_lt 64 z (z / 2 ^ bits) h (omega (arith, shr_le z bits))

pub counter_sound : (seed : ℕ) → Sound (counter_reading seed)
counter_sound seed place from to = xorshift_below 31 _ (mod_below _ (2 ^ 64) (omega arith))
