-- The words of the counter generator SplitMix64. Its sums and products are modulo 2 ^ 64.
use Rattle.std.specs.Prelude.{ℕ, ◌+◌, ◌*◌, ◌/◌, ◌%◌, ◌^◌, bit_xor}
use Rattle.sources.specs.Sources.{Reading}

-- A number, exclusive or itself shifted right.
abbrev pub xorshift : ℕ → ℕ → ℕ
xorshift bits z = bit_xor z (z / 2 ^ bits)

abbrev pub times : ℕ → ℕ → ℕ
times factor z = z * factor % 2 ^ 64

-- The three mixing steps that make a word of a counter.
abbrev pub mixed : ℕ → ℕ
mixed z = xorshift 31 (times 0x94D049BB133111EB (xorshift 27 (times 0xBF58476D1CE4E5B9 (xorshift 30 z))))

abbrev pub counter_at : ℕ → ℕ → ℕ
counter_at seed place = (seed + place * 0x9E3779B97F4A7C15) % 2 ^ 64

abbrev pub counter_reading : ℕ → Reading
counter_reading seed = record { depth = 2 ^ 40; word = λ place. mixed (counter_at seed place) }
