-- How a word chooses a site and a level.
use Rattle.std.specs.Prelude.{ℕ, ◌*◌, ◌/◌, ◌%◌, ◌^◌}

-- The site among n cells: the high 32 bits scale to 0 .. n - 1.
abbrev pub site : ℕ → ℕ → ℕ
site n w = w / 2 ^ 32 * n / 2 ^ 32

-- The level: the low 32 bits.
abbrev pub level : ℕ → ℕ
level w = w % 2 ^ 32

-- Half of all levels lie below this one.
abbrev pub middle_level : ℕ
middle_level = 2 ^ 31
