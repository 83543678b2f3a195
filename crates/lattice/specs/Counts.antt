-- Counting words, and the law that makes the shares of states equal.
use Rattle.std.specs.Prelude.{◌≡◌, ℕ, zero, suc, ◌+◌, ◌^◌, cond, List, nat_lt}
use Rattle.std.specs.Str.{bytes_eq}
use Rattle.lattice.specs.Kind.{Meaning, Lawful}
use Rattle.lattice.specs.Words.{site, level}

-- f 0 + f 1 + .. + f (n - 1)
unfoldable pub sum_below : ℕ → (ℕ → ℕ) → ℕ
sum_below zero f = 0
sum_below (suc n) f = sum_below n f + f n

-- 1 where the two lists of cells are the same list, else 0.
abbrev pub same_as : List ℕ → List ℕ → ℕ
same_as x y = cond (bytes_eq x y) 1 0

-- How many of all 2^64 words lead x to y.
abbrev pub words_between : Meaning → List ℕ → List ℕ → ℕ
words_between m x y = sum_below (2 ^ 64) (λ w. same_as (m.step w x) y)

-- The exchange law: as many words lead back as lead there.
abbrev pub Exchanges : Meaning → Type 0
Exchanges m = (x y : List ℕ) → Lawful m x → Lawful m y → words_between m x y ≡ words_between m y x

-- A step that goes one way at the site where the level is below the threshold, else the other way.
abbrev pub two_way : (up down : ℕ → List ℕ → List ℕ) → (threshold n : ℕ) → ℕ → List ℕ → List ℕ
two_way up down threshold n w x = cond (nat_lt (level w) threshold) (up (site n w) x) (down (site n w) x)
