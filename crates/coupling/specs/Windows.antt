-- The words of a window, and which windows a source can fill.
-- A batch gives each of its draws a stretch of places: draw number d, counted from 0, has the places d * stretch + 1 to
-- d * stretch + stretch. Window T of a draw is its places T, T - 1, .., 1 in this order: place 1 makes the last move, and
-- after it comes time zero.
use Rattle.std.specs.Prelude.{◌≡◌, ℕ, zero, suc, ◌+◌, ◌*◌, ◌≤◌, true, List, [], ◌∷◌}
use Rattle.sources.specs.Sources.{Reading, has_place}

-- The source's place for place t of draw d.
abbrev pub draw_place : (stretch d t : ℕ) → ℕ
draw_place stretch d t = d * stretch + t

-- The words of window T of draw d, the oldest first.
unfoldable pub window_words : Reading → (stretch d T : ℕ) → List ℕ
window_words r stretch d zero = []
window_words r stretch d (suc t) = r.word (draw_place stretch d (suc t)) ∷ window_words r stretch d t

-- A source can fill a window that fits the stretch if it has the window's oldest place.
pub record CanFill (r : Reading) (stretch d T : ℕ) : Type 0 where
  pub some : 1 ≤ T
  pub fits : T ≤ stretch
  pub oldest : has_place r (draw_place stretch d T) ≡ true

-- Two sources agree if no place has one word in the first and another in the second.
abbrev pub Agree : Reading → Reading → Type 0
Agree r q = (place : ℕ) → has_place r place ≡ true → has_place q place ≡ true → r.word place ≡ q.word place
