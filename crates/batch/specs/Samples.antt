-- What holds of every try and run in every history.
use Rattle.std.specs.Prelude.{◌≡◌, ℕ, ◌≤◌, true, List, Some}
use Rattle.coupling.specs.Ends.{AllEndIn, SomeEndApart}
use Rattle.coupling.specs.Lead.{apart_at, met_in, outcome}
use Rattle.coupling.specs.Windows.{Agree, CanFill, window_words}
use Rattle.sources.specs.Sources.{Reading, Sound}
use Rattle.batch.specs.Histories.{Event, History, is_tried}
use Rattle.batch.specs.Machine.{Draw, Machine, drawn, met_draw, open_draw}
use Rattle.batch.specs.Requests.{said_apart, said_met}
use Rattle.batch.specs.Tries.{Setting, setting}
use Rattle.batch.specs.declared.stage.Request.TheVariants.{Try}
use Rattle.lattice.specs.Kind.{Holds}

-- The words of window T of a draw.
abbrev pub words_of : Setting → (stretch : ℕ) → Draw → (T : ℕ) → List ℕ
words_of s stretch d T = window_words s.source stretch d.number T

-- A sample was drawn: both states hold the one state in which every lawful start ends at time zero, from the window
-- that met and from every larger one that the source can fill. The words alone decide that.
pub record Sampled (s : Setting) (stretch : ℕ) (e : Event) : Type 0 where
  pub draw : Draw
  pub out : e.response.machine.out ≡ met_draw draw
  pub window : (T : ℕ) → e.request ≡ Try T → draw.tried ≡ T
  pub fills : CanFill s.source stretch draw.number draw.tried
  pub both : e.response.low ≡ e.response.high
  pub by_words : outcome s.rule (words_of s stretch draw draw.tried) ≡ met_in e.response.low
  pub arrives : (U : ℕ) → draw.tried ≤ U → CanFill s.source stretch draw.number U → AllEndIn s.rule (words_of s stretch draw U) e.response.low

-- A window was apart: the states hold the ends of bottom and top, and the draw is still open.
pub record Parted (s : Setting) (stretch : ℕ) (e : Event) : Type 0 where
  pub draw : Draw
  pub out : e.response.machine.out ≡ open_draw draw
  pub window : (T : ℕ) → e.request ≡ Try T → draw.tried ≡ T
  pub fills : CanFill s.source stretch draw.number draw.tried
  pub by_words : outcome s.rule (words_of s stretch draw draw.tried) ≡ apart_at e.response.low e.response.high

-- An accepted try answers apart exactly if two lawful starts, led through the words of its window, end different.
abbrev pub ApartExactlyIfTwoDiffer : Setting → ℕ → Event → Type 0
ApartExactlyIfTwoDiffer s stretch e =
    (draw : Draw) → drawn e.response.machine.out ≡ Some draw →
    (e.response.said ≡ said_apart → SomeEndApart s.rule (words_of s stretch draw draw.tried))
    × (SomeEndApart s.rule (words_of s stretch draw draw.tried) → e.response.said ≡ said_apart)

-- In every history, a try or a run that met has drawn a sample, one that answered apart was apart, and it did so exactly
-- if two starts differ.
abbrev pub AnswersAreExact : Setting → Type 0
AnswersAreExact s =
    (es : List Event) (m : Machine) → History s es m → (e : Event) → Holds es e →
    (e.response.said ≡ said_met → Sampled s m.stretch e)
    × (e.response.said ≡ said_apart → Parted s m.stretch e)
    × (is_tried e.response.said ≡ true → ApartExactlyIfTwoDiffer s m.stretch e)

abbrev pub with_source : Setting → Reading → Setting
with_source s q = setting s.rule s.extent q

-- Two histories of one rule and one stretch, on agreeing sources, that meet on one draw number have one sample.
abbrev pub AgreeingHistoriesSampleAlike : Setting → Type 0
AgreeingHistoriesSampleAlike s =
    (q : Reading) → Sound q → Agree s.source q →
    (es fs : List Event) (m n : Machine) → History s es m → History (with_source s q) fs n → m.stretch ≡ n.stretch →
    (e f : Event) → Holds es e → Holds fs f → e.response.said ≡ said_met → f.response.said ≡ said_met →
    (c d : Draw) → e.response.machine.out ≡ met_draw c → f.response.machine.out ≡ met_draw d → c.number ≡ d.number →
    e.response.low ≡ f.response.low
