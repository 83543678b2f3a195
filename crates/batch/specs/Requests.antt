-- What each request does in each stage of a batch.
use Rattle.std.specs.Prelude.{◌≡◌, ℕ, Bool, true, false, List}
use Rattle.refusal.specs.Refusals.{Answer, Refusal, given, refused}
use Rattle.batch.specs.Ends.{Two}
use Rattle.batch.specs.Machine.{Draw, Machine, Out, left_after, met_draw, none, one_closed, one_given_up, open_answer, open_draw}
use Rattle.batch.specs.Runs.{RunReports}
use Rattle.batch.specs.Tries.{Report, Setting, try_report, with_two}
use Rattle.batch.specs.declared.stage.Request.{Request}
use Rattle.batch.specs.declared.stage.Request.TheVariants.{Open, Try, Run, Close, GiveUp}

-- What a request answers. One that does not fit the stage is misplaced.
pub data Said : Type 0 where
  said_opened : Said
  said_met : Said
  said_apart : Said
  said_closed : Said
  said_given_up : Said
  said_refused : Refusal → Said
  said_misplaced : Said

-- The answer to a request, and what it leaves: the machine, and the cells of both states.
pub record Response : Type 0 where
  pub said : Said
  pub machine : Machine
  pub low : List ℕ
  pub high : List ℕ

abbrev pub response : Said → Machine → (low high : List ℕ) → Response
response said m x y = record { said = said; machine = m; low = x; high = y }

-- A request that leaves the states alone.
abbrev pub states_kept : Said → Machine → Two → Response
states_kept said m t = response said m t.low t.high

abbrev pub said_open : Answer Machine → Said
said_open (given m) = said_opened
said_open (refused c) = said_refused c

abbrev pub said_try : Answer Bool → Said
said_try (given true) = said_met
said_try (given false) = said_apart
said_try (refused c) = said_refused c

abbrev pub reported : Report → Response
reported r = response (said_try r.answer) r.machine r.low r.high

-- A batch without a draw can only open one; a draw that has met can only be closed; an open draw can be tried, run and
-- given up.
abbrev pub WhenIdle : Two → Machine → Request → Response → Type 0
WhenIdle t m Open sc = sc ≡ states_kept (said_open (open_answer m)) (left_after (open_answer m) m) t
WhenIdle t m _ sc = sc ≡ states_kept said_misplaced m t

abbrev pub WhenOpen : Setting → Two → Machine → Draw → Request → Response → Type 0
WhenOpen s t m d (Try T) sc = sc ≡ reported (try_report s m (with_two d t) T)
WhenOpen s t m d Run sc = (report : Report) × RunReports s m (with_two d t) report × (sc ≡ reported report)
WhenOpen s t m d GiveUp sc = sc ≡ states_kept said_given_up (one_given_up m) t
WhenOpen s t m d _ sc = sc ≡ states_kept said_misplaced m t

abbrev pub WhenMet : Two → Machine → Request → Response → Type 0
WhenMet t m Close sc = sc ≡ states_kept said_closed (one_closed m) t
WhenMet t m _ sc = sc ≡ states_kept said_misplaced m t

abbrev pub CarriesByDraw : Setting → Two → Machine → Out → Request → Response → Type 0
CarriesByDraw s t m none request sc = WhenIdle t m request sc
CarriesByDraw s t m (open_draw d) request sc = WhenOpen s t m d request sc
CarriesByDraw s t m (met_draw d) request sc = WhenMet t m request sc

-- What a request does, by the draw that is out.
abbrev pub Carries : Setting → Two → Machine → Request → Response → Type 0
Carries s t m request sc = CarriesByDraw s t m m.out request sc
