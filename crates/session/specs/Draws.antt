-- What is printed of draws, and how `draws` goes on.
use Rattle.std.specs.Prelude.{ℕ, ◌-◌, cond, List, [], ◌∷◌, ◌++◌, Some, None, codes, decimal, Option, ◌==◌}
use Rattle.batch.specs.Machine.{Counts, Draw, Machine, Out, counts, met_draw, none, one_closed, one_given_up, open_draw}
use Rattle.batch.specs.Requests.{Said, said_apart, said_closed, said_given_up, said_met, said_misplaced, said_opened, said_refused}
use Rattle.batch.specs.declared.stage.Request.{Request}
use Rattle.batch.specs.declared.stage.Request.TheVariants.{Open, Try, Run, Close, GiveUp}
use Rattle.std.specs.Option.{option_map}
use Rattle.task.specs.Lines as line
use Rattle.session.specs.Printed.{printed, refused_line, state_lines}
use Rattle.session.specs.declared.requests.Draws.{Draws}
use Rattle.session.specs.declared.requests.Next.{Next}
use Rattle.session.specs.declared.requests.Next.TheVariants.{Ask, DrawDone, Over}

abbrev pub batch_line : Machine → List ℕ
batch_line m = printed (codes "batch") (m.stretch ∷ [])

abbrev pub tally_line : Counts → List ℕ
tally_line n = printed (codes "tally") (n.opened ∷ n.met ∷ n.given_up ∷ [])

-- A draw's number, alone or with the window that was tried last.
abbrev pub number_line : List ℕ → Draw → List ℕ
number_line head d = printed head (d.number ∷ [])

abbrev pub window_line : List ℕ → Draw → List ℕ
window_line head d = printed head (d.number ∷ d.tried ∷ [])

-- The draw that a request was about, by the draws that were out before and after it.
abbrev pub concerned : (before after : Option Draw) → Option Draw
concerned before (Some d) = Some d
concerned before None = before

-- An answer: its first line, and behind it what the states hold after a try or a run.
abbrev pub first_line : Said → Option Draw → Option (List ℕ)
first_line said_opened d = option_map (number_line (codes "opened")) d
first_line said_met d = option_map (window_line (codes "met")) d
first_line said_apart d = option_map (window_line (codes "apart")) d
first_line said_closed d = option_map (number_line (codes "closed")) d
first_line said_given_up d = option_map (number_line (codes "given up")) d
first_line (said_refused c) d = refused_line c
first_line said_misplaced d = None

abbrev pub state_part : Said → (low high : List ℕ) → List ℕ
state_part said_met x y = printed (codes "state") x
state_part said_apart x y = state_lines x y
state_part _ x y = []

abbrev pub answer_lines : Said → Option Draw → (low high : List ℕ) → Option (List ℕ)
answer_lines said d x y = option_map (λ first. first ++ state_part said x y) (first_line said d)

-- At the end of a task a draw that has met is closed, an open one given up, and the tally comes last.
abbrev pub end_with : Out → Machine → List ℕ
end_with none m = tally_line (counts m)
end_with (open_draw d) m = number_line (codes "given up") d ++ tally_line (counts (one_given_up m))
end_with (met_draw d) m = number_line (codes "closed") d ++ tally_line (counts (one_closed m))

abbrev pub end_lines : Machine → List ℕ
end_lines m = end_with m.out m

-- The requests that are directives of their own.
abbrev pub asked : line.Request → Option Request
asked line.«open» = Some Open
asked (line.try t) = Some (Try t)
asked line.run = Some Run
asked line.close = Some Close
asked line.give_up = Some GiveUp
asked _ = None

-- In `draws` a draw is opened, run, and closed if it met; if it did not, or if the run was refused, it is given up. A
-- refused open ends the directive.
abbrev pub after_open : Said → Next
after_open said_opened = Ask Run
after_open _ = Over

abbrev pub after_run : Said → Next
after_run said_met = Ask Close
after_run said_apart = Ask GiveUp
after_run (said_refused c) = Ask GiveUp
after_run _ = Over

abbrev pub after_close : Said → Next
after_close said_closed = DrawDone
after_close _ = Over

abbrev pub after_give_up : Said → Next
after_give_up said_given_up = DrawDone
after_give_up _ = Over

abbrev pub next_after : Request → Said → Next
next_after Open said = after_open said
next_after (Try t) said = Over
next_after Run said = after_run said
next_after Close said = after_close said
next_after GiveUp said = after_give_up said

-- With draws left the next request is an open. With none the directive is over.
abbrev pub draws_from : (count left : ℕ) → Draws
draws_from count left = record { count = count; left = left; request = cond (left == 0) None (Some Open) }

abbrev pub go_on : Draws → Next → Draws
go_on d (Ask q) = record { count = d.count; left = d.left; request = Some q }
go_on d DrawDone = draws_from d.count (d.left - 1)
go_on d Over = record { count = d.count; left = d.left; request = None }

abbrev pub after_answer_to : Option Request → Draws → Said → Draws
after_answer_to None d said = d
after_answer_to (Some q) d said = go_on d (next_after q said)

abbrev pub after_answer : Draws → Said → Draws
after_answer d said = after_answer_to d.request d said

-- The line for who watches. The carriage return before it takes the one before away.
abbrev pub progress_line : (done count : ℕ) → List ℕ
progress_line done count = 13 ∷ (decimal done ++ (codes " of " ++ (decimal count ++ codes " draws")))
