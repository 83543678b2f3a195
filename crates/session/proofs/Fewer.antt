-- Each answer leaves fewer requests of a directive `draws`.
use Rattle.std.proofs.Common.{◌≡◌, ℕ, zero, suc, ◌+◌, ◌-◌, ◌*◌, ◌<◌, ◌≤◌, Bool, true, false, Some, None, Option, cond, ◌==◌, refl, subst, sym, arith}
use Rattle.batch.specs.Requests.{Said, said_apart, said_closed, said_given_up, said_met, said_opened, said_refused}
use Rattle.batch.specs.declared.stage.Request.{Request}
use Rattle.batch.specs.declared.stage.Request.TheVariants.{Open, Try, Run, Close, GiveUp}
use Rattle.session.specs.Draws.{after_answer, after_answer_to, go_on, next_after}
use Rattle.session.specs.declared.requests.Draws.{Draws}
use Rattle.session.specs.declared.requests.Next.{Next}
use Rattle.session.specs.declared.requests.Next.TheVariants.{Ask, DrawDone, Over}

-- how many requests a draw takes at most from this one on
abbrev pub from_request : Request → ℕ
from_request Open = 3
from_request (Try t) = 1
from_request Run = 2
from_request Close = 1
from_request GiveUp = 1

abbrev pub of_draw : Option Request → ℕ
of_draw None = 0
of_draw (Some q) = from_request q

-- how many requests are left at most
abbrev pub requests_left : Draws → ℕ
requests_left d = 3 * d.left + of_draw d.request

abbrev of_next : Next → ℕ
of_next (Ask q) = from_request q
of_next DrawDone = 0
of_next Over = 0

one_done : (q : Request) (said : Said) → of_next (next_after q said) < from_request q
one_done Open said_opened = omega arith
one_done Open _ = omega arith
one_done (Try t) said = omega arith
one_done Run said_met = omega arith
one_done Run said_apart = omega arith
one_done Run (said_refused c) = omega arith
one_done Run _ = omega arith
one_done Close said_closed = omega arith
one_done Close _ = omega arith
one_done GiveUp said_given_up = omega arith
one_done GiveUp _ = omega arith

next_draw : (count left : ℕ) (none : Bool) → none ≡ (left - 1 == 0) → 3 * (left - 1) + of_draw (cond none None (Some Open)) ≤ 3 * left
next_draw count left true e = omega arith
next_draw count zero false e = cc
next_draw count (suc left) false e = omega arith

going_on : (d : Draws) (n : Next) → requests_left (go_on d n) ≤ 3 * d.left + of_next n
going_on d (Ask q) = omega arith
going_on d DrawDone = let h = next_draw d.count d.left (d.left - 1 == 0) refl in omega arith
going_on d Over = omega arith

pub fewer_left : (d : Draws) (q : Request) (said : Said) → d.request ≡ Some q → requests_left (after_answer d said) < requests_left d
fewer_left d q said is =
    let some = one_done q said in
    let less = going_on d (next_after q said) in
    let P : Option Request → Type 0 = λ o. requests_left (after_answer_to o d said) < 3 * d.left + of_draw o in
    subst P (sym is) (omega arith)
