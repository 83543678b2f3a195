use Rattle.std.proofs.Common.{◌≡◌, Bool, true, false, cond, ◌⊎◌, Some, None, Ok, Err, IfSome, Option, refl, sym, subst, inl, inr, rules}
use Rattle.std.proofs.lemmas.Result.{IfOk-weaker}
use Rattle.task.specs.Lines.{Line, Request, directive, line_meaning, passed_over, request_of, unreadable}
use Rattle.task.specs.declared.line.Directive.{Directive}
use Rattle.session.specs.Stages.{allowed, line_answer}
use Rattle.session.specs.declared.stage.Stage.{Stage}
use Rattle.session.specs.declared.trouble.Trouble.TheVariants.{Memory, Misplaced}
use Rattle.session.proofs.input.Lines.next_allowed.Goals as goal

tested : (t : Bool) (p q : Request) → Ok (Some q) ≡ cond t (Ok (Some p)) (Err Misplaced) → (q ≡ p) × (t ≡ true)
tested true p q e = (cc, refl)
tested false p q e = cc

-- a request that a line comes to is allowed
only_allowed : (s : Stage) (l : Line) (q : Request) → Ok (Some q) ≡ line_answer s l → allowed q s ≡ true
only_allowed s passed_over q e = cc
only_allowed s (directive p) q e = let h = tested (allowed p s) p q e in subst (λ (r : Request). allowed r s ≡ true) (sym h.0) h.1
only_allowed s (unreadable x) q e = cc

-- so is one that a line comes to, unless there is no memory
taken_allowed : (s : Stage) (l : Line) (d : Directive) → (Ok (Some (request_of d)) ≡ line_answer s l) ⊎ (Ok (Some d) ≡ Err Memory) → allowed (request_of d) s ≡ true
taken_allowed s l d (inl e) = only_allowed s l (request_of d) e
taken_allowed s l d (inr e) = cc

weaker : (o : Option Directive) (P Q : Directive → Type 0) → ((d : Directive) → P d → Q d) → IfSome o P → IfSome o Q
weaker (Some d) P Q f p = f d p
weaker None P Q f p = tt

pub returns : goal.returns
returns g c = IfOk-weaker c.next_read.result _ _
    (λ o. weaker o _ _
    (λ d p.
    let read : (Ok (Some (request_of d)) ≡ line_answer c.args.stage (line_meaning p.0.now)) ⊎ (Ok (Some d) ≡ Err Memory) = search rules in
    taken_allowed c.args.stage (line_meaning p.0.now) d read))
    c.next_read.ensures
