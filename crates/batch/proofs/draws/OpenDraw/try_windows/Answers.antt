use Rattle.std.proofs.Common.{◌∙◌, arith, rules}
use Rattle.std.proofs.lemmas.Result.{err_from_is_err_and}
use Rattle.batch.specs.Lent.{ends_of}
use Rattle.batch.specs.Settings.{setting_of}
use Rattle.batch.proofs.Climbs.{again, early, last}
use Rattle.batch.proofs.draws.OpenDraw.try_windows.Goals as goal

pub returns-in_err-try_doubled-clause-reports : goal.returns-in_err-try_doubled-clause-reports
returns-in_err-try_doubled-clause-reports g c =
    let now = c.loop-exponent in
    let fault = err_from_is_err_and c.from_residual.result c.from_residual.ensures.1 in
    rw (fault.1, fault.2)
    (early (setting_of g.K.Kind g.S.Source c.args.setting.now) c.args.self.now now.self (ends_of g.K.Kind c.args.ends.now) (ends_of g.K.Kind now.ends) now.exponent _ _ (search rules) now.invariant.1 now.invariant.0 c.in_err-try_doubled.ensures.reports (λ apart. cc apart))

pub returns-then-branch-clause-reports : goal.returns-then-branch-clause-reports
returns-then-branch-clause-reports g c =
    let now = c.loop-exponent in
    early (setting_of g.K.Kind g.S.Source c.args.setting.now) c.args.self.now now.self (ends_of g.K.Kind c.args.ends.now) (ends_of g.K.Kind now.ends) now.exponent _ _ (search rules) now.invariant.1 now.invariant.0
    (rw c.if-branch.true at c.in_ok-try_doubled.ensures.reports) (λ apart. cc apart)

pub loop-exponent-preserved : goal.loop-exponent-preserved
loop-exponent-preserved g c =
    let now = c.loop-exponent in
    let done = c.in_ok-try_doubled.ensures in (
      again (setting_of g.K.Kind g.S.Source c.args.setting.now) c.args.self.now now.self (ends_of g.K.Kind c.args.ends.now) (ends_of g.K.Kind now.ends) c.try_doubled.new.self _ now.exponent _ (search rules) now.invariant.1 done.keeps now.invariant.0
          (rw c.if-branch.false at done.reports),
      done.same ∙ now.invariant.1,
      (done.keeps.0 ∙ now.invariant.2.0, done.keeps.1 ∙ now.invariant.2.1),
      (done.same_ends.0 ∙ now.invariant.3.0, done.same_ends.1 ∙ now.invariant.3.1),
    )

pub returns-clause-reports : goal.returns-clause-reports
returns-clause-reports g c =
    let now = c.loop-exponent in
    last (setting_of g.K.Kind g.S.Source c.args.setting.now) c.args.self.now now.self (ends_of g.K.Kind c.args.ends.now) (ends_of g.K.Kind now.ends) now.exponent _ _
    (omega (arith, c.loop-exponent-test.false, now.auto.exponent-end)) c.from-stretch.ensures now.invariant.1 now.invariant.0 c.attempt.ensures.reports
