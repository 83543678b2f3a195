use Rattle.session.proofs.Fewer.{requests_left}
use Rattle.session.proofs.console.Console.make_draws.Given as goal

abbrev pub decreases-loop-request : goal.decreases-loop-request
decreases-loop-request g l = requests_left l.draws
