use Rattle.session.proofs.console.Console.say_moves.Given as goal

abbrev pub decreases-loop-trace : goal.decreases-loop-trace
decreases-loop-trace g l = l.trace.left
