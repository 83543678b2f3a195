use Rattle.std.proofs.Common.{◌≡◌}
use Rattle.coupling.specs.Lead.{lead}
use Rattle.coupling.specs.Windows.{window_words}
use Rattle.batch.specs.Reads.{words_in}
use Rattle.batch.proofs.draws.windows.Window.lead.Given as goal

-- the words that are left lead the state now to where all of them lead the first one
abbrev pub invariant-loop-place : goal.invariant-loop-place
invariant-loop-place g l =
    let p = l.self.places in
    let m = g.K.Kind.meaning l.rule in
    (lead m (window_words (g.S.Source.reading p.source.now) p.stretch p.number l.place) (g.K.Kind.cells l.state)
    ≡ lead m (words_in g.S.Source l.self) (g.K.Kind.cells l.initial.state))
    × (g.K.Kind.carried l.state ≡ g.K.Kind.carried l.initial.state)
