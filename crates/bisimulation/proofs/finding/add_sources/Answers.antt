use Rattle.std.proofs.Common.{arith}
use Rattle.bisimulation.proofs.SourceLemmas.{adding_starts, adding_more, adding_ends}
use Rattle.bisimulation.proofs.finding.add_sources.Goals as goal

pub loop-k-init : goal.loop-k-init
loop-k-init c = adding_starts c.args.automaton.now c.predecessors-numbers.result.now c.args.due.now.keys c.requires.below

pub loop-k-preserved : goal.loop-k-preserved
loop-k-preserved c =
    adding_more c.args.automaton.now c.predecessors-numbers.result.now c.args.due.now.keys c.loop-k.due.keys c.insert.new.self.keys c.loop-k.k c.source_of.result
    c.loop-k.invariant c.source_of.ensures.source c.source_of.ensures.state c.in_ok-insert.ensures.keys

pub returns-clause-sources : goal.returns-clause-sources
returns-clause-sources c =
    adding_ends c.args.automaton.now c.args.state c.predecessors-numbers.result.now c.args.due.now.keys c.loop-k.due.keys c.loop-k.k c.predecessors-numbers.ensures.list
    (omega (arith, c.loop-k-test.false)) c.loop-k.invariant
