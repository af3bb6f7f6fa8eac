use Rattle.std.proofs.Common.{ℕ, slice_index_or, rules}
use Rattle.auto_core.specs.Automaton.{trans}
use Rattle.supergraph.specs.declared.arcs.Arc.{Arc}
use Rattle.supergraph.proofs.ArcLemmas.{extended_is_real}
use Rattle.supergraph.proofs.arcs.extend.Goals as goal

pub returns-then-arc-clause-real : goal.returns-then-arc-clause-real
returns-then-arc-clause-real c = λ w.
    let A = c.args.automaton.now in
    let t : ℕ = c.args.t in
    let new : Arc = record { from = c.args.arc.now.from; to = (slice_index_or c.transitions.result.now t (trans 0 0 0)).target; accepting = c.args.arc.now.accepting } in
    extended_is_real A c.args.arc.now new t c.requires.number c.requires.leaves w (search rules)

pub returns-else-arc-clause-real : goal.returns-else-arc-clause-real
returns-else-arc-clause-real c = λ w.
    let A = c.args.automaton.now in
    let t : ℕ = c.args.t in
    let new : Arc = record { from = c.args.arc.now.from; to = (slice_index_or c.transitions.result.now t (trans 0 0 0)).target; accepting = c.accepting.result } in
    extended_is_real A c.args.arc.now new t c.requires.number c.requires.leaves w (search rules)
