use Rattle.std.proofs.Common.{◌+◌, ◌<◌, sym, get_or, arith, subst}
use Rattle.std.proofs.lemmas.List.{get_or_read}
use Rattle.auto_core.specs.Automaton.{Automaton, IsOutgoing}
use Rattle.auto_core.proofs.TableLemmas.{outgoing_from_starts}
use Rattle.auto_core.specs.Stored.{automaton_of}
use Rattle.auto_core.proofs.automaton.Auto.outgoing.Goals as goal

pub returns-clause-range : goal.returns-clause-range
returns-clause-range c =
    let starts = c.self.inside.starts.items in
    let p = c.args.state in
    let P : Automaton → Type 0 = λ A. p < A.states in
    let p_in : p < c.self.inside.states = subst P (sym c.self.view_is) c.requires in
    let first = get_or_read starts p c.index.result.now (omega (arith, c.self.invariant.starts.len)) c.index.ensures 0 in
    let last = get_or_read starts (p + 1) c.index-2.result.now (omega (arith, c.self.invariant.starts.len)) c.index-2.ensures 0 in
    rw (first, last)
    (let Q : Automaton → Type 0 = λ A. IsOutgoing A p (get_or starts p 0) (get_or starts (p + 1) 0) in
    subst Q c.self.view_is (outgoing_from_starts (automaton_of c.self.inside) starts p c.self.invariant.starts p_in))
