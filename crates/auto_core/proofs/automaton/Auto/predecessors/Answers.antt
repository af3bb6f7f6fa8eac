use Rattle.std.proofs.Common.{◌+◌, ◌-◌, ◌<◌, sym, get_or, arith, subst, take, drop}
use Rattle.std.proofs.lemmas.List.{get_or_read}
use Rattle.auto_core.specs.Automaton.{Automaton, IsIncoming}
use Rattle.auto_core.proofs.TableLemmas.{incoming_from_starts}
use Rattle.auto_core.specs.Stored.{automaton_of}
use Rattle.auto_core.proofs.automaton.Auto.predecessors.Goals as goal

pub returns-clause-list : goal.returns-clause-list
returns-clause-list c =
    let starts = c.self.inside.incoming_starts.items in
    let ns = c.self.inside.incoming.items in
    let p = c.args.state in
    let P : Automaton → Type 0 = λ A. p < A.states in
    let p_in : p < c.self.inside.states = subst P (sym c.self.view_is) c.requires in
    let first = get_or_read starts p c.index.result.now (omega (arith, c.self.invariant.incoming_starts.len)) c.index.ensures 0 in
    let last = get_or_read starts (p + 1) c.index-2.result.now (omega (arith, c.self.invariant.incoming_starts.len)) c.index-2.ensures 0 in
    rw (first, last, c.deref.ensures.value)
    (let Q : Automaton → Type 0 = λ A. IsIncoming A p (take (get_or starts (p + 1) 0 - get_or starts p 0) (drop (get_or starts p 0) ns)) in
    subst Q c.self.view_is (incoming_from_starts (automaton_of c.self.inside) ns starts p c.self.invariant.incoming c.self.invariant.incoming_starts p_in).2)
