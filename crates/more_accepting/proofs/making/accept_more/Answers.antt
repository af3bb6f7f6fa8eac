use Rattle.std.proofs.Common.{List, subst}
use Rattle.std.proofs.lemmas.Result.{IfOk-weaker}
use Rattle.auto_core.specs.declared.parts.Trans.{Trans}
use Rattle.more_accepting.specs.Making.{HasParts}
use Rattle.more_accepting.specs.More.{IsMoreAccepting}
use Rattle.more_accepting.proofs.PartLemmas.{more_from}
use Rattle.more_accepting.proofs.making.accept_more.Goals as goal

pub returns : goal.returns
returns c =
    let A = c.args.automaton.now in
    let g = c.in_ok-accepting.accepting in
    IfOk-weaker c.with_parts.result (HasParts A c.transitions.result.now g.set.members) (IsMoreAccepting A)
    (λ B built. let P : List Trans → Type 0 = λ ts. HasParts A ts g.set.members B in more_from A B g.set.members c.in_ok-accepting.ensures.members (subst P c.transitions.ensures.list built))
    c.with_parts.ensures
