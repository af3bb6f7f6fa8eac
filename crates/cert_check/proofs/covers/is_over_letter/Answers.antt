use Rattle.std.proofs.Common.{length, refl}
use Rattle.auto_core.specs.Automaton.{trans_at}
use Rattle.auto_core.specs.Graph.{base_arc}
use Rattle.auto_core.specs.declared.parts.Mode.TheVariants.{Buchi}
use Rattle.cert_check.proofs.SuperLemmas.{supers_grown, order_grown}
use Rattle.cert_check.proofs.covers.is_over_letter.Goals as goal

pub is_over-requires-clause-supers : goal.is_over-requires-clause-supers
is_over-requires-clause-supers c =
    supers_grown Buchi c.args.first.now c.args.second.now c.args.evidence.now.elements (length c.args.evidence.now.elements) c.args.supers.now _ refl refl
    c.in_ok-base.ensures.stock c.in_ok-base.ensures.grown c.requires.supers

pub returns-clause-told : goal.returns-clause-told
returns-clause-told c = c.is_over.ensures.told (base_arc c.args.first.now (trans_at c.args.first.now c.args.t)) c.in_ok-base.ensures.stands

pub returns-clause-supers : goal.returns-clause-supers
returns-clause-supers c =
    supers_grown Buchi c.args.first.now c.args.second.now c.args.evidence.now.elements (length c.args.evidence.now.elements) c.args.supers.now _ refl refl
    c.in_ok-base.ensures.stock c.in_ok-base.ensures.grown c.requires.supers

pub is_over-requires-clause-order : goal.is_over-requires-clause-order
is_over-requires-clause-order c =
    order_grown c.args.second.now c.args.evidence.now c.args.supers.now.graphs.graphs.items c.base.new.graphs.graphs.items c.args.order.now c.in_ok-base.ensures.grown c.requires.order
