use Rattle.std.proofs.Common.{IfOk, sym, subst}
use Rattle.auto_core.specs.declared.parts.Mode.{Mode}
use Rattle.cert_check.specs.Supers.{IsLonger}
use Rattle.cert_check.proofs.SuperLemmas.{after_longer}
use Rattle.cert_check.proofs.blocks.longer.Goals as goal

pub returns-in-Buchi : goal.returns-in-Buchi
returns-in-Buchi c =
    subst (λ (m : Mode). IfOk c.after.result (IsLonger m c.args.second.now c.args.graphs.now c.after.new.self c.args.number c.args.label)) (sym c.in-Buchi.is)
    (after_longer c.args.second.now c.args.graphs.now c.after.new.self c.args.number c.args.label c.after.result c.after.ensures.stock c.after.ensures.grown c.after.ensures.is)
