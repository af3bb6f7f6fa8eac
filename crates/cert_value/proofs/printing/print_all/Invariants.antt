use Rattle.std.proofs.Common.{◌≡◌, ◌++◌, drop}
use Rattle.cert_value.specs.Printed.{joined}
use Rattle.cert_value.proofs.printing.print_all.Given as goal

abbrev pub invariant-loop-item : goal.invariant-loop-item
invariant-loop-item g l =
    l.out ++ joined (g.T.Print.printed l.version) (drop l.item-index l.items)
    ≡ l.fn.out ++ joined (g.T.Print.printed l.version) l.items
