-- The names of the kinds of faults.
use Rattle.std.specs.Prelude.{ℕ, List, codes}
use Rattle.cert_line.specs.declared.faults.TextKind.{TextKind}
use Rattle.cert_line.specs.declared.faults.TextKind.TheVariants as kind

-- The name of a fault of a certificate's or a cross relation's text.
abbrev pub text_kind_name : TextKind → List ℕ
text_kind_name (kind.Header) = codes "Header"
text_kind_name (kind.Number) = codes "Number"
text_kind_name (kind.Shape) = codes "Shape"
text_kind_name (kind.Order) = codes "Order"
text_kind_name (kind.Truncated) = codes "Truncated"
text_kind_name (kind.Trailing) = codes "Trailing"
