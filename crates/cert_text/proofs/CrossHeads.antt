-- The heading of cross relations is their first line.
use Rattle.std.proofs.Common.{◌≡◌, [], ◌∷◌, ◌++◌, Option, Some, None, is_none, if◌then◌else◌, Ok, Err, refl, sym, ap}
use Rattle.cert_line.specs.declared.faults.TextKind.{TextKind}
use Rattle.cert_line.specs.declared.faults.TextKind.TheVariants.{Header}
use Rattle.cert_line.specs.declared.shapes.Tail.TheVariants as tail
use Rattle.cert_value.specs.Text.{Line, sizes_line, block_lines, end_line}
use Rattle.cert_line.specs.Shapes.{line_fault}
use Rattle.cert_line.specs.Lines.{Said}
use Rattle.cert_line.proofs.ShapeFacts.{line_back, closed_none}
use Rattle.cert_text.specs.declared.cross.Cross.{Cross}
use Rattle.cert_text.specs.CrossText.{CrossFormed, block_of, heading_line, look_line, cross_lines}
use Rattle.cert_text.specs.CrossGrammar.{cross_heading_places, cross_heading_in}
use Rattle.cert_text.proofs.HeaderLemmas.{IsHead}

-- A line that is taken has no fault, and one with a fault is no heading.
no_fault : {A : Type 0} (o : Option TextKind) (a b : A) → ◌≡◌ {A = Said A} (if is_none o then Ok a else Err Header) (Ok b) → o ≡ None
no_fault None a b e = refl
no_fault (Some fault) a b e = absurd (cc)

said_refuses : {A : Type 0} (o : Option TextKind) (a : A) (kind : TextKind) → ◌≡◌ {A = Said A} (if is_none o then Ok a else Err Header) (Err kind) → kind ≡ Header
said_refuses None a kind e = absurd (cc)
said_refuses (Some fault) a kind e = cc

-- The empty relation.
abbrev empty_cross : Cross
empty_cross = record { first_states = 0; second_states = 0; labels = 0; look = 0; rows = [] }

pub cross_heads : (line : Line) (u : Unit {0}) → cross_heading_in line ≡ Ok u → IsHead CrossFormed cross_lines line
cross_heads line u e =
    let fault = line_fault cross_heading_places tail.Nothing line in
    let same : line ≡ heading_line = closed_none cross_heading_places line (line_back cross_heading_places tail.Nothing line (no_fault fault tt u e)) in
    let more = sizes_line 0 0 0 ∷ look_line 0 ∷ (block_lines 1 (block_of empty_cross) ++ end_line ∷ []) in
    (empty_cross, more, refl, ap (λ l. l ∷ more) (sym same))

pub cross_heading_refuses : (line : Line) (kind : TextKind) → cross_heading_in line ≡ Err kind → kind ≡ Header
cross_heading_refuses line kind e = said_refuses (line_fault cross_heading_places tail.Nothing line) tt kind e
