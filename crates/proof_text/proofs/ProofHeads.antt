-- The headings of proofs are their first lines.
use Rattle.std.proofs.Common.{◌≡◌, [], ◌∷◌, ◌++◌, Bool, true, false, if◌then◌else◌, Ok, Err, refl, sym, ap, ◌∙◌}
use Rattle.cert_line.specs.declared.faults.TextKind.{TextKind}
use Rattle.cert_line.specs.declared.faults.TextKind.TheVariants.{Header}
use Rattle.cert_value.specs.Text.{Line, sizes_line, end_line}
use Rattle.cert_line.specs.Lines.{Said}
use Rattle.cert_text.proofs.HeaderLemmas.{IsHead}
use Rattle.proof_text.specs.declared.types.Proof.{Proof}
use Rattle.proof_text.specs.declared.types.ProofForm.{ProofForm}
use Rattle.proof_text.specs.declared.types.ProofForm.TheVariants as form
use Rattle.proof_text.specs.declared.types.ProofBody.{ProofBody}
use Rattle.proof_text.specs.declared.types.ProofBody.TheVariants as body
use Rattle.proof_text.specs.declared.types.Front.{Front}
use Rattle.proof_text.specs.declared.types.Evidence.TheVariants as evidence
use Rattle.proof_text.specs.ProofText.{ProofFormed, is_proof_body, proof_form_of, proof_heading, proof_body_lines, proof_lines}
use Rattle.proof_text.specs.ProofGrammar.{is_proof_heading, proof_heading_in}
use Rattle.proof_text.proofs.ProofTextLemmas.{heading_bw}

-- A body of each form, and a proof with it.
abbrev bare_front : Front
bare_front = record { second = []; letters = []; map = []; accepting = []; first = [] }

abbrev body_for : ProofForm → ProofBody
body_for (form.No) = body.No (record { prefix = []; turn = 0 ∷ [] })
body_for (form.Product) = body.Yes bare_front (evidence.Product (record { rows = [] }))
body_for (form.Delayed) = body.Yes bare_front (evidence.Delayed (record { rows = [] }))
body_for (form.Closed) = body.Yes bare_front (evidence.Closed (record { first = []; second = []; order = record { rows = [] }; elements = []; cover = []; steps = [] }))

abbrev small : ProofForm → Proof
small f = record { first_states = 0; second_states = 0; labels = 0; body = body_for f }

body_is : (f : ProofForm) → (is_proof_body (body_for f) ≡ true) × (proof_form_of (body_for f) ≡ f)
body_is (form.No) = (refl, refl)
body_is (form.Product) = (refl, refl)
body_is (form.Delayed) = (refl, refl)
body_is (form.Closed) = (refl, refl)

pub proof_heads : (line : Line) (f : ProofForm) → proof_heading_in line ≡ Ok f → IsHead ProofFormed proof_lines line
proof_heads line f e =
    let b = body_is f in
    let p = small f in
    let first : line ≡ proof_heading (proof_form_of p.body) = heading_bw line f e ∙ ap proof_heading (sym b.1) in
    let more = sizes_line 0 0 0 ∷ (proof_body_lines p.body ++ end_line ∷ []) in
    (p, more, b.0, ap (λ l. l ∷ more) (sym first))

-- A line that is none of the four is refused as a heading.
if_refuses : (b : Bool) (f : ProofForm) (other : Said ProofForm) (kind : TextKind) → (if b then Ok f else other) ≡ Err kind → other ≡ Err kind
if_refuses true f other kind e = absurd (cc)
if_refuses false f other kind e = e

pub proof_heading_refuses : (line : Line) (kind : TextKind) → proof_heading_in line ≡ Err kind → kind ≡ Header
proof_heading_refuses line kind e =
    let last =
    if_refuses (is_proof_heading form.Closed line) form.Closed (Err Header) kind
    (if_refuses (is_proof_heading form.Delayed line) form.Delayed _ kind
    (if_refuses (is_proof_heading form.Product line) form.Product _ kind (if_refuses (is_proof_heading form.No line) form.No _ kind e))) in
    cc
