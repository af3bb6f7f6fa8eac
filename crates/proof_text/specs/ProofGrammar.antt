-- How the lines of a proof are read, in the way of certificates: no line is refused for what could
-- not follow it.
use Rattle.std.specs.Prelude.{◌≡◌, ℕ, List, [], ◌∷◌, Bool, Result, Ok, Err, is_none, if◌then◌else◌}
use Rattle.auto_core.specs.declared.parts.Mode.TheVariants as mode
use Rattle.cert_value.specs.declared.keywords.Keyword.TheVariants as keyword
use Rattle.cert_value.specs.declared.types.FirstStep.{FirstStep}
use Rattle.cert_value.specs.declared.types.SecondStep.{SecondStep}
use Rattle.cert_value.specs.Text.{Line}
use Rattle.cert_line.specs.declared.shapes.Place.{Place}
use Rattle.cert_line.specs.declared.shapes.Place.TheVariants.{Word}
use Rattle.cert_line.specs.declared.shapes.Tail.TheVariants as tail
use Rattle.cert_line.specs.declared.faults.TextKind.TheVariants as kind
use Rattle.cert_line.specs.declared.lines.Sizes.{Sizes}
use Rattle.cert_line.specs.Shapes.{line_fault}
use Rattle.cert_line.specs.Lines.{Said, numbers_in, ascending_in, sizes_in}
use Rattle.cert_text.specs.declared.faults.TextFault.{TextFault}
use Rattle.cert_text.specs.Grammar.{LinesOutcome, On, next_line, read_rank_block, read_closed, read_first_log, read_second_log, read_lasso, read_end, reading_by}
use Rattle.proof_text.specs.declared.types.Proof.{Proof}
use Rattle.proof_text.specs.declared.types.ProofForm.{ProofForm}
use Rattle.proof_text.specs.declared.types.ProofForm.TheVariants as form
use Rattle.proof_text.specs.declared.types.ProofBody.{ProofBody}
use Rattle.proof_text.specs.declared.types.ProofBody.TheVariants as body
use Rattle.proof_text.specs.declared.types.Front.{Front}
use Rattle.proof_text.specs.declared.types.Evidence.TheVariants as evidence
use Rattle.proof_text.specs.ProofText.{proof_form_word, without_logs}

-- The places of the first line.
abbrev pub proof_heading_places : ProofForm → List Place
proof_heading_places f =
    Word keyword.RabitProof ∷ Word keyword.One ∷ Word (proof_form_word f) ∷ []

-- Whether the line is the first line of a proof of this form.
abbrev pub is_proof_heading : ProofForm → Line → Bool
is_proof_heading f tokens = is_none (line_fault (proof_heading_places f) tail.Nothing tokens)

-- The first line has one of four headings.
abbrev pub proof_heading_in : Line → Said ProofForm
proof_heading_in tokens =
    if is_proof_heading form.No tokens then Ok form.No
    else (if is_proof_heading form.Product tokens then Ok form.Product
    else (if is_proof_heading form.Delayed tokens then Ok form.Delayed
    else (if is_proof_heading form.Closed tokens then Ok form.Closed else Err kind.Header)))

-- The parts before the evidence, one after another.
abbrev pub front_of : List SecondStep → List ℕ → List ℕ → List ℕ → List FirstStep → Front
front_of seconds letters map accepting firsts = record {
  second = seconds;
  letters = letters;
  map = map;
  accepting = accepting;
  first = firsts;
}

-- What follows the accepting classes: the first log.
abbrev pub read_front_end : {C : Type 0} → List SecondStep → List ℕ → List ℕ → List ℕ → On C Front
    → List Line → LinesOutcome C
read_front_end seconds letters map accepting next =
    read_first_log 2 (λ firsts. next (front_of seconds letters map accepting firsts))

-- What follows the classes of the states: the accepting classes.
abbrev pub read_accepting : {C : Type 0} → List SecondStep → List ℕ → List ℕ → On C Front
    → List Line → LinesOutcome C
read_accepting seconds letters map next =
    next_line (ascending_in keyword.Accepting tail.Numbers)
    (λ accepting. read_front_end seconds letters map accepting next)

-- What follows the classes of the labels: the classes of the states.
abbrev pub read_map : {C : Type 0} → List SecondStep → List ℕ → On C Front → List Line
    → LinesOutcome C
read_map seconds letters next =
    next_line (numbers_in keyword.Map tail.Numbers)
    (λ map. read_accepting seconds letters map next)

-- What follows the second log: the classes of the labels.
abbrev pub read_letters : {C : Type 0} → List SecondStep → On C Front → List Line → LinesOutcome C
read_letters seconds next =
    next_line (numbers_in keyword.Letters tail.Numbers) (λ letters. read_map seconds letters next)

-- What stands before the evidence of inclusion.
abbrev pub read_front : {C : Type 0} → On C Front → List Line → LinesOutcome C
read_front next = read_second_log 2 mode.Buchi (λ seconds. read_letters seconds next)

-- Inclusion by a product.
abbrev pub read_product : {C : Type 0} → On C ProofBody → List Line → LinesOutcome C
read_product next =
    read_front (λ front.
    read_rank_block 1 (λ pairs. next (body.Yes front (evidence.Product pairs))))

-- Inclusion by a delayed simulation across.
abbrev pub read_delayed : {C : Type 0} → On C ProofBody → List Line → LinesOutcome C
read_delayed next =
    read_front (λ front.
    read_rank_block 1 (λ pairs. next (body.Yes front (evidence.Delayed pairs))))

-- Inclusion by a closed list of elements.
abbrev pub read_closed_list : {C : Type 0} → On C ProofBody → List Line → LinesOutcome C
read_closed_list next =
    read_front (λ front.
    read_closed 2 mode.Buchi (λ closed. next (body.Yes front (evidence.Closed (without_logs closed)))))

-- The lines between the line of sizes and the last line.
abbrev pub read_proof_body : {C : Type 0} → ProofForm → On C ProofBody → List Line → LinesOutcome C
read_proof_body (form.No) next = read_lasso (λ lasso. next (body.No lasso))
read_proof_body (form.Product) next = read_product next
read_proof_body (form.Delayed) next = read_delayed next
read_proof_body (form.Closed) next = read_closed_list next

-- The proof of these parts.
abbrev pub proof_of : Sizes → ProofBody → Proof
proof_of sizes b = record {
  first_states = sizes.first_states;
  second_states = sizes.second_states;
  labels = sizes.labels;
  body = b;
}

-- What follows the line of sizes.
abbrev pub read_after_sizes : ProofForm → Sizes → List Line → LinesOutcome Proof
read_after_sizes f sizes = read_proof_body f (λ b. read_end (proof_of sizes b))

-- What follows the first line.
abbrev pub read_proof_sizes : ProofForm → List Line → LinesOutcome Proof
read_proof_sizes f = next_line sizes_in (read_after_sizes f)

-- A whole text.
abbrev pub read_proof : List Line → LinesOutcome Proof
read_proof = next_line proof_heading_in read_proof_sizes

-- What the bytes are: a proof's text, or where they first begin none, and why.
abbrev pub proof_reading : List ℕ → Result Proof TextFault
proof_reading bytes = reading_by read_proof bytes

-- The bytes are no proof's text, and this is their first fault.
abbrev pub FirstProofFault : List ℕ → TextFault → Type 0
FirstProofFault bytes fault = proof_reading bytes ≡ Err fault
