-- Which proofs have a text, and the text.
use Rattle.std.specs.Prelude.{ℕ, List, [], ◌∷◌, ◌++◌, length, Bool, true, false, ◌&&◌, IsTrue}
use Rattle.std.specs.List.{list_all}
use Rattle.auto_core.specs.declared.parts.Mode.TheVariants as mode
use Rattle.auto_core.specs.declared.parts.Lasso.{Lasso}
use Rattle.cert_value.specs.declared.keywords.Keyword.{Keyword}
use Rattle.cert_value.specs.declared.keywords.Keyword.TheVariants as keyword
use Rattle.cert_value.specs.Text.{Line, spelled, numbers, sizes_line, first_lines, second_lines, block_lines, rank_block_lines, closed_lines, end_line, text_of}
use Rattle.cert_value.specs.WellFormed.{is_short, are_short, are_kept, is_first_step, is_second_step, is_block, is_rank_block, is_element, are_steps, is_lasso}
use Rattle.cert_value.specs.declared.types.FirstStep.{FirstStep}
use Rattle.cert_value.specs.declared.types.SecondStep.{SecondStep}
use Rattle.cert_value.specs.declared.types.YesBody.{YesBody}
use Rattle.cert_text.specs.declared.parts.Closed.{Closed}
use Rattle.proof_text.specs.declared.types.Proof.{Proof}
use Rattle.proof_text.specs.declared.types.ProofForm.{ProofForm}
use Rattle.proof_text.specs.declared.types.ProofForm.TheVariants as form
use Rattle.proof_text.specs.declared.types.ProofBody.{ProofBody}
use Rattle.proof_text.specs.declared.types.ProofBody.TheVariants as body
use Rattle.proof_text.specs.declared.types.Front.{Front}
use Rattle.proof_text.specs.declared.types.Evidence.{Evidence}
use Rattle.proof_text.specs.declared.types.Evidence.TheVariants as evidence

-- The parts before the evidence are of the stated kind and order: the logs as in a certificate of
-- version 2 of a Büchi file, the accepting classes ascending, every number of at most nine digits.
abbrev pub is_front : Front → Bool
is_front f =
    is_short (length f.second)
    && (list_all (is_second_step 2 mode.Buchi) f.second
    && (are_short f.letters
    && (are_short f.map
    && (are_kept f.accepting
    && (is_short (length f.first) && list_all is_first_step f.first)))))

-- The closed list as the body of a yes without a step in its logs.
abbrev pub without_logs : Closed → YesBody
without_logs k = record {
  first = [];
  second = [];
  order = k.order;
  elements = k.elements;
  cover = k.cover;
  steps = k.steps;
}

-- Neither log has a step.
abbrev pub are_no_steps : List FirstStep → List SecondStep → Bool
are_no_steps [] [] = true
are_no_steps firsts seconds = false

-- The same of the logs of a body.
abbrev pub has_no_steps : YesBody → Bool
has_no_steps k = are_no_steps k.first k.second

-- What a closed list of elements is of, as in a certificate of a Büchi file.
abbrev pub is_closed_list : YesBody → Bool
is_closed_list k =
    has_no_steps k
    && (is_block k.order
    && (is_short (length k.elements)
    && (list_all (is_element mode.Buchi) k.elements
    && (are_short k.cover && are_steps 0 k.elements k.steps))))

-- The evidence: pairs are rows with ranks, with no label between.
abbrev pub is_evidence : Evidence → Bool
is_evidence (evidence.Product pairs) = is_rank_block 1 pairs
is_evidence (evidence.Delayed pairs) = is_rank_block 1 pairs
is_evidence (evidence.Closed k) = is_closed_list k

-- What it claims has a text.
abbrev pub is_proof_body : ProofBody → Bool
is_proof_body (body.No lasso) = is_lasso lasso
is_proof_body (body.Yes front e) = is_front front && is_evidence e

-- Whether the proof has a text.
abbrev pub has_proof_text : Proof → Bool
has_proof_text p =
    is_short p.first_states
    && (is_short p.second_states && (is_short p.labels && is_proof_body p.body))

-- It has a text.
abbrev pub ProofFormed : Proof → Type 0
ProofFormed p = IsTrue (has_proof_text p)

-- The form's word in the first line.
abbrev pub proof_form_word : ProofForm → Keyword
proof_form_word (form.No) = keyword.No
proof_form_word (form.Product) = keyword.Product
proof_form_word (form.Delayed) = keyword.Delayed
proof_form_word (form.Closed) = keyword.Closed

-- Which form the evidence has.
abbrev pub form_of_evidence : Evidence → ProofForm
form_of_evidence (evidence.Product pairs) = form.Product
form_of_evidence (evidence.Delayed pairs) = form.Delayed
form_of_evidence (evidence.Closed k) = form.Closed

-- Which form the body has.
abbrev pub proof_form_of : ProofBody → ProofForm
proof_form_of (body.No lasso) = form.No
proof_form_of (body.Yes front e) = form_of_evidence e

-- The first line.
abbrev pub proof_heading : ProofForm → Line
proof_heading f =
    spelled keyword.RabitProof ∷ spelled keyword.One ∷ spelled (proof_form_word f) ∷ []

-- The lines of the class of each label, of the class of each state, and of the accepting classes.
abbrev pub class_lines : List ℕ → List ℕ → List ℕ → List Line
class_lines letters map accepting =
    (spelled keyword.Letters ∷ numbers letters)
    ∷ (spelled keyword.Map ∷ numbers map)
    ∷ (spelled keyword.Accepting ∷ numbers accepting)
    ∷ []

-- The second log comes first, since it says which labels may be one.
abbrev pub front_lines : Front → List Line
front_lines f =
    second_lines 2 f.second ++ (class_lines f.letters f.map f.accepting ++ first_lines 2 f.first)

-- The evidence of inclusion.
abbrev pub evidence_lines : Evidence → List Line
evidence_lines (evidence.Product pairs) = rank_block_lines pairs
evidence_lines (evidence.Delayed pairs) = rank_block_lines pairs
evidence_lines (evidence.Closed k) =
    block_lines 2 k.order ++ closed_lines k.elements k.cover k.steps

-- The lines of a no: its lasso.
abbrev pub no_lines : Lasso → List Line
no_lines lasso =
    (spelled keyword.Prefix ∷ numbers lasso.prefix) ∷ (spelled keyword.Loop ∷ numbers lasso.turn)
    ∷ []

-- What stands between the line of sizes and the last line.
abbrev pub proof_body_lines : ProofBody → List Line
proof_body_lines (body.No lasso) = no_lines lasso
proof_body_lines (body.Yes front e) = front_lines front ++ evidence_lines e

-- All lines of a proof.
abbrev pub proof_lines : Proof → List Line
proof_lines p =
    proof_heading (proof_form_of p.body)
    ∷ sizes_line p.first_states p.second_states p.labels
    ∷ (proof_body_lines p.body ++ end_line ∷ [])

-- The text of a proof.
abbrev pub proof_text : Proof → List ℕ
proof_text p = text_of (proof_lines p)
