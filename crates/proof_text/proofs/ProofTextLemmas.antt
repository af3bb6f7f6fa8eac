-- The text of a proof is read as it, and nothing else is.
use Rattle.std.proofs.Common.{◌≡◌, ℕ, List, [], ◌∷◌, ◌++◌, length, Bool, true, false, decimal, if◌then◌else◌, Ok, Err, refl, sym, ap, ap₂, subst, ◌∙◌, append_assoc, append-nil}
use Rattle.std.specs.List.{list_all}
use Rattle.std.proofs.lemmas.Bool.{and_parts, and_from, false≢true}
use Rattle.cert_value.specs.declared.types.FirstStep.{FirstStep}
use Rattle.cert_value.specs.declared.types.SecondStep.{SecondStep}
use Rattle.cert_value.specs.declared.types.YesBody.{YesBody}
use Rattle.std.proofs.Common.{⊎_elim, inl, inr, ◌⊎◌}
use Rattle.auto_core.specs.declared.parts.Mode.TheVariants as mode
use Rattle.cert_value.specs.declared.keywords.Keyword.TheVariants as keyword
use Rattle.cert_value.specs.Text.{Line, spelled, numbers, sizes_line, first_lines, second_lines, block_lines, rank_block_lines, closed_lines, end_line, text_of, line_text}
use Rattle.cert_value.specs.WellFormed.{is_short, are_short, are_kept, ascend, has_some, is_first_step, is_second_step, is_block, is_rank_block, is_element}
use Rattle.cert_line.specs.declared.shapes.Tail.TheVariants as tail
use Rattle.cert_line.specs.declared.faults.TextKind.TheVariants as kind
use Rattle.cert_line.specs.declared.lines.Sizes.{Sizes}
use Rattle.cert_line.specs.Shapes.{line_fault}
use Rattle.cert_line.specs.Lines.{Said, word_in, numbers_in, ascending_in, sizes_in}
use Rattle.cert_value.proofs.TextLemmas.{text_append}
use Rattle.cert_line.proofs.PairLemmas.{some_cons}
use Rattle.cert_line.proofs.ShapeFacts.{line_back, closed_none}
use Rattle.cert_line.proofs.OriginFacts.{none_from}
use Rattle.cert_line.proofs.LineFacts.{word_fw, word_bw, numbers_fw, numbers_bw, sorted_fw, sorted_bw, sizes_fw, sizes_bw}
use Rattle.cert_text.specs.Grammar.{On, Read, read_rank_block, read_closed, read_end, finish, lines_of}
use Rattle.cert_text.proofs.BytesLines.{PlainLines, plain, spelled_plain, lines_text, text_back}
use Rattle.cert_text.proofs.PlainCert.{word_line, number_then, two_words, plain_append, plain_numbers, plain_rank_block, plain_closed, plain_first_log, plain_second_log}
use Rattle.cert_text.proofs.Forward.{line_fw, some_append, rank_block_fw, closed_fw, first_log_fw, second_log_fw, lasso_fw}
use Rattle.cert_text.proofs.Backward.{Took, line_bw, rank_block_bw, closed_bw, first_log_bw, second_log_bw, lasso_bw, finish_bw}
use Rattle.cert_text.proofs.Reading.{read_by, told_inv}
use Rattle.cert_text.proofs.Theorem.{some_lines}
use Rattle.proof_text.specs.declared.types.Proof.{Proof}
use Rattle.proof_text.specs.declared.types.ProofForm.{ProofForm}
use Rattle.proof_text.specs.declared.types.ProofForm.TheVariants as form
use Rattle.proof_text.specs.declared.types.ProofBody.{ProofBody}
use Rattle.proof_text.specs.declared.types.ProofBody.TheVariants as body
use Rattle.proof_text.specs.declared.types.Front.{Front}
use Rattle.proof_text.specs.declared.types.Evidence.{Evidence}
use Rattle.proof_text.specs.declared.types.Evidence.TheVariants as evidence
use Rattle.proof_text.specs.ProofText.{is_front, without_logs, are_no_steps, has_no_steps, is_closed_list, is_evidence, is_proof_body, has_proof_text, proof_form_word, proof_form_of, proof_heading, class_lines, front_lines, evidence_lines, proof_body_lines, proof_lines, proof_text}
use Rattle.proof_text.specs.ProofGrammar.{proof_heading_places, is_proof_heading, proof_heading_in, front_of, read_front_end, read_accepting, read_map, read_letters, read_front, read_proof_body, proof_of, read_after_sizes, read_proof_sizes, read_proof, proof_reading}
use Rattle.proof_text.specs.ProofLaw.{OneProofText}

-- All lines of a proof are plain.
plain_classes : (letters map accepting : List ℕ) → PlainLines (class_lines letters map accepting)
plain_classes letters map accepting =
    (plain_numbers keyword.Letters letters, (plain_numbers keyword.Map map, (plain_numbers keyword.Accepting accepting, tt)))

plain_front : (f : Front) → PlainLines (front_lines f)
plain_front f =
    plain_append (second_lines 2 f.second) (class_lines f.letters f.map f.accepting ++ first_lines 2 f.first) (plain_second_log 2 f.second)
    (plain_append (class_lines f.letters f.map f.accepting) (first_lines 2 f.first) (plain_classes f.letters f.map f.accepting) (plain_first_log 2 f.first))

plain_evidence : (e : Evidence) → PlainLines (evidence_lines e)
plain_evidence (evidence.Product pairs) = plain_rank_block pairs
plain_evidence (evidence.Delayed pairs) = plain_rank_block pairs
plain_evidence (evidence.Closed k) = plain_closed 2 k.order k.elements k.cover k.steps

plain_body : (b : ProofBody) → PlainLines (proof_body_lines b)
plain_body (body.No lasso) = (plain_numbers keyword.Prefix lasso.prefix, (plain_numbers keyword.Loop lasso.turn, tt))
plain_body (body.Yes f e) = plain_append (front_lines f) (evidence_lines e) (plain_front f) (plain_evidence e)

pub plain_proof : (p : Proof) → PlainLines (proof_lines p)
plain_proof p =
    let w = proof_form_word (proof_form_of p.body) in (
      two_words keyword.RabitProof keyword.One (spelled w ∷ []) (and_from (plain (spelled w)) true (spelled_plain w) refl),
      (
        word_line keyword.Sizes (decimal p.first_states ∷ decimal p.second_states ∷ decimal p.labels ∷ [])
            (number_then p.first_states (decimal p.second_states ∷ decimal p.labels ∷ [])
            (number_then p.second_states (decimal p.labels ∷ []) (number_then p.labels [] refl))),
        plain_append (proof_body_lines p.body) (end_line ∷ []) (plain_body p.body) (word_line keyword.End [] refl, tt),
      ),
    )

-- The first line.
heading_fw : (f : ProofForm) → proof_heading_in (proof_heading f) ≡ Ok f
unfolding spelled
heading_fw (form.No) = refl
heading_fw (form.Product) = refl
heading_fw (form.Delayed) = refl
heading_fw (form.Closed) = refl

-- One of two headings.
one_of : (b : Bool) (f g : ProofForm) (other : Said ProofForm) → (if b then Ok f else other) ≡ Ok g → ((b ≡ true) × (f ≡ g)) ⊎ (other ≡ Ok g)
one_of true f g other e = inl (refl, cc)
one_of false f g other e = inr e

is_this : (f g : ProofForm) (ts : Line) → (is_proof_heading f ts ≡ true) × (f ≡ g) → ts ≡ proof_heading g
is_this f g ts p =
    let ps = proof_heading_places f in
    closed_none ps ts (line_back ps tail.Nothing ts (none_from (line_fault ps tail.Nothing ts) p.0)) ∙ ap proof_heading p.1

pub heading_bw : (ts : Line) (f : ProofForm) → proof_heading_in ts ≡ Ok f → ts ≡ proof_heading f
heading_bw ts f e =
    ⊎_elim (is_this form.No f ts) (λ more.
    ⊎_elim (is_this form.Product f ts) (λ further.
    ⊎_elim (is_this form.Delayed f ts) (λ last.
    ⊎_elim (is_this form.Closed f ts) (λ none. absurd (cc)) (one_of (is_proof_heading form.Closed ts) form.Closed f (Err kind.Header) last))
    (one_of (is_proof_heading form.Delayed ts) form.Delayed f _ further))
    (one_of (is_proof_heading form.Product ts) form.Product f _ more))
    (one_of (is_proof_heading form.No ts) form.No f _ e)

-- What stands before the evidence is read as it.
front_fw : {C : Type 0} (f : Front) (next : On C Front) (rest : List Line) → is_front f ≡ true → has_some rest ≡ true
    → read_front next (front_lines f ++ rest) ≡ next f rest
front_fw f next rest e h =
    let a = and_parts (is_short (length f.second)) _ e in
    let b = and_parts (list_all (is_second_step 2 mode.Buchi) f.second) _ a.1 in
    let c = and_parts (are_short f.letters) _ b.1 in
    let d = and_parts (are_short f.map) _ c.1 in
    let k = and_parts (are_kept f.accepting) _ d.1 in
    let kept = and_parts (are_short f.accepting) (ascend f.accepting) k.0 in
    let l = and_parts (is_short (length f.first)) (list_all is_first_step f.first) k.1 in
    let letters_line = spelled keyword.Letters ∷ numbers f.letters in
    let map_line = spelled keyword.Map ∷ numbers f.map in
    let accepting_line = spelled keyword.Accepting ∷ numbers f.accepting in
    let F = first_lines 2 f.first in
    let end = F ++ rest in
    let some_end = some_append F rest h in
    let after_letters = map_line ∷ accepting_line ∷ end in
    ap (λ ls. read_front next ls) (append_assoc (second_lines 2 f.second) (class_lines f.letters f.map f.accepting ++ F) rest)
    ∙ second_log_fw 2 mode.Buchi f.second (λ seconds. read_letters seconds next) (letters_line ∷ after_letters) a.0 b.0 (some_cons letters_line after_letters)
    ∙ line_fw (numbers_in keyword.Letters tail.Numbers) (λ letters. read_map f.second letters next) letters_line f.letters after_letters
    (numbers_fw keyword.Letters tail.Numbers f.letters c.0 refl) (some_cons map_line (accepting_line ∷ end))
    ∙ line_fw (numbers_in keyword.Map tail.Numbers) (λ map. read_accepting f.second f.letters map next) map_line f.map (accepting_line ∷ end)
    (numbers_fw keyword.Map tail.Numbers f.map d.0 refl) (some_cons accepting_line end)
    ∙ line_fw (ascending_in keyword.Accepting tail.Numbers) (λ accepting. read_front_end f.second f.letters f.map accepting next) accepting_line f.accepting end
    (sorted_fw keyword.Accepting tail.Numbers (λ ns. ns) f.accepting kept.0 kept.1 refl) some_end
    ∙ first_log_fw 2 f.first (λ firsts. next (front_of f.second f.letters f.map f.accepting firsts)) rest l.0 l.1 h

-- A list without steps in its logs is what its parts make.
bare_list : (k : YesBody) → has_no_steps k ≡ true → without_logs (record { order = k.order; elements = k.elements; cover = k.cover; steps = k.steps }) ≡ k
bare_list k bare = go k.first k.second refl refl
  where
    go : (firsts : List FirstStep) (seconds : List SecondStep) → k.first ≡ firsts → k.second ≡ seconds
        → without_logs (record { order = k.order; elements = k.elements; cover = k.cover; steps = k.steps }) ≡ k
    go [] [] p q = ap₂ (λ f s. record { first = f; second = s; order = k.order; elements = k.elements; cover = k.cover; steps = k.steps }) (sym p) (sym q)
    go (x ∷ xs) seconds p q = absurd (false≢true (subst (λ f. are_no_steps f k.second ≡ true) p bare))
    go [] (x ∷ xs) p q = absurd (false≢true (subst (λ s. are_no_steps [] s ≡ true) q (subst (λ f. are_no_steps f k.second ≡ true) p bare)))

-- What it claims is read as it.
yes_fw : {C : Type 0} (f : Front) (e : Evidence) (next : On C ProofBody) (rest : List Line) → is_front f ≡ true → is_evidence e ≡ true → has_some rest ≡ true
    → read_proof_body (proof_form_of (body.Yes f e)) next ((front_lines f ++ evidence_lines e) ++ rest) ≡ next (body.Yes f e) rest
yes_fw f (evidence.Product pairs) next rest a b h =
    let k : On _ Front = λ front. read_rank_block 1 (λ pairs. next (body.Yes front (evidence.Product pairs))) in
    ap (λ ls. read_front k ls) (append_assoc (front_lines f) (rank_block_lines pairs) rest)
    ∙ front_fw f k (rank_block_lines pairs ++ rest) a (some_append (rank_block_lines pairs) rest h)
    ∙ rank_block_fw 1 pairs (λ pairs. next (body.Yes f (evidence.Product pairs))) rest b h
yes_fw f (evidence.Delayed pairs) next rest a b h =
    let k : On _ Front = λ front. read_rank_block 1 (λ pairs. next (body.Yes front (evidence.Delayed pairs))) in
    ap (λ ls. read_front k ls) (append_assoc (front_lines f) (rank_block_lines pairs) rest)
    ∙ front_fw f k (rank_block_lines pairs ++ rest) a (some_append (rank_block_lines pairs) rest h)
    ∙ rank_block_fw 1 pairs (λ pairs. next (body.Yes f (evidence.Delayed pairs))) rest b h
yes_fw f (evidence.Closed k) next rest a b h =
    let bare = and_parts (has_no_steps k) _ b in
    let c = and_parts (is_block k.order) _ bare.1 in
    let d = and_parts (is_short (length k.elements)) _ c.1 in
    let g = and_parts (list_all (is_element mode.Buchi) k.elements) _ d.1 in
    let l = and_parts (are_short k.cover) _ g.1 in
    let next_part : On _ Front = λ front. read_closed 2 mode.Buchi (λ closed. next (body.Yes front (evidence.Closed (without_logs closed)))) in
    let O = block_lines 2 k.order in
    let L = closed_lines k.elements k.cover k.steps in
    ap (λ ls. read_front next_part ls) (append_assoc (front_lines f) (O ++ L) rest ∙ ap (λ ls. front_lines f ++ ls) (append_assoc O L rest))
    ∙ front_fw f next_part (O ++ (L ++ rest)) a (some_append O (L ++ rest) (some_append L rest h))
    ∙ closed_fw 2 mode.Buchi k.order k.elements k.cover k.steps (λ closed. next (body.Yes f (evidence.Closed (without_logs closed)))) rest c.0 d.0 g.0 l.0 l.1 h
    ∙ ap (λ y. next (body.Yes f (evidence.Closed y)) rest) (bare_list k bare.0)

body_fw : {C : Type 0} (b : ProofBody) (next : On C ProofBody) (rest : List Line) → is_proof_body b ≡ true → has_some rest ≡ true
    → read_proof_body (proof_form_of b) next (proof_body_lines b ++ rest) ≡ next b rest
body_fw (body.No lasso) next rest e h = lasso_fw lasso (λ lasso. next (body.No lasso)) rest e h
body_fw (body.Yes f e) next rest k h =
    let a = and_parts (is_front f) (is_evidence e) k in
    yes_fw f e next rest a.0 a.1 h

-- The lines of a proof are read as it, whatever follows.
proof_fw : (p : Proof) (rest : List Line) → has_proof_text p ≡ true → has_some rest ≡ true → read_proof (proof_lines p ++ rest) ≡ finish p rest
proof_fw p rest e h =
    let a = and_parts (is_short p.first_states) _ e in
    let b = and_parts (is_short p.second_states) _ a.1 in
    let d = and_parts (is_short p.labels) _ b.1 in
    let f = proof_form_of p.body in
    let sizes : Sizes = record { first_states = p.first_states; second_states = p.second_states; labels = p.labels } in
    let s = sizes_line p.first_states p.second_states p.labels in
    let B = proof_body_lines p.body in
    let the_end = end_line ∷ rest in
    line_fw proof_heading_in read_proof_sizes (proof_heading f) f (s ∷ ((B ++ end_line ∷ []) ++ rest)) (heading_fw f) (some_cons s ((B ++ end_line ∷ []) ++ rest))
    ∙ ap (λ ls. read_proof_sizes f (s ∷ ls)) (append_assoc B (end_line ∷ []) rest)
    ∙ line_fw sizes_in (read_after_sizes f) s sizes (B ++ the_end) (sizes_fw p.first_states p.second_states p.labels a.0 b.0 d.0) (some_append B the_end (some_cons end_line rest))
    ∙ body_fw p.body (λ b. read_end (proof_of sizes b)) the_end d.1 (some_cons end_line rest)
    ∙ line_fw (word_in keyword.End) (λ u. finish p) end_line tt rest (word_fw keyword.End) h

-- Lines that are read as what stands before the evidence.
abbrev IsFront : Front → Type 0
IsFront f = is_front f ≡ true

front_bw : {C : Type 0} (next : On C Front) (ls : List Line) (c : C) → read_front next ls ≡ Read c → Took IsFront front_lines next ls c
front_bw next ls c e =
    let s = second_log_bw 2 mode.Buchi (λ seconds. read_letters seconds next) ls c e in
    let l = line_bw (numbers_in keyword.Letters tail.Numbers) (λ letters. read_map s.item letters next) s.rest c s.on in
    let lf = numbers_bw keyword.Letters tail.Numbers l.line l.item l.told in
    let m = line_bw (numbers_in keyword.Map tail.Numbers) (λ map. read_accepting s.item l.item map next) l.rest c l.on in
    let mf = numbers_bw keyword.Map tail.Numbers m.line m.item m.told in
    let a = line_bw (ascending_in keyword.Accepting tail.Numbers) (λ accepting. read_front_end s.item l.item m.item accepting next) m.rest c m.on in
    let af = sorted_bw keyword.Accepting tail.Numbers (λ ns. ns) a.line a.item a.told in
    let same : af.0 ≡ a.item = af.5 in
    let short : are_short a.item ≡ true = ap are_short (sym same) ∙ af.1 in
    let up : ascend a.item ≡ true = ap ascend (sym same) ∙ af.2 in
    let f = first_log_bw 2 (λ firsts. next (front_of s.item l.item m.item a.item firsts)) a.rest c a.on in
    let letters_line = spelled keyword.Letters ∷ numbers l.item in
    let map_line = spelled keyword.Map ∷ numbers m.item in
    let accepting_line = spelled keyword.Accepting ∷ numbers a.item in
    let S = second_lines 2 s.item in
    let K = class_lines l.item m.item a.item in
    let F = first_lines 2 f.item in
    let after_second : s.rest ≡ (K ++ F) ++ f.rest =
    l.cut ∙ ap (λ x. x ∷ l.rest) lf.2
    ∙ ap (λ y. letters_line ∷ y) (m.cut ∙ ap (λ x. x ∷ m.rest) mf.2
    ∙ ap (λ y. map_line ∷ y) (a.cut ∙ ap (λ x. x ∷ a.rest) (af.4 ∙ ap (λ ns. spelled keyword.Accepting ∷ numbers ns) same) ∙ ap (λ y. accepting_line ∷ y) f.cut)) in
    record {
      item = front_of s.item l.item m.item a.item f.item;
      rest = f.rest;
      fine = and_from (is_short (length s.item)) _ s.fine.0
          (and_from (list_all (is_second_step 2 mode.Buchi) s.item) _ s.fine.1
          (and_from (are_short l.item) _ lf.0
          (and_from (are_short m.item) _ mf.0
          (and_from (are_kept a.item) _ (and_from (are_short a.item) (ascend a.item) short up)
          (and_from (is_short (length f.item)) (list_all is_first_step f.item) f.fine.0 f.fine.1)))));
      cut = s.cut ∙ ap (λ y. S ++ y) after_second ∙ sym (append_assoc S (K ++ F) f.rest);
      on = f.on;
    }

-- Lines that are read as what a proof claims.
abbrev IsBodyOf : ProofForm → ProofBody → Type 0
IsBodyOf f b = (is_proof_body b ≡ true) × (proof_form_of b ≡ f)

abbrev TookBody : {C : Type 0} → ProofForm → On C ProofBody → List Line → C → Type 0
TookBody f next ls c = Took (IsBodyOf f) proof_body_lines next ls c

body_bw : {C : Type 0} (f : ProofForm) (next : On C ProofBody) (ls : List Line) (c : C) → read_proof_body f next ls ≡ Read c → TookBody f next ls c
body_bw (form.No) next ls c e =
    let t = lasso_bw (λ lasso. next (body.No lasso)) ls c e in
    record { item = body.No t.item; rest = t.rest; fine = (t.fine, refl); cut = t.cut; on = t.on }
body_bw (form.Product) next ls c e =
    let f = front_bw (λ front. read_rank_block 1 (λ pairs. next (body.Yes front (evidence.Product pairs)))) ls c e in
    let t = rank_block_bw 1 (λ pairs. next (body.Yes f.item (evidence.Product pairs))) f.rest c f.on in
    record {
      item = body.Yes f.item (evidence.Product t.item);
      rest = t.rest;
      fine = (and_from (is_front f.item) (is_rank_block 1 t.item) f.fine t.fine, refl);
      cut = f.cut ∙ ap (λ y. front_lines f.item ++ y) t.cut ∙ sym (append_assoc (front_lines f.item) (rank_block_lines t.item) t.rest);
      on = t.on;
    }
body_bw (form.Delayed) next ls c e =
    let f = front_bw (λ front. read_rank_block 1 (λ pairs. next (body.Yes front (evidence.Delayed pairs)))) ls c e in
    let t = rank_block_bw 1 (λ pairs. next (body.Yes f.item (evidence.Delayed pairs))) f.rest c f.on in
    record {
      item = body.Yes f.item (evidence.Delayed t.item);
      rest = t.rest;
      fine = (and_from (is_front f.item) (is_rank_block 1 t.item) f.fine t.fine, refl);
      cut = f.cut ∙ ap (λ y. front_lines f.item ++ y) t.cut ∙ sym (append_assoc (front_lines f.item) (rank_block_lines t.item) t.rest);
      on = t.on;
    }
body_bw (form.Closed) next ls c e =
    let f = front_bw (λ front. read_closed 2 mode.Buchi (λ closed. next (body.Yes front (evidence.Closed (without_logs closed))))) ls c e in
    let t = closed_bw 2 mode.Buchi (λ closed. next (body.Yes f.item (evidence.Closed (without_logs closed)))) f.rest c f.on in
    let L = block_lines 2 t.item.order ++ closed_lines t.item.elements t.item.cover t.item.steps in
    let closed : is_closed_list (without_logs t.item) ≡ true =
    and_from (is_block t.item.order) _ t.fine.order
    (and_from (is_short (length t.item.elements)) _ t.fine.count
    (and_from (list_all (is_element mode.Buchi) t.item.elements) _ t.fine.elements (and_from (are_short t.item.cover) _ t.fine.cover t.fine.steps))) in
    record {
      item = body.Yes f.item (evidence.Closed (without_logs t.item));
      rest = t.rest;
      fine = (and_from (is_front f.item) (is_closed_list (without_logs t.item)) f.fine closed, refl);
      cut = f.cut ∙ ap (λ y. front_lines f.item ++ y) t.cut ∙ sym (append_assoc (front_lines f.item) L t.rest);
      on = t.on;
    }

-- Lines that are read as a proof are its lines, and it has a text.
proof_bw : (ls : List Line) (p : Proof) → read_proof ls ≡ Read p → (has_proof_text p ≡ true) × (ls ≡ proof_lines p ++ (([] ∷ []) ∷ []))
proof_bw ls p e =
    let bare : List Line = ([] ∷ []) ∷ [] in
    let h = line_bw proof_heading_in read_proof_sizes ls p e in
    let hf = heading_bw h.line h.item h.told in
    let s = line_bw sizes_in (read_after_sizes h.item) h.rest p h.on in
    let sf = sizes_bw s.line s.item s.told in
    let b = body_bw h.item (λ b. read_end (proof_of s.item b)) s.rest p s.on in
    let own = proof_of s.item b.item in
    let z = line_bw (word_in keyword.End) (λ u. finish own) b.rest p b.on in
    let zf = word_bw keyword.End z.line z.item z.told in
    let f = finish_bw own p z.rest z.on in
    let B = proof_body_lines b.item in
    let first : h.line ≡ proof_heading (proof_form_of b.item) = hf ∙ ap proof_heading (sym b.fine.1) in
    let last : b.rest ≡ end_line ∷ bare = z.cut ∙ ap (λ x. x ∷ z.rest) zf ∙ ap (λ y. end_line ∷ y) f.1 in
    let after_sizes : s.rest ≡ (B ++ end_line ∷ []) ++ bare = b.cut ∙ ap (λ y. B ++ y) last ∙ sym (append_assoc B (end_line ∷ []) bare) in
    let sizes = sizes_line s.item.first_states s.item.second_states s.item.labels in
    let P : Proof → Type 0 = λ p. (has_proof_text p ≡ true) × (ls ≡ proof_lines p ++ bare) in
    subst P f.0 (
      and_from (is_short s.item.first_states) _ sf.0
          (and_from (is_short s.item.second_states) _ sf.1 (and_from (is_short s.item.labels) _ sf.2 b.fine.0)),
      h.cut ∙ ap (λ x. x ∷ h.rest) first
          ∙ ap (λ y. proof_heading (proof_form_of b.item) ∷ y) (s.cut ∙ ap (λ x. x ∷ s.rest) sf.3 ∙ ap (λ y. sizes ∷ y) after_sizes),
    )

-- The text of a proof and more is read to its end.
pub text_then : (p : Proof) (more : List ℕ) → has_proof_text p ≡ true → read_proof (lines_of (proof_text p ++ more)) ≡ finish p (lines_of more)
text_then p more e = ap read_proof (lines_text (proof_lines p) more (plain_proof p)) ∙ proof_fw p (lines_of more) e (some_lines more)

-- The text of a proof is read as it.
pub reading_text : (p : Proof) → has_proof_text p ≡ true → proof_reading (proof_text p) ≡ Ok p
reading_text p e =
    read_by read_proof (proof_text p) p (ap (λ b. read_proof (lines_of b)) (sym (append-nil (proof_text p))) ∙ text_then p [] e)

-- Bytes that are read as a proof are its text.
pub reading_back : (bytes : List ℕ) (p : Proof) → proof_reading bytes ≡ Ok p → (has_proof_text p ≡ true) × (bytes ≡ proof_text p)
reading_back bytes p e =
    let k = proof_bw (lines_of bytes) p (told_inv _ (read_proof (lines_of bytes)) p e) in
    (k.0, text_back bytes (proof_lines p) k.1)

-- No text is a front of another's, and no two have one text.
pub one_text : OneProofText
one_text p q more hp hq e =
    let whole : read_proof (lines_of (proof_text q ++ [])) ≡ Read q = text_then q [] hq in
    let front : finish p (lines_of more) ≡ Read q =
    sym (text_then p more hp) ∙ ap (λ b. read_proof (lines_of b)) (e ∙ sym (append-nil (proof_text q))) ∙ whole in
    let f = finish_bw p q (lines_of more) front in
    (text_back more [] f.1, f.0)

-- The parts of a text that are written one after another.
pub text_parts : (p : Proof)
    → proof_text p
    ≡ line_text (proof_heading (proof_form_of p.body))
    ++ (line_text (sizes_line p.first_states p.second_states p.labels) ++ (text_of (proof_body_lines p.body) ++ line_text end_line))
text_parts p =
    let h = line_text (proof_heading (proof_form_of p.body)) in
    let s = line_text (sizes_line p.first_states p.second_states p.labels) in
    let B = proof_body_lines p.body in
    ap (λ x. h ++ (s ++ x)) (text_append B (end_line ∷ []) ∙ ap (λ x. text_of B ++ x) (append-nil (line_text end_line)))
