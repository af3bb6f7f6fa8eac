-- A certificate of inclusion that keeps all rules is a closed set, and so the second automaton accepts what the first does.
use Rattle.std.proofs.Common.{◌≡◌, ℕ, zero, suc, ◌+◌, ◌^◌, ◌<◌, ◌≤◌, ◌==◌, ◌&&◌, Bool, true, false, cond, List, [], ◌∷◌, ◌++◌, length, slice_index, slice_index_or, refl, sym, ap, ◌∙◌, subst, arith}
use Rattle.std.specs.List.{filter, list_all}
use Rattle.std.proofs.lemmas.Bool.{and_parts, eq-eqb, false≢true, eqb-true}
use Rattle.std.proofs.lemmas.List.{get_or-map, length-map}
use Rattle.auto_core.specs.Automaton.{Automaton, IsAutomaton, trans, trans_at}
use Rattle.auto_core.specs.Accept.{Includes}
use Rattle.auto_core.specs.Graph.{WordArc, start_arc, arc_at, base_arc, extended_arc}
use Rattle.auto_core.specs.Closed.{ClosedSet, IsLive}
use Rattle.auto_core.specs.ClosedPairs.{ClosedPairs}
use Rattle.auto_core.specs.declared.parts.Mode.{Mode}
use Rattle.auto_core.specs.declared.parts.Mode.TheVariants.{Buchi, Finite}
use Rattle.auto_core.specs.declared.parts.Origin.TheVariants.{Start}
use Rattle.auto_core.specs.declared.parts.Trans.{Trans}
use Rattle.auto_laws.proofs.ClosedLemmas.{closed_set_includes}
use Rattle.auto_laws.proofs.OriginLemmas.{length-arcs_of, placed_arcs_are_real}
use Rattle.auto_laws.proofs.ClosedPairLemmas.{closed_pairs_include}
use Rattle.auto_laws.proofs.PairEntryLemmas.{placed_pairs_are_reached}
use Rattle.cert_value.specs.declared.types.YesBody.{YesBody}
use Rattle.cert_value.specs.declared.types.Element.{Element}
use Rattle.cert_value.specs.declared.types.StepLine.{StepLine}
use Rattle.cert_value.specs.WellFormed.{WellFormed, is_version, is_short, are_short, is_body, is_yes, is_listing, is_block, are_logs, is_live, is_origin, is_element, are_steps, is_step_of, is_first_step, is_second_step}
use Rattle.ba_format.specs.declared.parts.Joined.{Joined}
use Rattle.cert_value.specs.declared.types.Cert.{Cert}
use Rattle.cert_value.specs.declared.types.Body.TheVariants.{Yes, Listing}
use Rattle.cert_value.specs.declared.types.ListBody.{ListBody}
use Rattle.cert_value.specs.declared.types.FirstStep.{FirstStep}
use Rattle.cert_value.specs.declared.types.SecondStep.{SecondStep}
use Rattle.cert_check.specs.Laws.{ValidYesIncludes, ValidNoSeparates, ValidNoSeparatesByWord}
use Rattle.cert_check.specs.Rules.{lasso_checks, word_checks, YesHolds, BodyHolds, KeepsRules}
use Rattle.log_check.specs.Ends.{item_after}
use Rattle.log_check.proofs.LawLemmas.{first_log_grows, second_log_shrinks}
use Rattle.log_check.specs.Checks.{RuleCheck, AllHold, checks_of_each}
use Rattle.log_check.specs.Blocks.{pairs_of}
use Rattle.cert_check.specs.Inclusion.{origins_of, element_arcs, live_in, no_element, AreOver, IsOver, PassesBy, starts_of, extensions_of, order_checks, element_checks, under_checks, cover_checks, step_checks, pair_checks, inclusion_checks}
use Rattle.log_check.proofs.CheckLemmas.{all_front, all_back, each_of}
use Rattle.cert_check.proofs.PlaceLemmas.{origin_fits, IsPlacedIn, placed_one}
use Rattle.cert_check.proofs.SuperLemmas.{arcs_count}

-- What a transition that passes a test stands at among those that do.
kept_at : (p : Trans → Bool) (ts : List Trans) (t : ℕ) (d : Trans) → t < length ts → p (slice_index_or ts t d) ≡ true →
    (i : ℕ) × (i < length (filter p ts)) × (slice_index_or (filter p ts) i d ≡ slice_index_or ts t d)
kept_at p [] t d lt passes = absurd (omega arith)
kept_at p (x ∷ ts) zero d lt passes = first (p x) passes
  where
    first : (b : Bool) → b ≡ true → (i : ℕ) × (i < length (cond b (x ∷ filter p ts) (filter p ts))) × (slice_index_or (cond b (x ∷ filter p ts) (filter p ts)) i d ≡ x)
    first true e = (0, omega arith, refl)
    first false e = absurd (false≢true e)
kept_at p (x ∷ ts) (suc t) d lt passes = later (p x) (kept_at p ts t d (omega arith) passes)
  where
    later : (b : Bool) → ((i : ℕ) × (i < length (filter p ts)) × (slice_index_or (filter p ts) i d ≡ slice_index_or ts t d)) →
        (i : ℕ) × (i < length (cond b (x ∷ filter p ts) (filter p ts))) × (slice_index_or (cond b (x ∷ filter p ts) (filter p ts)) i d ≡ slice_index_or ts t d)
    later true (i, i_in, e) = (suc i, omega arith, e)
    later false r = r

-- Each live element has its step line.
module _ (d : StepLine) where
  abbrev HasLine : List StepLine → ℕ → Type 0
  HasLine steps n = (k : ℕ) × (k < length steps) × ((slice_index_or steps k d).element ≡ n)

  pub line_of_live : (n e : ℕ) (es : List Element) (steps : List StepLine) → are_steps n es steps ≡ true → e < length es →
      is_live (slice_index_or es e no_element).mark ≡ true → HasLine steps (n + e)
  line_of_live n e [] steps h lt live = absurd (omega arith)
  line_of_live n zero (x ∷ es) [] h lt live = absurd (none (is_live x.mark) live h)
    where
      none : (b : Bool) → b ≡ true → cond b false (are_steps (n + 1) es []) ≡ true → ⊥
      none true e g = false≢true g
      none false e g = false≢true e
  line_of_live n zero (x ∷ es) (step ∷ steps) h lt live = here (is_live x.mark) live h
    where
      here : (b : Bool) → b ≡ true → cond b (is_step_of n step && are_steps (n + 1) es steps) (are_steps (n + 1) es (step ∷ steps)) ≡ true → HasLine (step ∷ steps) (n + 0)
      here true e g = (0, omega arith, omega (arith, numbered (and_parts (is_step_of n step) (are_steps (n + 1) es steps) g).0))
        where
          numbered : is_step_of n step ≡ true → step.element ≡ n
          numbered f = eqb-true step.element n (and_parts (are_short step.by) (step.element == n) (and_parts (is_short step.element) (are_short step.by && (step.element == n)) f).1).1
      here false e g = absurd (false≢true e)
  line_of_live n (suc e) (x ∷ es) [] h lt live = later (is_live x.mark) h (λ g. line_of_live (n + 1) e es [] g (omega arith) live)
    where
      later : (b : Bool) → cond b false (are_steps (n + 1) es []) ≡ true → (are_steps (n + 1) es [] ≡ true → HasLine [] (n + 1 + e)) → HasLine [] (n + suc e)
      later true g f = absurd (false≢true g)
      later false g f = subst (HasLine []) (omega arith) (f g)
  line_of_live n (suc e) (x ∷ es) (step ∷ steps) h lt live =
      later (is_live x.mark) h (λ g. line_of_live (n + 1) e es steps g (omega arith) live) (λ g. line_of_live (n + 1) e es (step ∷ steps) g (omega arith) live)
    where
      later : (b : Bool) → cond b (is_step_of n step && are_steps (n + 1) es steps) (are_steps (n + 1) es (step ∷ steps)) ≡ true →
          (are_steps (n + 1) es steps ≡ true → HasLine steps (n + 1 + e)) → (are_steps (n + 1) es (step ∷ steps) ≡ true → HasLine (step ∷ steps) (n + 1 + e)) → HasLine (step ∷ steps) (n + suc e)
      later true g f k =
          let (j, j_in, is) = f (and_parts (is_step_of n step) (are_steps (n + 1) es steps) g).1 in
          (suc j, omega arith, is ∙ omega arith)
      later false g f k = subst (HasLine (step ∷ steps)) (omega arith) (k g)

  line_from_start : (e : ℕ) (es : List Element) (steps : List StepLine) → are_steps 0 es steps ≡ true → e < length es → is_live (slice_index_or es e no_element).mark ≡ true → HasLine steps e
  line_from_start e es steps h lt live = let zero_on : 0 + e ≡ e = omega arith in subst (HasLine steps) zero_on (line_of_live 0 e es steps h lt live)

-- One arc of a list that elements are over.
over_at : (m : Mode) (A B : Automaton) (evidence : YesBody) (js : List ℕ) (xs : List WordArc) (i : ℕ) (x : WordArc) → AreOver m A B evidence js xs → i < length xs → slice_index_or xs i (start_arc A) ≡ x →
    IsOver m A B evidence (slice_index js i) x
over_at m A B evidence js xs i x over lt is = subst (IsOver m A B evidence (slice_index js i)) is (over.each i lt)

-- The five lists of checks after those of the relation.
module _ (m : Mode) (n : ℕ) (A B : Automaton) (evidence : YesBody) where
  abbrev pub elements_part : List RuleCheck
  elements_part = checks_of_each (element_checks A evidence.elements (n + 1)) 0 evidence.elements

  abbrev pub under_part : List RuleCheck
  under_part = checks_of_each (under_checks m A B evidence (n + 1)) 0 evidence.elements

  abbrev pub cover_part : List RuleCheck
  cover_part = cover_checks m A B evidence (n + 1 + length evidence.elements)

  abbrev pub steps_part : List RuleCheck
  steps_part = checks_of_each (step_checks m A B evidence (n + 2 + length evidence.elements)) 0 evidence.steps

  abbrev pub pairs_part : List RuleCheck
  pairs_part = checks_of_each (pair_checks m A B evidence (n + 1)) 0 evidence.elements

  record Parts : Type 0 where
    order : AllHold (order_checks B evidence n)
    elements : AllHold elements_part
    cover : AllHold cover_part
    steps : AllHold steps_part
    pairs : AllHold pairs_part

  parts : AllHold (inclusion_checks m evidence n A B) → Parts
  parts hold =
      let a : AllHold (elements_part ++ (under_part ++ (cover_part ++ (steps_part ++ pairs_part)))) =
      all_back (order_checks B evidence n) (elements_part ++ (under_part ++ (cover_part ++ (steps_part ++ pairs_part)))) hold in
      let b : AllHold (under_part ++ (cover_part ++ (steps_part ++ pairs_part))) = all_back elements_part (under_part ++ (cover_part ++ (steps_part ++ pairs_part))) a in
      let c : AllHold (cover_part ++ (steps_part ++ pairs_part)) = all_back under_part (cover_part ++ (steps_part ++ pairs_part)) b in
      let d : AllHold (steps_part ++ pairs_part) = all_back cover_part (steps_part ++ pairs_part) c in
      record {
        order = all_front (order_checks B evidence n) (elements_part ++ (under_part ++ (cover_part ++ (steps_part ++ pairs_part)))) hold;
        elements = all_front elements_part (under_part ++ (cover_part ++ (steps_part ++ pairs_part))) a;
        cover = all_front cover_part (steps_part ++ pairs_part) c;
        steps = all_front steps_part pairs_part d;
        pairs = all_back steps_part pairs_part d;
      }

  -- Each element is placed, live or not.
  placed : list_all (is_element m) evidence.elements ≡ true → Parts → (e : ℕ) → e < length (origins_of evidence) → IsPlacedIn m A (element_arcs A evidence.elements) e (slice_index_or (origins_of evidence) e Start)
  placed fits p e lt =
      let lt' : e < length evidence.elements = omega (arith, length-map evidence.elements (λ (x : Element). x.origin)) in
      let h = each_of (element_checks A evidence.elements (n + 1)) e evidence.elements no_element lt' p.elements in
      let is : slice_index_or (origins_of evidence) e Start ≡ (slice_index_or evidence.elements e no_element).origin =
      get_or-map (λ (x : Element). x.origin) evidence.elements e no_element Start lt' in
      subst (IsPlacedIn m A (element_arcs A evidence.elements) e) (sym is)
      (placed_one m A (element_arcs A evidence.elements) (length evidence.elements) e (slice_index_or evidence.elements e no_element).origin
      (origin_fits m evidence.elements e no_element fits lt') h.0.0 h.1.0 h.1.1.0)

  no_line : StepLine
  no_line = record { element = 0; by = [] }

  -- Each extension of a live element has one over it.
  step_over : are_steps 0 evidence.elements evidence.steps ≡ true → Parts → (e t : ℕ) → IsLive (element_arcs A evidence.elements) (live_in evidence) e → t < length A.transitions →
      (trans_at A t).source ≡ (arc_at A (element_arcs A evidence.elements) e).to → (j : ℕ) × IsOver m A B evidence j (extended_arc A (arc_at A (element_arcs A evidence.elements) e) (trans_at A t))
  step_over lined p e t live lt leaves =
      let size = arcs_count A evidence.elements in
      let (k, k_in, is) = line_from_start no_line e evidence.elements evidence.steps lined (omega (arith, live.0, size)) live.1 in
      let step : StepLine = slice_index_or evidence.steps k no_line in
      let h = each_of (step_checks m A B evidence (n + 2 + length evidence.elements)) k evidence.steps no_line k_in p.steps in
      let x : WordArc = arc_at A (element_arcs A evidence.elements) e in
      let over : AreOver m A B evidence step.by (extensions_of A x) = subst (λ z. AreOver m A B evidence step.by (extensions_of A (arc_at A (element_arcs A evidence.elements) z))) is h.1.0 in
      let (i, i_in, same) = kept_at (λ (u : Trans). u.source == x.to) A.transitions t (trans 0 0 0) lt (eq-eqb (trans_at A t).source x.to leaves) in (
        slice_index step.by i,
        over_at m A B evidence step.by (extensions_of A x) i (extended_arc A x (trans_at A t)) over
            (omega (arith, i_in, length-map (filter (λ (u : Trans). u.source == x.to) A.transitions) (extended_arc A x)))
            (get_or-map (extended_arc A x) (filter (λ (u : Trans). u.source == x.to) A.transitions) i (trans 0 0 0) (start_arc A) i_in ∙ ap (extended_arc A x) same),
      )

  -- Each live element passes.
  passes_one : Parts → (e : ℕ) → IsLive (element_arcs A evidence.elements) (live_in evidence) e → PassesBy m A B evidence e
  passes_one p e live = let size = arcs_count A evidence.elements in (each_of (pair_checks m A B evidence (n + 1)) e evidence.elements no_element (omega (arith, live.0, size)) p.pairs).0

-- In a Büchi file they are a closed set of supergraphs.
pub closed : (n : ℕ) (A B : Automaton) (evidence : YesBody) → list_all (is_element Buchi) evidence.elements ≡ true → are_steps 0 evidence.elements evidence.steps ≡ true →
    AllHold (inclusion_checks Buchi evidence n A B) → ClosedSet A B (pairs_of evidence.order) (element_arcs A evidence.elements) (live_in evidence)
closed n A B evidence fits lined hold =
    let p = parts Buchi n A B evidence hold in
    record {
      stable = p.order.1.0;
      real = λ e lt. placed_arcs_are_real A (origins_of evidence) (placed Buchi n A B evidence fits p) e (omega (arith, length-arcs_of A (origins_of evidence)));
      starts = λ t lt.
          let over = over_at Buchi A B evidence evidence.cover (starts_of A) t (base_arc A (trans_at A t)) p.cover.1.0
          (omega (arith, length-map A.transitions (base_arc A)))
          (get_or-map (base_arc A) A.transitions t (trans 0 0 0) (start_arc A) lt) in
          (slice_index evidence.cover t, over.0, over.1);
      steps = λ e t live lt leaves. let over = step_over Buchi n A B evidence lined p e t live lt leaves in (over.0, over.1.0, over.1.1);
      passes = λ e f live_e live_f. passes_one Buchi n A B evidence p e live_e live_e f live_f;
    }

-- In a finite file they are a closed set of pairs.
pub closed_pairs : (n : ℕ) (A B : Automaton) (evidence : YesBody) → list_all (is_element Finite) evidence.elements ≡ true → are_steps 0 evidence.elements evidence.steps ≡ true →
    AllHold (inclusion_checks Finite evidence n A B) → ClosedPairs A B (pairs_of evidence.order) (element_arcs A evidence.elements) (live_in evidence)
closed_pairs n A B evidence fits lined hold =
    let p = parts Finite n A B evidence hold in
    record {
      stable = p.order.1.0;
      reached = λ e lt. placed_pairs_are_reached A (origins_of evidence) (placed Finite n A B evidence fits p) e (omega (arith, length-arcs_of A (origins_of evidence)));
      start = let over = over_at Finite A B evidence evidence.cover (start_arc A ∷ []) 0 (start_arc A) p.cover.1.0 (omega arith) refl in (slice_index evidence.cover 0, over.0, over.1);
      steps = λ e t live lt leaves. let over = step_over Finite n A B evidence lined p e t live lt leaves in (over.0, over.1.0, over.1.1);
      passes = λ e live. passes_one Finite n A B evidence p e live live;
    }

-- So the second automaton accepts each lasso, in a finite file each word, that the first accepts.
pub included : (m : Mode) (n : ℕ) (A B : Automaton) (evidence : YesBody) → IsAutomaton B → list_all (is_element m) evidence.elements ≡ true → are_steps 0 evidence.elements evidence.steps ≡ true →
    AllHold (inclusion_checks m evidence n A B) → Includes A B m
included Buchi n A B evidence valid fits lined hold =
    closed_set_includes A B (pairs_of evidence.order) (element_arcs A evidence.elements) (live_in evidence) valid (closed n A B evidence fits lined hold)
included Finite n A B evidence valid fits lined hold =
    closed_pairs_include A B (pairs_of evidence.order) (element_arcs A evidence.elements) (live_in evidence) (closed_pairs n A B evidence fits lined hold)

-- The steps of the logs.
pub record LogParts (v : ℕ) (m : Mode) (firsts : List FirstStep) (seconds : List SecondStep) : Type 0 where
  pub few_first : length firsts < 10 ^ 9
  pub first_steps : list_all is_first_step firsts ≡ true
  pub few_second : length seconds < 10 ^ 9
  pub second_steps : list_all (is_second_step v m) seconds ≡ true

pub log_parts : (v : ℕ) (m : Mode) (firsts : List FirstStep) (seconds : List SecondStep) → are_logs v m firsts seconds ≡ true → LogParts v m firsts seconds
log_parts v m firsts seconds h =
    let a = and_parts (is_short (length firsts)) (list_all is_first_step firsts && (is_short (length seconds) && list_all (is_second_step v m) seconds)) h in
    let b = and_parts (list_all is_first_step firsts) (is_short (length seconds) && list_all (is_second_step v m) seconds) a.1 in
    let c = and_parts (is_short (length seconds)) (list_all (is_second_step v m) seconds) b.1 in
    record { few_first = grind (arith, a.0); first_steps = b.0; few_second = grind (arith, c.0); second_steps = c.1 }

-- The body of a well-formed certificate.
body_formed : (cert : Cert) → WellFormed cert → is_body cert.version cert.mode cert.body ≡ true
body_formed cert formed =
    let a = and_parts (is_version cert.version) (is_short cert.first_states && (is_short cert.second_states && (is_short cert.labels && is_body cert.version cert.mode cert.body))) formed in
    let b = and_parts (is_short cert.first_states) (is_short cert.second_states && (is_short cert.labels && is_body cert.version cert.mode cert.body)) a.1 in
    let c = and_parts (is_short cert.second_states) (is_short cert.labels && is_body cert.version cert.mode cert.body) b.1 in
    (and_parts (is_short cert.labels) (is_body cert.version cert.mode cert.body) c.1).1

pub yes_formed : (cert : Cert) (evidence : YesBody) → cert.body ≡ Yes evidence → WellFormed cert → is_yes cert.version cert.mode evidence ≡ true
yes_formed cert evidence is formed = subst (λ b. is_body cert.version cert.mode b ≡ true) is (body_formed cert formed)

pub list_formed : (cert : Cert) (list : ListBody) → cert.body ≡ Listing list → WellFormed cert → is_listing cert.version cert.mode list ≡ true
list_formed cert list is formed = subst (λ b. is_body cert.version cert.mode b ≡ true) is (body_formed cert formed)

-- The parts of a well-formed certificate of inclusion.
pub record YesParts (v : ℕ) (m : Mode) (evidence : YesBody) : Type 0 where
  pub logs : are_logs v m evidence.first evidence.second ≡ true
  pub few : length evidence.elements < 10 ^ 9
  pub elements : list_all (is_element m) evidence.elements ≡ true
  pub lined : are_steps 0 evidence.elements evidence.steps ≡ true

pub yes_parts : (v : ℕ) (m : Mode) (evidence : YesBody) → is_yes v m evidence ≡ true → YesParts v m evidence
yes_parts v m evidence h =
    let a = (and_parts (are_logs v m evidence.first evidence.second) (is_block evidence.order && (is_short (length evidence.elements) && (list_all (is_element m) evidence.elements && (are_short evidence.cover && are_steps 0 evidence.elements evidence.steps)))) h).1 in
    let b = (and_parts (is_block evidence.order) (is_short (length evidence.elements) && (list_all (is_element m) evidence.elements && (are_short evidence.cover && are_steps 0 evidence.elements evidence.steps))) a).1 in
    let c = and_parts (is_short (length evidence.elements)) (list_all (is_element m) evidence.elements && (are_short evidence.cover && are_steps 0 evidence.elements evidence.steps)) b in
    let d = and_parts (list_all (is_element m) evidence.elements) (are_short evidence.cover && are_steps 0 evidence.elements evidence.steps) c.1 in
    record {
      logs = (and_parts (are_logs v m evidence.first evidence.second) (is_block evidence.order && (is_short (length evidence.elements) && (list_all (is_element m) evidence.elements && (are_short evidence.cover && are_steps 0 evidence.elements evidence.steps)))) h).0;
      few = grind (arith, c.0);
      elements = d.0;
      lined = (and_parts (are_short evidence.cover) (are_steps 0 evidence.elements evidence.steps) d.1).1;
    }

-- The parts of a well-formed list.
pub record ListParts (v : ℕ) (m : Mode) (list : ListBody) : Type 0 where
  pub logs : are_logs v m list.first list.second ≡ true
  pub few : length list.elements < 10 ^ 9
  pub origins : list_all (is_origin m) list.elements ≡ true

pub list_parts : (v : ℕ) (m : Mode) (list : ListBody) → is_listing v m list ≡ true → ListParts v m list
list_parts v m list h =
    let a = and_parts (are_logs v m list.first list.second) (is_short list.limit && (is_short (length list.elements) && list_all (is_origin m) list.elements)) h in
    let b = and_parts (is_short list.limit) (is_short (length list.elements) && list_all (is_origin m) list.elements) a.1 in
    let c = and_parts (is_short (length list.elements)) (list_all (is_origin m) list.elements) b.1 in
    record { logs = a.0; few = grind (arith, c.0); origins = c.1 }

-- There are no more step lines than elements.
pub lines_fit : (n : ℕ) (es : List Element) (steps : List StepLine) → are_steps n es steps ≡ true → length steps ≤ length es
lines_fit n [] [] h = omega arith
lines_fit n [] (step ∷ steps) h = absurd (false≢true h)
lines_fit n (x ∷ es) [] h = omega arith
lines_fit n (x ∷ es) (step ∷ steps) h = by (is_live x.mark) h (λ g. lines_fit (n + 1) es steps g) (λ g. lines_fit (n + 1) es (step ∷ steps) g)
  where
    by : (b : Bool) → cond b (is_step_of n step && are_steps (n + 1) es steps) (are_steps (n + 1) es (step ∷ steps)) ≡ true →
        (are_steps (n + 1) es steps ≡ true → length steps ≤ length es) → (are_steps (n + 1) es (step ∷ steps) ≡ true → length (step ∷ steps) ≤ length es) → length (step ∷ steps) ≤ length (x ∷ es)
    by true g f k = let r = f (and_parts (is_step_of n step) (are_steps (n + 1) es steps) g).1 in omega arith
    by false g f k = let r = k g in omega arith

-- Where each of three inclusions is, the first and the last automaton have it.
through : (m : Mode) (A B C D : Automaton) → Includes A B m → Includes B C m → Includes C D m → Includes A D m
through Buchi A B C D first second third = λ u v accepted. third u v (second u v (first u v accepted))
through Finite A B C D first second third = λ w accepted. third w (second w (first w accepted))

-- What the evidence shows of the automata that the logs lead to, it shows of those that they begin with.
pub through_logs : (v : ℕ) (m : Mode) (pair : Joined) (evidence : YesBody) → IsAutomaton pair.first → IsAutomaton pair.second → is_yes v m evidence ≡ true → YesHolds m pair evidence →
    Includes pair.first pair.second m
through_logs v m pair evidence valid valid' formed h =
    let p = yes_parts v m evidence formed in
    let logs = log_parts v m evidence.first evidence.second p.logs in
    let grows = first_log_grows m pair.first h.ends.first 1 evidence.first valid logs.first_steps h.logs.first in
    let shrinks = second_log_shrinks v m pair.second h.ends.second (1 + length evidence.first) evidence.second valid' logs.second_steps h.logs.second in
    let middle = included m (item_after evidence.first evidence.second) h.ends.first h.ends.second evidence shrinks.1.valid p.elements p.lined h.hold in
    through m pair.first h.ends.first h.ends.second pair.second grows.0 middle shrinks.0

-- A valid certificate that says yes shows an inclusion.
pub valid_yes_includes : (pair : Joined) (cert : Cert) (evidence : YesBody) → cert.body ≡ Yes evidence → WellFormed cert → IsAutomaton pair.first → IsAutomaton pair.second →
    KeepsRules pair cert → Includes pair.first pair.second cert.mode
valid_yes_includes pair cert evidence is formed valid valid' hold =
    through_logs cert.version cert.mode pair evidence valid valid' (yes_formed cert evidence is formed) (subst (λ b. BodyHolds cert.mode pair b) is hold.1)

pub valid_yes : ValidYesIncludes
valid_yes pair cert evidence valid valid' is v = valid_yes_includes pair cert evidence is v.formed valid valid' v.keeps

pub valid_no : ValidNoSeparates
valid_no pair cert lasso is v =
    let all : AllHold (lasso_checks pair lasso) = subst (λ b. BodyHolds cert.mode pair b) is v.keeps.1 in
    (all.1.1.0, all.1.1.1.0)

pub valid_no_by_word : ValidNoSeparatesByWord
valid_no_by_word pair cert word is v =
    let all : AllHold (word_checks pair word) = subst (λ b. BodyHolds cert.mode pair b) is v.keeps.1 in
    (all.1.0, all.1.1.0)
