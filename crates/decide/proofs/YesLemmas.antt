-- The evidence that a closed search gives: it keeps all rules of the check, it has a text, and what it says is so.
use Rattle.std.proofs.Common.{◌≡◌, ℕ, suc, ◌+◌, ◌<◌, ◌≤◌, ◌==◌, ◌&&◌, Bool, true, false, cond, List, [], ◌∷◌, ◌++◌, length, map, slice_index_or, refl, sym, ap, ◌∙◌, subst, arith}
use Rattle.std.specs.Prelude.{filter}
use Rattle.std.specs.List.{list_all, range_with_len}
use Rattle.std.proofs.lemmas.Bool.{and_from, lt-ltb, eq-eqb}
use Rattle.std.proofs.lemmas.List.{length-map}
use Rattle.std.proofs.lemmas.Option.{get_or_from_slice_get}
use Rattle.auto_core.specs.Automaton.{Automaton, IsAutomaton, trans, trans_at}
use Rattle.auto_core.specs.Accept.{Includes}
use Rattle.auto_core.specs.Game.{IsGreatestForward, StableForward}
use Rattle.auto_core.specs.Graph.{WordArc, arcs_of, arc_at, base_arc, extended_arc, start_arc, IsPlacedAt}
use Rattle.auto_core.specs.Closed.{ClosedSet}
use Rattle.auto_core.specs.Pairs.{IsPairPlacedAt}
use Rattle.auto_core.specs.ClosedPairs.{ClosedPairs}
use Rattle.auto_core.specs.Outcome.{At, Entry, Rules, Closed, ComesOut, StaysLive, TellsLive, LiveSubsumes, IsLeastSubsumer, base_entry, next_entry, all_steps, steps_out, arcs_in, origins_in}
use Rattle.auto_core.specs.declared.parts.Mode.{Mode}
use Rattle.auto_core.specs.declared.parts.Mode.TheVariants.{Buchi, Finite}
use Rattle.auto_core.specs.declared.parts.Origin.{Origin}
use Rattle.auto_core.specs.declared.parts.Origin.TheVariants.{Start, Base, Next}
use Rattle.auto_core.specs.declared.parts.Trans.{Trans}
use Rattle.auto_laws.specs.Outcomes.{HaveOrigins}
use Rattle.auto_laws.specs.PairOutcomes.{HavePairOrigins}
use Rattle.auto_laws.proofs.PlaceLemmas.{at_within, at_some}
use Rattle.auto_laws.proofs.ListLemmas.{read_map}
use Rattle.auto_laws.proofs.PlacingLemmas.{arcs_size, arc_here}
use Rattle.auto_laws.proofs.OutcomeLemmas.{origins_fit, closed_end, closed_list_is_closed_set, closed_list_includes, live_ones_stand_apart}
use Rattle.auto_laws.proofs.PairOutcomeLemmas.{pair_origins_fit, closed_end as closed_pairs_end, closed_list_is_closed_pairs, closed_list_includes_words, live_pairs_stand_apart}
use Rattle.cert_value.specs.declared.types.YesBody.{YesBody}
use Rattle.cert_value.specs.declared.types.Element.{Element}
use Rattle.cert_value.specs.declared.types.Mark.{Mark}
use Rattle.cert_value.specs.declared.types.Mark.TheVariants.{Live, Under}
use Rattle.cert_value.specs.declared.types.StepLine.{StepLine}
use Rattle.cert_value.specs.WellFormed.{is_live, is_short, are_short, is_element, is_mark, is_origin, is_step_of, are_steps, is_block}
use Rattle.log_check.specs.Checks.{AllHold}
use Rattle.log_check.specs.Blocks.{pairs_of}
use Rattle.cert_check.specs.Inclusion.{origins_of, element_arcs, no_element, live_in, NamesOrigin, NamesElement, HasEarlierParent, GoesOn, SubsumesIn, IsOver, IsUnder, AreOver, PassesBy, covered_in, extensions_of, order_checks, element_checks, under_checks, step_checks, pair_checks, inclusion_checks}
use Rattle.log_check.proofs.CheckLemmas.{all_join}
use Rattle.cert_check.proofs.ClosedLemmas.{elements_part, under_part, cover_part, steps_part, pairs_part}
use Rattle.evidence.specs.Evidence.{marked_live, IsMarked, AreLeastSubsumers, IsStepOf, IsEvidenceOf, entry_at, LiveStandApart}
use Rattle.evidence.proofs.MarkLemmas.{elements_size, marks_tell}
use Rattle.decide.specs.Searches.{rules_in}
use Rattle.decide.specs.Answer.{closure_in}
use Rattle.decide.proofs.FollowLemmas.{block_below}
use Rattle.decide.proofs.PlaceLemmas.{all_from_places, pass_from_places, checks_from_places, filter_of_map, list_by_numbers}

same_head : {X : Type 0} (x y : X) (xs ys : List X) → x ∷ xs ≡ y ∷ ys → x ≡ y
same_head x y xs ys e = cc

same_tail : {X : Type 0} (x y : X) (xs ys : List X) → x ∷ xs ≡ y ∷ ys → xs ≡ ys
same_tail x y xs ys e = cc

-- The origin may stand where it does, in each mode.
abbrev pub IsPlacedIn : Mode → Automaton → List WordArc → ℕ → Origin → Type 0
IsPlacedIn Buchi A arcs e o = IsPlacedAt A arcs e o
IsPlacedIn Finite A arcs e o = IsPairPlacedAt A arcs e o

-- What a placed origin names.
pub record PlacedParts (m : Mode) (A : Automaton) (arcs : List WordArc) (n e : ℕ) (o : Origin) : Type 0 where
  pub names : NamesOrigin A n o
  pub earlier : HasEarlierParent e o
  pub goes : GoesOn A arcs o
  pub short : is_origin m o ≡ true

short_next : (m : Mode) (p t : ℕ) → p < 1000000000 → t < 1000000000 → is_origin m (Next p t) ≡ true
short_next Buchi p t a b = and_from (is_short p) (is_short t) (lt-ltb p 1000000000 a) (lt-ltb t 1000000000 b)
short_next Finite p t a b = and_from (is_short p) (is_short t) (lt-ltb p 1000000000 a) (lt-ltb t 1000000000 b)

next_parts : (m : Mode) (A : Automaton) (arcs : List WordArc) (n e p t : ℕ) → e < n → n ≤ 100001 → length A.transitions ≤ 65536 → p < e → t < length A.transitions → (trans_at A t).source ≡ (arc_at A arcs p).to → PlacedParts m A arcs n e (Next p t)
next_parts m A arcs n e p t lt few small before there goes = record {
  names = (omega arith, there);
  earlier = before;
  goes = goes;
  short = short_next m p t (omega arith) (omega arith);
}

pub parts_of_placed : (m : Mode) (A : Automaton) (arcs : List WordArc) (n e : ℕ) (o : Origin) → e < n → n ≤ 100001 → length A.transitions ≤ 65536 → IsPlacedIn m A arcs e o → PlacedParts m A arcs n e o
parts_of_placed Buchi A arcs n e Start lt few small placed = absurd placed
parts_of_placed Buchi A arcs n e (Base t) lt few small placed = record { names = placed; earlier = tt; goes = tt; short = lt-ltb t 1000000000 (omega arith) }
parts_of_placed Buchi A arcs n e (Next p t) lt few small placed = next_parts Buchi A arcs n e p t lt few small placed.0 placed.1 placed.2
parts_of_placed Finite A arcs n e Start lt few small placed = record { names = tt; earlier = tt; goes = tt; short = refl }
parts_of_placed Finite A arcs n e (Base t) lt few small placed = absurd placed
parts_of_placed Finite A arcs n e (Next p t) lt few small placed = next_parts Finite A arcs n e p t lt few small placed.0 placed.1 placed.2

map_twice : {X Y Z : Type 0} (f : X → Y) (g : Y → Z) (xs : List X) → map g (map f xs) ≡ map (λ x. g (f x)) xs
map_twice f g [] = refl
map_twice f g (x ∷ xs) = ap (λ l. g (f x) ∷ l) (map_twice f g xs)

-- The extensions of an arc are those by the numbers of the transitions out of its end.
extensions_are : (A : Automaton) (x : WordArc) → extensions_of A x ≡ map (λ t. extended_arc A x (trans_at A t)) (steps_out A x.to)
extensions_are A x =
    ap (λ l. map (extended_arc A x) (filter (λ (t : Trans). t.source == x.to) l)) (sym (list_by_numbers A.transitions (trans 0 0 0)))
    ∙ ap (map (extended_arc A x)) (filter_of_map (λ (t : Trans). t.source == x.to) (trans_at A) (range_with_len 0 (length A.transitions)))
    ∙ map_twice (trans_at A) (extended_arc A x) (steps_out A x.to)

-- The step lines of the live elements, in order: the line of the first element, where the others have theirs.
abbrev AreShort : List StepLine → Type 0
AreShort lines = (k : ℕ) (l : StepLine) → At lines k l → (is_short l.element ≡ true) × (are_short l.by ≡ true)

module _ (live : ℕ → Bool) (n : ℕ) (m : Element) (xs : List Element) where
  abbrev later : List ℕ
  later = filter live (range_with_len (n + 1) (length xs))

  first_line : ((more : List StepLine) → map (λ (l : StepLine). l.element) more ≡ later → AreShort more → are_steps (n + 1) xs more ≡ true) →
      (b : Bool) → live n ≡ b → is_live m.mark ≡ b → (steps : List StepLine) → map (λ (l : StepLine). l.element) steps ≡ cond (live n) (n ∷ later) later → AreShort steps → are_steps n (m ∷ xs) steps ≡ true
  first_line rest true live_is mark_is [] lines short = absurd (let e = ap length (lines ∙ ap (λ b. cond b (n ∷ later) later) live_is) in omega arith)
  first_line rest true live_is mark_is (l ∷ ls) lines short =
      let both : l.element ∷ map (λ (l : StepLine). l.element) ls ≡ n ∷ later = lines ∙ ap (λ b. cond b (n ∷ later) later) live_is in
      let here = short 0 l refl in
      subst (λ b. cond b (is_step_of n l && are_steps (n + 1) xs ls) (are_steps (n + 1) xs (l ∷ ls)) ≡ true) (sym mark_is)
      (and_from (is_step_of n l) (are_steps (n + 1) xs ls)
      (and_from (is_short l.element) (are_short l.by && (l.element == n)) here.0 (and_from (are_short l.by) (l.element == n) here.1 (eq-eqb l.element n (same_head l.element n (map (λ (l : StepLine). l.element) ls) later both))))
      (rest ls (same_tail l.element n (map (λ (l : StepLine). l.element) ls) later both) (λ k x is. short (suc k) x is)))
  first_line rest false live_is mark_is [] lines short =
      subst (λ b. cond b false (are_steps (n + 1) xs []) ≡ true) (sym mark_is) (rest [] (lines ∙ ap (λ b. cond b (n ∷ later) later) live_is) short)
  first_line rest false live_is mark_is (l ∷ ls) lines short =
      subst (λ b. cond b (is_step_of n l && are_steps (n + 1) xs ls) (are_steps (n + 1) xs (l ∷ ls)) ≡ true) (sym mark_is)
      (rest (l ∷ ls) (lines ∙ ap (λ b. cond b (n ∷ later) later) live_is) short)

lines_are_steps : (live : ℕ → Bool) (n : ℕ) (xs : List Element) (steps : List StepLine) → ((k : ℕ) (m : Element) → At xs k m → live (n + k) ≡ is_live m.mark) →
    map (λ (l : StepLine). l.element) steps ≡ filter live (range_with_len n (length xs)) → AreShort steps → are_steps n xs steps ≡ true
lines_are_steps live n [] [] told lines short = refl
lines_are_steps live n [] (l ∷ ls) told lines short = absurd (let e = ap length lines in omega arith)
lines_are_steps live n (m ∷ xs) steps told lines short =
    first_line live n m xs (λ more. lines_are_steps live (n + 1) xs more (λ k x is. let e : n + 1 + k ≡ n + suc k = omega arith in ap live e ∙ told (suc k) x is))
    (is_live m.mark) (let e : n ≡ n + 0 = omega arith in ap live e ∙ told 0 m refl) refl steps lines short

-- The elements are a closed set.
abbrev IsClosedIn : Mode → Automaton → Automaton → List (ℕ × ℕ) → List WordArc → (ℕ → Bool) → Type 0
IsClosedIn Buchi A B S arcs live = ClosedSet A B S arcs live
IsClosedIn Finite A B S arcs live = ClosedPairs A B S arcs live

-- What a closed list of the search of a mode has.
record IsSearched (m : Mode) (A B : Automaton) (S : List (ℕ × ℕ)) (limit : ℕ) (es : List Entry) : Type 0 where
  few : length es ≤ limit
  placed : (e : ℕ) → e < length (origins_in es) → IsPlacedIn m A (arcs_of A (origins_in es)) e (slice_index_or (origins_in es) e Start)
  arcs : arcs_of A (origins_in es) ≡ arcs_in es
  includes : (live : ℕ → Bool) → TellsLive (rules_in m A B S) es live → Includes A B m
  closed : (live : ℕ → Bool) → TellsLive (rules_in m A B S) es live → IsClosedIn m A B S (arcs_in es) live
  apart : (i j : ℕ) (x y : Entry) → (i ≡ j → ⊥) → At es i x → At es j y → StaysLive (rules_in m A B S) es i → StaysLive (rules_in m A B S) es j → (rules_in m A B S).subsumes x y → ⊥

searched : (m : Mode) (A B : Automaton) (S : List (ℕ × ℕ)) (limit : ℕ) (es : List Entry) → IsAutomaton B → IsGreatestForward B 1 S → ComesOut (rules_in m A B S) limit (Closed es) → IsSearched m A B S limit es
searched Buchi A B S limit es valid greatest ends =
    let origins : HaveOrigins A es = (origins_fit A B S limit es).0 ends in
    record {
      few = (closed_end A B S limit es ends).few;
      placed = origins.placed;
      arcs = origins.arcs;
      includes = λ live tells. closed_list_includes A B S limit es live valid greatest ends tells;
      closed = λ live tells. closed_list_is_closed_set A B S limit es live valid greatest ends tells;
      apart = live_ones_stand_apart A B S limit es ends;
    }
searched Finite A B S limit es valid greatest ends =
    let origins : HavePairOrigins A es = (pair_origins_fit A B S limit es).0 ends in
    record {
      few = (closed_pairs_end A B S limit es ends).few;
      placed = origins.placed;
      arcs = origins.arcs;
      includes = λ live tells. closed_list_includes_words A B S limit es live valid greatest ends tells;
      closed = λ live tells. closed_list_is_closed_pairs A B S limit es live valid greatest ends tells;
      apart = live_pairs_stand_apart A B S limit es ends;
    }

passes_by : (m : Mode) (A B : Automaton) (S : List (ℕ × ℕ)) (y : YesBody) → IsClosedIn m A B S (element_arcs A y.elements) (live_in y) → (e : ℕ) → PassesBy m A B y e
passes_by Buchi A B S y closed e = λ live f live_f. closed.passes e f live live_f
passes_by Finite A B S y closed e = λ live. closed.passes e live

-- The arcs of the candidates are those that the check asks for.
starts_covered : (m : Mode) (A B : Automaton) (S : List (ℕ × ℕ)) → arcs_in (rules_in m A B S).starts ≡ covered_in m A
starts_covered Buchi A B S = map_twice (base_entry A) (λ (x : Entry). x.arc) (all_steps A) ∙ sym (map_twice (trans_at A) (base_arc A) (all_steps A)) ∙ ap (map (base_arc A)) (list_by_numbers A.transitions (trans 0 0 0))
starts_covered Finite A B S = refl

extensions_covered : (m : Mode) (A B : Automaton) (S : List (ℕ × ℕ)) (e : ℕ) (x : Entry) → arcs_in ((rules_in m A B S).extensions e x) ≡ extensions_of A x.arc
extensions_covered Buchi A B S e x = map_twice (next_entry A e x) (λ (z : Entry). z.arc) (steps_out A x.arc.to) ∙ sym (extensions_are A x.arc)
extensions_covered Finite A B S e x = map_twice (next_entry A e x) (λ (z : Entry). z.arc) (steps_out A x.arc.to) ∙ sym (extensions_are A x.arc)

subsumes_in : (m : Mode) (A B : Automaton) (S : List (ℕ × ℕ)) (x y : Entry) → (rules_in m A B S).subsumes x y → SubsumesIn m B S x.arc y.arc
subsumes_in Buchi A B S x y is = is
subsumes_in Finite A B S x y is = is

subsumes_back : (m : Mode) (A B : Automaton) (S : List (ℕ × ℕ)) (x y : Entry) → SubsumesIn m B S x.arc y.arc → (rules_in m A B S).subsumes x y
subsumes_back Buchi A B S x y is = is
subsumes_back Finite A B S x y is = is

short_elements : (m : Mode) (e : Element) → is_mark e.mark ≡ true → is_origin m e.origin ≡ true → is_element m e ≡ true
short_elements m e mark origin = and_from (is_mark e.mark) (is_origin m e.origin) mark origin

module _ (m : Mode) (A B : Automaton) (S : List (ℕ × ℕ)) (limit : ℕ) (es : List Entry) (y : YesBody)
    (valid_A : IsAutomaton A) (valid : IsAutomaton B) (few_transitions : length A.transitions ≤ 65536) (few : limit ≤ 100000)
    (greatest : IsGreatestForward B 1 S) (ends : ComesOut (rules_in m A B S) limit (Closed es))
    (closure : IsEvidenceOf (rules_in m A B S) es (closure_in y)) (formed : is_block y.order ≡ true) (pairs : pairs_of y.order ≡ S)
  where
    abbrev R : Rules Entry
    R = rules_in m A B S

    has : IsSearched m A B S limit es
    has = searched m A B S limit es valid greatest ends

    arcs : element_arcs A y.elements ≡ arcs_in es
    arcs = ap (arcs_of A) closure.origins ∙ has.arcs

    size : length y.elements ≡ length es
    size = elements_size R es (closure_in y) closure

    arcs_count : length (element_arcs A y.elements) ≡ length y.elements
    arcs_count = ap length arcs ∙ arcs_size es ∙ sym size

    bounded : length y.elements ≤ 100000
    bounded = let most = has.few in let n = size in omega arith

    element_of : (i : ℕ) (x : Entry) → At es i x → (m : Element) × At y.elements i m
    element_of i x is = let within = at_within es i x is in let n = size in at_some y.elements i (omega arith)

    entry_of : (i : ℕ) (m : Element) → At y.elements i m → (x : Entry) × At es i x
    entry_of i m is = let within = at_within y.elements i m is in let n = size in at_some es i (omega arith)

    live_is : (i : ℕ) (m : Element) → At y.elements i m → live_in y i ≡ is_live m.mark
    live_is i m is = ap (λ (e : Element). is_live e.mark) (get_or_from_slice_get y.elements i m no_element is)

    marked_is : (i : ℕ) (e : Element) → At y.elements i e → marked_live y.elements i ≡ is_live e.mark
    marked_is i e is = ap is_live (read_map (λ (k : Element). k.mark) y.elements i e (Under 0) is)

    live_of_stays : (i : ℕ) (x : Entry) (mark : Mark) → IsMarked R es i x mark → StaysLive R es i → is_live mark ≡ true
    live_of_stays i x Live marked stays = refl
    live_of_stays i x (Under j) marked stays = let d = marked.0 in absurd (stays d.place d.element d.by d.later d.is d.by_is d.subsumes)

    -- The flags of the evidence are the marks.
    live_marked : (i : ℕ) → i < length es → live_in y i ≡ marked_live y.elements i
    live_marked i lt = let n = size in let e = at_some y.elements i (omega arith) in live_is i e.0 e.1 ∙ sym (marked_is i e.0 e.1)

    tells : TellsLive R es (live_in y)
    tells =
        let told = marks_tell R es (closure_in y) closure in
        record { stays = λ i lt live. told.stays i lt (sym (live_marked i lt) ∙ live); drops = λ i lt gone. told.drops i lt (sym (live_marked i lt) ∙ gone) }

    pub includes : Includes A B m
    includes = has.includes (live_in y) tells

    closed : IsClosedIn m A B S (element_arcs A y.elements) (live_in y)
    closed = subst (λ l. IsClosedIn m A B S l (live_in y)) (sym arcs) (has.closed (live_in y) tells)

    arc_is : (j : ℕ) (x : Entry) → At es j x → arc_at A (element_arcs A y.elements) j ≡ x.arc
    arc_is j x is = ap (λ l. arc_at A l j) arcs ∙ arc_here A es j x is

    live_at : (j : ℕ) (x : Entry) → At es j x → StaysLive R es j → live_in y j ≡ true
    live_at j x is stays = let m = element_of j x is in live_is j m.0 m.1 ∙ live_of_stays j x m.0.mark (closure.marks j x m.0 is m.1) stays

    -- A least subsumer is one that the check asks for.
    least_within : (x : Entry) (j : ℕ) → IsLeastSubsumer R es x j → j < length y.elements
    least_within x j least = let within = at_within es j least.here.element least.here.is in let n = size in omega arith

    over : (x : Entry) (j : ℕ) → IsLeastSubsumer R es x j → IsOver m A B y j x.arc
    over x j least =
        let here : LiveSubsumes R es x j = least.here in
        let within = least_within x j least in
        let n = arcs_count in (
          (omega arith, live_at j here.element here.is here.live),
          subst (λ T. SubsumesIn m B T (arc_at A (element_arcs A y.elements) j) x.arc) (sym pairs)
              (subst (λ a. SubsumesIn m B S a x.arc) (sym (arc_is j here.element here.is)) (subsumes_in m A B S here.element x here.subsumes)),
        )

    -- Least subsumers of candidates are over their arcs, and are elements.
    least_within_all : (cs : List Entry) (numbers : List ℕ) → AreLeastSubsumers R es cs numbers → (k j : ℕ) → At numbers k j → j < length y.elements
    least_within_all cs numbers least k j is =
        let within = at_within numbers k j is in
        let n = least.size in
        let c = at_some cs k (omega arith) in
        least_within c.0 j (least.each k j c.0 c.1 is)

    over_all : (cs : List Entry) (numbers : List ℕ) → AreLeastSubsumers R es cs numbers → AreOver m A B y numbers (arcs_in cs)
    over_all cs numbers least = record {
      count = least.size ∙ sym (arcs_size cs);
      each = λ k lt.
          let n = least.size in
          let a = arcs_size cs in
          let c = at_some cs k (omega arith) in
          let j = at_some numbers k (omega arith) in
          subst (λ i. IsOver m A B y i (slice_index_or (arcs_in cs) k (start_arc A))) (sym (get_or_from_slice_get numbers k j.0 0 j.1))
          (subst (IsOver m A B y j.0) (sym (read_map (λ (x : Entry). x.arc) cs k c.0 (start_arc A) c.1)) (over c.0 j.0 (least.each k j.0 c.0 c.1 j.1)));
    }

    placed : (e : ℕ) (x : Element) → At y.elements e x → PlacedParts m A (element_arcs A y.elements) (length y.elements) e x.origin
    placed e x is =
        let within = at_within y.elements e x is in
        let all : (i : ℕ) → i < length (origins_of y) → IsPlacedIn m A (arcs_of A (origins_of y)) i (slice_index_or (origins_of y) i Start) =
        subst (λ l. (i : ℕ) → i < length l → IsPlacedIn m A (arcs_of A l) i (slice_index_or l i Start)) (sym closure.origins) has.placed in
        let count = length-map y.elements (λ (x : Element). x.origin) in
        let n = bounded in
        parts_of_placed m A (element_arcs A y.elements) (length y.elements) e x.origin within (omega arith) few_transitions
        (subst (IsPlacedIn m A (element_arcs A y.elements) e) (read_map (λ (x : Element). x.origin) y.elements e x Start is) (all e (omega arith)))

    -- The order, the elements, and those under others.
    order_holds : (n : ℕ) → AllHold (order_checks B y n)
    order_holds n = (
      block_below B.states S y.order (record { formed = formed; pairs = pairs }) greatest.in_range,
      (subst (StableForward B 1) (sym pairs) greatest.stable, tt),
    )

    names_of : (i : ℕ) (x : Entry) (mark : Mark) → IsMarked R es i x mark → NamesElement (length y.elements) mark
    names_of i x Live marked = tt
    names_of i x (Under j) marked = least_within x j marked.1

    elements_hold : (n : ℕ) → AllHold (elements_part m n A B y)
    elements_hold n = checks_from_places (element_checks A y.elements (n + 1)) y.elements (λ e k is.
        let x = entry_of e k is in
        let p = placed e k is in
        ((p.names, names_of e x.0 k.mark (closure.marks e x.0 k x.1 is)), (p.earlier, (p.goes, tt))))

    under_of : (i : ℕ) (x : Entry) → At es i x → (mark : Mark) → IsMarked R es i x mark → IsUnder m A B y i mark
    under_of i x is Live marked = tt
    under_of i x is (Under j) marked = subst (IsOver m A B y j) (sym (arc_is i x is)) (over x j marked.1)

    under_hold : (n : ℕ) → AllHold (under_part m n A B y)
    under_hold n = checks_from_places (under_checks m A B y (n + 1)) y.elements (λ e k is. let x = entry_of e k is in (under_of e x.0 x.1 k.mark (closure.marks e x.0 k x.1 is), tt))

    -- The cover and the step lines.
    cover_holds : (n : ℕ) → AllHold (cover_part m n A B y)
    cover_holds n = (
      all_from_places (λ j. j < length y.elements) y.cover (least_within_all R.starts y.cover closure.cover),
      (subst (AreOver m A B y y.cover) (starts_covered m A B S) (over_all R.starts y.cover closure.cover), tt),
    )

    element_within : (l : StepLine) → IsStepOf R es l → l.element < length y.elements
    element_within l step = let within = at_within es l.element step.element step.is in let n = size in omega arith

    steps_hold : (n : ℕ) → AllHold (steps_part m n A B y)
    steps_hold n = checks_from_places (step_checks m A B y (n + 2 + length y.elements)) y.steps (λ k l is.
        let step : IsStepOf R es l = closure.steps k l is in (
          (element_within l step, all_from_places (λ j. j < length y.elements) l.by (least_within_all (R.extensions l.element step.element) l.by step.by)),
          (
            subst (λ a. AreOver m A B y l.by (extensions_of A a)) (sym (arc_is l.element step.element step.is))
                (subst (AreOver m A B y l.by) (extensions_covered m A B S l.element step.element) (over_all (R.extensions l.element step.element) l.by step.by)),
            tt,
          ),
        ))

    pairs_hold : (n : ℕ) → AllHold (pairs_part m n A B y)
    pairs_hold n = checks_from_places (pair_checks m A B y (n + 1)) y.elements (λ e k is. (passes_by m A B S y closed e, tt))

    pub rules_hold : (n : ℕ) → AllHold (inclusion_checks m y n A B)
    rules_hold n =
        all_join (order_checks B y n) (elements_part m n A B y ++ (under_part m n A B y ++ (cover_part m n A B y ++ (steps_part m n A B y ++ pairs_part m n A B y)))) (order_holds n)
        (all_join (elements_part m n A B y) (under_part m n A B y ++ (cover_part m n A B y ++ (steps_part m n A B y ++ pairs_part m n A B y))) (elements_hold n)
        (all_join (under_part m n A B y) (cover_part m n A B y ++ (steps_part m n A B y ++ pairs_part m n A B y)) (under_hold n)
        (all_join (cover_part m n A B y) (steps_part m n A B y ++ pairs_part m n A B y) (cover_holds n)
        (all_join (steps_part m n A B y) (pairs_part m n A B y) (steps_hold n) (pairs_hold n)))))

    -- It has a text.
    short_number : (j : ℕ) → j < length y.elements → is_short j ≡ true
    short_number j lt = let n = bounded in lt-ltb j 1000000000 (omega arith)

    short_mark : (i : ℕ) (x : Entry) (mark : Mark) → IsMarked R es i x mark → is_mark mark ≡ true
    short_mark i x Live marked = refl
    short_mark i x (Under j) marked = short_number j (least_within x j marked.1)

    pub elements_formed : list_all (is_element m) y.elements ≡ true
    elements_formed = pass_from_places (is_element m) y.elements (λ e k is.
        let x = entry_of e k is in
        short_elements m k (short_mark e x.0 k.mark (closure.marks e x.0 k x.1 is)) (placed e k is).short)

    pub cover_formed : are_short y.cover ≡ true
    cover_formed = pass_from_places is_short y.cover (λ t j is. short_number j (least_within_all R.starts y.cover closure.cover t j is))

    pub count_formed : is_short (length y.elements) ≡ true
    count_formed = let n = bounded in lt-ltb (length y.elements) 1000000000 (omega arith)

    pub steps_formed : are_steps 0 y.elements y.steps ≡ true
    steps_formed = lines_are_steps (marked_live y.elements) 0 y.elements y.steps
        (λ k e is. let same : 0 + k ≡ k = omega arith in ap (marked_live y.elements) same ∙ marked_is k e is)
        (closure.lines ∙ ap (λ n. filter (marked_live y.elements) (range_with_len 0 n)) (sym size))
        (λ k l is.
        let step : IsStepOf R es l = closure.steps k l is in
        (short_number l.element (element_within l step), pass_from_places is_short l.by (λ i j j_is. short_number j (least_within_all (R.extensions l.element step.element) l.by step.by i j j_is))))

    -- No live element subsumes another.
    pub stand_apart : LiveStandApart R A (origins_of y) (live_in y)
    stand_apart i j i_in j_in other i_live j_live subsumes =
        let count = length-map y.elements (λ (x : Element). x.origin) in
        let n = size in
        let x = at_some es i (omega arith) in
        let z = at_some es j (omega arith) in
        has.apart i j x.0 z.0 other x.1 z.1 (tells.stays i (at_within es i x.0 x.1) i_live) (tells.stays j (at_within es j z.0 z.1) j_live)
        (subsumes_back m A B S x.0 z.0
        (subst (λ a. SubsumesIn m B S a z.0.arc) (arc_is i x.0 x.1)
        (subst (λ b. SubsumesIn m B S (arc_at A (element_arcs A y.elements) i) b) (arc_is j z.0 z.1)
        (subsumes_in m A B S (entry_at A (origins_of y) i) (entry_at A (origins_of y) j) subsumes))))
