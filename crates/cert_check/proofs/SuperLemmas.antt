-- What stands for an element: its arc and its block, in a table of them, and what they are compared by.
use Rattle.std.proofs.Common.{◌≡◌, ◌↔◌, ℕ, false, refl, ◌+◌, ◌-◌, ◌<◌, ◌≤◌, ◌==◌, map, Result, Ok, Err, IfOk, List, [], ◌∷◌, ◌++◌, length, take, drop, slice_index_or, sym, ap, ◌∙◌, subst, arith, length-append, inl, inr}
use Rattle.std.specs.List.{filter}
use Rattle.std.proofs.lemmas.Bool.{cases_lt, eq-eqb, ne_eqb}
use Rattle.look_round.proofs.SegmentLemmas.{filter_segment}
use Rattle.auto_core.specs.declared.parts.Trans.{Trans}
use Rattle.std.proofs.lemmas.List.{get_or_append_left, get_or_push, length-map, get_or-map, get_or-take, get_or-drop, length-drop, length-take-le}
use Rattle.auto_core.specs.Automaton.{Automaton, IsAutomaton, IsOutgoing, trans, trans_at}
use Rattle.auto_core.specs.Run.{Run}
use Rattle.auto_core.proofs.MoveLemmas.{move_at, move_in_range}
use Rattle.auto_core.specs.Game.{Holds}
use Rattle.auto_core.specs.Rows.{HasBit}
use Rattle.auto_core.specs.Pairs.{set_after, pair_of}
use Rattle.auto_core.specs.declared.parts.Mode.{Mode}
use Rattle.auto_core.specs.declared.parts.Mode.TheVariants.{Buchi, Finite}
use Rattle.auto_laws.proofs.PumpingLemmas.{run_in_range}
use Rattle.auto_laws.proofs.OriginLemmas.{length-arcs_of}
use Rattle.auto_core.specs.Graph.{SameGraph, graph_of, letter_graph, extended, WordArc, IsReal, start_arc, arc_at, base_arc, extended_arc, Subsumes, LassoIn}
use Rattle.auto_laws.proofs.GraphLemmas.{covers_more, same_sym, same_trans, same_more, graph_of_letter}
use Rattle.auto_laws.proofs.StandingLemmas.{covers_alike, lassos_both_ways}
use Rattle.auto_laws.proofs.PairLemmas.{sets_extend, pair_more}
use Rattle.set_rows.specs.Sets.{IsRow, IsCovered}
use Rattle.graph_rows.specs.Block.{block_graph, IsFormed}
use Rattle.supergraph.specs.declared.arcs.Arc.{Arc}
use Rattle.supergraph.specs.Stands.{with_word, with_graph}
use Rattle.cert_value.specs.declared.types.Element.{Element}
use Rattle.cert_value.specs.declared.types.YesBody.{YesBody}
use Rattle.log_check.specs.Blocks.{IsBlockRelation}
use Rattle.cert_check.specs.Inclusion.{element_arcs, starts_of, extensions_of, SubsumesIn}
use Rattle.shared_graphs.specs.declared.graphs.Graphs.{Graphs}
use Rattle.shared_graphs.specs.Memo.{AllTold}
use Rattle.shared_graphs.specs.Graphs.{block_at, AsTheyAre, HasGrown, HasNumber, IsGraphOf, IsStock}
use Rattle.shared_graphs.specs.GraphPairs.{FitsCovering}
use Rattle.shared_graphs.proofs.GraphsLemmas.{coverings_stay}
use Rattle.cert_check.specs.Supers.{block_len, held_arc, held_number, held_block, no_arc, IsBlock, IsStockIn, IsArcIn, HasWord, StandFor, IsGraphNumbered, IsLonger, AreSupers, IsEvidenceOrder}
use Rattle.cert_check.specs.declared.blocks.Numbered.{Numbered}
use Rattle.cert_check.specs.declared.elements.Supers.{Supers}
use Rattle.cert_check.specs.declared.orders.Order.{Order}

-- More graphs.
module _ (m : Mode) (A B : Automaton) (elements : List Element) (n : ℕ) (old new : Supers) (arcs : new.arcs.items ≡ old.arcs.items) (numbers : new.numbers.items ≡ old.numbers.items)
    (stock : IsStockIn m B new.graphs) (grown : HasGrown old.graphs.graphs.items new.graphs.graphs.items) where
  number_stays : (e : ℕ) → held_number new e ≡ held_number old e
  number_stays e = ap (λ xs. slice_index_or xs e 0) numbers

  block_stays : AreSupers m A B elements n old → (e : ℕ) → e < n → held_block new e ≡ held_block old e
  block_stays are e lt = ap (block_at new.graphs.graphs.items) (number_stays e) ∙ grown.same (held_number old e) (are.within e lt)

  pub supers_grown : AreSupers m A B elements n old → AreSupers m A B elements n new
  supers_grown are = record {
    count = ap length arcs ∙ are.count;
    size = ap length numbers ∙ are.size;
    stock = stock;
    within = λ e lt.
        let is = number_stays e in
        let before = are.within e lt in
        let size = grown.size in
        omega arith;
    each = λ e lt.
        subst (λ b. StandFor m A B (held_arc new e) b (arc_at A (element_arcs A elements) e)) (sym (block_stays are e lt))
        (subst (λ a. StandFor m A B a (held_block old e) (arc_at A (element_arcs A elements) e)) (sym (ap (λ xs. slice_index_or xs e no_arc) arcs)) (are.each e lt));
  }

-- One more arc and number.
module _ (m : Mode) (A B : Automaton) (elements : List Element) (n : ℕ) (old new : Supers) (it : Numbered)
    (arcs : new.arcs.items ≡ old.arcs.items ++ it.arc ∷ []) (numbers : new.numbers.items ≡ old.numbers.items ++ it.number ∷ [])
    (are : AreSupers m A B elements n old) (is : IsGraphNumbered m A B old.graphs new.graphs (arc_at A (element_arcs A elements) n) it) where
  number_before : (e : ℕ) → e < n → held_number new e ≡ held_number old e
  number_before e lt = ap (λ xs. slice_index_or xs e 0) numbers ∙ get_or_append_left old.numbers.items (it.number ∷ []) 0 e (omega (arith, are.size))

  number_last : held_number new n ≡ it.number
  number_last = ap (λ xs. slice_index_or xs n 0) numbers ∙ get_or_push old.numbers.items it.number 0 n are.size

  within_more : (e : ℕ) → e < n + 1 → held_number new e < length new.graphs.graphs.items
  within_more e lt = elim (cases_lt e n) [
    | inl before ↦
        let same = number_before e before in
        let there = are.within e before in
        let size = is.grown.size in
        omega arith
    | inr after ↦ let last : e ≡ n = omega arith in subst (λ k. held_number new k < length new.graphs.graphs.items) (sym last) (let same = number_last in let there = is.within in omega arith)
  ]

  stands_more : (e : ℕ) → e < n + 1 → StandFor m A B (held_arc new e) (held_block new e) (arc_at A (element_arcs A elements) e)
  stands_more e lt = elim (cases_lt e n) [
    | inl before ↦
        let same_arc : held_arc new e ≡ held_arc old e =
        ap (λ xs. slice_index_or xs e no_arc) arcs ∙ get_or_append_left old.arcs.items (it.arc ∷ []) no_arc e (omega (arith, are.count)) in
        let same_block : held_block new e ≡ held_block old e = ap (block_at new.graphs.graphs.items) (number_before e before) ∙ is.grown.same (held_number old e) (are.within e before) in
        subst (λ b. StandFor m A B (held_arc new e) b (arc_at A (element_arcs A elements) e)) (sym same_block)
        (subst (λ a. StandFor m A B a (held_block old e) (arc_at A (element_arcs A elements) e)) (sym same_arc) (are.each e before))
    | inr after ↦
        let last : e ≡ n = omega arith in
        let last_arc : held_arc new n ≡ it.arc = ap (λ xs. slice_index_or xs n no_arc) arcs ∙ get_or_push old.arcs.items it.arc no_arc n are.count in
        let last_block : held_block new n ≡ block_at new.graphs.graphs.items it.number = ap (block_at new.graphs.graphs.items) number_last in
        subst (λ k. StandFor m A B (held_arc new k) (held_block new k) (arc_at A (element_arcs A elements) k)) (sym last)
        (subst (λ b. StandFor m A B (held_arc new n) b (arc_at A (element_arcs A elements) n)) (sym last_block)
        (subst (λ a. StandFor m A B a (block_at new.graphs.graphs.items it.number) (arc_at A (element_arcs A elements) n)) (sym last_arc) is.stands))
  ]

  pub supers_more : AreSupers m A B elements (n + 1) new
  supers_more = record {
    count = ap length arcs ∙ length-append old.arcs.items (it.arc ∷ []) ∙ ap (λ k. k + 1) are.count;
    size = ap length numbers ∙ length-append old.numbers.items (it.number ∷ []) ∙ ap (λ k. k + 1) are.size;
    stock = is.stock;
    within = within_more;
    each = stands_more;
  }

-- The first arc of a transition.
pub base_stands : (A B : Automaton) (arc : Arc) (block : List ℕ) (t : ℕ) →
    with_word arc ((trans_at A t).label ∷ []) ≡ base_arc A (trans_at A t) → IsReal A (with_word arc ((trans_at A t).label ∷ [])) →
    IsFormed B.states block → SameGraph (block_graph B.states block) (letter_graph B (trans_at A t).label) → StandFor Buchi A B arc block (base_arc A (trans_at A t))
base_stands A B arc block t is real formed graph = record {
  real = subst (IsReal A) is real;
  arc = is;
  formed = formed;
  word = same_trans (block_graph B.states block) (letter_graph B (trans_at A t).label) (graph_of B ((trans_at A t).label ∷ [])) graph
      (same_sym (graph_of B ((trans_at A t).label ∷ [])) (letter_graph B (trans_at A t).label) (graph_of_letter B (trans_at A t).label));
}

-- The arc of the empty word.
pub start_stands : (A B : Automaton) (arc : Arc) (row : List ℕ) → A.initial < A.states → with_word arc [] ≡ start_arc A → IsRow B.states row → ((q : ℕ) → HasBit row q ↔ (q ≡ B.initial)) →
    StandFor Finite A B arc row (start_arc A)
start_stands A B arc row initial is formed alone = record {
  real = initial;
  arc = is;
  formed = formed;
  word = λ q. (
    λ has. (false, (sym ((alone q).0 has), refl)),
    λ (flag, run). (alone q).1 (sym run.0),
  );
}

-- What a word with one letter more leads to.
pub longer_graph : (B : Automaton) (old new w : List ℕ) (a : ℕ) → SameGraph (block_graph B.states new) (extended B (block_graph B.states old) a) → HasWord Buchi B old w → HasWord Buchi B new (w ++ a ∷ [])
longer_graph B old new w a graph h = same_trans (block_graph B.states new) (extended B (block_graph B.states old) a) (graph_of B (w ++ a ∷ [])) graph (same_more B (block_graph B.states old) w a h)

pub longer_set : (B : Automaton) (old new w : List ℕ) (a : ℕ) → ((q : ℕ) → HasBit new q ↔ set_after B (HasBit old) a q) → HasWord Finite B old w → HasWord Finite B new (w ++ a ∷ [])
longer_set B old new w a after h q = (
  λ has. (sets_extend B w a q).1 (let (m, from, move) = (after q).0 has in (m, (h m).0 from, move)),
  λ is. (after q).1 (let (m, from, move) = (sets_extend B w a q).0 is in (m, (h m).1 from, move)),
)

-- The longer arc.
longer_real : (m : Mode) (A : Automaton) (from arc : Arc) (x : WordArc) (t : ℕ) → IsAutomaton A → t < length A.transitions → with_word from x.word ≡ x →
    with_word arc (x.word ++ (trans_at A t).label ∷ []) ≡ extended_arc A x (trans_at A t) →
    ((w : List ℕ) → IsReal A (with_word from w) → IsReal A (with_word arc (w ++ (trans_at A t).label ∷ []))) → IsArcIn m A x → IsArcIn m A (extended_arc A x (trans_at A t))
longer_real Buchi A from arc x t valid lt was same keeps real = subst (IsReal A) same (keeps x.word (subst (IsReal A) (sym was) real))
longer_real Finite A from arc x t valid lt was same keeps real = (move_in_range A valid (trans_at A t).source (trans_at A t).label (trans_at A t).target (move_at A t lt)).1

pub longer_stands : (m : Mode) (A B : Automaton) (from arc : Arc) (old block : List ℕ) (x : WordArc) (t : ℕ) → IsAutomaton A → t < length A.transitions →
    ((w : List ℕ) → with_word arc (w ++ (trans_at A t).label ∷ []) ≡ extended_arc A (with_word from w) (trans_at A t)) →
    ((w : List ℕ) → IsReal A (with_word from w) → IsReal A (with_word arc (w ++ (trans_at A t).label ∷ []))) →
    IsBlock m B.states block → ((w : List ℕ) → HasWord m B old w → HasWord m B block (w ++ (trans_at A t).label ∷ [])) →
    StandFor m A B from old x → StandFor m A B arc block (extended_arc A x (trans_at A t))
longer_stands m A B from arc old block x t valid lt is keeps formed word stands =
    let same : with_word arc (x.word ++ (trans_at A t).label ∷ []) ≡ extended_arc A x (trans_at A t) = is x.word ∙ ap (λ y. extended_arc A y (trans_at A t)) stands.arc in
    record {
      real = longer_real m A from arc x t valid lt stands.arc same keeps stands.real;
      arc = same;
      formed = formed;
      word = word x.word stands.word;
    }

-- A graph that was given a number, in finite mode a set.
pub stock_at_first : (m : Mode) (B : Automaton) (graphs : Graphs) → graphs.graphs.words ≡ block_len m B.states → (graphs.graphs.words ≡ block_len Buchi B.states → IsStock B AsTheyAre graphs) → IsStockIn m B graphs
stock_at_first Buchi B graphs size stock = stock size
stock_at_first Finite B graphs size stock = size

pub start_numbered : (A B : Automaton) (old new : Graphs) (arc : Arc) (row : List ℕ) (k : ℕ) → IsStockIn Finite B new → HasNumber row old new k → StandFor Finite A B arc row (start_arc A) →
    IsGraphNumbered Finite A B old new (start_arc A) (record { arc = arc; number = k })
start_numbered A B old new arc row k stock has stands = record {
  stock = stock;
  grown = has.grown;
  within = has.there.within;
  stands = subst (λ b. StandFor Finite A B arc b (start_arc A)) (sym has.there.is) stands;
}

pub base_numbered : (A B : Automaton) (old new : Graphs) (arc : Arc) (t k : ℕ) →
    with_word arc ((trans_at A t).label ∷ []) ≡ base_arc A (trans_at A t) → IsReal A (with_word arc ((trans_at A t).label ∷ [])) →
    IsStock B AsTheyAre new → HasGrown old.graphs.items new.graphs.items → IsGraphOf B AsTheyAre (letter_graph B (trans_at A t).label) new.graphs.items k →
    IsGraphNumbered Buchi A B old new (base_arc A (trans_at A t)) (record { arc = arc; number = k })
base_numbered A B old new arc t k is real stock grown graph = record {
  stock = stock;
  grown = grown;
  within = graph.within;
  stands = base_stands A B arc (block_at new.graphs.items k) t is real graph.block.formed graph.block.stands;
}

pub set_longer : (B : Automaton) (old new : Graphs) (n a k : ℕ) (row : List ℕ) → IsStockIn Finite B new → HasNumber row old new k → IsRow B.states row →
    ((q : ℕ) → HasBit row q ↔ set_after B (HasBit (block_at old.graphs.items n)) a q) → IsLonger Finite B old new n a k
set_longer B old new n a k row stock has formed after = record {
  stock = stock;
  grown = has.grown;
  within = has.there.within;
  formed = subst (IsRow B.states) (sym has.there.is) formed;
  word = λ w h. subst (λ b. HasWord Finite B b (w ++ a ∷ [])) (sym has.there.is) (longer_set B (block_at old.graphs.items n) row w a after h);
}

graph_longer : (B : Automaton) (old new : Graphs) (n a k : ℕ) → IsStock B AsTheyAre new → HasGrown old.graphs.items new.graphs.items →
    IsGraphOf B AsTheyAre (extended B (block_graph B.states (block_at old.graphs.items n)) a) new.graphs.items k → IsLonger Buchi B old new n a k
graph_longer B old new n a k stock grown graph = record {
  stock = stock;
  grown = grown;
  within = graph.within;
  formed = graph.block.formed;
  word = λ w h. longer_graph B (block_at old.graphs.items n) (block_at new.graphs.items k) w a graph.block.stands h;
}

pub after_longer : {E : Type 0} (B : Automaton) (old new : Graphs) (n a : ℕ) (r : Result ℕ E) → IfOk r (λ _. IsStock B AsTheyAre new) → IfOk r (λ _. HasGrown old.graphs.items new.graphs.items) →
    IfOk r (IsGraphOf B AsTheyAre (extended B (block_graph B.states (block_at old.graphs.items n)) a) new.graphs.items) → IfOk r (IsLonger Buchi B old new n a)
after_longer B old new n a (Ok k) stock grown graph = graph_longer B old new n a k stock grown graph
after_longer B old new n a (Err e) stock grown graph = tt

pub longer_numbered : (m : Mode) (A B : Automaton) (old new : Graphs) (from : Numbered) (arc : Arc) (k : ℕ) (x : WordArc) (t : ℕ) → IsAutomaton A → t < length A.transitions →
    ((w : List ℕ) → with_word arc (w ++ (trans_at A t).label ∷ []) ≡ extended_arc A (with_word from.arc w) (trans_at A t)) →
    ((w : List ℕ) → IsReal A (with_word from.arc w) → IsReal A (with_word arc (w ++ (trans_at A t).label ∷ []))) →
    IsLonger m B old new from.number (trans_at A t).label k → StandFor m A B from.arc (block_at old.graphs.items from.number) x →
    IsGraphNumbered m A B old new (extended_arc A x (trans_at A t)) (record { arc = arc; number = k })
longer_numbered m A B old new from arc k x t valid lt is keeps longer stands = record {
  stock = longer.stock;
  grown = longer.grown;
  within = longer.within;
  stands = longer_stands m A B from.arc arc (block_at old.graphs.items from.number) (block_at new.graphs.items k) x t valid lt is keeps longer.formed longer.word stands;
}

-- What stands for arcs subsumes as they do.
pub graphs_alike : (A B : Automaton) (S : List (ℕ × ℕ)) (a b : Arc) (g h : List ℕ) (x y : WordArc) → StandFor Buchi A B a g x → StandFor Buchi A B b h y →
    Subsumes (Holds S) (with_graph a (block_graph B.states g)) (with_graph b (block_graph B.states h)) ↔ SubsumesIn Buchi B S x y
graphs_alike A B S a b g h x y s t = (
  λ c. record {
    from = sym (ap (λ (z : WordArc). z.from) s.arc) ∙ c.from ∙ ap (λ (z : WordArc). z.from) t.arc;
    to = sym (ap (λ (z : WordArc). z.to) s.arc) ∙ c.to ∙ ap (λ (z : WordArc). z.to) t.arc;
    flag = λ on. sym (ap (λ (z : WordArc). z.flag) s.arc) ∙ c.flag (ap (λ (z : WordArc). z.flag) t.arc ∙ on);
    covers = covers_alike (Holds S) (block_graph B.states g) (block_graph B.states h) (graph_of B x.word) (graph_of B y.word) s.word t.word c.covers;
  },
  λ c. record {
    from = ap (λ (z : WordArc). z.from) s.arc ∙ c.from ∙ sym (ap (λ (z : WordArc). z.from) t.arc);
    to = ap (λ (z : WordArc). z.to) s.arc ∙ c.to ∙ sym (ap (λ (z : WordArc). z.to) t.arc);
    flag = λ on. ap (λ (z : WordArc). z.flag) s.arc ∙ c.flag (sym (ap (λ (z : WordArc). z.flag) t.arc) ∙ on);
    covers = covers_alike (Holds S) (graph_of B x.word) (graph_of B y.word) (block_graph B.states g) (block_graph B.states h)
        (same_sym (block_graph B.states g) (graph_of B x.word) s.word) (same_sym (block_graph B.states h) (graph_of B y.word) t.word) c.covers;
  },
)

pub sets_alike : (A B : Automaton) (S : List (ℕ × ℕ)) (a b : Arc) (g h : List ℕ) (x y : WordArc) → StandFor Finite A B a g x → StandFor Finite A B b h y →
    ((a.to ≡ b.to) × IsCovered (Holds S) g h) ↔ SubsumesIn Finite B S x y
sets_alike A B S a b g h x y s t = (
  λ (same, covered). record {
    state = sym (ap (λ (z : WordArc). z.to) s.arc) ∙ same ∙ ap (λ (z : WordArc). z.to) t.arc;
    members = λ q is. let (r, has, rel) = covered q ((s.word q).1 is) in (r, (t.word r).0 has, rel);
  },
  λ c. (
    ap (λ (z : WordArc). z.to) s.arc ∙ c.state ∙ sym (ap (λ (z : WordArc). z.to) t.arc),
    λ q has. let (r, is, rel) = c.members q ((s.word q).0 has) in (r, (t.word r).1 is, rel),
  ),
)

-- Subsuming by relations with the same pairs.
by_more : (m : Mode) (B : Automaton) (S T : List (ℕ × ℕ)) → ((p q : ℕ) → Holds S p q → Holds T p q) → (x y : WordArc) → SubsumesIn m B S x y → SubsumesIn m B T x y
by_more Buchi B S T f x y c = record { from = c.from; to = c.to; flag = c.flag; covers = covers_more (Holds S) (Holds T) f (graph_of B x.word) (graph_of B y.word) c.covers }
by_more Finite B S T f x y c = pair_more (Holds S) (Holds T) f (pair_of B x) (pair_of B y) c

pub by_same : (m : Mode) (B : Automaton) (S T : List (ℕ × ℕ)) → ((p q : ℕ) → Holds S p q ↔ Holds T p q) → (x y : WordArc) → SubsumesIn m B S x y ↔ SubsumesIn m B T x y
by_same m B S T same x y = (by_more m B S T (λ p q. (same p q).0) x y, by_more m B T S (λ p q. (same p q).1) x y)

pub lassos_alike : (A B : Automaton) (a b : Arc) (g h : List ℕ) (x y : WordArc) (i : ℕ) → StandFor Buchi A B a g x → StandFor Buchi A B b h y →
    LassoIn (block_graph B.states g) (block_graph B.states h) i ↔ LassoIn (graph_of B x.word) (graph_of B y.word) i
lassos_alike A B a b g h x y i s t = lassos_both_ways (block_graph B.states g) (block_graph B.states h) (graph_of B x.word) (graph_of B y.word) i s.word t.word

-- Each element has an arc.
pub arcs_count : (A : Automaton) (elements : List Element) → length (element_arcs A elements) ≡ length elements
arcs_count A elements = length-arcs_of A (map (λ (x : Element). x.origin) elements) ∙ length-map elements (λ (x : Element). x.origin)

-- Real arcs end in states.
pub ends_in_state : (A : Automaton) → IsAutomaton A → (x : WordArc) → IsReal A x → x.to < A.states
ends_in_state A valid x real = by x.word real.reads real.run
  where
    by : (w : List ℕ) → 1 ≤ length w → Run A x.from w x.to x.flag → x.to < A.states
    by [] some run = absurd (omega arith)
    by (a ∷ w) some (next, later, move, rest, e) = run_in_range A valid next w x.to later (move_in_range A valid x.from a next move).1 rest

arc_ends : (m : Mode) (A : Automaton) → IsAutomaton A → (x : WordArc) → IsArcIn m A x → x.to < A.states
arc_ends Buchi A valid x real = ends_in_state A valid x real
arc_ends Finite A valid x real = real

pub held_ends : (m : Mode) (A B : Automaton) (held : Arc) (block : List ℕ) (x : WordArc) → IsAutomaton A → StandFor m A B held block x → held.to < A.states
held_ends m A B held block x valid stands = subst (λ s. s < A.states) (sym (ap (λ (z : WordArc). z.to) stands.arc)) (arc_ends m A valid x stands.real)

-- The arcs of one letter by the numbers of the transitions.
pub start_at : (A : Automaton) (t : ℕ) → t < length A.transitions → slice_index_or (starts_of A) t (start_arc A) ≡ base_arc A (trans_at A t)
start_at A t lt = get_or-map (base_arc A) A.transitions t (trans 0 0 0) (start_arc A) lt

pub starts_count : (A : Automaton) → length A.transitions ≡ length (starts_of A)
starts_count A = sym (length-map A.transitions (base_arc A))

-- The extensions by the numbers of the transitions out of the end.
module _ (A : Automaton) (x : WordArc) (begin end : ℕ) (out : IsOutgoing A x.to begin end) where
  leaving : filter (λ (t : Trans). t.source == x.to) A.transitions ≡ take (end - begin) (drop begin A.transitions)
  leaving = filter_segment (λ (t : Trans). t.source == x.to) A.transitions (trans 0 0 0) begin end out.is_range out.within
      (λ i i_in. ne_eqb (trans_at A i).source x.to (λ same. let lt = out.before i i_in in omega arith))
      (λ i i_from i_in. eq-eqb (trans_at A i).source x.to (out.inside i i_from i_in))
      (λ i i_from i_in. ne_eqb (trans_at A i).source x.to (λ same. let lt = out.after i i_from i_in in omega arith))

  pub extensions_count : length (extensions_of A x) ≡ end - begin
  extensions_count =
      let range = out.is_range in
      let within = out.within in
      let rest = length-drop begin A.transitions in
      length-map (filter (λ (t : Trans). t.source == x.to) A.transitions) (extended_arc A x) ∙ ap length leaving ∙ length-take-le (end - begin) (drop begin A.transitions) (omega arith)

  pub extension_at : (i : ℕ) → i < end - begin → slice_index_or (extensions_of A x) i (start_arc A) ≡ extended_arc A x (trans_at A (begin + i))
  extension_at i lt =
      ap (λ l. slice_index_or (map (extended_arc A x) l) i (start_arc A)) leaving
      ∙ get_or-map (extended_arc A x) (take (end - begin) (drop begin A.transitions)) i (trans 0 0 0) (start_arc A)
      (let range = out.is_range in let within = out.within in let rest = length-drop begin A.transitions in omega (arith, length-take-le (end - begin) (drop begin A.transitions) (omega arith)))
      ∙ ap (extended_arc A x) (get_or-take (end - begin) (drop begin A.transitions) i (trans 0 0 0) lt ∙ get_or-drop begin A.transitions i (trans 0 0 0))

  pub leaves_end : (i : ℕ) → i < end - begin → (begin + i < length A.transitions) × ((trans_at A (begin + i)).source ≡ x.to)
  leaves_end i lt = let within = out.within in (omega arith, out.inside (begin + i) (omega arith) (omega arith))

-- One fact about a value gives another.
pub if_ok_as : {T E : Type 0} (r : Result T E) (P Q : T → Type 0) → ((x : T) → P x → Q x) → IfOk r P → IfOk r Q
if_ok_as (Ok x) P Q f p = f x p
if_ok_as (Err e) P Q f p = tt

-- Two facts about a value give a third.
pub if_ok_both : {T E : Type 0} (r : Result T E) (P Q R : Type 0) → (P → Q → R) → IfOk r (λ _. P) → IfOk r (λ _. Q) → IfOk r (λ _. R)
if_ok_both (Ok x) P Q R f p q = f p q
if_ok_both (Err e) P Q R f p q = tt

pub any_ok : {T E : Type 0} (r : Result T E) (P : Type 0) → P → IfOk r (λ _. P)
any_ok (Ok x) P p = p
any_ok (Err e) P p = tt

-- The certificate's relation, and what is remembered of the graphs by it: with a list of the graphs under another name, after an answer
-- was noted, and with more graphs.
pub order_told : (B : Automaton) (evidence : YesBody) (graphs known : List (List ℕ)) (order : Order) → known ≡ graphs → IsEvidenceOrder B evidence graphs order →
    AllTold (FitsCovering order.rel.size order.rel.pairs known) order.covers.told.items
order_told B evidence graphs known order same is =
    subst (λ l. AllTold (FitsCovering order.rel.size order.rel.pairs l) order.covers.told.items) (sym same)
    (subst (λ n. AllTold (FitsCovering n order.rel.pairs graphs) order.covers.told.items) (sym is.relation.size) is.covers)

pub order_kept : (B : Automaton) (evidence : YesBody) (graphs known : List (List ℕ)) (old new : Order) → known ≡ graphs → new.rel ≡ old.rel → IsEvidenceOrder B evidence graphs old →
    AllTold (FitsCovering old.rel.size old.rel.pairs known) new.covers.told.items → IsEvidenceOrder B evidence graphs new
order_kept B evidence graphs known old new same rel is told = record {
  relation = subst (IsBlockRelation B.states evidence.order) (sym rel) is.relation;
  covers = subst (λ r. AllTold (FitsCovering B.states r.pairs graphs) new.covers.told.items) (sym rel)
      (subst (λ n. AllTold (FitsCovering n old.rel.pairs graphs) new.covers.told.items) is.relation.size
      (subst (λ l. AllTold (FitsCovering old.rel.size old.rel.pairs l) new.covers.told.items) same told));
}

pub order_grown : (B : Automaton) (evidence : YesBody) (old now : List (List ℕ)) (order : Order) → HasGrown old now → IsEvidenceOrder B evidence old order → IsEvidenceOrder B evidence now order
order_grown B evidence old now order grown is = record {
  relation = is.relation;
  covers = coverings_stay old now grown B.states order.rel.pairs order.covers.told.items is.covers;
}
