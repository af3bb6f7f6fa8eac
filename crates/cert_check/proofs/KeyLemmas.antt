-- Elements with the same key are the same supergraph, in finite mode the same pair, and the other way round.
use Rattle.std.proofs.Common.{◌≡◌, ◌↔◌, ◌⊎◌, ℕ, ◌+◌, ◌*◌, ◌/◌, ◌%◌, ◌<◌, ◌==◌, Bool, true, false, cond, inl, inr, List, [], ◌∷◌, ◌++◌, length, get_or, slice_index_or, refl, sym, ap, ◌∙◌, subst, arith}
use Rattle.std.specs.Int.{bit_at}
use Rattle.std.specs.Cmp.{both_ways}
use Rattle.std.specs.BTreeSet.{BTreeSet}
use Rattle.std.specs.Cmp.Lexicographic.{slice_cmp}
use Rattle.std.specs.Ordering.{nat_cmp, is_eq}
use Rattle.std.specs.Str.{bytes_eq}
use Rattle.std.proofs.lemmas.Map.Text.{is_eq-slice_cmp}
use Rattle.std.proofs.lemmas.Slice.Eq.{bytes_eq-Decides}
use Rattle.std.proofs.lemmas.Bool.{cases_eq, eqb-true, eq-eqb, false≢true}
use Rattle.std.proofs.lemmas.Grind.{same_number_lists}
use Rattle.std.proofs.lemmas.List.{take-append-drop}
use Rattle.std.proofs.lemmas.Nat.Bits.{bit_at-lt, same_from_bits_below}
use Rattle.auto_core.specs.Automaton.{Automaton}
use Rattle.auto_core.specs.Rows.{HasBit, bit_of}
use Rattle.auto_core.specs.Graph.{WordArc, SameGraph, graph_of, arc_at}
use Rattle.auto_core.specs.declared.parts.Mode.{Mode}
use Rattle.auto_core.specs.declared.parts.Mode.TheVariants.{Buchi, Finite}
use Rattle.auto_laws.proofs.GraphLemmas.{same_sym, same_trans}
use Rattle.graph_rows.specs.Block.{block_graph, plane_len, joined_plane, past_plane}
use Rattle.graph_rows.proofs.SameLemmas.{joined_same, past_same}
use Rattle.set_rows.specs.Sets.{IsRow}
use Rattle.supergraph.specs.declared.arcs.Arc.{Arc}
use Rattle.supergraph.specs.Stands.{with_word}
use Rattle.cert_value.specs.declared.types.Element.{Element}
use Rattle.cert_check.specs.Inclusion.{element_arcs}
use Rattle.cert_check.specs.Listing.{SameIn, DiffersFromEarlier}
use Rattle.cert_check.specs.Supers.{StandFor, AreSupers, held_arc, held_block, held_number, key_of, key_at, flag_word, Fit, Key, has_key, HasKey}
use Rattle.cert_check.specs.Firsts.{AreFirsts}
use Rattle.cert_check.proofs.FirstLemmas.{alike_by_firsts}
use Rattle.cert_check.specs.declared.elements.Supers.{Supers}

flag_of_word : (a b : Bool) → flag_word a ≡ flag_word b → a ≡ b
flag_of_word false false e = refl
flag_of_word false true e = let z : 0 ≡ 1 = e in absurd (omega arith)
flag_of_word true false e = let z : 1 ≡ 0 = e in absurd (omega arith)
flag_of_word true true e = refl

-- Rows with the same bits are equal.
same_bit : (x y : ℕ) → x < 2 → y < 2 → (x == 1) ≡ (y == 1) → x ≡ y
same_bit x y x_bit y_bit same = elim (cases_eq x 1) [
  | inl e ↦ e ∙ sym (eqb-true y 1 (sym same ∙ eq-eqb x 1 e))
  | inr n ↦ elim (cases_eq y 1) [
    | inl f ↦ absurd (n (eqb-true x 1 (same ∙ eq-eqb y 1 f)))
    | inr m ↦ omega arith
  ]
]

same_row : (n : ℕ) (a b : List ℕ) → IsRow n a → IsRow n b → Fit a → Fit b → ((q : ℕ) → HasBit a q ↔ HasBit b q) → a ≡ b
same_row n a b first second a_fit b_fit same = same_number_lists a b (first.len ∙ sym second.len) (λ k k_in.
    same_from_bits_below 64 (get_or a k 0) (get_or b k 0) (a_fit k) (b_fit k) (λ i i_in.
    let q : ℕ = k * 64 + i in
    let word : q / 64 ≡ k = omega arith in
    let place : q % 64 ≡ i = omega arith in
    let of : (row : List ℕ) → bit_of row q ≡ (bit_at (get_or row k 0) i == 1) =
    λ row. ap (λ j. bit_at (get_or row j 0) (q % 64) == 1) word ∙ ap (λ j. bit_at (get_or row k 0) j == 1) place in
    same_bit (bit_at (get_or a k 0) i) (bit_at (get_or b k 0) i) (bit_at-lt (get_or a k 0) i) (bit_at-lt (get_or b k 0) i)
    (sym (of a) ∙ both_ways (bit_of a q) (bit_of b q) (same q).0 (same q).1 ∙ of b)))

-- Blocks with the same graph are equal.
module _ (A B : Automaton) (a b : Arc) (g h : List ℕ) (i j : ℕ) (x y : WordArc) where
  same_block : StandFor Buchi A B a g x → StandFor Buchi A B b h y → Fit g → Fit h → SameGraph (graph_of B x.word) (graph_of B y.word) → g ≡ h
  same_block s t g_fit h_fit same =
      let n : ℕ = B.states in
      let graphs : SameGraph (block_graph n g) (block_graph n h) =
      same_trans (block_graph n g) (graph_of B x.word) (block_graph n h) s.word
      (same_trans (graph_of B x.word) (graph_of B y.word) (block_graph n h) same (same_sym (block_graph n h) (graph_of B y.word) t.word)) in
      sym (take-append-drop (plane_len n) g)
      ∙ ap (λ l. l ++ past_plane n g) (joined_same n g h s.formed t.formed g_fit h_fit graphs)
      ∙ ap (λ l. joined_plane n h ++ l) (past_same n g h s.formed t.formed g_fit h_fit graphs)
      ∙ take-append-drop (plane_len n) h

  same_words : StandFor Buchi A B a g x → StandFor Buchi A B b h y → g ≡ h → SameGraph (graph_of B x.word) (graph_of B y.word)
  same_words s t same =
      let n : ℕ = B.states in
      same_trans (graph_of B x.word) (block_graph n g) (graph_of B y.word) (same_sym (block_graph n g) (graph_of B x.word) s.word)
      (subst (λ l. SameGraph (block_graph n l) (graph_of B y.word)) (sym same) t.word)

  by_arc : (m : Mode) → StandFor m A B a g x → StandFor m A B b h y → (X : Type 0) (f : WordArc → X) → f x ≡ f y →
      f (with_word a x.word) ≡ f (with_word b y.word)
  by_arc m s t X f same = ap f s.arc ∙ same ∙ sym (ap f t.arc)

  back_by_arc : (m : Mode) → StandFor m A B a g x → StandFor m A B b h y → (X : Type 0) (f : WordArc → X) →
      f (with_word a x.word) ≡ f (with_word b y.word) → f x ≡ f y
  back_by_arc m s t X f same = sym (ap f s.arc) ∙ same ∙ ap f t.arc

  -- Equal keys stand for the same.
  pub same_from_keys : (m : Mode) → StandFor m A B a g x → StandFor m A B b h y → (i ≡ j → g ≡ h) → key_of m a i ≡ key_of m b j → SameIn m B x y
  same_from_keys Buchi s t blocks same = record {
    from = back_by_arc Buchi s t ℕ (λ z. z.from) (ap (λ l. slice_index_or l 1 0) same);
    to = back_by_arc Buchi s t ℕ (λ z. z.to) (ap (λ l. slice_index_or l 2 0) same);
    flag = back_by_arc Buchi s t Bool (λ z. z.flag) (flag_of_word a.accepting b.accepting (ap (λ l. slice_index_or l 3 0) same));
    graph = same_words s t (blocks (ap (λ l. slice_index_or l 0 0) same));
  }
  same_from_keys Finite s t blocks same =
      let rows : g ≡ h = blocks (ap (λ l. slice_index_or l 0 0) same) in
      record {
        state = back_by_arc Finite s t ℕ (λ z. z.to) (ap (λ l. slice_index_or l 2 0) same);
        members = λ q. (
          λ is. (t.word q).0 (subst (λ l. HasBit l q) rows ((s.word q).1 is)),
          λ is. (s.word q).0 (subst (λ l. HasBit l q) (sym rows) ((t.word q).1 is)),
        );
      }

  -- The same have equal keys.
  pub keys_from_same : (m : Mode) → StandFor m A B a g x → StandFor m A B b h y → Fit g → Fit h → (g ≡ h → i ≡ j) → SameIn m B x y → key_of m a i ≡ key_of m b j
  keys_from_same Buchi s t g_fit h_fit firsts same =
      let from : a.from ≡ b.from = by_arc Buchi s t ℕ (λ z. z.from) same.from in
      let to : a.to ≡ b.to = by_arc Buchi s t ℕ (λ z. z.to) same.to in
      let flag : a.accepting ≡ b.accepting = by_arc Buchi s t Bool (λ z. z.flag) same.flag in
      ap (λ k. k ∷ a.from ∷ a.to ∷ flag_word a.accepting ∷ []) (firsts (same_block s t g_fit h_fit same.graph))
      ∙ ap (λ k. j ∷ k ∷ a.to ∷ flag_word a.accepting ∷ []) from
      ∙ ap (λ k. j ∷ b.from ∷ k ∷ flag_word a.accepting ∷ []) to
      ∙ ap (λ f. j ∷ b.from ∷ b.to ∷ flag_word f ∷ []) flag
  keys_from_same Finite s t g_fit h_fit firsts same =
      let to : a.to ≡ b.to = by_arc Finite s t ℕ (λ z. z.to) same.state in
      let rows : g ≡ h = same_row B.states g h s.formed t.formed g_fit h_fit (λ q. (
        λ has. (t.word q).1 ((same.members q).0 ((s.word q).0 has)),
        λ has. (s.word q).1 ((same.members q).1 ((t.word q).0 has)),
      )) in
      ap (λ k. k ∷ 0 ∷ a.to ∷ 0 ∷ []) (firsts rows) ∙ ap (λ k. j ∷ 0 ∷ k ∷ 0 ∷ []) to

-- The keys of all elements.
module _ (m : Mode) (A B : Automaton) (elements : List Element) (S : Supers) (are : AreSupers m A B elements (length elements) S) (firsts : List ℕ) (are_firsts : AreFirsts S.graphs.graphs.items firsts) where
  abbrev first_of : ℕ → ℕ
  first_of d = slice_index_or firsts (held_number S d) 0

  blocks_alike : (d e : ℕ) → d < length elements → e < length elements → (first_of d ≡ first_of e) ↔ (held_block S d ≡ held_block S e)
  blocks_alike d e d_in e_in = alike_by_firsts S.graphs.graphs.items firsts are_firsts (held_number S d) (held_number S e) (are.within d d_in) (are.within e e_in)

  pub differs_by_keys : (e : ℕ) → e < length elements → ((d : ℕ) → d < e → Fit (held_block S d)) → Fit (held_block S e) →
      ((d : ℕ) → d < e → key_at m S firsts d ≡ key_at m S firsts e → ⊥) → DiffersFromEarlier m A B elements e
  differs_by_keys e lt fits fit differ d before same =
      let d_in : d < length elements = omega arith in
      differ d before (keys_from_same A B (held_arc S d) (held_arc S e) (held_block S d) (held_block S e) (first_of d) (first_of e)
      (arc_at A (element_arcs A elements) d) (arc_at A (element_arcs A elements) e) m (are.each d d_in) (are.each e lt) (fits d before) fit (blocks_alike d e d_in lt).1 same)

  pub same_by_keys : (d e : ℕ) → d < e → e < length elements → key_at m S firsts d ≡ key_at m S firsts e → DiffersFromEarlier m A B elements e → ⊥
  same_by_keys d e before lt same new =
      let d_in : d < length elements = omega arith in
      new d before (same_from_keys A B (held_arc S d) (held_arc S e) (held_block S d) (held_block S e) (first_of d) (first_of e)
      (arc_at A (element_arcs A elements) d) (arc_at A (element_arcs A elements) e) m (are.each d d_in) (are.each e lt) (blocks_alike d e d_in lt).0 same)

-- A set with one key more.
pub one_added : (old new : BTreeSet Key) (key : Key) → ((q : Key) → has_key new q ≡ cond (is_eq (slice_cmp nat_cmp key q)) true (has_key old q)) →
    (other : Key) → HasKey new other ↔ (HasKey old other ⊎ (other ≡ key))
one_added old new key updates other = by (bytes_eq key other) (bytes_eq-Decides key other)
    (updates other ∙ ap (λ b. cond b true (has_key old other)) (is_eq-slice_cmp key other))
  where
    by : (b : Bool) → ((b ≡ true) ↔ (key ≡ other)) → has_key new other ≡ cond b true (has_key old other) → HasKey new other ↔ (HasKey old other ⊎ (other ≡ key))
    by true same is = (λ _. inr (sym (same.0 refl)), λ _. is)
    by false same is = (
      λ has. inl (sym is ∙ has),
      λ either. elim either [ inl has ↦ is ∙ has | inr e ↦ absurd (false≢true (same.1 (sym e))) ],
    )
