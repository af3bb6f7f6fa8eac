-- Arcs taken out of a row and put back, and what stays minimal.
use Rattle.std.proofs.Common.{◌≡◌, ℕ, ◌+◌, ◌*◌, ◌<◌, ◌≤◌, ◌↔◌, ◌⊎◌, inl, inr, Bool, true, false, List, ◌++◌, length, take, drop, refl, sym, ap, ◌∙◌, subst, arith}
use Rattle.std.proofs.Math.Seq.{take-append_seam, drop-append_seam}
use Rattle.std.proofs.lemmas.Bool.{cases_eq, cases_lt, false≢true}
use Rattle.auto_core.specs.Rows.{HasBit, HasCell, bit_of, cell_of}
use Rattle.auto_core.specs.Reach.{HasArc, IsTable}
use Rattle.auto_core.specs.Graph.{Graph, IsGraph, SameGraph, graph_of_tables}
use Rattle.auto_laws.proofs.GraphLemmas.{covers_trans, same_refl}
use Rattle.graph_rows.specs.Added.{HasAdded}
use Rattle.graph_rows.specs.Block.{IsFormed, block_graph, joined_plane, past_plane, width_of}
use Rattle.graph_rows.proofs.RowsLemmas.{formed_of_planes}
use Rattle.supergraph.specs.Minimal.{CoverEachOther, IsDominated, IsLessened, IsMinimal, IsPartOf, IsWithout}

-- ---- graphs

-- The ends of its arcs are such that S relates them to themselves.
abbrev pub HasOwnEnds : (ℕ → ℕ → Type 0) → Graph → Type 0
HasOwnEnds S g = (s t : ℕ) → g.joined s t → S t t

pub part_refl : (g : Graph) → IsPartOf g g
part_refl g = record { joined = λ s t arc. arc; past = λ s t arc. (λ h. h, λ h. h) }

pub lessened_refl : (S : ℕ → ℕ → Type 0) (g : Graph) → IsGraph g → HasOwnEnds S g → IsLessened S g g
lessened_refl S g is own = record {
  graph = is;
  part = part_refl g;
  covers = record { joined = λ s t arc. (t, arc, own s t arc); past = λ s t arc. (t, arc, own s t (is s t arc)) };
}

-- The same arcs with the same values.
pub lessened_same : (S : ℕ → ℕ → Type 0) (g h : Graph) → IsGraph g → HasOwnEnds S g → SameGraph g h → IsLessened S g h
lessened_same S g h is own same = record {
  graph = λ s t arc. (same.joined s t).0 (is s t ((same.past s t).1 arc));
  part = record { joined = λ s t arc. (same.joined s t).1 arc; past = λ s t arc. ((same.past s t).1, (same.past s t).0) };
  covers = record {
    joined = λ s t arc. (t, (same.joined s t).0 arc, own s t arc);
    past = λ s t arc. (t, (same.past s t).0 arc, own s t (is s t arc));
  };
}

pub part_trans : (g h k : Graph) → IsPartOf h g → IsPartOf k h → IsPartOf k g
part_trans g h k first second = record {
  joined = λ s t arc. first.joined s t (second.joined s t arc);
  past = λ s t arc.
      let two = second.past s t arc in
      let one = first.past s t (second.joined s t arc) in
      (λ h. one.0 (two.0 h), λ h. two.1 (one.1 h));
}

pub lessened_trans : (S : ℕ → ℕ → Type 0) → ((p q r : ℕ) → S p q → S q r → S p r) → (g h k : Graph) → IsLessened S g h → IsLessened S h k → IsLessened S g k
lessened_trans S joins g h k first second = record {
  graph = second.graph;
  part = part_trans g h k first.part second.part;
  covers = covers_trans S joins g h k first.covers second.covers;
}

-- What is left out of a graph is covered, and what is left covers itself.
pub lessened_covers : (S : ℕ → ℕ → Type 0) (g h : Graph) → HasOwnEnds S g → IsGraph g → IsLessened S g h → CoverEachOther S g h
lessened_covers S g h own is less = record {
  forth = less.covers;
  back = record {
    joined = λ s t arc. let was = less.part.joined s t arc in (t, was, own s t was);
    past = λ s t arc. let was = (less.part.past s t (less.graph s t arc)).0 arc in (t, was, own s t (is s t was));
  };
}

-- An arc that is dominated in the part is so in the whole.
pub dominated_before : (S : ℕ → ℕ → Type 0) (part whole : Graph) → IsPartOf part whole → (s t : ℕ) → part.joined s t → IsDominated S part s t → IsDominated S whole s t
dominated_before S part whole is s t arc d = record {
  other = d.other;
  differs = d.differs;
  arc = is.joined s d.other d.arc;
  related = d.related;
  value = λ past. (is.past s d.other d.arc).0 (d.value ((is.past s t arc).1 past));
}

-- ---- bits

-- What holds of the bits below a place holds of those up to the next bit too.
pub bits_more :
    (P : ℕ → Type 0) (row : List ℕ) (at bit : ℕ)
    → ((k : ℕ) → at ≤ k → k < bit → bit_of row k ≡ false)
    → P bit
    → ((j : ℕ) → j < at → HasBit row j → P j)
    → (j : ℕ)
    → j < bit + 1
    → HasBit row j
    → P j
bits_more P row at bit none here before j below own =
    elim (cases_eq j bit) [
      | inl e ↦ subst P (sym e) here
      | inr n ↦ elim (cases_lt j at) [
        | inl early ↦ before j early own
        | inr late ↦ absurd (false≢true (sym (none j late (omega arith)) ∙ own))
      ]
    ]

-- What holds of the bits below a place behind which there is none holds of all.
pub bits_all :
    (P : ℕ → Type 0) (row : List ℕ) (at : ℕ)
    → ((k : ℕ) → at ≤ k → bit_of row k ≡ false)
    → ((j : ℕ) → j < at → HasBit row j → P j)
    → (j : ℕ)
    → HasBit row j
    → P j
bits_all P row at none before j own = elim (cases_lt j at) [
  | inl early ↦ before j early own
  | inr late ↦ absurd (false≢true (sym (none j late) ∙ own))
]

-- ---- tables

is_cell : (row target r s : ℕ) → ((r ≡ row) × (s ≡ target)) ⊎ ¬ ((r ≡ row) × (s ≡ target))
is_cell row target r s =
    elim (cases_eq r row) [
      | inl e ↦ elim (cases_eq s target) [ inl f ↦ inl (e, f) | inr n ↦ inr (λ both. n both.1) ]
      | inr n ↦ inr (λ both. n both.0)
    ]

module _ (width row target : ℕ) (old new : List ℕ) (without : IsWithout width row target old new) where
  cell_differs : (r s : ℕ) → HasCell new width r s → ¬ ((r ≡ row) × (s ≡ target))
  cell_differs r s cell (e, f) =
      let F : ℕ → Type 0 = λ k. HasCell new width k s in
      let G : ℕ → Type 0 = λ k. HasCell new width row k in
      false≢true (sym without.here ∙ subst G f (subst F e cell))

  cell_was : (r s : ℕ) → s < width * 64 → HasCell new width r s → HasCell old width r s
  cell_was r s s_in cell = sym (without.others r s s_in (cell_differs r s cell)) ∙ cell

  pub table_without : (n : ℕ) → IsTable old n width → length new ≡ length old → IsTable new n width
  table_without n is len = record {
    len = len ∙ is.len;
    room = is.room;
    columns = λ p q p_in q_in cell. is.columns p q p_in q_in (cell_was p q q_in cell);
  }

  arc_was : (n : ℕ) → n ≤ width * 64 → (r s : ℕ) → HasArc new n width r s → HasArc old n width r s
  arc_was n room r s (r_in, s_in, cell) = (r_in, s_in, cell_was r s (omega arith) cell)

  arc_stays : (n : ℕ) → n ≤ width * 64 → (r s : ℕ) → HasArc old n width r s → ¬ ((r ≡ row) × (s ≡ target)) → HasArc new n width r s
  arc_stays n room r s (r_in, s_in, cell) apart = (r_in, s_in, without.others r s (omega arith) apart ∙ cell)

  -- The cell is put back if it was there.
  cells_back :
      (Q : ℕ → Type 0) (back : List ℕ)
      → ((q : ℕ) → Q q ↔ ((q ≡ target) × HasCell old width row target))
      → HasAdded width row Q new back
      → (r s : ℕ)
      → s < width * 64
      → HasCell back width r s ↔ HasCell old width r s
  cells_back Q back is added r s s_in =
      elim (cases_eq r row) [
        | inl e ↦ subst (λ k. HasCell back width k s ↔ HasCell old width k s) (sym e) (there, again)
        | inr n ↦
            let other : cell_of back width r s ≡ cell_of old width r s = added.others r s s_in n ∙ without.others r s s_in (λ both. n both.0) in
            (λ c. sym other ∙ c, λ c. other ∙ c)
      ]
    where
      there : HasCell back width row s → HasCell old width row s
      there cell =
          elim ((added.here s s_in).0 cell) [
            | inl was ↦ cell_was row s s_in was
            | inr new ↦ let (e, old_cell) = (is s).0 new in subst (λ k. HasCell old width row k) (sym e) old_cell
          ]

      again : HasCell old width row s → HasCell back width row s
      again cell =
          elim (cases_eq s target) [
            | inl e ↦ (added.here s s_in).1 (inr ((is s).1 (e, subst (λ k. HasCell old width row k) e cell)))
            | inr n ↦ (added.here s s_in).1 (inl (without.others row s s_in (λ both. n both.1) ∙ cell))
          ]

-- Tables with the same cells.
abbrev pub SameCells : ℕ → List ℕ → List ℕ → Type 0
SameCells width new old = (r s : ℕ) → s < width * 64 → HasCell new width r s ↔ HasCell old width r s

pub table_same : (n width : ℕ) (old new : List ℕ) → IsTable old n width → length new ≡ length old → SameCells width new old → IsTable new n width
table_same n width old new is len same = record {
  len = len ∙ is.len;
  room = is.room;
  columns = λ p q p_in q_in cell. is.columns p q p_in q_in ((same p q q_in).0 cell);
}

pub graph_same :
    (n width : ℕ) (joined past joined' past' : List ℕ)
    → n ≤ width * 64
    → SameCells width joined' joined
    → SameCells width past' past
    → SameGraph (graph_of_tables joined past n width) (graph_of_tables joined' past' n width)
graph_same n width joined past joined' past' room first second = record {
  joined = λ s t. (
    λ (s_in, t_in, cell). (s_in, t_in, (first s t (omega arith)).1 cell),
    λ (s_in, t_in, cell). (s_in, t_in, (first s t (omega arith)).0 cell),
  );
  past = λ s t. (
    λ (s_in, t_in, cell). (s_in, t_in, (second s t (omega arith)).1 cell),
    λ (s_in, t_in, cell). (s_in, t_in, (second s t (omega arith)).0 cell),
  );
}

either : (flag : Bool) {X Y : Type 0} → (flag ≡ false → X) → (flag ≡ true → Y) → (Y → X) → X
either false first second weaker = first refl
either true first second weaker = weaker (second refl)

-- The arc is taken out of both tables, and another answers it.
pub lessened_without :
    (S : ℕ → ℕ → Type 0) (n width row target : ℕ) (joined past joined' past' : List ℕ) (flag : Bool)
    → ((p : ℕ) → p < n → S p p)
    → n ≤ width * 64
    → IsGraph (graph_of_tables joined past n width)
    → IsWithout width row target joined joined'
    → IsWithout width row target past past'
    → flag ≡ cell_of past width row target
    → (flag ≡ false → (u : ℕ) × HasArc joined' n width row u × S target u)
    → (flag ≡ true → (u : ℕ) × HasArc past' n width row u × S target u)
    → IsLessened S (graph_of_tables joined past n width) (graph_of_tables joined' past' n width)
lessened_without S n width row target joined past joined' past' flag own room within first second is any marked =
    record {
      graph = graph;
      part = record {
        joined = arc_was width row target joined joined' first n room;
        past = λ s t arc. (
          arc_was width row target past past' second n room s t,
          λ was. arc_stays width row target past past' second n room s t was (cell_differs width row target joined joined' first s t arc.2),
        );
      };
      covers = record {
        joined = λ s t arc.
            elim (is_cell row target s t) [
              | inl (e, f) ↦
                  let (u, out, above) = answer in
                  (u, subst (λ k. HasArc joined' n width k u) (sym e) out, subst (λ k. S k u) (sym f) above)
              | inr apart ↦ (t, arc_stays width row target joined joined' first n room s t arc apart, own t arc.1)
            ];
        past = λ s t arc.
            elim (is_cell row target s t) [
              | inl (e, f) ↦
                  let cell : HasCell past width row target = subst (λ k. HasCell past width row k) f (subst (λ k. HasCell past width k t) e arc.2) in
                  let (u, out, above) = marked (is ∙ cell) in
                  (u, subst (λ k. HasArc past' n width k u) (sym e) out, subst (λ k. S k u) (sym f) above)
              | inr apart ↦ (t, arc_stays width row target past past' second n room s t arc apart, own t arc.1)
            ];
      };
    }
  where
    graph : IsGraph (graph_of_tables joined' past' n width)
    graph s t arc =
        arc_stays width row target joined joined' first n room s t (within s t (arc_was width row target past past' second n room s t arc))
        (cell_differs width row target past past' second s t arc.2)

    answer : (u : ℕ) × HasArc joined' n width row u × S target u
    answer = either flag any marked (λ (u, out, above). (u, graph row u out, above))

-- A cell is put back where it was.
pub joined_back :
    (width row target : ℕ) (old new back : List ℕ)
    → IsWithout width row target old new
    → HasCell old width row target
    → HasAdded width row (λ q. q ≡ target) new back
    → SameCells width back old
joined_back width row target old new back without cell = cells_back width row target old new without (λ q. q ≡ target) back (λ q. (λ e. (e, cell), λ both. both.0))

pub past_back :
    (width row target : ℕ) (old new back : List ℕ) (flag : Bool)
    → IsWithout width row target old new
    → flag ≡ cell_of old width row target
    → HasAdded width row (λ q. (q ≡ target) × (flag ≡ true)) new back
    → SameCells width back old
past_back width row target old new back flag without is =
    cells_back width row target old new without (λ q. (q ≡ target) × (flag ≡ true)) back (λ q. (λ both. (both.0, sym is ∙ both.1), λ both. (both.0, is ∙ both.1)))

-- A target that no other arc answers is answered by none but itself once its own arc is back.
kept_is_minimal :
    (S : ℕ → ℕ → Type 0) (n width row target : ℕ) (old new back : List ℕ)
    → n ≤ width * 64
    → IsWithout width row target old new
    → SameCells width back old
    → ((u : ℕ) → HasArc new n width row u → S target u → ⊥)
    → (u : ℕ)
    → ¬ (u ≡ target)
    → HasArc back n width row u
    → S target u
    → ⊥
kept_is_minimal S n width row target old new back room without same none u differs (row_in, u_in, cell) above =
    none u (arc_stays width row target old new without n room row u (row_in, u_in, (same row u (omega arith)).0 cell) (λ both. differs both.1)) above

-- The arc was put back since no other answers it: then it is not dominated.
pub back_is_minimal :
    (S : ℕ → ℕ → Type 0) (n width row target : ℕ) (joined past joined' past' joined'' past'' : List ℕ) (flag : Bool)
    → n ≤ width * 64
    → IsWithout width row target joined joined'
    → IsWithout width row target past past'
    → SameCells width joined'' joined
    → SameCells width past'' past
    → flag ≡ cell_of past width row target
    → (flag ≡ false → (u : ℕ) → HasArc joined' n width row u → S target u → ⊥)
    → (flag ≡ true → (u : ℕ) → HasArc past' n width row u → S target u → ⊥)
    → HasArc joined'' n width row target
    → IsDominated S (graph_of_tables joined'' past'' n width) row target
    → ⊥
back_is_minimal S n width row target joined past joined' past' joined'' past'' flag room first second same_joined same_past is any marked arc d =
    either flag {X = ⊥} {Y = ⊥} (λ e. kept_is_minimal S n width row target joined joined' joined'' room first same_joined (any e) d.other d.differs d.arc d.related)
    (λ e.
    let there : HasArc past'' n width row target = (arc.0, arc.1, (same_past row target (omega arith)).1 (sym is ∙ e)) in
    kept_is_minimal S n width row target past past' past'' room second same_past (marked e) d.other d.differs (d.value there) d.related)
    (λ never. never)

-- Two planes, one after the other, in place of the block.
block_of_planes :
    (F : Graph → Type 0) (n : ℕ) (joined past : List ℕ)
    → IsTable joined n (width_of n)
    → F (graph_of_tables joined past n (width_of n))
    → F (block_graph n (joined ++ past))
block_of_planes F n joined past is fact =
    let first : joined_plane n (joined ++ past) ≡ joined = ap (λ k. take k (joined ++ past)) (sym is.len) ∙ take-append_seam joined past in
    let second : past_plane n (joined ++ past) ≡ past = ap (λ k. drop k (joined ++ past)) (sym is.len) ∙ drop-append_seam joined past in
    subst (λ t. F (graph_of_tables t (past_plane n (joined ++ past)) n (width_of n))) (sym first)
    (subst (λ t. F (graph_of_tables joined t n (width_of n))) (sym second) fact)

pub minimised :
    (S : ℕ → ℕ → Type 0) (n width : ℕ) (g a b joined past : List ℕ)
    → ((p : ℕ) → p < n → S p p)
    → IsFormed n g
    → width ≡ width_of n
    → a ≡ take (n * width) g
    → b ≡ drop (n * width) g
    → IsTable joined n width
    → IsTable past n width
    → IsLessened S (graph_of_tables a b n width) (graph_of_tables joined past n width)
    → IsMinimal S (graph_of_tables joined past n width)
    → length (joined ++ past) ≡ 2 * n * width_of n
    → IsFormed n (joined ++ past)
    × CoverEachOther S (block_graph n g) (block_graph n (joined ++ past))
    × IsPartOf (block_graph n (joined ++ past)) (block_graph n g)
    × IsMinimal S (block_graph n (joined ++ past))
minimised S n width g a b joined past own formed is front back one two lessened none len =
    let from_front = subst (λ t. IsLessened S (graph_of_tables t b n width) (graph_of_tables joined past n width)) front lessened in
    let from_g = subst (λ t. IsLessened S (graph_of_tables (take (n * width) g) t n width) (graph_of_tables joined past n width)) back from_front in
    let F : ℕ → Type 0 = λ k. IsTable joined n k
    × IsTable past n k
    × IsLessened S (graph_of_tables (take (n * k) g) (drop (n * k) g) n k) (graph_of_tables joined past n k)
    × IsMinimal S (graph_of_tables joined past n k) in
    let (first, second, less, minimal) = subst F is (one, two, from_g, none) in
    let planes = graph_of_tables joined past n (width_of n) in
    let old = block_graph n g in (
      (formed_of_planes n planes joined past less.graph first second (same_refl planes) len).0,
      block_of_planes (CoverEachOther S old) n joined past first (lessened_covers S old planes (λ s t arc. own t arc.1) formed.within less),
      block_of_planes (λ h. IsPartOf h old) n joined past first less.part,
      block_of_planes (IsMinimal S) n joined past first minimal,
    )
