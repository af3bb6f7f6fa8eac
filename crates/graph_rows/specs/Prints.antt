-- Prints of graphs: what they say of pairs of states, the same pairs for all graphs of n states, by
-- bits.
use Rattle.std.specs.Prelude.{◌≡◌, ℕ, ◌+◌, ◌*◌, ◌/◌, ◌%◌, ◌<◌, ◌≤◌, ◌⊎◌, ◌==◌, Bool, true, false, List, [], ◌∷◌, length}
use Rattle.auto_core.specs.Rows.{HasBit, bit_of}
use Rattle.auto_core.specs.Graph.{Graph}
use Rattle.graph_rows.specs.Block.{block_graph}
use Rattle.graph_rows.specs.declared.prints.PairBits.{PairBits}
use Rattle.graph_rows.specs.declared.prints.Print.{Print}
use Rattle.graph_rows.specs.declared.prints.TheConstants.{MOST_FOLDED, SOURCE_STEP, TARGET_STEP}

-- The bit that the pair shares with others.
abbrev pub folded_bit : ℕ → ℕ → ℕ
folded_bit p q = (p * 15 + q) % 64

-- The state at which the j-th multiple of the step falls, where the numbers below 2^32 are spread
-- over the n states.
abbrev pub spread : ℕ → ℕ → ℕ → ℕ
spread n step j = j * step % 4294967296 * n / 4294967296

-- The picked pair with the number j, and whether it is asked for past an accepting state.
abbrev pub picked_source : ℕ → ℕ → ℕ
picked_source n j = spread n SOURCE_STEP j

abbrev pub picked_target : ℕ → ℕ → ℕ
picked_target n j = spread n TARGET_STEP j

abbrev pub is_past : ℕ → Bool
is_past j = j % 2 == 1

-- The pairs of the graph that are joined, or those joined past an accepting state.
abbrev pub joined_pairs : Graph → Bool → ℕ → ℕ → Type 0
joined_pairs g false s t = g.joined s t
joined_pairs g true s t = g.past s t

-- The graph has no answer to the pair: no arc from the same state to a state that S relates the
-- target to.
abbrev pub HasNoAnswer : (ℕ → ℕ → Type 0) → Graph → Bool → ℕ → ℕ → Type 0
HasNoAnswer S g past p q = (u : ℕ) → joined_pairs g past p u → S q u → ⊥

-- The bit j is asked about the picked pair with this number.
abbrev pub IsPicked : ℕ → ℕ → Bool → ℕ → ℕ → Type 0
IsPicked n j past p q =
    (1 ≤ n) × (past ≡ is_past j) × (p ≡ picked_source n j) × (q ≡ picked_target n j)

-- The bit j is asked about each pair that has it, where there are few states.
abbrev pub IsFolded : ℕ → ℕ → Bool → ℕ → ℕ → Type 0
IsFolded n j past p q =
    (n ≤ MOST_FOLDED) × (p < n) × (q < n) × (past ≡ false) × (folded_bit p q ≡ j)

-- A bit of `own` is asked about some pair that the graph has, and a bit that `answered` has not is
-- asked about pairs that the graph has no answer to.
abbrev pub HasOwn : (ℕ → Bool → ℕ → ℕ → Type 0) → Graph → ℕ → Type 0
HasOwn IsAsked g own =
    (j : ℕ) → HasBit (own ∷ []) j
    → (past : Bool) × (p q : ℕ) × IsAsked j past p q × joined_pairs g past p q

abbrev pub HasAnswered : (ℕ → Bool → ℕ → ℕ → Type 0) → (ℕ → ℕ → Type 0) → Graph → ℕ → Type 0
HasAnswered IsAsked S g answered =
    (j : ℕ) (past : Bool) (p q : ℕ) → j < 64 → bit_of (answered ∷ []) j ≡ false → IsAsked j past p q
    → HasNoAnswer S g past p q

pub record AreBitsOf (IsAsked : ℕ → Bool → ℕ → ℕ → Type 0) (S : ℕ → ℕ → Type 0) (g : Graph)
    (bits : PairBits) : Type 0 where
  pub own : HasOwn IsAsked g bits.own
  pub answered : HasAnswered IsAsked S g bits.answered

pub record IsPrint (n : ℕ) (S : ℕ → ℕ → Type 0) (block : List ℕ) (print : Print) : Type 0 where
  pub picked : AreBitsOf (IsPicked n) S (block_graph n block) print.picked
  pub folded : AreBitsOf (IsFolded n) S (block_graph n block) print.folded

-- The first has a bit that the second one has no answer at.
pub record MissesAt (first second : PairBits) : Type 0 where
  pub at : ℕ
  pub within : at < 64
  pub own : HasBit (first.own ∷ []) at
  pub unanswered : bit_of (second.answered ∷ []) at ≡ false

-- By the picked pairs, or by the folded ones.
abbrev pub Misses : Print → Print → Type 0
Misses first second = MissesAt first.picked second.picked ⊎ MissesAt first.folded second.folded

-- The row has one word, no bit but those of states below n, and a bit for each of these that S
-- relates to another state.
pub record AreRelated (n : ℕ) (S : ℕ → ℕ → Type 0) (row : List ℕ) : Type 0 where
  pub len : length row ≡ 1
  pub within : (q : ℕ) → HasBit row q → q < n
  pub others : (q : ℕ) → q < n → bit_of row q ≡ false → (u : ℕ) → S q u → u ≡ q
