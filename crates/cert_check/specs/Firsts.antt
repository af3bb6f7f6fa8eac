-- For each graph the number of the first one with the same block.
use Rattle.std.specs.Prelude.{◌≡◌, ◌≢◌, ℕ, ◌+◌, ◌*◌, ◌%◌, ◌^◌, ◌<◌, ◌≤◌, ◌⊎◌, List, [], ◌∷◌, length, slice_index_or, bit_xor, Option, Some}
use Rattle.std.specs.Borrow.{Bor}
use Rattle.std.specs.BTreeMap.{BTreeMap, get, get_by}
use Rattle.std.specs.Cmp.Lexicographic.{slice_cmp}
use Rattle.std.specs.Int.{w64, rotate_left}
use Rattle.std.specs.List.{fold}
use Rattle.std.specs.Ordering.{nat_cmp}
use Rattle.shared_graphs.specs.Graphs.{block_at}
use Rattle.cert_check.specs.declared.firsts.Known.{Known}
use Rattle.cert_check.specs.declared.firsts.TheConstants.{MIX_TURN, MIX_FACTOR}

-- The mixed number with one word more: turned by MIX_TURN bits, joined with the word, and times
-- MIX_FACTOR.
unfoldable pub mixed_with : ℕ → ℕ → ℕ
mixed_with mixed word = (bit_xor (rotate_left w64 mixed MIX_TURN) word * MIX_FACTOR) % 2 ^ 64

-- With these words more, one after the other.
abbrev pub mixed_words : ℕ → List ℕ → ℕ
mixed_words mixed words = fold mixed_with mixed words

-- With these words more, of which each four are mixed by themselves first.
abbrev pub mixed_fours : ℕ → List ℕ → ℕ
mixed_fours mixed (a ∷ b ∷ c ∷ d ∷ rest) =
    mixed_fours (mixed_with mixed (mixed_words 0 (a ∷ b ∷ c ∷ d ∷ []))) rest
mixed_fours mixed rest = mixed_words mixed rest

-- The first number of those that have the block's mixed number.
abbrev pub first_with : Known → List ℕ → Option ℕ
first_with known block = get nat_cmp known.by_mixed (mixed_fours 0 block)

-- The number that the block is known by, apart from those that are the first with their mixed
-- number.
abbrev pub known_by : BTreeMap (Bor (List ℕ)) ℕ → List ℕ → Option ℕ
known_by known block = get_by (λ key. slice_cmp nat_cmp block key.now) known

-- The block is known by the first number, and others as before; if it was not known, that is the
-- new number.
pub record IsBlockKnown (old new : BTreeMap (Bor (List ℕ)) ℕ) (block : List ℕ)
    (number first : ℕ) : Type 0 where
  pub here : known_by new block ≡ Some first
  pub stay : (b : List ℕ) (k : ℕ) → known_by old b ≡ Some k → known_by new b ≡ Some k
  pub only : (b : List ℕ) (k : ℕ) → known_by new b ≡ Some k
      → (known_by old b ≡ Some k) ⊎ ((b ≡ block) × (k ≡ number))

-- The block has this number: that of the first graph with its mixed number, if that graph has the
-- block, or else the one that the block is known by.
abbrev pub HasFirstNumber : List (List ℕ) → Known → List ℕ → ℕ → Type 0
HasFirstNumber graphs known block number =
    (first : ℕ) × (first_with known block ≡ Some first)
    × (((block_at graphs first ≡ block) × (number ≡ first))
    ⊎ ((block_at graphs first ≢ block) × (known_by known.by_block block ≡ Some number)))

-- The numbers that are known are below this one, and those that blocks are known by are of graphs
-- with these blocks.
pub record AreTheirs (graphs : List (List ℕ)) (below : ℕ) (known : Known) : Type 0 where
  pub mixed : (b : List ℕ) (k : ℕ) → first_with known b ≡ Some k → k < below
  pub blocks : (b : List ℕ) (k : ℕ) → known_by known.by_block b ≡ Some k
      → (k < below) × (block_at graphs k ≡ b)

-- The block of the graph with this number has the first number, and others have those that they
-- had.
pub record IsNumberKnown (graphs : List (List ℕ)) (old new : Known)
    (number first : ℕ) : Type 0 where
  pub here : HasFirstNumber graphs new (block_at graphs number) first
  pub stay : (b : List ℕ) (k : ℕ) → HasFirstNumber graphs old b k → HasFirstNumber graphs new b k
  pub theirs : AreTheirs graphs number old → AreTheirs graphs (number + 1) new

-- The graph with this number is the first one with the block.
pub record IsFirstWithBlock (graphs : List (List ℕ)) (block : List ℕ) (number : ℕ) : Type 0 where
  pub same : block_at graphs number ≡ block
  pub least : (k : ℕ) → block_at graphs k ≡ block → number ≤ k

-- For each graph the number of the first one with the same block.
abbrev pub AreFirsts : List (List ℕ) → List ℕ → Type 0
AreFirsts graphs firsts =
    (k : ℕ) → k < length graphs
    → IsFirstWithBlock graphs (block_at graphs k) (slice_index_or firsts k 0)
