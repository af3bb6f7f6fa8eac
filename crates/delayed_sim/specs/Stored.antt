-- How `Delayed` holds its triples and ranks.
use Rattle.std.specs.Prelude.{◌≡◌, ℕ, ◌-◌, ◌≤◌, ◌<◌, ◌⊎◌, ◌↔◌, None, List, [], map, take, length, Contains, slice_index_or}
use Rattle.std.specs.declared.cmp.Ordering.TheVariants.{Less, Greater}
use Rattle.auto_core.specs.Delayed.{RankedTriples, AreTriplesOf}
use Rattle.delayed_sim.specs.Rankings.{Triple, Ranking, triple_cmp, AreTriplesInOrder}
use Rattle.delayed_sim.specs.declared.entries.Entry.{Entry}
use Rattle.delayed_sim.specs.declared.delayed.Delayed.TheInside.{Inside}

-- The triple of an entry in a game with n announced letters.
abbrev pub triple_of : ℕ → Entry → Triple
triple_of n e = (e.left, take (n - 1) e.ahead, e.right, e.rank)

-- Those of all entries.
abbrev pub entry_triples : ℕ → List Entry → RankedTriples
entry_triples n entries = map (triple_of n) entries

-- What the fields stand for.
abbrev pub ranking_of : Inside → Ranking
ranking_of d =
    record {
      states = d.states;
      labels = d.labels;
      letters = d.letters;
      triples = entry_triples d.letters d.entries.items;
    }

-- They stand for a valid ranking.
pub record IsStoredRanking (d : Inside) : Type 0 where
  pub letters_from : 1 ≤ d.letters
  pub letters_upto : d.letters ≤ 4
  pub in_range : AreTriplesOf d.states d.labels d.letters (entry_triples d.letters d.entries.items)
  pub in_order : AreTriplesInOrder (entry_triples d.letters d.entries.items)

-- Some entry, where there is none with a number.
abbrev pub no_entry : Entry
no_entry = record { left = 0; ahead = []; right = 0; rank = None }

-- There is an entry with this number, and the triple of p, the word b and q is listed with its
-- rank.
abbrev pub IsTripleAt : ℕ → List Entry → ℕ → List ℕ → ℕ → ℕ → Type 0
IsTripleAt n entries p b q i =
    (i < length entries)
    × Contains (entry_triples n entries) (p, b, q, (slice_index_or entries i no_entry).rank)

-- The entries below `low` stand before the triple, those from `high` on behind it.
pub record IsBetween (n : ℕ) (entries : List Entry) (key : Triple) (low high : ℕ) : Type 0 where
  pub upto : low ≤ high
  pub within : high ≤ length entries
  pub below : (i : ℕ) → i < low
      → triple_cmp (triple_of n (slice_index_or entries i no_entry)) key ≡ Less
  pub above : (i : ℕ) → high ≤ i → i < length entries
      → triple_cmp (triple_of n (slice_index_or entries i no_entry)) key ≡ Greater

-- Just the entries with lesser numbers stand before the triple.
pub record IsFirstFrom (n : ℕ) (entries : List Entry) (key : Triple) (at : ℕ) : Type 0 where
  pub upto : at ≤ length entries
  pub below : (i : ℕ) → i < at
      → triple_cmp (triple_of n (slice_index_or entries i no_entry)) key ≡ Less
  pub from : (i : ℕ) → at ≤ i → i < length entries
      → triple_cmp (triple_of n (slice_index_or entries i no_entry)) key ≡ Less → ⊥

-- What holds after the entry was put in.
pub record IsPutIn (n : ℕ) (old new : List Entry) (e : Entry) : Type 0 where
  pub in_order : AreTriplesInOrder (entry_triples n new)
  pub triples : (t : Triple)
      → Contains (entry_triples n new) t ↔ (Contains (entry_triples n old) t ⊎ (triple_of n e ≡ t))
