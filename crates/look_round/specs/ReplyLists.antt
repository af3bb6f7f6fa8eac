-- The replies of states to moves, listed once.
use Rattle.std.specs.Prelude.{◌≡◌, ℕ, ◌+◌, ◌*◌, ◌-◌, ◌/◌, ◌%◌, ◌<◌, ◌≤◌, ◌↔◌, ◌++◌, List, length, take, drop, slice_index, All, Contains}
use Rattle.look_round.specs.Replies.{IsReply}
use Rattle.look_round.specs.declared.reply_lists.ReplyLists.{ReplyLists}

-- The list with number i of those that lie one after another in `items`; `starts` tells where each
-- begins, and ends before the next.
abbrev pub list_at : List ℕ → List ℕ → ℕ → List ℕ
list_at starts items i =
    take (slice_index starts (i + 1) - slice_index starts i) (drop (slice_index starts i) items)

-- The list lies within `items`.
abbrev pub IsListThere : List ℕ → List ℕ → ℕ → Type 0
IsListThere starts items i =
    (i + 1 < length starts) × (slice_index starts i ≤ slice_index starts (i + 1))
    × (slice_index starts (i + 1) ≤ length items)

-- The list has the states by which q answers a move by the letter a to p, which are below n.
abbrev pub ListsRepliesOf : (ℕ → ℕ → ℕ → Type 0) → (ℕ → ℕ → Type 0) → ℕ → ℕ → ℕ → ℕ → List ℕ
    → Type 0
ListsRepliesOf M ok n a p q list =
    All (λ r. r < n) list × ((r : ℕ) → Contains list r ↔ IsReply M ok a p q r)

-- The states by which q answers were added.
abbrev pub AddsReplies : (ℕ → ℕ → ℕ → Type 0) → (ℕ → ℕ → Type 0) → ℕ → ℕ → ℕ → ℕ → List ℕ → List ℕ
    → Type 0
AddsReplies M ok n a p q old new =
    (added : List ℕ) × (new ≡ old ++ added) × ListsRepliesOf M ok n a p q added

-- The number of the list of q for a move by the letter a to p.
abbrev pub list_number : ReplyLists → ℕ → ℕ → ℕ → ℕ
list_number lists a p q = (q * lists.labels + a) * lists.kinds + slice_index lists.kind_of.items p

-- Each of n states has the number of its kind, and where it has one and the letter is listed, the
-- list with the number of the letter and the two states is there and right.
pub record AreReplyLists (M : ℕ → ℕ → ℕ → Type 0) (ok : ℕ → ℕ → Type 0) (n : ℕ)
    (lists : ReplyLists) : Type 0 where
  pub kinds : 0 < lists.labels → length lists.kind_of.items ≡ n
  pub there : (a p q : ℕ) → a < lists.labels → p < n → q < n
      → slice_index lists.kind_of.items p < lists.kinds
      → IsListThere lists.starts.items lists.items.items (list_number lists a p q)
  pub each : (a p q : ℕ) → a < lists.labels → p < n → q < n
      → slice_index lists.kind_of.items p < lists.kinds
      → ListsRepliesOf M ok n a p q
      (list_at lists.starts.items lists.items.items (list_number lists a p q))

-- The first lists are there, so many of them: in turn for each of the n states, each letter and
-- each of `kinds`.
pub record AreListedUpto (M : ℕ → ℕ → ℕ → Type 0) (ok : ℕ → ℕ → Type 0) (n labels : ℕ)
    (kinds starts items : List ℕ) (count : ℕ) : Type 0 where
  pub long : length starts ≡ count + 1
  pub last : slice_index starts count ≡ length items
  pub there : (i : ℕ) → i < count → IsListThere starts items i
  pub each : (i : ℕ) → i < count
      → ListsRepliesOf M ok n (i / length kinds % labels) (slice_index kinds (i % length kinds))
      (i / length kinds / labels) (list_at starts items i)
