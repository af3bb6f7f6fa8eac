-- Lists of replies that lie one after another, in turn for each state, letter and kind.
use Rattle.std.proofs.Common.{◌≡◌, ℕ, ◌+◌, ◌*◌, ◌-◌, ◌/◌, ◌%◌, ◌<◌, ◌↔◌, inl, inr, List, [], ◌∷◌, ◌++◌, length, slice_index, take, drop, All, Contains, sym, ap, ◌∙◌, subst, arith, take_all}
use Rattle.std.proofs.lemmas.Bool.{cases_eq}
use Rattle.std.proofs.Math.Seq.{drop-append_seam}
use Rattle.std.proofs.lemmas.Nat.{div-mul-add, mod-mul-add, mul-add-lt}
use Rattle.std.proofs.Math.Nat.{mul_comm}
use Rattle.std.proofs.lemmas.List.{get_or_append_left, get_or_push, take-append-le, drop-append-le, length-drop, length-append, length_push, append_assoc, append-nil}
use Rattle.std.proofs.lemmas.List.Elements.{All-push}
use Rattle.auto_core.proofs.PathLemmas.{none_in_nil}
use Rattle.look_round.specs.declared.moves.Move.{Move}
use Rattle.look_round.specs.Sides.{move}
use Rattle.look_round.proofs.ListedLemmas.{one_more_member, one_more_reply, no_more_reply}
use Rattle.look_round.specs.Kinds.{MatchEachOther, AreKinds}
use Rattle.look_round.specs.ReplyLists.{list_at, list_number, IsListThere, ListsRepliesOf, AddsReplies, AreReplyLists, AreListedUpto}
use Rattle.look_round.specs.declared.reply_lists.ReplyLists.{ReplyLists}

-- The replies among these moves of one state, to a move by the letter a to p, were added.
abbrev pub AddsUpto : List Move → (ℕ → ℕ → Type 0) → ℕ → ℕ → ℕ → List ℕ → List ℕ → Type 0
AddsUpto moves ok n a p old new =
    (added : List ℕ) × (new ≡ old ++ added) × All (λ r. r < n) added × ((r : ℕ) → Contains added r ↔ (Contains moves (move a r) × ok p r))

pub adds_none : (ok : ℕ → ℕ → Type 0) (n a p : ℕ) (old : List ℕ) → AddsUpto [] ok n a p old old
adds_none ok n a p old = (
  [],
  sym (append-nil old),
  λ k d k_in. absurd (omega arith),
  λ r. (λ there. absurd (none_in_nil r there), λ found. absurd (none_in_nil (move a r) found.0)),
)

-- one more is a reply
pub adds_one :
    (moves : List Move) (ok : ℕ → ℕ → Type 0) (n a p : ℕ) (old now : List ℕ) (m : Move)
    → AddsUpto moves ok n a p old now
    → m.label ≡ a
    → ok p m.to
    → m.to < n
    → AddsUpto (moves ++ m ∷ []) ok n a p old (now ++ m.to ∷ [])
adds_one moves ok n a p old now m (added, is, below, each) label match m_in = (
  added ++ m.to ∷ [],
  ap (λ l. l ++ m.to ∷ []) is ∙ append_assoc old added (m.to ∷ []),
  All-push (λ r. r < n) added m.to below m_in,
  λ r. (
    λ there. (one_more_reply ok a p moves m r label match).0 (elim ((one_more_member added m.to r).1 there) [ inl before ↦ inl ((each r).0 before) | inr e ↦ inr e ]),
    λ found. (one_more_member added m.to r).0 (elim ((one_more_reply ok a p moves m r label match).1 found) [ inl before ↦ inl ((each r).1 before) | inr e ↦ inr e ]),
  ),
)

-- or is none
pub adds_other :
    (moves : List Move) (ok : ℕ → ℕ → Type 0) (n a p : ℕ) (old now : List ℕ) (m : Move)
    → AddsUpto moves ok n a p old now
    → ((m.label ≡ a) × ok p m.to → ⊥)
    → AddsUpto (moves ++ m ∷ []) ok n a p old now
adds_other moves ok n a p old now m (added, is, below, each) none = (
  added,
  is,
  below,
  λ r. (λ there. (no_more_reply ok a p moves m r none).0 ((each r).0 there), λ found. (each r).1 ((no_more_reply ok a p moves m r none).1 found)),
)

-- all moves of the state were looked at
pub adds_all :
    (M : ℕ → ℕ → ℕ → Type 0) (moves : List Move) (ok : ℕ → ℕ → Type 0) (n a p q : ℕ) (old now : List ℕ)
    → ((b r : ℕ) → Contains moves (move b r) ↔ M q b r)
    → AddsUpto moves ok n a p old now
    → AddsReplies M ok n a p q old now
adds_all M moves ok n a p q old now lists (added, is, below, each) = (
  added,
  is,
  (
    below,
    λ r. (
      λ there. let found = (each r).0 there in ((lists a r).0 found.0, found.1),
      λ reply. (each r).1 ((lists a r).1 reply.0, reply.1),
    ),
  ),
)

-- a part of the items
abbrev part : List ℕ → ℕ → ℕ → List ℕ
part items from to = take (to - from) (drop from items)

module _ (starts items more : List ℕ) (end : ℕ) where
  begins : (i : ℕ) → i < length starts → slice_index (starts ++ end ∷ []) i ≡ slice_index starts i
  begins i i_in = get_or_append_left starts (end ∷ []) 0 i i_in

  -- a list is there still where more is added
  there_kept : (i : ℕ) → IsListThere starts items i → IsListThere (starts ++ end ∷ []) (items ++ more) i
  there_kept i there =
      let long = length_push starts end in
      let longer = length-append items more in
      let size = there.0 in
      let order = there.1 in
      let inside = there.2 in
      let first = begins i (omega arith) in
      let next = begins (i + 1) size in
      (omega arith, omega arith, omega arith)

  -- and is the same
  list_kept : (i : ℕ) → IsListThere starts items i → list_at (starts ++ end ∷ []) (items ++ more) i ≡ list_at starts items i
  list_kept i there =
      let size = there.0 in
      let order = there.1 in
      let inside = there.2 in
      let a : ℕ = slice_index starts i in
      let b : ℕ = slice_index starts (i + 1) in
      let left = length-drop a items in
      ap (λ x. part (items ++ more) x (slice_index (starts ++ end ∷ []) (i + 1))) (begins i (omega arith))
      ∙ ap (λ y. part (items ++ more) a y) (begins (i + 1) size)
      ∙ ap (λ (l : List ℕ). take (b - a) l) (drop-append-le a items more (omega arith))
      ∙ take-append-le (b - a) (drop a items) more (omega arith)

-- the list that is added
list_added :
    (starts items added : List ℕ) (i : ℕ)
    → length starts ≡ i + 1
    → slice_index starts i ≡ length items
    → list_at (starts ++ length (items ++ added) ∷ []) (items ++ added) i ≡ added
list_added starts items added i long last =
    let end : ℕ = length (items ++ added) in
    let size = length-append items added in
    let first : slice_index (starts ++ end ∷ []) i ≡ length items = begins starts items added end i (omega arith) ∙ last in
    let next : slice_index (starts ++ end ∷ []) (i + 1) ≡ end = get_or_push starts end 0 (i + 1) long in
    ap (λ x. part (items ++ added) x (slice_index (starts ++ end ∷ []) (i + 1))) first
    ∙ ap (λ y. part (items ++ added) (length items) y) next
    ∙ ap (λ (l : List ℕ). take (end - length items) l) (drop-append_seam items added)
    ∙ take_all (end - length items) added (omega arith)

module _ (M : ℕ → ℕ → ℕ → Type 0) (ok : ℕ → ℕ → Type 0) (n : ℕ) where
  -- one more list
  pub one_more_list :
      (labels : ℕ) (kinds starts items new : List ℕ) (i : ℕ)
      → AreListedUpto M ok n labels kinds starts items i
      → AddsReplies M ok n (i / length kinds % labels) (slice_index kinds (i % length kinds)) (i / length kinds / labels) items new
      → AreListedUpto M ok n labels kinds (starts ++ length new ∷ []) new (i + 1)
  one_more_list labels kinds starts items new i h (added, is, lists) =
      let P : List ℕ → Type 0 = λ l. AreListedUpto M ok n labels kinds (starts ++ length l ∷ []) l (i + 1) in
      let long = h.long in
      let last = h.last in
      let end : ℕ = length (items ++ added) in
      let size = length-append items added in
      let pushed = length_push starts end in
      let first : slice_index (starts ++ end ∷ []) i ≡ slice_index starts i = begins starts items added end i (omega arith) in
      let next : slice_index (starts ++ end ∷ []) (i + 1) ≡ end = get_or_push starts end 0 (i + 1) long in
      let Q : ℕ → List ℕ → Type 0 = λ j l. ListsRepliesOf M ok n (j / length kinds % labels) (slice_index kinds (j % length kinds)) (j / length kinds / labels) l in
      subst P (sym is)
      (record {
        long = omega arith;
        last = next;
        there = λ j j_in. elim (cases_eq j i) [
          | inl e ↦ subst (IsListThere (starts ++ end ∷ []) (items ++ added)) (sym e) (omega arith, omega arith, omega arith)
          | inr apart ↦ there_kept starts items added end j (h.there j (omega arith))
        ];
        each = λ j j_in. elim (cases_eq j i) [
          | inl e ↦ subst (λ x. Q x (list_at (starts ++ end ∷ []) (items ++ added) x)) (sym e) (subst (Q i) (sym (list_added starts items added i long last)) lists)
          | inr apart ↦
              let before : j < i = omega arith in
              subst (Q j) (sym (list_kept starts items added end j (h.there j before))) (h.each j before)
        ];
      })

  -- without letters nothing is asked of the lists
  pub no_lists : (lists : ReplyLists) → lists.labels ≡ 0 → AreReplyLists M ok n lists
  no_lists lists none = record {
    kinds = λ some. absurd (omega arith);
    there = λ a p q a_in p_in q_in kind. absurd (omega arith);
    each = λ a p q a_in p_in q_in kind. absurd (omega arith);
  }

  -- all lists are made
  module _ (lists : ReplyLists) (kinds : List ℕ)
      (size : lists.kinds ≡ length kinds)
      (listed : AreListedUpto M ok n lists.labels kinds lists.starts.items lists.items.items (n * lists.labels * length kinds))
      (numbers : AreKinds ok n kinds lists.kind_of.items)
      (joins : (p q r : ℕ) → ok p q → ok q r → ok p r) where
    same_number : (a p q : ℕ) → list_number lists a p q ≡ (q * lists.labels + a) * length kinds + slice_index lists.kind_of.items p
    same_number a p q = ap (λ x. (q * lists.labels + a) * x + slice_index lists.kind_of.items p) size

    number_in : (a p q : ℕ) → a < lists.labels → q < n → slice_index lists.kind_of.items p < lists.kinds → list_number lists a p q < n * lists.labels * length kinds
    number_in a p q a_in q_in kind =
        let L = lists.labels in
        let k : ℕ = slice_index lists.kind_of.items p in
        let kind_in : k < length kinds = omega (arith, kind, size) in
        let row : q * L + a < n * L = subst (λ x. q * L + a < x) (mul_comm L n) (mul-add-lt q L a n q_in a_in) in
        let place : (q * L + a) * length kinds + k < n * L * length kinds = subst (λ x. (q * L + a) * length kinds + k < x) (mul_comm (length kinds) (n * L)) (mul-add-lt (q * L + a) (length kinds) k (n * L) row kind_in) in
        subst (λ x. x < n * L * length kinds) (sym (same_number a p q)) place

    pub lists_made : AreReplyLists M ok n lists
    lists_made = record {
      kinds = λ some. numbers.0;
      there = λ a p q a_in p_in q_in kind. listed.there (list_number lists a p q) (number_in a p q a_in q_in kind);
      each = λ a p q a_in p_in q_in kind.
          let L = lists.labels in
          let K : ℕ = length kinds in
          let i = list_number lists a p q in
          let list = list_at lists.starts.items lists.items.items i in
          let k : ℕ = slice_index lists.kind_of.items p in
          let kind_in : k < K = omega (arith, kind, size) in
          let row : i / K ≡ q * L + a = ap (λ x. x / K) (same_number a p q) ∙ div-mul-add (q * L + a) K k kind_in in
          let number : i % K ≡ k = ap (λ x. x % K) (same_number a p q) ∙ mod-mul-add (q * L + a) K k kind_in in
          let letter : i / K % L ≡ a = ap (λ x. x % L) row ∙ mod-mul-add q L a a_in in
          let state : i / K / L ≡ q = ap (λ x. x / L) row ∙ div-mul-add q L a a_in in
          let s : ℕ = slice_index kinds k in
          let of_kind : MatchEachOther ok p s = numbers.1 p p_in kind_in in
          let was = listed.each i (number_in a p q a_in q_in kind) in
          let third = subst (λ x. ListsRepliesOf M ok n (i / K % L) (slice_index kinds (i % K)) x list) state was in
          let second = subst (λ x. ListsRepliesOf M ok n (i / K % L) (slice_index kinds x) q list) number third in
          let h : ListsRepliesOf M ok n a s q list = subst (λ x. ListsRepliesOf M ok n x s q list) letter second in (
            h.0,
            λ r. (
              λ there. let is = (h.1 r).0 there in (is.0, joins p s r of_kind.0 is.1),
              λ is. (h.1 r).1 (is.0, joins s p r of_kind.1 is.1),
            ),
          );
    }
