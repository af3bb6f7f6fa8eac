-- Moves of an automaton by the numbers of its transitions.
use Rattle.std.proofs.Common.{◌≡◌, ℕ, ◌<◌, ◌≤◌, inl, inr, List, length, get_or, ap, ◌∙◌, subst, arith}
use Rattle.std.proofs.lemmas.Bool.{cases_lt}
use Rattle.std.proofs.lemmas.List.{get_or_default}
use Rattle.auto_core.specs.Automaton.{Automaton, IsAutomaton, Moves, IsInRange, IsOutgoing, IsSuccessors, IsIncoming, IsBelowPair, IsAbovePair, trans, trans_at}
use Rattle.auto_core.specs.declared.parts.Trans.{Trans}

-- the number of a move
pub number_of : (A : Automaton) (p a q : ℕ) → Moves A p a q → (t : ℕ) × (t < length A.transitions) × (trans_at A t ≡ trans p a q)
number_of A p a q (t, t_in, at) = (t, t_in, get_or_default A.transitions t (trans 0 0 0) (trans p a q) t_in ∙ at)

-- each number is that of a move
pub move_at : (A : Automaton) (t : ℕ) → t < length A.transitions → Moves A (trans_at A t).source (trans_at A t).label (trans_at A t).target
move_at A t t_in = (t, t_in, get_or_default A.transitions t (trans_at A t) (trans 0 0 0) t_in)

-- both ends of a move are states, and its letter is a label
pub move_in_range : (A : Automaton) → IsAutomaton A → (p a q : ℕ) → Moves A p a q → (p < A.states) × (q < A.states) × (a < A.labels)
move_in_range A valid p a q m =
    let (t, t_in, at) = number_of A p a q m in
    let here : IsInRange A.states A.labels (trans_at A t) = valid.in_range t (trans 0 0 0) t_in in
    let P : Trans → Type 0 = λ u. IsInRange A.states A.labels u in
    subst P at here

-- a transition in the range of the successors is a move there, and each such move is in the range
pub successor_moves :
    (A : Automaton) (p a b e : ℕ)
    → IsSuccessors A p a b e
    → (t : ℕ)
    → b ≤ t
    → t < e
    → Moves A p a (trans_at A t).target
successor_moves A p a b e s t from below =
    let fits = s.within in
    let here = s.inside t from below in
    let P : ℕ → Type 0 = λ x. Moves A x (trans_at A t).label (trans_at A t).target in
    let Q : ℕ → Type 0 = λ x. Moves A p x (trans_at A t).target in
    subst Q here.1 (subst P here.0 (move_at A t (omega arith)))

pub moves_in_successors :
    (A : Automaton) (p a b e : ℕ)
    → IsSuccessors A p a b e
    → (q : ℕ)
    → Moves A p a q
    → (t : ℕ) × (b ≤ t) × (t < e) × ((trans_at A t).target ≡ q)
moves_in_successors A p a b e s q m =
    let (t, t_in, at) = number_of A p a q m in
    let source : (trans_at A t).source ≡ p = ap (λ (u : Trans). u.source) at in
    let label : (trans_at A t).label ≡ a = ap (λ (u : Trans). u.label) at in (
      t,
      elim (cases_lt t b) [ inl h ↦ let low = s.before t h in absurd (not_below (trans_at A t) p a source label low) | inr h ↦ h ],
      elim (cases_lt t e) [ inl h ↦ h | inr h ↦ let high = s.after t h t_in in absurd (not_above (trans_at A t) p a source label high) ],
      ap (λ (u : Trans). u.target) at,
    )
  where
    not_below : (u : Trans) (p a : ℕ) → u.source ≡ p → u.label ≡ a → IsBelowPair u p a → ⊥
    not_below u p a same_source same_label h = omega arith

    not_above : (u : Trans) (p a : ℕ) → u.source ≡ p → u.label ≡ a → IsAbovePair u p a → ⊥
    not_above u p a same_source same_label h = omega arith

-- the same for all transitions out of a state
pub outgoing_moves :
    (A : Automaton) (p b e : ℕ)
    → IsOutgoing A p b e
    → (t : ℕ)
    → b ≤ t
    → t < e
    → Moves A p (trans_at A t).label (trans_at A t).target
outgoing_moves A p b e s t from below =
    let fits = s.within in
    let P : ℕ → Type 0 = λ x. Moves A x (trans_at A t).label (trans_at A t).target in
    subst P (s.inside t from below) (move_at A t (omega arith))

pub moves_in_outgoing :
    (A : Automaton) (p b e : ℕ)
    → IsOutgoing A p b e
    → (a q : ℕ)
    → Moves A p a q
    → (t : ℕ) × (b ≤ t) × (t < e) × (trans_at A t ≡ trans p a q)
moves_in_outgoing A p b e s a q m =
    let (t, t_in, at) = number_of A p a q m in
    let source : (trans_at A t).source ≡ p = ap (λ (u : Trans). u.source) at in (
      t,
      elim (cases_lt t b) [ inl h ↦ absurd (omega (arith, s.before t h)) | inr h ↦ h ],
      elim (cases_lt t e) [ inl h ↦ h | inr h ↦ absurd (omega (arith, s.after t h t_in)) ],
      at,
    )

-- the same for all transitions into a state
pub incoming_moves : (A : Automaton) (q : ℕ) (ns : List ℕ) → IsIncoming A q ns → (k : ℕ) → k < length ns → Moves A (trans_at A (get_or ns k 0)).source (trans_at A (get_or ns k 0)).label q
incoming_moves A q ns s k k_in =
    let here = s.each k 0 k_in in
    let t = get_or ns k 0 in
    let P : ℕ → Type 0 = λ x. Moves A (trans_at A t).source (trans_at A t).label x in
    subst P here.1 (move_at A t here.0)

pub moves_in_incoming :
    (A : Automaton) (q : ℕ) (ns : List ℕ)
    → IsIncoming A q ns
    → (p a : ℕ)
    → Moves A p a q
    → (k : ℕ) × (k < length ns) × (trans_at A (get_or ns k 0) ≡ trans p a q)
moves_in_incoming A q ns s p a m =
    let (t, t_in, at) = number_of A p a q m in
    let (k, k_in, found) = s.all t t_in (ap (λ (u : Trans). u.target) at) in
    let same : get_or ns k 0 ≡ t = get_or_default ns k 0 t k_in ∙ found in
    (k, k_in, ap (trans_at A) same ∙ at)
