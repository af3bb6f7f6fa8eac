-- The moves of a state as a part of the sorted transitions.
use Rattle.std.proofs.Common.{◌≡◌, ℕ, ◌+◌, ◌-◌, ◌<◌, ◌≤◌, Bool, true, false, List, [], ◌∷◌, ◌++◌, length, get_or, take, drop, map, ◌==◌, All, refl, sym, ap, ◌∙◌, arith, length-drop, length-take-le, append-nil}
use Rattle.std.specs.List.{filter}
use Rattle.std.proofs.lemmas.Bool.{eq-eqb, ne_eqb}
use Rattle.std.proofs.lemmas.List.{get_or-take, get_or-drop, take-append-drop, length-map}
use Rattle.std.proofs.lemmas.List.Elements.{All-head, All-tail, All-from_get_or, filter-append}
use Rattle.std.proofs.Math.ListN.{get_or-map}
use Rattle.auto_core.specs.Automaton.{Automaton, IsOutgoing, trans, trans_at}
use Rattle.auto_core.specs.declared.parts.Trans.{Trans}
use Rattle.look_round.specs.Sides.{move, move_of, forward_moves}

filter_none : {X : Type 0} (f : X → Bool) (xs : List X) → All (λ x. f x ≡ false) xs → filter f xs ≡ []
filter_none f [] h = refl
filter_none f (x ∷ xs) h = rw (All-head (λ x. f x ≡ false) x xs h) (filter_none f xs (All-tail (λ x. f x ≡ false) x xs h))

filter_all : {X : Type 0} (f : X → Bool) (xs : List X) → All (λ x. f x ≡ true) xs → filter f xs ≡ xs
filter_all f [] h = refl
filter_all f (x ∷ xs) h = rw (All-head (λ x. f x ≡ true) x xs h) (ap (λ ys. x ∷ ys) (filter_all f xs (All-tail (λ x. f x ≡ true) x xs h)))

-- three parts, of which only the middle one passes
filter_parts :
    {X : Type 0} (f : X → Bool) (front middle back : List X)
    → All (λ x. f x ≡ false) front
    → All (λ x. f x ≡ true) middle
    → All (λ x. f x ≡ false) back
    → filter f (front ++ (middle ++ back)) ≡ middle
filter_parts f front middle back a b c =
    filter-append f front (middle ++ back)
    ∙ ap (λ ys. ys ++ filter f (middle ++ back)) (filter_none f front a)
    ∙ filter-append f middle back
    ∙ ap (λ ys. ys ++ filter f back) (filter_all f middle b)
    ∙ ap (λ ys. middle ++ ys) (filter_none f back c)
    ∙ append-nil middle

-- the elements that pass stand together
pub filter_segment :
    {X : Type 0} (f : X → Bool) (xs : List X) (d : X) (b e : ℕ)
    → b ≤ e
    → e ≤ length xs
    → ((i : ℕ) → i < b → f (get_or xs i d) ≡ false)
    → ((i : ℕ) → b ≤ i → i < e → f (get_or xs i d) ≡ true)
    → ((i : ℕ) → e ≤ i → i < length xs → f (get_or xs i d) ≡ false)
    → filter f xs ≡ take (e - b) (drop b xs)
filter_segment f xs d b e b_upto e_in before inside after =
    let rest = length-drop b xs in
    let front_len = length-take-le b xs (omega arith) in
    let middle_len = length-take-le (e - b) (drop b xs) (omega arith) in
    let back_len = length-drop (e - b) (drop b xs) in
    let parts : take b xs ++ (take (e - b) (drop b xs) ++ drop (e - b) (drop b xs)) ≡ xs =
    ap (λ ys. take b xs ++ ys) (take-append-drop (e - b) (drop b xs)) ∙ take-append-drop b xs in
    ap (filter f) (sym parts)
    ∙ filter_parts f (take b xs) (take (e - b) (drop b xs)) (drop (e - b) (drop b xs))
    (All-from_get_or (λ x. f x ≡ false) (take b xs) d (λ i i_in. rw (get_or-take b xs i d (omega arith)) (before i (omega arith))))
    (All-from_get_or (λ x. f x ≡ true) (take (e - b) (drop b xs)) d (λ i i_in. rw (get_or-take (e - b) (drop b xs) i d (omega arith), get_or-drop b xs i d) (inside (b + i) (omega arith) (omega arith))))
    (All-from_get_or (λ x. f x ≡ false) (drop (e - b) (drop b xs)) d (λ i i_in.
    rw (get_or-drop (e - b) (drop b xs) i d, get_or-drop b xs (e - b + i) d) (after (b + (e - b + i)) (omega arith) (omega arith))))

-- the range of the transitions out of p holds its moves
pub forward_segment :
    (A : Automaton) (p b e : ℕ)
    → IsOutgoing A p b e
    → forward_moves A p ≡ map move_of (take (e - b) (drop b A.transitions))
forward_segment A p b e o =
    ap (map move_of) (filter_segment (λ (t : Trans). t.source == p) A.transitions (trans 0 0 0) b e o.is_range o.within
    (λ i i_in. ne_eqb (trans_at A i).source p (λ same. let lt = o.before i i_in in omega arith))
    (λ i i_from i_in. eq-eqb (trans_at A i).source p (o.inside i i_from i_in))
    (λ i i_from i_in. ne_eqb (trans_at A i).source p (λ same. let lt = o.after i i_from i_in in omega arith)))

pub forward_count : (A : Automaton) (p b e : ℕ) → IsOutgoing A p b e → e - b ≡ length (forward_moves A p)
forward_count A p b e o =
    let range = o.is_range in
    let within = o.within in
    let rest = length-drop b A.transitions in
    sym (ap length (forward_segment A p b e o) ∙ length-map (take (e - b) (drop b A.transitions)) move_of ∙ length-take-le (e - b) (drop b A.transitions) (omega arith))

pub forward_nth :
    (A : Automaton) (p b e at : ℕ)
    → IsOutgoing A p b e
    → at < length (forward_moves A p)
    → (b + at < length A.transitions) × (move_of (trans_at A (b + at)) ≡ get_or (forward_moves A p) at (move 0 0))
forward_nth A p b e at o at_in =
    let range = o.is_range in
    let within = o.within in
    let count = forward_count A p b e o in
    let here : at < e - b = omega arith in (
      omega arith,
      sym (
          ap (λ ms. get_or ms at (move 0 0)) (forward_segment A p b e o)
          ∙ get_or-map move_of (take (e - b) (drop b A.transitions)) at (trans 0 0 0)
          ∙ ap move_of (get_or-take (e - b) (drop b A.transitions) at (trans 0 0 0) here ∙ get_or-drop b A.transitions at (trans 0 0 0))
          ),
    )
