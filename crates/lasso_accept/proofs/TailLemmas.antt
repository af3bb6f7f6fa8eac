-- Tables that are kept of a word's ends, and words with the same end.
use Rattle.std.proofs.Common.{◌≡◌, ℕ, ◌+◌, ◌-◌, ◌/◌, ◌≤◌, List, length, take, drop, get_or, sym, ap, ◌∙◌, subst, arith}
use Rattle.std.proofs.lemmas.List.{drop-drop, length-drop}
use Rattle.std.proofs.lemmas.List.Elements.{All-take}
use Rattle.auto_core.specs.Automaton.{Automaton}
use Rattle.lasso_accept.specs.Plane.{ArePlanes}
use Rattle.lasso_accept.specs.declared.tails.Tail.{Tail}
use Rattle.lasso_accept.specs.Tails.{IsTail, AreTails, AreShort}

-- What is kept of a word's ends is kept of those of its own end.
pub tail_of_end : (A : Automaton) (w : List ℕ) (k : ℕ) (t : Tail) → k ≤ length w → IsTail A w t → IsTail A (drop k w) t
tail_of_end A w k t k_in is short =
    let len : length (drop k w) ≡ length w - k = length-drop k w in
    let at : length w - t.length ≡ k + (length (drop k w) - t.length) = omega (arith, short, len, k_in) in
    let whole : drop (length w - t.length) w ≡ drop (length (drop k w) - t.length) (drop k w) = ap (λ n. drop n w) at ∙ sym (drop-drop (length (drop k w) - t.length) k w) in
    subst (λ x. ArePlanes A x ((A.states + 63) / 64) t.planes.any.items t.planes.flagged.items) whole (is (omega (arith, short, len)))

-- And short ones that are kept of a word's own end are kept of the word's ends.
pub tail_by_end : (A : Automaton) (w : List ℕ) (count : ℕ) (t : Tail) → count ≤ length w → t.length ≤ count → IsTail A (drop (length w - count) w) t → IsTail A w t
tail_by_end A w count t count_in short is _ =
    let k : ℕ = length w - count in
    let len : length (drop k w) ≡ length w - k = length-drop k w in
    let at : length w - t.length ≡ k + (length (drop k w) - t.length) = omega (arith, short, len, count_in) in
    let whole : drop (length w - t.length) w ≡ drop (length (drop k w) - t.length) (drop k w) = ap (λ n. drop n w) at ∙ sym (drop-drop (length (drop k w) - t.length) k w) in
    subst (λ x. ArePlanes A x ((A.states + 63) / 64) t.planes.any.items t.planes.flagged.items) (sym whole) (is (omega (arith, short, len, count_in)))

pub tails_of_end : (A : Automaton) (w : List ℕ) (k : ℕ) (ts : List Tail) → k ≤ length w → AreTails A w ts → AreTails A (drop k w) ts
tails_of_end A w k ts k_in all = λ i d lt. tail_of_end A w k (get_or ts i d) k_in (all i d lt)

-- The short tables of one word are those of another with the same end.
pub tails_stay : (A : Automaton) (v w : List ℕ) (count n : ℕ) (ts : List Tail) → count ≤ length v → count ≤ length w → drop (length v - count) v ≡ drop (length w - count) w → AreShort count (take n ts) → AreTails A v ts → AreTails A w (take n ts)
tails_stay A v w count n ts v_in w_in same short all = λ i d lt.
    let t : Tail = get_or (take n ts) i d in
    let is : IsTail A v t = All-take (IsTail A v) n ts all i d lt in
    tail_by_end A w count t w_in (short i d lt) (subst (λ x. IsTail A x t) same (tail_of_end A v (length v - count) t (omega arith) is))
