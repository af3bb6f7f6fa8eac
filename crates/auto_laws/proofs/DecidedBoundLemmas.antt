-- Whether there is a run, decided, and the value that the graph of a word gives a pair of states, as a number.
use Rattle.std.proofs.Common.{◌≡◌, ℕ, ◌<◌, ◌≤◌, ◌⊎◌, ◌↔◌, Bool, true, false, ◌||◌, List, [], ◌∷◌, Contains, refl, sym, subst, inl, inr, arith}
use Rattle.std.proofs.lemmas.Bool.{cases_eq, false≢true}
use Rattle.auto_core.specs.Automaton.{Automaton, Moves, is_accepting, trans}
use Rattle.auto_core.specs.Run.{Run}
use Rattle.auto_core.specs.Graph.{graph_of}
use Rattle.auto_core.specs.declared.parts.Trans.{Trans}
use Rattle.auto_core.proofs.PathLemmas.{Contains-here, Contains-later, Contains-cons_cases, none_in_nil}

-- The claim holds, or it does not.
abbrev pub Decided : Type 0 → Type 0
Decided P = P ⊎ (P → ⊥)

decide_as : (P Q : Type 0) → (P → Q) → (Q → P) → Decided P → Decided Q
decide_as P Q to from (inl p) = inl (to p)
decide_as P Q to from (inr none) = inr (λ q. none (from q))

decide_both : (P Q : Type 0) → Decided P → Decided Q → Decided (P × Q)
decide_both P Q (inl p) (inl q) = inl (p, q)
decide_both P Q (inl p) (inr none) = inr (λ (r : P × Q). none r.1)
decide_both P Q (inr none) d = inr (λ (r : P × Q). none r.0)

decide_flags : (a b : Bool) → Decided (a ≡ b)
decide_flags true true = inl refl
decide_flags true false = inr (λ e. false≢true (sym e))
decide_flags false true = inr (λ e. false≢true e)
decide_flags false false = inl refl

-- With some flag, decided from both.
decide_flagged : (P : Bool → Type 0) → Decided (P true) → Decided (P false) → Decided ((flag : Bool) × P flag)
decide_flagged P (inl p) d = inl (true, p)
decide_flagged P (inr none) (inl p) = inl (false, p)
decide_flagged P (inr none) (inr neither) = inr (λ (r : (flag : Bool) × P flag). either r.0 r.1)
  where
    either : (flag : Bool) → P flag → ⊥
    either true p = none p
    either false p = neither p

-- For some element of a list, decided from each.
decide_some : (X : Type 0) (P : X → Type 0) → ((x : X) → Decided (P x)) → (xs : List X) → Decided ((x : X) × Contains xs x × P x)
decide_some X P decide [] = inr (λ (r : (x : X) × Contains [] x × P x). none_in_nil r.0 r.1)
decide_some X P decide (x ∷ xs) = elim (decide x) [
  | inl here ↦ inl (x, Contains-here x x xs refl, here)
  | inr other ↦ elim (decide_some X P decide xs) [
    | inl more ↦ inl (more.0, Contains-later x more.0 xs more.1, more.2)
    | inr none ↦ inr (λ (r : (y : X) × Contains (x ∷ xs) y × P y). elim (Contains-cons_cases x r.0 xs r.1) [
      | inl e ↦ other (subst P (sym e) r.2)
      | inr later ↦ none (r.0, later, r.2)
    ])
  ]
]

-- A run on the rest of the word goes on from the next state, and makes the flag of the whole.
abbrev RunsOn : Automaton → List ℕ → ℕ → Bool → ℕ → Bool → Type 0
RunsOn B w q flag next later = Run B next w q later × (flag ≡ (is_accepting B next || later))

-- The transition leads from p by the letter a to a state from which a run goes on so.
abbrev Begins : Automaton → ℕ → List ℕ → ℕ → ℕ → Bool → Trans → Type 0
Begins B a w p q flag t = (t.source ≡ p) × ((t.label ≡ a) × ((later : Bool) × RunsOn B w q flag t.target later))

to_run : (B : Automaton) (a : ℕ) (w : List ℕ) (p q : ℕ) (flag : Bool) → (t : Trans) × Contains B.transitions t × Begins B a w p q flag t → Run B p (a ∷ w) q flag
to_run B a w p q flag (t, is, first) =
    let moves : Moves B p a t.target = subst (λ s. Moves B s a t.target) first.0 (subst (λ l. Moves B t.source l t.target) first.1.0 is) in
    (t.target, first.1.1.0, moves, first.1.1.1.0, first.1.1.1.1)

from_run : (B : Automaton) (a : ℕ) (w : List ℕ) (p q : ℕ) (flag : Bool) → Run B p (a ∷ w) q flag → (t : Trans) × Contains B.transitions t × Begins B a w p q flag t
from_run B a w p q flag (next, later, move, rest, e) = (trans p a next, move, (refl, (refl, (later, (rest, e)))))

-- The parts of such a run, and then the run, decided.
decide_rest : (B : Automaton) (w : List ℕ) (q : ℕ) (flag : Bool) (next : ℕ) (later : Bool) → Decided (Run B next w q later) → Decided (RunsOn B w q flag next later)
decide_rest B w q flag next later d = decide_both (Run B next w q later) (flag ≡ (is_accepting B next || later)) d (decide_flags flag (is_accepting B next || later))

decide_begins : (B : Automaton) (a : ℕ) (w : List ℕ) (p q : ℕ) (flag : Bool) (t : Trans) → ((later : Bool) → Decided (Run B t.target w q later)) → Decided (Begins B a w p q flag t)
decide_begins B a w p q flag t rest =
    decide_both (t.source ≡ p) ((t.label ≡ a) × ((later : Bool) × RunsOn B w q flag t.target later)) (cases_eq t.source p)
    (decide_both (t.label ≡ a) ((later : Bool) × RunsOn B w q flag t.target later) (cases_eq t.label a)
    (decide_flagged (RunsOn B w q flag t.target) (decide_rest B w q flag t.target true (rest true)) (decide_rest B w q flag t.target false (rest false))))

-- Whether there is a run on the word with these ends and this flag.
pub decide_run : (B : Automaton) (w : List ℕ) (p q : ℕ) (flag : Bool) → Decided (Run B p w q flag)
decide_run B [] p q flag = decide_both (p ≡ q) (flag ≡ false) (cases_eq p q) (decide_flags flag false)
decide_run B (a ∷ w) p q flag =
    decide_as ((t : Trans) × Contains B.transitions t × Begins B a w p q flag t) (Run B p (a ∷ w) q flag) (to_run B a w p q flag) (from_run B a w p q flag)
    (decide_some Trans (Begins B a w p q flag) (λ t. decide_begins B a w p q flag t (λ later. decide_run B w t.target q later)) B.transitions)

-- A number for two claims, the second of which implies the first: 2 where both hold, 1 where the first alone does, and 0 else.
pub record Value (P Q : Type 0) : Type 0 where
  pub number : ℕ
  pub below : number < 3
  pub first : (1 ≤ number) ↔ P
  pub second : (2 ≤ number) ↔ Q

value_of : (P Q : Type 0) → (Q → P) → Decided P → Decided Q → Value P Q
value_of P Q weaker d (inl q) = record { number = 2; below = omega arith; first = (λ h. weaker q, λ p. omega arith); second = (λ h. q, λ h. omega arith) }
value_of P Q weaker (inl p) (inr none) = record { number = 1; below = omega arith; first = (λ h. p, λ h. omega arith); second = (λ h. absurd (omega arith), λ q. absurd (none q)) }
value_of P Q weaker (inr neither) (inr none) = record { number = 0; below = omega arith; first = (λ h. absurd (omega arith), λ p. absurd (neither p)); second = (λ h. absurd (omega arith), λ q. absurd (none q)) }

-- Where the numbers are equal, the first claims hold together.
pub same_first : (P Q R S : Type 0) (x : Value P Q) (y : Value R S) → x.number ≡ y.number → P ↔ R
same_first P Q R S x y e = (
  λ p. y.first.0 (let h = x.first.1 p in omega arith),
  λ r. x.first.0 (let h = y.first.1 r in omega arith),
)

-- So do the second ones.
pub same_second : (P Q R S : Type 0) (x : Value P Q) (y : Value R S) → x.number ≡ y.number → Q ↔ S
same_second P Q R S x y e = (
  λ q. y.second.0 (let h = x.second.1 q in omega arith),
  λ s. x.second.0 (let h = y.second.1 s in omega arith),
)

-- Whether a run joins the states.
pub decide_joined : (B : Automaton) (w : List ℕ) (s t : ℕ) → Decided ((flag : Bool) × Run B s w t flag)
decide_joined B w s t = decide_flagged (λ flag. Run B s w t flag) (decide_run B w s t true) (decide_run B w s t false)

-- The value that the graph of the word gives the pair of states.
pub value_at : (B : Automaton) (w : List ℕ) (s t : ℕ) → Value ((graph_of B w).joined s t) ((graph_of B w).past s t)
value_at B w s t = value_of ((graph_of B w).joined s t) ((graph_of B w).past s t) (λ run. (true, run)) (decide_joined B w s t) (decide_run B w s t true)
