use Rattle.std.proofs.Common.{◌≡◌, ℕ, ◌+◌, ◌<◌, ◌↔◌, List, Contains, sym, ◌∙◌, subst, arith}
use Rattle.std.proofs.lemmas.Bool.{false≢true}
use Rattle.auto_core.specs.Members.{Members}
use Rattle.useful_states.proofs.GatherLemmas.{members_more, members_same}
use Rattle.useful_states.proofs.searching.in_both.Goals as goal
use Rattle.useful_states.proofs.searching.in_both.Goals.{then-has_both, else-has_both}

-- The parts of what is so of both, one by one.
as_three : (n : ℕ) (A B : ℕ → Type 0) (members : List ℕ) → ((q : ℕ) → Contains members q ↔ ((q < n) × (A q × B q))) → (q : ℕ) → Contains members q ↔ ((q < n) × A q × B q)
as_three n A B members are q = (λ h. let (lt, both) = (are q).0 h in (lt, both.0, both.1), λ (lt, a, b). (are q).1 (lt, (a, b)))

pub loop-state-preserved : goal.loop-state-preserved
loop-state-preserved c =
    let P : ℕ → Type 0 = λ q. Contains c.args.one.now.members q × Contains c.args.other.now.members q in
    let n : ℕ = c.loop-state.state in
    let old = c.loop-state.set in
    let (size, are) = c.loop-state.invariant in
    let Q : Members → Type 0 = λ S. (S.states ≡ c.args.states) × ((q : ℕ) → Contains S.members q ↔ ((q < n + 1) × Contains c.args.one.now.members q × Contains c.args.other.now.members q)) in
    let as_pair : (q : ℕ) → Contains old.members q ↔ ((q < n) × P q) = λ q. (λ h. let (lt, a, b) = (are q).0 h in (lt, (a, b)), λ (lt, both). (are q).1 (lt, both.0, both.1)) in
    elim c.if-has_both.branch as (λ _. Q c.if-has_both.set) [
      | then-has_both w ↦ subst Q (sym w.set-is) (w.add.ensures.members.states ∙ size, as_three (n + 1) (Contains c.args.one.now.members) (Contains c.args.other.now.members) w.add.new.self.members (members_more P n old.members w.add.new.self.members as_pair (c.has_both.ensures.0 w.if-has_both.true) w.add.ensures.members.members))
      | else-has_both w ↦ subst Q (sym w.set-is) (size, as_three (n + 1) (Contains c.args.one.now.members) (Contains c.args.other.now.members) old.members (members_same P n old.members as_pair (λ is. false≢true (sym w.if-has_both.false ∙ c.has_both.ensures.1 is))))
    ]

pub returns-clause-members : goal.returns-clause-members
returns-clause-members c =
    let over : c.loop-state.state ≡ c.args.states = omega arith in
    let P : ℕ → Type 0 = λ k. (q : ℕ) → Contains c.loop-state.set.members q ↔ ((q < k) × Contains c.args.one.now.members q × Contains c.args.other.now.members q) in
    subst P over c.loop-state.invariant.1
