use Rattle.std.proofs.Common.{◌≡◌, ◌*◌, ◌≤◌, ◌↔◌, ℕ, subst, arith, rules}
use Rattle.auto_core.specs.Rows.{HasBit}
use Rattle.auto_core.specs.Reach.{HasArc}
use Rattle.graph_rows.specs.Added.{FollowsFrom, HasAdded}
use Rattle.graph_rows.proofs.AddedLemmas.{added_then, added_as, row_taken}
use Rattle.graph_rows.proofs.ArcLemmas.{row_marks}
use Rattle.graph_rows.proofs.StepLemmas.{joined_by_marks, past_by_marks, joined_within, past_within}
use Rattle.graph_rows.proofs.letters.add_row.Goals as goal
use Rattle.graph_rows.proofs.letters.add_row.Goals.{After-add_union, After-or_row}

-- The row that is reached, as marks on what its arcs lead to.
reached : (c : goal.After-add_union) → (q : ℕ) → HasBit c.row_at-reached.result.now q ↔ HasArc c.args.from_joined.now c.args.automaton.now.states c.args.width c.args.row q
reached c =
    row_marks c.args.from_joined.now c.row_at-reached.result.now c.args.automaton.now.states c.args.width c.args.row
    c.requires.from_joined c.requires.is_row c.row_at-reached.ensures.bits c.row_at-reached.ensures.outside

-- The row that is reached past an accepting state, likewise.
marks : (c : goal.After-add_union) → (q : ℕ) → HasBit c.row_at-marked.result.now q ↔ HasArc c.args.from_past.now c.args.automaton.now.states c.args.width c.args.row q
marks c =
    row_marks c.args.from_past.now c.row_at-marked.result.now c.args.automaton.now.states c.args.width c.args.row
    c.requires.from_past c.requires.is_row c.row_at-marked.ensures.bits c.row_at-marked.ensures.outside

-- The number of states that was read.
same : (c : goal.After-add_union) → c.states-states.result ≡ c.args.automaton.now.states
same c = omega arith

-- What the marked states lead to is added to the second table.
first :
    (c : goal.After-add_union)
    → HasAdded c.args.width c.args.row (FollowsFrom (HasBit c.row_at-marked.result.now) (HasArc c.args.letter_joined.now c.args.automaton.now.states c.args.width)) c.args.past.now c.add_union.new.into
first c =
    let w : ℕ = c.args.width in
    subst (λ n. HasAdded w c.args.row (FollowsFrom (HasBit c.row_at-marked.result.now) (HasArc c.args.letter_joined.now n w)) c.args.past.now c.add_union.new.into)
    (same c) c.add_union.ensures

-- It is added to the first table too.
taken :
    (c : goal.After-or_row)
    → HasAdded c.args.width c.args.row (FollowsFrom (HasBit c.row_at-marked.result.now) (HasArc c.args.letter_joined.now c.args.automaton.now.states c.args.width)) c.args.joined.now c.or_row.new.table
taken c =
    let A = c.args.automaton.now in
    let w : ℕ = c.args.width in
    let room : A.states ≤ w * 64 = c.requires.from_joined.room in
    row_taken w c.args.row (FollowsFrom (HasBit c.row_at-marked.result.now) (HasArc c.args.letter_joined.now A.states w)) c.args.past.now c.add_union.new.into c.row_at.result.now c.args.joined.now c.or_row.new.table
    c.requires.empty (λ q (m, mark, arc). omega (arith, arc.1, room)) (first (goal.at.After-or_row c).After-add_union) c.row_at.ensures.bits c.row_at.ensures.outside c.or_row.ensures.here c.or_row.ensures.others

pub returns-then-not-are_within-clause-joined : goal.returns-then-not-are_within-clause-joined
returns-then-not-are_within-clause-joined c =
    let path = goal.at.returns-then-not-are_within-clause-joined c in
    added_then c.args.width c.args.row _ _ _ c.args.joined.now c.or_row.new.table c.add_union-then-not-are_within.new.into
    (λ q q_in. joined_by_marks c.args.automaton.now c.args.from_joined.now c.args.from_past.now c.args.letter_joined.now c.args.letter_past.now c.row_at-marked.result.now c.row_at-reached.result.now c.args.width c.args.label c.args.row
    c.requires.within c.requires.letter (marks path.After-add_union) (reached path.After-add_union) q)
    (taken path.After-or_row)
    (subst (λ n. HasAdded c.args.width c.args.row (FollowsFrom (HasBit c.row_at-reached.result.now) (HasArc c.args.letter_joined.now n c.args.width)) c.or_row.new.table c.add_union-then-not-are_within.new.into)
    (same path.After-add_union) c.add_union-then-not-are_within.ensures)

pub returns-then-not-are_within-clause-past : goal.returns-then-not-are_within-clause-past
returns-then-not-are_within-clause-past c =
    let path = goal.at.returns-then-not-are_within-clause-past c in
    added_then c.args.width c.args.row _ _ _ c.args.past.now c.add_union.new.into c.add_union-then-not-are_within-2.new.into
    (λ q q_in. past_by_marks c.args.automaton.now c.args.from_joined.now c.args.from_past.now c.args.letter_joined.now c.args.letter_past.now c.row_at-marked.result.now c.row_at-reached.result.now c.args.width c.args.label c.args.row
    c.requires.within c.requires.letter (marks path.After-add_union) (reached path.After-add_union) q)
    (first path.After-add_union)
    (subst (λ n. HasAdded c.args.width c.args.row (FollowsFrom (HasBit c.row_at-reached.result.now) (HasArc c.args.letter_past.now n c.args.width)) c.add_union.new.into c.add_union-then-not-are_within-2.new.into)
    (same path.After-add_union) c.add_union-then-not-are_within-2.ensures)

pub returns-else-not-are_within-clause-joined : goal.returns-else-not-are_within-clause-joined
returns-else-not-are_within-clause-joined c =
    let path = goal.at.returns-else-not-are_within-clause-joined c in
    added_as c.args.width c.args.row _ _ c.args.joined.now c.or_row.new.table
    (λ q q_in. joined_within c.args.automaton.now c.args.from_joined.now c.args.from_past.now c.args.letter_joined.now c.args.letter_past.now c.row_at-marked.result.now c.row_at-reached.result.now c.args.width c.args.label c.args.row
    c.requires.within c.requires.letter (marks path.After-add_union) (reached path.After-add_union) (c.are_within.ensures (search rules)) q)
    (taken path.After-or_row)

pub returns-else-not-are_within-clause-past : goal.returns-else-not-are_within-clause-past
returns-else-not-are_within-clause-past c =
    let path = goal.at.returns-else-not-are_within-clause-past c in
    added_as c.args.width c.args.row _ _ c.args.past.now c.add_union.new.into
    (λ q q_in. past_within c.args.automaton.now c.args.from_joined.now c.args.from_past.now c.args.letter_joined.now c.args.letter_past.now c.row_at-marked.result.now c.row_at-reached.result.now c.args.width c.args.label c.args.row
    c.requires.within c.requires.letter (marks path.After-add_union) (reached path.After-add_union) (c.are_within.ensures (search rules)) q)
    (first path.After-add_union)
