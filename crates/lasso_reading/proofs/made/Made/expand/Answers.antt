use Rattle.std.proofs.Common.{ℕ, ◌+◌, ◌≤◌, inl, inr, List, length, refl, sym, ap, ◌∙◌, subst, arith}
use Rattle.std.proofs.lemmas.Bool.{true≢false}
use Rattle.product_search.specs.Found.{pair_at, Grows}
use Rattle.product_search.proofs.FoundLemmas.{grows_itself, grows_size}
use Rattle.lasso_reading.specs.declared.made.Made.{Made}
use Rattle.lasso_reading.specs.Made.{ArePairs, AreMoves}
use Rattle.lasso_reading.proofs.MadeLemmas.{DoneIn, begins, ends, passed_over, one_followed}
use Rattle.lasso_reading.proofs.made.Made.expand.Goals as goal
use Rattle.lasso_reading.proofs.made.Made.expand.Goals.{then-factors-step+in_ok-follow+else-not-branch, else-factors-step}

pub loop-t-init : goal.loop-t-init
loop-t-init c =
    let f = c.args.factors.now in
    let old = c.args.self.now.pairs.keys in
    let span = c.outgoing-span.result in
    let (are, moves_are) = c.requires.made in (
      are,
      grows_itself old,
      c.requires.few,
      begins f.automaton.now f.classes.now f.prefix.now f.turn.now c.outgoing-span.ensures.valid c.requires.factors.turn c.args.limit c.args.from span.begin span.end old c.requires.within
          (pair_at c.as_slice.result.now c.args.from) (ap (λ l. pair_at l c.args.from) c.as_slice.ensures.keys) c.outgoing-span.ensures.range old c.args.self.now.moves.items are (grows_itself old) moves_are,
    )

pub returns-then-not-branch : goal.returns-then-not-branch
returns-then-not-branch c =
    let f = c.args.factors.now in
    let s = c.loop-t.self in
    let new = c.follow.new.self in
    let span = c.outgoing-span.result in
    let (are, grows, few, moves_are) = c.loop-t.invariant in
    let (new_are, new_grows, rest) =
    one_followed f.automaton.now f.classes.now f.prefix.now f.turn.now c.outgoing-span.ensures.valid c.requires.factors.turn c.args.limit c.args.from span.begin span.end c.args.self.now.pairs.keys c.requires.within
    (pair_at c.as_slice.result.now c.args.from) (ap (λ l. pair_at l c.args.from) c.as_slice.ensures.keys) c.outgoing-span.ensures.range s.pairs.keys s.moves.items are grows
    c.loop-t.t c.loop-t.auto.t c.loop-t-test.true moves_are c.transitions.result.now c.transitions.ensures.list (c.if-factors-step.true ∙ c.class_at-class.ensures)
    c.behind-position.result c.behind-position.ensures new.pairs.keys new.moves.items c.in_ok-follow.field-0 c.in_ok-follow.ensures in
    elim rest [
      | inl (on, less, all) ↦ absurd (true≢false (sym on ∙ c.if-not-branch.true))
      | inr (off, many) ↦ inr (refl, many, new_are)
    ]

pub loop-t-preserved : goal.loop-t-preserved
loop-t-preserved c =
    let f = c.args.factors.now in
    let old = c.args.self.now.pairs.keys in
    let s = c.loop-t.self in
    let t : ℕ = c.loop-t.t in
    let x = pair_at c.as_slice.result.now c.args.from in
    let is_x = ap (λ (l : List (ℕ × ℕ)). pair_at l c.args.from) c.as_slice.ensures.keys in
    let span = c.outgoing-span.result in
    let (are, grows, few, moves_are) = c.loop-t.invariant in
    let Q : Made → Type 0 = λ m.
    ArePairs f.automaton.now f.classes.now f.prefix.now f.turn.now m.pairs.keys
    × Grows old m.pairs.keys
    × (length m.pairs.keys ≤ c.args.limit)
    × AreMoves f.automaton.now f.classes.now f.prefix.now f.turn.now (DoneIn f.automaton.now c.args.from (t + 1)) m.pairs.keys m.moves.items in
    elim c.if-factors-step.branch as (λ _. Q c.if-factors-step.self) [
      | then-factors-step+in_ok-follow+else-not-branch w ↦
          let new = w.follow.new.self in
          let (new_are, new_grows, rest) =
          one_followed f.automaton.now f.classes.now f.prefix.now f.turn.now c.outgoing-span.ensures.valid c.requires.factors.turn c.args.limit c.args.from span.begin span.end old c.requires.within
          x is_x c.outgoing-span.ensures.range s.pairs.keys s.moves.items are grows
          t c.loop-t.auto.t c.loop-t-test.true moves_are c.transitions.result.now c.transitions.ensures.list (w.if-factors-step.true ∙ c.class_at-class.ensures)
          c.behind-position.result c.behind-position.ensures new.pairs.keys new.moves.items w.in_ok-follow.field-0 w.in_ok-follow.ensures in
          subst Q (sym w.self-is) (elim rest [
            | inl (on, less, all) ↦ (new_are, new_grows, less, all)
            | inr (off, many) ↦ absurd (true≢false (sym w.if-not-branch.false ∙ off))
          ])
      | else-factors-step w ↦ subst Q (sym w.self-is) (
        are,
        grows,
        few,
        passed_over f.automaton.now f.classes.now f.prefix.now f.turn.now c.outgoing-span.ensures.valid c.requires.factors.turn c.args.limit c.args.from span.begin span.end old c.requires.within
            x is_x c.outgoing-span.ensures.range s.pairs.keys s.moves.items are grows t c.loop-t.auto.t c.loop-t-test.true moves_are
            c.transitions.result.now c.transitions.ensures.list (λ e. w.if-factors-step.false (e ∙ sym c.class_at-class.ensures)),
      )
    ]

pub returns : goal.returns
returns c =
    let f = c.args.factors.now in
    let old = c.args.self.now.pairs.keys in
    let s = c.loop-t.self in
    let span = c.outgoing-span.result in
    let (are, grows, few, moves_are) = c.loop-t.invariant in
    let size = grows_size old s.pairs.keys grows in
    inl (
      refl,
      omega (arith, c.requires.within),
      few,
      (
        are,
        ends f.automaton.now f.classes.now f.prefix.now f.turn.now c.outgoing-span.ensures.valid c.requires.factors.turn c.args.limit c.args.from span.begin span.end old c.requires.within
            (pair_at c.as_slice.result.now c.args.from) (ap (λ l. pair_at l c.args.from) c.as_slice.ensures.keys) c.outgoing-span.ensures.range s.pairs.keys s.moves.items are grows c.loop-t.t (omega (arith, c.loop-t-test.false)) moves_are,
      ),
    )
