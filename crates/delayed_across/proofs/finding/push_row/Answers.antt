use Rattle.std.proofs.Common.{rules, ◌≡◌, ℕ, ◌+◌, ◌*◌, get_or, refl, sym, ap, ◌∙◌, subst, arith}
use Rattle.auto_core.specs.Delayed.{rank_in_code}
use Rattle.delayed_game.specs.Levels.{rank_in_table}
use Rattle.delayed_game.proofs.SettleLemmas.{pair_below}
use Rattle.delayed_laws.specs.declared.parts.DelayedPair.{DelayedPair}
use Rattle.delayed_across.specs.Listed.{ListsBefore}
use Rattle.delayed_across.proofs.ListLemmas.{listed_push, listed_row}
use Rattle.delayed_across.proofs.finding.push_row.Goals as goal

pub loop-q-init : goal.loop-q-init
loop-q-init c = (c.requires.listed, omega arith)

pub overflow_cast-q : goal.overflow_cast-q
overflow_cast-q c =
    let below = pair_below c.args.board.now c.row.result.now c.args.board.now.states c.args.left c.in-Some.q refl c.requires.valid c.in-Some.ensures.found.here (c.row.ensures.bits c.in-Some.q) in
    search rules

pub pair_number-requires-clause-column : goal.pair_number-requires-clause-column
pair_number-requires-clause-column c =
    let below = pair_below c.args.board.now c.row.result.now c.args.board.now.states c.args.left c.in-Some.q refl c.requires.valid c.in-Some.ensures.found.here (c.row.ensures.bits c.in-Some.q) in
    omega (arith, c.states.ensures.count)

pub loop-q-smaller : goal.loop-q-smaller
loop-q-smaller c =
    let below = pair_below c.args.board.now c.row.result.now c.args.board.now.states c.args.left c.in-Some.q refl c.requires.valid c.in-Some.ensures.found.here (c.row.ensures.bits c.in-Some.q) in
    let behind = c.in-Some.ensures.found.behind in
    omega arith

pub loop-q-preserved : goal.loop-q-preserved
loop-q-preserved c =
    let R = c.args.board.now in
    let ranks = c.args.ranks.now in
    let x : ℕ = c.args.left in
    let q : ℕ = c.in-Some.q in
    let below = pair_below R c.row.result.now R.states x q refl c.requires.valid c.in-Some.ensures.found.here (c.row.ensures.bits q) in
    let at : c.pair_number.result ≡ x * R.states + q = c.pair_number.ensures.number ∙ ap (λ m. x * m + q) c.states.ensures.count in
    let e : DelayedPair = record { left = x; right = q; rank = c.rank_in_code-rank.result } in
    let rank : c.rank_in_code-rank.result ≡ rank_in_table ranks R.states x q = c.rank_in_code-rank.ensures ∙ ap (λ i. rank_in_code (get_or ranks i 0)) at in (
      subst (λ l. ListsBefore R ranks x (q + 1) l) (sym c.in_ok-push.ensures.items)
          (listed_push R ranks x c.loop-q.at q c.row.result.now c.loop-q.pairs.items e c.loop-q.invariant.0 c.row.ensures.bits c.in-Some.ensures.found refl refl rank),
      omega arith,
    )

pub returns : goal.returns
returns c = listed_row c.args.board.now c.args.ranks.now c.args.left c.loop-q.at c.row.result.now c.loop-q.pairs.items c.loop-q.invariant.0 c.row.ensures.bits c.in_default.ensures.none
