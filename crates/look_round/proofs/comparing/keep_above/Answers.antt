use Rattle.std.proofs.Common.{ℕ, ◌<◌, le_refl, arith}
use Rattle.std.proofs.lemmas.Nat.{row_fits}
use Rattle.look_round.proofs.CompareLemmas.{kept_none, rows_within, kept_more, kept_all}
use Rattle.look_round.proofs.comparing.keep_above.Goals as goal

pub loop-q-init : goal.loop-q-init
loop-q-init c = (kept_none c.args.table.now c.args.width c.args.p c.args.had.now c.args.span, omega arith)

pub row_at-requires : goal.row_at-requires
row_at-requires c =
    let q_in : c.in-Some.q < c.args.count = c.requires.states c.in-Some.q c.in-Some.ensures.found.here in
    let fits = row_fits c.in-Some.q c.args.span c.args.count c.args.span q_in (le_refl c.args.span) in
    omega (arith, c.requires.had)

pub loop-q-preserved : goal.loop-q-preserved
loop-q-preserved c =
    let had = c.args.had.now in
    let p : ℕ = c.args.p in
    let q : ℕ = c.in-Some.q in
    let next = c.in-Some.ensures.found in
    let within = rows_within had c.row_at-own.result.now c.row_at.result.now c.args.span p q c.row_at-own.ensures.bits c.row_at-own.ensures.outside c.row_at.ensures.bits in (
      kept_more c.args.table.now c.loop-q.table c.keep_if_within.new.table c.args.row.now c.args.width p had c.row_at-own.result.now c.row_at.result.now c.args.span c.loop-q.at q
          c.loop-q.invariant.0 c.requires.row next within c.keep_if_within.ensures.here c.keep_if_within.ensures.others,
      omega arith,
    )

pub returns-clause-here : goal.returns-clause-here
returns-clause-here c =
    kept_all c.args.table.now c.loop-q.table c.args.row.now c.args.width c.args.p c.args.had.now c.args.span c.loop-q.at c.loop-q.invariant.0 c.requires.row c.in_default.ensures.none

pub returns-clause-others : goal.returns-clause-others
returns-clause-others c = c.loop-q.invariant.0.others
