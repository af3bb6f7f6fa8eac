use Rattle.std.proofs.Common.{rules, ◌≡◌, ℕ, ◌+◌, ◌*◌, ◌<◌, inl, inr, set, sym, ap, ◌∙◌, arith}
use Rattle.std.proofs.lemmas.Bool.{cases_lt, false≢true}
use Rattle.std.proofs.lemmas.List.{length-set}
use Rattle.auto_core.specs.Rows.{HasBit}
use Rattle.auto_core.specs.Game.{Holds}
use Rattle.delayed_game.specs.Pairings.{Pairing, IsPairing}
use Rattle.delayed_game.proofs.BeforeLemmas.{rank_set, given_none, given_more}
use Rattle.delayed_game.proofs.levels.give_ranks.Goals as goal

-- a pair of the relation is in range
right_below : (R : Pairing) (p q : ℕ) → IsPairing R → Holds R.pairs p q → q < R.states
right_below R p q valid held = (valid.in_range p q held).1

pub loop-q-init : goal.loop-q-init
loop-q-init c = (given_none c.args.unranked.now c.args.ranks.now c.args.p c.args.row.now c.args.rank c.requires.valid, omega arith)

pub overflow_cast-q : goal.overflow_cast-q
overflow_cast-q c =
    let below = right_below c.args.unranked.now c.args.p c.in-Some.q c.requires.valid (c.requires.row c.in-Some.q c.in-Some.ensures.found.here) in
    search rules

pub overflow_cast-q-in-Some : goal.overflow_cast-q-in-Some
overflow_cast-q-in-Some c =
    let below = right_below c.args.unranked.now c.args.p c.in-Some.q c.requires.valid (c.requires.row c.in-Some.q c.in-Some.ensures.found.here) in
    search rules

pub clear-requires-clause-right : goal.clear-requires-clause-right
clear-requires-clause-right c =
    let below = right_below c.args.unranked.now c.args.p c.in-Some.q c.requires.valid (c.requires.row c.in-Some.q c.in-Some.ensures.found.here) in
    omega (arith, c.loop-q.invariant.0.states)

pub pair_number-requires-clause-column : goal.pair_number-requires-clause-column
pair_number-requires-clause-column c =
    let below = right_below c.args.unranked.now c.args.p c.in-Some.q c.requires.valid (c.requires.row c.in-Some.q c.in-Some.ensures.found.here) in
    omega (arith, c.loop-q.invariant.0.states, c.clear.ensures.pairs.states, c.states.ensures.count)

pub loop-q-smaller : goal.loop-q-smaller
loop-q-smaller c =
    let below = right_below c.args.unranked.now c.args.p c.in-Some.q c.requires.valid (c.requires.row c.in-Some.q c.in-Some.ensures.found.here) in
    let behind = c.in-Some.ensures.found.behind in
    omega arith

pub loop-q-preserved : goal.loop-q-preserved
loop-q-preserved c =
    let first = c.args.unranked.now in
    let n = first.states in
    let p = c.args.p in
    let q = c.in-Some.q in
    let h = c.loop-q.invariant.0 in
    let ranks = c.loop-q.ranks in
    let below = right_below first p q c.requires.valid (c.requires.row q c.in-Some.ensures.found.here) in
    let size : c.states.result ≡ n = c.states.ensures.count ∙ c.clear.ensures.pairs.states ∙ h.states in
    let at : c.pair_number.result ≡ p * n + q = c.pair_number.ensures.number ∙ ap (λ m. p * m + q) size in (
      given_more first c.loop-q.unranked c.clear.new.self c.args.ranks.now ranks (set ranks c.pair_number.result (c.args.rank + 1)) p c.args.row.now c.args.rank c.loop-q.at q h c.in-Some.ensures.found c.clear.ensures.pairs c.clear.ensures.valid
          (length-set ranks c.pair_number.result (c.args.rank + 1)) (rank_set ranks first.places n p q c.args.rank (c.args.rank + 1) c.pair_number.result (omega arith) (h.len ∙ c.requires.len) c.requires.left below at),
      omega arith,
    )

pub returns-clause-pairs : goal.returns-clause-pairs
returns-clause-pairs c = λ r s.
    let both = c.loop-q.invariant.0.pairs r s in (
      λ held. let was = both.0 held in (was.0, λ is. was.1 (is.0, within s is.1, is.1)),
      λ is. both.1 (is.0, λ late. is.1 (late.0, late.2)),
    )
  where
    within : (s : ℕ) → HasBit c.args.row.now s → s < c.loop-q.at
    within s bit = elim (cases_lt s c.loop-q.at) [
      | inl before ↦ before
      | inr from ↦ absurd (false≢true (sym (c.in_default.ensures.none s from) ∙ bit))
    ]

pub returns-clause-table : goal.returns-clause-table
returns-clause-table c = λ r s r_in s_in. elim (c.loop-q.invariant.0.table r s r_in s_in) [
  | inl given ↦ inl (given.0, given.2, given.3)
  | inr kept ↦ inr (λ is. kept.0 (is.0, within s is.1, is.1), kept.1)
]
  where
    within : (s : ℕ) → HasBit c.args.row.now s → s < c.loop-q.at
    within s bit = elim (cases_lt s c.loop-q.at) [
      | inl before ↦ before
      | inr from ↦ absurd (false≢true (sym (c.in_default.ensures.none s from) ∙ bit))
    ]
