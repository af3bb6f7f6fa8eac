use Rattle.std.proofs.Common.{◌≡◌, ◌<◌, ◌↔◌, ℕ, List, sym, subst, arith}
use Rattle.auto_core.specs.Game.{Holds}
use Rattle.auto_core.specs.Rows.{HasBit}
use Rattle.bit_rel.specs.Relation.{Relation, IsRelation}
use Rattle.prune_pairs.proofs.FindLemmas.{least_of_next, none_past_next, none_past_last, source_read}
use Rattle.prune_pairs.proofs.finding.first_by_source.Goals as goal

state_below : (R : Relation) (row : List ℕ) (n p q : ℕ) → R.size ≡ n → IsRelation R → HasBit row q → HasBit row q ↔ Holds R.pairs p q → q < n
state_below R row n p q size valid bit both = let lt = (valid.in_range p q (both.0 bit)).1 in omega arith

pub first_out_of_related-requires-clause-source : goal.first_out_of_related-requires-clause-source
first_out_of_related-requires-clause-source c =
    let q = c.in-Some.source in
    state_below c.args.back.now c.row-row.result.now c.args.automaton.now.states _ q c.requires.back c.row-row.ensures.valid c.in-Some.ensures.found.here (c.row-row.ensures.bits q)

pub returns-in-Some-first_out_of_related-clause-some : goal.returns-in-Some-first_out_of_related-clause-some
returns-in-Some-first_out_of_related-clause-some c =
    let A = c.args.automaton.now in
    let B = Holds c.args.back.now.pairs in
    least_of_next A c.args.pair B (Holds c.args.ahead.now.pairs) c.args.t c.requires.pair_from c.transitions.ensures.valid c.row-row.result.now c.loop-source.at c.in-Some.source c.in-Some-first_out_of_related.by
    (λ q h. (c.row-row.ensures.bits q).1 (subst (λ p. B p q) (sym (source_read A c.transitions.result.now c.args.t c.transitions.ensures.list)) h))
    c.in-Some.ensures.found c.loop-source.invariant.1 c.in-Some-first_out_of_related.ensures.some

pub loop-source-smaller : goal.loop-source-smaller
loop-source-smaller c =
    let q = c.in-Some.source in
    let below = state_below c.args.back.now c.row-row.result.now c.args.automaton.now.states _ q c.requires.back c.row-row.ensures.valid c.in-Some.ensures.found.here (c.row-row.ensures.bits q) in
    let behind = c.in-Some.ensures.found.behind in
    omega arith

pub loop-source-preserved : goal.loop-source-preserved
loop-source-preserved c =
    let A = c.args.automaton.now in
    let B = Holds c.args.back.now.pairs in
    let q = c.in-Some.source in
    let below = state_below c.args.back.now c.row-row.result.now A.states _ q c.requires.back c.row-row.ensures.valid c.in-Some.ensures.found.here (c.row-row.ensures.bits q) in (
      omega arith,
      none_past_next A c.args.pair B (Holds c.args.ahead.now.pairs) c.args.t c.requires.pair_from c.row-row.result.now c.loop-source.at q
          (λ q h. (c.row-row.ensures.bits q).1 (subst (λ p. B p q) (sym (source_read A c.transitions.result.now c.args.t c.transitions.ensures.list)) h))
          c.in-Some.ensures.found c.loop-source.invariant.1 c.in-None.ensures.none,
    )

pub returns-clause-none : goal.returns-clause-none
returns-clause-none c = λ better.
    let A = c.args.automaton.now in
    let B = Holds c.args.back.now.pairs in
    none_past_last A c.args.pair B (Holds c.args.ahead.now.pairs) c.args.t c.requires.pair_from c.row-row.result.now c.loop-source.at
    (λ q h. (c.row-row.ensures.bits q).1 (subst (λ p. B p q) (sym (source_read A c.transitions.result.now c.args.t c.transitions.ensures.list)) h))
    c.in_default.ensures.none c.loop-source.invariant.1 better.0 better.1
