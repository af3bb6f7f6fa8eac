use Rattle.std.proofs.Common.{◌≡◌, ℕ, ◌+◌, ◌*◌, ◌<◌, List, length, ap, ◌∙◌, subst, arith}
use Rattle.std.proofs.lemmas.Nat.{row_fits}
use Rattle.auto_core.specs.Rows.{bit_of, cell_of}
use Rattle.lasso_accept.proofs.WalkLemmas.{walked_none, guided_rows, walked_more, walked_all, cond_length}
use Rattle.lasso_accept.proofs.spelling.walk.Goals as goal

pub loop-at-init : goal.loop-at-init
loop-at-init c =
    walked_none c.args.automaton.now c.args.word.now c.args.width c.args.any.now c.args.flagged.now c.args.start c.args.asked c.args.places.now
    c.requires.is_state c.requires.here

pub row_at-marked-requires : goal.row_at-marked-requires
row_at-marked-requires c =
    let g = c.requires.guided.1 in
    let n : ℕ = length c.args.word.now in
    let len : length c.args.any.now ≡ (n + 1) * c.args.width = g.any_len in
    omega (arith, row_fits (c.loop-at.at + 1) c.args.width (n + 1) c.args.width (omega arith) (omega arith), len)

pub row_at-plain-requires : goal.row_at-plain-requires
row_at-plain-requires c =
    let g = c.requires.guided.1 in
    let n : ℕ = length c.args.word.now in
    let len : length c.table_for.result.now ≡ (n + 1) * c.args.width =
    ap length c.table_for.ensures ∙ cond_length c.loop-at.wanted c.args.any.now c.args.flagged.now ((n + 1) * c.args.width) g.any_len g.flagged_len in
    omega (arith, row_fits (c.loop-at.at + 1) c.args.width (n + 1) c.args.width (omega arith) (omega arith), len)

pub successor_in-state-requires-clause-some : goal.successor_in-state-requires-clause-some
successor_in-state-requires-clause-some c =
    let (target, g) = c.requires.guided in
    let P : List ℕ → Type 0 = λ t. (q : ℕ) → q < c.args.width * 64 → bit_of c.row_at-plain.result.now q ≡ cell_of t c.args.width (c.loop-at.at + 1) q in
    guided_rows c.args.automaton.now c.requires.valid c.args.word.now target c.args.width c.args.any.now c.args.flagged.now c.loop-at.at c.loop-at.state c.loop-at.wanted
    c.row_at-marked.result.now c.row_at-plain.result.now c.requires.room g (omega arith) c.loop-at.invariant.is_state c.loop-at.invariant.here
    c.row_at-marked.ensures.bits (subst P c.table_for.ensures c.row_at-plain.ensures.bits)

pub loop-at-preserved : goal.loop-at-preserved
loop-at-preserved c =
    let P : List ℕ → Type 0 = λ t. (q : ℕ) → q < c.args.width * 64 → bit_of c.row_at-plain.result.now q ≡ cell_of t c.args.width (c.loop-at.at + 1) q in
    walked_more c.args.automaton.now c.requires.valid c.args.word.now c.args.width c.args.any.now c.args.flagged.now c.args.start c.args.asked c.args.places.now
    c.loop-at.at c.loop-at.state c.loop-at.wanted c.loop-at.places c.successor_in-state.result c.still_asked-wanted.result
    c.row_at-marked.result.now c.row_at-plain.result.now c.push.new.self c.requires.room (omega arith) c.loop-at.invariant
    c.successor_in-state.ensures.moves c.successor_in-state.ensures.is_in c.row_at-marked.ensures.bits (subst P c.table_for.ensures c.row_at-plain.ensures.bits)
    c.still_asked-wanted.ensures c.in_ok-push.ensures.ok

pub returns : goal.returns
returns c = λ target g.
    let over : c.loop-at.at ≡ length c.args.word.now = omega arith in
    walked_all c.args.automaton.now c.args.word.now target c.args.width c.args.any.now c.args.flagged.now c.args.start c.args.asked c.args.places.now
    c.loop-at.at c.loop-at.state c.loop-at.wanted c.loop-at.places g over c.loop-at.invariant
