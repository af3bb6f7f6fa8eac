use Rattle.std.proofs.Common.{◌≡◌, ◌↔◌, ℕ, ◌+◌, ◌*◌, ◌/◌, ◌<◌, ◌≤◌, List, length, take, drop, sym, ap, ◌∙◌, subst, arith}
use Rattle.std.proofs.lemmas.Nat.{row_fits}
use Rattle.auto_core.specs.Automaton.{Automaton}
use Rattle.auto_core.specs.Rows.{HasCell}
use Rattle.lasso_accept.specs.Looping.{AcceptsLassoFrom}
use Rattle.lasso_accept.proofs.LoopingLemmas.{lasso_by_rest}
use Rattle.lasso_shrink.specs.Prefixes.{AreRestsFrom}
use Rattle.lasso_shrink.proofs.places.accepts_without.Goals as goal

pub row_at-rest-requires : goal.row_at-rest-requires
row_at-rest-requires c =
    let width : ℕ = c.words_for-width.result in
    let same : width ≡ (c.args.automaton.now.states + 63) / 64 = c.words_for-width.ensures ∙ ap (λ n. (n + 63) / 64) c.states.ensures.count in
    let u : List ℕ = c.args.lasso.now.prefix in
    let first : ℕ = c.args.rests.now.first in
    let table : List ℕ = c.args.rests.now.table.items in
    let len : length table ≡ (first + length u + 1) * width = c.requires.rests.rows.len ∙ ap (λ n. (first + length u + 1) * n) (sym same) in
    let place = c.requires.place_in in
    omega (arith, row_fits (first + c.args.place + 1) width (first + length u + 1) width (omega (arith, place)) (omega arith), len, c.deref.ensures.len, ap length c.deref.ensures.value)

pub returns : goal.returns
returns c =
    let A : Automaton = c.args.automaton.now in
    let u : List ℕ = c.args.lasso.now.prefix in
    let v : List ℕ = c.args.lasso.now.turn in
    let k : ℕ = c.args.place in
    let first : ℕ = c.args.rests.now.first in
    let width : ℕ = c.words_for-width.result in
    let table : List ℕ = c.deref.result.now in
    let front = c.requires.front in
    let same : (A.states + 63) / 64 ≡ width = sym (c.words_for-width.ensures ∙ ap (λ n. (n + 63) / 64) c.states.ensures.count) in
    let held : AreRestsFrom A u v width first c.args.rests.now.table.items = subst (λ n. AreRestsFrom A u v n first c.args.rests.now.table.items) same c.requires.rests.rows in
    let rests : AreRestsFrom A u v width first table = subst (λ l. AreRestsFrom A u v width first l) (sym c.deref.ensures.value) held in
    let in_rest : k + 1 ≤ length u = (let place = c.requires.place_in in omega (arith, place)) in
    let at : first + (k + 1) ≡ first + k + 1 = omega arith in
    let row : (q : ℕ) → q < A.states → HasCell table width (first + k + 1) q ↔ AcceptsLassoFrom A (drop (k + 1) u) v q =
    λ q q_in. subst (λ n. HasCell table width n q ↔ AcceptsLassoFrom A (drop (k + 1) u) v q) at (rests.rows (k + 1) q in_rest q_in) in
    let near : (q : ℕ) → q < A.states → q < width * 64 = λ q q_in. omega (arith, q_in, same) in
    let is = lasso_by_rest A (take k u) (drop (k + 1) u) v in (
      λ told.
          let (q, has, cell) = c.meets.ensures.0 told in
          let q_in = front.row.below q has in
          is.1 (q, (front.members q).0 has, (row q q_in).0 (sym (c.row_at-rest.ensures.bits q (near q q_in)) ∙ cell)),
      λ a.
          let (q, run, l) = is.0 a in
          let has = (front.members q).1 run in
          let q_in = front.row.below q has in
          c.meets.ensures.1 (q, has, c.row_at-rest.ensures.bits q (near q q_in) ∙ (row q q_in).1 l),
    )
