use Rattle.std.proofs.Common.{ℕ, ◌≡◌, ◌+◌, ◌-◌, rules, refl, sym, ◌∙◌}
use Rattle.std.proofs.lemmas.Bool.{false≢true}
use Rattle.look_game.proofs.NearLemmas.{trying_begins, row_lost, row_kept, row_passed, all_tried}
use Rattle.look_game.proofs.game.pass.Goals as goal

pub loop-p-init : goal.loop-p-init
loop-p-init g c = (
  refl,
  trying_begins (g.S.Side.goes c.args.side.now c.args.automaton.now) (g.S.Side.matches c.args.side.now c.args.automaton.now) c.args.look c.args.marks.now c.args.rel.now c.clear_row.new.row c.size-p.result
      c.size-p.ensures.valid c.size-p.ensures.count c.clear_row.ensures c.requires.others,
  c.requires.ready,
)

pub loop-p-preserved-then-visit_row : goal.loop-p-preserved-then-visit_row
loop-p-preserved-then-visit_row g c =
    let e = c.visit_row.ensures in
    let n = c.loop-p.p in
    let p : ℕ = n - 1 in
    let next : p + 1 ≡ n = search rules in (
      e.scratch ∙ c.loop-p.invariant.0,
      row_lost (g.S.Side.goes c.args.side.now c.args.automaton.now) (g.S.Side.matches c.args.side.now c.args.automaton.now) c.args.look c.args.marks.now c.args.rel.now c.loop-p.rel c.visit_row.new.rel
          c.loop-p.changed c.set_bit.new.row c.loop-p.any p n next c.loop-p.invariant.1 e.takes (e.some c.if-visit_row.true) e.others e.apart c.set_bit.ensures.here c.set_bit.ensures.others,
      e.ready,
    )

pub loop-p-preserved-else-visit_row : goal.loop-p-preserved-else-visit_row
loop-p-preserved-else-visit_row g c =
    let e = c.visit_row.ensures in
    let n = c.loop-p.p in
    let p : ℕ = n - 1 in
    let next : p + 1 ≡ n = search rules in (
      e.scratch ∙ c.loop-p.invariant.0,
      row_kept (g.S.Side.goes c.args.side.now c.args.automaton.now) (g.S.Side.matches c.args.side.now c.args.automaton.now) c.args.look c.args.marks.now c.args.rel.now c.loop-p.rel c.visit_row.new.rel
          c.loop-p.changed c.loop-p.any p n next c.loop-p.invariant.1 (e.same c.if-visit_row.false) (e.rounds c.if-visit_row.false),
      e.ready,
    )

pub loop-p-preserved : goal.loop-p-preserved
loop-p-preserved g c =
    let n = c.loop-p.p in
    let p : ℕ = n - 1 in
    let next : p + 1 ≡ n = search rules in (
      c.loop-p.invariant.0,
      row_passed (g.S.Side.goes c.args.side.now c.args.automaton.now) (g.S.Side.matches c.args.side.now c.args.automaton.now) c.args.look c.args.marks.now c.args.rel.now c.loop-p.rel
          c.loop-p.changed c.loop-p.any p n next c.loop-p.invariant.1 (λ bit. false≢true (sym c.if-has_bit.false ∙ c.has_bit.ensures ∙ bit)),
      c.loop-p.invariant.2,
    )

pub returns-clause-none : goal.returns-clause-none
returns-clause-none g c = λ e p.
    let h = c.loop-p.invariant.1 in
    all_tried (g.S.Side.goes c.args.side.now c.args.automaton.now) (g.S.Side.matches c.args.side.now c.args.automaton.now) c.args.look c.args.marks.now c.args.rel.now c.loop-p.rel c.loop-p.changed
    c.loop-p.any c.loop-p.p h (search rules) p (λ r bit reached. h.none e r bit)

pub returns-clause-apart : goal.returns-clause-apart
returns-clause-apart g c =
    all_tried (g.S.Side.goes c.args.side.now c.args.automaton.now) (g.S.Side.matches c.args.side.now c.args.automaton.now) c.args.look c.args.marks.now c.args.rel.now c.loop-p.rel c.loop-p.changed
    c.loop-p.any c.loop-p.p c.loop-p.invariant.1 (search rules)
