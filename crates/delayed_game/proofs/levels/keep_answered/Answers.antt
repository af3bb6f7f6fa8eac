use Rattle.std.proofs.Common.{◌≡◌, ◌&&◌, inl, inr, sym, ap, ◌∙◌, subst, arith}
use Rattle.std.proofs.lemmas.Bool.{cases_eq, cases_lt, and_parts, and_from}
use Rattle.auto_core.specs.Rows.{bit_of, cell_of, HasCell}
use Rattle.bit_rows.proofs.WordLemmas.{first_cell}
use Rattle.delayed_game.proofs.levels.keep_answered.Goals as goal

pub loop-t-init : goal.loop-t-init
loop-t-init c = λ q near. (λ bit. (bit, λ u from below. absurd (omega arith)), λ is. is.0)

pub loop-t-preserved : goal.loop-t-preserved
loop-t-preserved c = λ q near.
    let w = c.args.width in
    let t = c.loop-t.t in
    let old = c.loop-t.row in
    let new = c.and_row.new.table in
    let answered = c.args.answered.now in
    let anded : bit_of new q ≡ (bit_of old q && cell_of answered w t q) =
    sym (first_cell new w q)
    ∙ c.and_row.ensures.here q near
    ∙ ap (λ b. b && bit_of c.row_at.result.now q) (first_cell old w q)
    ∙ ap (λ b. bit_of old q && b) (c.row_at.ensures.bits q near) in (
      λ bit.
          let two = and_parts (bit_of old q) (cell_of answered w t q) (sym anded ∙ bit) in
          let was = (c.loop-t.invariant q near).0 two.0 in (
            was.0,
            λ u from below. elim (cases_eq u t) [
              | inl e ↦ subst (λ x. HasCell answered w x q) (sym e) two.1
              | inr apart ↦ was.1 u from (omega arith)
            ],
          ),
      λ is. anded ∙ and_from (bit_of old q) (cell_of answered w t q) ((c.loop-t.invariant q near).1 (is.0, λ u from below. is.1 u from (omega arith))) (is.1 t c.loop-t.auto.t (omega arith)),
    )

pub returns : goal.returns
returns c = λ q near.
    let p = c.args.p in
    let range = c.outgoing-span.ensures.range in
    let was = c.loop-t.invariant q near in (
      λ bit. let is = was.0 bit in (
        is.0,
        λ t t_in leaves. is.1 t
            (elim (cases_lt t c.outgoing-span.result.begin) [ inl before ↦ let lt = range.before t before in absurd (omega arith) | inr from ↦ from ])
            (elim (cases_lt t c.loop-t.t) [ inl below ↦ below | inr past ↦ let lt = range.after t (omega (arith, past, c.loop-t-test.false)) t_in in absurd (omega arith) ]),
      ),
      λ is. was.1 (is.0, λ u from below. let inside = range.inside u from (omega (arith, below, c.loop-t.auto.t-end, range.is_range)) in is.1 u (omega (arith, below, c.loop-t.auto.t-end, range.is_range, range.within)) inside),
    )
