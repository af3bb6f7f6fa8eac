use Rattle.std.proofs.Common.{◌≡◌, ◌&&◌, ◌*◌, ◌<◌, ℕ, List, inl, inr, sym, ap, ◌∙◌, arith}
use Rattle.std.proofs.lemmas.Bool.{cases_lt, false≢true}
use Rattle.auto_core.specs.Rows.{bit_of}
use Rattle.auto_core.specs.Reach.{HasArc}
use Rattle.auto_core.proofs.BitLemmas.{bit_past}
use Rattle.bit_rows.proofs.WordLemmas.{first_cell}
use Rattle.bit_rows.proofs.LoopLemmas.{and_has, close_in, reached_back}
use Rattle.bit_rows.proofs.components.write_component.Goals as goal

pub returns-clause-component : goal.returns-clause-component
returns-clause-component c = λ q.
    let R : ℕ → ℕ → Type 0 = HasArc c.args.table.now c.args.count c.args.width in
    let at : ℕ = c.args.at in
    let ahead : List ℕ = c.write_reached.new.out in
    let behind : List ℕ = c.write_reached-2.new.out in
    let both = and_has (bit_of ahead q) (bit_of behind q) in
    let back = reached_back c.args.table.now c.args.turned.now c.args.count c.args.width at behind c.requires.turned c.write_reached-2.ensures q in
    let room = c.requires.turned.fits.room in
    let new : List ℕ = c.and_row.new.table in
    let w : ℕ = c.args.width in
    let anded : q < w * 64 → bit_of new q ≡ (bit_of ahead q && bit_of behind q) = λ near.
    sym (first_cell new w q) ∙ c.and_row.ensures.here q near ∙ ap (λ b. b && bit_of behind q) (first_cell ahead w q) in
    elim (cases_lt q (c.args.width * 64)) [
      | inl near ↦ (
        λ has. let b = both.0 (sym (anded near) ∙ has) in ((c.write_reached.ensures q).0 b.0, back.0 b.1),
        λ (to, from). anded near ∙ both.1 ((c.write_reached.ensures q).1 to, back.1 from),
      )
      | inr far ↦ (
        λ has. absurd (false≢true (sym (bit_past new q (omega (arith, c.requires.component_len))) ∙ has)),
        λ (to, from). let lt = close_in c.args.table.now c.args.count c.args.width q at c.requires.at_in from in absurd (omega (arith, room)),
      )
    ]

pub returns-clause-behind : goal.returns-clause-behind
returns-clause-behind c = reached_back c.args.table.now c.args.turned.now c.args.count c.args.width c.args.at c.write_reached-2.new.out c.requires.turned c.write_reached-2.ensures
