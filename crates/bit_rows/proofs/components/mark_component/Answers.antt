use Rattle.std.proofs.Common.{ℕ, List, sym, ◌∙◌}
use Rattle.std.proofs.lemmas.Bool.{false≢true}
use Rattle.auto_core.specs.Reach.{HasArc}
use Rattle.bit_rows.proofs.LoopLemmas.{close_in, within_returns, returns_within, done_looping, done_plain}
use Rattle.bit_rows.proofs.components.mark_component.Goals as goal

pub has_arc_within-requires-clause-below : goal.has_arc_within-requires-clause-below
has_arc_within-requires-clause-below c = λ q has.
    close_in c.args.any.now c.args.count c.args.width q c.args.at c.requires.at_in ((c.write_component.ensures.component q).0 has).1

pub returns-then-has_arc_within : goal.returns-then-has_arc_within
returns-then-has_arc_within c =
    let R : ℕ → ℕ → Type 0 = HasArc c.args.any.now c.args.count c.args.width in
    let F : ℕ → ℕ → Type 0 = HasArc c.args.flagged.now c.args.count c.args.width in
    let at : ℕ = c.args.at in
    done_looping R F c.args.count at c.args.looping.now c.args.done_places.now c.requires.so_far c.write_component.new.behind c.add_bits.new.into c.write_component.ensures.behind
    (λ q way. close_in c.args.any.now c.args.count c.args.width q at c.requires.at_in way) c.add_bits.ensures
    (within_returns R F c.requires.arcs at c.write_component.new.component c.write_component.ensures.component (c.has_arc_within.ensures.0 c.if-has_arc_within.true))

pub returns-else-has_arc_within : goal.returns-else-has_arc_within
returns-else-has_arc_within c =
    let R : ℕ → ℕ → Type 0 = HasArc c.args.any.now c.args.count c.args.width in
    let F : ℕ → ℕ → Type 0 = HasArc c.args.flagged.now c.args.count c.args.width in
    let at : ℕ = c.args.at in
    let component : List ℕ = c.write_component.new.component in
    done_plain R F c.args.count at c.args.looping.now c.args.done_places.now c.requires.so_far component c.add_bits-else-has_arc_within.new.into c.write_component.ensures.component
    c.add_bits-else-has_arc_within.ensures
    (λ x x_in back. false≢true (sym c.if-has_arc_within.false ∙ c.has_arc_within.ensures.1 (returns_within R F c.requires.arcs at component c.write_component.ensures.component x x_in back)))
