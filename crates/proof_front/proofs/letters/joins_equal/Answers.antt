use Rattle.std.proofs.Common.{ℕ, ◌<◌, refl, arith, rules}
use Rattle.std.proofs.lemmas.Bool.{false≢true}
use Rattle.letter_classes.specs.Columns.{IsFirstUnlike}
use Rattle.map_laws.specs.Maps.{JoinsEqualColumns}
use Rattle.proof_front.proofs.letters.joins_equal.Goals as goal

pub returns-in-Some : goal.returns-in-Some
returns-in-Some c =
    let a : ℕ = c.in-Some.field-0 in
    let first : IsFirstUnlike c.args.automaton.now c.args.classes.now a = c.check.ensures.some a (search rules) in
    let low : first.like < c.args.automaton.now.labels = omega (arith, first.earlier, first.is_label) in
    (λ told. absurd (false≢true told), λ joins. absurd (first.differs (joins first.like a low first.is_label first.class)))

pub returns-in-None : goal.returns-in-None
returns-in-None c =
    let joins : JoinsEqualColumns c.args.automaton.now c.args.classes.now = c.check.ensures.none (search rules) in
    (λ told. joins, λ joined. refl)
