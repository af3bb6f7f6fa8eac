use Rattle.std.proofs.Common.{◌≡◌, ℕ, ◌+◌, ◌*◌, ◌<◌, ◌||◌, length, sym, ap, ◌∙◌, arith}
use Rattle.std.proofs.lemmas.Bool.{false≢true}
use Rattle.auto_core.specs.Rows.{bit_of, cell_of}
use Rattle.lasso_accept.proofs.guide.write_guide.Goals as goal

pub fill-requires-clause-any_clear : goal.fill-requires-clause-any_clear
fill-requires-clause-any_clear c = λ i p below p_in. c.or_row.ensures.others i p p_in (λ e. omega arith) ∙ c.requires.any_clear (i * c.args.width * 64 + p)

pub fill-requires-clause-flagged_clear : goal.fill-requires-clause-flagged_clear
fill-requires-clause-flagged_clear c = λ i p below p_in. c.requires.flagged_clear (i * c.args.width * 64 + p)

pub fill-requires-clause-none : goal.fill-requires-clause-none
fill-requires-clause-none c = λ p p_in h. false≢true (sym (c.requires.flagged_clear (length c.args.word.now * c.args.width * 64 + p)) ∙ h)

pub returns : goal.returns
returns c =
    let room = c.requires.room in
    let n : ℕ = length c.args.word.now in
    let same : (p : ℕ) → p < c.args.automaton.now.states → cell_of c.or_row.new.table c.args.width n p ≡ bit_of c.args.target.now p =
    λ p p_in. c.or_row.ensures.here p (omega arith) ∙ ap (λ b. b || bit_of c.args.target.now p) (c.requires.any_clear (n * c.args.width * 64 + p)) in
    c.fill.ensures c.args.target.now (λ p p_in. (λ h. sym (same p p_in) ∙ h, λ h. same p p_in ∙ h))
