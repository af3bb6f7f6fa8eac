use Rattle.std.proofs.Common.{ℕ, cond, List, sym, subst}
use Rattle.auto_core.specs.Rows.{HasCell}
use Rattle.lasso_accept.specs.Guide.{IsGuide}
use Rattle.lasso_accept.proofs.GuideLemmas.{guide_leads}
use Rattle.lasso_accept.proofs.spelling.spell.Goals as goal

pub walk-requires : goal.walk-requires
walk-requires c =
    let A = c.args.automaton.now in
    let any : List ℕ = c.in_ok-guide.guide.any.items in
    let flagged : List ℕ = c.in_ok-guide.guide.flagged.items in
    let word : List ℕ = c.args.word.now in
    let target : List ℕ = c.args.target.now in
    let width : ℕ = c.args.width in
    let g : IsGuide A word target width any flagged = c.in_ok-guide.ensures in
    let P : List ℕ → Type 0 = λ t. IsGuide A word target width t flagged in
    let Q : List ℕ → Type 0 = λ t. IsGuide A word target width c.deref.result.now t in
    let H : List ℕ → Type 0 = λ t. HasCell (cond c.args.asked flagged t) width 0 c.args.start in
    let J : List ℕ → Type 0 = λ t. HasCell (cond c.args.asked t c.deref.result.now) width 0 c.args.start in
    record {
      valid = c.requires.valid;
      room = c.requires.room;
      is_state = c.requires.is_state;
      guided = (target, subst Q (sym c.deref-2.ensures.value) (subst P (sym c.deref.ensures.value) g));
      here = subst J (sym c.deref-2.ensures.value) (subst H (sym c.deref.ensures.value) (guide_leads A c.requires.valid word target width any flagged g c.args.start c.args.asked c.requires.is_state c.requires.leads));
    }

pub returns : goal.returns
returns c =
    let A = c.args.automaton.now in
    let any : List ℕ = c.in_ok-guide.guide.any.items in
    let flagged : List ℕ = c.in_ok-guide.guide.flagged.items in
    let word : List ℕ = c.args.word.now in
    let target : List ℕ = c.args.target.now in
    let width : ℕ = c.args.width in
    let g : IsGuide A word target width any flagged = c.in_ok-guide.ensures in
    let P : List ℕ → Type 0 = λ t. IsGuide A word target width t flagged in
    let Q : List ℕ → Type 0 = λ t. IsGuide A word target width c.deref.result.now t in
    c.walk.ensures target (subst Q (sym c.deref-2.ensures.value) (subst P (sym c.deref.ensures.value) g))
