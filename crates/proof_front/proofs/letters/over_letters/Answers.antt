use Rattle.std.proofs.Common.{◌≡◌, false, inl, inr, refl, sym, ◌∙◌, subst, rules}
use Rattle.std.proofs.lemmas.Bool.{false≢true}
use Rattle.map_laws.specs.Maps.{JoinsEqualColumns, IsRenamed}
use Rattle.proof_front.specs.Front.{AreLettersFor}
use Rattle.proof_front.proofs.letters.over_letters.Goals as goal

pub returns-then-not-branch : goal.returns-then-not-branch
returns-then-not-branch c =
    let B = c.args.second.now in
    let letters : AreLettersFor B c.args.letters.now = search rules in
    let same : c.in-Some.classes ≡ c.args.letters.now = search rules in
    let told : c.in_ok-joins_equal.field-0 ≡ false = search rules in
    inr (letters, inl (λ joins. false≢true (sym told ∙ c.in_ok-joins_equal.ensures.1 (subst (λ l. JoinsEqualColumns B l) (sym same) joins)), refl))

pub returns : goal.returns
returns c =
    let A = c.args.first.now in
    let B = c.args.second.now in
    let letters : AreLettersFor B c.args.letters.now = search rules in
    let same : c.in-Some.classes ≡ c.args.letters.now = search rules in
    let joins : JoinsEqualColumns B c.in-Some.classes = c.in_ok-joins_equal.ensures.0 (search rules) in (
      (letters, (subst (λ l. JoinsEqualColumns B l) same joins, tt)),
      record {
        renamed = c.in_ok-whole.whole;
        first = subst (λ l. IsRenamed A l c.in_ok-whole.whole) same c.in_ok-whole.ensures;
        trimmed = c.in_ok-first.ensures;
        second = subst (λ l. IsRenamed B l c.in_ok-second.second) same c.in_ok-second.ensures;
      },
    )
