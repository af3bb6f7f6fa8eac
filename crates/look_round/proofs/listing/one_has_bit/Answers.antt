use Rattle.std.proofs.Common.{◌≡◌, ℕ, ◌+◌, [], ◌∷◌, ◌++◌, Contains, inl, inr, take, slice_index_or, refl, sym, ◌∙◌, subst, take_all}
use Rattle.std.proofs.lemmas.Bool.{false≢true}
use Rattle.std.proofs.lemmas.List.{take_more}
use Rattle.std.proofs.lemmas.List.Elements.{Contains-get_or, Contains-push_cases}
use Rattle.auto_core.specs.Rows.{HasBit}
use Rattle.look_round.proofs.listing.one_has_bit.Goals as goal

pub returns-then-has_bit : goal.returns-then-has_bit
returns-then-has_bit c =
    let list = c.args.list.now in
    let i = c.loop-i.i in
    (λ h. (slice_index_or list i 0, Contains-get_or list i 0 c.loop-i-test.true, sym c.has_bit.ensures ∙ c.if-has_bit.true), λ h. refl)

pub loop-i-preserved : goal.loop-i-preserved
loop-i-preserved c = λ r there bit.
    let list = c.args.list.now in
    let i = c.loop-i.i in
    let x : ℕ = slice_index_or list i 0 in
    let more : take (i + 1) list ≡ take i list ++ x ∷ [] = take_more list i 0 c.loop-i-test.true in
    elim (Contains-push_cases (take i list) x r (subst (λ l. Contains l r) more there)) [
      | inl before ↦ c.loop-i.invariant r before bit
      | inr e ↦ false≢true (sym c.if-has_bit.false ∙ c.has_bit.ensures ∙ subst (HasBit c.args.row.now) (sym e) bit)
    ]

pub returns : goal.returns
returns c =
    (λ h. absurd (false≢true h), λ (r, there, bit). absurd (c.loop-i.invariant r (subst (λ l. Contains l r) (sym (take_all c.loop-i.i c.args.list.now c.loop-i-test.false)) there) bit))
