use Rattle.std.proofs.Common.{◌∙◌, ap, subst, sym, ◌++◌, ◌∷◌, [], Contains, length, map, arith}
use Rattle.ba_format.specs.Sight.{AreTexts}
use Rattle.ba_format.proofs.SightLemmas.{AreTexts-push, texts-insert}
use Rattle.ba_format.proofs.texts.Texts.add.Goals as goal

pub returns-clause-ok : goal.returns-clause-ok
returns-clause-ok c =
    let new = subst (λ l. Contains l c.args.text.now → ⊥) (sym c.self.view_is) c.requires.new in
    let text = c.in_ok-text.ensures.items_if_clones_equal (λ x y e. e) in
    ap (map (λ t. t.items)) c.in_ok-insert.ensures.keys ∙ texts-insert c.self.inside.texts.keys c.in_ok-text.text c.args.text.now text new ∙ ap (λ l. l ++ c.args.text.now ∷ []) c.self.view_is

pub invariant_of-self-2 : goal.invariant_of-self-2
invariant_of-self-2 c =
    let new = subst (λ l. Contains l c.args.text.now → ⊥) (sym c.self.view_is) c.requires.new in
    let text = c.in_ok-text.ensures.items_if_clones_equal (λ x y e. e) in
    let e = ap (map (λ t. t.items)) c.in_ok-insert.ensures.keys ∙ texts-insert c.self.inside.texts.keys c.in_ok-text.text c.args.text.now text new in
    subst AreTexts (sym e) (AreTexts-push _ c.args.text.now c.self.invariant new (omega (arith, ap length c.self.view_is)))
