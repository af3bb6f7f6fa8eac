use Rattle.std.proofs.Common.{◌∙◌, ap, sym, length, ◌∷◌, [], arith}
use Rattle.ba_format.specs.Sight.{same_text, place_in}
use Rattle.ba_format.proofs.JoinLemmas.{absent}
use Rattle.ba_format.proofs.SightLemmas.{noted-new}
use Rattle.ba_format.proofs.DraftLemmas.{number-new}
use Rattle.std.proofs.lemmas.List.{length-append}
use Rattle.ba_format.proofs.draft.number.Goals as goal

pub add-requires-clause-new : goal.add-requires-clause-new
add-requires-clause-new c = absent c.args.texts.now c.args.text.now c.in_default.ensures

pub returns : goal.returns
returns c = λ h.
    let old = c.args.texts.now in
    let text = c.args.text.now in
    let none = c.in_default.ensures in
    let made = c.in_ok-add.ensures.ok in (
      made ∙ sym (noted-new same_text old text none),
      c.count-at.ensures.count ∙ sym (ap (λ l. place_in same_text l text) made ∙ number-new text old none),
      omega (arith, ap length made, length-append old (text ∷ [])),
    )
