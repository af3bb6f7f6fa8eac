use Rattle.std.proofs.Common.{◌≡◌, subst, true, false, Some, None}
use Rattle.std.specs.List.{list_any}
use Rattle.ba_format.specs.Sight.{same_text, place_in}
use Rattle.ba_format.proofs.SightLemmas.{place_through}
use Rattle.ba_format.proofs.texts.Texts.find.Goals as goal

pub returns-in_err-at : goal.returns-in_err-at
returns-in_err-at c =
    rw c.from_residual.ensures (subst (λ texts. list_any (same_text c.args.text.now) texts ≡ false) c.self.view_is (place_through c.self.inside.texts.keys c.args.text.now None c.in_err-at.ensures.index c.in_err-at.ensures.found))

pub returns : goal.returns
returns c =
    subst (λ texts. (list_any (same_text c.args.text.now) texts ≡ true) × (c.in_ok-at.at ≡ place_in same_text texts c.args.text.now)) c.self.view_is
    (place_through c.self.inside.texts.keys c.args.text.now (Some c.in_ok-at.at) c.in_ok-at.ensures.index c.in_ok-at.ensures.found)
