use Rattle.std.proofs.Common.{◌∙◌, ap}
use Rattle.std.specs.List.{list_any}
use Rattle.ba_format.specs.Sight.{same_text}
use Rattle.ba_format.proofs.SightLemmas.{list_any-through}
use Rattle.ba_format.proofs.texts.Texts.has.Goals as goal

pub returns : goal.returns
returns c = c.contains.ensures ∙ list_any-through (λ t. t.items) same_text c.args.text.now c.self.inside.texts.keys ∙ ap (list_any (same_text c.args.text.now)) c.self.view_is
