use Rattle.std.proofs.Common.{rules}
use Rattle.auto_core.specs.Game.{Holds}
use Rattle.supergraph.proofs.MinimalLemmas.{minimised}
use Rattle.supergraph.proofs.minimal.minimise.Goals as goal

pub returns : goal.returns
returns c =
    let is = c.lessen.ensures in
    let (formed, cover, part, minimal) = minimised (Holds c.args.order.now.pairs) c.args.order.now.size c.words_for-width.result c.args.g.now c.split_at_mut-joined.result.0.now c.split_at_mut-joined.result.1.now c.lessen.new.joined c.lessen.new.past
    c.requires.order.reflexive c.requires.formed (search rules) (search rules) (search rules) is.joined is.past is.lessened is.minimal (search rules) in
    record { formed = formed; cover = cover; part = part; minimal = minimal }
