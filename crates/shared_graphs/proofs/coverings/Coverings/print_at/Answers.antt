use Rattle.std.proofs.Common.{◌<◌, length, rules}
use Rattle.auto_laws.proofs.PlaceLemmas.{read_at}
use Rattle.shared_graphs.proofs.coverings.Coverings.print_at.Goals as goal

pub returns : goal.returns
returns c =
    let within : c.args.h < length c.args.self.now.prints.items = search rules in
    (c.requires.told.prints c.args.h c.index.result.now (read_at c.args.self.now.prints.items c.args.h c.index.result.now c.index.result.now within c.index.ensures)).1
