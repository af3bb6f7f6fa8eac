use Rattle.std.proofs.Common.{◌∙◌, refl, ap, map}
use Rattle.ba_format.specs.Draft.{trans_with}
use Rattle.ba_format.specs.Faults.{same_trans}
use Rattle.ba_format.proofs.SightLemmas.{map-insert_key}
use Rattle.ba_format.proofs.draft.Draft.note_transition.Goals as goal

pub returns-clause-noted : goal.returns-clause-noted
returns-clause-noted c =
    record {
      names = refl;
      labels = refl;
      transitions = ap (map trans_with) c.in_ok-insert.ensures.keys ∙ map-insert_key trans_with same_trans c.args.self.now.transitions.keys (c.args.source, c.args.label, c.args.target);
      opening = refl;
      accepting = refl;
    }
