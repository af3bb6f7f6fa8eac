use Rattle.std.proofs.Common.{◌∙◌}
use Rattle.decide.proofs.RankRowLemmas.{row_made}
use Rattle.decide.proofs.rows.rank_row.Goals as goal

pub returns : goal.returns
returns c =
    row_made c.args.ranks.now c.left.ensures.valid c.requires.few c.args.at c.args.end c.requires.some c.requires.within c.requires.same
    c.left.result c.in_ok-copied_numbers.field-0 c.in_ok-ranked_rights.field-0 c.left.ensures.state (c.in_ok-copied_numbers.ensures ∙ c.ahead.ensures.letters) c.in_ok-ranked_rights.ensures
