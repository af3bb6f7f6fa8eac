use Rattle.std.proofs.Common.{◌≡◌, vec_len, length, sym, ◌∙◌, arith}
use Rattle.product_laws.proofs.AscendLemmas.{no_pair}
use Rattle.product_search.proofs.RankLemmas.{ascend, all_there, only_those}
use Rattle.product_search.proofs.ranking.ranked_pairs.Goals as goal

pub returns-clause-size : goal.returns-clause-size
returns-clause-size c =
    let now : vec_len c.sort.new.self ≡ length c.sort.new.self.items = c.sort.new.self.ok.0 in
    let then : vec_len c.in_ok-ranked.ranked ≡ length c.in_ok-ranked.ranked.items = c.in_ok-ranked.ranked.ok.0 in
    sym now ∙ c.in_ok-sort.ensures.len ∙ then ∙ c.in_ok-ranked.ensures.size

pub returns-clause-ascending : goal.returns-clause-ascending
returns-clause-ascending c =
    let e = c.in_ok-ranked.ensures in
    ascend c.args.pairs.now.keys c.args.ranks.now c.requires.different c.in_ok-ranked.ranked.items e.size e.each c.sort.new.self.items c.in_ok-sort.ensures.permutation
    (λ k within. c.in_ok-sort.ensures.sorted k no_pair (omega arith) within)

pub returns-clause-all : goal.returns-clause-all
returns-clause-all c =
    let e = c.in_ok-ranked.ensures in
    all_there c.args.pairs.now.keys c.args.ranks.now c.requires.different c.in_ok-ranked.ranked.items e.size e.each c.sort.new.self.items c.in_ok-sort.ensures.permutation

pub returns-clause-only : goal.returns-clause-only
returns-clause-only c =
    let e = c.in_ok-ranked.ensures in
    only_those c.args.pairs.now.keys c.args.ranks.now c.requires.different c.in_ok-ranked.ranked.items e.size e.each c.sort.new.self.items c.in_ok-sort.ensures.permutation
