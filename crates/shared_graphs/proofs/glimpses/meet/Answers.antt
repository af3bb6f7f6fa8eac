use Rattle.std.proofs.Common.{◌≡◌, ◌<◌, bit_and, length, rules}
use Rattle.graph_rows.proofs.PrintLemmas.{words_meet}
use Rattle.auto_laws.proofs.PlaceLemmas.{read_at}
use Rattle.shared_graphs.specs.declared.glimpses.Glimpse.{Glimpse}
use Rattle.shared_graphs.proofs.glimpses.meet.Goals as goal

pub returns : goal.returns
returns c = λ told.
    let first : Glimpse = c.index-glimpses-g.result in
    let second : Glimpse = c.index-glimpses-h.result in
    let g_in : c.args.g < length c.args.glimpses.now = search rules in
    let h_in : c.args.h < length c.args.glimpses.now = search rules in
    let some : bit_and first.entered second.looping ≡ 0 → ⊥ = search rules in
    let meet = words_meet first.entered second.looping (search rules) some in
    record {
      first = first;
      second = second;
      first_is = read_at c.args.glimpses.now c.args.g first first g_in c.index-glimpses-g.is;
      second_is = read_at c.args.glimpses.now c.args.h second second h_in c.index-glimpses-h.is;
      state = meet.0;
      entered = meet.1;
      looping = meet.2;
    }
