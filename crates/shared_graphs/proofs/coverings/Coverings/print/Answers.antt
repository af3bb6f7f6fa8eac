use Rattle.std.proofs.Common.{◌≡◌, ℕ, ◌<◌, length, subst, rules}
use Rattle.auto_core.specs.Game.{Holds}
use Rattle.auto_core.specs.Outcome.{At}
use Rattle.graph_rows.specs.Prints.{IsPrint}
use Rattle.shared_graphs.specs.Graphs.{block_at}
use Rattle.shared_graphs.proofs.PrintLemmas.{prints_more}
use Rattle.shared_graphs.proofs.coverings.Coverings.print.Goals as goal

pub returns-in_err-push : goal.returns-in_err-push
returns-in_err-push c = record {
  told = record {
    prints = λ k print is. c.requires.told.prints k print (subst (λ l. At l k print) c.in_err-push.ensures.items is);
    told = c.requires.told.told;
  };
}

pub returns : goal.returns
returns c =
    let n : ℕ = c.args.order.now.size in
    let next : c.args.h ≡ length c.args.self.now.prints.items = search rules in
    let there : c.args.h < length c.args.graphs.now.items = search rules in
    let is : IsPrint n (Holds c.args.order.now.pairs) (block_at c.args.graphs.now.items c.args.h) c.print_of.result =
    subst (λ l. IsPrint n (Holds c.args.order.now.pairs) l c.print_of.result) c.block.ensures c.print_of.ensures in
    record {
      told = record {
        prints = prints_more n c.args.order.now.pairs c.args.graphs.now.items c.args.self.now.prints.items c.push.new.self.items c.print_of.result c.in_ok-push.ensures.items
            (subst (λ k. k < length c.args.graphs.now.items) next there)
            (subst (λ k. IsPrint n (Holds c.args.order.now.pairs) (block_at c.args.graphs.now.items k) c.print_of.result) next is)
            c.requires.told.prints;
        told = c.requires.told.told;
      };
    }
