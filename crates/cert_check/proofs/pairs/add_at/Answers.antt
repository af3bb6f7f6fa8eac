use Rattle.std.proofs.Common.{ℕ, ◌∷◌, [], ◌++◌, List, Vec, Global, sym, ap, ◌∙◌, length-set}
use Rattle.evidence.proofs.TableLemmas.{numbers_is, numbers_set, numbers_stay}
use Rattle.cert_check.proofs.pairs.add_at.Goals as goal

pub returns : goal.returns
returns c =
    let lists : List (Vec ℕ Global) = c.args.lists.now.items in
    let place : ℕ = c.args.place in
    record {
      size = length-set lists place c.push.new.self;
      here = numbers_set lists place c.push.new.self c.requires ∙ c.in_ok-push.ensures.items
          ∙ ap (λ l. l ++ c.args.number ∷ []) (sym (numbers_is lists place c.index_mut.result.now c.requires c.index_mut.ensures.value));
      others = λ k other. numbers_stay lists place k c.push.new.self other;
    }
