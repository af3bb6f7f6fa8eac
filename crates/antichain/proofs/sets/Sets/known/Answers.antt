use Rattle.std.proofs.Common.{◌≡◌, ℕ, ◌<◌, List, length, vec_len, sym, ◌∙◌, arith}
use Rattle.antichain.specs.declared.sets.Made.{Made}
use Rattle.auto_laws.proofs.PlaceLemmas.{read_at}
use Rattle.antichain.proofs.sets.Sets.known.Goals as goal

pub returns-then-are_equal : goal.returns-then-are_equal
returns-then-are_equal c =
    let made : List Made = c.args.self.now.made.items in
    let number : ℕ = c.index-number.result.now in
    let element : Made = c.index-made.result.now in
    let items : vec_len c.args.self.now.made ≡ length made = c.args.self.now.made.ok.0 in
    let count = c.len-2.ensures in
    let below = c.if-number-len.false in
    let within : number < length made = omega arith in
    record {
      element = element;
      is = read_at made number element element within c.index-made.ensures;
      label_is = c.if-made-label.true;
      from_is = sym c.deref.ensures.value ∙ c.are_equal.ensures.0 c.if-are_equal.true;
    }
