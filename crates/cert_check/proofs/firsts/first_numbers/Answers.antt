use Rattle.std.proofs.Common.{ℕ, ◌+◌, List, [], ◌∷◌, length, ap, ◌∙◌, arith, length-append}
use Rattle.cert_check.specs.Firsts.{IsNumberKnown}
use Rattle.cert_check.proofs.FirstLemmas.{told_more, firsts_told}
use Rattle.cert_check.proofs.firsts.first_numbers.Goals as goal

pub loop-k-preserved : goal.loop-k-preserved
loop-k-preserved c =
    let G : List (List ℕ) = c.args.graphs.now.items in
    let k : ℕ = c.loop-k.k in
    let first : ℕ = c.in_ok-first.first in
    let known : IsNumberKnown G c.loop-k.known c.first_number.new.known k first = c.in_ok-first.ensures in
    record {
      size = ap length c.in_ok-push.ensures.items ∙ length-append c.loop-k.firsts.items (first ∷ []) ∙ ap (λ n. n + 1) c.loop-k.invariant.size;
      theirs = known.theirs c.loop-k.invariant.theirs;
      told = told_more G c.loop-k.known c.first_number.new.known c.loop-k.firsts.items c.push.new.self.items k first c.loop-k.invariant.size c.loop-k.invariant.theirs c.loop-k.invariant.told known c.in_ok-push.ensures.items;
    }

pub returns-clause-firsts : goal.returns-clause-firsts
returns-clause-firsts c =
    firsts_told c.args.graphs.now.items c.loop-k.k c.loop-k.known c.loop-k.firsts.items c.loop-k.invariant.theirs
    (λ j lt. c.loop-k.invariant.told j (omega (arith, lt, c.loop-k-test.false)))
