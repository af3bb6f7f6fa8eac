use Rattle.std.proofs.Common.{drop, ap, sym, ◌∙◌, add-one}
use Rattle.cert_value.specs.Tokens.{tokens_of}
use Rattle.cert_value.proofs.SplitLemmas.{drop_one}
use Rattle.cert_line.proofs.shapes.behind_both.Goals as goal

pub loop-token-preserved : goal.loop-token-preserved
loop-token-preserved c =
    let ts = drop c.args.places (tokens_of c.args.line.now) in
    let n = c.loop-token._token in
    c.next.ensures.rest ∙ ap (λ x. drop 1 x) c.loop-token.invariant ∙ drop_one n ts ∙ ap (λ k. drop k ts) (sym (add-one n))
