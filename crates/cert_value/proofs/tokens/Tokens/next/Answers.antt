use Rattle.std.proofs.Common.{◌≡◌, ◌+◌, ◌-◌, ◌==◌, ◌∷◌, [], List, ℕ, length, take, drop, ap, sym, ◌∙◌, Some, Option, option_map, Bor}
use Rattle.cert_value.specs.Tokens.{tokens_of, tokens_left}
use Rattle.cert_value.proofs.SplitLemmas.{split_none, split_some, rest_all}
use Rattle.cert_value.proofs.tokens.Tokens.next.Goals as goal

at_line : {rest : Option (Bor (List ℕ))} (old ts : List (List ℕ)) (line : Bor (List ℕ))
    → tokens_left (option_map (λ q. q.now) rest) ≡ old → rest ≡ Some line → tokens_of line.now ≡ ts → old ≡ ts
at_line old ts line v w s =
    let f : Option (Bor (List ℕ)) → List (List ℕ) = λ r. tokens_left (option_map (λ q. q.now) r) in
    sym v ∙ ap f w ∙ s

old_none : goal.returns-in-None-clause-token
old_none c =
    let line = c.in_ok-line.line in
    at_line c.args.self.now (line.now ∷ []) line c.self.view_is c.in_ok-line.was
    (split_none (λ b. b == 32) line.now (sym c.space_at.ensures ∙ c.in-None.is))

pub returns-in-None-clause-token : goal.returns-in-None-clause-token
returns-in-None-clause-token c = old_none c

pub returns-in-None-clause-rest : goal.returns-in-None-clause-rest
returns-in-None-clause-rest c = ap (λ x. drop 1 x) (sym (old_none c))

old_some : goal.returns-in-Some-clause-token
old_some c =
    let line = c.in_ok-line.line in
    let at = c.in-Some.at in
    at_line c.args.self.now (take at line.now ∷ tokens_of (take (length line.now - (at + 1)) (drop (at + 1) line.now))) line c.self.view_is c.in_ok-line.was
    (split_some (λ b. b == 32) line.now at (sym c.space_at.ensures ∙ c.in-Some.is)
    ∙ ap (λ x. take at line.now ∷ tokens_of x) (sym (rest_all line.now (at + 1))))

pub returns-in-Some-clause-token : goal.returns-in-Some-clause-token
returns-in-Some-clause-token c = old_some c

pub returns-in-Some-clause-rest : goal.returns-in-Some-clause-rest
returns-in-Some-clause-rest c = ap (λ x. drop 1 x) (sym (old_some c))
