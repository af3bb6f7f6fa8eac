use Rattle.std.proofs.Common.{◌≡◌, false, inl, inr, refl, sym, ◌∙◌, rules}
use Rattle.std.proofs.lemmas.Bool.{false≢true}
use Rattle.log_check.specs.Parts.{AreStates}
use Rattle.proof_front.specs.Front.{HasAccepting, AcceptsJustIn}
use Rattle.proof_front.proofs.states.accepting_classes.Goals as goal

pub returns-then-not-still_accept : goal.returns-then-not-still_accept
returns-then-not-still_accept c =
    let A = c.args.automaton.now in
    let states = c.args.states.now in
    let are : AreStates A states = search rules in
    let told : c.still_accept.result ≡ false = search rules in
    let just : AcceptsJustIn A states c.in_ok-whole.whole = c.in_ok-whole.ensures in
    inr (are, inl (λ has. false≢true (sym told ∙ c.still_accept.ensures.1 (λ q h. (just.accepting q).1 (has q h))), refl))

pub returns : goal.returns
returns c =
    let A = c.args.automaton.now in
    let states = c.args.states.now in
    let are : AreStates A states = search rules in
    let just : AcceptsJustIn A states c.in_ok-whole.whole = c.in_ok-whole.ensures in
    let has : HasAccepting A states = λ q h. (just.accepting q).0 (c.still_accept.ensures.0 (search rules) q h) in
    ((are, (has, tt)), record { whole = c.in_ok-whole.whole; accepts = just; trimmed = c.in_ok-trim.ensures })
