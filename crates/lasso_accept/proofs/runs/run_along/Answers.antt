use Rattle.std.proofs.Common.{◌≡◌, ℕ, ◌+◌, ◌<◌, Bool, List, [], ◌∷◌, ◌++◌, true, false, sym, ap, ◌∙◌, subst}
use Rattle.std.proofs.lemmas.Bool.{false≢true}
use Rattle.auto_core.specs.Automaton.{IsAutomaton}
use Rattle.auto_core.specs.Run.{Run}
use Rattle.auto_core.specs.Rows.{HasCell}
use Rattle.lasso_accept.specs.Route.{IsRoute, HasGone}
use Rattle.lasso_accept.specs.LassoRun.{IsLassoRun}
use Rattle.lasso_accept.specs.declared.runs.LassoRun.{LassoRun}
use Rattle.lasso_accept.proofs.RunLemmas.{lasso_run, route_of_slices}
use Rattle.lasso_accept.proofs.runs.run_along.Goals as goal

pub go-requires : goal.go-requires
go-requires c =
    let A = c.args.automaton.now in
    let valid : IsAutomaton A = c.initial-start.ensures.valid in
    let us : List ℕ = c.as_slice-prefix.result.now in
    let vs : List ℕ = c.as_slice-turn.result.now in
    let ts : List ℕ = c.as_slice-table.result.now in
    let at : ℕ = c.args.route.now.at in
    let before : ℕ = c.args.route.now.before in
    let back : ℕ = c.args.route.now.back in
    let width : ℕ = c.args.width in
    let r : IsRoute A us vs width at before back ts =
    route_of_slices A c.args.lasso.now.prefix c.args.lasso.now.turn us vs width at before back c.args.route.now.table.items ts c.as_slice-prefix.ensures c.as_slice-turn.ensures
    c.as_slice-table.ensures.value c.requires.route in
    let (s, flag, run, cell) = r.enters in
    let L : ℕ → Type 0 = λ p. (s : ℕ) × (flag : Bool) × Run A p us s flag × (false ≡ true → flag ≡ true) × HasCell ts width before s in
    let S : ℕ → Type 0 = λ p. p < A.states in
    record {
      valid = valid;
      room = c.requires.room;
      few = c.requires.few;
      is_state = subst S (sym c.initial-start.ensures.state) valid.initial_is_state;
      turns_in = r.before_in;
      counts = (at, r.counts);
      leads = subst L (sym c.initial-start.ensures.state) (s, flag, run, λ e. absurd (false≢true e), cell);
    }

pub go-requires-2 : goal.go-requires-2
go-requires-2 c =
    let A = c.args.automaton.now in
    let valid : IsAutomaton A = c.initial-start.ensures.valid in
    let us : List ℕ = c.as_slice-prefix.result.now in
    let vs : List ℕ = c.as_slice-turn.result.now in
    let ts : List ℕ = c.as_slice-table.result.now in
    let at : ℕ = c.args.route.now.at in
    let before : ℕ = c.args.route.now.before in
    let back : ℕ = c.args.route.now.back in
    let width : ℕ = c.args.width in
    let r : IsRoute A us vs width at before back ts =
    route_of_slices A c.args.lasso.now.prefix c.args.lasso.now.turn us vs width at before back c.args.route.now.table.items ts c.as_slice-prefix.ensures c.as_slice-turn.ensures
    c.as_slice-table.ensures.value c.requires.route in
    let (s, run, cell) = r.returns in
    record {
      valid = valid;
      room = c.requires.room;
      few = c.requires.few;
      is_state = r.at_in;
      turns_in = r.back_in;
      counts = (at, r.counts);
      leads = (s, true, run, λ e. e, cell);
    }

pub returns : goal.returns
returns c =
    let A = c.args.automaton.now in
    let valid : IsAutomaton A = c.initial-start.ensures.valid in
    let us : List ℕ = c.as_slice-prefix.result.now in
    let vs : List ℕ = c.as_slice-turn.result.now in
    let ts : List ℕ = c.as_slice-table.result.now in
    let at : ℕ = c.args.route.now.at in
    let before : ℕ = c.args.route.now.before in
    let back : ℕ = c.args.route.now.back in
    let width : ℕ = c.args.width in
    let r : IsRoute A us vs width at before back ts =
    route_of_slices A c.args.lasso.now.prefix c.args.lasso.now.turn us vs width at before back c.args.route.now.table.items ts c.as_slice-prefix.ensures c.as_slice-turn.ensures
    c.as_slice-table.ensures.value c.requires.route in
    let start : ℕ = c.initial-start.result in
    let g : HasGone A start us vs before at false c.push.new.self c.go.new.places = c.in_ok-go.ensures at r.counts in
    let h : HasGone A at vs vs back at true c.go.new.places c.go-2.new.places = c.in_ok-go-2.ensures at r.counts in
    let first : c.push.new.self ≡ start ∷ [] = c.in_ok-push.ensures.ok ∙ ap (λ xs. xs ++ start ∷ []) c.new-places.ensures in
    let P : List ℕ → Type 0 = λ xs. HasGone A start us vs before at false xs c.go.new.places in
    let Q : ℕ → Type 0 = λ p. HasGone A p us vs before at false (p ∷ []) c.go.new.places in
    let run : LassoRun = record { before = before; turns = back + 1; places = c.go-2.new.places } in
    let U : List ℕ → Type 0 = λ x. IsLassoRun A x c.args.lasso.now.turn run in
    let V : List ℕ → Type 0 = λ x. IsLassoRun A us x run in
    subst U c.as_slice-prefix.ensures (subst V c.as_slice-turn.ensures
    (lasso_run A us vs at before back c.go.new.places c.go-2.new.places (subst Q c.initial-start.ensures.state (subst P first g)) h))
