use Rattle.std.proofs.Common.{ℕ, length, sym, subst}
use Rattle.useful_states.specs.declared.gathering.Gathered.{Gathered}
use Rattle.useful_states.specs.Gathering.{HoldsJust}
use Rattle.delayed_game.specs.Across.{HoldsPlacePair}
use Rattle.delayed_laws.specs.Listed.{place_pairs}
use Rattle.delayed_across.specs.Listed.{IsNumberOf}
use Rattle.delayed_across.proofs.PartLemmas.{initial_none, initial_one}
use Rattle.delayed_across.proofs.reaching.initial_number.Goals as goal
use Rattle.delayed_across.proofs.reaching.initial_number.Goals.{in-Some+in_ok-add-in-Some, in-None}

pub returns-clause-numbers : goal.returns-clause-numbers
returns-clause-numbers c =
    let A = c.args.first.now in
    let B = c.args.second.now in
    let pairs = c.args.pairs.now in
    let n : ℕ = length pairs in
    let old = c.in_ok-gathered.gathered in
    let P : Gathered → Type 0 = λ g. HoldsJust n (IsNumberOf pairs A.initial B.initial) g in
    elim c.match-number_of.branch as (λ _. P c.match-number_of.gathered) [
      | in-Some+in_ok-add-in-Some w ↦
          let at : ℕ = w.in-Some.at in
          let is = subst (λ q. IsNumberOf pairs A.initial q at) c.initial-2.ensures.state (subst (λ p. IsNumberOf pairs p c.initial-2.result at) c.initial.ensures.state w.in-Some.ensures.some) in
          subst P (sym w.gathered-is) (initial_one A B pairs c.requires.ascending n at old w.add.new.self c.in_ok-gathered.ensures is w.in_ok-add-in-Some.ensures)
      | in-None w ↦
          let X = place_pairs pairs in
          let none = subst (λ q. HoldsPlacePair X A.initial q → ⊥) c.initial-2.ensures.state (subst (λ p. HoldsPlacePair X p c.initial-2.result → ⊥) c.initial.ensures.state w.in-None.ensures.none) in
          subst P (sym w.gathered-is) (initial_none A B pairs n old c.in_ok-gathered.ensures none)
    ]
