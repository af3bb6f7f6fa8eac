-- Playing a game on.
use Rattle.std.proofs.Common.{◌≡◌, ℕ, ◌∙◌, refl, sym, subst}
use Rattle.std.specs.Borrow.{Bor}
use Rattle.auto_core.specs.Automaton.{Automaton}
use Rattle.look_round.specs.declared.sides.Side.{Ghosts}
use Rattle.look_game.specs.declared.losing.Play.{Play}
use Rattle.look_game.specs.Taking.{TakesAway}
use Rattle.look_game.specs.Playing.{PlaysOn}
use Rattle.look_game.proofs.TakingLemmas.{takes_none, takes_then}
use Rattle.bit_rel.specs.Relation.{Relation}

module _ {S : Type 0} {G : Ghosts S} where
  -- What else the game remembers does not matter.
  pub plays_same : (p q : Play S G) → q.side ≡ p.side → q.automaton ≡ p.automaton → q.look ≡ p.look → q.rel ≡ p.rel → PlaysOn p q
  plays_same p q side automaton look rel = record {
    side = side;
    automaton = automaton;
    look = look;
    takes = λ valid.
        let M = G.goes p.side.now p.automaton.now in
        let ok = G.matches p.side.now p.automaton.now in
        let P : Relation → Type 0 = λ R. TakesAway M ok p.look p.rel R in
        subst P (sym rel) (takes_none M ok p.look p.rel valid);
  }

  pub plays_none : (p : Play S G) → PlaysOn p p
  plays_none p = plays_same p p refl refl refl refl

  pub plays_then : (p q r : Play S G) → PlaysOn p q → PlaysOn q r → PlaysOn p r
  plays_then p q r first second = record {
    side = second.side ∙ first.side;
    automaton = second.automaton ∙ first.automaton;
    look = second.look ∙ first.look;
    takes = λ valid.
        let one = first.takes valid in
        let two = second.takes one.valid in
        let P : Bor S → Type 0 = λ s. TakesAway (G.goes s.now q.automaton.now) (G.matches s.now q.automaton.now) q.look q.rel r.rel in
        let Q : Bor Automaton → Type 0 = λ a. TakesAway (G.goes p.side.now a.now) (G.matches p.side.now a.now) q.look q.rel r.rel in
        let T : ℕ → Type 0 = λ k. TakesAway (G.goes p.side.now p.automaton.now) (G.matches p.side.now p.automaton.now) k q.rel r.rel in
        takes_then (G.goes p.side.now p.automaton.now) (G.matches p.side.now p.automaton.now) p.look p.rel q.rel r.rel one
        (subst T first.look (subst Q first.automaton (subst P first.side two)));
  }
