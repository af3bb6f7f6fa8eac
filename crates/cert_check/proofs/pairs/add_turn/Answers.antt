use Rattle.std.proofs.Common.{ℕ, ◌≡◌, ◌+◌, ◌<◌, [], ◌∷◌, List, Vec, Global, Contains, true, false, sym, ap, ◌∙◌, subst, arith, rules}
use Rattle.std.proofs.lemmas.Bool.{false≢true}
use Rattle.auto_core.specs.Graph.{arc_at}
use Rattle.auto_core.specs.declared.parts.Mode.TheVariants.{Buchi}
use Rattle.evidence.specs.Tables.{numbers_at}
use Rattle.cert_value.specs.declared.types.YesBody.{YesBody}
use Rattle.cert_check.specs.Inclusion.{element_arcs}
use Rattle.cert_check.specs.Supers.{held_arc, held_block, held_number, has_key}
use Rattle.cert_check.specs.Turns.{IsTurn, AreTurns, AreListedAtStates, HasAddedAt}
use Rattle.cert_check.specs.declared.blocks.Numbered.{Numbered}
use Rattle.cert_check.specs.declared.elements.Supers.{Supers}
use Rattle.cert_check.proofs.SuperLemmas.{held_ends, if_ok_as}
use Rattle.cert_check.proofs.PairLemmas.{turns_kept, turns_added, listed_stay, listed_now, keys_more}
use Rattle.cert_check.proofs.pairs.add_turn.Goals as goal

pub returns-then-not-is_turn-clause-turns : goal.returns-then-not-is_turn-clause-turns
returns-then-not-is_turn-clause-turns c =
    let ev : YesBody = c.args.evidence.now in
    let su : Supers = c.args.supers.now in
    let e : ℕ = c.args.e in
    let n : ℕ = c.args.first.now.states in
    let old : List (Vec ℕ Global) = c.args.turns.now.items in
    let is : c.is_turn.result ≡ false = search rules in
    turns_kept ev su e n old c.requires.turns (λ turn. absurd (false≢true (sym is ∙ c.is_turn.ensures.1 turn)))

pub returns-then-not-branch : goal.returns-then-not-branch
returns-then-not-branch c =
    let ev : YesBody = c.args.evidence.now in
    let su : Supers = c.args.supers.now in
    let e : ℕ = c.args.e in
    let n : ℕ = c.args.first.now.states in
    let old : List (Vec ℕ Global) = c.args.turns.now.items in
    let key_is : c.pair_key-key.result ≡ (held_arc su e).from ∷ held_number su e ∷ [] =
    c.pair_key-key.ensures ∙ ap (λ (m : Numbered). m.arc.from ∷ m.number ∷ []) c.element-it.ensures in
    let there : has_key c.args.seen.now c.pair_key-key.result ≡ true = search rules in
    let listed : Contains (numbers_at old (held_arc su e).from) (held_number su e) = c.requires.seen c.pair_key-key.result (held_arc su e).from (held_number su e) there key_is in
    record {
      turns = turns_kept ev su e n old c.requires.turns (λ turn. listed);
      seen = keys_more (λ p h. Contains (numbers_at old p) h) c.args.seen.now c.is_new.new.keys c.pair_key-key.result (held_arc su e).from (held_number su e) key_is
          c.in_ok-is_new.ensures.added listed c.requires.seen;
    }

pub add_at-requires : goal.add_at-requires
add_at-requires c =
    let ev : YesBody = c.args.evidence.now in
    let su : Supers = c.args.supers.now in
    let e : ℕ = c.args.e in
    let n : ℕ = c.args.first.now.states in
    let turn : IsTurn ev su e = c.is_turn.ensures.0 (search rules) in
    let ends : (held_arc su e).to < n =
    held_ends Buchi c.args.first.now c.args.second.now (held_arc su e) (held_block su e) (arc_at c.args.first.now (element_arcs c.args.first.now ev.elements) e)
    c.states-states.ensures.valid (c.requires.supers.each e c.requires.element) in
    let from : c.element-it.result.arc.from ≡ (held_arc su e).from = ap (λ (m : Numbered). m.arc.from) c.element-it.ensures in
    omega (arith, ends, from, turn.returns, c.requires.turns.count)

pub returns : goal.returns
returns c =
    let ev : YesBody = c.args.evidence.now in
    let su : Supers = c.args.supers.now in
    let e : ℕ = c.args.e in
    let n : ℕ = c.args.first.now.states in
    let old : List (Vec ℕ Global) = c.args.turns.now.items in
    let key_is : c.pair_key-key.result ≡ (held_arc su e).from ∷ held_number su e ∷ [] =
    c.pair_key-key.ensures ∙ ap (λ (m : Numbered). m.arc.from ∷ m.number ∷ []) c.element-it.ensures in
    let new : List (Vec ℕ Global) = c.add_at.new.lists.items in
    let turn : IsTurn ev su e = c.is_turn.ensures.0 (search rules) in
    let here : HasAddedAt old new c.element-it.result.arc.from c.element-it.result.number → HasAddedAt old new (held_arc su e).from (held_number su e) =
    λ h. subst (λ (m : Numbered). HasAddedAt old new m.arc.from m.number) c.element-it.ensures h in
    record {
      turns = if_ok_as c.add_at.result (λ _. HasAddedAt old new c.element-it.result.arc.from c.element-it.result.number) (λ _. AreTurns ev su (e + 1) n new)
          (λ _ added. turns_added ev su e n old new c.requires.turns turn (here added)) c.add_at.ensures;
      seen = if_ok_as c.add_at.result (λ _. HasAddedAt old new c.element-it.result.arc.from c.element-it.result.number) (λ _. AreListedAtStates c.is_new.new.keys new)
          (λ _ added. keys_more (λ p h. Contains (numbers_at new p) h) c.args.seen.now c.is_new.new.keys c.pair_key-key.result (held_arc su e).from (held_number su e) key_is
          c.in_ok-is_new.ensures.added (listed_now old new (held_arc su e).from (held_number su e) (here added))
          (λ k q h has is. listed_stay old new (held_arc su e).from (held_number su e) (here added) q h (c.requires.seen k q h has is))) c.add_at.ensures;
    }
