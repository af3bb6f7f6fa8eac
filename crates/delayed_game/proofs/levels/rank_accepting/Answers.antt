use Rattle.std.proofs.Common.{◌≡◌, ℕ, ◌*◌, ◌<◌, ◌≤◌, ◌&&◌, ◌↔◌, List, length, sym, ap, ◌∙◌, subst, arith}
use Rattle.std.proofs.lemmas.Bool.{and_parts, and_from}
use Rattle.auto_core.specs.Automaton.{Automaton, IsAccepting}
use Rattle.auto_core.specs.Rows.{bit_of, cell_of, HasBit}
use Rattle.auto_core.specs.Game.{Holds}
use Rattle.delayed_game.specs.Pairings.{Pairing}
use Rattle.bit_rows.proofs.WordLemmas.{first_cell}
use Rattle.delayed_game.specs.Boards.{row_words}
use Rattle.delayed_game.proofs.BeforeLemmas.{bit_near, gives_none, gives_row, gives_all}
use Rattle.delayed_game.proofs.levels.rank_accepting.Goals as goal

-- the row of the pairs whose right state is accepting
accepting_bits :
    (A : Automaton) (first now : Pairing) (before ends row : List ℕ) (w p : ℕ)
    → length row ≡ w
    → A.states ≤ w * 64
    → ((q : ℕ) → Holds first.pairs p q → q < A.states)
    → ((q : ℕ) → Holds now.pairs p q ↔ Holds first.pairs p q)
    → ((q : ℕ) → HasBit before q ↔ Holds now.pairs p q)
    → ((q : ℕ) → HasBit ends q ↔ IsAccepting A q)
    → ((q : ℕ) → q < w * 64 → cell_of row w 0 q ≡ (cell_of before w 0 q && bit_of ends q))
    → (q : ℕ)
    → HasBit row q ↔ (Holds first.pairs p q × IsAccepting A q)
accepting_bits A first now before ends row w p len room below same bits accepting anded q = (
  λ bit.
      let two = and_parts (bit_of before q) (bit_of ends q) (sym (both q (bit_near row w q len bit)) ∙ bit) in
      ((same q).0 ((bits q).0 two.0), (accepting q).0 two.1),
  λ is.
      let q_in = below q is.0 in
      both q (omega arith) ∙ and_from (bit_of before q) (bit_of ends q) ((bits q).1 ((same q).1 is.0)) ((accepting q).1 is.1),
)
  where
    both : (q : ℕ) → q < w * 64 → bit_of row q ≡ (bit_of before q && bit_of ends q)
    both q near = sym (first_cell row w q) ∙ anded q near ∙ ap (λ b. b && bit_of ends q) (first_cell before w q)

pub loop-p-init : goal.loop-p-init
loop-p-init c =
    let L = c.args.places.now in
    let A = c.args.automaton.now in
    let first = c.args.unranked.now in
    gives_none L A (λ p q. Holds first.pairs p q × IsAccepting A q) 0 first c.args.ranks.now c.args.fresh.now c.requires.valid

pub give_ranks-requires-clause-row : goal.give_ranks-requires-clause-row
give_ranks-requires-clause-row c = λ q bit.
    let w = c.args.width in
    let row = c.and_row.new.table in
    let before = c.write_unranked.new.row in
    let ends = c.write_accepting.new.row in
    let near = bit_near row w q (c.and_row.auto.table ∙ c.write_unranked.auto.row ∙ c.loop-p.auto.row ∙ c.requires.row) bit in
    let anded : bit_of row q ≡ (bit_of before q && bit_of ends q) = sym (first_cell row w q) ∙ c.and_row.ensures.here q near ∙ ap (λ b. b && bit_of ends q) (first_cell before w q) in
    (c.write_unranked.ensures.bits q).0 (and_parts (bit_of before q) (bit_of ends q) (sym anded ∙ bit)).0

pub loop-p-preserved : goal.loop-p-preserved
loop-p-preserved c =
    let L = c.args.places.now in
    let A = c.args.automaton.now in
    let w = c.args.width in
    let e : w ≡ row_words A = c.requires.width in
    let p = c.loop-p.p in
    let first = c.args.unranked.now in
    let now = c.loop-p.unranked in
    let new = c.give_ranks.new.unranked in
    let S : ℕ → ℕ → Type 0 = λ r q. Holds first.pairs r q × IsAccepting A q in
    let h = c.loop-p.invariant in
    let row = c.and_row.new.table in
    let len : length row ≡ w = c.and_row.auto.table ∙ c.write_unranked.auto.row ∙ c.loop-p.auto.row ∙ c.requires.row in
    let p_in : p < L.states = omega (arith, c.loop-p-test.true, c.states-p-end.ensures.count) in
    let below : (q : ℕ) → Holds first.pairs p q → q < A.states = λ q held. let lt = (c.requires.valid.in_range p q held).1 in omega (arith, lt, c.requires.states) in
    let same : (q : ℕ) → Holds now.pairs p q ↔ Holds first.pairs p q = λ q. (λ held. ((h.pairs p q).0 held).0, λ held. (h.pairs p q).1 (held, λ is. let lt = is.0 in absurd (omega arith))) in
    let bits = accepting_bits A first now c.write_unranked.new.row c.write_accepting.new.row row w p len (omega arith) below same c.write_unranked.ensures.bits c.write_accepting.ensures.bits c.and_row.ensures.here in
    let here = subst (λ v. (q : ℕ) → q < v * 64 → cell_of c.write_row.new.table v p q ≡ bit_of row q) e c.write_row.ensures.here in
    let others = subst (λ v. (r q : ℕ) → q < v * 64 → ¬ (r ≡ p) → cell_of c.write_row.new.table v r q ≡ cell_of c.loop-p.fresh v r q) e c.write_row.ensures.others in
    gives_row L A S 0 first c.args.ranks.now now new c.loop-p.ranks c.give_ranks.new.ranks c.loop-p.fresh c.write_row.new.table row p c.requires.places c.requires.states p_in (omega arith) h bits (λ q is. below q is.0) here others
    c.give_ranks.ensures.places c.give_ranks.ensures.states c.give_ranks.ensures.valid c.give_ranks.auto.ranks c.give_ranks.ensures.pairs c.give_ranks.ensures.table

pub returns : goal.returns
returns c =
    let L = c.args.places.now in
    let A = c.args.automaton.now in
    let first = c.args.unranked.now in
    gives_all L A (λ p q. Holds first.pairs p q × IsAccepting A q) 0 first c.args.ranks.now c.loop-p.unranked c.loop-p.ranks c.loop-p.fresh c.loop-p.p (omega (arith, c.loop-p-test.false, c.states-p-end.ensures.count))
    (λ p q is. let lt = (c.requires.valid.in_range p q is.0).0 in omega (arith, lt, c.requires.places)) c.loop-p.invariant
