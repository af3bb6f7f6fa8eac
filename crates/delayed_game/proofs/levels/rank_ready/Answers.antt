use Rattle.std.proofs.Common.{◌≡◌, ℕ, ◌+◌, ◌*◌, ◌<◌, ◌≤◌, ◌↔◌, inl, inr, Bool, true, false, List, length, sym, ◌∙◌, subst, arith}
use Rattle.std.proofs.lemmas.Bool.{cases_eq, false≢true}
use Rattle.auto_core.specs.Automaton.{Automaton, trans_at}
use Rattle.auto_core.specs.Rows.{bit_of, cell_of, HasBit, HasCell}
use Rattle.auto_core.specs.Game.{Holds}
use Rattle.delayed_game.specs.Pairings.{Pairing}
use Rattle.delayed_game.specs.Boards.{row_words, IsReady}
use Rattle.delayed_game.proofs.BeforeLemmas.{bit_near, gives_none, gives_row, gives_all, gives_fewer, gives_no_more}
use Rattle.delayed_game.proofs.levels.rank_ready.Goals as goal
use Rattle.delayed_game.proofs.levels.rank_ready.Goals.{in-Some, in-None}

-- the row of the pairs that are ready
ready_bits :
    (L A : Automaton) (first now : Pairing) (answered before row : List ℕ) (w p : ℕ)
    → w ≡ row_words A
    → length row ≡ w
    → A.states ≤ w * 64
    → ((q : ℕ) → Holds first.pairs p q → q < A.states)
    → ((q : ℕ) → Holds now.pairs p q ↔ Holds first.pairs p q)
    → ((q : ℕ) → HasBit before q ↔ Holds now.pairs p q)
    → ((q : ℕ) → q < w * 64 → HasBit row q ↔ (HasBit before q × ((t : ℕ) → t < length L.transitions → (trans_at L t).source ≡ p → HasCell answered w t q)))
    → (q : ℕ)
    → HasBit row q ↔ IsReady L A first answered p q
ready_bits L A first now answered before row w p e len room below same bits kept q = (
  λ bit.
      let is = (kept q (bit_near row w q len bit)).0 bit in
      ((same q).0 ((bits q).0 is.0), subst (λ v. (t : ℕ) → t < length L.transitions → (trans_at L t).source ≡ p → HasCell answered v t q) e is.1),
  λ ready.
      let q_in = below q ready.0 in
      (kept q (omega arith)).1 (
        (bits q).1 ((same q).1 ready.0),
        subst (λ v. (t : ℕ) → t < length L.transitions → (trans_at L t).source ≡ p → HasCell answered v t q) (sym e) ready.1,
      ),
)

pub loop-p-init : goal.loop-p-init
loop-p-init c =
    let L = c.args.places.now in
    let A = c.args.automaton.now in
    let first = c.args.unranked.now in (
      gives_none L A (IsReady L A first c.args.answered.now) c.args.rank first c.args.ranks.now c.args.fresh.now c.requires.valid,
      omega arith,
      λ yes. absurd (false≢true yes),
      λ no p q lt. absurd (omega arith),
    )

pub give_ranks-requires-clause-row : goal.give_ranks-requires-clause-row
give_ranks-requires-clause-row c = λ q bit.
    let near = bit_near c.keep_answered.new.row c.args.width q (c.keep_answered.auto.row ∙ c.write_unranked.auto.row ∙ c.loop-p.auto.row ∙ c.requires.row) bit in
    (c.write_unranked.ensures.bits q).0 ((c.keep_answered.ensures q near).0 bit).0

pub loop-p-preserved : goal.loop-p-preserved
loop-p-preserved c =
    let L = c.args.places.now in
    let A = c.args.automaton.now in
    let w = c.args.width in
    let e : w ≡ row_words A = c.requires.width in
    let p = c.loop-p.p in
    let first = c.args.unranked.now in
    let now = c.loop-p.unranked in
    let new = c.give_ranks.new.unranked in
    let answered = c.args.answered.now in
    let S : ℕ → ℕ → Type 0 = IsReady L A first answered in
    let h = c.loop-p.invariant in
    let row = c.keep_answered.new.row in
    let len : length row ≡ w = c.keep_answered.auto.row ∙ c.write_unranked.auto.row ∙ c.loop-p.auto.row ∙ c.requires.row in
    let p_in : p < L.states = omega (arith, c.loop-p-test.true, c.states-p-end.ensures.count) in
    let below : (q : ℕ) → Holds first.pairs p q → q < A.states = λ q held. let lt = (c.requires.valid.in_range p q held).1 in omega (arith, lt, c.requires.states) in
    let same : (q : ℕ) → Holds now.pairs p q ↔ Holds first.pairs p q = λ q. (λ held. ((h.0.pairs p q).0 held).0, λ held. (h.0.pairs p q).1 (held, λ is. let lt = is.0 in absurd (omega arith))) in
    let bits = ready_bits L A first now answered c.write_unranked.new.row row w p e len (omega arith) below same c.write_unranked.ensures.bits c.keep_answered.ensures in
    let here = subst (λ v. (q : ℕ) → q < v * 64 → cell_of c.write_row.new.table v p q ≡ bit_of row q) e c.write_row.ensures.here in
    let others = subst (λ v. (r q : ℕ) → q < v * 64 → ¬ (r ≡ p) → cell_of c.write_row.new.table v r q ≡ cell_of c.loop-p.fresh v r q) e c.write_row.ensures.others in
    let valid = h.0.valid in
    let less = gives_no_more L A S c.args.rank first c.args.ranks.now now new p row valid c.give_ranks.ensures.valid c.give_ranks.ensures.pairs in
    let upto = h.1 in
    let Any : Bool → Type 0 = λ any. (any ≡ true → length new.pairs < length first.pairs) × (any ≡ false → (r q : ℕ) → r < p + 1 → S r q → ⊥) in
    let any : Any c.match-next_bit.any = elim c.match-next_bit.branch [
      | in-Some b ↦ subst Any (sym b.any-is) (
        λ yes.
            let next = b.in-Some.ensures.found in
            let fell = gives_fewer L A S c.args.rank first c.args.ranks.now now new p _ valid c.give_ranks.ensures.valid row next.here ((same _).1 ((bits _).0 next.here).0) c.give_ranks.ensures.pairs in
            omega arith,
        λ no. absurd (false≢true (sym no)),
      )
      | in-None b ↦ subst Any (sym b.any-is) (
        λ yes. let fell = h.2 yes in omega arith,
        λ no r q lt ready. elim (cases_eq r p) [
          | inl f ↦ false≢true (sym (b.in-None.ensures.none q (omega arith)) ∙ (bits q).1 (subst (λ x. S x q) f ready))
          | inr apart ↦ h.3 no r q (omega arith) ready
        ],
      )
    ] in (
      gives_row L A S c.args.rank first c.args.ranks.now now new c.loop-p.ranks c.give_ranks.new.ranks c.loop-p.fresh c.write_row.new.table row p c.requires.places c.requires.states p_in (omega arith) h.0 bits (λ q ready. below q ready.0) here others
          c.give_ranks.ensures.places c.give_ranks.ensures.states c.give_ranks.ensures.valid c.give_ranks.auto.ranks c.give_ranks.ensures.pairs c.give_ranks.ensures.table,
      omega arith,
      any.0,
      any.1,
    )

pub returns-clause-gives : goal.returns-clause-gives
returns-clause-gives c =
    let L = c.args.places.now in
    let A = c.args.automaton.now in
    let first = c.args.unranked.now in
    gives_all L A (IsReady L A first c.args.answered.now) c.args.rank first c.args.ranks.now c.loop-p.unranked c.loop-p.ranks c.loop-p.fresh c.loop-p.p (omega (arith, c.loop-p-test.false, c.states-p-end.ensures.count))
    (λ p q ready. let lt = (c.requires.valid.in_range p q ready.0).0 in omega (arith, lt, c.requires.places)) c.loop-p.invariant.0

pub returns-clause-none : goal.returns-clause-none
returns-clause-none c = λ no p q ready.
    let lt = (c.requires.valid.in_range p q ready.0).0 in
    c.loop-p.invariant.3 no p q (omega (arith, lt, c.requires.places, c.loop-p-test.false, c.states-p-end.ensures.count)) ready

pub give_ranks-requires-clause-few : goal.give_ranks-requires-clause-few
give_ranks-requires-clause-few c = omega (arith, c.loop-p.invariant.0.states, c.requires.states, c.requires.few)

pub give_ranks-requires-clause-row_len : goal.give_ranks-requires-clause-row_len
give_ranks-requires-clause-row_len c = omega (arith, c.keep_answered.auto.row ∙ c.write_unranked.auto.row ∙ c.loop-p.auto.row ∙ c.requires.row, c.requires.width, c.requires.few)

pub next_bit-requires : goal.next_bit-requires
next_bit-requires c = omega (arith, c.keep_answered.auto.row ∙ c.write_unranked.auto.row ∙ c.loop-p.auto.row ∙ c.requires.row, c.requires.width, c.requires.few)
