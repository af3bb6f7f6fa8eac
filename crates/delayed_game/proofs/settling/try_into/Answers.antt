use Rattle.std.proofs.Common.{rules, ◌≡◌, ℕ, ◌+◌, ◌*◌, ◌<◌, ◌↔◌, inl, inr, Bool, true, false, List, get_or, sym, ap, ◌∙◌, refl, subst, arith}
use Rattle.std.proofs.lemmas.Bool.{cases_eq, false≢true}
use Rattle.std.proofs.lemmas.Nat.{row_fits}
use Rattle.auto_core.specs.Automaton.{Moves, trans, trans_at}
use Rattle.auto_core.specs.Rows.{bit_of, cell_of, HasBit}
use Rattle.auto_core.specs.Game.{Holds}
use Rattle.auto_core.specs.declared.parts.Trans.{Trans}
use Rattle.auto_core.proofs.MoveLemmas.{moves_in_incoming, incoming_moves}
use Rattle.delayed_game.specs.Pairings.{Pairing}
use Rattle.delayed_game.proofs.BoardLemmas.{no_more_pairs}
use Rattle.delayed_game.specs.Settling.{IsAnsweredIn, IsAnsweredInto, IsFiltered, IsPlaceUnderWay, Tries}
use Rattle.delayed_game.proofs.MendLemmas.{kept_more}
use Rattle.delayed_game.proofs.SettleLemmas.{HasAnswered, answered_more, filter_takes, tries_none, tries_more, tries_same, under_way_stays}
use Rattle.delayed_game.proofs.settling.try_into.Goals as goal
use Rattle.delayed_game.proofs.settling.try_into.Goals.{then-keep_in_row, else-keep_in_row}

pub write_row-requires-clause-row : goal.write_row-requires-clause-row
write_row-requires-clause-row c =
    omega (arith, row_fits c.args.to c.args.width c.args.places.now.states c.args.width c.requires.place (omega arith), c.requires.kept_len)

pub loop-i-init : goal.loop-i-init
loop-i-init c = (
  tries_none c.args.places.now c.args.automaton.now c.args.board.now c.args.marks.now c.requires.valid,
  record { others = c.requires.others; still = λ clear q held. held },
  λ k q lt. absurd (omega arith),
)

pub keep_in_row-requires-clause-left : goal.keep_in_row-requires-clause-left
keep_in_row-requires-clause-left c =
    let size = c.loop-i.invariant.0.takes.places ∙ c.requires.places in
    let in_states : (get_or c.transitions.result.now (get_or c.predecessors-before.result.now c.loop-i.i 0) (trans 0 0 0)).source < c.args.places.now.states = search rules in
    omega arith

pub keep_in_row-requires-clause-few : goal.keep_in_row-requires-clause-few
keep_in_row-requires-clause-few c =
    let size = c.loop-i.invariant.0.takes.states ∙ c.requires.states in
    let few = c.requires.sound.states_fit in
    omega arith

pub keep_in_row-requires-clause-valid : goal.keep_in_row-requires-clause-valid
keep_in_row-requires-clause-valid c = c.loop-i.invariant.0.takes.valid

pub keep_in_row-requires-clause-len : goal.keep_in_row-requires-clause-len
keep_in_row-requires-clause-len c =
    let size = c.loop-i.invariant.0.takes.states ∙ c.requires.states in
    let len = c.row_at.ensures.len in
    let width = c.requires.width in
    omega arith

pub loop-i-preserved : goal.loop-i-preserved
loop-i-preserved c =
    let L = c.args.places.now in
    let A = c.args.automaton.now in
    let to = c.args.to in
    let w : ℕ = c.args.width in
    let ns = c.predecessors-before.result.now in
    let i = c.loop-i.i in
    let n = get_or ns i 0 in
    let old = c.args.board.now in
    let R = c.loop-i.board in
    let S = c.keep_in_row.new.board in
    let b = c.keep_in_row.result in
    let marks = c.loop-i.marks in
    let made = c.write_answering.new.made in
    let row = c.row_at.result.now in
    let now : Trans = get_or c.transitions.result.now n (trans 0 0 0) in
    let is : now ≡ trans_at L n = ap (λ ts. get_or ts n (trans 0 0 0)) c.transitions.ensures.list in
    let source : now.source ≡ (trans_at L n).source = ap (λ (u : Trans). u.source) is in
    let label : now.label ≡ (trans_at L n).label = ap (λ (u : Trans). u.label) is in
    let p = (trans_at L n).source in
    let a = (trans_at L n).label in
    let h = c.loop-i.invariant in
    let move : Moves L p a to = incoming_moves L to ns c.predecessors-before.ensures.list i c.loop-i-test.true in
    let inside : (r s : ℕ) → Holds R.pairs r s → Holds old.pairs r s = h.0.takes.within in
    let near : (q : ℕ) → Holds old.pairs p q → q < w * 64 = λ q held. let lt = (c.requires.valid.in_range p q held).1 in omega (arith, lt, c.requires.states, c.requires.width) in
    let answers : (q : ℕ) → Holds R.pairs p q → HasBit row q ↔ IsAnsweredIn A (Holds old.pairs) q a to = λ q held.
    let was = inside p q held in
    let both = c.write_answering.ensures p a q move was in
    let same : bit_of row q ≡ cell_of made w a q = c.row_at.ensures.bits q (near q was) ∙ ap (λ x. cell_of made w x q) label in
    (λ bit. both.0 (sym same ∙ bit), λ answer. same ∙ both.1 answer) in
    let f : IsFiltered R S p (λ q. HasBit row q) b = subst (λ x. IsFiltered R S x (λ q. HasBit row q) b) source c.keep_in_row.ensures in
    let within : (r s : ℕ) → Holds S.pairs r s → Holds R.pairs r s = λ r s k. ((f.pairs r s).0 k).0 in
    let takes = filter_takes L A old R S p a to row b move (inside to) answers f in
    let more = answered_more L A to ns row old R S i b h.2 f answers in
    let All : List ℕ → Bool → Type 0 = λ m any. Tries L A old S c.args.marks.now m any × IsPlaceUnderWay L A to old S m × HasAnswered L A to ns old S (i + 1) in
    elim c.if-keep_in_row.branch [
      | then-keep_in_row w ↦
          let marks' = w.set_bit-then-keep_in_row.new.row in
          let here : bit_of marks' p ≡ true = subst (λ x. bit_of marks' x ≡ true) source w.set_bit-then-keep_in_row.ensures.here in
          let others : (x : ℕ) → ¬ (x ≡ p) → bit_of marks' x ≡ bit_of marks x = subst (λ y. (x : ℕ) → ¬ (x ≡ y) → bit_of marks' x ≡ bit_of marks x) source w.set_bit-then-keep_in_row.ensures.others in
          let away : (x : ℕ) → bit_of marks' x ≡ false → ¬ (x ≡ p) = λ x clear e. false≢true (sym clear ∙ ap (λ y. bit_of marks' y) e ∙ here) in
          let marked : (x : ℕ) → bit_of marks' x ≡ false → (bit_of marks x ≡ false) × ((q : ℕ) → Holds R.pairs x q → Holds S.pairs x q) =
          λ x clear. (sym (others x (away x clear)) ∙ clear, λ q held. (f.pairs x q).1 (held, λ e. absurd (away x clear e))) in
          subst (λ m. All m c.if-keep_in_row.any) (sym w.marks-is) (subst (λ any. All marks' any) (sym w.any-is) (
            tries_more L A old R S c.args.marks.now marks marks' c.loop-i.any h.0 takes (f.some w.if-keep_in_row.true) (λ x clear. (marked x clear).0),
            under_way_stays L A to old R S marks marks' h.1 within marked,
            more,
          ))
      | else-keep_in_row w ↦
          let same : S ≡ R = f.same w.if-keep_in_row.false in
          let less = no_more_pairs R S h.0.takes.valid f.valid within in
          let marked : (x : ℕ) → bit_of marks x ≡ false → (bit_of marks x ≡ false) × ((q : ℕ) → Holds R.pairs x q → Holds S.pairs x q) =
          λ x clear. (clear, λ q held. subst (λ (T : Pairing). Holds T.pairs x q) (sym same) held) in
          subst (λ m. All m c.if-keep_in_row.any) (sym w.marks-is) (subst (λ any. All marks any) (sym w.any-is) (
            tries_same L A old R S c.args.marks.now marks marks c.loop-i.any h.0 takes less refl,
            under_way_stays L A to old R S marks marks h.1 within marked,
            more,
          ))
    ]

pub returns-clause-kept : goal.returns-clause-kept
returns-clause-kept c =
    let L = c.args.places.now in
    let A = c.args.automaton.now in
    let to = c.args.to in
    let ns = c.predecessors-before.result.now in
    let old = c.args.board.now in
    let R = c.loop-i.board in
    kept_more L A c.args.width to c.args.kept.now c.write_row.new.table c.args.tried.now c.set_bit.new.row c.row.result.now old R c.requires.sound (omega (arith, c.requires.width)) c.requires.valid c.requires.states c.requires.kept
    c.loop-i.invariant.0.takes.within c.row.ensures.bits c.write_row.ensures.here c.write_row.ensures.others c.set_bit.ensures.others
    (λ p a q move held.
    let (k, k_in, is) = moves_in_incoming L to ns c.predecessors-before.ensures.list p a move in
    let source : (trans_at L (get_or ns k 0)).source ≡ p = ap (λ (u : Trans). u.source) is in
    let label : (trans_at L (get_or ns k 0)).label ≡ a = ap (λ (u : Trans). u.label) is in
    subst (λ y. IsAnsweredIn A (Holds old.pairs) q y to) label (c.loop-i.invariant.2 k q (omega (arith, k_in, c.loop-i-test.false)) (subst (λ y. Holds R.pairs y q) (sym source) held)))

pub returns-clause-answered : goal.returns-clause-answered
returns-clause-answered c = λ x x_in clear.
    let L = c.args.places.now in
    let A = c.args.automaton.now in
    let to = c.args.to in
    let ns = c.predecessors-before.result.now in
    let old = c.args.board.now in
    let R = c.loop-i.board in
    elim (cases_eq x to) [
      | inl e ↦
          let here : bit_of c.loop-i.marks to ≡ false = subst (λ y. bit_of c.loop-i.marks y ≡ false) e clear in
          let into : IsAnsweredInto L A (Holds R.pairs) to = λ p a q move held.
          let (k, k_in, is) = moves_in_incoming L to ns c.predecessors-before.ensures.list p a move in
          let source : (trans_at L (get_or ns k 0)).source ≡ p = ap (λ (u : Trans). u.source) is in
          let label : (trans_at L (get_or ns k 0)).label ≡ a = ap (λ (u : Trans). u.label) is in
          let answer : IsAnsweredIn A (Holds old.pairs) q a to =
          subst (λ y. IsAnsweredIn A (Holds old.pairs) q y to) label (c.loop-i.invariant.2 k q (omega (arith, k_in, c.loop-i-test.false)) (subst (λ y. Holds R.pairs y q) (sym source) held)) in
          (answer.0, answer.1, c.loop-i.invariant.1.still here answer.0 answer.2) in
          subst (λ y. IsAnsweredInto L A (Holds R.pairs) y) (sym e) into
      | inr apart ↦ c.loop-i.invariant.1.others x x_in apart clear
    ]
