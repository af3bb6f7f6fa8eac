use Rattle.std.specs.Prelude.{if◌then◌else◌}
use Rattle.std.proofs.Common.{rules, ◌≡◌, ℕ, suc, ◌+◌, ◌*◌, ◌^◌, ◌<◌, ◌≤◌, ◌⊎◌, ◌↔◌, Bool, true, false, length, refl, ap, sym, ◌∙◌, subst, arith}
use Rattle.std.proofs.lemmas.Bool.{false≢true}
use Rattle.auto_core.specs.Rows.{HasCell}
use Rattle.auto_core.specs.Game.{Holds}
use Rattle.delayed_game.proofs.BoardLemmas.{no_more_pairs}
use Rattle.delayed_game.specs.Boards.{row_words, HasFreshAnswer, IsReady, GivesRank, IsClimbed}
use Rattle.delayed_game.proofs.ClimbLemmas.{climb_next, climb_ends}
use Rattle.delayed_game.proofs.levels.climb.Goals as goal

pub levels-init : goal.levels-init
levels-init c =
    let few = c.requires.climbed.valid.few in
    let all : c.args.unranked.now.places * c.args.unranked.now.states ≡ c.args.places.now.states * c.args.automaton.now.states =
    ap (λ m. m * c.args.unranked.now.states) c.requires.climbed.places ∙ ap (λ n. c.args.places.now.states * n) c.requires.climbed.states in
    (c.requires.climbed, λ any. omega arith, λ none. absurd (false≢true (sym none)))

pub note_fresh-requires-clause-columns : goal.note_fresh-requires-clause-columns
note_fresh-requires-clause-columns c =
    let A = c.args.automaton.now in
    subst (λ v. (p q : ℕ) → p < c.args.places.now.states → q < v * 64 → HasCell c.levels.fresh v p q → q < A.states) (sym c.requires.width) c.levels.invariant.0.columns

sign_falls : (b : Bool) (m n : ℕ) → m ≤ n → (b ≡ true → m < n) → m + (if b then 1 else 0) < n + 1
sign_falls true m n le less = let lt = less refl in omega arith
sign_falls false m n le less = omega arith

pub levels-preserved : goal.levels-preserved
levels-preserved c =
    let L = c.args.places.now in
    let A = c.args.automaton.now in
    let R = Holds c.args.within.now.pairs in
    let w = c.args.width in
    let r : ℕ = c.levels.rank in
    let one : suc r ≡ r + 1 = omega arith in
    let h = c.levels.invariant in
    let room = h.1 c.levels-test.true in
    let answered = c.levels.answered in
    let answered' = c.note_fresh.new.answered in
    let notes_w = c.note_fresh.ensures in
    let width = c.requires.width in
    let notes : (t q : ℕ) → t < length L.transitions → q < A.states → HasCell answered' (row_words A) t q ↔ (HasCell answered (row_words A) t q ⊎ HasFreshAnswer L A c.levels.fresh t q) =
    λ t q t_in q_in. subst (λ v. HasCell answered' v t q ↔ (HasCell answered v t q ⊎ HasFreshAnswer L A c.levels.fresh t q)) c.requires.width (notes_w t q t_in (omega arith)) in
    let gives : GivesRank L A (IsReady L A c.levels.unranked answered') (suc r) c.levels.unranked c.levels.ranks c.rank_ready-any.new.unranked c.rank_ready-any.new.ranks c.rank_ready-any.new.fresh =
    subst (λ n. GivesRank L A (IsReady L A c.levels.unranked answered') n c.levels.unranked c.levels.ranks c.rank_ready-any.new.unranked c.rank_ready-any.new.ranks c.rank_ready-any.new.fresh) (sym one) c.rank_ready-any.ensures.gives in
    let next : IsClimbed L A R (suc r) c.rank_ready-any.new.unranked c.rank_ready-any.new.ranks answered' c.rank_ready-any.new.fresh =
    climb_next L A c.requires.over c.requires.sound R r c.levels.unranked c.levels.ranks answered c.levels.fresh h.0 answered' notes c.rank_ready-any.new.unranked c.rank_ready-any.new.ranks c.rank_ready-any.new.fresh gives in (
      subst (λ n. IsClimbed L A R n c.rank_ready-any.new.unranked c.rank_ready-any.new.ranks answered' c.rank_ready-any.new.fresh) one next,
      λ any. let fell = c.rank_ready-any.ensures.some any in omega arith,
      λ none. climb_ends L A c.requires.over c.requires.sound R r c.rank_ready-any.new.unranked c.rank_ready-any.new.ranks answered' c.rank_ready-any.new.fresh next
          (λ p q p_in q_in is. c.rank_ready-any.ensures.none none p q ((gives.rows p q p_in q_in).0 ((next.rows p q p_in q_in).1 is))),
    )

pub levels-smaller : goal.levels-smaller
levels-smaller c =
    let gives = c.rank_ready-any.ensures.gives in
    let less = no_more_pairs c.levels.unranked c.rank_ready-any.new.unranked c.levels.invariant.0.valid gives.valid (λ p q held. ((gives.pairs p q).0 held).0) in
    let was = ap (λ b. length c.levels.unranked.pairs + (if b then 1 else 0)) c.levels-test.true in
    let falls = sign_falls c.rank_ready-any.result (length c.rank_ready-any.new.unranked.pairs) (length c.levels.unranked.pairs) less c.rank_ready-any.ensures.some in
    omega arith

pub rank_ready-any-requires-clause-rank : goal.rank_ready-any-requires-clause-rank
rank_ready-any-requires-clause-rank c =
    let room = c.levels.invariant.1 c.levels-test.true in
    let few = c.requires.few in
    omega arith

pub overflow_add-rank : goal.overflow_add-rank
overflow_add-rank c =
    let room = c.levels.invariant.1 c.levels-test.true in
    let few = c.requires.few in
    let fits : c.levels.rank + 1 < 2 ^ 32 = omega arith in
    search rules
