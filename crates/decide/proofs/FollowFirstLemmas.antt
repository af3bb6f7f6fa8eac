-- What a reduction logs, written as the first log of a certificate, keeps its rules.
use Rattle.std.proofs.Common.{◌≡◌, ℕ, ◌<◌, ◌≤◌, ◌⊎◌, inl, inr, Option, None, Some, true, List, [], ◌∷◌, length, map, All, Contains, refl, sym, ap, subst, arith}
use Rattle.std.specs.List.{list_all}
use Rattle.std.proofs.lemmas.Bool.{and_from}
use Rattle.std.proofs.lemmas.List.Elements.{All-nil, All-cons, All-map, All-weaker}
use Rattle.auto_core.specs.Automaton.{Automaton, IsAutomaton, trans_at}
use Rattle.auto_core.specs.Delayed.{letters_for}
use Rattle.auto_core.specs.Game.{Close, Holds, ArePairsBelow, IsGreatestForward, IsGreatestBackward, StableForward, StableBackward}
use Rattle.auto_core.specs.Pruning.{AtSource, AtTarget, IsCut, look_backward, look_forward}
use Rattle.auto_core.specs.Quotient.{IsQuotient}
use Rattle.auto_core.specs.declared.parts.Mode.{Mode}
use Rattle.bit_rel.specs.Relation.{Relation}
use Rattle.prune_pairs.specs.Least.{IsLeastBetter, numbers_of_gone}
use Rattle.prune_pairs.specs.declared.removing.Gone.{Gone}
use Rattle.reduce_loop.specs.declared.steps.Foresight.{Foresight}
use Rattle.reduce_loop.specs.declared.steps.Kind.{Kind}
use Rattle.reduce_loop.specs.declared.steps.Kind.TheVariants.{Trim, Forward, Backward, Delayed, Prune}
use Rattle.reduce_loop.specs.declared.steps.Step.{Step}
use Rattle.reduce_loop.specs.Kinds.{kinds_of, After}
use Rattle.reduce_loop.specs.Logs.{IsBackOf, IsAheadOf, IsCutOf, IsStepEntry, IsLog, pairs_given as relation_pairs}
use Rattle.reduce_loop.proofs.MakingLemmas.{useful_below}
use Rattle.cert_value.specs.declared.types.FirstStep.{FirstStep}
use Rattle.cert_value.specs.declared.types.FirstStep.TheVariants as first
use Rattle.cert_value.specs.declared.types.GoneBy.{GoneBy}
use Rattle.cert_value.specs.declared.types.RelBlock.{RelBlock}
use Rattle.cert_value.specs.WellFormed.{gone_of, is_block, blocks_due}
use Rattle.log_check.specs.Blocks.{IsBlockBelow}
use Rattle.log_check.specs.Follows.{StepFollows}
use Rattle.log_check.specs.FirstLog.{back_of, ahead_of, IsAtMost, IsAsGood, IsNotBack, IsNotRelatedBack, IsGoneIn, AreStable, first_rules, FirstLogFollows}
use Rattle.log_check.specs.Parts.{IsLook, AreClassesFor}
use Rattle.decide.specs.Written.{IsBlockOfPairs, given, AreBlocksOf, gone_and_better, IsFirstWritten, AreFirstWritten}
use Rattle.decide.proofs.FollowLemmas.{all_of_members, log_follows, block_below, trim_leads, greatest_same, merge_leads, delayed_leads, IsPair, pair_listed, back_greatest, ahead_greatest, cut_leads}

-- ---- the blocks of a cut

-- The blocks are those of the pair, each with the pairs of its relation.
pub record AreCutBlocks (m n : ℕ) (back ahead : Option Relation) (blocks : List RelBlock) : Type 0 where
  pub back_is : back_of n blocks ≡ relation_pairs back
  pub ahead_is : ahead_of n blocks ≡ relation_pairs ahead
  pub count : length blocks ≡ blocks_due n
  pub formed : list_all is_block blocks ≡ true
  pub below : All (IsBlockBelow m) blocks

one_formed : (S : List (ℕ × ℕ)) (b : RelBlock) → IsBlockOfPairs S b → list_all is_block (b ∷ []) ≡ true
one_formed S b is = and_from (is_block b) true is.formed refl

one_below : (m : ℕ) (S : List (ℕ × ℕ)) (b : RelBlock) → IsBlockOfPairs S b → ArePairsBelow m m S → All (IsBlockBelow m) (b ∷ [])
one_below m S b is range = All-cons (IsBlockBelow m) b [] (block_below m S b is range) (All-nil (IsBlockBelow m))

-- One of the pairs, and not this one.
not_first : (n : ℕ) → IsPair n → (n ≡ 1 → ⊥) → (n ≡ 2 → ⊥) → (n ≡ 3) ⊎ (n ≡ 4)
not_first n (inl e) one two = absurd (one e)
not_first n (inr (inl e)) one two = absurd (two e)
not_first n (inr (inr h)) one two = h

is_first : (n : ℕ) → IsPair n → ((n ≡ 1 → ⊥) → ⊥) → n ≡ 1
is_first n (inl e) apart = e
is_first n (inr (inl e)) apart = absurd (apart (λ f. omega (arith, e, f)))
is_first n (inr (inr (inl e))) apart = absurd (apart (λ f. omega (arith, e, f)))
is_first n (inr (inr (inr e))) apart = absurd (apart (λ f. omega (arith, e, f)))

is_second : (n : ℕ) → IsPair n → ((n ≡ 2 → ⊥) → ⊥) → n ≡ 2
is_second n (inl e) apart = absurd (apart (λ f. omega (arith, e, f)))
is_second n (inr (inl e)) apart = e
is_second n (inr (inr (inl e))) apart = absurd (apart (λ f. omega (arith, e, f)))
is_second n (inr (inr (inr e))) apart = absurd (apart (λ f. omega (arith, e, f)))

module _ (A : Automaton) (k : ℕ) where
  ahead_block : (n : ℕ) (rel : Relation) (blocks : List RelBlock) → n ≡ 1 → ArePairsBelow A.states A.states rel.pairs → AreBlocksOf (rel ∷ []) blocks → AreCutBlocks A.states n None (Some rel) blocks
  ahead_block n rel [] one range written = absurd written
  ahead_block n rel (b ∷ c ∷ more) one range written = absurd written.1
  ahead_block n rel (b ∷ []) one range written = subst (λ x. AreCutBlocks A.states x None (Some rel) (b ∷ [])) (sym one) (record {
    back_is = refl;
    ahead_is = written.0.pairs;
    count = refl;
    formed = one_formed rel.pairs b written.0;
    below = one_below A.states rel.pairs b written.0 range;
  })

  back_block : (n : ℕ) (rel : Relation) (blocks : List RelBlock) → n ≡ 2 → ArePairsBelow A.states A.states rel.pairs → AreBlocksOf (rel ∷ []) blocks → AreCutBlocks A.states n (Some rel) None blocks
  back_block n rel [] two range written = absurd written
  back_block n rel (b ∷ c ∷ more) two range written = absurd written.1
  back_block n rel (b ∷ []) two range written = subst (λ x. AreCutBlocks A.states x (Some rel) None (b ∷ [])) (sym two) (record {
    back_is = written.0.pairs;
    ahead_is = refl;
    count = refl;
    formed = one_formed rel.pairs b written.0;
    below = one_below A.states rel.pairs b written.0 range;
  })

  both_blocks : (n : ℕ) (rel other : Relation) (blocks : List RelBlock) → (n ≡ 3) ⊎ (n ≡ 4) → ArePairsBelow A.states A.states rel.pairs → ArePairsBelow A.states A.states other.pairs → AreBlocksOf (rel ∷ other ∷ []) blocks → AreCutBlocks A.states n (Some rel) (Some other) blocks
  both_blocks n rel other [] at range also written = absurd written
  both_blocks n rel other (b ∷ []) at range also written = absurd written.1
  both_blocks n rel other (b ∷ c ∷ d ∷ more) at range also written = absurd written.1.1
  both_blocks n rel other (b ∷ c ∷ []) at range also written = elim at [
    | inl e ↦ subst (λ x. AreCutBlocks A.states x (Some rel) (Some other) (b ∷ c ∷ [])) (sym e) (record {
      back_is = written.0.pairs;
      ahead_is = written.1.0.pairs;
      count = refl;
      formed = formed;
      below = below;
    })
    | inr e ↦ subst (λ x. AreCutBlocks A.states x (Some rel) (Some other) (b ∷ c ∷ [])) (sym e) (record {
      back_is = written.0.pairs;
      ahead_is = written.1.0.pairs;
      count = refl;
      formed = formed;
      below = below;
    })
  ]
    where
      formed : list_all is_block (b ∷ c ∷ []) ≡ true
      formed = and_from (is_block b) (list_all is_block (c ∷ [])) written.0.formed (one_formed other.pairs c written.1.0)

      below : All (IsBlockBelow A.states) (b ∷ c ∷ [])
      below = All-cons (IsBlockBelow A.states) b (c ∷ []) (block_below A.states rel.pairs b written.0 range) (one_below A.states other.pairs c written.1.0 also)

  pub cut_blocks : (n : ℕ) (back ahead : Option Relation) (blocks : List RelBlock) → IsPair n → IsBackOf A n k back → IsAheadOf A n k ahead → AreBlocksOf (given back ahead) blocks → AreCutBlocks A.states n back ahead blocks
  cut_blocks n None None blocks pair is_back is_ahead written =
      let one = is_first n pair is_back in
      absurd (is_ahead (λ f. omega (arith, one, f)))
  cut_blocks n None (Some ahead) blocks pair is_back is_ahead written = ahead_block n ahead blocks (is_first n pair is_back) is_ahead.1.greatest.in_range written
  cut_blocks n (Some back) None blocks pair is_back is_ahead written = back_block n back blocks (is_second n pair is_ahead) is_back.1.greatest.in_range written
  cut_blocks n (Some back) (Some ahead) blocks pair is_back is_ahead written =
      both_blocks n back ahead blocks (not_first n pair is_back.0 is_ahead.0) is_back.1.greatest.in_range is_ahead.1.greatest.in_range written

-- ---- what is better is as good and strictly better

at_most_source : (n : ℕ) (S : List (ℕ × ℕ)) (p q : ℕ) → AtSource n (Close (Holds S)) p q → IsAtMost (n ≡ 1) S p q
at_most_source n S p q (inl h) = (λ e. h.1, λ apart. absurd (apart h.0))
at_most_source n S p q (inr (inl h)) = (λ e. absurd (omega (arith, e, h.0)), λ apart. h.1.0)
at_most_source n S p q (inr (inr (inl h))) = (λ e. absurd (omega (arith, e, h.0)), λ apart. h.1)
at_most_source n S p q (inr (inr (inr h))) = (λ e. absurd (omega (arith, e, h.0)), λ apart. h.1.0)

at_most_target : (n : ℕ) (S : List (ℕ × ℕ)) (p q : ℕ) → AtTarget n (Close (Holds S)) p q → IsAtMost (n ≡ 2) S p q
at_most_target n S p q (inl h) = (λ e. absurd (omega (arith, e, h.0)), λ apart. h.1.0)
at_most_target n S p q (inr (inl h)) = (λ e. h.1, λ apart. absurd (apart h.0))
at_most_target n S p q (inr (inr (inl h))) = (λ e. absurd (omega (arith, e, h.0)), λ apart. h.1.0)
at_most_target n S p q (inr (inr (inr h))) = (λ e. absurd (omega (arith, e, h.0)), λ apart. h.1)

strict_source : (n : ℕ) (S : List (ℕ × ℕ)) (p q : ℕ) → AtSource n (Close (Holds S)) p q → (n ≡ 2) ⊎ (n ≡ 4) → IsNotBack S p q
strict_source n S p q (inl h) at = absurd (omega (arith, at, h.0))
strict_source n S p q (inr (inl h)) at = h.1.1
strict_source n S p q (inr (inr (inl h))) at = absurd (omega (arith, at, h.0))
strict_source n S p q (inr (inr (inr h))) at = h.1.1

strict_target : (n : ℕ) (S : List (ℕ × ℕ)) (p q : ℕ) → AtTarget n (Close (Holds S)) p q → (n ≡ 1) ⊎ (n ≡ 3) → IsNotBack S p q
strict_target n S p q (inl h) at = h.1.1
strict_target n S p q (inr (inl h)) at = absurd (omega (arith, at, h.0))
strict_target n S p q (inr (inr (inl h))) at = h.1.1
strict_target n S p q (inr (inr (inr h))) at = absurd (omega (arith, at, h.0))

module _ (A : Automaton) (n : ℕ) (back ahead : Option Relation) (blocks : List RelBlock) (are : AreCutBlocks A.states n back ahead blocks) where
  abbrev LeastBetter : Gone → Type 0
  LeastBetter g = IsLeastBetter A n (Close (Holds (relation_pairs back))) (Close (Holds (relation_pairs ahead))) g.trans g.by

  as_good : (g : Gone) → LeastBetter g → IsAsGood A n blocks (gone_and_better g)
  as_good g h =
      let source = at_most_source n (relation_pairs back) (trans_at A g.trans).source (trans_at A g.by).source h.better.better.source in
      let target = at_most_target n (relation_pairs ahead) (trans_at A g.trans).target (trans_at A g.by).target h.better.better.target in (
        h.better.better.label,
        subst (λ S. IsAtMost (n ≡ 1) S (trans_at A g.trans).source (trans_at A g.by).source) (sym are.back_is) source,
        subst (λ S. IsAtMost (n ≡ 2) S (trans_at A g.trans).target (trans_at A g.by).target) (sym are.ahead_is) target,
      )

  not_back_source : (g : Gone) → LeastBetter g → (n ≡ 2) ⊎ (n ≡ 4) → IsNotBack (back_of n blocks) (trans_at A g.trans).source (trans_at A g.by).source
  not_back_source g h at = subst (λ S. IsNotBack S (trans_at A g.trans).source (trans_at A g.by).source) (sym are.back_is)
      (strict_source n (relation_pairs back) (trans_at A g.trans).source (trans_at A g.by).source h.better.better.source at)

  not_back_target : (g : Gone) → LeastBetter g → (n ≡ 1) ⊎ (n ≡ 3) → IsNotBack (ahead_of n blocks) (trans_at A g.trans).target (trans_at A g.by).target
  not_back_target g h at = subst (λ S. IsNotBack S (trans_at A g.trans).target (trans_at A g.by).target) (sym are.ahead_is)
      (strict_target n (relation_pairs ahead) (trans_at A g.trans).target (trans_at A g.by).target h.better.better.target at)

  strictly_better : (g : Gone) → LeastBetter g → IsNotRelatedBack A n blocks (gone_and_better g)
  strictly_better g h = (
    λ e. not_back_target g h (inl e),
    λ e. not_back_source g h (inl e),
    λ e. not_back_target g h (inr e),
    λ e. not_back_source g h (inr e),
  )

  all_gone : (P : GoneBy → Type 0) → ((g : Gone) → LeastBetter g → P (gone_and_better g)) → (gone : List Gone) → All LeastBetter gone → All P (map gone_and_better gone)
  all_gone P each gone h = All-map P gone_and_better gone (All-weaker LeastBetter (λ g. P (gone_and_better g)) each gone h)

  cut_stable : (k : ℕ) → IsBackOf A n k back → IsAheadOf A n k ahead → AreStable A n k blocks
  cut_stable k is_back is_ahead = (
    λ wanted. subst (StableBackward A (look_backward n k)) (sym are.back_is) (back_greatest A n k back is_back wanted).stable,
    λ wanted. subst (StableForward A (look_forward n k)) (sym are.ahead_is) (ahead_greatest A n k ahead is_ahead wanted).stable,
  )

-- The numbers of what is gone, as they are written.
pub gone_numbers : (gone : List Gone) → gone_of (map gone_and_better gone) ≡ numbers_of_gone gone
gone_numbers [] = refl
gone_numbers (g ∷ gone) = ap (λ l. g.trans ∷ l) (gone_numbers gone)

-- ---- the steps of the first log

module _ (mode : Mode) (A B : Automaton) (item : ℕ) where
  abbrev KeepsAs : FirstStep → Type 0
  KeepsAs t = StepFollows FirstStep (first_rules mode) A item t B

  merge_keeps : (classes : List ℕ) → AreClassesFor A classes → IsQuotient A classes B → KeepsAs (first.Merge classes)
  merge_keeps classes are leads = record { holds = (are, tt); leads = leads }

  cut_keeps : (n k : ℕ) (gone : List Gone) (back ahead : Option Relation) (blocks : List RelBlock) → IsPair n → IsLook k → IsCutOf A n k gone back ahead → AreBlocksOf (given back ahead) blocks → IsCut A (numbers_of_gone gone) B → KeepsAs (first.Cut n k (map gone_and_better gone) blocks)
  cut_keeps n k gone back ahead blocks pair look is written cut =
      let are = cut_blocks A k n back ahead blocks pair is.is_back is.is_ahead written in
      let numbers : All (IsGoneIn A) (map gone_and_better gone) = all_gone A n back ahead blocks are (IsGoneIn A) (λ g h. (h.better.is, h.better.by)) gone is.least.each in
      let good : All (IsAsGood A n blocks) (map gone_and_better gone) = all_gone A n back ahead blocks are (IsAsGood A n blocks) (as_good A n back ahead blocks are) gone is.least.each in
      let strict : All (IsNotRelatedBack A n blocks) (map gone_and_better gone) = all_gone A n back ahead blocks are (IsNotRelatedBack A n blocks) (strictly_better A n back ahead blocks are) gone is.least.each in
      record {
        holds = (
          record { look_is = look; gone_in = numbers; blocks_in = are.below },
          (cut_stable A n back ahead blocks are k is.is_back is.is_ahead, (good, (strict, tt))),
        );
        leads = subst (λ l. IsCut A l B) (sym (gone_numbers gone)) cut;
      }

first_keeps :
    (mode : Mode) (sight : Foresight)
    → IsLook sight.look
    → (A B : Automaton) (item : ℕ) (kind : Kind) (entry : Step) (t : FirstStep)
    → IsAutomaton A
    → Contains (kinds_of mode) kind
    → After A mode sight kind B
    → IsStepEntry A mode sight kind entry
    → IsFirstWritten entry t
    → StepFollows FirstStep (first_rules mode) A item t B
first_keeps mode sight look A B item Trim entry t valid listed after (kept, e, list) written =
    let is : t ≡ first.Trim kept = subst (λ s. IsFirstWritten s t) e written in
    subst (KeepsAs mode A B item) (sym is) (record {
      holds = (all_of_members (λ q. q < A.states) kept (useful_below A mode kept valid list.useful), ((λ q h. (list.useful q).1 h), tt));
      leads = trim_leads A B mode kept after list;
    })
first_keeps mode sight look A B item Forward entry t valid listed after (rel, classes, e, merge) written =
    let is : t ≡ first.Merge classes = subst (λ s. IsFirstWritten s t) e written in
    subst (KeepsAs mode A B item) (sym is) (merge_keeps mode A B item classes (merge.joined.len, merge.joined.valid)
    (merge_leads A B (IsGreatestForward A sight.look) rel classes (greatest_same _ _ sight.look A.states) after merge))
first_keeps mode sight look A B item Backward entry t valid listed after (rel, classes, e, merge) written =
    let is : t ≡ first.Merge classes = subst (λ s. IsFirstWritten s t) e written in
    subst (KeepsAs mode A B item) (sym is) (merge_keeps mode A B item classes (merge.joined.len, merge.joined.valid)
    (merge_leads A B (IsGreatestBackward A sight.look) rel classes (greatest_same _ _ sight.look A.states) after merge))
first_keeps mode sight look A B item Delayed entry t valid listed after (ranks, classes, e, merge) written =
    let is : t ≡ first.Merge classes = subst (λ s. IsFirstWritten s t) e written in
    subst (KeepsAs mode A B item) (sym is) (merge_keeps mode A B item classes (merge.joined.len, merge.joined.valid)
    (delayed_leads A B (letters_for A sight.letters) ranks classes after merge))
first_keeps mode sight look A B item (Prune n) entry t valid listed after (gone, back, ahead, e, cut) written =
    let (blocks, are, is) = subst (λ s. IsFirstWritten s t) e written in
    subst (KeepsAs mode A B item) (sym is) (cut_keeps mode A B item n sight.look gone back ahead blocks (pair_listed mode n listed) look cut are
    (cut_leads A B n sight.look gone back ahead after cut))

-- Where a log leads from A to B, its steps as the first log of a certificate keep their rules, and lead there.
pub log_follows_first :
    (A B : Automaton) (mode : Mode) (sight : Foresight) (log : List Step) (steps : List FirstStep) (item : ℕ)
    → IsAutomaton A
    → 1 ≤ sight.look
    → sight.look ≤ 6
    → IsLog A mode sight B log
    → AreFirstWritten log steps
    → FirstLogFollows mode A item steps B
log_follows_first A B mode sight log steps item valid some few is written =
    log_follows FirstStep (first_rules mode) IsFirstWritten mode sight (first_keeps mode sight (some, few)) A B log steps item valid is written
