-- A reduction's log is short, and what is written of it has few digits and stands in order.
use Rattle.std.proofs.Common.{◌≡◌, ◌==◌, ℕ, zero, suc, ◌+◌, ◌<◌, ◌≤◌, ◌&&◌, ◌⊎◌, inl, inr, Bool, true, Option, List, [], ◌∷◌, length, map, All, Contains, refl, sym, ap, ◌∙◌, subst, arith, length-append}
use Rattle.std.specs.Prelude.{nat_le, nat_lt}
use Rattle.std.specs.List.{list_all}
use Rattle.std.specs.List.Sorted.{IsStrictlyIncreasing}
use Rattle.std.proofs.lemmas.Bool.{and_from, cases_lt, eq-eqb, le-leb, lt-ltb}
use Rattle.std.proofs.lemmas.List.{length-map}
use Rattle.std.proofs.lemmas.List.Elements.{All-contains, All-from_get_or, Contains-append_cases}
use Rattle.std.proofs.lemmas.List.Kept.{AllPairs-from_increasing}
use Rattle.auto_core.specs.Automaton.{Automaton, IsAutomaton}
use Rattle.auto_core.specs.Delayed.{letters_for}
use Rattle.auto_core.specs.Game.{Close, Holds}
use Rattle.auto_core.specs.Pruning.{IsCut}
use Rattle.auto_core.specs.Quotient.{class_of, AreClasses}
use Rattle.auto_core.specs.declared.parts.Mode.{Mode}
use Rattle.auto_core.specs.declared.parts.Mode.TheVariants.{Buchi, Finite}
use Rattle.auto_core.proofs.PathLemmas.{Contains-cons_cases, Contains-here, Contains-later, none_in_nil}
use Rattle.auto_core.proofs.MemberLemmas.{Rises, rises_from_pairs, map_from}
use Rattle.bit_rel.specs.Relation.{Relation}
use Rattle.prune_pairs.specs.Least.{IsLeastBetter, numbers_of_gone}
use Rattle.prune_pairs.specs.declared.removing.Gone.{Gone}
use Rattle.prune_pairs.proofs.OneLaws.{cut_nothing}
use Rattle.reduce_loop.specs.declared.steps.Foresight.{Foresight}
use Rattle.reduce_loop.specs.declared.steps.Kind.{Kind}
use Rattle.reduce_loop.specs.declared.steps.Kind.TheVariants.{Trim, Forward, Backward, Delayed, Prune}
use Rattle.reduce_loop.specs.declared.steps.Step.{Step}
use Rattle.reduce_loop.specs.Kinds.{kinds_of, After}
use Rattle.reduce_loop.specs.Logs.{IsUsefulList, IsCutOf, IsStepEntry, IsLogged, LogThrough, LogPasses, IsLog, pairs_given as relation_pairs}
use Rattle.reduce_loop.specs.Size.{size_of, IsNoLarger}
use Rattle.reduce_loop.proofs.DelayedLemmas.{letters_some, letters_within, none_in_finite}
use Rattle.reduce_loop.proofs.MakingLemmas.{useful_below}
use Rattle.reduce_loop.proofs.PassLemmas.{log_through, through_valid, through_smaller}
use Rattle.reduce_loop.proofs.StepLemmas.{after_valid, after_smaller}
use Rattle.cert_value.specs.declared.types.FirstStep.{FirstStep}
use Rattle.cert_value.specs.declared.types.FirstStep.TheVariants as first
use Rattle.cert_value.specs.declared.types.SecondStep.{SecondStep}
use Rattle.cert_value.specs.declared.types.SecondStep.TheVariants as second
use Rattle.cert_value.specs.declared.types.Grounds.{Grounds}
use Rattle.cert_value.specs.declared.types.Grounds.TheVariants as grounds
use Rattle.cert_value.specs.declared.types.GoneBy.{GoneBy}
use Rattle.cert_value.specs.declared.types.RelBlock.{RelBlock}
use Rattle.cert_value.specs.declared.types.RankBlock.{RankBlock}
use Rattle.cert_value.specs.WellFormed.{is_short, are_short, has_some, ascend, ascend_from, is_block, is_rank_block, gone_of, is_gone, are_gone, are_kept, are_classes, blocks_due, is_first_step, are_letters, are_grounds, is_second_step}
use Rattle.decide.specs.Written.{given, AreWritten, AreBlocksOf, gone_and_better, IsFirstWritten, IsSecondWritten, AreFirstWritten, AreSecondWritten}
use Rattle.log_check.proofs.RowLemmas.{all_short}
use Rattle.decide.proofs.FollowLemmas.{IsPair, pair_listed, listed_better, cut_leads}
use Rattle.decide.proofs.FollowFirstLemmas.{cut_blocks, gone_numbers}

-- ---- the length of a log

module _ (mode : Mode) (sight : Foresight) where
  through_short : (kinds : List Kind) (A C : Automaton) (log : List Step) → IsAutomaton A → LogThrough A mode sight kinds C log → length log + size_of C ≤ size_of A
  through_short [] A C log valid (same, none) =
      let size = ap size_of same in
      let len = ap length none in
      omega arith
  through_short (kind ∷ kinds) A C log valid (B, now, later, step, logged, rest, is) =
      let whole : length log ≡ length now + length later = ap length is ∙ length-append now later in
      let more = through_short kinds B C later (after_valid A B mode sight kind step) rest in
      elim logged [
        | inl still ↦
            let size = ap size_of still.0 in
            let len = ap length still.1 in
            omega arith
        | inr changed ↦
            let (entry, is_entry, one) = changed.1 in
            let len : length now ≡ 1 = ap length one in
            let less : size_of B < size_of A = elim (after_smaller A B mode sight kind valid step).same_or_less [ inl e ↦ absurd (changed.0 e) | inr lt ↦ lt ] in
            omega arith
      ]

  passes_short : (n : ℕ) (A C : Automaton) (log : List Step) → IsAutomaton A → LogPasses A mode sight n C log → length log + size_of C ≤ size_of A
  passes_short zero A C log valid (same, last) =
      let size = ap size_of same in
      let more = through_short (kinds_of mode) A A log valid last in
      omega arith
  passes_short (suc n) A C log valid (B, now, later, through, changed, rest, is) =
      let whole : length log ≡ length now + length later = ap length is ∙ length-append now later in
      let here = through_short (kinds_of mode) A B now valid through in
      let more = passes_short n B C later (through_valid mode sight (kinds_of mode) A B valid (log_through mode sight (kinds_of mode) A B now through)) rest in
      omega arith

-- Each step of a log makes the automaton smaller, so the log has at most as many as the automaton has parts.
pub log_is_short : (A B : Automaton) (mode : Mode) (sight : Foresight) (log : List Step) → IsAutomaton A → IsLog A mode sight B log → length log ≤ size_of A
log_is_short A B mode sight log valid (n, passes) = let all = passes_short mode sight n A B log valid passes in omega arith

-- What is written has as many steps.
pub written_length : (S T : Type 0) (W : S → T → Type 0) (ss : List S) (ts : List T) → AreWritten S T W ss ts → length ts ≡ length ss
written_length S T W [] [] h = refl
written_length S T W [] (t ∷ ts) h = absurd h
written_length S T W (s ∷ ss) [] h = absurd h
written_length S T W (s ∷ ss) (t ∷ ts) h = let rest = written_length S T W ss ts h.1 in omega arith

rising_few : (bound base : ℕ) (xs : List ℕ) → base ≤ bound → Rises (λ x y. x < y) xs → ((x : ℕ) → Contains xs x → (base ≤ x) × (x < bound)) → base + length xs ≤ bound
rising_few bound base [] upto up all = omega arith
rising_few bound base (x ∷ xs) upto up all =
    let here = all x (Contains-here x x xs refl) in
    let low = here.0 in
    let high = here.1 in
    let rest = rising_few bound (suc x) xs (omega arith) up.1 (λ y h.
    let lt = up.0 y h in
    (omega arith, (all y (Contains-later x y xs h)).1)) in
    omega arith

-- An automaton has at most as many accepting states as states.
pub few_accepting : (A : Automaton) → IsAutomaton A → length A.accepting ≤ A.states
few_accepting A valid =
    let all = rising_few A.states 0 A.accepting (omega arith) (rises_from_pairs (λ x y. x < y) A.accepting (AllPairs-from_increasing A.accepting valid.accepting_in_order))
    (λ q h. (omega arith, All-contains (λ q. q < A.states) A.accepting q valid.accepting_in_range h)) in
    omega arith

-- So many steps have a count of at most nine digits.
pub log_length_is_short :
    (T : Type 0) (W : Step → T → Type 0) (A B : Automaton) (mode : Mode) (sight : Foresight) (log : List Step) (steps : List T)
    → IsAutomaton A
    → A.states ≤ 2048
    → length A.transitions ≤ 65536
    → IsLog A mode sight B log
    → AreWritten Step T W log steps
    → is_short (length steps) ≡ true
log_length_is_short T W A B mode sight log steps valid states transitions is written =
    let len = written_length Step T W log steps written in
    let short = log_is_short A B mode sight log valid is in
    let accepting = few_accepting A valid in
    lt-ltb (length steps) 1000000000 (omega arith)

-- ---- where the entries of a log come from

-- The entry tells of a step that changed an automaton, one that came of A by the steps before.
pub record IsEntryOf (A : Automaton) (mode : Mode) (sight : Foresight) (entry : Step) : Type 0 where
  pub at : Automaton
  pub next : Automaton
  pub kind : Kind
  pub valid : IsAutomaton at
  pub no_larger : IsNoLarger A at
  pub listed : Contains (kinds_of mode) kind
  pub after : After at mode sight kind next
  pub changed : next ≡ at → ⊥
  pub is : IsStepEntry at mode sight kind entry

no_larger_itself : (A : Automaton) → IsNoLarger A A
no_larger_itself A = record { labels = refl; states = omega arith; transitions = omega arith }

no_larger_on : (A B C : Automaton) → IsNoLarger A B → IsNoLarger B C → IsNoLarger A C
no_larger_on A B C h k =
    let states = h.states in
    let more_states = k.states in
    let transitions = h.transitions in
    let more_transitions = k.transitions in
    record { labels = k.labels ∙ h.labels; states = omega arith; transitions = omega arith }

module _ (mode : Mode) (sight : Foresight) (entry : Step) where
  entry_of_larger : (A B : Automaton) → IsNoLarger A B → IsEntryOf B mode sight entry → IsEntryOf A mode sight entry
  entry_of_larger A B less e = record {
    at = e.at;
    next = e.next;
    kind = e.kind;
    valid = e.valid;
    no_larger = no_larger_on A B e.at less e.no_larger;
    listed = e.listed;
    after = e.after;
    changed = e.changed;
    is = e.is;
  }

  entry_logged : (A B : Automaton) (kind : Kind) (log : List Step) → IsAutomaton A → Contains (kinds_of mode) kind → After A mode sight kind B → IsLogged A mode sight kind B log → Contains log entry → IsEntryOf A mode sight entry
  entry_logged A B kind log valid listed after (inl still) h = absurd (none_in_nil entry (subst (λ l. Contains l entry) still.1 h))
  entry_logged A B kind log valid listed after (inr (changed, (other, is, one))) h = elim (Contains-cons_cases other entry [] (subst (λ l. Contains l entry) one h)) [
    | inl e ↦ record {
      at = A;
      next = B;
      kind = kind;
      valid = valid;
      no_larger = no_larger_itself A;
      listed = listed;
      after = after;
      changed = changed;
      is = subst (IsStepEntry A mode sight kind) e is;
    }
    | inr none ↦ absurd (none_in_nil entry none)
  ]

  entry_through : (kinds : List Kind) (A C : Automaton) (log : List Step) → IsAutomaton A → ((kind : Kind) → Contains kinds kind → Contains (kinds_of mode) kind) → LogThrough A mode sight kinds C log → Contains log entry → IsEntryOf A mode sight entry
  entry_through [] A C log valid listed (same, none) h = absurd (none_in_nil entry (subst (λ l. Contains l entry) none h))
  entry_through (kind ∷ kinds) A C log valid listed (B, now, later, step, logged, rest, is) h = elim (Contains-append_cases now later entry (subst (λ l. Contains l entry) is h)) [
    | inl here ↦ entry_logged A B kind now valid (listed kind (Contains-here kind kind kinds refl)) step logged here
    | inr behind ↦
        entry_of_larger A B (after_smaller A B mode sight kind valid step).no_larger
        (entry_through kinds B C later (after_valid A B mode sight kind step) (λ x in_kinds. listed x (Contains-later kind x kinds in_kinds)) rest behind)
  ]

  entry_passes : (n : ℕ) (A C : Automaton) (log : List Step) → IsAutomaton A → LogPasses A mode sight n C log → Contains log entry → IsEntryOf A mode sight entry
  entry_passes zero A C log valid (same, last) h = entry_through (kinds_of mode) A A log valid (λ kind h. h) last h
  entry_passes (suc n) A C log valid (B, now, later, through, changed, rest, is) h =
      let path = log_through mode sight (kinds_of mode) A B now through in
      elim (Contains-append_cases now later entry (subst (λ l. Contains l entry) is h)) [
        | inl here ↦ entry_through (kinds_of mode) A B now valid (λ kind h. h) through here
        | inr behind ↦
            entry_of_larger A B (through_smaller mode sight (kinds_of mode) A B valid path).no_larger
            (entry_passes n B C later (through_valid mode sight (kinds_of mode) A B valid path) rest behind)
      ]

pub entry_of_log : (A B : Automaton) (mode : Mode) (sight : Foresight) (log : List Step) → IsAutomaton A → IsLog A mode sight B log → (entry : Step) → Contains log entry → IsEntryOf A mode sight entry
entry_of_log A B mode sight log valid (n, passes) entry h = entry_passes mode sight entry n A B log valid passes h

-- Each of the things that are written stands for one of the first list.
written_for : (S T : Type 0) (W : S → T → Type 0) (ss : List S) (ts : List T) → AreWritten S T W ss ts → (t : T) → Contains ts t → (s : S) × Contains ss s × W s t
written_for S T W [] [] h t has = absurd (none_in_nil t has)
written_for S T W [] (x ∷ ts) h t has = absurd h
written_for S T W (s ∷ ss) [] h t has = absurd h
written_for S T W (s ∷ ss) (x ∷ ts) h t has = elim (Contains-cons_cases x t ts has) [
  | inl e ↦ (s, Contains-here s s ss refl, subst (W s) e h.0)
  | inr later ↦ let (r, there, is) = written_for S T W ss ts h.1 t later in (r, Contains-later s r ss there, is)
]

all_pass : {X : Type 0} (test : X → Bool) (xs : List X) → ((x : X) → Contains xs x → test x ≡ true) → list_all test xs ≡ true
all_pass test [] each = refl
all_pass test (x ∷ xs) each = and_from (test x) (list_all test xs) (each x (Contains-here x x xs refl)) (all_pass test xs (λ y h. each y (Contains-later x y xs h)))

-- ---- lists of numbers

ascend_of_rises : (bound : ℕ) (ns : List ℕ) → Rises (λ x y. x < y) ns → ((n : ℕ) → Contains ns n → bound ≤ n) → ascend_from bound ns ≡ true
ascend_of_rises bound [] up low = refl
ascend_of_rises bound (n ∷ ns) up low =
    and_from (nat_le bound n) (ascend_from (n + 1) ns) (le-leb bound n (low n (Contains-here n n ns refl)))
    (ascend_of_rises (n + 1) ns up.1 (λ m h. let lt = up.0 m h in omega arith))

pub ascend_of_increasing : (ns : List ℕ) → IsStrictlyIncreasing ns → ascend ns ≡ true
ascend_of_increasing ns up = ascend_of_rises 0 ns (rises_from_pairs (λ x y. x < y) ns (AllPairs-from_increasing ns up)) (λ n h. omega arith)

kept_formed : (A : Automaton) (mode : Mode) (kept : List ℕ) → IsAutomaton A → A.states ≤ 2048 → IsUsefulList A mode kept → are_kept kept ≡ true
kept_formed A mode kept valid states is =
    and_from (are_short kept) (ascend kept) (all_short kept (λ q h. let lt = useful_below A mode kept valid is.useful q h in omega arith)) (ascend_of_increasing kept is.ascending)

-- The class of a state is no greater than the state.
class_low : (classes : List ℕ) → AreClasses classes → (n q : ℕ) → q < n → q < length classes → class_of classes q ≤ q
class_low classes are zero q lt q_in = absurd (omega arith)
class_low classes are (suc n) q lt q_in = elim (cases_lt q (class_of classes q)) [
  | inl past ↦
      let (p, p_in, is) = are.in_order q q q_in past in
      let low : class_of classes p ≤ p = class_low classes are n p (omega arith) (omega arith) in
      absurd (omega arith)
  | inr le ↦ le
]

classes_formed : (classes : List ℕ) → AreClasses classes → length classes ≤ 2048 → are_classes classes ≡ true
classes_formed classes are few =
    let below : All (λ c. c < 1000000000) classes = All-from_get_or (λ c. c < 1000000000) classes 0 (λ q q_in. let low : class_of classes q ≤ q = class_low classes are (suc q) q (omega arith) q_in in omega arith) in
    and_from (are_short classes) (has_some classes) (all_short classes (λ c h. All-contains (λ c. c < 1000000000) classes c below h)) (lt-ltb 0 (length classes) are.some)

-- ---- a cut

-- A cut that changes something has something that goes.
some_goes : (A B : Automaton) (gone : List Gone) → IsAutomaton A → IsCut A (numbers_of_gone gone) B → (B ≡ A → ⊥) → 0 < length gone
some_goes A B [] valid cut changed = absurd (changed ((cut_nothing A B valid).0 cut))
some_goes A B (g ∷ gone) valid cut changed = omega arith

number_formed : (A : Automaton) (n : ℕ) (back ahead : ℕ → ℕ → Type 0) (g : Gone) → length A.transitions ≤ 65536 → IsLeastBetter A n back ahead g.trans g.by → is_gone (gone_and_better g) ≡ true
number_formed A n back ahead g few h =
    let first = h.better.is in
    let other = h.better.by in
    and_from (is_short g.trans) (is_short g.by) (lt-ltb g.trans 1000000000 (omega arith)) (lt-ltb g.by 1000000000 (omega arith))

gone_formed : (A : Automaton) (n k : ℕ) (gone : List Gone) (back ahead : Option Relation) → length A.transitions ≤ 65536 → IsCutOf A n k gone back ahead → 0 < length gone → are_gone (map gone_and_better gone) ≡ true
gone_formed A n k gone back ahead few is some =
    and_from (list_all is_gone (map gone_and_better gone)) (has_some (map gone_and_better gone) && ascend (gone_of (map gone_and_better gone)))
    (all_pass is_gone (map gone_and_better gone) numbers)
    (and_from (has_some (map gone_and_better gone)) (ascend (gone_of (map gone_and_better gone))) (not_empty gone some)
    (subst (λ l. ascend l ≡ true) (sym (gone_numbers gone)) (ascend_of_increasing (numbers_of_gone gone) is.least.ascending)))
  where
    numbers : (pair : GoneBy) → Contains (map gone_and_better gone) pair → is_gone pair ≡ true
    numbers pair h =
        let (g, there, same) = map_from gone_and_better gone pair h in
        let least = All-contains (λ (g : Gone). IsLeastBetter A n (Close (Holds (relation_pairs back))) (Close (Holds (relation_pairs ahead))) g.trans g.by) gone g is.least.each there in
        subst (λ x. is_gone x ≡ true) same (number_formed A n (Close (Holds (relation_pairs back))) (Close (Holds (relation_pairs ahead))) g few least)

    not_empty : (gone : List Gone) → 0 < length gone → has_some (map gone_and_better gone) ≡ true
    not_empty [] lt = absurd (omega arith)
    not_empty (g ∷ gone) lt = lt-ltb 0 (length (map gone_and_better (g ∷ gone))) (omega arith)

some_due : (n : ℕ) → IsPair n → nat_lt 0 (blocks_due n) ≡ true
some_due n (inl e) = subst (λ x. nat_lt 0 (blocks_due x) ≡ true) (sym e) refl
some_due n (inr (inl e)) = subst (λ x. nat_lt 0 (blocks_due x) ≡ true) (sym e) refl
some_due n (inr (inr (inl e))) = subst (λ x. nat_lt 0 (blocks_due x) ≡ true) (sym e) refl
some_due n (inr (inr (inr e))) = subst (λ x. nat_lt 0 (blocks_due x) ≡ true) (sym e) refl

look_formed : (k : ℕ) → k ≤ 6 → is_short k ≡ true
look_formed k few = lt-ltb k 1000000000 (omega arith)

cut_formed :
    (A : Automaton) (n k : ℕ) (gone : List Gone) (back ahead : Option Relation) (blocks : List RelBlock)
    → length A.transitions ≤ 65536
    → k ≤ 6
    → IsPair n
    → IsCutOf A n k gone back ahead
    → 0 < length gone
    → AreBlocksOf (given back ahead) blocks
    → is_first_step (first.Cut n k (map gone_and_better gone) blocks) ≡ true
cut_formed A n k gone back ahead blocks few low pair is some written =
    let are = cut_blocks A k n back ahead blocks pair is.is_back is.is_ahead written in
    and_from (nat_lt 0 (blocks_due n)) (is_short k && (are_gone (map gone_and_better gone) && ((length blocks == blocks_due n) && list_all is_block blocks))) (some_due n pair)
    (and_from (is_short k) (are_gone (map gone_and_better gone) && ((length blocks == blocks_due n) && list_all is_block blocks)) (look_formed k low)
    (and_from (are_gone (map gone_and_better gone)) ((length blocks == blocks_due n) && list_all is_block blocks) (gone_formed A n k gone back ahead few is some)
    (and_from (length blocks == blocks_due n) (list_all is_block blocks) (eq-eqb (length blocks) (blocks_due n) are.count) are.formed)))

-- ---- steps that are written

-- So many parts has an automaton that is small enough.
abbrev IsSmall : Automaton → Type 0
IsSmall A = (A.states ≤ 2048) × (length A.transitions ≤ 65536)

first_step_formed :
    (A B : Automaton) (mode : Mode) (sight : Foresight) (kind : Kind) (entry : Step) (t : FirstStep)
    → IsAutomaton A
    → IsSmall A
    → sight.look ≤ 6
    → Contains (kinds_of mode) kind
    → After A mode sight kind B
    → (B ≡ A → ⊥)
    → IsStepEntry A mode sight kind entry
    → IsFirstWritten entry t
    → is_first_step t ≡ true
first_step_formed A B mode sight Trim entry t valid small low listed after changed (kept, e, list) written =
    let is : t ≡ first.Trim kept = subst (λ s. IsFirstWritten s t) e written in
    subst (λ x. is_first_step x ≡ true) (sym is) (kept_formed A mode kept valid small.0 list)
first_step_formed A B mode sight Forward entry t valid small low listed after changed (rel, classes, e, merge) written =
    let is : t ≡ first.Merge classes = subst (λ s. IsFirstWritten s t) e written in
    let len = merge.joined.len in
    let few = small.0 in
    subst (λ x. is_first_step x ≡ true) (sym is) (classes_formed classes merge.joined.valid (omega arith))
first_step_formed A B mode sight Backward entry t valid small low listed after changed (rel, classes, e, merge) written =
    let is : t ≡ first.Merge classes = subst (λ s. IsFirstWritten s t) e written in
    let len = merge.joined.len in
    let few = small.0 in
    subst (λ x. is_first_step x ≡ true) (sym is) (classes_formed classes merge.joined.valid (omega arith))
first_step_formed A B mode sight Delayed entry t valid small low listed after changed (ranks, classes, e, merge) written =
    let is : t ≡ first.Merge classes = subst (λ s. IsFirstWritten s t) e written in
    let len = merge.joined.len in
    let few = small.0 in
    subst (λ x. is_first_step x ≡ true) (sym is) (classes_formed classes merge.joined.valid (omega arith))
first_step_formed A B mode sight (Prune n) entry t valid small low listed after changed (gone, back, ahead, e, cut) written =
    let (blocks, are, is) = subst (λ s. IsFirstWritten s t) e written in
    let some = some_goes A B gone valid (cut_leads A B n sight.look gone back ahead after cut) changed in
    subst (λ x. is_first_step x ≡ true) (sym is) (cut_formed A n sight.look gone back ahead blocks small.1 low (pair_listed mode n listed) cut some are)

-- A merge with its grounds.
merge_formed : (v : ℕ) (mode : Mode) (reason : Grounds) (classes : List ℕ) → AreClasses classes → length classes ≤ 2048 → are_grounds v mode reason ≡ true → is_second_step v mode (second.Merge reason classes) ≡ true
merge_formed v mode reason classes are few formed = and_from (are_classes classes) (are_grounds v mode reason) (classes_formed classes are few) formed

forward_formed : (v : ℕ) (mode : Mode) (k : ℕ) (block : RelBlock) → k ≤ 6 → is_block block ≡ true → are_grounds v mode (grounds.Forward k block) ≡ true
forward_formed v Buchi k block low formed = and_from (is_short k) (is_block block) (look_formed k low) formed
forward_formed v Finite k block low formed = and_from (is_short k) (is_block block) (look_formed k low) formed

backward_formed : (v : ℕ) (mode : Mode) (k : ℕ) (block : RelBlock) → k ≤ 6 → is_block block ≡ true → are_grounds v mode (grounds.Backward k block) ≡ true
backward_formed v Buchi k block low formed = and_from (is_short k) (is_block block) (look_formed k low) formed
backward_formed v Finite k block low formed = and_from (is_short k) (is_block block) (look_formed k low) formed

-- The letters that are asked for are 1 to 4, in version 1 one.
abbrev pub AreLettersFor : ℕ → ℕ → Type 0
AreLettersFor v letters = (1 ≤ letters) × (letters ≤ 4) × (((v ≡ 1) × (letters ≡ 1)) ⊎ (v ≡ 2))

letters_formed : (v : ℕ) (A : Automaton) (letters : ℕ) → AreLettersFor v letters → are_letters v (letters_for A letters) ≡ true
letters_formed v A letters (some, upto, inl (first, one)) =
    let least = letters_some A letters in
    let most = letters_within A letters some in
    subst (λ x. are_letters x (letters_for A letters) ≡ true) (sym first) (eq-eqb (letters_for A letters) 1 (omega arith))
letters_formed v A letters (some, upto, inr second) =
    let least = letters_some A letters in
    let most = letters_within A letters some in
    subst (λ x. are_letters x (letters_for A letters) ≡ true) (sym second)
    (and_from (nat_le 1 (letters_for A letters)) (nat_le (letters_for A letters) 4) (le-leb 1 (letters_for A letters) least) (le-leb (letters_for A letters) 4 (omega arith)))

delayed_formed : (v : ℕ) (mode : Mode) (letters : ℕ) (block : RankBlock) → Contains (kinds_of mode) Delayed → are_letters v letters ≡ true → is_rank_block letters block ≡ true → are_grounds v mode (grounds.Delayed letters block) ≡ true
delayed_formed v Buchi letters block listed fit formed = and_from (are_letters v letters) (is_rank_block letters block) fit formed
delayed_formed v Finite letters block listed fit formed = absurd (none_in_finite listed)

second_step_formed :
    (v : ℕ) (A B : Automaton) (mode : Mode) (sight : Foresight) (kind : Kind) (entry : Step) (t : SecondStep)
    → IsAutomaton A
    → IsSmall A
    → sight.look ≤ 6
    → AreLettersFor v sight.letters
    → Contains (kinds_of mode) kind
    → After A mode sight kind B
    → (B ≡ A → ⊥)
    → IsStepEntry A mode sight kind entry
    → IsSecondWritten entry t
    → is_second_step v mode t ≡ true
second_step_formed v A B mode sight Trim entry t valid small low fit listed after changed (kept, e, list) written =
    let is : t ≡ second.Trim kept = subst (λ s. IsSecondWritten s t) e written in
    subst (λ x. is_second_step v mode x ≡ true) (sym is) (kept_formed A mode kept valid small.0 list)
second_step_formed v A B mode sight Forward entry t valid small low fit listed after changed (rel, classes, e, merge) written =
    let (reason, (block, is_of, same), is) = subst (λ s. IsSecondWritten s t) e written in
    let len = merge.joined.len in
    let few = small.0 in
    subst (λ x. is_second_step v mode x ≡ true) (sym is) (merge_formed v mode reason classes merge.joined.valid (omega arith)
    (subst (λ g. are_grounds v mode g ≡ true) (sym same) (forward_formed v mode sight.look block low is_of.formed)))
second_step_formed v A B mode sight Backward entry t valid small low fit listed after changed (rel, classes, e, merge) written =
    let (reason, (block, is_of, same), is) = subst (λ s. IsSecondWritten s t) e written in
    let len = merge.joined.len in
    let few = small.0 in
    subst (λ x. is_second_step v mode x ≡ true) (sym is) (merge_formed v mode reason classes merge.joined.valid (omega arith)
    (subst (λ g. are_grounds v mode g ≡ true) (sym same) (backward_formed v mode sight.look block low is_of.formed)))
second_step_formed v A B mode sight Delayed entry t valid small low fit listed after changed (ranks, classes, e, merge) written =
    let (reason, (block, is_of, same), is) = subst (λ s. IsSecondWritten s t) e written in
    let len = merge.joined.len in
    let few = small.0 in
    subst (λ x. is_second_step v mode x ≡ true) (sym is) (merge_formed v mode reason classes merge.joined.valid (omega arith)
    (subst (λ g. are_grounds v mode g ≡ true) (sym same) (delayed_formed v mode ranks.letters block listed (subst (λ m. are_letters v m ≡ true) (sym merge.announced) (letters_formed v A sight.letters fit)) is_of.formed)))
second_step_formed v A B mode sight (Prune n) entry t valid small low fit listed after changed (gone, back, ahead, e, cut) written =
    let is : t ≡ second.Cut (numbers_of_gone gone) = subst (λ s. IsSecondWritten s t) e written in
    let some = some_goes A B gone valid (cut_leads A B n sight.look gone back ahead after cut) changed in
    let len = length-map gone (λ (g : Gone). g.trans) in
    let few = small.1 in
    let short : are_short (numbers_of_gone gone) ≡ true = all_short (numbers_of_gone gone)
    (λ x h. let lt = (listed_better A n (Close (Holds (relation_pairs back))) (Close (Holds (relation_pairs ahead))) gone cut.least x h).1.is in omega arith) in
    subst (λ x. is_second_step v mode x ≡ true) (sym is)
    (and_from (are_short (numbers_of_gone gone)) (has_some (numbers_of_gone gone) && ascend (numbers_of_gone gone)) short
    (and_from (has_some (numbers_of_gone gone)) (ascend (numbers_of_gone gone)) (lt-ltb 0 (length (numbers_of_gone gone)) (omega arith)) (ascend_of_increasing (numbers_of_gone gone) cut.least.ascending)))

small_on : (A B : Automaton) → IsNoLarger A B → A.states ≤ 2048 → length A.transitions ≤ 65536 → IsSmall B
small_on A B less states transitions =
    let fewer = less.states in
    let others = less.transitions in
    (omega arith, omega arith)

-- The steps of a small automaton's log are well-formed as those of a first log.
pub log_is_formed_first :
    (A B : Automaton) (mode : Mode) (sight : Foresight) (log : List Step) (steps : List FirstStep)
    → IsAutomaton A
    → A.states ≤ 2048
    → length A.transitions ≤ 65536
    → sight.look ≤ 6
    → IsLog A mode sight B log
    → AreFirstWritten log steps
    → list_all is_first_step steps ≡ true
log_is_formed_first A B mode sight log steps valid states transitions low is written = all_pass is_first_step steps each
  where
    each : (t : FirstStep) → Contains steps t → is_first_step t ≡ true
    each t h =
        let (entry, there, stands) = written_for Step FirstStep IsFirstWritten log steps written t h in
        let e = entry_of_log A B mode sight log valid is entry there in
        first_step_formed e.at e.next mode sight e.kind entry t e.valid (small_on A e.at e.no_larger states transitions) low e.listed e.after e.changed e.is stands

-- They are well-formed as those of a second log, in the mode of the reduction and a version that has the announced letters.
pub log_is_formed_second :
    (v : ℕ) (A B : Automaton) (mode : Mode) (sight : Foresight) (log : List Step) (steps : List SecondStep)
    → IsAutomaton A
    → A.states ≤ 2048
    → length A.transitions ≤ 65536
    → sight.look ≤ 6
    → AreLettersFor v sight.letters
    → IsLog A mode sight B log
    → AreSecondWritten log steps
    → list_all (is_second_step v mode) steps ≡ true
log_is_formed_second v A B mode sight log steps valid states transitions low fit is written = all_pass (is_second_step v mode) steps each
  where
    each : (t : SecondStep) → Contains steps t → is_second_step v mode t ≡ true
    each t h =
        let (entry, there, stands) = written_for Step SecondStep IsSecondWritten log steps written t h in
        let e = entry_of_log A B mode sight log valid is entry there in
        second_step_formed v e.at e.next mode sight e.kind entry t e.valid (small_on A e.at e.no_larger states transitions) low fit e.listed e.after e.changed e.is stands
