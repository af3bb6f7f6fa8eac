-- A reduction's log as it stands in a certificate: its steps one by one, what its blocks name, and where its steps lead.
use Rattle.std.proofs.Common.{◌≡◌, ◌↔◌, ◌⊎◌, ℕ, zero, suc, ◌<◌, inl, inr, Option, None, Some, true, ◌++◌, List, [], ◌∷◌, length, All, Contains, refl, sym, ap, ◌∙◌, subst, arith}
use Rattle.std.specs.List.{flat_map}
use Rattle.std.proofs.lemmas.Bool.{and_parts}
use Rattle.std.proofs.lemmas.List.{append-nil}
use Rattle.std.proofs.lemmas.List.Elements.{All-nil, All-cons, All-contains, All-from_recursion, Contains-get_or, Contains-append_left, Contains-append_right}
use Rattle.auto_core.specs.Automaton.{Automaton, IsAutomaton, trans_at}
use Rattle.auto_core.specs.Delayed.{RankedTriples, HoldsTriple, IsTripleWord, AreTriplesOf, AreStateRelated, rank_in_code}
use Rattle.auto_core.specs.Game.{Close, Holds, ArePairsBelow, IsGreatest, IsGreatestForward, IsGreatestBackward}
use Rattle.auto_core.specs.Pruning.{AtSource, AtTarget, HasBetter, IsCut, IsPruned, look_backward, look_forward}
use Rattle.auto_core.specs.Quotient.{IsQuotient}
use Rattle.auto_core.specs.Useful.{IsKeptPart, IsTrimmed}
use Rattle.auto_core.specs.declared.parts.Mode.{Mode}
use Rattle.auto_core.specs.declared.parts.Mode.TheVariants.{Buchi, Finite}
use Rattle.auto_core.proofs.PathLemmas.{Contains-here, Contains-later}
use Rattle.auto_core.proofs.MemberLemmas.{map_from, map_has}
use Rattle.bit_rel.specs.Relation.{Relation}
use Rattle.delayed_sim.specs.Rankings.{Ranking}
use Rattle.prune_pairs.specs.Least.{IsLeastBetter, AreLeastBetter, numbers_of_gone}
use Rattle.prune_pairs.specs.declared.removing.Gone.{Gone}
use Rattle.reduce_loop.specs.declared.steps.Foresight.{Foresight}
use Rattle.reduce_loop.specs.declared.steps.Kind.{Kind}
use Rattle.reduce_loop.specs.declared.steps.Kind.TheVariants.{Trim, Forward, Backward, Delayed, Prune}
use Rattle.reduce_loop.specs.declared.steps.Step.{Step}
use Rattle.reduce_loop.specs.Kinds.{kinds_of, AreDelayedPairs, IsMerged, After}
use Rattle.reduce_loop.specs.Logs.{IsUsefulList, IsMergeOf, IsDelayedMergeOf, IsBackOf, IsAheadOf, IsCutOf, IsStepEntry, LogThrough, LogPasses, pairs_given as relation_pairs}
use Rattle.reduce_loop.proofs.DelayedLemmas.{same_related}
use Rattle.reduce_loop.proofs.MergeLemmas.{same_classes, same_closure}
use Rattle.reduce_loop.proofs.StepLemmas.{after_valid}
use Rattle.useful_states.proofs.KeepLaws.{kept_by_members}
use Rattle.cert_value.specs.declared.types.RelBlock.{RelBlock}
use Rattle.cert_value.specs.declared.types.RankBlock.{RankBlock}
use Rattle.cert_value.specs.declared.types.RankRow.{RankRow}
use Rattle.cert_value.specs.declared.types.Ranked.{Ranked}
use Rattle.cert_value.specs.WellFormed.{is_short, are_rows, rank_key, is_rank_row, are_rank_rows}
use Rattle.log_check.specs.Blocks.{IsBlockBelow, triples_of_row, IsRankRowBelow, IsRankBlockBelow}
use Rattle.log_check.specs.Follows.{LogRules, StepFollows, Follows}
use Rattle.decide.specs.Written.{IsBlockOfPairs, IsRankBlockOf, AreWritten}
use Rattle.log_check.proofs.RowBoundLemmas.{rows_below}
use Rattle.decide.proofs.RankRowLemmas.{in_triple, some_ranked}

-- ---- lists that are written

-- Each element is one of those that the list has.
pub all_of_members : {X : Type 0} (P : X → Type 0) (xs : List X) → ((x : X) → Contains xs x → P x) → All P xs
all_of_members P xs each k d lt = each _ (Contains-get_or xs k d lt)

module _ (S T : Type 0) (W : S → T → Type 0) where
  -- What stands for a list with a first thing.
  pub record FirstOf (s : S) (ss : List S) (ts : List T) : Type 0 where
    pub one : T
    pub others : List T
    pub is : ts ≡ one ∷ others
    pub stands : W s one
    pub rest : AreWritten S T W ss others

  pub first_of : (s : S) (ss : List S) (ts : List T) → AreWritten S T W (s ∷ ss) ts → FirstOf s ss ts
  first_of s ss [] h = absurd h
  first_of s ss (t ∷ ts) h = record { one = t; others = ts; is = refl; stands = h.0; rest = h.1 }

-- ---- the steps of a log, one by one

module _
    (T : Type 0) (rules : LogRules T) (W : Step → T → Type 0) (mode : Mode) (sight : Foresight)
    (keeps : (A B : Automaton) (item : ℕ) (kind : Kind) (entry : Step) (t : T) → IsAutomaton A → Contains (kinds_of mode) kind → After A mode sight kind B → IsStepEntry A mode sight kind entry → W entry t → StepFollows T rules A item t B)
  where
    -- What is logged of some kinds of steps leads on, if what is logged after them does.
    follows_through :
        (kinds : List Kind) (A C D : Automaton) (now more : List Step) (ts : List T) (item : ℕ)
        → IsAutomaton A
        → ((kind : Kind) → Contains kinds kind → Contains (kinds_of mode) kind)
        → LogThrough A mode sight kinds C now
        → AreWritten Step T W (now ++ more) ts
        → ((n : ℕ) (us : List T) → IsAutomaton C → AreWritten Step T W more us → Follows T rules C n us D)
        → Follows T rules A item ts D
    follows_through [] A C D now more ts item valid listed (same, none) written onward =
        subst (λ X. Follows T rules X item ts D) same
        (onward item ts (subst IsAutomaton (sym same) valid) (subst (λ l. AreWritten Step T W (l ++ more) ts) none written))
    follows_through (kind ∷ kinds) A C D now more ts item valid listed (B, first, later, step, logged, rest, is) written onward =
        let valid_on : IsAutomaton B = after_valid A B mode sight kind step in
        let listed_on : (x : Kind) → Contains kinds x → Contains (kinds_of mode) x = λ x h. listed x (Contains-later kind x kinds h) in
        elim logged [
          | inl still ↦
              let all : now ++ more ≡ later ++ more = ap (λ l. l ++ more) (is ∙ ap (λ l. l ++ later) still.1) in
              subst (λ X. Follows T rules X item ts D) still.0
              (follows_through kinds B C D later more ts item valid_on listed_on rest (subst (λ l. AreWritten Step T W l ts) all written) onward)
          | inr changed ↦
              let (entry, is_entry, one) = changed.1 in
              let all : now ++ more ≡ entry ∷ (later ++ more) = ap (λ l. l ++ more) (is ∙ ap (λ l. l ++ later) one) in
              let w = first_of Step T W entry (later ++ more) ts (subst (λ l. AreWritten Step T W l ts) all written) in
              subst (λ l. Follows T rules A item l D) (sym w.is) (
                B,
                keeps A B item kind entry w.one valid (listed kind (Contains-here kind kind kinds refl)) step is_entry w.stands,
                follows_through kinds B C D later more w.others (suc item) valid_on listed_on rest w.rest onward,
              )
        ]

    follows_none : (A : Automaton) (item : ℕ) (ts : List T) → AreWritten Step T W [] ts → Follows T rules A item ts A
    follows_none A item [] h = refl
    follows_none A item (t ∷ ts) h = absurd h

    follows_passes : (n : ℕ) (A C : Automaton) (log : List Step) (ts : List T) (item : ℕ) → IsAutomaton A → LogPasses A mode sight n C log → AreWritten Step T W log ts → Follows T rules A item ts C
    follows_passes zero A C log ts item valid (same, last) written =
        subst (λ X. Follows T rules A item ts X) (sym same)
        (follows_through (kinds_of mode) A A A log [] ts item valid (λ kind h. h) last
        (subst (λ l. AreWritten Step T W l ts) (sym (append-nil log)) written)
        (λ m us ok rest. follows_none A m us rest))
    follows_passes (suc n) A C log ts item valid (B, now, later, first, changed, rest, is) written =
        follows_through (kinds_of mode) A B C now later ts item valid (λ kind h. h) first
        (subst (λ l. AreWritten Step T W l ts) is written)
        (λ m us ok behind. follows_passes n B C later us m ok rest behind)

    -- A log leads where the reduction led, if each of its entries keeps its rules and leads where the step led.
    pub log_follows : (A C : Automaton) (log : List Step) (ts : List T) (item : ℕ) → IsAutomaton A → ((n : ℕ) × LogPasses A mode sight n C log) → AreWritten Step T W log ts → Follows T rules A item ts C
    log_follows A C log ts item valid (n, passes) written = follows_passes n A C log ts item valid passes written

-- ---- blocks whose pairs are below a number

pub block_below : (n : ℕ) (S : List (ℕ × ℕ)) (block : RelBlock) → IsBlockOfPairs S block → ArePairsBelow n n S → IsBlockBelow n block
block_below n S block is range =
    rows_below n n 0 block.rows (and_parts (is_short (length block.rows)) (are_rows 0 block.rows) is.formed).1 (λ p q h. range p q (subst (λ l. Holds l p q) is.pairs h))

row_below :
    (n labels letters : ℕ) (row : RankRow) (rights : List Ranked)
    → row.rights ≡ rights
    → 0 < length rights
    → ((r : Ranked) → Contains rights r → IsTripleWord labels letters row.ahead × (row.left < n) × (r.right < n))
    → IsRankRowBelow n labels row
row_below n labels letters row [] same some each = absurd (omega arith)
row_below n labels letters row (r ∷ rights) same some each =
    let here = each r (Contains-here r r rights refl) in
    let all : All (λ (r : Ranked). r.right < n) (r ∷ rights) = all_of_members (λ (r : Ranked). r.right < n) (r ∷ rights) (λ s has. (each s has).2) in
    record { left = here.1; ahead = here.0.1; rights = subst (All (λ (r : Ranked). r.right < n)) (sym same) all }

rank_rows_below : (n labels letters : ℕ) (key : List ℕ) (rows : List RankRow) → are_rank_rows letters key rows ≡ true → AreTriplesOf n labels letters (flat_map triples_of_row rows) → All (IsRankRowBelow n labels) rows
rank_rows_below n labels letters key [] formed below = All-nil (IsRankRowBelow n labels)
rank_rows_below n labels letters key (row ∷ rows) formed below =
    let parts = and_parts (is_rank_row letters key row) (are_rank_rows letters (rank_key row) rows) formed in
    let some = (some_ranked letters key row parts.0).0 in
    All-cons (IsRankRowBelow n labels) row rows
    (row_below n labels letters row row.rights refl some (λ r has.
    below row.ahead row.left r.right (
      rank_in_code r.code,
      Contains-append_left (triples_of_row row) (flat_map triples_of_row rows) (row.left, row.ahead, r.right, rank_in_code r.code) (map_has (in_triple row.left row.ahead) row.rights r has),
    )))
    (rank_rows_below n labels letters (rank_key row) rows parts.1 (λ b p q h. below b p q (h.0, Contains-append_right (triples_of_row row) (flat_map triples_of_row rows) (p, b, q, h.0) h.1)))

pub rank_block_below : (n labels letters : ℕ) (X : RankedTriples) (block : RankBlock) → IsRankBlockOf letters X block → AreTriplesOf n labels letters X → IsRankBlockBelow n labels block
rank_block_below n labels letters X block is range =
    rank_rows_below n labels letters [] block.rows (and_parts (is_short (length block.rows)) (are_rank_rows letters [] block.rows) is.formed).1
    (λ b p q h. range b p q (subst (λ l. HoldsTriple l b p q) is.triples h))

-- ---- where a trim and a merge lead

pub trim_leads : (A B : Automaton) (mode : Mode) (kept : List ℕ) → IsTrimmed A mode B → IsUsefulList A mode kept → IsKeptPart A kept B
trim_leads A B mode kept (these, are, keeps) list =
    kept_by_members A these kept (λ q h. (list.useful q).1 ((are q).0 h)) (λ q h. (are q).1 ((list.useful q).0 h)) B keeps

-- A greatest list of pairs of a sort holds what another one holds.
pub greatest_same : (M : ℕ → ℕ → ℕ → Type 0) (ok : ℕ → ℕ → Type 0) (k n : ℕ) (S T : List (ℕ × ℕ)) → IsGreatest M M ok k n n S → IsGreatest M M ok k n n T → (p q : ℕ) → Holds S p q ↔ Holds T p q
greatest_same M ok k n S T s t p q = (λ h. t.has_each S s.in_range s.stable p q h, λ h. s.has_each T t.in_range t.stable p q h)

pub merge_leads :
    (A B : Automaton) (Greatest : List (ℕ × ℕ) → Type 0) (rel : Relation) (classes : List ℕ)
    → ((S T : List (ℕ × ℕ)) → Greatest S → Greatest T → (p q : ℕ) → Holds S p q ↔ Holds T p q)
    → IsMerged A Greatest B
    → IsMergeOf A Greatest rel classes
    → IsQuotient A classes B
merge_leads A B Greatest rel classes one m is =
    subst (λ c. IsQuotient A c B)
    (same_classes A.states (Close (Holds m.pairs)) (Close (Holds rel.pairs)) m.classes classes m.joined is.joined
    (same_closure (Holds m.pairs) (Holds rel.pairs) (one m.pairs rel.pairs m.greatest is.relation.greatest)))
    m.quotient

pub delayed_leads : (A B : Automaton) (n : ℕ) (ranks : Ranking) (classes : List ℕ) → IsMerged A (AreDelayedPairs A n) B → IsDelayedMergeOf A n ranks classes → IsQuotient A classes B
delayed_leads A B n ranks classes m is =
    let (X, x, held) = m.greatest in
    let to = same_related A n X ranks.triples x is.greatest in
    let related : ℕ → ℕ → Type 0 = AreStateRelated A.labels n ranks.triples in
    let same : (p q : ℕ) → Holds m.pairs p q ↔ related p q = λ p q. (λ h. (to p q).0 ((held p q).0 h), λ h. (held p q).1 ((to p q).1 h)) in
    subst (λ c. IsQuotient A c B)
    (same_classes A.states (Close (Holds m.pairs)) (Close related) m.classes classes m.joined is.joined (same_closure (Holds m.pairs) related same))
    m.quotient

-- ---- where a cut leads

-- The pair is one of the four.
abbrev pub IsPair : ℕ → Type 0
IsPair n = (n ≡ 1) ⊎ (n ≡ 2) ⊎ (n ≡ 3) ⊎ (n ≡ 4)

-- A pruning is by one of the four.
abbrev IsFine : Kind → Type 0
IsFine Trim = Unit {0}
IsFine Forward = Unit {0}
IsFine Backward = Unit {0}
IsFine Delayed = Unit {0}
IsFine (Prune n) = IsPair n

fine_kinds : (mode : Mode) → All IsFine (kinds_of mode)
fine_kinds Buchi = All-from_recursion IsFine (kinds_of Buchi) (tt, (tt, (tt, (tt, (inl refl, (inr (inl refl), (inr (inr (inl refl)), (inr (inr (inr refl)), tt))))))))
fine_kinds Finite = All-from_recursion IsFine (kinds_of Finite) (tt, (tt, (tt, (inl refl, (inr (inl refl), (inr (inr (inl refl)), (inr (inr (inr refl)), tt)))))))

pub pair_listed : (mode : Mode) (n : ℕ) → Contains (kinds_of mode) (Prune n) → IsPair n
pair_listed mode n h = All-contains IsFine (kinds_of mode) (Prune n) (fine_kinds mode) h

-- The relation that is given is the greatest one, where there is one.
pub back_greatest : (A : Automaton) (n k : ℕ) (back : Option Relation) → IsBackOf A n k back → ¬ (n ≡ 1) → IsGreatestBackward A (look_backward n k) (relation_pairs back)
back_greatest A n k None is wanted = absurd (is wanted)
back_greatest A n k (Some rel) is wanted = is.1.greatest

pub ahead_greatest : (A : Automaton) (n k : ℕ) (ahead : Option Relation) → IsAheadOf A n k ahead → ¬ (n ≡ 2) → IsGreatestForward A (look_forward n k) (relation_pairs ahead)
ahead_greatest A n k None is wanted = absurd (is wanted)
ahead_greatest A n k (Some rel) is wanted = is.1.greatest

-- What is better by relations that hold the same is better.
source_as : (n : ℕ) (R S : ℕ → ℕ → Type 0) → (¬ (n ≡ 1) → (p q : ℕ) → R p q ↔ S p q) → (p q : ℕ) → AtSource n R p q → AtSource n S p q
source_as n R S same p q (inl h) = inl h
source_as n R S same p q (inr (inl h)) = let to = same (λ e. let f = h.0 in omega arith) in inr (inl (h.0, ((to p q).0 h.1.0, λ b. h.1.1 ((to q p).1 b))))
source_as n R S same p q (inr (inr (inl h))) = let to = same (λ e. let f = h.0 in omega arith) in inr (inr (inl (h.0, (to p q).0 h.1)))
source_as n R S same p q (inr (inr (inr h))) = let to = same (λ e. let f = h.0 in omega arith) in inr (inr (inr (h.0, ((to p q).0 h.1.0, λ b. h.1.1 ((to q p).1 b)))))

target_as : (n : ℕ) (R S : ℕ → ℕ → Type 0) → (¬ (n ≡ 2) → (p q : ℕ) → R p q ↔ S p q) → (p q : ℕ) → AtTarget n R p q → AtTarget n S p q
target_as n R S same p q (inl h) = let to = same (λ e. let f = h.0 in omega arith) in inl (h.0, ((to p q).0 h.1.0, λ b. h.1.1 ((to q p).1 b)))
target_as n R S same p q (inr (inl h)) = inr (inl h)
target_as n R S same p q (inr (inr (inl h))) = let to = same (λ e. let f = h.0 in omega arith) in inr (inr (inl (h.0, ((to p q).0 h.1.0, λ b. h.1.1 ((to q p).1 b)))))
target_as n R S same p q (inr (inr (inr h))) = let to = same (λ e. let f = h.0 in omega arith) in inr (inr (inr (h.0, (to p q).0 h.1)))

better_as :
    (A : Automaton) (n : ℕ) (back ahead other_back other_ahead : List (ℕ × ℕ))
    → (¬ (n ≡ 1) → (p q : ℕ) → Holds back p q ↔ Holds other_back p q)
    → (¬ (n ≡ 2) → (p q : ℕ) → Holds ahead p q ↔ Holds other_ahead p q)
    → (t : ℕ)
    → HasBetter A n (Close (Holds back)) (Close (Holds ahead)) t
    → HasBetter A n (Close (Holds other_back)) (Close (Holds other_ahead)) t
better_as A n back ahead other_back other_ahead same_back same_ahead t (u, h) = (
  u,
  record {
    is = h.is;
    by = h.by;
    better = record {
      label = h.better.label;
      source = source_as n (Close (Holds back)) (Close (Holds other_back)) (λ w. same_closure (Holds back) (Holds other_back) (same_back w)) (trans_at A t).source (trans_at A u).source h.better.source;
      target = target_as n (Close (Holds ahead)) (Close (Holds other_ahead)) (λ w. same_closure (Holds ahead) (Holds other_ahead) (same_ahead w)) (trans_at A t).target (trans_at A u).target h.better.target;
    };
  },
)

pub listed_better : (A : Automaton) (n : ℕ) (back ahead : ℕ → ℕ → Type 0) (gone : List Gone) → AreLeastBetter A n back ahead gone → (t : ℕ) → Contains (numbers_of_gone gone) t → HasBetter A n back ahead t
listed_better A n back ahead gone are t h =
    let (g, there, is) = map_from (λ (g : Gone). g.trans) gone t h in
    let least = All-contains (λ (g : Gone). IsLeastBetter A n back ahead g.trans g.by) gone g are.each there in
    subst (HasBetter A n back ahead) is (g.by, least.better)

cut_by_members : (A B : Automaton) (gone other : List ℕ) → ((t : ℕ) → Contains gone t ↔ Contains other t) → IsCut A gone B → IsCut A other B
cut_by_members A B gone other same k = record {
  valid = k.valid;
  states = k.states;
  labels = k.labels;
  initial = k.initial;
  moves = λ p a q. (
    λ m. let (t, t_in, is, left) = (k.moves p a q).0 m in (t, t_in, is, λ h. left ((same t).1 h)),
    λ (t, t_in, is, left). (k.moves p a q).1 (t, t_in, is, λ h. left ((same t).0 h)),
  );
  accepting = k.accepting;
}

pub cut_leads : (A B : Automaton) (n k : ℕ) (gone : List Gone) (back ahead : Option Relation) → IsPruned A n k B → IsCutOf A n k gone back ahead → IsCut A (numbers_of_gone gone) B
cut_leads A B n k gone back ahead p is =
    let mine = relation_pairs back in
    let other = relation_pairs ahead in
    let same_back : ¬ (n ≡ 1) → (q r : ℕ) → Holds p.back q r ↔ Holds mine q r = λ w. greatest_same _ _ (look_backward n k) A.states p.back mine (p.greatest_back w) (back_greatest A n k back is.is_back w) in
    let same_ahead : ¬ (n ≡ 2) → (q r : ℕ) → Holds p.ahead q r ↔ Holds other q r = λ w. greatest_same _ _ (look_forward n k) A.states p.ahead other (p.greatest_ahead w) (ahead_greatest A n k ahead is.is_ahead w) in
    cut_by_members A B p.gone (numbers_of_gone gone)
    (λ t. (
      λ h. is.least.all t (better_as A n p.back p.ahead mine other same_back same_ahead t ((p.removable t).0 h)),
      λ h. (p.removable t).1 (better_as A n mine other p.back p.ahead
          (λ w q r. let s = same_back w q r in (s.1, s.0)) (λ w q r. let s = same_ahead w q r in (s.1, s.0)) t
          (listed_better A n (Close (Holds mine)) (Close (Holds other)) gone is.least t h)),
    )) p.cut
