-- Lists whose things stand for those of others, one by one.
use Rattle.std.proofs.Common.{◌≡◌, ℕ, ◌+◌, ◌<◌, ◌≤◌, Option, None, Some, List, [], ◌∷◌, ◌++◌, length, map, take, slice_index_or, refl, sym, ap, ◌∙◌, subst, take_all, arith, zero-add}
use Rattle.std.specs.List.{flat_map}
use Rattle.std.proofs.lemmas.Bool.{and_from, lt-ltb}
use Rattle.std.proofs.lemmas.List.{take_more}
use Rattle.auto_core.specs.Game.{Holds, ArePairsBelow}
use Rattle.bit_rel.specs.Relation.{Relation, ArePairsAscending}
use Rattle.bit_rel.proofs.PairLemmas.{same_pairs}
use Rattle.cert_value.specs.declared.types.RelBlock.{RelBlock}
use Rattle.cert_value.specs.declared.types.Row.{Row}
use Rattle.cert_value.specs.WellFormed.{is_short, are_rows}
use Rattle.log_check.specs.Blocks.{pairs_of_row}
use Rattle.log_check.specs.Rows.{HoldsFrom, AreRows}
use Rattle.log_check.proofs.RowLemmas.{rows_ascend}
use Rattle.decide.specs.Written.{IsBlockOfPairs, AreWritten, AreBlocksOf, given}
use Rattle.decide.specs.Logs.{one_given}

pub written_join : (S T : Type 0) (W : S → T → Type 0) (ss more : List S) (ts others : List T) → AreWritten S T W ss ts → AreWritten S T W more others → AreWritten S T W (ss ++ more) (ts ++ others)
written_join S T W [] more [] others a b = b
written_join S T W [] more (t ∷ ts) others a b = absurd a
written_join S T W (s ∷ ss) more [] others a b = absurd a
written_join S T W (s ∷ ss) more (t ∷ ts) others a b = (a.0, written_join S T W ss more ts others a.1 b)

-- The first k things stand for those of the list, and so does the next one.
pub written_more : (S T : Type 0) (W : S → T → Type 0) (ss : List S) (k : ℕ) (d : S) (ts new : List T) (t : T) → k < length ss → AreWritten S T W (take k ss) ts → W (slice_index_or ss k d) t → new ≡ ts ++ t ∷ [] → AreWritten S T W (take (k + 1) ss) new
written_more S T W ss k d ts new t lt a b e =
    subst (AreWritten S T W (take (k + 1) ss)) (sym e)
    (subst (λ l. AreWritten S T W l (ts ++ t ∷ [])) (sym (take_more ss k d lt))
    (written_join S T W (take k ss) (slice_index_or ss k d ∷ []) ts (t ∷ []) a (b, tt)))

pub written_all : (S T : Type 0) (W : S → T → Type 0) (ss : List S) (k : ℕ) (ts : List T) → length ss ≤ k → AreWritten S T W (take k ss) ts → AreWritten S T W ss ts
written_all S T W ss k ts all a = subst (λ l. AreWritten S T W l ts) (take_all k ss all) a

-- One more of a copy.
pub copied_more : {S T : Type 0} (f : S → T) (ss : List S) (k : ℕ) (d : S) (made new : List T) (t : T) → k < length ss → made ≡ map f (take k ss) → t ≡ f (slice_index_or ss k d) → new ≡ made ++ t ∷ [] → new ≡ map f (take (k + 1) ss)
copied_more f ss k d made new t lt before is e =
    e
    ∙ ap (λ l. l ++ t ∷ []) before
    ∙ ap (λ x. map f (take k ss) ++ x ∷ []) is
    ∙ sym (map_behind (take k ss) (slice_index_or ss k d))
    ∙ ap (map f) (sym (take_more ss k d lt))
  where
    map_behind : (xs : List _) (x : _) → map f (xs ++ x ∷ []) ≡ map f xs ++ f x ∷ []
    map_behind [] x = refl
    map_behind (y ∷ xs) x = ap (λ l. f y ∷ l) (map_behind xs x)

-- All rows are the block of the relation.
pub rows_are_block : (S : List (ℕ × ℕ)) (n : ℕ) (rows : List Row) → n ≤ 2048 → ArePairsBelow n n S → ArePairsAscending S → AreRows (HoldsFrom S 0 n) n rows → IsBlockOfPairs S (record { rows = rows })
rows_are_block S n rows small range ascending are = record {
  formed = and_from (is_short (length rows)) (are_rows 0 rows) (lt-ltb (length rows) 1000000000 (let few = are.few in omega arith)) are.formed;
  pairs = same_pairs (flat_map pairs_of_row rows) S (rows_ascend 0 rows are.formed) ascending
      (λ z has. subst (Holds S z.0) (zero-add z.1) ((are.has z.0 z.1).0 has).1.1)
      (λ z has. let (left, right) = range z.0 z.1 has in (are.has z.0 z.1).1 (left, (right, subst (Holds S z.0) (sym (zero-add z.1)) has)));
}

-- Blocks of relations that may be given.
pub blocks_more : (blocks new : List RelBlock) (block : RelBlock) (R : Relation) → IsBlockOfPairs R.pairs block → new ≡ blocks ++ block ∷ [] → (before : List Relation) → AreBlocksOf before blocks → AreBlocksOf (before ++ R ∷ []) new
blocks_more blocks new block R is e before are =
    subst (AreBlocksOf (before ++ R ∷ [])) (sym e)
    (written_join Relation RelBlock (λ (R : Relation) block. IsBlockOfPairs R.pairs block) before (R ∷ []) blocks (block ∷ []) are (is, tt))

pub given_are : (back ahead : Option Relation) → ([] ++ one_given back) ++ one_given ahead ≡ given back ahead
given_are None None = refl
given_are None (Some ahead) = refl
given_are (Some back) None = refl
given_are (Some back) (Some ahead) = refl
