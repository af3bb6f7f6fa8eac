-- A table with no answers.
use Rattle.std.proofs.Common.{◌≡◌, ℕ, List, [], ◌∷◌, ◌++◌, Option, None, subst, inl, inr, arith}
use Rattle.std.specs.Prelude.{Some}
use Rattle.auto_core.specs.Outcome.{At}
use Rattle.auto_laws.proofs.PlaceLemmas.{at_cases, at_within}
use Rattle.shared_graphs.specs.declared.memo.Noted.{Noted}
use Rattle.shared_graphs.specs.Memo.{NothingTold, TellsNothingNew, HasNoted}

pub none_yet : (told : List (Option Noted)) → told ≡ [] → NothingTold told
none_yet told none k t is = let within = at_within [] k (Some t) (subst (λ l. At l k (Some t)) none is) in absurd (omega arith)

pub none_more : (old now : List (Option Noted)) → now ≡ old ++ None ∷ [] → NothingTold old → NothingTold now
none_more old now is nothing k t t_is = elim (at_cases old None k (Some t) (subst (λ l. At l k (Some t)) is t_is)) [
  | inl was ↦ nothing k t was
  | inr new ↦ absurd (differs new.1)
]
  where
    differs : Some t ≡ None → ⊥
    differs e = cc

-- The answers of one table noted in another.
pub no_other_yet : (old now : List (Option Noted)) → NothingTold now → TellsNothingNew old now
no_other_yet old now nothing k t is = absurd (nothing k t is)

pub no_other_more :
    (old now new : List (Option Noted)) (place : ℕ) (told : Noted)
    → At old place (Some told)
    → HasNoted told.first told.second told.answer now new
    → TellsNothingNew old now
    → TellsNothingNew old new
no_other_more old now new place told here noted none k t is = elim (noted k t is) [
  | inl was ↦ none k t was
  | inr one ↦ (place, told, here, one.0, one.1, one.2)
]
