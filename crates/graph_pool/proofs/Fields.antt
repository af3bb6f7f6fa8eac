-- The owner of the segments has one field of no bytes, and a start one pointer. Assumes `Logic`.
use mathlib.Core.Path.{◌≡◌, refl, subst}
use mathlib.Core.List.{List, [], ◌∷◌, ◌++◌}
use seplogic.Ra.Ura.{Ura}
use mir.Val.{Val, vstruct, vcons, vnil, of_list}
use base.Logic.{ent, emp}
use types.Logic.{Logic, sem}
use types.Kit.{Item, Goal, Seq, Step, step, ‵, ◌$◌, drop as skip, fsplit, fjoin, fpick, fpack, feq_i, feq_l}
use denote.RattleType.{RattleType, Valss}
use denote.RawPtr.{Ptr, RawPtr, ptr_val}
use denote.Shadow.{makes_shadow}
use denote.Steps.{nothing}
use denote.Struct.Declared as Declared
use denote.Struct.Owning.{shape}
use denote.Struct.Struct.{Shape, Struct, within}
use Rattle.std_alloc.proofs.RcSteps.{word}
use Rattle.graph_pool.specs.contracts.segments.Segments as owner
use Rattle.graph_pool.specs.contracts.segments.Start as start

-- The field of `Segments`.
abbrev pub Blank : RattleType
Blank = Struct (shape owner.the_type)

abbrev pub blank : Val
blank = vstruct (vcons (vstruct vnil) vnil)

pub blank_made : {M : Type 1} {𝓤 : Ura M} (𝓛 : Logic 𝓤) → ent 𝓤 (emp 𝓤) (sem 𝓛 (Blank.own_val (tt, tt) (blank ∷ [])))
blank_made 𝓛 = makes_shadow 𝓛 (Blank.own_val (tt, tt) (blank ∷ [])) (λ vss. (tt, ((λ uss. (tt, tt)), tt))) ((vstruct vnil ∷ [], tt), (refl, ((tt, (refl, tt)), tt)))

-- The shape of `Start`.
abbrev one_word : Shape
one_word = Declared.shape start.the_type

module _ {M : Type 1} {𝓤 : Ura M} {𝓛 : Logic 𝓤} {K : Type 0} {Γ : List (Item 𝓤)} {G : Goal 𝓤 𝓛.H} where
  -- A start is the machine's word of its pointer.
  pub start_had : K → (p : Ptr) (vs : List Val) → (vs ≡ word p ∷ [] → Seq K 𝓛 Γ G) → Seq K 𝓛 (‵ ((Struct one_word).own_val (p, tt) vs) ∷ Γ) G
  start_had t p vs then =
      fpick t (λ vss. fsplit t $ feq_l t (λ whole. fsplit t $ feq_l t (λ field. skip t $
      then (subst (λ (ws : List Val). vs ≡ vstruct (of_list (ws ++ [])) ∷ []) field whole))))

  pub start_made : K → (p : Ptr) → Step K 𝓛 (‵ ((Struct one_word).own_val (p, tt) (word p ∷ [])) ∷ Γ) G Γ G
  start_made t p = step (λ rest.
      nothing t $ feq_i t (List Val) (ptr_val p ∷ []) (ptr_val p ∷ []) refl $ fjoin t $
      feq_i t (List Val) (word p ∷ []) (word p ∷ []) refl $ fjoin t $ fpack t (Valss (RawPtr ∷ [])) (within one_word (p, tt) (word p ∷ [])) (ptr_val p ∷ [], tt) $ rest)
