-- Segments as what is owned: one or two are taken out of all and put back, and a run of words is cut into segments and made of them again. Assumes `Logic`.
--     segment_out, segment_in, pair_out, pair_in, segment_seen      one segment, and two
--     segments_cut, segments_glue      the front and the rest of the segments
--     laid_out, side_by_side      a run of words as segments side by side
--     of_slots, to_slots      a run of words as a full row of slots
use Rattle.std.specs.Prelude.{◌≢◌}
use Rattle.std.specs.List.{concat}
use mathlib.Core.Bool.{Bool, true, false}
use mathlib.Core.Path.{◌≡◌, refl, sym, ap, ◌∙◌}
use Prim.Native.Nat.{ℕ, zero, suc, ◌+◌, ◌*◌, ◌<◌, ◌^◌}
use native.Mathlib.Omega.{arith}
use native.Mathlib.Nat.{suc-mul, zero-mul}
use mathlib.Core.List.{List, [], ◌∷◌, ◌++◌}
use lib.ListN.{length, take, drop, set, replicate, get_or, length-append, take-append-drop, length-take, length-drop}
use seplogic.Ra.Ura.{Ura}
use base.Logic.{ent, sep, via, id⊢, mono_r}
use base.Fml.{Lft, Fml, ftrue, fsep}
use types.Logic.{Logic, sem}
use types.Kit.{‵, ◌⊛◌, ◌$◌, ◌∵◌, !, qed, done, by, move, keep, drop as skip, use1, use2, use3, split, fsplit, fjoin, flt_i, frame, rewrite}
use types.SemTy.{cells}
use denote.Builtin.{u64}
use denote.Index.{whole_in, whole_out}
use denote.Memory.{mem}
use denote.RawPtr.{Ptr, block_ptr, null_ptr}
use denote.Steps.{nothing}
use Rattle.core.specs.Mem.Slots.Ownership.{slots}
use Rattle.core.proofs.mem.Param.{El, R}
use Rattle.core.proofs.slots.Places.{of_row, to_row}
use Rattle.graph_pool.specs.Segments.{Segment, segment_at, moved, segments_from, even_parts}
use Rattle.graph_pool.specs.Ownership.{words_lent, segment_own, segments_own, segments_lent}
use Rattle.graph_pool.proofs.Sharing.{word_laws}

-- All segments but the i-th.
abbrev pub Others : List Segment → ℕ → Fml
Others [] i = ftrue
Others (r ∷ rs) zero = segments_own rs
Others (r ∷ rs) (suc i) = fsep (segment_own r) (Others rs i)

-- All segments but the i-th and the j-th.
abbrev pub ButTwo : List Segment → ℕ → ℕ → Fml
ButTwo [] i j = ftrue
ButTwo (r ∷ rs) zero zero = ftrue
ButTwo (r ∷ rs) zero (suc j) = Others rs j
ButTwo (r ∷ rs) (suc i) zero = Others rs i
ButTwo (r ∷ rs) (suc i) (suc j) = fsep (segment_own r) (ButTwo rs i j)

-- The type of the words.
abbrev pub words_type : El
words_type = record { row = u64; laws = word_laws }

module _ {M : Type 1} {𝓤 : Ura M} (𝓛 : Logic 𝓤) where
  open 𝓛 use {H}

  pub segment_out : (rs : List Segment) (i : ℕ) → i < length rs → ent 𝓤 (sem 𝓛 (segments_own rs)) (sep 𝓤 (sem 𝓛 (segment_own (segment_at rs i))) (sem 𝓛 (Others rs i)))
  segment_out [] i low = absurd (omega arith)
  segment_out (r ∷ rs) zero low = id⊢ 𝓤 _
  segment_out (r ∷ rs) (suc i) low = qed 𝓛 (‵ (segments_own (r ∷ rs)) ∷ []) ∵ fsplit ! $ move ! (1 ∷ []) $
      use1 𝓛 (‵ (segment_own (segment_at rs i)) ⊛ ‵ (Others rs i)) (segment_out rs i (omega arith)) $ split ! $ frame ! $ move ! (1 ∷ 0 ∷ []) $ fjoin ! $ done !

  pub segment_in : (rs : List Segment) (i : ℕ) (x : Segment) → i < length rs → ent 𝓤 (sep 𝓤 (sem 𝓛 (segment_own x)) (sem 𝓛 (Others rs i))) (sem 𝓛 (segments_own (set rs i x)))
  segment_in [] i x low = absurd (omega arith)
  segment_in (r ∷ rs) zero x low = id⊢ 𝓤 _
  segment_in (r ∷ rs) (suc i) x low = qed 𝓛 (‵ (segment_own x) ∷ ‵ (Others (r ∷ rs) (suc i)) ∷ []) ∵ move ! (1 ∷ []) $ fsplit ! $ move ! (2 ∷ 1 ∷ []) $
      use2 𝓛 (‵ (segments_own (set rs i x))) (segment_in rs i x (omega arith)) $ move ! (1 ∷ 0 ∷ []) $ fjoin ! $ done !

  pub pair_out : (rs : List Segment) (i j : ℕ) → i ≢ j → i < length rs → j < length rs
      → ent 𝓤 (sem 𝓛 (segments_own rs)) (sep 𝓤 (sem 𝓛 (segment_own (segment_at rs i))) (sep 𝓤 (sem 𝓛 (segment_own (segment_at rs j))) (sem 𝓛 (ButTwo rs i j))))
  pair_out [] i j apart low below = absurd (omega arith)
  pair_out (r ∷ rs) zero zero apart low below = absurd (apart refl)
  pair_out (r ∷ rs) zero (suc j) apart low below = mono_r 𝓤 (sem 𝓛 (segment_own r)) (segment_out rs j (omega arith))
  pair_out (r ∷ rs) (suc i) zero apart low below = qed 𝓛 (‵ (segments_own (r ∷ rs)) ∷ []) ∵ fsplit ! $ move ! (1 ∷ []) $
      use1 𝓛 (‵ (segment_own (segment_at rs i)) ⊛ ‵ (Others rs i)) (segment_out rs i (omega arith)) $ split ! $ frame ! $ move ! (1 ∷ []) $ done !
  pair_out (r ∷ rs) (suc i) (suc j) apart low below = qed 𝓛 (‵ (segments_own (r ∷ rs)) ∷ []) ∵ fsplit ! $ move ! (1 ∷ []) $
      use1 𝓛 (‵ (segment_own (segment_at rs i)) ⊛ ‵ (segment_own (segment_at rs j)) ⊛ ‵ (ButTwo rs i j)) (pair_out rs i j (λ e. apart (ap suc e)) (omega arith) (omega arith)) $
      split ! $ frame ! $ split ! $ frame ! $ move ! (1 ∷ 0 ∷ []) $ fjoin ! $ done !

  pub pair_in : (rs : List Segment) (i j : ℕ) (x : Segment) → i ≢ j → i < length rs → j < length rs
      → ent 𝓤 (sep 𝓤 (sem 𝓛 (segment_own (segment_at rs i))) (sep 𝓤 (sem 𝓛 (segment_own x)) (sem 𝓛 (ButTwo rs i j)))) (sem 𝓛 (segments_own (set rs j x)))
  pair_in [] i j x apart low below = absurd (omega arith)
  pair_in (r ∷ rs) zero zero x apart low below = absurd (apart refl)
  pair_in (r ∷ rs) zero (suc j) x apart low below = mono_r 𝓤 (sem 𝓛 (segment_own r)) (segment_in rs j x (omega arith))
  pair_in (r ∷ rs) (suc i) zero x apart low below =
      qed 𝓛 (‵ (segment_own (segment_at rs i)) ∷ ‵ (segment_own x) ∷ ‵ (Others rs i) ∷ []) ∵ move ! (0 ∷ 2 ∷ []) $
      use2 𝓛 (‵ (segments_own (set rs i (segment_at rs i)))) (segment_in rs i (segment_at rs i) (omega arith)) $
      rewrite ! 0 (λ (l : List Segment). ‵ (segments_own l)) (same rs i) refl $ move ! (1 ∷ 0 ∷ []) $ fjoin ! $ done !
    where
      same : (l : List Segment) (k : ℕ) → set l k (segment_at l k) ≡ l
      same [] k = refl
      same (y ∷ l) zero = refl
      same (y ∷ l) (suc k) = ap (λ (t : List Segment). y ∷ t) (same l k)
  pair_in (r ∷ rs) (suc i) (suc j) x apart low below =
      qed 𝓛 (‵ (segment_own (segment_at rs i)) ∷ ‵ (segment_own x) ∷ ‵ (ButTwo (r ∷ rs) (suc i) (suc j)) ∷ []) ∵ move ! (2 ∷ []) $ fsplit ! $ move ! (2 ∷ 3 ∷ 1 ∷ []) $
      use3 𝓛 (‵ (segments_own (set rs j x))) (pair_in rs i j x (λ e. apart (ap suc e)) (omega arith) (omega arith)) $ move ! (1 ∷ 0 ∷ []) $ fjoin ! $ done !

  pub segment_seen : (κ : Lft) (rs : List Segment) (i : ℕ) → i < length rs → ent 𝓤 (sem 𝓛 (segments_lent rs κ)) (sem 𝓛 (words_lent (segment_at rs i).0 (segment_at rs i).1 κ))
  segment_seen κ [] i low = absurd (omega arith)
  segment_seen κ (r ∷ rs) zero low = qed 𝓛 (‵ (segments_lent (r ∷ rs) κ) ∷ []) ∵ fsplit ! $ keep ! (0 ∷ []) $ done !
  segment_seen κ (r ∷ rs) (suc i) low = qed 𝓛 (‵ (segments_lent (r ∷ rs) κ) ∷ []) ∵ fsplit ! $ skip ! $ by ! (segment_seen κ rs i (omega arith))

  pub segments_cut : (xs ys : List Segment) → ent 𝓤 (sem 𝓛 (segments_own (xs ++ ys))) (sep 𝓤 (sem 𝓛 (segments_own xs)) (sem 𝓛 (segments_own ys)))
  segments_cut [] ys = qed 𝓛 (‵ (segments_own ys) ∷ []) ∵ nothing ! $ done !
  segments_cut (x ∷ xs) ys = qed 𝓛 (‵ (segments_own (x ∷ xs ++ ys)) ∷ []) ∵ fsplit ! $ move ! (1 ∷ []) $
      use1 𝓛 (‵ (segments_own xs) ⊛ ‵ (segments_own ys)) (segments_cut xs ys) $ split ! $ move ! (2 ∷ 0 ∷ []) $ fjoin ! $ done !

  pub segments_glue : (xs ys : List Segment) → ent 𝓤 (sep 𝓤 (sem 𝓛 (segments_own xs)) (sem 𝓛 (segments_own ys))) (sem 𝓛 (segments_own (xs ++ ys)))
  segments_glue [] ys = qed 𝓛 (‵ ftrue ∷ ‵ (segments_own ys) ∷ []) ∵ skip ! $ done !
  segments_glue (x ∷ xs) ys = qed 𝓛 (‵ (segments_own (x ∷ xs)) ∷ ‵ (segments_own ys) ∷ []) ∵ fsplit ! $ move ! (1 ∷ 2 ∷ []) $
      use2 𝓛 (‵ (segments_own (xs ++ ys))) (segments_glue xs ys) $ move ! (1 ∷ 0 ∷ []) $ fjoin ! $ done !

  module _ (b : ℕ) where
    abbrev Run : List ℕ → ℕ → Fml
    Run ws o = cells (mem u64) ws b o

    run_cut : (xs ys : List ℕ) (o at : ℕ) → at ≡ length xs * 8 + o → ent 𝓤 (sem 𝓛 (Run (xs ++ ys) o)) (sep 𝓤 (sem 𝓛 (Run xs o)) (sem 𝓛 (Run ys at)))
    run_cut [] ys o at e = qed 𝓛 (‵ (Run ys o) ∷ []) ∵ rewrite ! 0 (λ (k : ℕ). ‵ (Run ys k)) {x = at} (omega arith) refl $ nothing ! $ done !
    run_cut (x ∷ xs) ys o at e =
        let further : at ≡ suc (length xs) * 8 + o = e in
        qed 𝓛 (‵ (Run (x ∷ xs ++ ys) o) ∷ []) ∵ fsplit ! $ move ! (1 ∷ []) $ use1 𝓛 (‵ (Run xs (o + 8)) ⊛ ‵ (Run ys at)) (run_cut xs ys (o + 8) at (omega arith)) $ split ! $ move ! (2 ∷ 0 ∷ []) $ fjoin ! $ done !

    run_glue : (xs ys : List ℕ) (o at : ℕ) → at ≡ length xs * 8 + o → ent 𝓤 (sep 𝓤 (sem 𝓛 (Run xs o)) (sem 𝓛 (Run ys at))) (sem 𝓛 (Run (xs ++ ys) o))
    run_glue [] ys o at e = qed 𝓛 (‵ ftrue ∷ ‵ (Run ys at) ∷ []) ∵ skip ! $ rewrite ! 0 (λ (k : ℕ). ‵ (Run ys k)) {x = o} (omega arith) refl $ done !
    run_glue (x ∷ xs) ys o at e =
        let further : at ≡ suc (length xs) * 8 + o = e in
        qed 𝓛 (‵ (Run (x ∷ xs) o) ∷ ‵ (Run ys at) ∷ []) ∵ fsplit ! $ move ! (1 ∷ 2 ∷ []) $ use2 𝓛 (‵ (Run (xs ++ ys) (o + 8))) (run_glue xs ys (o + 8) at (omega arith)) $ move ! (1 ∷ 0 ∷ []) $ fjoin ! $ done !

    -- a run of words, as segments side by side
    pub laid_out : (size count : ℕ) (ws : List ℕ) (o : ℕ) → length ws ≡ count * size → length ws * 8 < 2 ^ 63
        → ent 𝓤 (sem 𝓛 (Run ws o)) (sem 𝓛 (segments_own (segments_from (block_ptr b o) (size * 8) (even_parts size count ws))))
    laid_out size zero ws o long small = qed 𝓛 (‵ (Run ws o) ∷ []) ∵ keep ! [] $ done !
    laid_out size (suc n) ws o long small =
        let all : length ws ≡ n * size + size = long ∙ suc-mul n size in
        let front : length (take size ws) ≡ size = omega (arith, length-take size ws) in
        let back : length (drop size ws) ≡ n * size = omega (arith, length-drop size ws) in
        qed 𝓛 (‵ (Run ws o) ∷ []) ∵ rewrite ! 0 (λ (l : List ℕ). ‵ (Run l o)) (sym (take-append-drop size ws)) refl $
        use1 𝓛 (‵ (Run (take size ws) o) ⊛ ‵ (Run (drop size ws) (size * 8 + o))) (run_cut (take size ws) (drop size ws) o (size * 8 + o) (ap (λ k. k * 8 + o) (sym front))) $ split ! $
        flt_i ! (length (take size ws) * 8) (2 ^ 63) (omega arith) $ fjoin ! $ move ! (1 ∷ []) $
        use1 𝓛 (‵ (segments_own (segments_from (block_ptr b (size * 8 + o)) (size * 8) (even_parts size n (drop size ws))))) (laid_out size n (drop size ws) (size * 8 + o) back (omega arith)) $
        move ! (1 ∷ 0 ∷ []) $ fjoin ! $ done !

    -- segments side by side, as a run of words
    pub side_by_side : (size : ℕ) (wss : List (List ℕ)) (o : ℕ) → ((i : ℕ) → i < length wss → length (get_or wss i []) ≡ size)
        → ent 𝓤 (sem 𝓛 (segments_own (segments_from (block_ptr b o) (size * 8) wss))) (sem 𝓛 (Run (concat wss) o))
    side_by_side size [] o even = id⊢ 𝓤 _
    side_by_side size (ws ∷ wss) o even =
        let first : length ws ≡ size = even 0 (omega arith) in
        qed 𝓛 (‵ (segments_own (segments_from (block_ptr b o) (size * 8) (ws ∷ wss))) ∷ []) ∵ fsplit ! $ fsplit ! $ skip ! $ move ! (1 ∷ []) $
        use1 𝓛 (‵ (Run (concat wss) (size * 8 + o))) (side_by_side size wss (size * 8 + o) (λ i low. even (suc i) (omega arith))) $
        move ! (1 ∷ 0 ∷ []) $ by ! (run_glue ws (concat wss) o (size * 8 + o) (ap (λ k. k * 8 + o) (sym first)))

    abbrev Full : List ℕ → List Bool → ℕ → Fml
    Full ws fs o = slots (R words_type) (block_ptr b o) ws fs

    -- a full row of slots, as a run of words
    pub of_slots : (ws : List ℕ) (fs : List Bool) (o : ℕ) → length fs ≡ length ws → ((k : ℕ) → k < length fs → get_or fs k false ≡ true) → ent 𝓤 (sem 𝓛 (Full ws fs o)) (sem 𝓛 (Run ws o))
    of_slots ws fs o long full = via 𝓤 _ (to_row words_type 𝓛 b ws fs o long full) (whole_in 𝓛 (R words_type) ws b o)

    pub to_slots : (ws : List ℕ) (o : ℕ) → ent 𝓤 (sem 𝓛 (Run ws o)) (sem 𝓛 (Full ws (replicate (length ws) true) o))
    to_slots ws o = via 𝓤 _ (whole_out 𝓛 (R words_type) ws b o) (of_row words_type 𝓛 b ws o)

-- As many words as the segments have in all.
pub length-side_by_side : (size : ℕ) (wss : List (List ℕ)) → ((i : ℕ) → i < length wss → length (get_or wss i []) ≡ size) → length (concat wss) ≡ length wss * size
length-side_by_side size [] even = sym (zero-mul size)
length-side_by_side size (ws ∷ wss) even =
    let first : length ws ≡ size = even 0 (omega arith) in
    let others = length-side_by_side size wss (λ i low. even (suc i) (omega arith)) in
    omega (arith, length-append ws (concat wss), suc-mul (length wss) size)

-- A pointer that was moved into a block came from the block.
pub is_moved : (p : Ptr) (k b o : ℕ) → moved p k ≡ block_ptr b o → (from : ℕ) × (p ≡ block_ptr b from) × (o ≡ k + from)
is_moved (block_ptr c i) k b o e = (i, ap (λ (n : ℕ). block_ptr n i) (ap block_of e), sym (ap offset_of e))
  where
    block_of : Ptr → ℕ
    block_of (block_ptr n m) = n
    block_of null_ptr = 0

    offset_of : Ptr → ℕ
    offset_of (block_ptr n m) = m
    offset_of null_ptr = 0
is_moved null_ptr k b o e = cc
