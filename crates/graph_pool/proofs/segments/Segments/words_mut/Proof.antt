-- `words_mut` lends the words of a segment, and the segments follow them. Assumes `Logic`.
use mathlib.Core.Path.{◌≡◌, refl, sym, ap, subst, ◌∙◌}
use Prim.Native.Nat.{ℕ, ◌+◌, ◌*◌, ◌<◌, ◌^◌}
use native.Mathlib.Omega.{arith}
use mathlib.Core.List.{List, [], ◌∷◌, ◌++◌}
use lib.ListN.{length, set, drop as rest}
use lib.Seq.{take_at as front}
use seplogic.Ra.Ura.{Ura}
use base.Fraction.{full_share}
use mir.Syntax.{named, w64}
use mir.Val.{Val, vptr, vint}
use base.Logic.{SProp, ent, sep, never, id⊢}
use base.Fml.{Lft, GName, Share, Fml, ftrue, fsep, fat, flft, fobs, fbor}
use prog.Wp.{Env, Calls, Loops, WpFn}
use prog.Memory.{Memory}
use prog.Routine.{Routine}
use contract.Monad.{Fun, fact}
use contract.Running.{tables}
use types.Logic.{Logic, sem}
use types.Kit.{Item, ⋆, ‵, raw, ◌⊛◌, some, later, await, pick, group, at_ret, ◌$◌, ◌∵◌, !, qed, by, move, keep, use1, use2, split, split3, join, rewrite, fsplit, fsplit3, fjoin, fjoin3, fpack, feq_l, flt_i, flt_l, suffices, frame, done}
use types.Part.{whole, sub, agg}
use types.Run.{stop, fld, lit, of_opd, bin, and_then, no_more, first, blocks, exec, returns, enter}
use types.ByLocal.{alloc_all, pass_all, free_all, look_at, get, get_in, sets, sets_last, take_at, give_at, env}
use types.SemTy.{cells, Body as Borrowed}
use denote.Array.{Array}
use denote.Builtin.{u64, usize}
use denote.Follow.{follows}
use denote.FollowSlice.{lends_Elements}
use denote.Exit.{yes, no}
use denote.RattleType.{owns}
use denote.Memory.{mem, cell_at, part_of}
use denote.Param.{layout}
use denote.RawPtr.{Ptr, block_ptr, in_a_block}
use denote.Ref.{MutBor}
use denote.Signature.{plain, types_at, mut_ref_to}
use denote.Slice.{MutSlice, slice_val}
use denote.Steps.{nothing, heard, opens}
use denote.Triple.Clauses.{Clauses}
use denote.Triple.Walked.{says, Stays, stay_dropped, walk_of, ends_at, Goes-dropped, Goes-spent_ref}
use Rattle.std.proofs.raw_atomic.Walks.{proved_at}
use Rattle.std_alloc.proofs.RcSteps.{word, word-Good}
use Rattle.std_alloc.proofs.VecSteps.Shapes.{after}
use Rattle.std.specs.List.{refill}
use Rattle.graph_pool.specs.Segments.{Segment, IsSegment, segment_at, moved, rewritten}
use Rattle.graph_pool.specs.Ownership.{words_own, segment_own, segments_own}
use Rattle.graph_pool.specs.SegmentLends.{with_segments}
use Rattle.graph_pool.specs.contracts.segments.Segments.{the_row as Owner}
use Rattle.graph_pool.specs.contracts.segments.Start.{the_row as Begin}
use Rattle.graph_pool.specs.contracts.segments.Segments.words_mut as f
use Rattle.graph_pool.proofs.SegmentSteps.{Others, segment_out, segment_in, is_moved}
use Rattle.graph_pool.proofs.Fields.{Blank, start_had}
use Rattle.graph_pool.proofs.segments.Segments.words_mut.Statement.{statement}
use Rattle.graph_pool.proofs.segments.Segments.words_mut.Code as code

abbrev stayed : Stays f.ended.signature.params f.ended.kept
stayed = (stay_dropped (mut_ref_to (0 ∷ []) tt (plain (λ _. Owner))) no, (stay_dropped (plain (λ _. Begin)) yes, (stay_dropped (plain (λ _. usize)) yes, (stay_dropped (plain (λ _. usize)) yes, (stay_dropped (plain (λ _. usize)) yes, tt)))))

abbrev Asks : List Segment → Begin.Denot → ℕ → ℕ → ℕ → Type 0
Asks rs start from size place = IsSegment rs place (moved start.ptr (from * 8)) size × (from * 8 < 2 ^ 63)

module _ {M : Type 1} {𝓤 : Ura M} (𝓛 : Logic 𝓤) (at_mem : Memory → SProp 𝓤) (run : Routine → Fun 𝓤) (C : Calls 𝓤 𝓛.H) (Λ : Loops 𝓤 𝓛.H) (y : (walk_of 𝓛 f.ended stayed (f.clauses 𝓛 at_mem run)).Ghost) where
  open 𝓛 use {H}

  abbrev c : Clauses 𝓤 f.ended
  c = f.clauses 𝓛 at_mem run

  abbrev κ : Lft
  κ = y.0.0.0

  abbrev q : Share
  q = y.0.1.0

  abbrev self : MutBor Owner.Denot
  self = y.0.3.0

  abbrev start : Begin.Denot
  start = y.0.3.1.0

  abbrev from : ℕ
  from = y.0.3.1.1.0

  abbrev size : ℕ
  size = y.0.3.1.1.1.0

  abbrev place : ℕ
  place = y.0.3.1.1.1.1.0

  abbrev Post : Val → SProp 𝓤
  Post = (walk_of 𝓛 f.ended stayed c).post y

  abbrev γ : GName
  γ = self.ghost_name

  abbrev rs : List Segment
  rs = self.now.all

  abbrev r : Segment
  r = segment_at rs place

  abbrev new : List ℕ → Owner.Denot
  new ws = with_segments self.now (rewritten rs place ws)

  module _ (vs : List Val) (b o : ℕ) where
    -- all but the words
    abbrev Rest : Fml
    Rest = fsep (Others rs place) (fsep (Blank.own_val (tt, tt) vs) (cell_at full_share Owner.mir vs self.ref_ptr.0 self.ref_ptr.1))

    back : r.0 ≡ block_ptr b o → place < length rs → length r.1 * 8 < 2 ^ 63 → (ws : List ℕ) → length ws ≡ length r.1
        → ent 𝓤 (sep 𝓤 (sem 𝓛 (cells (mem u64) ws b o)) (sem 𝓛 Rest)) (sem 𝓛 ((mem Owner).own_at (new ws) self.ref_ptr.0 self.ref_ptr.1))
    unfolding part_of
    back e low small ws same =
        let all : refill (length r.1) r.1 ws ≡ ws = front ws (rest (length ws) r.1) (length r.1) same in
        qed 𝓛 (‵ (cells (mem u64) ws b o) ∷ ‵ Rest ∷ []) ∵ flt_i ! (length ws * 8) (2 ^ 63) (subst (λ k. k * 8 < 2 ^ 63) (sym same) small) $ fjoin ! $
        rewrite ! 0 (λ (p : Ptr). ‵ (words_own p ws)) (sym e) refl $ move ! (1 ∷ []) $ fsplit3 ! $ move ! (3 ∷ 0 ∷ []) $
        use2 𝓛 (‵ (segments_own (set rs place (r.0, ws)))) (segment_in 𝓛 rs place (r.0, ws) low) $
        rewrite ! 0 (λ (l : List ℕ). ‵ (segments_own (set rs place (r.0, l)))) (sym all) refl $ move ! (1 ∷ 0 ∷ []) $ fjoin ! $ move ! (1 ∷ 0 ∷ []) $ fjoin ! $
        fpack ! (List Val) (λ us. fsep (cell_at full_share Owner.mir us self.ref_ptr.0 self.ref_ptr.1) (Owner.own_val (new ws) us)) vs $ done !

  abbrev Had : List (Item 𝓤)
  Had = ‵ (fobs γ (Owner.coded.code self.now)) ∷ ‵ (fbor κ (Borrowed (mem Owner) self.ref_ptr.0 self.ref_ptr.1 γ)) ∷ ‵ (flft κ q) ∷ []

  walk : Asks rs start from size place → from < 2 ^ 64 → size < 2 ^ 64 → place < 2 ^ 64
      → ent 𝓤 (⋆ 𝓛 Had) (WpFn 𝓤 H C Λ code.function (vptr self.ref_ptr.0 self.ref_ptr.1 ∷ word start.ptr ∷ vint w64 from ∷ vint w64 size ∷ vint w64 place ∷ []) Post)
  walk asked fits_from fits_size fits_place =
      let long : length r.1 ≡ size = asked.0.2 in
      let small = asked.1 in
      let far : from * 8 < 2 ^ 64 = omega arith in
      qed 𝓛 Had ∵ enter ! C Λ code.function _ _ $
      alloc_all ! (λ l. pass_all ! refl ((tt, tt), (word-Good [] start.ptr, ((tt, record { fits = fits_from }), ((tt, record { fits = fits_size }), ((tt, record { fits = fits_place }), tt))))) $
      let En : Env 𝓤 H = env code.Mir.locals l in
      opens ! tt Owner {h = self.now} self.ref_ptr.0 self.ref_ptr.1 (λ vs. move ! (1 ∷ []) $ fsplit ! $ move ! (1 ∷ []) $
      use1 𝓛 (‵ (segment_own r) ⊛ ‵ (Others rs place)) (segment_out 𝓛 rs place asked.0.0) $ split ! $
      in_a_block ! r.0 (λ p. words_own p r.1) (id⊢ 𝓤 (never 𝓤)) (λ b o e. fsplit ! $ flt_l ! (λ fit.
      let there = is_moved start.ptr (from * 8) b o (asked.0.1 ∙ e) in
      let at : ℕ = from * 8 + there.0 in
      let here : r.0 ≡ block_ptr b at = e ∙ ap (λ (k : ℕ). block_ptr b k) there.2 in
      let bytes : length r.1 * 8 < 2 ^ 63 = fit in
      let roomy : length r.1 < 2 ^ 64 = omega arith in
      let way = back vs b at here asked.0.0 bytes in
      take_at ! 2 $ rewrite ! 0 (λ (p : Ptr). ‵ (fat full_share (layout Begin) (l 2) 0 (word p))) there.1 refl $ give_at ! 2 $ first ! $ blocks ! $
      sets ! (bin ! (get ! refl) (lit ! tt) (record { fits = far })) refl (tt, record { fits = far }) $
      sets ! (bin ! (get_in ! (fld ! refl (stop !)) (sub ! 0 refl (whole !))) (get ! refl) tt) refl (tt, tt) $
      rewrite ! 0 (λ (k : ℕ). ‵ (cells (mem u64) r.1 b k)) there.2 refl $
      sets_last ! (agg ! (and_then ! (get ! refl) (and_then ! (get ! refl) (no_more !)))) refl (tt, (tt, (record { fits = fits_size }, tt))) $
      exec ! C Λ En (after 1 code.function.body) (at_ret En Post) $ sets ! (of_opd ! (get ! refl)) refl (tt, (tt, (record { fits = fits_size }, tt))) $
      -- [the words; the other segments; the mark; its cell; the open borrow; obs; auth]
      move ! (1 ∷ 2 ∷ 3 ∷ []) $ fjoin3 ! $ move ! (2 ∷ 3 ∷ 4 ∷ 1 ∷ 0 ∷ []) $ group ! 5 $
      use1 𝓛 (later (some (λ (δ : GName). ‵ ((MutSlice (named 0) κ u64).own_val (record { ref_ptr = (b, at); ghost_name = δ; now = r.1 }) (slice_val (b, at) (length r.1) ∷ [])) ⊛ ‵ (flft κ q) ⊛ ‵ (follows Owner (Array u64 0) γ δ new))))
      (lends_Elements 𝓛 Owner u64 new (named 0) κ q self.ref_ptr.0 self.ref_ptr.1 b at γ r.1 (roomy, bytes) (sem 𝓛 (Rest vs b at)) way (Owner.coded.code self.now) (Owner.coded.code self.now)) $ await ! tt $ pick ! (λ δ. split3 ! $
      let lent : MutBor (List ℕ) = record { ref_ptr = (b, at); ghost_name = δ; now = r.1 } in
      returns ! (look_at ! 0 refl) $ free_all ! refl $ keep ! (0 ∷ 1 ∷ 2 ∷ []) $
      rewrite ! 0 (λ (k : ℕ). ‵ ((MutSlice (named 0) κ u64).own_val lent (slice_val (b, at) k ∷ []))) long refl $
      suffices ! _ (ends_at 𝓛 f.ended stayed c y (slice_val (b, at) size) lent (tt, (tt, (tt, (tt, (tt, tt))))) (tt, (tt, (tt, (tt, (tt, tt)))))) $
      nothing ! $ nothing ! $ fjoin ! $ nothing ! $ fjoin ! $ nothing ! $ fjoin ! $ nothing ! $ fjoin ! $ nothing ! $ fjoin ! $ join ! $ nothing ! $ move ! (2 ∷ 0 ∷ []) $ join ! $ join ! $ frame ! $ says ! refl $ done !)))))

  entry : ent 𝓤 ((walk_of 𝓛 f.ended stayed c).pre y) (WpFn 𝓤 H C Λ code.function ((walk_of 𝓛 f.ended stayed c).args y) Post)
  entry =
      let us = y.0.4 in
      qed 𝓛 (((‵ (flft κ q) ⊛ ‵ ftrue) ⊛ ‵ (owns (types_at f.ended.signature.params y.0.0) y.0.3 us)) ∷ raw (fact 𝓤 (Asks rs start from size place)) ∷ []) ∵
      move ! (1 ∷ []) $ heard ! (Asks rs start from size place) (λ asked.
      split ! $ split ! $ move ! (2 ∷ []) $ fsplit ! $ fsplit3 ! $ feq_l ! (λ e0. move ! (2 ∷ []) $
      fsplit ! $ start_had ! start.ptr us.1.0 (λ e1.
      fsplit ! $ fsplit ! $ feq_l ! (λ e2. flt_l ! (λ fits_from.
      fsplit ! $ fsplit ! $ feq_l ! (λ e3. flt_l ! (λ fits_size.
      fsplit ! $ fsplit ! $ feq_l ! (λ e4. flt_l ! (λ fits_place. keep ! (1 ∷ 2 ∷ 3 ∷ []) $
      by ! (subst (λ (ws : List Val × List Val × List Val × List Val × List Val). ent 𝓤 (⋆ 𝓛 Had) (WpFn 𝓤 H C Λ code.function (ws.0 ++ (ws.1 ++ (ws.2 ++ (ws.3 ++ (ws.4 ++ []))))) Post))
      (λ j. (sym e0 j, sym e1 j, sym e2 j, sym e3 j, sym e4 j)) (walk asked fits_from fits_size fits_place)))))))))))

pub words_mut_spec : {M : Type 1} → statement M
words_mut_spec 𝓤 𝓛 𝓜 𝓡 wired =
    let c = f.clauses 𝓛 𝓜.mem 𝓡.returns in let 𝓣 = tables 𝓤 𝓛.H 𝓜 𝓡 𝓡.env in
    proved_at 𝓛 f.ended stayed c 𝓜 𝓡
    (Goes-spent_ref 𝓛 1 (0 ∷ []) tt (plain (λ _. Owner)), (Goes-dropped 𝓛 1 (plain (λ _. Begin)) yes (λ κs x w. refl), (Goes-dropped 𝓛 1 (plain (λ _. usize)) yes (λ κs x w. refl), (Goes-dropped 𝓛 1 (plain (λ _. usize)) yes (λ κs x w. refl), (Goes-dropped 𝓛 1 (plain (λ _. usize)) yes (λ κs x w. refl), tt)))))
    f.Key.name code.function (code.unfolded 𝓤 𝓛.H 𝓜 𝓡 wired) (λ y are. entry 𝓛 𝓜.mem 𝓡.returns 𝓣.C 𝓣.Λ y)
