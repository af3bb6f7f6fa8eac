-- `pair` shows the words of one segment and lends those of another, and the segments follow these. Assumes `Logic`.
use mathlib.Core.Path.{◌≡◌, refl, sym, ap, subst, ◌∙◌}
use Prim.Native.Nat.{ℕ, ◌+◌, ◌*◌, ◌<◌, ◌^◌}
use native.Mathlib.Omega.{arith}
use mathlib.Core.List.{List, [], ◌∷◌, ◌++◌}
use lib.ListN.{length, set, drop as rest}
use Rattle.std.specs.Prelude.{◌≢◌}
use lib.Seq.{take_at as front}
use seplogic.Ra.Ura.{Ura}
use base.Fraction.{full_share}
use mir.Syntax.{named, w64}
use mir.Val.{Val, vptr, vint}
use base.Logic.{SProp, ent, sep, never, id⊢}
use base.Fml.{Lft, GName, Share, Fml, ftrue, fsep, fseps, Incl-refl, fat, flft, fobs, fbor}
use prog.Wp.{Env, Calls, Loops, WpFn}
use prog.Memory.{Memory}
use prog.Routine.{Routine}
use contract.BorrowLft.{⊑_static}
use contract.Monad.{Fun, fact}
use contract.Running.{tables}
use types.Logic.{Logic, sem}
use types.Kit.{Item, ⋆, ‵, raw, ◌⊛◌, some, later, await, pick, group, at_ret, ◌$◌, ◌∵◌, !, qed, by, move, keep, use1, use2, use3, split, split3, join, rewrite, fsplit, fsplit3, fjoin, fjoin3, fpack, feq_i, feq_l, flt_i, flt_l, suffices, frame, done}
use types.Part.{whole, sub, agg}
use types.Run.{stop, fld, lit, of_opd, bin, and_then, no_more, first, blocks, exec, returns, enter}
use types.ByLocal.{alloc_all, pass_all, free_all, look_at, get, get_in, sets, sets_last, take_at, give_at, env}
use types.Follow.{takes_beside}
use types.SemTy.{Arr, cells, Body as Borrowed}
use denote.Array.{Array}
use denote.Builtin.{u64, usize}
use denote.Follow.{follows}
use denote.FollowSlice.{slice_of}
use denote.Exit.{yes, no}
use denote.RattleType.{RattleType, owns}
use denote.Memory.{mem, cell_at, part_of}
use denote.Param.{layout}
use denote.RawPtr.{Ptr, block_ptr, in_a_block}
use denote.Opens.{hide}
use denote.Ref.{Bor, MutBor}
use denote.Signature.{plain, types_at, mut_ref_to}
use denote.Slice.{MutSlice, ShrSlice, slice_val}
use denote.Struct.Tuple.{Tuple}
use denote.Steps.{nothing, heard, opens}
use denote.Triple.Clauses.{Clauses}
use denote.Triple.Walked.{says, Stays, stay_dropped, walk_of, ends_at, Goes-dropped, Goes-spent_ref}
use Rattle.std.proofs.raw_atomic.Walks.{proved_at}
use Rattle.std_alloc.proofs.RcSteps.{word, word-Good}
use Rattle.std_alloc.proofs.VecSteps.Shapes.{after}
use Rattle.std.specs.List.{refill}
use Rattle.std_alloc.proofs.Pairs.{pair_val, pair_of}
use Rattle.graph_pool.specs.Segments.{Segment, IsSegment, segment_at, moved, rewritten}
use Rattle.graph_pool.specs.Ownership.{words_own, words_lent, segment_own, segments_own}
use Rattle.graph_pool.specs.SegmentLends.{with_segments}
use Rattle.graph_pool.specs.contracts.segments.Segments.{the_row as Owner}
use Rattle.graph_pool.specs.contracts.segments.Start.{the_row as Begin}
use Rattle.graph_pool.specs.contracts.segments.Segments.pair as f
use Rattle.graph_pool.proofs.SegmentSteps.{ButTwo, pair_out, pair_in, is_moved}
use Rattle.graph_pool.proofs.Sharing.{words_lend}
use Rattle.graph_pool.proofs.Fields.{Blank, start_had}
use Rattle.graph_pool.proofs.segments.Segments.pair.Statement.{statement}
use Rattle.graph_pool.proofs.segments.Segments.pair.Code as code

abbrev stayed : Stays f.ended.signature.params f.ended.kept
stayed = (stay_dropped (mut_ref_to (0 ∷ []) tt (plain (λ _. Owner))) no, (stay_dropped (plain (λ _. Begin)) yes, (stay_dropped (plain (λ _. usize)) yes, (stay_dropped (plain (λ _. usize)) yes, (stay_dropped (plain (λ _. Begin)) yes, (stay_dropped (plain (λ _. usize)) yes, (stay_dropped (plain (λ _. usize)) yes, (stay_dropped (plain (λ _. usize)) yes, tt))))))))

abbrev Asks : List Segment → Begin.Denot → ℕ → ℕ → Begin.Denot → ℕ → ℕ → ℕ → Type 0
Asks rs start from kept other to fresh size = (kept ≢ fresh) × IsSegment rs kept (moved start.ptr (from * 8)) size × (from * 8 < 2 ^ 63) × IsSegment rs fresh (moved other.ptr (to * 8)) size × (to * 8 < 2 ^ 63)

module _ {M : Type 1} {𝓤 : Ura M} (𝓛 : Logic 𝓤) (at_mem : Memory → SProp 𝓤) (run : Routine → Fun 𝓤) (C : Calls 𝓤 𝓛.H) (Λ : Loops 𝓤 𝓛.H) (y : (walk_of 𝓛 f.ended stayed (f.clauses 𝓛 at_mem run)).Ghost) where
  open 𝓛 use {H}

  abbrev c : Clauses 𝓤 f.ended
  c = f.clauses 𝓛 at_mem run

  abbrev κ : Lft
  κ = y.0.0.0

  abbrev q : Share
  q = y.0.1.0

  abbrev self : MutBor Owner.Denot
  self = y.0.3.0

  -- where the owner lies
  abbrev lies : ℕ × ℕ
  lies = self.ref_ptr

  abbrev γ : GName
  γ = self.ghost_name

  abbrev start : Begin.Denot
  start = y.0.3.1.0

  abbrev from : ℕ
  from = y.0.3.1.1.0

  abbrev kept : ℕ
  kept = y.0.3.1.1.1.0

  abbrev other : Begin.Denot
  other = y.0.3.1.1.1.1.0

  abbrev to : ℕ
  to = y.0.3.1.1.1.1.1.0

  abbrev fresh : ℕ
  fresh = y.0.3.1.1.1.1.1.1.0

  abbrev size : ℕ
  size = y.0.3.1.1.1.1.1.1.1.0

  abbrev Post : Val → SProp 𝓤
  Post = (walk_of 𝓛 f.ended stayed c).post y

  abbrev rs : List Segment
  rs = self.now.all

  abbrev seen : Segment
  seen = segment_at rs kept

  abbrev r : Segment
  r = segment_at rs fresh

  abbrev new : List ℕ → Owner.Denot
  new ws = with_segments self.now (rewritten rs fresh ws)

  abbrev Words : ℕ → RattleType
  Words n = Array u64 n

  module _ (vs : List Val) (b o i j : ℕ) where
    -- the segment that is shown
    abbrev Kept : Fml
    Kept = words_own (block_ptr i j) seen.1

    -- all but the words that are lent and the segment that is shown
    abbrev Rest : Fml
    Rest = fsep (ButTwo rs kept fresh) (fsep (Blank.own_val (tt, tt) vs) (cell_at full_share Owner.mir vs lies.0 lies.1))

    back : r.0 ≡ block_ptr b o → seen.0 ≡ block_ptr i j → kept ≢ fresh → kept < length rs → fresh < length rs → length r.1 * 8 < 2 ^ 63 → (ws : List ℕ)
        → ent 𝓤 (sep 𝓤 (sem 𝓛 ((Arr (mem u64) (length r.1)).own_at ws b o)) (sep 𝓤 (sem 𝓛 (fseps (Kept ∷ []))) (sem 𝓛 Rest))) (sem 𝓛 ((mem Owner).own_at (new ws) lies.0 lies.1))
    unfolding part_of fseps
    back e e' apart low below small ws =
        qed 𝓛 (‵ ((Arr (mem u64) (length r.1)).own_at ws b o) ∷ (‵ Kept ⊛ ‵ ftrue) ∷ ‵ Rest ∷ []) ∵ fsplit ! $ feq_l ! (λ same.
        let all : refill (length r.1) r.1 ws ≡ ws = front ws (rest (length ws) r.1) (length r.1) same in
        flt_i ! (length ws * 8) (2 ^ 63) (subst (λ k. k * 8 < 2 ^ 63) (sym same) small) $ fjoin ! $
        rewrite ! 0 (λ (p : Ptr). ‵ (words_own p ws)) (sym e) refl $ move ! (1 ∷ []) $ split ! $
        rewrite ! 0 (λ (p : Ptr). ‵ (words_own p seen.1)) (sym e') refl $ move ! (3 ∷ []) $ fsplit3 ! $ move ! (3 ∷ 5 ∷ 0 ∷ []) $
        use3 𝓛 (‵ (segments_own (set rs fresh (r.0, ws)))) (pair_in 𝓛 rs kept fresh (r.0, ws) apart low below) $
        rewrite ! 0 (λ (l : List ℕ). ‵ (segments_own (set rs fresh (r.0, l)))) (sym all) refl $ move ! (1 ∷ 0 ∷ []) $ fjoin ! $ move ! (1 ∷ 0 ∷ []) $ fjoin ! $ keep ! (0 ∷ []) $
        fpack ! (List Val) (λ us. fsep (cell_at full_share Owner.mir us lies.0 lies.1) (Owner.own_val (new ws) us)) vs $ done !)

  abbrev Had : List (Item 𝓤)
  Had = ‵ (fobs γ (Owner.coded.code self.now)) ∷ ‵ (fbor κ (Borrowed (mem Owner) lies.0 lies.1 γ)) ∷ ‵ (flft κ q) ∷ []

  walk : Asks rs start from kept other to fresh size → from < 2 ^ 64 → kept < 2 ^ 64 → to < 2 ^ 64 → fresh < 2 ^ 64 → size < 2 ^ 64
      → ent 𝓤 (⋆ 𝓛 Had) (WpFn 𝓤 H C Λ code.function (vptr lies.0 lies.1 ∷ word start.ptr ∷ vint w64 from ∷ vint w64 kept ∷ word other.ptr ∷ vint w64 to ∷ vint w64 fresh ∷ vint w64 size ∷ []) Post)
  unfolding fseps
  walk asked fits_from fits_kept fits_to fits_fresh fits_size =
      let long : length r.1 ≡ size = asked.3.2 in
      let seen_long : length seen.1 ≡ size = asked.1.2 in
      let small = asked.2 in let slight = asked.4 in
      let far : from * 8 < 2 ^ 64 = omega arith in
      let wide : to * 8 < 2 ^ 64 = omega arith in
      qed 𝓛 Had ∵ enter ! C Λ code.function _ _ $
      alloc_all ! (λ l. pass_all ! refl ((tt, tt), (word-Good [] start.ptr, ((tt, record { fits = fits_from }), ((tt, record { fits = fits_kept }), (word-Good [] other.ptr, ((tt, record { fits = fits_to }), ((tt, record { fits = fits_fresh }), ((tt, record { fits = fits_size }), tt)))))))) $
      let En : Env 𝓤 H = env code.Mir.locals l in
      opens ! tt Owner {h = self.now} lies.0 lies.1 (λ vs. move ! (1 ∷ []) $ fsplit ! $ move ! (1 ∷ []) $
      use1 𝓛 (‵ (segment_own seen) ⊛ ‵ (segment_own r) ⊛ ‵ (ButTwo rs kept fresh)) (pair_out 𝓛 rs kept fresh asked.0 asked.1.0 asked.3.0) $ split3 ! $
      in_a_block ! seen.0 (λ p. words_own p seen.1) (id⊢ 𝓤 (never 𝓤)) (λ i j e'. move ! (1 ∷ []) $
      in_a_block ! r.0 (λ p. words_own p r.1) (id⊢ 𝓤 (never 𝓤)) (λ b o e. fsplit ! $ flt_l ! (λ fit.
      let first_at = is_moved start.ptr (from * 8) i j (asked.1.1 ∙ e') in
      let there = is_moved other.ptr (to * 8) b o (asked.3.1 ∙ e) in
      let at : ℕ = to * 8 + there.0 in
      let at' : ℕ = from * 8 + first_at.0 in
      let here : r.0 ≡ block_ptr b at = e ∙ ap (λ (k : ℕ). block_ptr b k) there.2 in
      let here' : seen.0 ≡ block_ptr i at' = e' ∙ ap (λ (k : ℕ). block_ptr i k) first_at.2 in
      let bytes : length r.1 * 8 < 2 ^ 63 = fit in
      let roomy : length r.1 < 2 ^ 64 = omega arith in
      let way = back vs b at i at' here here' asked.0 asked.1.0 asked.3.0 bytes in
      take_at ! 2 $ rewrite ! 0 (λ (p : Ptr). ‵ (fat full_share (layout Begin) (l 2) 0 (word p))) first_at.1 refl $ give_at ! 2 $
      take_at ! 5 $ rewrite ! 0 (λ (p : Ptr). ‵ (fat full_share (layout Begin) (l 5) 0 (word p))) there.1 refl $ give_at ! 5 $ first ! $ blocks ! $
      sets ! (bin ! (get ! refl) (lit ! tt) (record { fits = far })) refl (tt, record { fits = far }) $
      sets ! (bin ! (get_in ! (fld ! refl (stop !)) (sub ! 0 refl (whole !))) (get ! refl) tt) refl (tt, tt) $
      sets ! (agg ! (and_then ! (get ! refl) (and_then ! (get ! refl) (no_more !)))) refl (tt, (tt, (record { fits = fits_size }, tt))) $
      sets ! (bin ! (get ! refl) (lit ! tt) (record { fits = wide })) refl (tt, record { fits = wide }) $
      sets ! (bin ! (get_in ! (fld ! refl (stop !)) (sub ! 0 refl (whole !))) (get ! refl) tt) refl (tt, tt) $
      sets ! (agg ! (and_then ! (get ! refl) (and_then ! (get ! refl) (no_more !)))) refl (tt, (tt, (record { fits = fits_size }, tt))) $
      sets_last ! (agg ! (and_then ! (get ! refl) (and_then ! (get ! refl) (no_more !)))) refl (tt, ((tt, (record { fits = fits_size }, tt)), ((tt, (record { fits = fits_size }, tt)), tt))) $
      exec ! C Λ En (after 1 code.function.body) (at_ret En Post) $ sets ! (of_opd ! (get ! refl)) refl (tt, ((tt, (record { fits = fits_size }, tt)), ((tt, (record { fits = fits_size }, tt)), tt))) $
      -- [the words; the segment that is shown; the other segments; the mark; its cell; the open borrow; obs; auth]
      rewrite ! 0 (λ (k : ℕ). ‵ (cells (mem u64) r.1 b k)) there.2 refl $
      feq_i ! ℕ (length r.1) (length r.1) refl $ fjoin ! $ move ! (1 ∷ []) $
      rewrite ! 0 (λ (k : ℕ). ‵ (words_own (block_ptr i k) seen.1)) first_at.2 refl $ nothing ! $ move ! (1 ∷ 0 ∷ []) $ fjoin ! $
      -- [the segment that is shown; the words; the other segments; ..]
      move ! (2 ∷ 3 ∷ 4 ∷ []) $ fjoin3 ! $ move ! (3 ∷ 4 ∷ 5 ∷ 2 ∷ 1 ∷ 0 ∷ []) $ group ! 6 $
      use1 𝓛 (later (some (λ (δ : GName). ‵ (fobs δ ((Words 0).coded.code r.1)) ⊛ ‵ (fbor κ (Borrowed (Arr (mem u64) (length r.1)) b at δ)) ⊛ ‵ (flft κ q) ⊛ ‵ (follows Owner (Words 0) γ δ new) ⊛ ‵ (fbor κ (Kept vs b at i at')) ⊛ ‵ ftrue)))
      (takes_beside 𝓛 (mem Owner) (Arr (mem u64) (length r.1)) new κ q lies.0 lies.1 b at γ (Kept vs b at i at' ∷ []) (sem 𝓛 (Rest vs b at i at')) way (Owner.coded.code self.now) (Owner.coded.code self.now) r.1) $ await ! tt $ pick ! (λ δ. split3 ! $
      let lent : MutBor (List ℕ) = record { ref_ptr = (b, at); ghost_name = δ; now = r.1 } in
      let shown : Bor (List ℕ) = record { ref_ptr = (i, at'); now = seen.1 } in
      let sv = slice_val (i, at') size in let tv = slice_val (b, at) size in
      use2 𝓛 (‵ ((MutSlice (named 0) κ u64).own_val lent (slice_val (b, at) (length r.1) ∷ []))) (slice_of 𝓛 u64 (named 0) κ b at δ r.1 (roomy, bytes)) $
      rewrite ! 0 (λ (k : ℕ). ‵ ((MutSlice (named 0) κ u64).own_val lent (slice_val (b, at) k ∷ []))) long refl $
      move ! (1 ∷ []) $ split3 ! $ move ! (2 ∷ []) $ split ! $ move ! (0 ∷ 2 ∷ []) $
      use2 𝓛 (later (‵ (words_lent (block_ptr i at') seen.1 κ) ⊛ ‵ (flft κ q)))
      (words_lend 𝓛 [] (λ a m. m) (block_ptr i at') seen.1 κ ((κ, q) ∷ []) (⊑_static κ) (Incl-refl κ)) $ await ! tt $ split ! $
      fsplit ! $ flt_l ! (λ seen_fit.
      hide ! $
      flt_i ! (length seen.1 * 8) (2 ^ 63) seen_fit $ flt_i ! (length seen.1) (2 ^ 64) (subst (λ k. k < 2 ^ 64) (sym seen_long) fits_size) $ fjoin ! $
      feq_i ! (List Val) (sv ∷ []) (slice_val (i, at') (length seen.1) ∷ []) (ap (λ k. slice_val (i, at') k ∷ []) (sym seen_long)) $ fjoin ! $ fjoin ! $
      -- [what is shown; the token; nothing; follows; what is lent]
      move ! (0 ∷ 4 ∷ []) $
      use2 𝓛 (‵ ((Tuple (ShrSlice (named 0) κ u64 ∷ MutSlice (named 0) κ u64 ∷ [])).own_val (shown, lent) (pair_val sv tv ∷ []))) (pair_of 𝓛 (ShrSlice (named 0) κ u64) (MutSlice (named 0) κ u64) shown lent sv tv) $
      returns ! (look_at ! 0 refl) $ free_all ! refl $ keep ! (0 ∷ 1 ∷ 3 ∷ []) $
      suffices ! _ (ends_at 𝓛 f.ended stayed c y (pair_val sv tv) (shown, lent) (tt, (tt, (tt, (tt, (tt, (tt, (tt, (tt, tt)))))))) (tt, (tt, (tt, (tt, (tt, (tt, (tt, (tt, tt))))))))) $
      nothing ! $ nothing ! $ fjoin ! $ nothing ! $ fjoin ! $ nothing ! $ fjoin ! $ nothing ! $ fjoin ! $ nothing ! $ fjoin ! $ nothing ! $ fjoin ! $ nothing ! $ fjoin ! $ nothing ! $ fjoin ! $
      join ! $ nothing ! $ move ! (2 ∷ 0 ∷ []) $ join ! $ join ! $ frame ! $ says ! (refl, refl) $ done !)))))))

  entry : ent 𝓤 ((walk_of 𝓛 f.ended stayed c).pre y) (WpFn 𝓤 H C Λ code.function ((walk_of 𝓛 f.ended stayed c).args y) Post)
  entry =
      let us = y.0.4 in
      qed 𝓛 (((‵ (flft κ q) ⊛ ‵ ftrue) ⊛ ‵ (owns (types_at f.ended.signature.params y.0.0) y.0.3 us)) ∷ raw (fact 𝓤 (Asks rs start from kept other to fresh size)) ∷ []) ∵
      move ! (1 ∷ []) $ heard ! (Asks rs start from kept other to fresh size) (λ asked.
      split ! $ split ! $ move ! (2 ∷ []) $ fsplit ! $ fsplit3 ! $ feq_l ! (λ e0. move ! (2 ∷ []) $
      fsplit ! $ start_had ! start.ptr us.1.0 (λ e1.
      fsplit ! $ fsplit ! $ feq_l ! (λ e2. flt_l ! (λ fits_from.
      fsplit ! $ fsplit ! $ feq_l ! (λ e3. flt_l ! (λ fits_kept.
      fsplit ! $ start_had ! other.ptr us.1.1.1.1.0 (λ e4.
      fsplit ! $ fsplit ! $ feq_l ! (λ e5. flt_l ! (λ fits_to.
      fsplit ! $ fsplit ! $ feq_l ! (λ e6. flt_l ! (λ fits_fresh.
      fsplit ! $ fsplit ! $ feq_l ! (λ e7. flt_l ! (λ fits_size. keep ! (1 ∷ 2 ∷ 3 ∷ []) $
      by ! (subst (λ (ws : List Val × List Val × List Val × List Val × List Val × List Val × List Val × List Val). ent 𝓤 (⋆ 𝓛 Had) (WpFn 𝓤 H C Λ code.function (ws.0 ++ (ws.1 ++ (ws.2 ++ (ws.3 ++ (ws.4 ++ (ws.5 ++ (ws.6 ++ (ws.7 ++ [])))))))) Post))
      (λ j. (sym e0 j, sym e1 j, sym e2 j, sym e3 j, sym e4 j, sym e5 j, sym e6 j, sym e7 j)) (walk asked fits_from fits_kept fits_to fits_fresh fits_size))))))))))))))))

pub pair_spec : {M : Type 1} → statement M
pair_spec 𝓤 𝓛 𝓜 𝓡 wired =
    let c = f.clauses 𝓛 𝓜.mem 𝓡.returns in let 𝓣 = tables 𝓤 𝓛.H 𝓜 𝓡 𝓡.env in
    proved_at 𝓛 f.ended stayed c 𝓜 𝓡
    (Goes-spent_ref 𝓛 1 (0 ∷ []) tt (plain (λ _. Owner)), (Goes-dropped 𝓛 1 (plain (λ _. Begin)) yes (λ κs x w. refl), (Goes-dropped 𝓛 1 (plain (λ _. usize)) yes (λ κs x w. refl), (Goes-dropped 𝓛 1 (plain (λ _. usize)) yes (λ κs x w. refl), (Goes-dropped 𝓛 1 (plain (λ _. Begin)) yes (λ κs x w. refl), (Goes-dropped 𝓛 1 (plain (λ _. usize)) yes (λ κs x w. refl), (Goes-dropped 𝓛 1 (plain (λ _. usize)) yes (λ κs x w. refl), (Goes-dropped 𝓛 1 (plain (λ _. usize)) yes (λ κs x w. refl), tt))))))))
    f.Key.name code.function (code.unfolded 𝓤 𝓛.H 𝓜 𝓡 wired) (λ y are. entry 𝓛 𝓜.mem 𝓡.returns 𝓣.C 𝓣.Λ y)
