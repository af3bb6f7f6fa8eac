-- `words` shows the words of a segment. Assumes `Logic`.
use mathlib.Core.Path.{◌≡◌, refl, sym, ap, subst, ◌∙◌}
use Prim.Native.Nat.{ℕ, ◌+◌, ◌*◌, ◌<◌, ◌^◌}
use native.Mathlib.Omega.{arith}
use mathlib.Core.List.{List, [], ◌∷◌, ◌++◌}
use lib.ListN.{length}
use seplogic.Ra.Ura.{Ura}
use base.Fraction.{full_share}
use mir.Syntax.{w64}
use mir.Val.{Val, vptr, vint}
use base.Logic.{SProp, ent, never, id⊢}
use base.Fml.{Lft, Share, ftrue, fat, flft}
use prog.Wp.{Env, Calls, Loops, WpFn}
use prog.Memory.{Memory}
use prog.Routine.{Routine}
use contract.Monad.{Fun, fact}
use contract.Running.{tables}
use types.Logic.{Logic}
use types.Kit.{Item, ⋆, ‵, raw, ◌⊛◌, at_ret, ◌$◌, ◌∵◌, !, qed, by, move, keep, drop, use1, split, join, rewrite, fsplit, fjoin, feq_i, feq_l, flt_i, flt_l, suffices, frame, done}
use types.Part.{whole, sub, agg}
use types.Run.{stop, fld, lit, of_opd, bin, and_then, no_more, first, blocks, exec, returns, enter}
use types.ByLocal.{alloc_all, pass_all, free_all, look_at, get, get_in, sets, sets_last, take_at, give_at, env}
use denote.Builtin.{u64, usize, RefOf}
use denote.Exit.{yes}
use denote.RattleType.{owns}
use denote.Memory.{hidden_shr}
use denote.Opens.{hide, unhide}
use denote.Param.{layout}
use denote.RawPtr.{Ptr, in_a_block}
use denote.Ref.{Bor}
use denote.Signature.{plain, types_at}
use denote.Slice.{slice_val, elements_shared}
use denote.Steps.{nothing, heard}
use denote.Triple.Clauses.{Clauses}
use denote.Triple.Walked.{says, Stays, stay_dropped, walk_of, ends_at, Goes-dropped}
use Rattle.std.proofs.raw_atomic.Walks.{proved_at}
use Rattle.std_alloc.proofs.RcSteps.{word, word-Good}
use Rattle.std_alloc.proofs.VecSteps.Shapes.{after}
use Rattle.graph_pool.specs.Segments.{Segment, IsSegment, segment_at, moved}
use Rattle.graph_pool.specs.contracts.segments.Segments.{the_row as Owner}
use Rattle.graph_pool.specs.contracts.segments.Start.{the_row as Begin}
use Rattle.graph_pool.specs.contracts.segments.Segments.words as f
use Rattle.graph_pool.specs.Ownership.{words_lent}
use Rattle.graph_pool.proofs.Fields.{start_had}
use Rattle.graph_pool.proofs.SegmentSteps.{segment_seen, is_moved}
use Rattle.graph_pool.proofs.segments.Segments.words.Statement.{statement}
use Rattle.graph_pool.proofs.segments.Segments.words.Code as code

abbrev stayed : Stays f.ended.signature.params f.ended.kept
stayed = (stay_dropped (RefOf (0 ∷ []) tt (plain (λ _. Owner)) (λ _. tt)) yes, (stay_dropped (plain (λ _. Begin)) yes, (stay_dropped (plain (λ _. usize)) yes, (stay_dropped (plain (λ _. usize)) yes, (stay_dropped (plain (λ _. usize)) yes, tt)))))

abbrev Asks : List Segment → Begin.Denot → ℕ → ℕ → ℕ → Type 0
Asks rs start from size place = IsSegment rs place (moved start.ptr (from * 8)) size × (from * 8 < 2 ^ 63)

module _ {M : Type 1} {𝓤 : Ura M} (𝓛 : Logic 𝓤) (at_mem : Memory → SProp 𝓤) (run : Routine → Fun 𝓤) (C : Calls 𝓤 𝓛.H) (Λ : Loops 𝓤 𝓛.H) (y : (walk_of 𝓛 f.ended stayed (f.clauses 𝓛 at_mem run)).Ghost) where
  open 𝓛 use {H}

  abbrev c : Clauses 𝓤 f.ended
  c = f.clauses 𝓛 at_mem run

  abbrev κ : Lft
  κ = y.0.0.0

  abbrev q : Share
  q = y.0.1.0

  abbrev self : Bor Owner.Denot
  self = y.0.3.0

  abbrev start : Begin.Denot
  start = y.0.3.1.0

  abbrev from : ℕ
  from = y.0.3.1.1.0

  abbrev size : ℕ
  size = y.0.3.1.1.1.0

  abbrev place : ℕ
  place = y.0.3.1.1.1.1.0

  abbrev Post : Val → SProp 𝓤
  Post = (walk_of 𝓛 f.ended stayed c).post y

  abbrev Had : List (Item 𝓤)
  Had = ‵ (hidden_shr Owner κ self.now self.ref_ptr.0 self.ref_ptr.1) ∷ ‵ (flft κ q) ∷ []

  walk : Asks self.now.all start from size place → from < 2 ^ 64 → size < 2 ^ 64 → place < 2 ^ 64
      → ent 𝓤 (⋆ 𝓛 Had) (WpFn 𝓤 H C Λ code.function (vptr self.ref_ptr.0 self.ref_ptr.1 ∷ word start.ptr ∷ vint w64 from ∷ vint w64 size ∷ vint w64 place ∷ []) Post)
  walk asked fits_from fits_size fits_place =
      let r = segment_at self.now.all place in
      let long : length r.1 ≡ size = asked.0.2 in
      let small = asked.1 in
      let far : from * 8 < 2 ^ 64 = omega arith in
      qed 𝓛 Had ∵ enter ! C Λ code.function _ _ $
      alloc_all ! (λ l. pass_all ! refl ((tt, tt), (word-Good [] start.ptr, ((tt, record { fits = fits_from }), ((tt, record { fits = fits_size }), ((tt, record { fits = fits_place }), tt))))) $
      let En : Env 𝓤 H = env code.Mir.locals l in
      unhide ! $ fsplit ! $ drop ! $ use1 𝓛 (‵ (words_lent r.0 r.1 κ)) (segment_seen 𝓛 κ self.now.all place asked.0.0) $
      in_a_block ! r.0 (λ p. words_lent p r.1 κ) (id⊢ 𝓤 (never 𝓤)) (λ b o e. fsplit ! $ flt_l ! (λ fit.
      let there = is_moved start.ptr (from * 8) b o (asked.0.1 ∙ e) in
      let from_o = there.0 in
      let at : ℕ × ℕ = (b, from * 8 + from_o) in
      take_at ! 2 $ rewrite ! 0 (λ (p : Ptr). ‵ (fat full_share (layout Begin) (l 2) 0 (word p))) there.1 refl $ give_at ! 2 $ first ! $ blocks ! $
      sets ! (bin ! (get ! refl) (lit ! tt) (record { fits = far })) refl (tt, record { fits = far }) $
      sets ! (bin ! (get_in ! (fld ! refl (stop !)) (sub ! 0 refl (whole !))) (get ! refl) tt) refl (tt, tt) $
      rewrite ! 0 (λ (k : ℕ). ‵ (elements_shared u64 r.1 b k κ)) there.2 refl $ hide ! $
      sets_last ! (agg ! (and_then ! (get ! refl) (and_then ! (get ! refl) (no_more !)))) refl (tt, (tt, (record { fits = fits_size }, tt))) $
      exec ! C Λ En (after 1 code.function.body) (at_ret En Post) $ sets ! (of_opd ! (get ! refl)) refl (tt, (tt, (record { fits = fits_size }, tt))) $
      flt_i ! (length r.1 * 8) (2 ^ 63) fit $ flt_i ! (length r.1) (2 ^ 64) (subst (λ k. k < 2 ^ 64) (sym long) fits_size) $ fjoin ! $
      feq_i ! (List Val) (slice_val at size ∷ []) (slice_val at (length r.1) ∷ []) (ap (λ k. slice_val at k ∷ []) (sym long)) $ fjoin ! $ fjoin ! $
      returns ! (look_at ! 0 refl) $ free_all ! refl $ keep ! (1 ∷ 0 ∷ []) $
      suffices ! _ (ends_at 𝓛 f.ended stayed c y (slice_val at size) (record { ref_ptr = at; now = r.1 }) (tt, (tt, (tt, (tt, (tt, tt))))) (tt, (tt, (tt, (tt, (tt, tt)))))) $ says ! refl $
      nothing ! $ move ! (1 ∷ 0 ∷ []) $ join ! $ frame ! $ nothing ! $ nothing ! $ fjoin ! $ nothing ! $ fjoin ! $ nothing ! $ fjoin ! $ nothing ! $ fjoin ! $ nothing ! $ fjoin ! $ done !)))

  entry : ent 𝓤 ((walk_of 𝓛 f.ended stayed c).pre y) (WpFn 𝓤 H C Λ code.function ((walk_of 𝓛 f.ended stayed c).args y) Post)
  entry =
      let us = y.0.4 in
      qed 𝓛 (((‵ (flft κ q) ⊛ ‵ ftrue) ⊛ ‵ (owns (types_at f.ended.signature.params y.0.0) y.0.3 us)) ∷ raw (fact 𝓤 (Asks self.now.all start from size place)) ∷ []) ∵
      move ! (1 ∷ []) $ heard ! (Asks self.now.all start from size place) (λ asked.
      split ! $ split ! $ move ! (2 ∷ []) $ fsplit ! $ fsplit ! $ feq_l ! (λ e0. move ! (1 ∷ []) $
      fsplit ! $ start_had ! start.ptr us.1.0 (λ e1.
      fsplit ! $ fsplit ! $ feq_l ! (λ e2. flt_l ! (λ fits_from.
      fsplit ! $ fsplit ! $ feq_l ! (λ e3. flt_l ! (λ fits_size.
      fsplit ! $ fsplit ! $ feq_l ! (λ e4. flt_l ! (λ fits_place. keep ! (1 ∷ 2 ∷ []) $
      by ! (subst (λ (ws : List Val × List Val × List Val × List Val × List Val). ent 𝓤 (⋆ 𝓛 Had) (WpFn 𝓤 H C Λ code.function (ws.0 ++ (ws.1 ++ (ws.2 ++ (ws.3 ++ (ws.4 ++ []))))) Post))
      (λ j. (sym e0 j, sym e1 j, sym e2 j, sym e3 j, sym e4 j)) (walk asked fits_from fits_size fits_place)))))))))))

pub words_spec : {M : Type 1} → statement M
words_spec 𝓤 𝓛 𝓜 𝓡 wired =
    let c = f.clauses 𝓛 𝓜.mem 𝓡.returns in let 𝓣 = tables 𝓤 𝓛.H 𝓜 𝓡 𝓡.env in
    proved_at 𝓛 f.ended stayed c 𝓜 𝓡
    (Goes-dropped 𝓛 1 (RefOf (0 ∷ []) tt (plain (λ _. Owner)) (λ _. tt)) yes (λ κs x w. refl), (Goes-dropped 𝓛 1 (plain (λ _. Begin)) yes (λ κs x w. refl), (Goes-dropped 𝓛 1 (plain (λ _. usize)) yes (λ κs x w. refl), (Goes-dropped 𝓛 1 (plain (λ _. usize)) yes (λ κs x w. refl), (Goes-dropped 𝓛 1 (plain (λ _. usize)) yes (λ κs x w. refl), tt)))))
    f.Key.name code.function (code.unfolded 𝓤 𝓛.H 𝓜 𝓡 wired) (λ y are. entry 𝓛 𝓜.mem 𝓡.returns 𝓣.C 𝓣.Λ y)
