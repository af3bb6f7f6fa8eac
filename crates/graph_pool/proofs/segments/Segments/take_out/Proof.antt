-- `take_out` gives up the last segments, as a full row of slots. Assumes `Logic`.
use mathlib.Core.Path.{◌≡◌, refl, sym, ap, subst, ◌∙◌}
use Prim.Native.Nat.{ℕ, ◌-◌, ◌*◌, ◌<◌, ◌^◌}
use mathlib.Core.Bool.{Bool, true}
use mathlib.Core.List.{List, [], ◌∷◌, ◌++◌}
use lib.ListN.{length, take, drop as rest, replicate, length-replicate, take-append-drop}
use seplogic.Ra.Ura.{Ura}
use mir.Syntax.{w64}
use mir.Val.{Val, vptr, vint, WT}
use base.Fraction.{full_share}
use base.Logic.{SProp, ent}
use base.Fml.{Lft, Share, ftrue, fat, flft, fobs, fbor}
use prog.Wp.{Env, Calls, Loops, WpFn}
use prog.Memory.{Memory}
use prog.Routine.{Routine}
use contract.BorrowLft.{⊑_static}
use contract.Monad.{Fun, fact}
use contract.Running.{tables}
use sound.WpLaws.{FmC}
use types.Logic.{Logic}
use types.Kit.{Item, ⋆, ‵, raw, ◌⊛◌, some, given, later, await, pick, learn, rewrite, at_ret, ◌$◌, ◌∵◌, !, qed, by, move, keep, use1, use2, split, join, fsplit, fsplit3, fjoin, fjoin3, feq_i, feq_l, flt_l, suffices, frame, done}
use types.Part.{whole, sub}
use types.Run.{stop, fld, of_opd, and_then, no_more, first, blocks, exec, returns, enter}
use types.ByLocal.{alloc_all, pass_all, free_all, look_at, get, get_in, is, sets, lands_last, take_at, give_at, env}
use types.SemTy.{cells, Body as Borrowed}
use denote.Builtin.{u64, usize}
use denote.Exit.{yes}
use denote.Memory.{mem}
use denote.Param.{layout}
use denote.RattleType.{owns}
use denote.RawPtr.{Ptr, block_ptr, InBlock, block_of, count_of, at_block}
use denote.Ref.{MutBor}
use denote.Signature.{plain, types_at}
use denote.Steps.{nothing, heard, opens, closes}
use denote.Triple.Call.{calls_at_last}
use denote.Triple.Clauses.{Clauses}
use denote.Triple.Statement.{Triple}
use denote.Triple.Walked.{says, Stays, stay_dropped, stay_ref, walk_of, ends_at, Goes-dropped, Goes-ref}
use Rattle.std.specs.List.{concat}
use Rattle.std.proofs.raw_atomic.Walks.{proved_at}
use Rattle.core.proofs.slots.Opens.{row_val}
use Rattle.core.proofs.slots.Slots.from_raw_parts.Met as callee
use Rattle.std_alloc.proofs.RcSteps.{word, word-Good}
use Rattle.std_alloc.proofs.VecSteps.Shapes.{after}
use Rattle.atomic_table.proofs.Calls.{fm}
use Rattle.atomic_table.proofs.Raw.{all as places, row_Typed, From, from_key, at_from, Made, from_goes, from_gives}
use Rattle.graph_pool.specs.contracts.segments.Segments.{the_row as Owner}
use Rattle.graph_pool.specs.contracts.segments.Start.{the_row as Begin}
use Rattle.graph_pool.specs.contracts.segments.Segments.take_out as f
use Rattle.graph_pool.specs.Segments.{Segment, segments_from, EndsAt}
use Rattle.graph_pool.specs.Ownership.{segments_own}
use Rattle.graph_pool.specs.SegmentLends.{with_segments}
use Rattle.graph_pool.proofs.Fields.{start_had}
use Rattle.graph_pool.proofs.SegmentSteps.{words_type, to_slots, side_by_side, length-side_by_side, segments_cut}
use Rattle.graph_pool.proofs.WordSlots.{WordSlots}
use Rattle.graph_pool.proofs.Sharing.{word_laws}
use Rattle.graph_pool.proofs.segments.Segments.take_out.Statement.{statement}
use Rattle.graph_pool.proofs.segments.Segments.take_out.Code as code

abbrev stayed : Stays f.ended.signature.params f.ended.kept
stayed = (stay_ref (0 ∷ []) tt (plain (λ _. Owner)), (stay_dropped (plain (λ _. Begin)) yes, (stay_dropped (plain (λ _. usize)) yes, (stay_dropped (plain (λ _. usize)) yes, (stay_dropped (plain (λ _. usize)) yes, tt)))))

abbrev Asks : List Segment → Begin.Denot → ℕ → ℕ → ℕ → Type 0
Asks ss start len size count = EndsAt ss start.ptr size count × InBlock start.ptr × (len ≡ count * size) × (len * 8 < 2 ^ 63)

module _ {M : Type 1} {𝓤 : Ura M} (𝓛 : Logic 𝓤) (at_mem : Memory → SProp 𝓤) (run : Routine → Fun 𝓤) (C : Calls 𝓤 𝓛.H) (Λ : Loops 𝓤 𝓛.H) (frames : FmC 𝓤 𝓛.H 𝓛.laws C)
    (from : Triple 𝓤 (C (from_key words_type)) (From words_type 𝓛 at_mem run)) (y : (walk_of 𝓛 f.ended stayed (f.clauses 𝓛 at_mem run)).Ghost) where
  open 𝓛 use {H}

  abbrev c : Clauses 𝓤 f.ended
  c = f.clauses 𝓛 at_mem run

  abbrev κ : Lft
  κ = y.0.0.0

  abbrev q : Share
  q = y.0.1.0

  abbrev self : MutBor Owner.Denot
  self = y.0.3.0

  -- where the owner lies
  abbrev lies : ℕ × ℕ
  lies = self.ref_ptr

  abbrev ss : List Segment
  ss = self.now.all

  abbrev start : Begin.Denot
  start = y.0.3.1.0

  abbrev len : ℕ
  len = y.0.3.1.1.0

  abbrev size : ℕ
  size = y.0.3.1.1.1.0

  abbrev count : ℕ
  count = y.0.3.1.1.1.1.0

  abbrev kept : ℕ
  kept = length ss - count

  abbrev new : Owner.Denot
  new = with_segments self.now (take kept ss)

  abbrev Post : Val → SProp 𝓤
  Post = (walk_of 𝓛 f.ended stayed c).post y

  abbrev Had : List (Item 𝓤)
  Had = ‵ (fobs self.ghost_name (Owner.coded.code self.now)) ∷ ‵ (fbor κ (Borrowed (mem Owner) lies.0 lies.1 self.ghost_name)) ∷ ‵ (flft κ q) ∷ []

  walk : y.0.4.0 ≡ vptr lies.0 lies.1 ∷ [] → Asks ss start len size count → len < 2 ^ 64 → size < 2 ^ 64 → count < 2 ^ 64
      → ent 𝓤 (⋆ 𝓛 Had) (WpFn 𝓤 H C Λ code.function (vptr lies.0 lies.1 ∷ word start.ptr ∷ vint w64 len ∷ vint w64 size ∷ vint w64 count ∷ []) Post)
  walk passed asked fits_len fits_size fits_count =
      let wss = asked.0.0 in let even = asked.0.2 in let last = asked.0.4 in
      let b : ℕ = block_of start.ptr in let o : ℕ = count_of start.ptr in
      let at : start.ptr ≡ block_ptr b o = at_block start.ptr asked.1 in
      let xs : List ℕ = concat wss in let fs : List Bool = replicate (length xs) true in
      let long : len ≡ length xs = asked.2 ∙ ap (λ (n : ℕ). n * size) (sym asked.0.1) ∙ sym (length-side_by_side size wss even) in
      let flags : len ≡ length fs = long ∙ sym (length-replicate (length xs) true) in
      let good : WT (row_val b o len) = (tt, (record { fits = fits_len }, tt)) in
      let z : (From words_type 𝓛 at_mem run).Ghost = at_from words_type 𝓛 at_mem run κ q b o len xs fs in
      qed 𝓛 Had ∵ enter ! C Λ code.function _ _ $
      alloc_all ! (λ l. pass_all ! refl ((tt, tt), (word-Good [] start.ptr, ((tt, record { fits = fits_len }), ((tt, record { fits = fits_size }), ((tt, record { fits = fits_count }), tt))))) $
      let En : Env 𝓤 H = env code.Mir.locals l in
      opens ! tt Owner {h = self.now} lies.0 lies.1 (λ vs. move ! (1 ∷ []) $ fsplit ! $ move ! (1 ∷ []) $
      -- [the segments; its field; its cell; the open borrow; obs; auth]
      rewrite ! 0 (λ (l : List Segment). ‵ (segments_own l)) (sym (take-append-drop kept ss)) refl $
      use1 𝓛 (‵ (segments_own (take kept ss)) ⊛ ‵ (segments_own (rest kept ss))) (segments_cut 𝓛 (take kept ss) (rest kept ss)) $ split ! $ move ! (1 ∷ []) $
      rewrite ! 0 (λ (l : List Segment). ‵ (segments_own l)) last refl $ rewrite ! 0 (λ (p : Ptr). ‵ (segments_own (segments_from p (size * 8) wss))) at refl $
      use1 𝓛 (‵ (cells (mem u64) xs b o)) (side_by_side 𝓛 b size wss o even) $ use1 𝓛 (‵ (places words_type b o xs fs)) (to_slots 𝓛 b xs o) $
      -- [what is given up; the front segments; its field; its cell; the open borrow; obs; auth]
      move ! (2 ∷ 1 ∷ []) $ fjoin ! $ move ! (2 ∷ 0 ∷ 3 ∷ 4 ∷ 5 ∷ []) $ closes ! tt Owner new vs lies.0 lies.1 $
      -- [obs; the borrow; the token; what is given up]
      move ! (3 ∷ 2 ∷ []) $ use2 𝓛 (raw ((From words_type 𝓛 at_mem run).pre z)) (from_goes words_type 𝓛 at_mem run κ q b o len xs fs (⊑_static κ) long flags fits_len asked.3) $
      take_at ! 2 $ rewrite ! 0 (λ (p : Ptr). ‵ (fat full_share (layout Begin) (l 2) 0 (word p))) at refl $ give_at ! 2 $ first ! $ blocks ! $
      calls_at_last ! frames (From words_type 𝓛 at_mem run) from z (and_then ! (get_in ! (fld ! refl (stop !)) (sub ! 0 refl (whole !))) (and_then ! (get ! refl) (no_more !))) (λ v.
      use1 𝓛 (later (some (λ (r : WordSlots.Denot). given ((v ≡ row_val b o len) × Made words_type 𝓛 at_mem run κ q b o len xs fs r) (‵ (WordSlots.own_val r (row_val b o len ∷ [])) ⊛ ‵ (flft κ q)))))
      (from_gives words_type 𝓛 at_mem run κ q b o len xs fs v) $ await ! tt $ pick ! (λ r. learn ! (λ got. split ! $
      let made = got.1 in
      lands_last ! refl (row_Typed words_type v b o len got.0 fits_len) $ exec ! C Λ En (after 1 code.function.body) (at_ret En Post) $
      sets ! (is ! (of_opd ! (get ! refl)) got.0) refl (tt, good) $
      -- [the slots; the token; obs; the borrow]
      returns ! (look_at ! 0 refl) $ free_all ! refl $ keep ! (2 ∷ 3 ∷ 1 ∷ 0 ∷ []) $
      suffices ! _ (ends_at 𝓛 f.ended stayed c y (row_val b o len) r (new, (tt, (tt, (tt, (tt, tt))))) (tt, (tt, (tt, (tt, (tt, tt)))))) $ says ! (made.0 ∙ sym at, made.1, refl) $
      nothing ! $ move ! (3 ∷ 0 ∷ []) $ join ! $ frame ! $ feq_i ! (List Val) y.0.4.0 (vptr lies.0 lies.1 ∷ []) passed $ fjoin3 ! $
      nothing ! $ nothing ! $ fjoin ! $ nothing ! $ fjoin ! $ nothing ! $ fjoin ! $ nothing ! $ fjoin ! $ move ! (1 ∷ 0 ∷ []) $ fjoin ! $ done !)))))

  entry : ent 𝓤 ((walk_of 𝓛 f.ended stayed c).pre y) (WpFn 𝓤 H C Λ code.function ((walk_of 𝓛 f.ended stayed c).args y) Post)
  entry =
      let us = y.0.4 in
      qed 𝓛 (((‵ (flft κ q) ⊛ ‵ ftrue) ⊛ ‵ (owns (types_at f.ended.signature.params y.0.0) y.0.3 us)) ∷ raw (fact 𝓤 (Asks ss start len size count)) ∷ []) ∵
      move ! (1 ∷ []) $ heard ! (Asks ss start len size count) (λ asked.
      split ! $ split ! $ move ! (2 ∷ []) $ fsplit ! $ fsplit3 ! $ feq_l ! (λ e0. move ! (2 ∷ []) $
      fsplit ! $ start_had ! start.ptr us.1.0 (λ e1.
      fsplit ! $ fsplit ! $ feq_l ! (λ e2. flt_l ! (λ fits_len.
      fsplit ! $ fsplit ! $ feq_l ! (λ e3. flt_l ! (λ fits_size.
      fsplit ! $ fsplit ! $ feq_l ! (λ e4. flt_l ! (λ fits_count. keep ! (1 ∷ 2 ∷ 3 ∷ []) $
      by ! (subst (λ (ws : List Val × List Val × List Val × List Val × List Val). ent 𝓤 (⋆ 𝓛 Had) (WpFn 𝓤 H C Λ code.function (ws.0 ++ (ws.1 ++ (ws.2 ++ (ws.3 ++ (ws.4 ++ []))))) Post))
      (λ j. (sym e0 j, sym e1 j, sym e2 j, sym e3 j, sym e4 j)) (walk e0 asked fits_len fits_size fits_count)))))))))))

pub take_out_spec : {M : Type 1} → statement M
take_out_spec 𝓤 𝓛 𝓜 𝓡 wired =
    let c = f.clauses 𝓛 𝓜.mem 𝓡.returns in let 𝓣 = tables 𝓤 𝓛.H 𝓜 𝓡 𝓡.env in
    proved_at 𝓛 f.ended stayed c 𝓜 𝓡
    (Goes-ref 𝓛 1 0 tt (plain (λ _. Owner)), (Goes-dropped 𝓛 1 (plain (λ _. Begin)) yes (λ κs x w. refl), (Goes-dropped 𝓛 1 (plain (λ _. usize)) yes (λ κs x w. refl), (Goes-dropped 𝓛 1 (plain (λ _. usize)) yes (λ κs x w. refl), (Goes-dropped 𝓛 1 (plain (λ _. usize)) yes (λ κs x w. refl), tt)))))
    f.Key.name code.function (code.unfolded 𝓤 𝓛.H 𝓜 𝓡 wired)
    (λ y are. entry 𝓛 𝓜.mem 𝓡.returns 𝓣.C 𝓣.Λ (fm 𝓛 𝓜 𝓡) (callee.met 𝓤 𝓛 𝓜 𝓡 (code.calls-core::slots::Slots::from_raw_parts 𝓡.env wired) u64 word_laws) y)
