-- `take_in` makes segments of a full row of slots. Assumes `Logic`.
use mathlib.Core.Path.{◌≡◌, refl, sym, subst, ◌∙◌}
use Prim.Native.Nat.{ℕ, ◌*◌, ◌<◌, ◌^◌}
use mathlib.Core.List.{List, [], ◌∷◌, ◌++◌}
use lib.ListN.{length}
use seplogic.Ra.Ura.{Ura}
use mir.Syntax.{w64}
use mir.Val.{Val, vptr, vint}
use base.Logic.{SProp, ent}
use base.Fml.{Lft, Share, ftrue, flft, fobs, fbor}
use prog.Wp.{Env, Calls, Loops, WpFn}
use prog.Memory.{Memory}
use prog.Routine.{Routine}
use contract.BorrowLft.{⊑_static}
use contract.Monad.{Fun, fact}
use contract.Running.{tables}
use sound.WpLaws.{FmC}
use types.Logic.{Logic}
use types.Kit.{Item, ⋆, ‵, raw, ◌⊛◌, given, later, await, learn, at_ret, ◌$◌, ◌∵◌, !, qed, by, move, keep, use1, use2, split, join, fsplit, fsplit3, fjoin, fjoin3, feq_i, feq_l, flt_l, suffices, frame, done}
use types.Part.{whole, sub, agg}
use types.Run.{stop, fld, of_opd, and_then, no_more, first, blocks, exec, returns, enter}
use types.ByLocal.{alloc_all, pass_all, free_all, look_at, get, get_in, is, sets, lands_last, env}
use types.SemTy.{cells, Body as Borrowed}
use denote.Builtin.{u64, usize}
use denote.Exit.{yes}
use denote.Memory.{mem}
use denote.RattleType.{owns}
use denote.RawPtr.{Ptr, block_ptr}
use denote.Ref.{MutBor}
use denote.Signature.{plain, types_at}
use denote.Steps.{nothing, heard, opens, closes}
use denote.Triple.Call.{calls_at_last}
use denote.Triple.Clauses.{Clauses}
use denote.Triple.Statement.{Triple}
use denote.Triple.Walked.{says, Stays, stay_dropped, stay_ref, walk_of, ends_at, Goes-dropped, Goes-ref}
use Rattle.std.proofs.raw_atomic.Walks.{proved_at}
use Rattle.core.proofs.slots.Opens.{row_val}
use Rattle.core.proofs.slots.Slots.into_raw_parts.Met as callee
use Rattle.core.specs.Mem.Slots.{slots_counts, slots_items, slots_filled, slots_ptr, slots_len, IsFull}
use Rattle.std_alloc.proofs.RcSteps.{word, word-Good}
use Rattle.std_alloc.proofs.VecSteps.Shapes.{after}
use Rattle.atomic_table.proofs.Calls.{fm}
use Rattle.atomic_table.proofs.Raw.{all as places, parts_typed, Row-seen, Into, into_key, at_into, Into-goes, Into-gives}
use Rattle.graph_pool.specs.contracts.segments.Segments.{the_row as Owner}
use Rattle.graph_pool.specs.contracts.segments.Segments.take_in as f
use Rattle.graph_pool.specs.Segments.{Segment, segments_from, even_parts}
use Rattle.graph_pool.specs.Ownership.{segments_own}
use Rattle.graph_pool.specs.SegmentLends.{with_segments}
use Rattle.graph_pool.proofs.Fields.{start_made}
use Rattle.graph_pool.proofs.SegmentSteps.{words_type, of_slots, laid_out, segments_glue}
use Rattle.graph_pool.proofs.WordSlots.{WordSlots, as_long, all_filled}
use Rattle.graph_pool.proofs.Sharing.{word_laws}
use Rattle.graph_pool.proofs.segments.Segments.take_in.Statement.{statement}
use Rattle.graph_pool.proofs.segments.Segments.take_in.Code as code

abbrev stayed : Stays f.ended.signature.params f.ended.kept
stayed = (stay_ref (0 ∷ []) tt (plain (λ _. Owner)), (stay_dropped (plain (λ _. WordSlots)) yes, (stay_dropped (plain (λ _. usize)) yes, (stay_dropped (plain (λ _. usize)) yes, tt))))

abbrev Asks : WordSlots.Denot → ℕ → ℕ → Type 0
Asks words size count = IsFull words × (slots_len words ≡ count * size)

module _ {M : Type 1} {𝓤 : Ura M} (𝓛 : Logic 𝓤) (at_mem : Memory → SProp 𝓤) (run : Routine → Fun 𝓤) (C : Calls 𝓤 𝓛.H) (Λ : Loops 𝓤 𝓛.H) (frames : FmC 𝓤 𝓛.H 𝓛.laws C)
    (into : Triple 𝓤 (C (into_key words_type)) (Into words_type 𝓛 at_mem run)) (y : (walk_of 𝓛 f.ended stayed (f.clauses 𝓛 at_mem run)).Ghost) where
  open 𝓛 use {H}

  abbrev c : Clauses 𝓤 f.ended
  c = f.clauses 𝓛 at_mem run

  abbrev κ : Lft
  κ = y.0.0.0

  abbrev q : Share
  q = y.0.1.0

  abbrev self : MutBor Owner.Denot
  self = y.0.3.0

  -- where the owner lies
  abbrev lies : ℕ × ℕ
  lies = self.ref_ptr

  abbrev words : WordSlots.Denot
  words = y.0.3.1.0

  abbrev xs : List ℕ
  xs = slots_items words

  abbrev many : ℕ
  many = slots_len words

  abbrev size : ℕ
  size = y.0.3.1.1.0

  abbrev count : ℕ
  count = y.0.3.1.1.1.0

  abbrev Post : Val → SProp 𝓤
  Post = (walk_of 𝓛 f.ended stayed c).post y

  module _ (b o : ℕ) where
    abbrev fresh : List Segment
    fresh = segments_from (block_ptr b o) (size * 8) (even_parts size count xs)

    abbrev new : Owner.Denot
    new = with_segments self.now (self.now.all ++ fresh)

    abbrev Had : List (Item 𝓤)
    Had = ‵ (WordSlots.own_val words (row_val b o many ∷ [])) ∷ ‵ (flft κ q) ∷ ‵ (fobs self.ghost_name (Owner.coded.code self.now)) ∷ ‵ (fbor κ (Borrowed (mem Owner) lies.0 lies.1 self.ghost_name)) ∷ []

    walk : y.0.4.0 ≡ vptr lies.0 lies.1 ∷ [] → Asks words size count → slots_ptr words ≡ block_ptr b o → many < 2 ^ 64 → many * 8 < 2 ^ 63 → size < 2 ^ 64 → count < 2 ^ 64
        → ent 𝓤 (⋆ 𝓛 Had) (WpFn 𝓤 H C Λ code.function (vptr lies.0 lies.1 ∷ row_val b o many ∷ vint w64 size ∷ vint w64 count ∷ []) Post)
    walk passed asked at fits small fits_size fits_count =
        let p : Ptr = block_ptr b o in
        let long : many ≡ length xs = (slots_counts words).0 in
        let z : (Into words_type 𝓛 at_mem run).Ghost = at_into words_type 𝓛 at_mem run κ q words b o in
        qed 𝓛 Had ∵ enter ! C Λ code.function _ _ $
        alloc_all ! (λ l. pass_all ! refl ((tt, tt), ((tt, (tt, (record { fits = fits }, tt))), ((tt, record { fits = fits_size }), ((tt, record { fits = fits_count }), tt)))) $
        let En : Env 𝓤 H = env code.Mir.locals l in
        first ! $ blocks ! $ sets ! (of_opd ! (get ! refl)) refl (tt, (tt, (record { fits = fits }, tt))) $
        use2 𝓛 (raw ((Into words_type 𝓛 at_mem run).pre z)) (Into-goes words_type 𝓛 at_mem run κ q words b o (⊑_static κ)) $
        calls_at_last ! frames (Into words_type 𝓛 at_mem run) into z (and_then ! (get ! refl) (no_more !)) (λ v.
        use1 𝓛 (later (given (v ≡ row_val b o many) (‵ (places words_type b o xs (slots_filled words)) ⊛ ‵ (flft κ q)))) (Into-gives words_type 𝓛 at_mem run κ q words b o v at) $ await ! tt $ learn ! (λ is_row. split ! $
        lands_last ! refl (parts_typed v b o many is_row fits) $ exec ! C Λ En (after 1 code.function.body) (at_ret En Post) $
        sets ! (is ! (of_opd ! (get ! refl)) is_row) refl (tt, (tt, (record { fits = fits }, tt))) $
        sets ! (agg ! (and_then ! (get_in ! (fld ! refl (stop !)) (sub ! 0 refl (whole !))) (no_more !))) refl (word-Good [] p) $
        use1 𝓛 (‵ (cells (mem u64) xs b o)) (of_slots 𝓛 b xs (slots_filled words) o (as_long words) (all_filled words asked.0)) $
        use1 𝓛 (‵ (segments_own fresh)) (laid_out 𝓛 b size count xs o (sym long ∙ asked.1) (subst (λ (n : ℕ). n * 8 < 2 ^ 63) long small)) $
        -- [the fresh segments; the token; obs; the borrow]
        move ! (2 ∷ 3 ∷ 1 ∷ []) $ opens ! tt Owner {h = self.now} lies.0 lies.1 (λ vs. move ! (1 ∷ []) $ fsplit ! $
        -- [its field; the segments; its cell; the open borrow; obs; auth; the fresh ones]
        move ! (1 ∷ 6 ∷ []) $ use2 𝓛 (‵ (segments_own new.all)) (segments_glue 𝓛 self.now.all fresh) $
        move ! (1 ∷ 0 ∷ []) $ fjoin ! $ move ! (1 ∷ 0 ∷ []) $ closes ! tt Owner new vs lies.0 lies.1 $
        returns ! (look_at ! 0 refl) $ free_all ! refl $ keep ! (0 ∷ 1 ∷ 2 ∷ []) $
        suffices ! _ (ends_at 𝓛 f.ended stayed c y (word p) (record { ptr = p }) (new, (tt, (tt, (tt, tt)))) (tt, (tt, (tt, (tt, tt))))) $ says ! (sym at, tt, refl) $
        start_made ! p $ move ! (1 ∷ 2 ∷ 3 ∷ 0 ∷ []) $ nothing ! $ move ! (3 ∷ 0 ∷ []) $ join ! $ frame ! $ feq_i ! (List Val) y.0.4.0 (vptr lies.0 lies.1 ∷ []) passed $ fjoin3 ! $
        nothing ! $ nothing ! $ fjoin ! $ nothing ! $ fjoin ! $ nothing ! $ fjoin ! $ move ! (1 ∷ 0 ∷ []) $ fjoin ! $ done !))))

  entry : ent 𝓤 ((walk_of 𝓛 f.ended stayed c).pre y) (WpFn 𝓤 H C Λ code.function ((walk_of 𝓛 f.ended stayed c).args y) Post)
  entry =
      let us = y.0.4 in
      qed 𝓛 (((‵ (flft κ q) ⊛ ‵ ftrue) ⊛ ‵ (owns (types_at f.ended.signature.params y.0.0) y.0.3 us)) ∷ raw (fact 𝓤 (Asks words size count)) ∷ []) ∵
      move ! (1 ∷ []) $ heard ! (Asks words size count) (λ asked.
      split ! $ split ! $ move ! (2 ∷ []) $ fsplit ! $ fsplit3 ! $ feq_l ! (λ e0. move ! (2 ∷ []) $
      fsplit ! $ Row-seen words_type ! words us.1.0 (λ b o at e1 fits small. move ! (1 ∷ []) $
      fsplit ! $ fsplit ! $ feq_l ! (λ e2. flt_l ! (λ fits_size.
      fsplit ! $ fsplit ! $ feq_l ! (λ e3. flt_l ! (λ fits_count. keep ! (1 ∷ 4 ∷ 2 ∷ 3 ∷ []) $
      by ! (subst (λ (ws : List Val × List Val × List Val × List Val). ent 𝓤 (⋆ 𝓛 (Had b o)) (WpFn 𝓤 H C Λ code.function (ws.0 ++ (ws.1 ++ (ws.2 ++ (ws.3 ++ [])))) Post))
      (λ j. (sym e0 j, sym e1 j, sym e2 j, sym e3 j)) (walk b o e0 asked at fits small fits_size fits_count)))))))))

pub take_in_spec : {M : Type 1} → statement M
take_in_spec 𝓤 𝓛 𝓜 𝓡 wired =
    let c = f.clauses 𝓛 𝓜.mem 𝓡.returns in let 𝓣 = tables 𝓤 𝓛.H 𝓜 𝓡 𝓡.env in
    proved_at 𝓛 f.ended stayed c 𝓜 𝓡
    (Goes-ref 𝓛 1 0 tt (plain (λ _. Owner)), (Goes-dropped 𝓛 1 (plain (λ _. WordSlots)) yes (λ κs x w. refl), (Goes-dropped 𝓛 1 (plain (λ _. usize)) yes (λ κs x w. refl), (Goes-dropped 𝓛 1 (plain (λ _. usize)) yes (λ κs x w. refl), tt))))
    f.Key.name code.function (code.unfolded 𝓤 𝓛.H 𝓜 𝓡 wired)
    (λ y are. entry 𝓛 𝓜.mem 𝓡.returns 𝓣.C 𝓣.Λ (fm 𝓛 𝓜 𝓡) (callee.met 𝓤 𝓛 𝓜 𝓡 (code.calls-core::slots::Slots::into_raw_parts 𝓡.env wired) u64 word_laws) y)
