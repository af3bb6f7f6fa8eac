-- What the logs of a certificate show: the first log only lets a language grow, and the second only lets one shrink.
use Rattle.std.proofs.Common.{◌≡◌, ◌==◌, ℕ, suc, ◌⊎◌, inl, inr, Bool, true, false, cond, ◌||◌, nat_lt, List, [], ◌∷◌, ◌++◌, All, Contains, refl, sym, ap, ◌∙◌, subst, arith}
use Rattle.std.specs.List.{list_any, list_all}
use Rattle.std.proofs.lemmas.Bool.{cases_eq, cond-false, ne_eqb, false≢true, and_parts}
use Rattle.std.proofs.lemmas.List.Elements.{All-contains}
use Rattle.auto_core.specs.Automaton.{Automaton, IsAutomaton, Moves, is_accepting, trans_at}
use Rattle.auto_core.specs.Run.{Run, repeated}
use Rattle.auto_core.specs.Accept.{Includes, AcceptsLasso, AcceptsWord}
use Rattle.auto_core.specs.Game.{Close, Holds}
use Rattle.auto_core.specs.Pruning.{AtSource, AtTarget, HasBetter, IsCut}
use Rattle.auto_core.specs.declared.parts.Trans.{Trans}
use Rattle.auto_core.specs.declared.parts.Mode.{Mode}
use Rattle.auto_core.specs.declared.parts.Mode.TheVariants.{Buchi, Finite}
use Rattle.auto_core.proofs.MoveLemmas.{move_at}
use Rattle.auto_core.proofs.MemberLemmas.{map_from}
use Rattle.useful_states.proofs.KeepLaws.{accepts_no_more, accepts_the_same}
use Rattle.quotient.proofs.MergeLaws.{accepts_more, forward_same, backward_same}
use Rattle.quotient.proofs.DelayedLaws.{delayed_quotient_is_same}
use Rattle.prune_pairs.proofs.PruneLaws.{pruning_same}
use Rattle.cert_value.specs.declared.types.FirstStep.{FirstStep}
use Rattle.cert_value.specs.declared.types.FirstStep.TheVariants as first
use Rattle.cert_value.specs.declared.types.SecondStep.{SecondStep}
use Rattle.cert_value.specs.declared.types.SecondStep.TheVariants as second
use Rattle.cert_value.specs.declared.types.Grounds.TheVariants.{Forward, Backward, Delayed}
use Rattle.cert_value.specs.declared.types.GoneBy.{GoneBy}
use Rattle.cert_value.specs.declared.types.RelBlock.{RelBlock}
use Rattle.cert_value.specs.WellFormed.{gone_of, blocks_due, are_classes, is_first_step, are_grounds, is_second_step}
use Rattle.log_check.specs.Follows.{StepFollows}
use Rattle.log_check.specs.FirstLog.{back_of, ahead_of, IsAtMost, IsAsGood, IsNotBack, IsNotRelatedBack, IsGoneIn, first_rules}
use Rattle.log_check.specs.SecondLog.{second_rules}
use Rattle.log_check.proofs.ShapeLemmas.{delayed_grounds}
use Rattle.log_check.specs.Laws.{IsEndOf, FirstLogGrows, SecondLogShrinks}

-- ---- inclusion and ends, step after step

includes_itself : (A : Automaton) (mode : Mode) → Includes A A mode
includes_itself A Buchi = λ u v acc. acc
includes_itself A Finite = λ w acc. acc

includes_on : (A B C : Automaton) (mode : Mode) → Includes A B mode → Includes B C mode → Includes A C mode
includes_on A B C Buchi h k = λ u v acc. k u v (h u v acc)
includes_on A B C Finite h k = λ w acc. k w (h w acc)

end_on : (A B C : Automaton) → IsEndOf A B → IsEndOf B C → IsEndOf A C
end_on A B C h k = record { valid = k.valid; labels = k.labels ∙ h.labels }

-- ---- an automaton with transitions cut accepts no more

module _ (A B : Automaton) (gone : List ℕ) (k : IsCut A gone B) where
  was_there : (p a q : ℕ) → Moves B p a q → Moves A p a q
  was_there p a q m =
      let (t, t_in, is, _) = (k.moves p a q).0 m in
      let P : Trans → Type 0 = λ x. Contains A.transitions x in
      subst P is (move_at A t t_in)

  accepts_same : (q : ℕ) → is_accepting B q ≡ is_accepting A q
  accepts_same q = ap (λ l. list_any (λ x. x == q) l) k.accepting

  run_before : (p : ℕ) (w : List ℕ) (q : ℕ) (flag : Bool) → Run B p w q flag → Run A p w q flag
  run_before p [] q flag h = h
  run_before p (a ∷ w) q flag (next, later, move, rest, is) =
      (next, later, was_there p a next move, run_before next w q later rest, is ∙ ap (λ b. b || later) (accepts_same next))

  cut_lassos : (u v : List ℕ) → AcceptsLasso B u v → AcceptsLasso A u v
  cut_lassos u v acc = record {
    before = acc.before;
    turns = acc.turns;
    state = acc.state;
    flag = acc.flag;
    enters = subst (λ x. Run A x (u ++ repeated v acc.before) acc.state acc.flag) k.initial (run_before B.initial (u ++ repeated v acc.before) acc.state acc.flag acc.enters);
    some_turn = acc.some_turn;
    cycles = run_before acc.state (repeated v acc.turns) acc.state true acc.cycles;
  }

  cut_words : (w : List ℕ) → AcceptsWord B w → AcceptsWord A w
  cut_words w acc = record {
    state = acc.state;
    flag = acc.flag;
    run = subst (λ x. Run A x w acc.state acc.flag) k.initial (run_before B.initial w acc.state acc.flag acc.run);
    ends = subst (λ l. Contains l acc.state) k.accepting acc.ends;
  }

pub cut_accepts_no_more : (A B : Automaton) (gone : List ℕ) (mode : Mode) → IsCut A gone B → Includes B A mode
cut_accepts_no_more A B gone Buchi k = cut_lassos A B gone k
cut_accepts_no_more A B gone Finite k = cut_words A B gone k

-- ---- as good and strictly better is better

abbrev IsPair : ℕ → Type 0
IsPair pair = (pair ≡ 1) ⊎ (pair ≡ 2) ⊎ (pair ≡ 3) ⊎ (pair ≡ 4)

pair_from_due : (pair : ℕ) → nat_lt 0 (blocks_due pair) ≡ true → IsPair pair
pair_from_due pair due = elim (cases_eq pair 1) [
  | inl e ↦ inl e
  | inr one ↦ elim (cases_eq pair 2) [
    | inl e ↦ inr (inl e)
    | inr two ↦ elim (cases_eq pair 3) [
      | inl e ↦ inr (inr (inl e))
      | inr three ↦ elim (cases_eq pair 4) [
        | inl e ↦ inr (inr (inr e))
        | inr four ↦
            let none : blocks_due pair ≡ 0 =
            cond-false (pair == 1) 1 (cond (pair == 2) 1 (cond (pair == 3) 2 (cond (pair == 4) 2 0))) (ne_eqb pair 1 one)
            ∙ cond-false (pair == 2) 1 (cond (pair == 3) 2 (cond (pair == 4) 2 0)) (ne_eqb pair 2 two)
            ∙ cond-false (pair == 3) 2 (cond (pair == 4) 2 0) (ne_eqb pair 3 three)
            ∙ cond-false (pair == 4) 2 0 (ne_eqb pair 4 four) in
            absurd (false≢true (ap (nat_lt 0) (sym none) ∙ due))
      ]
    ]
  ]
]

at_source : (pair : ℕ) (S : List (ℕ × ℕ)) (p q : ℕ) → IsPair pair → IsAtMost (pair ≡ 1) S p q → (pair ≡ 2 → IsNotBack S p q) → (pair ≡ 4 → IsNotBack S p q) → AtSource pair (Close (Holds S)) p q
at_source pair S p q (inl e) most two four = inl (e, most.0 e)
at_source pair S p q (inr (inl e)) most two four = inr (inl (e, (most.1 (λ f. omega (arith, e, f)), two e)))
at_source pair S p q (inr (inr (inl e))) most two four = inr (inr (inl (e, most.1 (λ f. omega (arith, e, f)))))
at_source pair S p q (inr (inr (inr e))) most two four = inr (inr (inr (e, (most.1 (λ f. omega (arith, e, f)), four e))))

at_target : (pair : ℕ) (S : List (ℕ × ℕ)) (p q : ℕ) → IsPair pair → IsAtMost (pair ≡ 2) S p q → (pair ≡ 1 → IsNotBack S p q) → (pair ≡ 3 → IsNotBack S p q) → AtTarget pair (Close (Holds S)) p q
at_target pair S p q (inl e) most one three = inl (e, (most.1 (λ f. omega (arith, e, f)), one e))
at_target pair S p q (inr (inl e)) most one three = inr (inl (e, most.0 e))
at_target pair S p q (inr (inr (inl e))) most one three = inr (inr (inl (e, (most.1 (λ f. omega (arith, e, f)), three e))))
at_target pair S p q (inr (inr (inr e))) most one three = inr (inr (inr (e, most.1 (λ f. omega (arith, e, f)))))

better_from_checks :
    (A : Automaton) (pair : ℕ) (blocks : List RelBlock) (gone : List GoneBy)
    → IsPair pair
    → All (IsGoneIn A) gone
    → All (IsAsGood A pair blocks) gone
    → All (IsNotRelatedBack A pair blocks) gone
    → (t : ℕ)
    → Contains (gone_of gone) t
    → HasBetter A pair (Close (Holds (back_of pair blocks))) (Close (Holds (ahead_of pair blocks))) t
better_from_checks A pair blocks gone is inside good strict t h =
    let (g, there, same) = map_from (λ (g : GoneBy). g.trans) gone t h in
    let numbers = All-contains (IsGoneIn A) gone g inside there in
    let as_good = All-contains (IsAsGood A pair blocks) gone g good there in
    let better = All-contains (IsNotRelatedBack A pair blocks) gone g strict there in
    let back = back_of pair blocks in
    let ahead = ahead_of pair blocks in
    subst (HasBetter A pair (Close (Holds back)) (Close (Holds ahead))) same (
      g.by,
      record {
        is = numbers.0;
        by = numbers.1;
        better = record {
          label = as_good.0;
          source = at_source pair back (trans_at A g.trans).source (trans_at A g.by).source is as_good.1 better.1 better.3;
          target = at_target pair ahead (trans_at A g.trans).target (trans_at A g.by).target is as_good.2 better.0 better.2;
        };
      },
    )

-- ---- the first log

first_step_grows :
    (mode : Mode) (A B : Automaton) (item : ℕ) (step : FirstStep)
    → IsAutomaton A
    → is_first_step step ≡ true
    → StepFollows FirstStep (first_rules mode) A item step B
    → Includes A B mode × IsEndOf A B
first_step_grows mode A B item (first.Trim kept) valid formed k =
    ((accepts_the_same A B kept mode k.holds.1.0 k.leads).0, record { valid = k.leads.valid; labels = k.leads.labels })
first_step_grows mode A B item (first.Merge classes) valid formed k =
    (accepts_more A B classes mode k.leads, record { valid = k.leads.valid; labels = k.leads.labels })
first_step_grows mode A B item (first.Cut pair look gone blocks) valid formed k =
    let due = and_parts (nat_lt 0 (blocks_due pair)) _ formed in
    let have = better_from_checks A pair blocks gone (pair_from_due pair due.0) k.holds.0.gone_in k.holds.1.1.0 k.holds.1.1.1.0 in
    let same = pruning_same A B pair look (back_of pair blocks) (ahead_of pair blocks) (gone_of gone) mode valid k.holds.0.look_is.0 k.holds.1.0.0 k.holds.1.0.1 have k.leads in
    (same.0, record { valid = k.leads.valid; labels = k.leads.labels })

pub first_log_grows : FirstLogGrows
first_log_grows mode A B item [] valid formed is =
    (subst (λ x. Includes A x mode) (sym is) (includes_itself A mode), subst (IsEndOf A) (sym is) (record { valid = valid; labels = refl }))
first_log_grows mode A B item (step ∷ steps) valid formed (C, keeps, rest) =
    let parts = and_parts (is_first_step step) (list_all is_first_step steps) formed in
    let here = first_step_grows mode A C item step valid parts.0 keeps in
    let later = first_log_grows mode C B (suc item) steps here.1.valid parts.1 rest in
    (includes_on A C B mode here.0 later.0, end_on A C B here.1 later.1)

-- ---- the second log

second_step_shrinks :
    (version : ℕ) (mode : Mode) (A B : Automaton) (item : ℕ) (step : SecondStep)
    → IsAutomaton A
    → is_second_step version mode step ≡ true
    → StepFollows SecondStep second_rules A item step B
    → Includes B A mode × IsEndOf A B
second_step_shrinks version mode A B item (second.Trim kept) valid formed k =
    (accepts_no_more A B kept mode k.leads, record { valid = k.leads.valid; labels = k.leads.labels })
second_step_shrinks version mode A B item (second.Cut gone) valid formed k =
    (cut_accepts_no_more A B gone mode k.leads, record { valid = k.leads.valid; labels = k.leads.labels })
second_step_shrinks version mode A B item (second.Merge (Forward look block) classes) valid formed k =
    ((forward_same A B classes look _ mode valid k.holds.0.0.0 k.holds.1.1.0 k.holds.1.1.1.0 k.leads).1, record { valid = k.leads.valid; labels = k.leads.labels })
second_step_shrinks version mode A B item (second.Merge (Backward look block) classes) valid formed k =
    ((backward_same A B classes look _ mode valid k.holds.0.0.0 k.holds.1.1.0 k.holds.1.1.1.0 k.leads).1, record { valid = k.leads.valid; labels = k.leads.labels })
second_step_shrinks version Buchi A B item (second.Merge (Delayed letters ranks) classes) valid formed k =
    let grounds = delayed_grounds version Buchi letters ranks (and_parts (are_classes classes) (are_grounds version Buchi (Delayed letters ranks)) formed).1 in
    ((delayed_quotient_is_same A B classes letters _ valid grounds.from_one k.holds.1.1.0 k.holds.1.1.1.0 k.leads).1, record { valid = k.leads.valid; labels = k.leads.labels })
second_step_shrinks version Finite A B item (second.Merge (Delayed letters ranks) classes) valid formed k =
    absurd (false≢true (and_parts (are_classes classes) false formed).1)

pub second_log_shrinks : SecondLogShrinks
second_log_shrinks version mode A B item [] valid formed is =
    (subst (λ x. Includes x A mode) (sym is) (includes_itself A mode), subst (IsEndOf A) (sym is) (record { valid = valid; labels = refl }))
second_log_shrinks version mode A B item (step ∷ steps) valid formed (C, keeps, rest) =
    let parts = and_parts (is_second_step version mode step) (list_all (is_second_step version mode) steps) formed in
    let here = second_step_shrinks version mode A C item step valid parts.0 keeps in
    let later = second_log_shrinks version mode C B (suc item) steps here.1.valid parts.1 rest in
    (includes_on B C A mode later.0 here.0, end_on A C B here.1 later.1)
