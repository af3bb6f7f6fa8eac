-- Visiting a row: its lost pairs are found, and then taken away.
use Rattle.std.proofs.Common.{◌≡◌, ℕ, ◌+◌, ◌<◌, ◌≤◌, ◌↔◌, ◌⊎◌, inl, inr, Bool, true, false, List, length, refl, sym, ◌∙◌, subst, arith}
use Rattle.std.proofs.lemmas.Bool.{cases_eq, cases_lt, false≢true}
use Rattle.auto_core.specs.Rows.{bit_of, HasBit}
use Rattle.auto_core.specs.Game.{Round, Holds}
use Rattle.bit_rel.specs.Relation.{Relation, IsRelation, Removes}
use Rattle.bit_rows.specs.Walks.{IsNextBit}
use Rattle.look_round.specs.declared.answering.Answering.{Answering}
use Rattle.look_round.specs.Answering.{IsAnsweredAtOnce, IsRowOfAnswers}
use Rattle.look_round.proofs.AnsweringLemmas.{bit_cases, answered_round}
use Rattle.look_game.specs.Taking.{TakesAway, TakesSome, KeepsOthers, HasRounds}
use Rattle.look_game.specs.Near.{IsReachedWithin}
use Rattle.look_game.specs.Visiting.{TakesRow}
use Rattle.look_game.proofs.TakingLemmas.{round_more, round_near, takes_some}

-- Of the states of the row those below n were tried, and those of which P does not hold are in `lost`.
pub record AreTried (row lost : List ℕ) (P : ℕ → Type 0) (n : ℕ) : Type 0 where
  pub fail : (q : ℕ) → HasBit lost q → (q < n) × HasBit row q × (P q → ⊥)
  pub rounds : (q : ℕ) → q < n → HasBit row q → (HasBit lost q → ⊥) → P q

pub none_tried : (row lost : List ℕ) (P : ℕ → Type 0) → ((q : ℕ) → bit_of lost q ≡ false) → AreTried row lost P 0
none_tried row lost P clear = record {
  fail = λ q bit. absurd (false≢true (sym (clear q) ∙ bit));
  rounds = λ q q_in. absurd (omega arith);
}

-- the next state of the row, of which P holds
pub tried_holds :
    (row lost : List ℕ) (P : ℕ → Type 0) (n q : ℕ)
    → AreTried row lost P n
    → IsNextBit row n q
    → P q
    → AreTried row lost P (q + 1)
tried_holds row lost P n q h next holds =
    let upto = next.behind in
    record {
      fail = λ r bit. let was = h.fail r bit in let lt = was.0 in (omega arith, was.1, was.2);
      rounds = λ r r_in bit none. elim (cases_eq r q) [
        | inl e ↦ subst P (sym e) holds
        | inr apart ↦ elim (cases_lt r n) [
          | inl before ↦ h.rounds r before bit none
          | inr from ↦ absurd (false≢true (sym (next.none_between r from (omega arith)) ∙ bit))
        ]
      ];
    }

-- of which it does not hold
pub tried_fails :
    (row old new : List ℕ) (P : ℕ → Type 0) (n q : ℕ)
    → AreTried row old P n
    → IsNextBit row n q
    → (P q → ⊥)
    → bit_of new q ≡ true
    → ((i : ℕ) → ¬ (i ≡ q) → bit_of new i ≡ bit_of old i)
    → AreTried row new P (q + 1)
tried_fails row old new P n q h next fails here others =
    let upto = next.behind in
    record {
      fail = λ r bit. elim (cases_eq r q) [
        | inl e ↦ (omega arith, subst (λ x. HasBit row x) (sym e) next.here, λ holds. fails (subst P e holds))
        | inr apart ↦ let was = h.fail r (sym (others r apart) ∙ bit) in let lt = was.0 in (omega arith, was.1, was.2)
      ];
      rounds = λ r r_in bit none. elim (cases_eq r q) [
        | inl e ↦ absurd (none (subst (λ x. HasBit new x) (sym e) here))
        | inr apart ↦ elim (cases_lt r n) [
          | inl before ↦ h.rounds r before bit (λ was. none (others r apart ∙ was))
          | inr from ↦ absurd (false≢true (sym (next.none_between r from (omega arith)) ∙ bit))
        ]
      ];
    }

-- The pairs of p with the states of the row below n were taken away.
pub record IsTaking (p : ℕ) (lost : List ℕ) (old now : Relation) (changed : Bool) (n : ℕ) : Type 0 where
  pub size : now.size ≡ old.size
  pub valid : IsRelation now
  pub pairs : (r s : ℕ) → Holds now.pairs r s ↔ (Holds old.pairs r s × (r ≡ p → s < n → HasBit lost s → ⊥))
  pub upto : length now.pairs ≤ length old.pairs
  pub some : changed ≡ true → TakesSome old now
  pub same : changed ≡ false → now ≡ old
  pub none : changed ≡ false → (q : ℕ) → q < n → HasBit lost q → ⊥

pub taking_begins : (p : ℕ) (lost : List ℕ) (R : Relation) → IsRelation R → IsTaking p lost R R false 0
taking_begins p lost R valid = record {
  size = refl;
  valid = valid;
  pairs = λ r s. (λ h. (h, λ e s_in. absurd (omega arith)), λ h. h.0);
  upto = omega arith;
  some = λ e. absurd (false≢true e);
  same = λ e. refl;
  none = λ e q q_in. absurd (omega arith);
}

-- the next pair is taken away
pub pair_lost :
    (p : ℕ) (lost : List ℕ) (old now new : Relation) (changed : Bool) (n q : ℕ)
    → IsTaking p lost old now changed n
    → IsNextBit lost n q
    → Holds old.pairs p q
    → Removes now new p q
    → IsRelation new
    → IsTaking p lost old new true (q + 1)
pair_lost p lost old now new changed n q h next held removes valid =
    let behind = next.behind in
    let there : Holds now.pairs p q = (h.pairs p q).1 (held, λ e q_in. absurd (omega arith)) in
    let fewer : TakesSome now new = takes_some now new p q h.valid valid removes there in
    let upto = h.upto in
    record {
      size = removes.size ∙ h.size;
      valid = valid;
      pairs = λ r s. (
        λ stays.
            let was = (removes.pairs r s).0 stays in
            let first = (h.pairs r s).0 was.0 in (
              first.0,
              λ e s_in bit. elim (cases_eq s q) [
                | inl f ↦ was.1 ((e, f))
                | inr apart ↦ elim (cases_lt s n) [
                  | inl before ↦ first.1 e before bit
                  | inr from ↦ false≢true (sym (next.none_between s from (omega arith)) ∙ bit)
                ]
              ],
            ),
        λ (was, none). (removes.pairs r s).1
            ((
              (h.pairs r s).1 (was, λ e s_in bit. none e (omega arith) bit),
              λ same. let f = same.1 in none same.0 (omega arith) (subst (λ x. HasBit lost x) (sym same.1) next.here),
            )),
      );
      upto = omega arith;
      some = λ e. omega arith;
      same = λ e. absurd (false≢true (sym e));
      none = λ e. absurd (false≢true (sym e));
    }

-- all were
pub all_taken :
    (p : ℕ) (lost : List ℕ) (old now : Relation) (changed : Bool) (n : ℕ)
    → IsTaking p lost old now changed n
    → ((q : ℕ) → n ≤ q → bit_of lost q ≡ false)
    → TakesRow p lost old now
all_taken p lost old now changed n h clear = record {
  size = h.size;
  valid = h.valid;
  pairs = λ r s. (
    λ stays. let first = (h.pairs r s).0 stays in (
      first.0,
      λ e bit. elim (cases_lt s n) [
        | inl before ↦ first.1 e before bit
        | inr from ↦ false≢true (sym (clear s from) ∙ bit)
      ],
    ),
    λ (was, none). (h.pairs r s).1 (was, λ e s_in bit. none e bit),
  );
}

pub none_taken :
    (p : ℕ) (lost : List ℕ) (old now : Relation) (changed : Bool) (n : ℕ)
    → IsTaking p lost old now changed n
    → ((q : ℕ) → n ≤ q → bit_of lost q ≡ false)
    → changed ≡ false
    → (q : ℕ)
    → HasBit lost q
    → ⊥
none_taken p lost old now changed n h clear e q bit = elim (cases_lt q n) [
  | inl before ↦ h.none e q before bit
  | inr from ↦ false≢true (sym (clear q from) ∙ bit)
]

module _ (M : ℕ → ℕ → ℕ → Type 0) (ok : ℕ → ℕ → Type 0) (k p : ℕ) (rest lost : List ℕ) (old new : Relation) (takes : TakesRow p lost old new) where
  -- what was taken away has no round
  pub takes_lost : ((q : ℕ) → HasBit lost q → Round M M ok k (Holds old.pairs) p q → ⊥) → TakesAway M ok k old new
  takes_lost none = record {
    size = takes.size;
    valid = takes.valid;
    within = λ r s h. ((takes.pairs r s).0 h).0;
    leaves = λ T stable inside r s h.
        (takes.pairs r s).1
        ((
          inside r s h,
          λ e bit.
              let round : Round M M ok k (Holds old.pairs) r s = round_more M ok (Holds T) (Holds old.pairs) k r s inside (stable r s h).1 in
              none s bit (subst (λ x. Round M M ok k (Holds old.pairs) x s) e round),
        ));
  }

  pub takes_here : KeepsOthers p old new
  takes_here r s apart h = (takes.pairs r s).1 (h, λ e. absurd (apart e))

  module _ (some : 1 ≤ k)
      (answered : (q : ℕ) → Holds old.pairs p q → (HasBit rest q → ⊥) → (a r : ℕ) → M p a r → IsAnsweredAtOnce M ok (Holds old.pairs) a r q)
      (rounds : (q : ℕ) → HasBit rest q → (HasBit lost q → ⊥) → Round M M ok k (Holds old.pairs) p q) where
    stays_round : (q : ℕ) → Holds new.pairs p q → Round M M ok k (Holds old.pairs) p q
    stays_round q stays =
        let was = (takes.pairs p q).0 stays in
        elim (bit_cases (bit_of rest q)) [
          | inl bit ↦ rounds q bit (was.1 refl)
          | inr clear ↦ answered_round M ok (Holds old.pairs) k p q some (answered q was.0 (λ bit. false≢true (sym clear ∙ bit)))
        ]

    -- where none was, each has its round
    pub rounds_same : new ≡ old → HasRounds M ok k new p
    rounds_same same q stays = subst (λ (R : Relation). Round M M ok k (Holds R.pairs) p q) (sym same) (stays_round q stays)

    -- where the row is not reached from itself, its pairs that are left have their rounds still
    pub rounds_apart : (IsReachedWithin M k p p → ⊥) → HasRounds M ok k new p
    rounds_apart free q stays =
        round_near M ok (Holds old.pairs) (Holds new.pairs) k p q
        (λ u v reached is. (takes.pairs u v).1 (is, λ e. absurd (free (subst (λ x. IsReachedWithin M k p x) e reached))))
        (stays_round q stays)

-- what a row was related to is what it is related to and what it has lost
pub related_or_lost :
    (p : ℕ) (lost : List ℕ) (old new : Relation)
    → TakesRow p lost old new
    → ((q : ℕ) → HasBit lost q → Holds old.pairs p q)
    → (q : ℕ)
    → Holds old.pairs p q ↔ (Holds new.pairs p q ⊎ HasBit lost q)
related_or_lost p lost old new takes were q = (
  λ held. elim (bit_cases (bit_of lost q)) [
    | inl bit ↦ inr bit
    | inr clear ↦ inl ((takes.pairs p q).1 (held, λ _ bit. false≢true (sym clear ∙ bit)))
  ],
  λ either. elim either [ inl is ↦ ((takes.pairs p q).0 is).0 | inr bit ↦ were q bit ],
)

-- a row that is as it was answers as it did
pub answers_same :
    (M : ℕ → ℕ → ℕ → Type 0) (ok V W : ℕ → ℕ → Type 0) (rows : Answering) (p : ℕ)
    → ((r : ℕ) → V p r ↔ W p r)
    → IsRowOfAnswers M ok V rows p
    → IsRowOfAnswers M ok W rows p
answers_same M ok V W rows p both h a q a_in q_in = (
  λ cell. let (r, go, match, is) = (h a q a_in q_in).0 cell in (r, go, match, (both r).0 is),
  λ (r, go, match, is). (h a q a_in q_in).1 (r, go, match, (both r).1 is),
)
