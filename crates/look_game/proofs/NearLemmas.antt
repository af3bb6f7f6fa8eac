-- Rows that are tried again because others have lost pairs.
use Rattle.std.proofs.Common.{◌≡◌, ℕ, suc, ◌+◌, ◌<◌, ◌≤◌, ◌⊎◌, ◌↔◌, inl, inr, Bool, true, false, List, length, get_or, Contains, sym, ap, ◌∙◌, subst, arith}
use Rattle.std.proofs.lemmas.Bool.{cases_eq, false≢true}
use Rattle.std.proofs.lemmas.List.{get_or_default}
use Rattle.auto_core.specs.Rows.{bit_of, HasBit}
use Rattle.auto_core.specs.Game.{Holds}
use Rattle.bit_rel.specs.Relation.{Relation, IsRelation}
use Rattle.look_round.specs.declared.moves.Move.{Move}
use Rattle.look_round.specs.Sides.{move}
use Rattle.look_game.specs.Taking.{TakesAway, TakesSome, KeepsOthers, HasRounds}
use Rattle.look_game.specs.Near.{IsReachedWithin, IsFarFrom, MarksNear, HasOtherRounds}
use Rattle.look_game.proofs.TakingLemmas.{round_near, takes_none, takes_then, takes_upto}

-- Of the first n moves of the list none leads to a state that one of the rows marks.
abbrev pub LeadElsewhere : List Move → List ℕ → List ℕ → ℕ → Type 0
LeadElsewhere moves marks near n = (j : ℕ) → j < n → (bit_of marks (get_or moves j (move 0 0)).to ≡ false) × (bit_of near (get_or moves j (move 0 0)).to ≡ false)

pub leads_elsewhere :
    (moves : List Move) (marks near : List ℕ) (n : ℕ) (m : Move)
    → LeadElsewhere moves marks near n
    → m ≡ get_or moves n (move 0 0)
    → bit_of marks m.to ≡ false
    → bit_of near m.to ≡ false
    → LeadElsewhere moves marks near (n + 1)
leads_elsewhere moves marks near n m h is a b j j_in = elim (cases_eq j n) [
  | inl e ↦
      let P : Move → Type 0 = λ x. (bit_of marks x.to ≡ false) × (bit_of near x.to ≡ false) in
      subst P (is ∙ ap (λ i. get_or moves i (move 0 0)) (sym e)) (a, b)
  | inr apart ↦ h j (omega arith)
]

pub all_elsewhere :
    (moves : List Move) (marks near : List ℕ) (n : ℕ) (goes : ℕ → ℕ → Type 0)
    → ((a r : ℕ) → Contains moves (move a r) ↔ goes a r)
    → n ≡ length moves
    → LeadElsewhere moves marks near n
    → (a m : ℕ)
    → goes a m
    → (bit_of marks m ≡ false) × (bit_of near m ≡ false)
all_elsewhere moves marks near n goes lists all h a m go =
    let (j, j_in, is) = (lists a m).1 go in
    let here : get_or moves j (move 0 0) ≡ move a m = get_or_default moves j (move 0 0) (move a m) j_in ∙ is in
    let P : Move → Type 0 = λ x. (bit_of marks x.to ≡ false) × (bit_of near x.to ≡ false) in
    subst P here (h j (omega arith))

-- The states below n from which a move leads to a marked state have their bit.
abbrev pub HasSteps : (ℕ → ℕ → ℕ → Type 0) → List ℕ → List ℕ → List ℕ → ℕ → Type 0
HasSteps M marks near next n = (p a m : ℕ) → p < n → M p a m → HasBit marks m ⊎ HasBit near m → HasBit next p

pub step_marked :
    (M : ℕ → ℕ → ℕ → Type 0) (marks near next new : List ℕ) (n : ℕ)
    → HasSteps M marks near next n
    → bit_of new n ≡ true
    → ((i : ℕ) → ¬ (i ≡ n) → bit_of new i ≡ bit_of next i)
    → HasSteps M marks near new (n + 1)
step_marked M marks near next new n h here others p a m p_in go either = elim (cases_eq p n) [
  | inl e ↦ subst (λ x. HasBit new x) (sym e) here
  | inr apart ↦ others p apart ∙ h p a m (omega arith) go either
]

pub step_passed :
    (M : ℕ → ℕ → ℕ → Type 0) (marks near next : List ℕ) (n : ℕ)
    → HasSteps M marks near next n
    → ((a m : ℕ) → M n a m → (bit_of marks m ≡ false) × (bit_of near m ≡ false))
    → HasSteps M marks near next (n + 1)
step_passed M marks near next n h none p a m p_in go either = elim (cases_eq p n) [
  | inl e ↦
      let off = none a m (subst (λ x. M x a m) e go) in
      absurd (elim either [ inl bit ↦ false≢true (sym off.0 ∙ bit) | inr bit ↦ false≢true (sym off.1 ∙ bit) ])
  | inr apart ↦ h p a m (omega arith) go either
]

pub none_near : (M : ℕ → ℕ → ℕ → Type 0) (n : ℕ) (marks near : List ℕ) → MarksNear M n 0 marks near
none_near M n marks near p r p_in bit reached = absurd reached

pub next_near :
    (M : ℕ → ℕ → ℕ → Type 0) (n k l : ℕ) (marks near next : List ℕ)
    → l ≡ suc k
    → ((p a q : ℕ) → M p a q → q < n)
    → MarksNear M n k marks near
    → HasSteps M marks near next n
    → MarksNear M n l marks next
next_near M n k l marks near next is stays h steps = subst (λ j. MarksNear M n j marks next) (sym is) one
  where
    one : MarksNear M n (suc k) marks next
    one p r p_in bit (a, m, go, more) = elim more [
      | inl e ↦ steps p a m p_in go (inl (subst (λ x. HasBit marks x) (sym e) bit))
      | inr later ↦ steps p a m p_in go (inr (h m r (stays p a m go) bit later))
    ]

module _ (M : ℕ → ℕ → ℕ → Type 0) (ok : ℕ → ℕ → Type 0) (k : ℕ) where
  -- all rows are marked
  pub others_begin : (n : ℕ) (R : Relation) (marks : List ℕ) → IsRelation R → R.size ≡ n → ((p : ℕ) → p < n → HasBit marks p) → HasOtherRounds M ok k R marks
  others_begin n R marks valid size all p unmarked q held =
      let below = valid.in_range p q held in
      let lt = below.0 in
      absurd (unmarked (all p (omega arith)))

  -- the rows near those that changed are marked
  pub others_again :
      (n : ℕ) (R : Relation) (changed marks : List ℕ)
      → IsRelation R
      → R.size ≡ n
      → MarksNear M n k changed marks
      → ((p : ℕ) → IsFarFrom M k changed p → HasRounds M ok k R p)
      → HasOtherRounds M ok k R marks
  others_again n R changed marks valid size near apart p unmarked q held =
      let below = valid.in_range p q held in
      let lt = below.0 in
      apart p (λ r bit reached. unmarked (near p r (omega arith) bit reached)) q held

  -- The rows from n on were tried if they are marked; `changed` marks those that lost pairs.
  pub record IsTrying (marks : List ℕ) (old now : Relation) (changed : List ℕ) (any : Bool) (n : ℕ) : Type 0 where
    pub valid : IsRelation old
    pub takes : TakesAway M ok k old now
    pub some : any ≡ true → TakesSome old now
    pub none : any ≡ false → (r : ℕ) → HasBit changed r → ⊥
    pub rounds : (p : ℕ) → (n ≤ p) ⊎ (HasBit marks p → ⊥) → IsFarFrom M k changed p → HasRounds M ok k now p

  pub trying_begins :
      (marks : List ℕ) (R : Relation) (changed : List ℕ) (n : ℕ)
      → IsRelation R
      → n ≡ R.size
      → ((r : ℕ) → bit_of changed r ≡ false)
      → HasOtherRounds M ok k R marks
      → IsTrying marks R R changed false n
  trying_begins marks R changed n valid size clear others = record {
    valid = valid;
    takes = takes_none M ok k R valid;
    some = λ e. absurd (false≢true e);
    none = λ e r bit. false≢true (sym (clear r) ∙ bit);
    rounds = λ p either apart q held. elim either [
      | inl far ↦ let below = valid.in_range p q held in let lt = below.0 in absurd (omega arith)
      | inr unmarked ↦ others p unmarked q held
    ];
  }

  -- the row lost pairs
  pub row_lost :
      (marks : List ℕ) (old now new : Relation) (changed after : List ℕ) (any : Bool) (p n : ℕ)
      → p + 1 ≡ n
      → IsTrying marks old now changed any n
      → TakesAway M ok k now new
      → TakesSome now new
      → KeepsOthers p now new
      → ((IsReachedWithin M k p p → ⊥) → HasRounds M ok k new p)
      → bit_of after p ≡ true
      → ((i : ℕ) → ¬ (i ≡ p) → bit_of after i ≡ bit_of changed i)
      → IsTrying marks old new after true p
  row_lost marks old now new changed after any p n next h takes fewer keeps free here others =
      let upto = takes_upto M ok k old now h.valid h.takes in
      record {
        valid = h.valid;
        takes = takes_then M ok k old now new h.takes takes;
        some = λ e. omega arith;
        none = λ e. absurd (false≢true (sym e));
        rounds = λ r either apart. elim (cases_eq r p) [
          | inl e ↦
              let P : ℕ → Type 0 = λ x. HasRounds M ok k new x in
              subst P (sym e) (free (λ reached. apart p here (subst (λ x. IsReachedWithin M k x p) (sym e) reached)))
          | inr other ↦ stay r (elim either [ inl lt ↦ inl (omega arith) | inr unmarked ↦ inr unmarked ]) apart
        ];
      }
    where
      still : (r : ℕ) → HasBit changed r → HasBit after r
      still r bit = elim (cases_eq r p) [ inl e ↦ subst (λ x. HasBit after x) (sym e) here | inr other ↦ others r other ∙ bit ]

      stay : (r : ℕ) → (n ≤ r) ⊎ (HasBit marks r → ⊥) → IsFarFrom M k after r → HasRounds M ok k new r
      stay r either apart q held =
          round_near M ok (Holds now.pairs) (Holds new.pairs) k r q
          (λ u v reached is. keeps u v (λ e. apart u (subst (λ x. HasBit after x) (sym e) here) reached) is)
          (h.rounds r either (λ u bit reached. apart u (still u bit) reached) q (takes.within r q held))

  -- it lost none
  pub row_kept :
      (marks : List ℕ) (old now new : Relation) (changed : List ℕ) (any : Bool) (p n : ℕ)
      → p + 1 ≡ n
      → IsTrying marks old now changed any n
      → new ≡ now
      → HasRounds M ok k new p
      → IsTrying marks old new changed any p
  row_kept marks old now new changed any p n next h same rounds =
      let P : Relation → Type 0 = λ R. IsTrying marks old R changed any p in
      let Q : Relation → Type 0 = λ R. HasRounds M ok k R p in
      subst P (sym same) (on (subst Q same rounds))
    where
      on : HasRounds M ok k now p → IsTrying marks old now changed any p
      on here = record {
        valid = h.valid;
        takes = h.takes;
        some = h.some;
        none = h.none;
        rounds = λ r either apart. elim (cases_eq r p) [
          | inl e ↦ let T : ℕ → Type 0 = λ x. HasRounds M ok k now x in subst T (sym e) here
          | inr other ↦ h.rounds r (elim either [ inl lt ↦ inl (omega arith) | inr unmarked ↦ inr unmarked ]) apart
        ];
      }

  -- it is not marked
  pub row_passed :
      (marks : List ℕ) (old now : Relation) (changed : List ℕ) (any : Bool) (p n : ℕ)
      → p + 1 ≡ n
      → IsTrying marks old now changed any n
      → (HasBit marks p → ⊥)
      → IsTrying marks old now changed any p
  row_passed marks old now changed any p n next h unmarked = record {
    valid = h.valid;
    takes = h.takes;
    some = h.some;
    none = h.none;
    rounds = λ r either apart. elim (cases_eq r p) [
      | inl e ↦ h.rounds r (inr (subst (λ x. HasBit marks x → ⊥) (sym e) unmarked)) apart
      | inr other ↦ h.rounds r (elim either [ inl lt ↦ inl (omega arith) | inr off ↦ inr off ]) apart
    ];
  }

  -- all rows have been tried
  pub all_tried :
      (marks : List ℕ) (old now : Relation) (changed : List ℕ) (any : Bool) (n : ℕ)
      → IsTrying marks old now changed any n
      → n ≡ 0
      → (p : ℕ)
      → IsFarFrom M k changed p
      → HasRounds M ok k now p
  all_tried marks old now changed any n h all p apart = h.rounds p (inl (omega arith)) apart
