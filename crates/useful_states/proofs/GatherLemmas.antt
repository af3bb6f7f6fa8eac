-- What is there after one state more, after some states more, and after all that are reached.
use Rattle.std.proofs.Common.{◌≡◌, ℕ, zero, suc, ◌+◌, ◌<◌, ◌≤◌, ◌⊎◌, ◌↔◌, inl, inr, List, [], ◌∷◌, ◌++◌, length, Contains, refl, sym, ap, ◌∙◌, subst, arith, le_refl}
use Rattle.std.proofs.lemmas.Bool.{cases_eq, cases_lt}
use Rattle.std.proofs.lemmas.List.{get_or_default}
use Rattle.auto_core.specs.Automaton.{Automaton, Moves, IsOutgoing, IsIncoming, trans_at}
use Rattle.auto_core.specs.Game.{Chain, Close}
use Rattle.auto_core.specs.declared.parts.Trans.{Trans}
use Rattle.auto_core.proofs.MoveLemmas.{outgoing_moves, moves_in_outgoing, incoming_moves, moves_in_incoming}
use Rattle.auto_core.proofs.ReachLemmas.{close_refl, close_one, close_trans}
use Rattle.auto_core.specs.Members.{Members, Gains}
use Rattle.auto_laws.proofs.PumpingLemmas.{pigeonhole}
use Rattle.strong_components.specs.Graph.{at}
use Rattle.strong_components.specs.Steps.{Begins}
use Rattle.strong_components.proofs.StateLemmas.{pushed}
use Rattle.useful_states.specs.declared.gathering.Gathered.{Gathered}
use Rattle.useful_states.specs.declared.direction.Direction.TheVariants.{Forward, Backward}
use Rattle.useful_states.specs.Gathering.{MovesAlong, ListsMembers, HasGained, HoldsJust}

-- ---- lists that go on

pub begins_itself : (xs : List ℕ) → Begins xs xs
begins_itself xs = record { size = le_refl (length xs); same = λ i lt. refl }

begins_on : (xs ys zs : List ℕ) → Begins xs ys → Begins ys zs → Begins xs zs
begins_on xs ys zs one two = record {
  size = let a = one.size in let b = two.size in omega arith;
  same = λ i lt. let a = one.size in two.same i (omega arith) ∙ one.same i lt;
}

-- ---- one state more

-- The state is there already.
pub had_it : (g : Gathered) (p : ℕ) → ListsMembers g → Contains g.set.members p → HasGained (λ q. q ≡ p) g g
had_it g p listed there = record {
  listed = listed;
  states = refl;
  members = λ q. (λ h. inl h, λ h. elim h [ inl was ↦ was | inr e ↦ subst (λ r. Contains g.set.members r) (sym e) there ]);
  begins = begins_itself g.list.items;
}

-- The state comes to the end of the list.
pub got_it :
    (old new : Gathered) (p : ℕ)
    → ListsMembers old
    → p < old.set.states
    → (Contains old.set.members p → ⊥)
    → new.list.items ≡ old.list.items ++ p ∷ []
    → Gains old.set new.set p
    → HasGained (λ q. q ≡ p) old new
got_it old new p listed p_in fresh is_list gains = record {
  listed = record { below = below; sound = sound; full = full; different = different };
  states = gains.states;
  members = gains.members;
  begins = record { size = omega (arith, size); same = same };
}
  where
    size : length new.list.items ≡ length old.list.items + 1
    size = ap length is_list ∙ (pushed old.list.items p).size

    same : (i : ℕ) → i < length old.list.items → at new.list.items i ≡ at old.list.items i
    same i lt = ap (λ l. at l i) is_list ∙ (pushed old.list.items p).same i lt

    last : at new.list.items (length old.list.items) ≡ p
    last = ap (λ l. at l (length old.list.items)) is_list ∙ (pushed old.list.items p).last

    below : (i : ℕ) → i < length new.list.items → at new.list.items i < new.set.states
    below i lt =
        let all = gains.states in
        elim (cases_eq i (length old.list.items)) [
          | inl e ↦ let is = ap (at new.list.items) e ∙ last in omega (arith, is)
          | inr apart ↦
              let near : i < length old.list.items = omega (arith, size) in
              let is = same i near in
              let fits = listed.below i near in
              omega arith
        ]

    sound : (i : ℕ) → i < length new.list.items → Contains new.set.members (at new.list.items i)
    sound i lt = elim (cases_eq i (length old.list.items)) [
      | inl e ↦ (gains.members (at new.list.items i)).1 (inr (ap (at new.list.items) e ∙ last))
      | inr apart ↦
          let near : i < length old.list.items = omega (arith, size) in
          (gains.members (at new.list.items i)).1 (inl (subst (λ q. Contains old.set.members q) (sym (same i near)) (listed.sound i near)))
    ]

    full : (q : ℕ) → Contains new.set.members q → (i : ℕ) × (i < length new.list.items) × (at new.list.items i ≡ q)
    full q there = elim ((gains.members q).0 there) [
      | inl was ↦ let (i, lt, is) = listed.full q was in (i, omega (arith, size, lt), same i lt ∙ is)
      | inr e ↦ (length old.list.items, omega (arith, size), last ∙ sym e)
    ]

    different : (i j : ℕ) → i < j → j < length new.list.items → at new.list.items i ≡ at new.list.items j → ⊥
    different i j less lt equal =
        let near : i < length old.list.items = omega (arith, size) in
        elim (cases_eq j (length old.list.items)) [
          | inl e ↦ fresh (subst (λ q. Contains old.set.members q) (sym (same i near) ∙ equal ∙ ap (at new.list.items) e ∙ last) (listed.sound i near))
          | inr apart ↦
              let far : j < length old.list.items = omega (arith, size) in
              listed.different i j less far (sym (same i near) ∙ equal ∙ same j far)
        ]

-- ---- some states more

-- Nothing is added.
pub gained_none : (P : ℕ → Type 0) (g : Gathered) → ListsMembers g → ((q : ℕ) → P q → ⊥) → HasGained P g g
gained_none P g listed none = record {
  listed = listed;
  states = refl;
  members = λ q. (λ h. inl h, λ h. elim h [ inl was ↦ was | inr is ↦ absurd (none q is) ]);
  begins = begins_itself g.list.items;
}

-- First these, and then those.
pub gained_more : (P Q R : ℕ → Type 0) (old mid new : Gathered) → HasGained P old mid → HasGained Q mid new → ((q : ℕ) → R q ↔ (P q ⊎ Q q)) → HasGained R old new
gained_more P Q R old mid new one two both = record {
  listed = two.listed;
  states = two.states ∙ one.states;
  members = λ q. (
    λ h. elim ((two.members q).0 h) [
      | inl there ↦ elim ((one.members q).0 there) [ inl was ↦ inl was | inr is ↦ inr ((both q).1 (inl is)) ]
      | inr is ↦ inr ((both q).1 (inr is))
    ],
    λ h. (two.members q).1 (elim h [
      | inl was ↦ inl ((one.members q).1 (inl was))
      | inr is ↦ elim ((both q).0 is) [ inl first ↦ inl ((one.members q).1 (inr first)) | inr then ↦ inr then ]
    ]),
  );
  begins = begins_on old.list.items mid.list.items new.list.items one.begins two.begins;
}

-- The same states by another name.
pub gained_as : (P R : ℕ → Type 0) (old new : Gathered) → HasGained P old new → ((q : ℕ) → R q ↔ P q) → HasGained R old new
gained_as P R old new g same = record {
  listed = g.listed;
  states = g.states;
  members = λ q. (
    λ h. elim ((g.members q).0 h) [ inl was ↦ inl was | inr is ↦ inr ((same q).1 is) ],
    λ h. (g.members q).1 (elim h [ inl was ↦ inl was | inr is ↦ inr ((same q).0 is) ]),
  );
  begins = g.begins;
}

-- ---- of the states below n those of P

pub held_new : (states : ℕ) (g : Gathered) → g.set ≡ record { states = states; members = [] } → g.list.items ≡ [] → HoldsJust states (λ q. ⊥) g
held_new states g is_set is_list = record {
  listed = record {
    below = λ i lt. absurd (omega (arith, lt, ap length is_list));
    sound = λ i lt. absurd (omega (arith, lt, ap length is_list));
    full = λ q there. absurd (no_member q there);
    different = λ i j less lt same. absurd (omega (arith, lt, ap length is_list));
  };
  size = ap (λ (S : Members). S.states) is_set;
  members = λ q. (λ there. no_member q there, λ h. absurd h);
}
  where
    no_member : (q : ℕ) → Contains g.set.members q → ⊥
    no_member q there = let (k, lt, is) = subst (λ (S : Members). Contains S.members q) is_set there in omega (arith, lt)

-- There is none below 0.
pub held_none : (P : ℕ → Type 0) (states : ℕ) (none : ℕ → Type 0) (g : Gathered) → ((q : ℕ) → none q → ⊥) → HoldsJust states none g → HoldsJust states (λ q. (q < 0) × P q) g
held_none P states none g nothing h = record {
  listed = h.listed;
  size = h.size;
  members = λ q. (λ there. absurd (nothing q ((h.members q).0 there)), λ (lt, is). absurd (omega (arith, lt)));
}

-- One more below n + 1.
pub members_more : (P : ℕ → Type 0) (n : ℕ) (old new : List ℕ) → ((q : ℕ) → Contains old q ↔ ((q < n) × P q)) → P n → ((q : ℕ) → Contains new q ↔ (Contains old q ⊎ (q ≡ n))) → (q : ℕ) → Contains new q ↔ ((q < n + 1) × P q)
members_more P n old new are is gains q = (
  λ h. elim ((gains q).0 h) [
    | inl was ↦ let (lt, so) = (are q).0 was in (omega (arith, lt), so)
    | inr e ↦ (omega arith, subst P (sym e) is)
  ],
  λ (lt, so). (gains q).1 (elim (cases_eq q n) [ inl e ↦ inr e | inr apart ↦ inl ((are q).1 (omega (arith, lt, apart), so)) ]),
)

-- No more below n + 1.
pub members_same : (P : ℕ → Type 0) (n : ℕ) (old : List ℕ) → ((q : ℕ) → Contains old q ↔ ((q < n) × P q)) → (P n → ⊥) → (q : ℕ) → Contains old q ↔ ((q < n + 1) × P q)
members_same P n old are not q = (
  λ h. let (lt, so) = (are q).0 h in (omega (arith, lt), so),
  λ (lt, so). elim (cases_eq q n) [ inl e ↦ absurd (not (subst P e so)) | inr apart ↦ (are q).1 (omega (arith, lt, apart), so) ],
)

pub held_more : (P : ℕ → Type 0) (states n : ℕ) (old new : Gathered) → HoldsJust states (λ q. (q < n) × P q) old → P n → HasGained (λ q. q ≡ n) old new → HoldsJust states (λ q. (q < n + 1) × P q) new
held_more P states n old new h is gained = record {
  listed = gained.listed;
  size = gained.states ∙ h.size;
  members = members_more P n old.set.members new.set.members h.members is gained.members;
}

pub held_same : (P : ℕ → Type 0) (states n : ℕ) (g : Gathered) → HoldsJust states (λ q. (q < n) × P q) g → (P n → ⊥) → HoldsJust states (λ q. (q < n + 1) × P q) g
held_same P states n g h not = record { listed = h.listed; size = h.size; members = members_same P n g.set.members h.members not }

-- All are below.
pub held_all : (P : ℕ → Type 0) (states n : ℕ) (g : Gathered) → ((q : ℕ) → P q → q < n) → HoldsJust states (λ q. (q < n) × P q) g → HoldsJust states P g
held_all P states n g below h = record {
  listed = h.listed;
  size = h.size;
  members = λ q. (λ there. ((h.members q).0 there).1, λ is. (h.members q).1 (below q is, is));
}

-- What is held, and what has come to it.
pub held_and : (P Q R : ℕ → Type 0) (states : ℕ) (old new : Gathered) → HoldsJust states P old → HasGained Q old new → ((q : ℕ) → R q ↔ (P q ⊎ Q q)) → HoldsJust states R new
held_and P Q R states old new h gained both = record {
  listed = gained.listed;
  size = gained.states ∙ h.size;
  members = λ q. (
    λ there. (both q).1 (elim ((gained.members q).0 there) [ inl was ↦ inl ((h.members q).0 was) | inr is ↦ inr is ]),
    λ is. (gained.members q).1 (elim ((both q).0 is) [ inl was ↦ inl ((h.members q).1 was) | inr more ↦ inr more ]),
  );
}

-- ---- all that are reached

-- The list is no longer than the states are many.
pub list_is_short : (g : Gathered) → ListsMembers g → length g.list.items ≤ g.set.states
list_is_short g listed = elim (cases_lt g.set.states (length g.list.items)) [
  | inl more ↦
      let (i, j, less, lt, same) = pigeonhole g.set.states g.list.items more (λ k d lt. let is = get_or_default g.list.items k d 0 lt in let below = listed.below k lt in omega arith) in
      absurd (listed.different i j less lt (same 0))
  | inr few ↦ few
]

-- All that is there is reached along R, and where one step from the places before `done` leads is there.
pub record IsClosing (R : ℕ → ℕ → Type 0) (old now : Gathered) (done : ℕ) : Type 0 where
  pub listed : ListsMembers now
  pub states : now.set.states ≡ old.set.states
  pub kept : (q : ℕ) → Contains old.set.members q → Contains now.set.members q
  pub reached : (q : ℕ) → Contains now.set.members q → (p : ℕ) × Contains old.set.members p × Close R p q
  pub closed : (i q : ℕ) → i < done → R (at now.list.items i) q → Contains now.set.members q
  pub begins : Begins old.list.items now.list.items

module _ (R : ℕ → ℕ → Type 0) where
  pub closing_starts : (g : Gathered) → ListsMembers g → IsClosing R g g 0
  closing_starts g listed = record {
    listed = listed;
    states = refl;
    kept = λ q there. there;
    reached = λ q there. (q, there, close_refl R q);
    closed = λ i q lt step. absurd (omega (arith, lt));
    begins = begins_itself g.list.items;
  }

  pub closing_more : (old now new : Gathered) (done : ℕ) → IsClosing R old now done → done < length now.list.items → HasGained (R (at now.list.items done)) now new → IsClosing R old new (done + 1)
  closing_more old now new done c within gained = record {
    listed = gained.listed;
    states = gained.states ∙ c.states;
    kept = λ q there. (gained.members q).1 (inl (c.kept q there));
    reached = λ q there. elim ((gained.members q).0 there) [
      | inl was ↦ c.reached q was
      | inr step ↦
          let (p, first, way) = c.reached (at now.list.items done) (c.listed.sound done within) in
          (p, first, close_trans R p (at now.list.items done) q way (close_one R (at now.list.items done) q step))
    ];
    closed = λ i q lt step. elim (cases_eq i done) [
      | inl e ↦ (gained.members q).1 (inr (subst (λ p. R p q) (ap (at new.list.items) e ∙ gained.begins.same done within) step))
      | inr apart ↦ (gained.members q).1 (inl (c.closed i q (omega (arith, lt, apart)) (subst (λ p. R p q) (gained.begins.same i (omega (arith, lt, apart, within))) step)))
    ];
    begins = begins_on old.list.items now.list.items new.list.items c.begins gained.begins;
  }

  stays : (now : Gathered) → ((p q : ℕ) → Contains now.set.members p → R p q → Contains now.set.members q) → (n p q : ℕ) → Contains now.set.members p → Chain R n p q → Contains now.set.members q
  stays now closed zero p q there e = subst (λ r. Contains now.set.members r) e there
  stays now closed (suc n) p q there (r, step, rest) = stays now closed n r q (closed p r there step) rest

  pub closing_ends : (old now : Gathered) (done : ℕ) → IsClosing R old now done → length now.list.items ≤ done → HasGained (λ q. (p : ℕ) × Contains old.set.members p × Close R p q) old now
  closing_ends old now done c all = record {
    listed = c.listed;
    states = c.states;
    members = λ q. (
      λ there. inr (c.reached q there),
      λ h. elim h [
        | inl was ↦ c.kept q was
        | inr (p, there, way) ↦ stays now (λ r s is step.
            let (i, lt, place) = c.listed.full r is in
            c.closed i s (omega (arith, lt, all)) (subst (λ x. R x s) (sym place) step)) way.0 p q (c.kept p there) way.1
      ],
    );
    begins = c.begins;
  }

-- ---- the ends of transitions

-- One of the numbers from `begin` up to `end` names q.
abbrev pub Named : (ℕ → ℕ) → ℕ → ℕ → ℕ → Type 0
Named f begin end q = (i : ℕ) × (i < end) × (begin ≤ i) × (f i ≡ q)

pub named_none : (f : ℕ → ℕ) (begin : ℕ) (g : Gathered) → ListsMembers g → HasGained (Named f begin begin) g g
named_none f begin g listed = gained_none (Named f begin begin) g listed (λ q (i, lt, from, is). omega (arith, lt, from))

pub named_more : (f : ℕ → ℕ) (begin t x : ℕ) (old now new : Gathered) → begin ≤ t → x ≡ f t → HasGained (Named f begin t) old now → HasGained (λ q. q ≡ x) now new → HasGained (Named f begin (t + 1)) old new
named_more f begin t x old now new from is one two = gained_more (Named f begin t) (λ q. q ≡ x) (Named f begin (t + 1)) old now new one two (λ q. (
  λ (i, lt, low, name). elim (cases_eq i t) [ inl e ↦ inr (sym name ∙ ap f e ∙ sym is) | inr apart ↦ inl (i, omega (arith, lt, apart), low, name) ],
  λ h. elim h [ inl (i, lt, low, name) ↦ (i, omega (arith, lt), low, name) | inr e ↦ (t, omega arith, from, sym is ∙ sym e) ],
))

module _ (A : Automaton) where
  pub targets_named : (p begin end : ℕ) → IsOutgoing A p begin end → (q : ℕ) → MovesAlong A Forward p q ↔ Named (λ t. (trans_at A t).target) begin end q
  targets_named p begin end range q = (
    λ (a, move).
        let (t, from, below, is) = moves_in_outgoing A p begin end range a q move in
        (t, below, from, ap (λ (u : Trans). u.target) is),
    λ (t, below, from, is). ((trans_at A t).label, subst (λ x. Moves A p (trans_at A t).label x) is (outgoing_moves A p begin end range t from below)),
  )

  pub sources_named : (p : ℕ) (numbers : List ℕ) → IsIncoming A p numbers → (q : ℕ) → MovesAlong A Backward p q ↔ Named (λ k. (trans_at A (at numbers k)).source) 0 (length numbers) q
  sources_named p numbers incoming q = (
    λ (a, move).
        let (k, below, is) = moves_in_incoming A p numbers incoming q a move in
        (k, below, omega arith, ap (λ (u : Trans). u.source) is),
    λ (k, below, from, is). ((trans_at A (at numbers k)).label, subst (λ x. Moves A x (trans_at A (at numbers k)).label p) is (incoming_moves A p numbers incoming k below)),
  )
