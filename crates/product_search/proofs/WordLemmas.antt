-- The words by which pairs were found, and the cycle that a quiet way back makes.
use Rattle.std.proofs.Common.{◌≡◌, ℕ, zero, suc, ◌<◌, Bool, true, false, inl, inr, List, [], ◌∷◌, ◌++◌, length, Contains, reverse, refl, sym, ap, ◌∙◌, subst, arith}
use Rattle.std.proofs.lemmas.List.{reverse-append}
use Rattle.std.proofs.lemmas.Bool.{cases_eq, true≢false}
use Rattle.std.proofs.lemmas.List.Elements.{Contains-push}
use Rattle.auto_core.specs.Automaton.{Automaton, IsAccepting}
use Rattle.auto_core.specs.Game.{Chain, Close}
use Rattle.product_laws.specs.Reached.{LeadsTo, IsReachedPair, IsBadCycle, IsQuietWay}
use Rattle.product_laws.proofs.WayLemmas.{leads_nowhere, leads_on, quiet_nowhere, quiet_on, bad_cycle}
use Rattle.product_search.specs.declared.found.Step.{Step}
use Rattle.product_search.specs.Found.{pair_at, step_at, Follows, AreFound, Grows, IsClosedAt, AllExpanded}
use Rattle.product_search.specs.Arcs.{QuietStep}
use Rattle.product_search.specs.Words.{IsSpelledBack, IsWordTo}
use Rattle.product_search.proofs.FoundLemmas.{place_of, grows_contains, grows_at}

-- One step back more.
pub spelled_on : (steps : List Step) (i : ℕ) (letters : List ℕ) (j : ℕ) → IsSpelledBack steps i letters j → 0 < j → IsSpelledBack steps i (letters ++ (step_at steps j).letter ∷ []) (step_at steps j).from
spelled_on steps i [] j is some = (subst (λ n. 0 < n) (sym is) some, ap (λ n. (step_at steps n).letter) (sym is), ap (λ n. (step_at steps n).from) is)
spelled_on steps i (a ∷ letters) j (more, is, rest) some = (more, is, spelled_on steps (step_at steps i).from letters j rest some)

-- Over all moves, the word leads to the pair.
module _ (A B : Automaton) (pairs : List (ℕ × ℕ)) (steps : List Step) (found : AreFound A B false pairs steps) (initial : pair_at pairs 0 ≡ (A.initial, B.initial)) where
  abbrev Leads : List ℕ → ℕ × ℕ → Type 0
  Leads w x = LeadsTo A B w x.0 x.1

  leads : (letters : List ℕ) (i : ℕ) → i < length pairs → IsSpelledBack steps i letters 0 → Leads (reverse letters) (pair_at pairs i)
  leads [] i lt is = subst (Leads []) (sym (ap (pair_at pairs) is ∙ initial)) (leads_nowhere A B)
  leads (a ∷ letters) i lt (some, is, rest) =
      let step : Step = step_at steps i in
      let (before, (move, goes, calm)) = found.found i some lt in
      let earlier : step.from < length pairs = omega (arith, before, lt) in
      let x : ℕ × ℕ = pair_at pairs step.from in
      let y : ℕ × ℕ = pair_at pairs i in
      subst (λ w. Leads w y) (sym (reverse-append (a ∷ []) letters))
      (subst (λ b. Leads (reverse letters ++ b ∷ []) y) (sym is) (leads_on A B (reverse letters) x.0 x.1 step.letter y.0 y.1 (leads letters step.from earlier rest) move goes))

  pub word_leads : (i : ℕ) → i < length pairs → (word : List ℕ) → IsWordTo steps i word → Leads word (pair_at pairs i)
  word_leads i lt word (letters, is, spelled) = subst (λ w. Leads w (pair_at pairs i)) (sym is) (leads letters i lt spelled)

  -- So each pair is reached.
  pub each_reached : (most i : ℕ) → i < most → i < length pairs → IsReachedPair A B (pair_at pairs i).0 (pair_at pairs i).1
  each_reached zero i few lt = absurd (omega (arith, few))
  each_reached (suc most) i few lt = elim (cases_eq i 0) [
    | inl e ↦ ([], subst (Leads []) (sym (ap (pair_at pairs) e ∙ initial)) (leads_nowhere A B))
    | inr apart ↦
        let step : Step = step_at steps i in
        let (before, (move, goes, calm)) = found.found i (omega arith) lt in
        let old = each_reached most step.from (omega (arith, before, few)) (omega (arith, before, lt)) in
        let x : ℕ × ℕ = pair_at pairs step.from in
        let y : ℕ × ℕ = pair_at pairs i in
        (old.0 ++ step.letter ∷ [], leads_on A B old.0 x.0 x.1 step.letter y.0 y.1 old.1 move goes)
  ]

-- Over quiet steps, it is a quiet way.
module _ (A B : Automaton) (pairs : List (ℕ × ℕ)) (steps : List Step) (found : AreFound A B true pairs steps) where
  abbrev Way : List ℕ → ℕ × ℕ → Type 0
  Way w x = IsQuietWay A B (pair_at pairs 0).0 (pair_at pairs 0).1 w x.0 x.1

  quiet_way : (letters : List ℕ) (i : ℕ) → i < length pairs → IsSpelledBack steps i letters 0 → Way (reverse letters) (pair_at pairs i)
  quiet_way [] i lt is = subst (Way []) (sym (ap (pair_at pairs) is)) (quiet_nowhere A B (pair_at pairs 0).0 (pair_at pairs 0).1)
  quiet_way (a ∷ letters) i lt (some, is, rest) =
      let step : Step = step_at steps i in
      let (before, (move, goes, calm)) = found.found i some lt in
      let earlier : step.from < length pairs = omega (arith, before, lt) in
      let x : ℕ × ℕ = pair_at pairs step.from in
      let y : ℕ × ℕ = pair_at pairs i in
      subst (λ w. Way w y) (sym (reverse-append (a ∷ []) letters))
      (subst (λ b. Way (reverse letters ++ b ∷ []) y) (sym is)
      (quiet_on A B (pair_at pairs 0).0 (pair_at pairs 0).1 (reverse letters) x.0 x.1 step.letter y.0 y.1 (quiet_way letters step.from earlier rest) (move, goes, calm refl)))

  pub word_is_way : (i : ℕ) → i < length pairs → (word : List ℕ) → IsWordTo steps i word → Way word (pair_at pairs i)
  word_is_way i lt word (letters, is, spelled) = subst (λ w. Way w (pair_at pairs i)) (sym is) (quiet_way letters i lt spelled)

  -- A quiet way to a pair, and a quiet step from it to the first, whose left state accepts.
  pub word_makes_cycle : (i : ℕ) → i < length pairs → (word : List ℕ) → IsWordTo steps i word → (x y : ℕ × ℕ) → pair_at pairs i ≡ x → pair_at pairs 0 ≡ y → (a : ℕ) → Follows A B true x a y → IsAccepting A y.0
      → IsBadCycle A B y.0 y.1 (word ++ a ∷ [])
  word_makes_cycle i lt word spelled x y is_x is_y a follows accepts =
      let way : IsQuietWay A B y.0 y.1 word x.0 x.1 = subst (λ z. IsQuietWay A B z.0 z.1 word x.0 x.1) is_y (subst (Way word) is_x (word_is_way i lt word spelled)) in
      let (move, goes, calm) = follows in
      bad_cycle A B y.0 y.1 word x.0 x.1 a way (move, goes, calm refl) accepts

-- Pairs that are closed have each one to which quiet steps lead from one of them.
module _ (A B : Automaton) (pairs ways : List (ℕ × ℕ)) (closed : (i : ℕ) → i < length ways → IsClosedAt A B true ways i) where
  chain_stays : (n i j : ℕ) → Chain (QuietStep A B pairs) n i j → Contains ways (pair_at pairs i) → Contains ways (pair_at pairs j)
  chain_stays zero i j is there = subst (λ m. Contains ways (pair_at pairs m)) is there
  chain_stays (suc n) i j (r, (a, follows), rest) there =
      let (m, lt, is) = place_of ways (pair_at pairs i) there in
      chain_stays n r j rest (closed m lt a (pair_at pairs r) (subst (λ x. Follows A B true x a (pair_at pairs r)) (sym is) follows))

  pub close_stays : (i j : ℕ) → Close (QuietStep A B pairs) i j → Contains ways (pair_at pairs i) → Contains ways (pair_at pairs j)
  close_stays i j (n, chain) there = chain_stays n i j chain there

-- The pairs that are found from one of them by quiet steps have those to which such steps lead.
pub ways_have : (A B : Automaton) (pairs : List (ℕ × ℕ)) (i j : ℕ) → Close (QuietStep A B pairs) i j → (x y : ℕ × ℕ) → x ≡ pair_at pairs i → y ≡ pair_at pairs j → (limit : ℕ) (start ways : List (ℕ × ℕ)) (steps : List Step) (flag : Bool) → start ≡ x ∷ [] → flag ≡ true
    → AllExpanded A B true limit start ways steps flag → Contains ways y
ways_have A B pairs i j close x y is_x is_y limit start ways steps flag is_start on (found, grows, inl (told, few, closed)) =
    let there : Contains ways x = grows_contains start ways grows x (subst (λ l. Contains l x) (sym is_start) (Contains-push [] x)) in
    subst (Contains ways) (sym is_y) (close_stays A B pairs ways closed i j close (subst (Contains ways) is_x there))
ways_have A B pairs i j close x y is_x is_y limit start ways steps flag is_start on (found, grows, inr (off, many)) = absurd (true≢false (sym on ∙ off))

pub first_stays : (x : ℕ × ℕ) (start pairs : List (ℕ × ℕ)) → start ≡ x ∷ [] → Grows start pairs → pair_at pairs 0 ≡ x
first_stays x start pairs is_start grows = grows_at (x ∷ []) pairs (subst (λ l. Grows l pairs) is_start grows) 0 (omega arith)
