-- There is one order, one outcome and one answer.
use Rattle.std.proofs.Common.{◌≡◌, ℕ, List, sym, ap, ◌∙◌, subst}
use Rattle.auto_core.specs.Automaton.{Automaton}
use Rattle.auto_core.specs.Outcome.{Entry, Outcome, Closed, Apart, Limit, ComesOut}
use Rattle.auto_core.specs.declared.parts.Lasso.{Lasso}
use Rattle.auto_core.specs.declared.parts.Mode.{Mode}
use Rattle.auto_core.specs.declared.parts.Mode.TheVariants.{Buchi, Finite}
use Rattle.bit_rel.proofs.PairLemmas.{same_pairs}
use Rattle.auto_laws.proofs.OutcomeLemmas.{one_outcome}
use Rattle.auto_laws.proofs.PairOutcomeLemmas.{one_pair_outcome}
use Rattle.ba_format.specs.declared.parts.Joined.{Joined}
use Rattle.cert_value.specs.declared.types.Cert.{Cert}
use Rattle.cert_value.specs.declared.types.Body.{Body}
use Rattle.cert_value.specs.declared.types.Body.TheVariants.{Yes, NoLasso, NoWord, Listing}
use Rattle.cert_value.specs.declared.types.YesBody.{YesBody}
use Rattle.cert_value.specs.declared.types.ListBody.{ListBody}
use Rattle.evidence.specs.declared.parts.Closure.{Closure}
use Rattle.evidence.specs.Evidence.{IsEvidenceOf}
use Rattle.evidence.proofs.UniqueLemmas.{one_closure}
use Rattle.decide.specs.declared.terms.Terms.{Terms}
use Rattle.decide.specs.Searches.{rules_in}
use Rattle.decide.specs.Answer.{IsOrder, Reductions, closure_in, IsLassoOf, IsWordOf, IsBodyOf, IsAnswerBy}
use Rattle.decide.specs.Laws.{OneAnswer, OneOutcomeDecides}
use Rattle.decide.proofs.BlockUniqueLemmas.{one_block}
use Rattle.decide.proofs.EndUniqueLemmas.{reductions_are_one}

pub one_order : (B : Automaton) (S T : List (ℕ × ℕ)) → IsOrder B S → IsOrder B T → S ≡ T
one_order B S T a b =
    same_pairs S T a.ascending b.ascending
    (λ z has. b.greatest.has_each S a.greatest.in_range a.greatest.stable z.0 z.1 has)
    (λ z has. a.greatest.has_each T b.greatest.in_range b.greatest.stable z.0 z.1 has)

-- The search of each mode ends in one way.
one_end : (m : Mode) (A B : Automaton) (S : List (ℕ × ℕ)) (limit : ℕ) (o p : Outcome Entry) → ComesOut (rules_in m A B S) limit o → ComesOut (rules_in m A B S) limit p → o ≡ p
one_end Buchi A B S limit o p a b = one_outcome A B S limit o p a b
one_end Finite A B S limit o p a b = one_pair_outcome A B S limit o p a b

pub one_outcome_decides : OneOutcomeDecides
one_outcome_decides at terms S T o p a b =
    let same = one_order at.second S T a.order b.order in
    (same, one_end terms.mode at.first at.second T terms.limit o p (subst (λ U. ComesOut (rules_in terms.mode at.first at.second U) terms.limit o) same a.ends) b.ends)

yes_is : (y z : YesBody) → y.first ≡ z.first → y.second ≡ z.second → y.order ≡ z.order → y.elements ≡ z.elements → y.cover ≡ z.cover → y.steps ≡ z.steps → y ≡ z
yes_is y z a b c d e f =
    ap (λ k. record { first = k; second = y.second; order = y.order; elements = y.elements; cover = y.cover; steps = y.steps }) a
    ∙ ap (λ k. record { first = z.first; second = k; order = y.order; elements = y.elements; cover = y.cover; steps = y.steps }) b
    ∙ ap (λ k. record { first = z.first; second = z.second; order = k; elements = y.elements; cover = y.cover; steps = y.steps }) c
    ∙ ap (λ k. record { first = z.first; second = z.second; order = z.order; elements = k; cover = y.cover; steps = y.steps }) d
    ∙ ap (λ k. record { first = z.first; second = z.second; order = z.order; elements = z.elements; cover = k; steps = y.steps }) e
    ∙ ap (λ k. record { first = z.first; second = z.second; order = z.order; elements = z.elements; cover = z.cover; steps = k }) f

list_is : (k l : ListBody) → k.first ≡ l.first → k.second ≡ l.second → k.limit ≡ l.limit → k.elements ≡ l.elements → k ≡ l
list_is k l a b c d =
    ap (λ x. record { first = x; second = k.second; limit = k.limit; elements = k.elements }) a
    ∙ ap (λ x. record { first = l.first; second = x; limit = k.limit; elements = k.elements }) b
    ∙ ap (λ x. record { first = l.first; second = l.second; limit = x; elements = k.elements }) c
    ∙ ap (λ x. record { first = l.first; second = l.second; limit = l.limit; elements = x }) d

pub lasso_is : (k l : Lasso) → k.prefix ≡ l.prefix → k.turn ≡ l.turn → k ≡ l
lasso_is k l a b = ap (λ x. record { prefix = x; turn = k.turn }) a ∙ ap (λ x. record { prefix = l.prefix; turn = x }) b

one_lasso : (m : Mode) (x y : Entry) (k l : Lasso) → IsLassoOf m x y k → IsLassoOf m x y l → k ≡ l
one_lasso Buchi x y k l p q = lasso_is k l (p.0 ∙ sym q.0) (p.1 ∙ sym q.1)
one_lasso Finite x y k l p q = absurd p

one_word : (m : Mode) (x : Entry) (v w : List ℕ) → IsWordOf m x v → IsWordOf m x w → v ≡ w
one_word Buchi x v w p q = absurd p
one_word Finite x v w p q = p ∙ sym q

no_lasso_and_word : (m : Mode) (x y : Entry) (l : Lasso) (w : List ℕ) → IsLassoOf m x y l → IsWordOf m x w → ⊥
no_lasso_and_word Buchi x y l w p q = q
no_lasso_and_word Finite x y l w p q = p

same_closure : (m : Mode) (A B : Automaton) (S : List (ℕ × ℕ)) (es : List Entry) (y z : YesBody) → IsEvidenceOf (rules_in m A B S) es (closure_in y) → IsEvidenceOf (rules_in m A B S) es (closure_in z) → closure_in y ≡ closure_in z
same_closure m A B S es y z a b = one_closure (rules_in m A B S) es (closure_in y) (closure_in z) a b

one_body : (at : Reductions) (terms : Terms) (S : List (ℕ × ℕ)) (o : Outcome Entry) (b c : Body) → IsBodyOf at terms S o b → IsBodyOf at terms S o c → b ≡ c
one_body at terms S (Closed es) (Yes y) (Yes z) p q =
    ap Yes (yes_is y z (p.first_log ∙ sym q.first_log) (p.second_log ∙ sym q.second_log) (one_block S y.order z.order p.order q.order)
    (ap (λ (c : Closure). c.elements) (same_closure terms.mode at.first at.second S es y z p.closure q.closure)) (ap (λ (c : Closure). c.cover) (same_closure terms.mode at.first at.second S es y z p.closure q.closure))
    (ap (λ (c : Closure). c.steps) (same_closure terms.mode at.first at.second S es y z p.closure q.closure)))
one_body at terms S (Closed es) (Yes y) (NoLasso l) p q = absurd q
one_body at terms S (Closed es) (Yes y) (NoWord w) p q = absurd q
one_body at terms S (Closed es) (Yes y) (Listing l) p q = absurd q
one_body at terms S (Closed es) (NoLasso l) c p q = absurd p
one_body at terms S (Closed es) (NoWord w) c p q = absurd p
one_body at terms S (Closed es) (Listing l) c p q = absurd p
one_body at terms S (Apart x z) (Yes y) c p q = absurd p
one_body at terms S (Apart x z) (NoLasso k) (NoLasso l) p q = ap NoLasso (one_lasso terms.mode x z k l p q)
one_body at terms S (Apart x z) (NoLasso k) (Yes y) p q = absurd q
one_body at terms S (Apart x z) (NoLasso k) (NoWord w) p q = absurd (no_lasso_and_word terms.mode x z k w p q)
one_body at terms S (Apart x z) (NoLasso k) (Listing l) p q = absurd q
one_body at terms S (Apart x z) (NoWord v) (NoWord w) p q = ap NoWord (one_word terms.mode x v w p q)
one_body at terms S (Apart x z) (NoWord v) (NoLasso l) p q = absurd (no_lasso_and_word terms.mode x z l v q p)
one_body at terms S (Apart x z) (NoWord v) (Yes y) p q = absurd q
one_body at terms S (Apart x z) (NoWord v) (Listing l) p q = absurd q
one_body at terms S (Apart x z) (Listing l) c p q = absurd p
one_body at terms S (Limit es) (Yes y) c p q = absurd p
one_body at terms S (Limit es) (NoLasso k) c p q = absurd p
one_body at terms S (Limit es) (NoWord w) c p q = absurd p
one_body at terms S (Limit es) (Listing k) (Listing l) p q =
    ap Listing (list_is k l (p.first_log ∙ sym q.first_log) (p.second_log ∙ sym q.second_log) (p.limit_is ∙ sym q.limit_is) (p.origins ∙ sym q.origins))
one_body at terms S (Limit es) (Listing k) (Yes y) p q = absurd q
one_body at terms S (Limit es) (Listing k) (NoLasso l) p q = absurd q
one_body at terms S (Limit es) (Listing k) (NoWord w) p q = absurd q

cert_is : (c d : Cert) → c.version ≡ d.version → c.mode ≡ d.mode → c.first_states ≡ d.first_states → c.second_states ≡ d.second_states → c.labels ≡ d.labels → c.body ≡ d.body → c ≡ d
cert_is c d v p q r s t = λ i. record { version = v i; mode = p i; first_states = q i; second_states = r i; labels = s i; body = t i }

-- By one pair of log ends there is one answer.
one_answer_by : (at : Reductions) (pair : Joined) (terms : Terms) (c d : Cert) → IsAnswerBy at pair terms c → IsAnswerBy at pair terms d → c ≡ d
one_answer_by at pair terms c d p q =
    let same = one_outcome_decides at terms p.pairs q.pairs p.outcome q.outcome p.decides q.decides in
    let body : IsBodyOf at terms q.pairs q.outcome c.body =
    subst (λ S. IsBodyOf at terms S q.outcome c.body) same.0 (subst (λ o. IsBodyOf at terms p.pairs o c.body) same.1 p.body) in
    cert_is c d (p.version ∙ sym q.version) (p.mode ∙ sym q.mode) (p.sizes.0 ∙ sym q.sizes.0) (p.sizes.1 ∙ sym q.sizes.1) (p.sizes.2 ∙ sym q.sizes.2) (one_body at terms q.pairs q.outcome c.body d.body body q.body)

pub one_answer : OneAnswer
one_answer pair terms c d one two some (at, ends, p) (other, others, q) =
    one_answer_by at pair terms c d p (subst (λ e. IsAnswerBy e pair terms d) (reductions_are_one pair terms other at one two some others ends) q)
