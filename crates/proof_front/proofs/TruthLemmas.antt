-- What fronts show that keep their rules.
use Rattle.std.proofs.Common.{◌≡◌, ℕ, ◌&&◌, true, List, length, sym, ◌∙◌, ap, subst, refl}
use Rattle.std.specs.List.{list_all}
use Rattle.std.proofs.lemmas.Bool.{and_parts}
use Rattle.auto_core.specs.Automaton.{Automaton, IsAutomaton}
use Rattle.auto_core.specs.Accept.{Includes}
use Rattle.auto_core.specs.Quotient.{class_of, IsQuotient}
use Rattle.auto_core.specs.declared.parts.Mode.TheVariants.{Buchi}
use Rattle.map_laws.specs.Maps.{CarriesOver}
use Rattle.map_laws.proofs.MapLemmas.{carried_over}
use Rattle.map_laws.proofs.LetterLemmas.{included_over_classes}
use Rattle.useful_states.proofs.KeepLaws.{trimmed_the_same}
use Rattle.cert_value.specs.WellFormed.{is_short, are_short, are_kept, is_first_step, is_second_step}
use Rattle.log_check.specs.Laws.{IsEndOf}
use Rattle.log_check.proofs.LawLemmas.{first_log_grows, second_log_shrinks}
use Rattle.proof_text.specs.declared.types.Front.{Front}
use Rattle.proof_text.specs.ProofText.{is_front}
use Rattle.proof_front.specs.Front.{HasAccepting, AcceptsJustIn, first_becomes}
use Rattle.proof_front.specs.Laws.{KeptFrontCarriesOver, KeptFrontMakesAutomata}
use Rattle.proof_front.proofs.OneLemmas.{same_labels}

-- ---- what a front's form tells

pub record FrontParts (f : Front) : Type 0 where
  pub second_short : is_short (length f.second) ≡ true
  pub second_steps : list_all (is_second_step 2 Buchi) f.second ≡ true
  pub accepting : are_kept f.accepting ≡ true
  pub first_short : is_short (length f.first) ≡ true
  pub first_steps : list_all is_first_step f.first ≡ true

pub front_parts : (f : Front) → is_front f ≡ true → FrontParts f
front_parts f h =
    let last = is_short (length f.first) && list_all is_first_step f.first in
    let a = and_parts (is_short (length f.second)) (list_all (is_second_step 2 Buchi) f.second && (are_short f.letters && (are_short f.map && (are_kept f.accepting && last)))) h in
    let b = and_parts (list_all (is_second_step 2 Buchi) f.second) (are_short f.letters && (are_short f.map && (are_kept f.accepting && last))) a.1 in
    let c = and_parts (are_short f.letters) (are_short f.map && (are_kept f.accepting && last)) b.1 in
    let d = and_parts (are_short f.map) (are_kept f.accepting && last) c.1 in
    let e = and_parts (are_kept f.accepting) last d.1 in
    let g = and_parts (is_short (length f.first)) (list_all is_first_step f.first) e.1 in
    record { second_short = a.0; second_steps = b.0; accepting = e.0; first_short = g.0; first_steps = g.1 }

-- ---- the first automaton only grows

-- The classes of states carry it over, whatever accepts besides.
carries : (A Q W : Automaton) (classes states : List ℕ) → IsQuotient A classes Q → HasAccepting Q states → AcceptsJustIn Q states W → CarriesOver A W (class_of classes)
carries A Q W classes states q has just = record {
  initial = just.initial ∙ q.initial;
  moves = λ p a r m. (just.moves (class_of classes p) a (class_of classes r)).1 ((q.moves (class_of classes p) a (class_of classes r)).1 (p, r, m, refl, refl));
  accepting = λ r h. (just.accepting (class_of classes r)).1 (has (class_of classes r) ((q.accepting (class_of classes r)).1 (r, h, refl)));
}

first_grows : (A E : Automaton) (front : Front) → is_front front ≡ true → (first_becomes A front).Keeps E → Includes A E Buchi
first_grows A E front formed (Q, mapped, (C, accepts, log)) =
    let made = accepts.1 in
    let over = carried_over A made.whole (class_of front.map) Buchi (carries A Q made.whole front.map front.accepting mapped.1 accepts.0.1.0 made.accepts) in
    let trims = trimmed_the_same made.whole C Buchi made.trimmed in
    let valid : IsAutomaton C = made.trimmed.2.valid in
    let grows = first_log_grows Buchi C E _ front.first valid (front_parts front formed).first_steps log in
    λ u v accepted. grows.0 u v (trims.0 u v (over u v accepted))

-- ---- the second only shrinks, and over its letters inclusion is the same

pub kept_front : KeptFrontCarriesOver
kept_front A B front ends a b labels formed (C, log, (over, letters, (becomes, same))) shown =
    let shrinks = second_log_shrinks 2 Buchi B C 1 front.second b (front_parts front formed).second_steps log in
    let made = letters.1 in
    let trims = trimmed_the_same made.renamed over.first Buchi made.trimmed in
    let grows = first_grows over.first ends.first front formed becomes in
    let last : Includes ends.first over.second Buchi = subst (λ x. Includes ends.first x Buchi) same shown in
    let classes : Includes made.renamed over.second Buchi = λ u v accepted. last u v (grows u v (trims.0 u v accepted)) in
    let whole = (included_over_classes A C made.renamed over.second front.letters Buchi a shrinks.1.valid (labels ∙ sym shrinks.1.labels) letters.0.1.0 made.first made.second).1 classes in
    λ u v accepted. shrinks.0 u v (whole u v accepted)

-- ---- what they become are automata over the same labels

first_makes : (A E : Automaton) (front : Front) → is_front front ≡ true → (first_becomes A front).Keeps E → IsEndOf A E
first_makes A E front formed (Q, mapped, (C, accepts, log)) =
    let made = accepts.1 in
    let part = made.trimmed.2 in
    let end = (first_log_grows Buchi C E _ front.first part.valid (front_parts front formed).first_steps log).1 in
    record { valid = end.valid; labels = end.labels ∙ (part.labels ∙ (made.accepts.labels ∙ mapped.1.labels)) }

pub front_makes : KeptFrontMakesAutomata
front_makes A B front ends a b labels formed (C, log, (over, letters, (becomes, same))) =
    let shrinks = second_log_shrinks 2 Buchi B C 1 front.second b (front_parts front formed).second_steps log in
    let made = letters.1 in
    let first = first_makes over.first ends.first front formed becomes in
    let alike = same_labels A C made.renamed over.second front.letters (labels ∙ sym shrinks.1.labels) made.first made.second in
    let second : ends.second ≡ over.second = same in
    record {
      first = first.valid;
      second = subst IsAutomaton (sym second) made.second.valid;
      labels = first.labels ∙ (made.trimmed.2.labels ∙ (alike ∙ ap (λ (x : Automaton). x.labels) (sym second)));
    }
