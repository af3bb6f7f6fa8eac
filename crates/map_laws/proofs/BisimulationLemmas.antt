-- Paths through the classes of a bisimulation.
use Rattle.std.proofs.Common.{◌≡◌, ℕ, ◌<◌, List, [], ◌∷◌, refl, sym, ◌∙◌}
use Rattle.std.proofs.lemmas.List.Elements.{All-contains}
use Rattle.auto_core.specs.Automaton.{Automaton, IsAutomaton}
use Rattle.auto_core.specs.Run.{Path}
use Rattle.auto_core.specs.Game.{MatchesForward, AllMatched}
use Rattle.auto_core.specs.Quotient.{class_of, IsQuotient}
use Rattle.auto_core.specs.declared.parts.Mode.TheVariants.{Buchi, Finite}
use Rattle.auto_core.proofs.MoveLemmas.{move_in_range}
use Rattle.auto_laws.proofs.TransferLemmas.{transfer, transfer_words}
use Rattle.map_laws.specs.Bisimulation.{IsBisimulation, QuotientCarriesOver, BisimulationQuotientIsSame}
use Rattle.map_laws.proofs.MapLemmas.{carried_over}

pub quotient_carries : QuotientCarriesOver
quotient_carries A B classes k = record {
  initial = k.initial;
  moves = λ p a q m. (k.moves (class_of classes p) a (class_of classes q)).1 (p, q, m, refl, refl);
  accepting = λ q h. (k.accepting (class_of classes q)).1 (q, h, refl);
}

module _ (A B : Automaton) (classes : List ℕ) (valid : IsAutomaton A) (alike : IsBisimulation A classes) (k : IsQuotient A classes B) where
  -- an accepting class has accepting members alone
  members_accept : (d s : ℕ) → s < A.states → d ≡ class_of classes s → MatchesForward B A d s
  members_accept d s s_in is acc =
      let (y, y_acc, d_is) = (k.accepting d).0 acc in
      alike.accept y s (All-contains (λ x. x < A.states) A.accepting y valid.accepting_in_range y_acc) s_in (sym d_is ∙ is) y_acc

  -- a path through classes has a path from any member of the first
  followed : (p c : ℕ) (w cs : List ℕ) → p < A.states → c ≡ class_of classes p → Path B c w cs → (qs : List ℕ) × Path A p w qs × AllMatched (MatchesForward B A) cs qs
  followed p c [] [] p_in is h = ([], tt, tt)
  followed p c [] (d ∷ cs) p_in is h = absurd h
  followed p c (a ∷ w) [] p_in is h = absurd h
  followed p c (a ∷ w) (d ∷ cs) p_in is (m, rest) =
      let (x, r, move, c_is, d_is) = (k.moves c a d).0 m in
      let (s, answer, same) = alike.moves x p a r (move_in_range A valid x a r move).0 p_in (sym c_is ∙ is) move in
      let s_in = (move_in_range A valid p a s answer).1 in
      let (qs, path, matched) = followed s d w cs s_in (d_is ∙ same) rest in
      (s ∷ qs, (answer, path), (members_accept d s s_in (d_is ∙ same), matched))

pub same_quotient : BisimulationQuotientIsSame
same_quotient A B classes Buchi valid alike k = (
  carried_over A B (class_of classes) Buchi (quotient_carries A B classes k),
  transfer B A valid (λ w cs path. followed A B classes valid alike k A.initial B.initial w cs valid.initial_is_state k.initial path),
)
same_quotient A B classes Finite valid alike k = (
  carried_over A B (class_of classes) Finite (quotient_carries A B classes k),
  transfer_words B A (members_accept A B classes valid alike k B.initial A.initial valid.initial_is_state k.initial)
      (λ w cs path. followed A B classes valid alike k A.initial B.initial w cs valid.initial_is_state k.initial path),
)
