-- Runs that maps carry over.
use Rattle.std.proofs.Common.{◌≡◌, ℕ, zero, suc, inl, inr, Bool, true, false, ◌||◌, List, [], ◌∷◌, ◌++◌, map, refl, sym, ap, ◌∙◌, subst}
use Rattle.std.proofs.lemmas.Bool.{or_cases, or_left, or_right}
use Rattle.std.proofs.lemmas.List.{map-append}
use Rattle.auto_core.specs.Automaton.{Automaton, is_accepting}
use Rattle.auto_core.specs.Run.{Run, repeated}
use Rattle.auto_core.specs.Accept.{AcceptsLasso, AcceptsWord}
use Rattle.auto_core.proofs.PathLemmas.{accepting_from_test, test_from_accepting}
use Rattle.auto_core.specs.declared.parts.Mode.TheVariants.{Buchi, Finite}
use Rattle.map_laws.specs.Maps.{CarriesOverBy}
use Rattle.map_laws.specs.Laws.{CarriedOverIsIncluded, ImagesAreAccepted}

pub map-repeated : (f : ℕ → ℕ) (v : List ℕ) (n : ℕ) → map f (repeated v n) ≡ repeated (map f v) n
map-repeated f v zero = refl
map-repeated f v (suc n) = map-append f v (repeated v n) ∙ ap (λ l. map f v ++ l) (map-repeated f v n)

map_itself : (w : List ℕ) → map (λ a. a) w ≡ w
map_itself [] = refl
map_itself (a ∷ w) = ap (λ l. a ∷ l) (map_itself w)

module _ (A B : Automaton) (letter image : ℕ → ℕ) (k : CarriesOverBy A B letter image) where
  accepts_too : (q : ℕ) → is_accepting A q ≡ true → is_accepting B (image q) ≡ true
  accepts_too q h = test_from_accepting B (image q) (k.accepting q (accepting_from_test A q h))

  -- a run has an image, past an accepting state where it is
  carried : (p : ℕ) (w : List ℕ) (q : ℕ) (flag : Bool) → Run A p w q flag → (more : Bool) × Run B (image p) (map letter w) (image q) more × (flag ≡ true → more ≡ true)
  carried p [] q flag (e, f) = (false, (ap image e, refl), λ t. sym f ∙ t)
  carried p (a ∷ w) q flag (next, later, m, rest, is) =
      let (more, run, gives) = carried next w q later rest in (
        is_accepting B (image next) || more,
        (image next, more, k.moves p a next m, run, refl),
        λ t.
            elim (or_cases (is_accepting A next) later (sym is ∙ t)) [
              | inl here ↦ or_left (is_accepting B (image next)) more (accepts_too next here)
              | inr after ↦ or_right (is_accepting B (image next)) more (gives after)
            ],
      )

  images_of_lassos : (u v : List ℕ) → AcceptsLasso A u v → AcceptsLasso B (map letter u) (map letter v)
  images_of_lassos u v acc =
      let (f, enters, _) = carried A.initial (u ++ repeated v acc.before) acc.state acc.flag acc.enters in
      let (g, cycles, gives) = carried acc.state (repeated v acc.turns) acc.state true acc.cycles in
      let begin : Run B B.initial (map letter (u ++ repeated v acc.before)) (image acc.state) f = subst (λ x. Run B x (map letter (u ++ repeated v acc.before)) (image acc.state) f) (sym k.initial) enters in
      let way : map letter (u ++ repeated v acc.before) ≡ map letter u ++ repeated (map letter v) acc.before =
      map-append letter u (repeated v acc.before) ∙ ap (λ l. map letter u ++ l) (map-repeated letter v acc.before) in
      let flagged : Run B (image acc.state) (map letter (repeated v acc.turns)) (image acc.state) true = subst (λ b. Run B (image acc.state) (map letter (repeated v acc.turns)) (image acc.state) b) (gives refl) cycles in
      record {
        before = acc.before;
        turns = acc.turns;
        state = image acc.state;
        flag = f;
        enters = subst (λ l. Run B B.initial l (image acc.state) f) way begin;
        some_turn = acc.some_turn;
        cycles = subst (λ l. Run B (image acc.state) l (image acc.state) true) (map-repeated letter v acc.turns) flagged;
      }

  pub images_of_words : (w : List ℕ) → AcceptsWord A w → AcceptsWord B (map letter w)
  images_of_words w acc =
      let (f, run, _) = carried A.initial w acc.state acc.flag acc.run in
      record {
        state = image acc.state;
        flag = f;
        run = subst (λ x. Run B x (map letter w) (image acc.state) f) (sym k.initial) run;
        ends = k.accepting acc.state acc.ends;
      }

pub images_accepted : ImagesAreAccepted
images_accepted A B letter image k u v acc = images_of_lassos A B letter image k u v acc

pub carried_over : CarriedOverIsIncluded
carried_over A B image Buchi k = λ u v acc.
    subst (λ l. AcceptsLasso B l v) (map_itself u) (subst (λ l. AcceptsLasso B (map (λ a. a) u) l) (map_itself v) (images_of_lassos A B (λ a. a) image k u v acc))
carried_over A B image Finite k = λ w acc. subst (λ l. AcceptsWord B l) (map_itself w) (images_of_words A B (λ a. a) image k w acc)
