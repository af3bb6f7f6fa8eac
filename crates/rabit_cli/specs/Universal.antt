-- `universal A U CERT`, with `--finite`
use Rattle.std.specs.Prelude.{ℕ, ◌<◌, List, [], ◌∷◌, length, map, codes}
use Rattle.std.specs.List.{range_with_len}
use Rattle.auto_core.specs.Automaton.{Automaton, trans}
use Rattle.auto_core.specs.Accept.{AcceptsLasso, AcceptsWord}
use Rattle.auto_core.specs.declared.parts.Mode.{Mode}
use Rattle.auto_core.specs.declared.parts.Mode.TheVariants.{Buchi, Finite}
use Rattle.auto_core.specs.declared.parts.Trans.{Trans}
use Rattle.ba_format.specs.Joining.{IsJoined}
use Rattle.ba_format.specs.Writing.{written}
use Rattle.cert_check.specs.Rules.{AreLabels}
use Rattle.rabit_frame.specs.declared.files.TheConstants.{SECOND_LIMITS}
use Rattle.rabit_cli.specs.Property.{Property}

-- A loop on the one state for each of so many labels.
abbrev pub loops : ℕ → List Trans
loops labels = map (λ a. trans 0 a 0) (range_with_len 0 labels)

-- One accepting initial state with these loops: it accepts everything over its labels.
abbrev pub all_loops : ℕ → Automaton
all_loops labels =
    record {
      states = 1;
      labels = labels;
      initial = 0;
      transitions = loops labels;
      accepting = 0 ∷ [];
    }

-- The lasso's letters are labels of the automaton, and its loop is not empty.
abbrev pub IsLassoOver : Automaton → List ℕ → List ℕ → Type 0
IsLassoOver A u v = AreLabels A.labels u × AreLabels A.labels v × (0 < length v)

-- The automaton accepts each lasso, in finite mode each word, over its labels.
abbrev pub AcceptsAll : Mode → Automaton → Type 0
AcceptsAll Buchi A = (u v : List ℕ) → IsLassoOver A u v → AcceptsLasso A u v
AcceptsAll Finite A = (w : List ℕ) → AreLabels A.labels w → AcceptsWord A w

-- An automaton is universal if that with a loop for each of its labels is included in it, and a
-- lasso or a word over its labels that it does not accept shows that it is not.
abbrev pub universality : Property
universality = record {
  name = codes "universal";
  limits = SECOND_LIMITS;
  made = λ one. written (all_loops (length one.labels)) one.labels;
  joins = λ one other. IsJoined other one;
  holds = AcceptsAll;
  lasso_against = λ A lasso.
      IsLassoOver A lasso.prefix lasso.turn × (AcceptsLasso A lasso.prefix lasso.turn → ⊥);
  word_against = λ A word. AreLabels A.labels word × (AcceptsWord A word → ⊥);
}
