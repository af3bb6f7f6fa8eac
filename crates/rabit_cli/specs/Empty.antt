-- `empty A E CERT`, with `--finite`
use Rattle.std.specs.Prelude.{ℕ, List, codes}
use Rattle.auto_core.specs.Automaton.{Automaton}
use Rattle.auto_core.specs.Accept.{AcceptsLasso, AcceptsWord}
use Rattle.auto_core.specs.declared.parts.Mode.{Mode}
use Rattle.auto_core.specs.declared.parts.Mode.TheVariants.{Buchi, Finite}
use Rattle.ba_format.specs.Joining.{IsJoined}
use Rattle.rabit_frame.specs.declared.files.TheConstants.{FIRST_LIMITS}
use Rattle.rabit_cli.specs.Property.{Property}

-- The text of an automaton that accepts nothing: its initial state is not accepting, and it has no
-- transition.
abbrev pub empty_text : List ℕ
empty_text = codes "[0]\n[1]\n"

-- The automaton accepts no lasso, in finite mode no word.
abbrev pub AcceptsNothing : Mode → Automaton → Type 0
AcceptsNothing Buchi A = (u v : List ℕ) → AcceptsLasso A u v → ⊥
AcceptsNothing Finite A = (w : List ℕ) → AcceptsWord A w → ⊥

-- An automaton is empty if it is included in that one, and a lasso or a word that it accepts shows
-- that it is not.
abbrev pub emptiness : Property
emptiness = record {
  name = codes "empty";
  limits = FIRST_LIMITS;
  made = λ one. empty_text;
  joins = λ one other. IsJoined one other;
  holds = AcceptsNothing;
  lasso_against = λ A lasso. AcceptsLasso A lasso.prefix lasso.turn;
  word_against = AcceptsWord;
}
