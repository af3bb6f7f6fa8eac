-- `drill SEED STATES LABELS`
use Rattle.std.specs.Prelude.{◌≡◌, ℕ, ◌⊎◌, List, [], ◌++◌, length, codes, decimal}
use Rattle.shelf_io.specs.Seen.{Call}
use Rattle.auto_core.specs.Automaton.{Automaton}
use Rattle.auto_core.specs.declared.parts.Mode.TheVariants.{Buchi}
use Rattle.ba_format.specs.declared.parts.Joined.{Joined}
use Rattle.cert_value.specs.declared.types.Cert.{Cert}
use Rattle.cert_value.specs.declared.types.Body.{Body}
use Rattle.cert_value.specs.declared.types.Body.TheVariants.{Yes, NoLasso, NoWord, Listing}
use Rattle.decide.specs.declared.terms.Terms.{Terms}
use Rattle.decide.specs.Answer.{IsAnswer}
use Rattle.decide.specs.Laws.{AnswerIsTrue}
use Rattle.drawing.specs.declared.parts.Drill.{Drill}
use Rattle.drawing.specs.Drawn.{AreDrawn}
use Rattle.rabit_frame.specs.declared.parts.Value.{Value}
use Rattle.rabit_frame.specs.declared.parts.Status.TheVariants as status
use Rattle.rabit_frame.specs.declared.parts.Reply.{Reply}
use Rattle.rabit_frame.specs.Lines.{line_end, memory_line}
use Rattle.rabit_frame.specs.Ending.{WasGiven, SaysOnly}
use Rattle.rabit_frame.specs.Reading.{only_said}
use Rattle.rabit_cli.specs.Include.{usual_terms}

-- A drill decides over lassos, at the usual lookahead and limit.
abbrev pub drill_terms : Terms
drill_terms = usual_terms Buchi

-- The two automata in the other order.
abbrev pub exchanged : Joined → Joined
exchanged pair = record { first = pair.second; second = pair.first; labels = pair.labels }

-- How large the automaton of this name is.
abbrev pub size_line : List ℕ → Automaton → List ℕ
size_line name A =
    name ++ (codes " "
    ++ (decimal A.states
    ++ (codes " states "
    ++ (decimal (length A.transitions) ++ (codes " transitions" ++ line_end)))))

-- What was found of an inclusion: the number of all elements, the lengths of the lasso, or the
-- limit.
abbrev pub finding : Body → List ℕ
finding (Yes evidence) =
    codes "included, elements " ++ (decimal (length evidence.elements) ++ line_end)
finding (NoLasso lasso) =
    codes "not included, prefix "
    ++ (decimal (length lasso.prefix)
    ++ (codes ", loop " ++ (decimal (length lasso.turn) ++ line_end)))
finding (NoWord word) = []
finding (Listing list) = codes "limit " ++ (decimal list.limit ++ line_end)

-- The four lines: the sizes of both, and what was found of the first in the second and of the
-- second in the first.
abbrev pub drill_text : Joined → Body → Body → List ℕ
drill_text pair forth converse =
    size_line (codes "first") pair.first
    ++ (size_line (codes "second") pair.second
    ++ ((codes "first in second: " ++ finding forth)
    ++ (codes "second in first: " ++ finding converse)))

-- The drill's two automata, and the answers for both inclusions between them.
pub record AreDecided (d : Drill) (pair : Joined) (forth converse : Cert) : Type 0 where
  pub drawn : AreDrawn d pair
  pub first_in_second : IsAnswer pair drill_terms forth
  pub second_in_first : IsAnswer (exchanged pair) drill_terms converse

-- The reply; there is nothing to read.
abbrev pub MeansDrill : Drill → List Value → Reply → Type 0
MeansDrill d values r =
    (pair : Joined) × (forth converse : Cert) × AreDecided d pair forth converse
    × (r ≡ only_said status.Done (drill_text pair forth.body converse.body))

-- The text is that of the drill's two answers, which are true.
pub record IsDrillText (d : Drill) (text : List ℕ) : Type 0 where
  pub pair : Joined
  pub forth : Cert
  pub converse : Cert
  pub decided : AreDecided d pair forth converse
  pub first_in_second : AnswerIsTrue pair drill_terms forth.body
  pub second_in_first : AnswerIsTrue (exchanged pair) drill_terms converse.body
  pub is : text ≡ drill_text pair forth.body converse.body

-- What a drill says, whatever the shelf tells: its text was given, or where the sink's count rose a
-- front of it at status 7, or want of memory was said.
abbrev pub SaysDrill : Drill → Call → Type 0
SaysDrill d call =
    ((text : List ℕ) × IsDrillText d text
    × WasGiven text 0 7 call.status call.before.sink call.after.sink)
    ⊎ ((call.status ≡ 8) × SaysOnly memory_line call.status call.before.sink call.after.sink)
