use Rattle.std.proofs.Common.{◌≡◌, ◌∙◌, ◌++◌, Result, Err, MatchResult, sym, ap, subst, rules}
use Rattle.std.specs.List.{before_first}
use Rattle.ba_format.specs.Cut.{is_newline, IsUnfinished}
use Rattle.ba_format.specs.declared.parts.Limits.{Limits}
use Rattle.ba_format.specs.declared.parts.ReadFault.{ReadFault}
use Rattle.ba_format.specs.Pieces.{AreTaken, TellsFirstFault}
use Rattle.ba_format.proofs.CutLemmas.{has_on, unfinished_on, before_on, after_on}
use Rattle.ba_format.proofs.pieces.Reader.take.Goals as goal

pub returns-in_default-clause-taken : goal.returns-in_default-clause-taken
returns-in_default-clause-taken c = λ text u short none.
    let is = c.in_ok-extend_from_slice.ensures.items in
    (subst (AreTaken c.args.self.now.lines text) (sym is) u, subst IsUnfinished (sym is) (unfinished_on c.args.self.now.line.items c.args.piece.now none c.in_default.ensures.cut))

pub returns-in_err-take-clause-taken : goal.returns-in_err-take-clause-taken
returns-in_err-take-clause-taken c = λ text u short none.
    let line = c.args.self.now.line.items in
    let piece = c.args.piece.now in
    let (has, first, after) = c.in-Some.ensures.first in
    let is : c.as_slice.result.now ≡ before_first is_newline (line ++ piece) =
    c.as_slice.ensures.value ∙ c.in_ok-extend_from_slice-2.ensures.items ∙ ap (λ l. line ++ l) first ∙ sym (before_on line piece none) in
    let e : c.from_residual-in_err-take.result ≡ Err c.in_err-take.field-0.0 = search rules in
    let P : Result (Unit {0}) ReadFault → Type 0 = λ r. MatchResult r (λ x. AreTaken c.take.new.self text c.extend_from_slice-2.new.self.items × IsUnfinished c.extend_from_slice-2.new.self.items) (TellsFirstFault text c.args.self.now.lines.limits) in
    subst P (sym e) (c.in_err-take.ensures.taken text (line ++ piece) u short (has_on line piece none has) is)

pub returns-clause-taken : goal.returns-clause-taken
returns-clause-taken c = λ text u short none.
    let line = c.args.self.now.line.items in
    let piece = c.args.piece.now in
    let (has, first, after) = c.in-Some.ensures.first in
    let is : c.as_slice.result.now ≡ before_first is_newline (line ++ piece) =
    c.as_slice.ensures.value ∙ c.in_ok-extend_from_slice-2.ensures.items ∙ ap (λ l. line ++ l) first ∙ sym (before_on line piece none) in
    let taken = c.in_ok-take.ensures.taken text (line ++ piece) u short (has_on line piece none has) is in
    let P : Limits → Type 0 = λ l. MatchResult c.take_lines-2.result (λ x. AreTaken c.take_lines-2.new.self.lines text c.take_lines-2.new.self.line.items × IsUnfinished c.take_lines-2.new.self.line.items) (TellsFirstFault text l) in
    subst P c.in_ok-take.ensures.limits (c.take_lines-2.ensures.taken text (subst (AreTaken c.take.new.self text) (after_on line piece none ∙ sym after) taken) short c.clear.ensures.items)
