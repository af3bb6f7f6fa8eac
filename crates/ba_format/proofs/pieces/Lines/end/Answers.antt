use Rattle.std.proofs.Common.{◌≡◌, ◌∙◌, ◌^◌, ◌++◌, ◌∷◌, [], ℕ, ◌≤◌, List, length, sym, ap, subst, arith, rules}
use Rattle.std.proofs.lemmas.List.{length-append}
use Rattle.ba_format.specs.declared.parts.ReadFault.TheVariants.{Ba}
use Rattle.ba_format.specs.Grammar.{lines_in}
use Rattle.ba_format.specs.Faults.{first_fault, contents_of}
use Rattle.ba_format.specs.Draft.{Fits}
use Rattle.ba_format.specs.Pieces.{AreTaken, TellsFirstFault}
use Rattle.ba_format.proofs.ReadLemmas.{empty_text, opens_not, no_fault_text}
use Rattle.ba_format.proofs.NamedLemmas.{transitions-most, within_limits}
use Rattle.ba_format.proofs.PieceLemmas.{ended, ended_has, ended_first, ended_all, ended_fault}
use Rattle.ba_format.proofs.pieces.Lines.end.Goals as goal

pub returns-in-Err-clause-fault : goal.returns-in-Err-clause-fault
returns-in-Err-clause-fault c = λ text u short fault is.
    let lines = c.args.self in
    let line = c.args.line.now in
    let none = c.requires.unfinished in
    let told = c.in-Err.ensures.taken (text ++ 10 ∷ []) (line ++ 10 ∷ []) (ended lines lines text line u none) (omega (arith, short, length-append text (10 ∷ []))) (ended_has lines lines text line u none) (ended_first lines lines text line u none) in
    let e : c.in-Err.fault ≡ Ba fault = search rules in
    ended_fault lines lines text line u none lines.limits fault (subst (TellsFirstFault (text ++ 10 ∷ []) lines.limits) e told)

-- what the lines of the text brought
pub returns-in-Nothing-clause-fault : goal.returns-in-Nothing-clause-fault
returns-in-Nothing-clause-fault c = λ text u short fault is.
    let lines = c.args.self in
    let line = c.args.line.now in
    let none = c.requires.unfinished in
    let taken = c.in-Ok.ensures.taken (text ++ 10 ∷ []) (line ++ 10 ∷ []) (ended lines lines text line u none) (omega (arith, short, length-append text (10 ∷ []))) (ended_has lines lines text line u none) (ended_first lines lines text line u none) in
    let all = ended_all lines c.take.new.self text line u none taken in
    let text_is = empty_text lines.limits text c.take.new.self.draft.opening c.in-Nothing.is all.1.opening in
    cc

pub into_named-requires : goal.into_named-requires
into_named-requires c =
    let (text, u, short) = c.requires.text in
    let lines = c.args.self in
    let line = c.args.line.now in
    let none = c.requires.unfinished in
    let taken = c.in-Ok.ensures.taken (text ++ 10 ∷ []) (line ++ 10 ∷ []) (ended lines lines text line u none) (omega (arith, short, length-append text (10 ∷ []))) (ended_has lines lines text line u none) (ended_first lines lines text line u none) in
    let all = ended_all lines c.take.new.self text line u none taken in
    let entries = contents_of text in
    record {
      entries = entries;
      stands = all.1;
      some = opens_not c.take.new.self.draft.opening entries all.1.opening c.in_default.not-Nothing;
      few = omega (arith, transitions-most entries, all.3, short);
    }

pub returns : goal.returns
returns c =
    let lines = c.args.self in
    let line = c.args.line.now in
    let none = c.requires.unfinished in
    let limits = c.in-Ok.ensures.limits in
    let all = λ (text : List ℕ) (u : AreTaken lines text line) (short : length text ≤ 2 ^ 24).
    ended_all lines c.take.new.self text line u none
    (c.in-Ok.ensures.taken (text ++ 10 ∷ []) (line ++ 10 ∷ []) (ended lines lines text line u none) (omega (arith, short, length-append text (10 ∷ []))) (ended_has lines lines text line u none) (ended_first lines lines text line u none)) in
    let (one, first, few) = c.requires.text in
    record {
      named = λ text u short.
          let got = all text u short in
          let entries = contents_of text in
          let some = opens_not c.take.new.self.draft.opening entries got.1.opening c.in_default.not-Nothing in
          let clean = ap (λ l. first_fault l [] (lines_in text)) (sym limits) ∙ got.0 in
          record { no_fault = no_fault_text lines.limits text some clean; reading = c.in_ok-into_named.ensures entries got.1 };
      within =
          let got = all one first few in
          let entries = contents_of one in
          within_limits lines.limits entries c.in_ok-into_named.field-0 (subst (λ l. Fits l entries) limits got.2) (c.in_ok-into_named.ensures entries got.1);
      fault = λ text u short fault is. cc;
    }
