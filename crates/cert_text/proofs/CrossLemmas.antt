-- The grammar of cross relations, and their texts.
use Rattle.std.proofs.Common.{ℕ, true, false, is_none, Ok, Err, refl}
use Rattle.cert_value.specs.declared.keywords.Keyword.TheVariants as keyword
use Rattle.cert_line.specs.declared.faults.TextKind.TheVariants.{Header}
use Rattle.cert_line.specs.declared.shapes.Tail.TheVariants as tail
use Rattle.cert_line.specs.Shapes.{line_fault}
use Rattle.cert_line.specs.Lines.{number_in, sizes_in}
use Rattle.cert_text.specs.Grammar.{read_end}
use Rattle.cert_text.specs.CrossText.{CrossFormed, cross_lines}
use Rattle.cert_text.specs.CrossGrammar.{cross_heading_places, cross_heading_in, cross_of_parts, read_relation, read_look, read_cross_sizes, read_cross}
use Rattle.cert_text.proofs.CrossTextLemmas.{plain_cross, text_then, reading_back}
use Rattle.cert_text.proofs.TextLemmas.{ReadsTexts}
use Rattle.cert_text.proofs.ReaderLemmas.{Reader, TellsOwn, line_reads}
use Rattle.cert_text.proofs.SaidLemmas.{ok_own, err_own, if_own, number_in_own, sizes_own}
use Rattle.cert_text.proofs.GrammarLemmas.{any_line, block_reads, end_reads}

cross_heading_own : TellsOwn true cross_heading_in
cross_heading_own line = if_own true (is_none (line_fault cross_heading_places tail.Nothing line)) (Ok tt) (Err Header) (ok_own true tt) (err_own true Header refl)

relation_reads : (sizes : _) (look : ℕ) → Reader false (read_relation sizes look)
relation_reads sizes look = block_reads 1 (λ block. read_end (cross_of_parts sizes look block)) (λ block. end_reads (cross_of_parts sizes look block))

cross_read : Reader true read_cross
cross_read =
    line_reads true cross_heading_in (λ u. read_cross_sizes) cross_heading_own (λ line u told.
    any_line sizes_in read_look sizes_own (λ sizes. any_line (number_in keyword.Look) (read_relation sizes) (number_in_own keyword.Look) (relation_reads sizes)))

pub crosses : ReadsTexts CrossFormed cross_lines read_cross
crosses = record { plain = plain_cross; onward = text_then; back = reading_back; reader = cross_read }
