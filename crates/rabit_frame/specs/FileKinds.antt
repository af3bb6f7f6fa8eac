-- The files of the commands, and what they are read as.
use Rattle.std.specs.Prelude.{◌≡◌, ℕ, List, [], ◌∷◌, length}
use Rattle.shelf_io.specs.Shelf.{FileMap}
use Rattle.ba_format.specs.declared.parts.Limits.{Limits}
use Rattle.ba_format.specs.declared.parts.Named.{Named}
use Rattle.ba_format.specs.declared.parts.Joined.{Joined}
use Rattle.ba_format.specs.Joining.{IsJoined}
use Rattle.cert_value.specs.declared.types.Cert.{Cert}
use Rattle.cert_value.specs.Text.{text}
use Rattle.rabit_frame.specs.Files.{Input, Output}
use Rattle.rabit_frame.specs.Reading.{FileReads}
use Rattle.rabit_frame.specs.declared.parts.FileKind.TheVariants as kind
use Rattle.rabit_frame.specs.declared.parts.Value.TheVariants as value
use Rattle.rabit_frame.specs.declared.files.TheConstants.{SECOND_LIMITS, FIRST_LIMITS}

-- A file that is read as an automaton, with the number that its faults are told with.
abbrev pub automaton_file : ℕ → Limits → List ℕ → Input
automaton_file number limits name = record { name = name; kind = kind.Automaton number limits }

-- A file that is read as a certificate.
abbrev pub certificate_file : List ℕ → Input
certificate_file name = record { name = name; kind = kind.Certificate }

-- The files of a command that reads two automata.
abbrev pub pair_inputs : List ℕ → List ℕ → List Input
pair_inputs a b = automaton_file 1 FIRST_LIMITS a ∷ automaton_file 2 SECOND_LIMITS b ∷ []

-- The file of a certificate that is written: its text, under its name.
abbrev pub certificate_put : List ℕ → Cert → Output
certificate_put name cert = record { name = name; bytes = text cert }

-- The file reads as this certificate: it is well-formed, and the file holds its text.
abbrev pub ReadsCertificate : FileMap → List ℕ → Cert → Type 0
ReadsCertificate files name cert = FileReads files (certificate_file name) (value.Certificate cert)

-- Both files read as automata, the first within these limits, and this pair is the two over their
-- joined labels.
abbrev pub ReadsPairWithin : Limits → FileMap → List ℕ → List ℕ → Joined → Type 0
ReadsPairWithin limits files a b pair =
    (one two : Named)
    × FileReads files (automaton_file 1 limits a) (value.Automaton one)
    × FileReads files (automaton_file 2 SECOND_LIMITS b) (value.Automaton two)
    × IsJoined one two pair

-- Both files read as such a pair, the first within the limits of a first file.
abbrev pub ReadsPair : FileMap → List ℕ → List ℕ → Joined → Type 0
ReadsPair = ReadsPairWithin FIRST_LIMITS

-- Both automata have as many labels as there are texts of labels.
pub record HasLabelTexts (pair : Joined) : Type 0 where
  pub first : pair.first.labels ≡ length pair.labels
  pub second : pair.second.labels ≡ length pair.labels
