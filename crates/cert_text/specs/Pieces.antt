-- A certificate's text that comes in pieces: what a reader holds after those so far, whatever
-- follows.
use Rattle.std.specs.Prelude.{◌≡◌, ℕ, ◌+◌, ◌≤◌, List, [], ◌∷◌, ◌++◌, length, Ok}
use Rattle.cert_value.specs.Text.{Line}
use Rattle.cert_text.specs.declared.faults.TextFault.{TextFault}
use Rattle.cert_text.specs.declared.faults.CertReadFault.{CertReadFault}
use Rattle.cert_text.specs.declared.faults.CertReadFault.TheVariants.{Text, Memory}
use Rattle.cert_text.specs.declared.machine.State.{State}
use Rattle.cert_text.specs.declared.machine.State.TheVariants as state
use Rattle.cert_text.specs.declared.pieces.Lines.{Lines}
use Rattle.cert_text.specs.declared.pieces.Progress.{Progress}
use Rattle.cert_text.specs.declared.pieces.Progress.TheVariants.{Faultless, Faulty, Refused}
use Rattle.cert_text.specs.declared.pieces.CertReader.{CertReader}
use Rattle.cert_text.specs.Grammar.{lines_of}
use Rattle.cert_text.specs.Law.{FirstFault}
use Rattle.cert_text.specs.Machine.{step}
use Rattle.ba_format.specs.Cut.{IsUnfinished}

-- The lines lead from one state to the other.
abbrev pub LeadsByLines : State → List Line → State → Type 0
LeadsByLines s [] t = s ≡ t
LeadsByLines s (line ∷ lines) t =
    (next : State) × (step s line ≡ Ok next) × LeadsByLines next lines t

-- The lines that were taken are those of the text before this rest, and lead to the state. What
-- follows the rest has no part in that.
pub record AreCertLinesTaken (lines : Lines) (text rest : List ℕ) : Type 0 where
  pub said : List Line
  pub leads : LeadsByLines state.Heading said lines.state
  pub whole : (more : List ℕ) → lines_of (text ++ more) ≡ said ++ lines_of (rest ++ more)
  pub number : lines.number ≡ length said + 1
  pub few : length said + length rest ≤ length text

-- Whatever follows, this is the first fault of the text.
abbrev pub HasFirstCertFault : List ℕ → TextFault → Type 0
HasFirstCertFault text fault = (more : List ℕ) → FirstFault (text ++ more) fault

-- The refusal tells it, or want of memory.
abbrev pub TellsFirstCertFault : List ℕ → CertReadFault → Type 0
TellsFirstCertFault text (Text fault) = HasFirstCertFault text fault
TellsFirstCertFault text Memory = Unit {0}

-- How far the reading of the bytes has come: their lines were taken but for the unfinished one;
-- they have a first fault; or memory was refused.
abbrev pub HasCertComeTo : Progress → Lines → List ℕ → List ℕ → Type 0
HasCertComeTo Faultless lines line bytes = AreCertLinesTaken lines bytes line × IsUnfinished line
HasCertComeTo (Faulty fault) lines line bytes = HasFirstCertFault bytes fault
HasCertComeTo Refused lines line bytes = Unit {0}

-- The reader holds what is to be known of these bytes, fed in any pieces, to read them and what
-- follows. Of one that was refused memory nothing is to be known.
abbrev pub HasReadCert : CertReader → List ℕ → Type 0
HasReadCert reader bytes = HasCertComeTo reader.progress reader.lines reader.line.items bytes

-- The machine refused memory.
abbrev pub CertReaderLacksMemory : CertReader → Type 0
CertReaderLacksMemory reader = reader.progress ≡ Refused
