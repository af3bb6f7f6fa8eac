-- What a reader of one line gives, against what the line says.
use Rattle.std.specs.Prelude.{◌≡◌, Result, Ok, Err}
use Rattle.cert_line.specs.declared.faults.LineFault.{LineFault}
use Rattle.cert_line.specs.declared.faults.LineFault.TheVariants.{Text, Memory}
use Rattle.cert_line.specs.Lines.{Said}

-- It gives what the line says, or want of memory.
abbrev pub Agrees : {A : Type 0} → Said A → Result A LineFault → Type 0
Agrees said (Ok a) = said ≡ Ok a
Agrees said (Err (Text fault)) = said ≡ Err fault
Agrees said (Err Memory) = Unit {0}
