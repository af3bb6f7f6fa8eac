-- What is asked: the files that are read, and which reply is right for what they read as.
use Rattle.std.specs.Prelude.{◌≡◌, List}
use Rattle.rabit_frame.specs.declared.parts.Value.{Value}
use Rattle.rabit_frame.specs.declared.parts.Reply.{Reply}
use Rattle.rabit_frame.specs.Files.{Input}
use Rattle.rabit_frame.specs.Reading.{AreOfKinds}

-- A request, with no case on the command that it comes from.
pub record Request : Type 1 where
  pub inputs : List Input
  pub means : List Value → Reply → Type 0

-- To read these files, where this reply is right for what they read as.
abbrev pub request_with : List Input → (List Value → Reply → Type 0) → Request
request_with inputs means = record { inputs = inputs; means = means }

-- What its files read as has one right reply, at most.
abbrev pub HasOneReply : Request → Type 0
HasOneReply q =
    (values : List Value) (r s : Reply) → AreOfKinds q.inputs values → q.means values r
    → q.means values s → r ≡ s

-- To read these files, after which a command goes on by itself: no reply is right for what they
-- read as, and it ends so only where one is not read.
abbrev pub only_reading : List Input → Request
only_reading inputs = request_with inputs (λ values r. ⊥)
