use Rattle.equal_batch.proofs.ListLemmas.{found_of, only_of, fault_of, first_of}
use Rattle.equal_batch.proofs.questions.read_list.Goals as goal

pub returns : goal.returns
returns c =
    let bytes = c.args.bytes.now in
    let r = c.read_lines.result in
    let h = c.read_lines.ensures in
    record {
      found = found_of bytes r h;
      only = λ questions is. only_of bytes r questions h is;
      fault = λ line e. fault_of bytes r line h e;
      first = λ line e. first_of bytes r line h e;
    }
