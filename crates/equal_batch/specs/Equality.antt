-- What two answers say together of equality.
use Rattle.cert_value.specs.declared.types.Form.{Form}
use Rattle.cert_value.specs.declared.types.Form.TheVariants.{Yes, No, List}
use Rattle.equal_batch.specs.declared.outcome.Both.{Both}
use Rattle.equal_batch.specs.declared.outcome.Both.TheVariants.{Equal, FirstApart, SecondApart, Limit}

-- The answer for the first in the second, and that for the second in the first.
abbrev pub said_by_both : Form → Form → Both
said_by_both Yes Yes = Equal
said_by_both Yes No = SecondApart
said_by_both Yes List = Limit
said_by_both No Yes = FirstApart
said_by_both No No = FirstApart
said_by_both No List = FirstApart
said_by_both List Yes = Limit
said_by_both List No = SecondApart
said_by_both List List = Limit
