use Rattle.std.proofs.Common.{◌≡◌, ◌<◌, ◌^◌, take, true}
use Rattle.std.specs.List.{list_all}
use Rattle.std.specs.Str.Parse.{digits_value}
use Rattle.auto_core.specs.Digits.{is_digit}
use Rattle.cert_line.proofs.shapes.number_of.Given as goal

abbrev pub invariant-loop-byte : goal.invariant-loop-byte
invariant-loop-byte l = record {
  digits : list_all is_digit (take l.byte-index l.token) ≡ true;
  so_far : l.value ≡ digits_value 10 (take l.byte-index l.token);
  small : l.value < 10 ^ l.byte-index;
}
