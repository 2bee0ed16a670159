use Rattle.std.proofs.Common.{◌≡◌, ◌-◌, ◌^◌, ◌≤◌, take}
use Rattle.tel_base.specs.Digits.{decimal}
use Rattle.tel_lex.proofs.front.is_in_range.Given as goal

abbrev pub invariant-loop-digit : goal.invariant-loop-digit
invariant-loop-digit l = record {
  value : l.value ≡ decimal (take l.digit-index l.digits);
  small : l.value ≤ 2 ^ 31 - 1;
}
