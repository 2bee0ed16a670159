use Rattle.std.proofs.Common.{◌≡◌, ◌<◌, ◌^◌, drop}
use Rattle.formula_syntax.specs.Senses.{number_of}
use Rattle.formula_syntax.proofs.Digits.{number_from}
use Rattle.formula_syntax.proofs.literals.number_of.Given as goal

abbrev pub invariant-loop-byte : goal.invariant-loop-byte
invariant-loop-byte l = record {
  told : number_from l.value (drop l.byte-index l.text) ≡ number_of l.text;
  small : l.value < 2 ^ 31;
}
