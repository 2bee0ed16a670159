use Rattle.std.proofs.Common.{◌≡◌, map, drop}
use Rattle.rule_check.specs.Causes.{any_holds, has_prime}
use Rattle.rule_check.proofs.formulas.+primes.Given as goal

abbrev pub invariant-any_has_prime-loop-formula : goal.invariant-any_has_prime-loop-formula
invariant-any_has_prime-loop-formula l = any_holds (map has_prime (drop l.formula-index l.formulas)) ≡ any_holds (map has_prime l.formulas)
