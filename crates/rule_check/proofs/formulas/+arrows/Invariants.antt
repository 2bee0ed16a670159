use Rattle.std.proofs.Common.{◌≡◌, map, drop}
use Rattle.rule_check.specs.Causes.{any_holds, has_arrow}
use Rattle.rule_check.proofs.formulas.+arrows.Given as goal

abbrev pub invariant-any_has_arrow-loop-formula : goal.invariant-any_has_arrow-loop-formula
invariant-any_has_arrow-loop-formula l = any_holds (map has_arrow (drop l.formula-index l.formulas)) ≡ any_holds (map has_arrow l.formulas)
