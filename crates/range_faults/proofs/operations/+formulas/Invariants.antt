use Rattle.std.proofs.Common.{◌≡◌, ◌++◌, map, drop}
use Rattle.range_faults.specs.Operations.{operations, formula_exprs, joined, all_said}
use Rattle.range_faults.proofs.operations.+formulas.Given as goal

abbrev pub invariant-add_formulas-loop-formula : goal.invariant-add_formulas-loop-formula
invariant-add_formulas-loop-formula l = all_said l.found.items ++ operations (joined (map formula_exprs (drop l.formula-index l.formulas))) ≡ all_said l.initial.found.items ++ operations (joined (map formula_exprs l.formulas))
