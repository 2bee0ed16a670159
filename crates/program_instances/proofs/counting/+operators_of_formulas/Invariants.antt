use Rattle.std.proofs.Common.{◌≡◌, map, take}
use Rattle.std.specs.List.{sum}
use Rattle.program_theory.specs.Instances.{operator_count}
use Rattle.program_instances.specs.Adding.{capped}
use Rattle.program_instances.proofs.counting.+operators_of_formulas.Given as goal

abbrev pub invariant-operators_below-loop-formula : goal.invariant-operators_below-loop-formula
invariant-operators_below-loop-formula l = l.total ≡ capped (sum (map operator_count (take l.formula-index l.formulas)))
