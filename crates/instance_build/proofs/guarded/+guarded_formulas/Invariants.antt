use Rattle.std.proofs.Common.{◌≡◌, map, drop}
use Rattle.instance_build.specs.Guarded.{all_hold, is_guarded_formula}
use Rattle.instance_build.proofs.guarded.+guarded_formulas.Given as goal

abbrev pub invariant-are_guarded_formulas-loop-formula : goal.invariant-are_guarded_formulas-loop-formula
invariant-are_guarded_formulas-loop-formula l = all_hold (map is_guarded_formula (drop l.formula-index l.formulas)) ≡ all_hold (map is_guarded_formula l.formulas)
