use Rattle.std.proofs.Common.{◌≡◌, map, drop}
use Rattle.instance_check.specs.Valued.{all_valued, formula_exprs, joined}
use Rattle.instance_check.proofs.instances.+formulas.Given as goal

abbrev pub invariant-all_formulas_valued-loop-formula : goal.invariant-all_formulas_valued-loop-formula
invariant-all_formulas_valued-loop-formula l = all_valued l.binding (joined (map formula_exprs (drop l.formula-index l.formulas))) ≡ all_valued l.binding (joined (map formula_exprs l.formulas))
