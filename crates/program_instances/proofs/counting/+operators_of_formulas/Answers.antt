use Rattle.program_instances.proofs.Counts.{many_count}
use Rattle.program_instances.proofs.counting.+operators_of_formulas.Goals as goal

pub formula_operators-returns-in-Many : goal.formula_operators-returns-in-Many
formula_operators-returns-in-Many t c =
    many_count c.in-Many.field-0 c.in-Many.operands c.as_slice.result.now c.args.formula.now c.saturating_add-in-Many.result c.operators_below.result c.in-Many.is c.as_slice.ensures c.saturating_add-in-Many.ensures c.operators_below.ensures
