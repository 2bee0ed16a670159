use Rattle.std.proofs.Common.{List, subst}
use Rattle.tel_rule.specs.declared.statements.Statement.{Statement}
use Rattle.range_faults.specs.Ranges.{NoneLeavesRange, LeavesFirst}
use Rattle.fact_instantiate.proofs.PlacesCounted.{bound_program}
use Rattle.fact_instantiate.proofs.limits.check_ranges.Goals as goal

pub first_leaving-requires : goal.first_leaving-requires
first_leaving-requires c =
    bound_program c.args.program.now c.args.tables.now c.numbers.result.now c.tables.result.now c.as_slice-statements.result.now c.requires.ready c.requires.tables c.numbers.ensures c.tables.ensures c.as_slice-statements.ensures

pub returns-in-Ok-None-clause-none : goal.returns-in-Ok-None-clause-none
returns-in-Ok-None-clause-none c =
    let found = subst (λ place. LeavesFirst c.as_slice-statements.result.now c.args.program.now.symbols place) c.in-Ok-None.field-0-is c.in-Ok-None.ensures in
    subst (λ (statements : List Statement). NoneLeavesRange statements c.args.program.now.symbols) c.as_slice-statements.ensures found
