use Rattle.std.proofs.Common.{List, subst, inl}
use Rattle.tel_rule.specs.declared.statements.Statement.{Statement}
use Rattle.fact_rows.specs.Limit.{HaveMoreRows}
use Rattle.fact_instantiate.specs.Instantiated.{most_places}
use Rattle.fact_instantiate.proofs.PlacesCounted.{tables_are, large_rows}
use Rattle.fact_instantiate.proofs.limits.tables_of.Goals as goal

pub returns-in-Ok-clause-tables : goal.returns-in-Ok-clause-tables
returns-in-Ok-clause-tables c =
    tables_are c.args.program.now c.in-Ok.tables c.as_slice.result.now c.as_slice.ensures c.requires.within c.in-Ok.ensures.numbered c.in-Ok.ensures.are_rows c.in-Ok.ensures.terms

pub returns-in-Err-Large-clause-fault : goal.returns-in-Err-Large-clause-fault
returns-in-Err-Large-clause-fault c =
    λ greatest some.
    (let more = subst (λ (statements : List Statement). HaveMoreRows statements most_places) c.as_slice.ensures (c.in-Err-Large.ensures.large c.in-Err-Large.field-0-is) in (inl more, large_rows c.args.program.now greatest some more))
