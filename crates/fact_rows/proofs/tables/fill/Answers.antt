use Rattle.std.proofs.Common.{[], refl}
use Rattle.fact_rows.specs.declared.filling.Filling.{Filling}
use Rattle.fact_rows.specs.Forms.{number_in}
use Rattle.fact_rows.proofs.Steps.{holds-start}
use Rattle.fact_rows.proofs.tables.fill.Goals as goal

pub returns-in-Ok-clause-filled : goal.returns-in-Ok-clause-filled
returns-in-Ok-clause-filled c =
    let start : Filling = record { tables = c.keyed.result; left = c.args.most } in
    c.in-Ok.ensures.added c.args.most [] (holds-start (number_in c.args.numbers.now) c.args.most start c.requires c.keyed.ensures refl)

pub returns-in-Err-clause-large : goal.returns-in-Err-clause-large
returns-in-Err-clause-large c =
    let start : Filling = record { tables = c.keyed.result; left = c.args.most } in
    λ large. c.in-Err.ensures.large large c.args.most [] (holds-start (number_in c.args.numbers.now) c.args.most start c.requires c.keyed.ensures refl)
