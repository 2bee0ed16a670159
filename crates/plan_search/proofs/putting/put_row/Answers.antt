use Rattle.plan_search.proofs.Uneven.{uneven}
use Rattle.plan_search.proofs.putting.put_row.Goals as goal

pub returns-then-columns-row-clause-other : goal.returns-then-columns-row-clause-other
returns-then-columns-row-clause-other c = λ e. uneven c.args.columns.now c.args.row.now c.args.env.now c.if-columns-row.true
