use Rattle.plan_search.proofs.Indexing.{index_is}
use Rattle.plan_search.proofs.rows.index.Goals as goal

pub returns-in-Ok : goal.returns-in-Ok
returns-in-Ok c = index_is c.args.columns.now c.loop-at.at c.in-Ok.at c.in-Old.place _ c.in-Ok.ensures.1 c.loop-at-test.true c.in-Old.is c.if-not-any_gives.ensures
