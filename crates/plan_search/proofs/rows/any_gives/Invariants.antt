use Rattle.std.proofs.Common.{◌≡◌, drop}
use Rattle.plan_search.specs.Putting.{any_gives}
use Rattle.plan_search.proofs.rows.any_gives.Given as goal

abbrev pub invariant-loop-column : goal.invariant-loop-column
invariant-loop-column l = any_gives (drop l.column-index l.columns) l.place ≡ any_gives l.columns l.place
