use Rattle.std.proofs.Common.{◌≡◌, ◌≤◌, length}
use Rattle.fact_rows.proofs.Turned.{restarted, IsLastFrom}
use Rattle.fact_rows.proofs.walking.turn.Given as goal

abbrev pub invariant-turning : goal.invariant-turning
invariant-turning l = record {
  inside : l.place ≤ length l.columns;
  row_is : l.row ≡ restarted l.place l.columns l.fn.row;
  last : IsLastFrom l.place l.columns l.fn.row;
}

abbrev pub decreases-turning : goal.decreases-turning
decreases-turning l = l.place
