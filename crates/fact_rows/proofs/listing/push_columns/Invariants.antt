use Rattle.std.proofs.Common.{◌≡◌, ◌≤◌, suc, length, ◌++◌, map}
use Rattle.std.specs.Prelude.{if◌then◌else◌}
use Rattle.tel_semantics.specs.Tables.{choices}
use Rattle.fact_rows.specs.Walking.{all_of, rows_behind}
use Rattle.fact_rows.proofs.Pushed.{rows_left}
use Rattle.fact_rows.proofs.listing.push_columns.Given as goal

abbrev pub invariant-listing : goal.invariant-listing
invariant-listing l = record {
  long : length l.row.items ≡ length l.columns;
  told : l.rows.items ++ rows_left l.columns l.row.items l.more ≡ l.fn.rows.items ++ choices (map all_of l.columns);
  few : length l.rows.items ≤ l.most;
}

abbrev pub decreases-listing : goal.decreases-listing
decreases-listing l = if l.more then suc (length (rows_behind l.columns l.row.items)) else 0
