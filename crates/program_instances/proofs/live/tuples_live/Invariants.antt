use Rattle.std.proofs.Common.{◌≡◌, ◌≤◌, ◌++◌, length, drop}
use Rattle.std.specs.List.{flat_map}
use Rattle.tel_semantics.specs.Tables.{tuple_rows}
use Rattle.program_instances.proofs.live.tuples_live.Given as goal

abbrev pub invariant-loop-tuple : goal.invariant-loop-tuple
invariant-loop-tuple l = record {
  told : l.rows.items ++ flat_map tuple_rows (drop l.tuple-index l.tuples) ≡ flat_map tuple_rows l.tuples;
  few : length l.rows.items ≤ l.most;
}
