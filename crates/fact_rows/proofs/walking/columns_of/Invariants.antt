use Rattle.std.proofs.Common.{◌≡◌, map, take, true}
use Rattle.std.specs.List.{list_all}
use Rattle.tel_semantics.specs.Tables.{arg_values}
use Rattle.fact_rows.specs.Walking.{all_of, has_first}
use Rattle.fact_rows.proofs.walking.columns_of.Given as goal

abbrev pub invariant-loop-arg : goal.invariant-loop-arg
invariant-loop-arg l = record {
  full : list_all has_first l.columns.items ≡ true;
  values_are : map all_of l.columns.items ≡ map arg_values (take l.arg-index l.tuple);
}
