use Rattle.std.proofs.Common.{◌≡◌, Bool, true, length, drop}
use Rattle.std.specs.List.{list_all}
use Rattle.tel_term.specs.declared.terms.Value.{Value}
use Rattle.join_plans.specs.Join.{put_row}
use Rattle.plan_search.specs.Putting.{Stays}
use Rattle.plan_search.proofs.putting.put_row.Given as goal

abbrev pub invariant-loop-at : goal.invariant-loop-at
invariant-loop-at l = record {
  same : put_row (drop l.at l.columns) (drop l.at l.row) l.env ≡ put_row l.columns l.row l.fn.env;
  long : length l.env ≡ length l.fn.env;
  stays : Stays l.columns l.fn.env l.env;
  pass : (test : Value → Bool) → list_all test l.row ≡ true → list_all test l.fn.env ≡ true → list_all test l.env ≡ true;
}
