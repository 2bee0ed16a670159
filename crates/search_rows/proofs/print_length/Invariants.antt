use Rattle.std.proofs.Common.{is_some, IsTrue}
use Rattle.search_rows.proofs.print_length.Given as goal

abbrev pub invariant-loop-budget : goal.invariant-loop-budget
invariant-loop-budget l = IsTrue (is_some l.run.search.begun)
