use Rattle.std.proofs.Common.{is_some, IsTrue}
use Rattle.search_rows.proofs.print_answers.Given as goal

abbrev pub invariant-loop : goal.invariant-loop
invariant-loop l = IsTrue (is_some l.run.search.begun)
