use Rattle.search_tests.proofs.session.has_top.Given as goal

abbrev pub invariant-loop-lit : goal.invariant-loop-lit
invariant-loop-lit l = Unit {0}
