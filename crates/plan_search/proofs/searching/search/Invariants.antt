use Rattle.std.proofs.Common.{◌≡◌, ◌≤◌, ℕ, List, ◌++◌, length}
use Rattle.tel_term.specs.declared.terms.Term.{Term}
use Rattle.join_plans.specs.Join.{answers}
use Rattle.plan_search.specs.Steps.{plan_of, AreTerms}
use Rattle.plan_search.specs.Searching.{all_find, kept, all_turns, most_rows, Rise}
use Rattle.plan_search.proofs.searching.search.Given as goal

abbrev pub invariant-walking : goal.invariant-walking
invariant-walking g l = record {
  whole : l.found.items ++ kept (g.T.BindingTest.passes l.initial.test l.symbols) l.vars (all_find (plan_of l.tables l.symbols l.steps) l.env l.stack) ≡ kept (g.T.BindingTest.passes l.initial.test l.symbols) l.vars (answers (plan_of l.tables l.symbols l.steps) l.fn.env);
  few : length l.found.items ≤ l.most;
  long : length l.env ≡ length l.fn.env;
  terms : AreTerms l.symbols l.env;
  same : g.T.BindingTest.passes l.test ≡ g.T.BindingTest.passes l.initial.test;
  can : (terms : List Term) (places : ℕ) → g.T.BindingTest.can_test l.initial.test terms places → g.T.BindingTest.can_test l.test terms places;
  rise : Rise 0 (length (plan_of l.tables l.symbols l.steps)) l.stack;
}

abbrev pub decreases-walking : goal.decreases-walking
decreases-walking g l = all_turns (most_rows (plan_of l.tables l.symbols l.steps)) (plan_of l.tables l.symbols l.steps) l.stack
