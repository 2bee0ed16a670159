use Rattle.std.proofs.Common.{◌≡◌, ◌++◌, drop}
use Rattle.std.specs.List.{flat_map}
use Rattle.normal_program.specs.ModuleClauses.{later_clauses, later_rules}
use Rattle.completion.proofs.bodies.add_later.Given as goal

abbrev pub invariant-loop-rule : goal.invariant-loop-rule
invariant-loop-rule l = l.clauses.items ++ flat_map later_clauses (drop l.rule-index l.rule-items) ≡ l.initial.clauses.items ++ flat_map later_clauses (later_rules l.step)
