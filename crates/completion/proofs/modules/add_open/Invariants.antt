use Rattle.std.proofs.Common.{◌≡◌, ◌++◌, map, drop}
use Rattle.normal_program.specs.ModuleClauses.{open_clause}
use Rattle.completion.proofs.modules.add_open.Given as goal

abbrev pub invariant-loop-var : goal.invariant-loop-var
invariant-loop-var l = l.clauses.items ++ map (open_clause l.end.var) (drop l.var-index l.vars) ≡ l.initial.clauses.items ++ map (open_clause l.end.var) l.vars
