use Rattle.std.proofs.Common.{◌≡◌, ◌++◌, drop}
use Rattle.std.specs.List.{flat_map}
use Rattle.normal_program.specs.ModuleClauses.{body_clauses}
use Rattle.completion.proofs.bodies.add_bodies.Given as goal

abbrev pub invariant-loop-body : goal.invariant-loop-body
invariant-loop-body l = l.clauses.items ++ flat_map (body_clauses l.end) (drop l.body-index l.bodies) ≡ l.initial.clauses.items ++ flat_map (body_clauses l.end) l.bodies
