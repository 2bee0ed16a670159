use Rattle.std.proofs.Common.{◌≡◌, ◌++◌, drop, length}
use Rattle.instance_build.specs.Instances.{ground_body}
use Rattle.instance_build.proofs.literals.ground_body.Given as goal

abbrev pub invariant-loop-literal : goal.invariant-loop-literal
invariant-loop-literal g l = record {
  literals : l.literals ++ (ground_body (g.N.AtomNumbers.number l.numbers) (drop l.literal-index l.body) (length l.nodes)).0 ≡ (ground_body (g.N.AtomNumbers.number l.numbers) l.body (length l.initial.nodes)).0;
  nodes : l.nodes ++ (ground_body (g.N.AtomNumbers.number l.numbers) (drop l.literal-index l.body) (length l.nodes)).1 ≡ l.initial.nodes ++ (ground_body (g.N.AtomNumbers.number l.numbers) l.body (length l.initial.nodes)).1;
}
