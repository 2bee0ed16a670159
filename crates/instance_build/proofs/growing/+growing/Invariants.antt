use Rattle.std.proofs.Common.{◌≡◌, ◌++◌, map, drop, length}
use Rattle.instance_build.specs.Instances.{in_row, grown}
use Rattle.instance_build.proofs.growing.+growing.Given as goal

abbrev pub invariant-grow_all-loop-formula : goal.invariant-grow_all-loop-formula
invariant-grow_all-loop-formula g l = record {
  kids : l.kids ++ (in_row (map (grown (g.N.AtomNumbers.number l.numbers)) (drop l.formula-index l.formulas)) (length l.nodes)).0 ≡ (in_row (map (grown (g.N.AtomNumbers.number l.numbers)) l.formulas) (length l.initial.nodes)).0;
  nodes : l.nodes ++ (in_row (map (grown (g.N.AtomNumbers.number l.numbers)) (drop l.formula-index l.formulas)) (length l.nodes)).1 ≡ l.initial.nodes ++ (in_row (map (grown (g.N.AtomNumbers.number l.numbers)) l.formulas) (length l.initial.nodes)).1;
}
