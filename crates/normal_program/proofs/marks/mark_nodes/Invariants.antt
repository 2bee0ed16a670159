use Rattle.std.proofs.Common.{◌≡◌, ℕ, false, ◌||◌, get_or, drop}
use Rattle.std.specs.Prelude.{◌==◌, vec_len}
use Rattle.std.specs.List.{list_any}
use Rattle.normal_program.specs.declared.shapes.NodeRule.{NodeRule}
use Rattle.normal_program.proofs.marks.mark_nodes.Given as goal

abbrev pub invariant-loop-node : goal.invariant-loop-node
invariant-loop-node l = record {
  len : vec_len l.marks ≡ vec_len l.initial.marks;
  marks : (var : ℕ) → (get_or l.marks.items var false || list_any (λ (node : NodeRule). node.var == var) (drop l.node-index l.nodes)) ≡ (get_or l.initial.marks.items var false || list_any (λ (node : NodeRule). node.var == var) l.nodes);
}
