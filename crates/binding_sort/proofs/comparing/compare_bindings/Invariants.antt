use Rattle.std.proofs.Common.{◌≡◌, drop}
use Rattle.live_instances.specs.Bindings.{binding_cmp}
use Rattle.binding_sort.proofs.comparing.compare_bindings.Given as goal

abbrev pub invariant-loop-at : goal.invariant-loop-at
invariant-loop-at l = binding_cmp l.symbols (drop l.at l.a) (drop l.at l.b) ≡ binding_cmp l.symbols l.a l.b
