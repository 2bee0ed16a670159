use Rattle.std.proofs.Common.{◌≡◌, ◌++◌, drop}
use Rattle.std.specs.List.{flat_map}
use Rattle.horizon_external.specs.Occurring.{pair_vars}
use Rattle.horizon_external.proofs.occurring.add_pairs.Given as goal

abbrev pub invariant-loop-pair : goal.invariant-loop-pair
invariant-loop-pair l = l.vars ++ flat_map pair_vars (drop l.pair-index l.pairs) ≡ l.initial.vars ++ flat_map pair_vars l.pairs
