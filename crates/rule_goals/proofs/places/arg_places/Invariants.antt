use Rattle.std.proofs.Common.{◌≡◌, ◌++◌, drop}
use Rattle.rule_goals.specs.Said.{arg_places}
use Rattle.rule_goals.proofs.places.arg_places.Given as goal

abbrev pub invariant-loop-arg : goal.invariant-loop-arg
invariant-loop-arg l = l.places ++ arg_places l.next (drop l.arg-index l.args) ≡ arg_places l.free l.args
