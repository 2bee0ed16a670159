use Rattle.std.proofs.Common.{◌≡◌, ◌++◌, take, drop}
use Rattle.tel_rule.specs.Rising.{with_name}
use Rattle.tel_rule.proofs.names.place_of.Given as goal

abbrev pub invariant-loop-place : goal.invariant-loop-place
invariant-loop-place l =
    with_name l.name l.names ≡ take l.place l.names ++ with_name l.name (drop l.place l.names)
