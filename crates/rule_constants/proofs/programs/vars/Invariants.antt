use Rattle.std.proofs.Common.{◌≡◌, ◌++◌, drop}
use Rattle.rule_constants.proofs.programs.vars.Given as goal

abbrev pub invariant-loop-name : goal.invariant-loop-name
invariant-loop-name l = l.new ++ drop l.name-index l.names ≡ l.names
