use Rattle.rule_binding.specs.Heads.{tells}
use Rattle.rule_check.specs.Checking.{AreClear}
use Rattle.rule_check.proofs.checking.examine_first.Given as goal

abbrev pub invariant-loop-number : goal.invariant-loop-number
invariant-loop-number l = AreClear (tells l.tables) l.statements l.number
