use Rattle.std.proofs.Common.{◌≡◌, ◌++◌, drop}
use Rattle.rule_binding.specs.Heads.{tells}
use Rattle.rule_binding.specs.Rules.{body_rules}
use Rattle.rule_binding.proofs.rules.body_rules.Given as goal

abbrev pub invariant-loop-literal : goal.invariant-loop-literal
invariant-loop-literal l = l.rules ++ body_rules (tells l.tables) (drop l.literal-index l.body) ≡ body_rules (tells l.tables) l.body
