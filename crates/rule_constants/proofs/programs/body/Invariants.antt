use Rattle.std.proofs.Common.{◌≡◌, ◌++◌, map, drop}
use Rattle.rule_constants.specs.Constants.{replacement}
use Rattle.rule_constants.specs.Operands.{by_number}
use Rattle.rule_constants.specs.Replaced.{literal_replaced}
use Rattle.rule_constants.proofs.programs.body.Given as goal

abbrev pub invariant-loop-next : goal.invariant-loop-next
invariant-loop-next l = l.new ++ map (literal_replaced (replacement l.links (by_number l.known))) (drop l.next-index l.literals) ≡ map (literal_replaced (replacement l.links (by_number l.known))) l.literals
