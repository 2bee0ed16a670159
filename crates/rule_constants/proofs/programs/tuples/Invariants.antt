use Rattle.std.proofs.Common.{◌≡◌, ◌++◌, map, drop}
use Rattle.rule_constants.specs.Constants.{replacement}
use Rattle.rule_constants.specs.Operands.{by_number}
use Rattle.rule_constants.specs.Replaced.{arg_replaced}
use Rattle.rule_constants.proofs.programs.tuples.Given as goal

abbrev pub invariant-loop-next : goal.invariant-loop-next
invariant-loop-next l = l.new ++ map (map (arg_replaced (replacement l.links (by_number l.known)))) (drop l.next-index l.tuples) ≡ map (map (arg_replaced (replacement l.links (by_number l.known)))) l.tuples
