use Rattle.std.proofs.Common.{◌≡◌, ◌++◌, map, drop}
use Rattle.rule_constants.specs.Constants.{replacement}
use Rattle.rule_constants.specs.Operands.{by_number}
use Rattle.rule_constants.specs.Replaced.{arg_replaced}
use Rattle.rule_constants.proofs.programs.tuple.Given as goal

abbrev pub invariant-loop-next : goal.invariant-loop-next
invariant-loop-next l = l.new ++ map (arg_replaced (replacement l.links (by_number l.known))) (drop l.next-index l.tuple) ≡ map (arg_replaced (replacement l.links (by_number l.known))) l.tuple
