use Rattle.std.proofs.Common.{◌≡◌, ◌++◌, map, drop}
use Rattle.rule_constants.specs.Constants.{replacement, expr_replaced}
use Rattle.rule_constants.specs.Operands.{by_number}
use Rattle.rule_constants.proofs.programs.exprs.Given as goal

abbrev pub invariant-loop-expr : goal.invariant-loop-expr
invariant-loop-expr l = l.new ++ map (expr_replaced (replacement l.links (by_number l.known))) (drop l.expr-index l.exprs) ≡ map (expr_replaced (replacement l.links (by_number l.known))) l.exprs
