use Rattle.std.proofs.Common.{◌≡◌, ◌+◌, ◌-◌, ◌*◌}
use Rattle.grammar_laws.specs.Steps.{one, both, each, passes}
use Rattle.formula_syntax.specs.Grammar.{product_op, sum_op}
use Rattle.formula_syntax.specs.Reading.{read_value, read_product}
use Rattle.formula_syntax.specs.Given.{Onward}
use Rattle.formula_syntax.proofs.Chains.{joined, links}
use Rattle.formula_syntax.proofs.reading.Reading.+expr.Given as goal

abbrev pub decreases-value : goal.decreases-value
decreases-value l = 7 * l.levels

abbrev pub decreases-factors : goal.decreases-factors
decreases-factors l = 7 * l.levels + 1

abbrev pub decreases-product : goal.decreases-product
decreases-product l = 7 * l.levels + 2

abbrev pub decreases-summands : goal.decreases-summands
decreases-summands l = 7 * l.levels + 3

abbrev pub decreases-expr : goal.decreases-expr
decreases-expr l = 7 * l.levels + 4

abbrev pub decreases-bracketed_expr : goal.decreases-bracketed_expr
decreases-bracketed_expr l = 7 * l.levels + 5

abbrev pub decreases-nested_value : goal.decreases-nested_value
decreases-nested_value l = 7 * l.levels + 6

abbrev pub invariant-factors-loop-turn : goal.invariant-factors-loop-turn
invariant-factors-loop-turn l = record {
  reads : each (passes product_op) (both (one product_op) (read_value l.levels)) l.fn.self ≡ joined l.factors (links product_op (read_value l.levels) (l._turn-end - l._turn) l.self);
  onward : Onward l.fn.self l.self;
}

abbrev pub invariant-summands-loop-turn : goal.invariant-summands-loop-turn
invariant-summands-loop-turn l = record {
  reads : each (passes sum_op) (both (one sum_op) (read_product (read_value l.levels))) l.fn.self ≡ joined l.summands (links sum_op (read_product (read_value l.levels)) (l._turn-end - l._turn) l.self);
  onward : Onward l.fn.self l.self;
}
