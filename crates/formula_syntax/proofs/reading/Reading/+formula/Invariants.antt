use Rattle.formula_syntax.specs.declared.marks.Mark.TheVariants as marks
use Rattle.std.proofs.Common.{◌≡◌, ◌+◌, ◌-◌, ◌*◌}
use Rattle.grammar_laws.specs.Steps.{one, both, each, passes}
use Rattle.formula_syntax.specs.Grammar.{sign}
use Rattle.formula_syntax.specs.Reading.{read_unary, read_pair, read_and}
use Rattle.formula_syntax.specs.Given.{Onward}
use Rattle.formula_syntax.proofs.Gathers.{gathered, tied}
use Rattle.formula_syntax.proofs.reading.Reading.+formula.Given as goal

abbrev pub decreases-unary : goal.decreases-unary
decreases-unary l = 9 * l.levels

abbrev pub decreases-pair : goal.decreases-pair
decreases-pair l = 9 * l.levels + 1

abbrev pub decreases-conjuncts : goal.decreases-conjuncts
decreases-conjuncts l = 9 * l.levels + 2

abbrev pub decreases-conjunction : goal.decreases-conjunction
decreases-conjunction l = 9 * l.levels + 3

abbrev pub decreases-disjuncts : goal.decreases-disjuncts
decreases-disjuncts l = 9 * l.levels + 4

abbrev pub decreases-disjunction : goal.decreases-disjunction
decreases-disjunction l = 9 * l.levels + 5

abbrev pub decreases-formula : goal.decreases-formula
decreases-formula l = 9 * l.levels + 6

abbrev pub decreases-bracketed_formula : goal.decreases-bracketed_formula
decreases-bracketed_formula l = 9 * l.levels + 7

abbrev pub decreases-nested_unary : goal.decreases-nested_unary
decreases-nested_unary l = 9 * l.levels + 8

abbrev pub invariant-conjuncts-loop-turn : goal.invariant-conjuncts-loop-turn
invariant-conjuncts-loop-turn l = record {
  reads : gathered l.fn.all (each (passes (sign marks.Ampersand)) (both (one (sign marks.Ampersand)) (read_pair (read_unary l.levels))) l.fn.self) ≡ gathered l.all (tied (sign marks.Ampersand) (read_pair (read_unary l.levels)) (l._turn-end - l._turn) l.self);
  onward : Onward l.fn.self l.self;
}

abbrev pub invariant-disjuncts-loop-turn : goal.invariant-disjuncts-loop-turn
invariant-disjuncts-loop-turn l = record {
  reads : gathered l.fn.all (each (passes (sign marks.Bar)) (both (one (sign marks.Bar)) (read_and (read_pair (read_unary l.levels)))) l.fn.self) ≡ gathered l.all (tied (sign marks.Bar) (read_and (read_pair (read_unary l.levels))) (l._turn-end - l._turn) l.self);
  onward : Onward l.fn.self l.self;
}
