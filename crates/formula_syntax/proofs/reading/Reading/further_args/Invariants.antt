use Rattle.formula_syntax.specs.declared.marks.Mark.TheVariants as marks
use Rattle.std.proofs.Common.{◌≡◌, ◌-◌}
use Rattle.formula_syntax.specs.Grammar.{sign}
use Rattle.formula_syntax.specs.Reading.{read_expr}
use Rattle.formula_syntax.specs.Given.{Onward}
use Rattle.formula_syntax.proofs.Gathers.{gathered, tied}
use Rattle.formula_syntax.proofs.reading.Reading.further_args.Given as goal

abbrev pub invariant-loop-turn : goal.invariant-loop-turn
invariant-loop-turn l = record {
  reads : gathered l.fn.args (tied (sign marks.Comma) (read_expr l.levels) l.most l.fn.self) ≡ gathered l.args (tied (sign marks.Comma) (read_expr l.levels) (l.most - l._turn) l.self);
  onward : Onward l.fn.self l.self;
}
