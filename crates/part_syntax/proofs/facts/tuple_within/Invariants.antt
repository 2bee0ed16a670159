use Rattle.formula_syntax.specs.declared.marks.Mark.TheVariants as marks
use Rattle.std.proofs.Common.{◌≡◌, ◌-◌}
use Rattle.grammar_laws.specs.Steps.{made, one, both, at_most, passes}
use Rattle.formula_syntax.specs.Grammar.{sign}
use Rattle.part_syntax.specs.Grammar.{chain_of}
use Rattle.part_syntax.specs.Reading.{read_arg}
use Rattle.part_syntax.specs.Given.{IsFrugal}
use Rattle.part_syntax.proofs.Rows.{rows, steps}
use Rattle.part_syntax.proofs.facts.tuple_within.Given as goal

abbrev pub invariant-loop-turn : goal.invariant-loop-turn
invariant-loop-turn l = record {
  reads : made chain_of (both (read_arg l.levels) (at_most l.most (passes (sign marks.Comma)) (both (one (sign marks.Comma)) (read_arg l.levels)))) l.fn.reading ≡ rows l.tuple (steps (passes (sign marks.Comma)) (both (one (sign marks.Comma)) (read_arg l.levels)) (l.most - l._turn) l.reading);
  room : IsFrugal l.fn.reading l.reading;
}
