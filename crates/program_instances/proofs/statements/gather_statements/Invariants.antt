use Rattle.std.proofs.Common.{◌≤◌, take}
use Rattle.program_instances.specs.Adding.{GathersAll}
use Rattle.program_instances.proofs.statements.gather_statements.Given as goal

abbrev pub invariant-loop-statement : goal.invariant-loop-statement
invariant-loop-statement l = record {
  front : GathersAll l.program.statements l.program.symbols (take l.statement-index l.statements) l.live l.atoms l.room l.left;
  less : l.left ≤ l.room;
}
