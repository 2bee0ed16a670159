use Rattle.std.proofs.Common.{◌≡◌, drop}
use Rattle.fact_instantiate.specs.Shown.{has_show}
use Rattle.fact_instantiate.proofs.showing.has_show.Given as goal

abbrev pub invariant-loop-statement : goal.invariant-loop-statement
invariant-loop-statement l = has_show (drop l.statement-index l.statements) ≡ has_show l.statements
