use Rattle.std.proofs.Common.{◌≡◌}
use Rattle.tel_engine.specs.declared.stages.Stage.TheVariants.{Listed}
use Rattle.engine_rows.specs.declared.templates.TheConstants.{GREATEST}
use Rattle.engine_rows.proofs.print_lengths.Given as goal

abbrev pub invariant-loop-asked : goal.invariant-loop-asked
invariant-loop-asked l = record {
  stage : l.engine.stage ≡ Listed;
  greatest : l.engine.greatest ≡ GREATEST;
}
