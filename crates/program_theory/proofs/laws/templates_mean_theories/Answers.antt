use Rattle.instance_build.proofs.Said.{instances_mean_rules}
use Rattle.instance_build.proofs.Rows.{rows_mean_instances}
use Rattle.program_theory.proofs.Counted.{templates-counted}
use Rattle.program_theory.proofs.Meant.{templates-mean}
use Rattle.program_theory.proofs.laws.templates_mean_theories.Goals as goal

pub returns-clause-means : goal.returns-clause-means
returns-clause-means c = templates-mean instances_mean_rules rows_mean_instances

pub returns-clause-counted : goal.returns-clause-counted
returns-clause-counted c = templates-counted
