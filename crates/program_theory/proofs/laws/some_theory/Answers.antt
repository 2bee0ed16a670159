use Rattle.program_theory.proofs.SomeInstances.{programs-instances}
use Rattle.program_theory.proofs.SomeTheory.{instances-theory}
use Rattle.program_theory.proofs.laws.some_theory.Goals as goal

pub returns-clause-instances : goal.returns-clause-instances
returns-clause-instances c = programs-instances

pub returns-clause-theory : goal.returns-clause-theory
returns-clause-theory c = instances-theory
