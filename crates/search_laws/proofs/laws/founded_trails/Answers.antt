use Rattle.search_laws.proofs.Foundations.{founded_is_stable}
use Rattle.search_laws.proofs.TotalTrails.{none_is_stable, some_is_unstable}
use Rattle.search_laws.proofs.laws.founded_trails.Goals as goal

pub returns-clause-founded : goal.returns-clause-founded
returns-clause-founded c = founded_is_stable

pub returns-clause-none : goal.returns-clause-none
returns-clause-none c = none_is_stable

pub returns-clause-some : goal.returns-clause-some
returns-clause-some c = some_is_unstable
