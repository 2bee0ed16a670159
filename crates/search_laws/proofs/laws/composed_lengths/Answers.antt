use Rattle.search_laws.proofs.Composing.{modules_composed, stable_agree}
use Rattle.search_laws.proofs.laws.composed_lengths.Goals as goal

pub returns-clause-composed : goal.returns-clause-composed
returns-clause-composed c = modules_composed

pub returns-clause-stable : goal.returns-clause-stable
returns-clause-stable c = stable_agree
