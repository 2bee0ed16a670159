use Rattle.search_laws.proofs.TrailLevels.{levels_are_total, levels_are_stuck}
use Rattle.search_laws.proofs.laws.walk_levels.Goals as goal

pub returns-clause-total : goal.returns-clause-total
returns-clause-total c = levels_are_total

pub returns-clause-stuck : goal.returns-clause-stuck
returns-clause-stuck c = levels_are_stuck
