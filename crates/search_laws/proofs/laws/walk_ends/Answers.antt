use Rattle.search_laws.proofs.Ends.{ends_are_apart, found_is_one, values_stand}
use Rattle.search_laws.proofs.Listing.{found_finds}
use Rattle.search_laws.proofs.laws.walk_ends.Goals as goal

pub returns-clause-apart : goal.returns-clause-apart
returns-clause-apart c = ends_are_apart

pub returns-clause-one : goal.returns-clause-one
returns-clause-one c = found_is_one

pub returns-clause-values : goal.returns-clause-values
returns-clause-values c = values_stand

pub returns-clause-finds : goal.returns-clause-finds
returns-clause-finds c = found_finds
