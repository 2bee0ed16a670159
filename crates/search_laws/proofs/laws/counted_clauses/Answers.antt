use Rattle.search_laws.proofs.Counting.{at_most_counted}
use Rattle.search_laws.proofs.laws.counted_clauses.Goals as goal

pub returns : goal.returns
returns c = at_most_counted
