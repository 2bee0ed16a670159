use Rattle.completion.proofs.laws.completion.Goals as goal
use Rattle.completion.proofs.FromClauses.{from_clauses}
use Rattle.completion.proofs.ToClauses.{to_clauses}

pub returns-clause-sound : goal.returns-clause-sound
returns-clause-sound c = from_clauses

pub returns-clause-whole : goal.returns-clause-whole
returns-clause-whole c = to_clauses
