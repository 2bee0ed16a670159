use Rattle.search_log.proofs.SameClauses.{alike_self, order_alike, up_alike, conflict_alike, absorbed_alike}
use Rattle.search_log.proofs.SameWalks.{needed_alike, cut_alike, block_alike}
use Rattle.search_log.proofs.SameLogs.{length_alike}
use Rattle.search_log.proofs.laws.logs_are_alike.Goals as goal

pub returns-clause-order : goal.returns-clause-order
returns-clause-order c = order_alike

pub returns-clause-derive : goal.returns-clause-derive
returns-clause-derive c = λ clauses others alike start. (up_alike clauses others alike start start (alike_self start), conflict_alike clauses others alike start start (alike_self start))

pub returns-clause-absorb : goal.returns-clause-absorb
returns-clause-absorb c = λ clauses others clause other alike same. absorbed_alike clauses others alike clause other same

pub returns-clause-cut : goal.returns-clause-cut
returns-clause-cut c = λ length clauses others clause other alike same. (needed_alike clauses others alike length, cut_alike clauses others alike length clause other same)

pub returns-clause-block : goal.returns-clause-block
returns-clause-block c = λ length clauses others clause other decisions set alike same. block_alike clauses others alike length clause other decisions set same

pub returns-clause-length : goal.returns-clause-length
returns-clause-length c = length_alike
