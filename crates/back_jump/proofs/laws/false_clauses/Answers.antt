use Rattle.back_jump.proofs.FalseClauses.{loop_false, block_false}
use Rattle.back_jump.proofs.laws.false_clauses.Goals as goal

pub returns-clause-loops : goal.returns-clause-loops
returns-clause-loops c = loop_false

pub returns-clause-blocks : goal.returns-clause-blocks
returns-clause-blocks c = block_false
