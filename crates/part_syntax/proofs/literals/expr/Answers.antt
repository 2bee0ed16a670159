use Rattle.std.proofs.Common.{◌≡◌, suc, ◌+◌, arith}
use Rattle.part_syntax.proofs.literals.expr.Goals as goal

pub returns-clause-reads : goal.returns-clause-reads
returns-clause-reads c = let e : suc c.args.levels ≡ c.from.result + 1 = omega arith in rw e c.expr.ensures.reads
