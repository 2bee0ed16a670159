use Rattle.std.proofs.Common.{length}
use Rattle.part_syntax.proofs.heads.+plain_args.Given as goal

abbrev pub decreases-plain_args : goal.decreases-plain_args
decreases-plain_args l = length l.args
