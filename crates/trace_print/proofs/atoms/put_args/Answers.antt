use Rattle.std.proofs.Common.{arith}
use Rattle.trace_print.proofs.Texts.{args_text-some}
use Rattle.trace_print.proofs.atoms.put_args.Goals as goal

pub returns-in-len1-up : goal.returns-in-len1-up
returns-in-len1-up g c =
    rw (← args_text-some c.args.symbols.now c.args.args.now _ (omega (arith, c.in-len1-up.len_at_least))) at c.put_some.ensures
