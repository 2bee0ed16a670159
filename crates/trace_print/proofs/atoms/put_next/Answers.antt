use Rattle.std.proofs.Common.{codes}
use Rattle.tel_semantics.specs.Print.{value_text}
use Rattle.trace_print.proofs.Steps.{puts-then, puts-short}
use Rattle.trace_print.proofs.atoms.put_next.Goals as goal

pub returns-in-Ok : goal.returns-in-Ok
returns-in-Ok g c =
    puts-then {a = codes ","} {b = value_text c.args.symbols.now c.args.value} c.in-Ok.ensures c.put_value.ensures

pub returns-in-Err : goal.returns-in-Err
returns-in-Err g c = puts-short {a = codes ","} (value_text c.args.symbols.now c.args.value) c.in-Err.ensures
