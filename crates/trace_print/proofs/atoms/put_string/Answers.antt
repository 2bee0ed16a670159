use Rattle.std.proofs.Common.{◌++◌, codes}
use Rattle.std.specs.List.{flat_map}
use Rattle.tel_semantics.specs.Print.{escaped}
use Rattle.trace_print.proofs.Steps.{puts-then, puts-short}
use Rattle.trace_print.proofs.atoms.put_string.Goals as goal

pub returns-in-Err : goal.returns-in-Err
returns-in-Err g c =
    let quote = codes "\"" in
    let each = flat_map escaped c.args.bytes.now in
    puts-short {a = quote ++ each} quote (puts-short {a = quote} each c.in-Err.ensures)

pub returns-in-Ok-put_each : goal.returns-in-Ok-put_each
returns-in-Ok-put_each g c =
    let quote = codes "\"" in
    let each = flat_map escaped c.args.bytes.now in
    puts-then {a = quote ++ each} {b = quote} (puts-then {a = quote} {b = each} c.in-Ok.ensures c.in-Ok-put_each.ensures) c.put-in-Ok-put_each.ensures

pub returns-in-Err-put_each : goal.returns-in-Err-put_each
returns-in-Err-put_each g c =
    let quote = codes "\"" in
    let each = flat_map escaped c.args.bytes.now in
    puts-short {a = quote ++ each} quote (puts-then {a = quote} {b = each} c.in-Ok.ensures c.in-Err-put_each.ensures)
