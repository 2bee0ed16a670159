use Rattle.std.proofs.Common.{◌++◌, codes}
use Rattle.std.specs.List.{flat_map}
use Rattle.tel_semantics.specs.Print.{value_text, next_text}
use Rattle.trace_print.proofs.Steps.{puts-then, puts-short}
use Rattle.trace_print.proofs.atoms.put_some.Goals as goal

pub returns-in-Err : goal.returns-in-Err
returns-in-Err g c =
    let open_bracket = codes "(" in
    let closed = codes ")" in
    let first = value_text c.args.symbols.now c.args.first in
    let more = flat_map (next_text c.args.symbols.now) c.args.more.now in
    puts-short {a = open_bracket ++ first ++ more} closed (puts-short {a = open_bracket ++ first} more (puts-short {a = open_bracket} first c.in-Err.ensures))

pub returns-in-Err-put_value : goal.returns-in-Err-put_value
returns-in-Err-put_value g c =
    let open_bracket = codes "(" in
    let closed = codes ")" in
    let first = value_text c.args.symbols.now c.args.first in
    let more = flat_map (next_text c.args.symbols.now) c.args.more.now in
    puts-short {a = open_bracket ++ first ++ more} closed (puts-short {a = open_bracket ++ first} more (puts-then {a = open_bracket} {b = first} c.in-Ok.ensures c.in-Err-put_value.ensures))

pub returns-in-Ok-put_more : goal.returns-in-Ok-put_more
returns-in-Ok-put_more g c =
    let open_bracket = codes "(" in
    let closed = codes ")" in
    let first = value_text c.args.symbols.now c.args.first in
    let more = flat_map (next_text c.args.symbols.now) c.args.more.now in
    puts-then {a = open_bracket ++ first ++ more} {b = closed} (puts-then {a = open_bracket ++ first} {b = more} (puts-then {a = open_bracket} {b = first} c.in-Ok.ensures c.in-Ok-put_value.ensures) c.in-Ok-put_more.ensures) c.put-in-Ok-put_more.ensures

pub returns-in-Err-put_more : goal.returns-in-Err-put_more
returns-in-Err-put_more g c =
    let open_bracket = codes "(" in
    let closed = codes ")" in
    let first = value_text c.args.symbols.now c.args.first in
    let more = flat_map (next_text c.args.symbols.now) c.args.more.now in
    puts-short {a = open_bracket ++ first ++ more} closed (puts-then {a = open_bracket ++ first} {b = more} (puts-then {a = open_bracket} {b = first} c.in-Ok.ensures c.in-Ok-put_value.ensures) c.in-Err-put_more.ensures)
