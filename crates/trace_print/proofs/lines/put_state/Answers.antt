use Rattle.std.proofs.Common.{◌++◌, codes, decimal}
use Rattle.std.specs.List.{flat_map}
use Rattle.tel_semantics.specs.Print.{atom_text}
use Rattle.trace_print.proofs.Steps.{puts-then, puts-short}
use Rattle.trace_print.proofs.lines.put_state.Goals as goal

pub returns-in-Err : goal.returns-in-Err
returns-in-Err g c =
    let start = codes "state " ++ decimal c.args.instant ++ codes ":" in
    let atoms = flat_map (atom_text c.args.template.now) c.args.state.now in
    puts-short {a = start ++ atoms} (codes "\n") (puts-short {a = start} atoms c.in-Err.ensures)

pub returns-in-Ok-put_atoms : goal.returns-in-Ok-put_atoms
returns-in-Ok-put_atoms g c =
    let start = codes "state " ++ decimal c.args.instant ++ codes ":" in
    let atoms = flat_map (atom_text c.args.template.now) c.args.state.now in
    puts-then {a = start ++ atoms} {b = codes "\n"} (puts-then {a = start} {b = atoms} c.in-Ok.ensures c.in-Ok-put_atoms.ensures) c.put.ensures

pub returns-in-Err-put_atoms : goal.returns-in-Err-put_atoms
returns-in-Err-put_atoms g c =
    let start = codes "state " ++ decimal c.args.instant ++ codes ":" in
    let atoms = flat_map (atom_text c.args.template.now) c.args.state.now in
    puts-short {a = start ++ atoms} (codes "\n") (puts-then {a = start} {b = atoms} c.in-Ok.ensures c.in-Err-put_atoms.ensures)
