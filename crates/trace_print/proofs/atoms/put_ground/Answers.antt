use Rattle.std.proofs.Common.{◌++◌, refl, ap}
use Rattle.tel_rule.specs.Atoms.{name_of}
use Rattle.tel_semantics.specs.Print.{args_text}
use Rattle.trace_print.proofs.Steps.{puts-then, puts-short}
use Rattle.trace_print.proofs.Texts.{ground-parts, name_read}
use Rattle.trace_print.proofs.atoms.put_ground.Goals as goal

pub returns-in-Err : goal.returns-in-Err
returns-in-Err g c =
    let symbols = c.args.symbols.now in
    let atom = c.args.atom.now in
    let sign = c.sign_of.result.now in
    let name = name_of symbols atom in
    let args = args_text symbols atom.args in
    rw (← ground-parts symbols atom sign name args c.sign_of.ensures refl refl) (puts-short {a = sign ++ name} args (puts-short {a = sign} name c.in-Err.ensures))

pub returns-in-Ok-put : goal.returns-in-Ok-put
returns-in-Ok-put g c =
    let symbols = c.args.symbols.now in
    let atom = c.args.atom.now in
    let sign = c.sign_of.result.now in
    let name = c.name_of.result.now in
    let args = args_text symbols c.as_slice.result.now in
    rw (← ground-parts symbols atom sign name args c.sign_of.ensures (name_read symbols atom _ name c.term.ensures c.name_of.ensures) (ap (args_text symbols) c.as_slice.ensures)) (puts-then {a = sign ++ name} {b = args} (puts-then {a = sign} {b = name} c.in-Ok.ensures c.in-Ok-put.ensures) c.put_args.ensures)

pub returns-in-Err-put : goal.returns-in-Err-put
returns-in-Err-put g c =
    let symbols = c.args.symbols.now in
    let atom = c.args.atom.now in
    let sign = c.sign_of.result.now in
    let name = c.name_of.result.now in
    let args = args_text symbols atom.args in
    rw (← ground-parts symbols atom sign name args c.sign_of.ensures (name_read symbols atom _ name c.term.ensures c.name_of.ensures) refl) (puts-short {a = sign ++ name} args (puts-then {a = sign} {b = name} c.in-Ok.ensures c.in-Err-put.ensures))
