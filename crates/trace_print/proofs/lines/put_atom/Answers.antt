use Rattle.std.proofs.Common.{codes, sym, ◌∙◌}
use Rattle.tel_semantics.specs.Print.{numbered_text}
use Rattle.trace_print.proofs.Steps.{puts-then, puts-short, puts-none}
use Rattle.trace_print.proofs.Texts.{hidden, shown}
use Rattle.trace_print.proofs.lines.put_atom.Goals as goal

pub returns-then-not-is_shown : goal.returns-then-not-is_shown
returns-then-not-is_shown g c =
    rw (hidden c.args.template.now c.args.atom (sym c.is_shown.ensures ∙ c.if-not-is_shown.true)) puts-none

pub returns-in-Ok : goal.returns-in-Ok
returns-in-Ok g c =
    rw (shown c.args.template.now c.args.atom (sym c.is_shown.ensures ∙ c.if-not-is_shown.false))
    (puts-then {a = codes " "} {b = numbered_text c.args.template.now c.args.atom} c.in-Ok.ensures c.put_numbered.ensures)

pub returns-in-Err : goal.returns-in-Err
returns-in-Err g c =
    rw (shown c.args.template.now c.args.atom (sym c.is_shown.ensures ∙ c.if-not-is_shown.false))
    (puts-short {a = codes " "} (numbered_text c.args.template.now c.args.atom) c.in-Err.ensures)
