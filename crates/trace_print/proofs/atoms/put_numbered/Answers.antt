use Rattle.std.proofs.Common.{sym, rules}
use Rattle.tel_rule.specs.Atoms.{atom_in_range}
use Rattle.trace_print.proofs.Texts.{all-there, numbered-there}
use Rattle.trace_print.proofs.atoms.put_numbered.Goals as goal

pub put_ground-requires : goal.put_ground-requires
put_ground-requires g c =
    (search rules, all-there (atom_in_range c.template.inside.symbols) c.template.inside.atoms c.args.atom c.in-Some.found.now c.template.invariant.named (sym c.in-Some.ensures.value))

pub returns : goal.returns
returns g c =
    rw (numbered-there c.args.template.now _ c.args.atom c.in-Some.found.now c.template.view_is (sym c.in-Some.ensures.value)) c.put_ground.ensures
