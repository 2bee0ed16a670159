use Rattle.std.proofs.Common.{◌≡◌, drop}
use Rattle.std.specs.List.{flat_map}
use Rattle.atom_table.specs.Collected.{literal_atoms, with_atoms}
use Rattle.atom_table.proofs.seen.AtomSet.add_body.Given as goal

abbrev pub invariant-loop-literal : goal.invariant-loop-literal
invariant-loop-literal l =
    with_atoms l.binding (flat_map literal_atoms (drop l.literal-index l.body)) l.self ≡ with_atoms l.binding (flat_map literal_atoms l.body) l.initial.self
