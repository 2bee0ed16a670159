use Rattle.std.proofs.Common.{◌≡◌, map, drop}
use Rattle.atom_table.specs.Collected.{joined, formula_atoms, with_atoms}
use Rattle.atom_table.proofs.seen.AtomSet.+atoms_of_formulas.Given as goal

abbrev pub invariant-add_formulas-loop-formula : goal.invariant-add_formulas-loop-formula
invariant-add_formulas-loop-formula l =
    with_atoms l.binding (joined (map formula_atoms (drop l.formula-index l.formulas))) l.self ≡ with_atoms l.binding (joined (map formula_atoms l.formulas)) l.initial.self
