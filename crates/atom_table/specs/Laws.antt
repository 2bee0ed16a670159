-- Laws of atoms: what is added to a set, and what numbers stand for.
use Rattle.std.specs.Prelude.{◌≡◌, ◌↔◌, ◌⊎◌, ℕ, ◌<◌, List, map, length, Some, IsSome}
use Rattle.tel_base.specs.Members.{In}
use Rattle.tel_term.specs.declared.terms.Term.{Term}
use Rattle.tel_term.specs.declared.terms.Value.{Value}
use Rattle.tel_term.specs.declared.exprs.Expr.{Expr}
use Rattle.tel_rule.specs.declared.formulas.Atom.{Atom}
use Rattle.tel_rule.specs.declared.ground.GroundAtom.{GroundAtom}
use Rattle.tel_rule.specs.Atoms.{atom_at}
use Rattle.live_instances.specs.Instances.{values_of}
use Rattle.atom_table.specs.Named.{NamedAtom, number_of, named_as}
use Rattle.atom_table.specs.Collected.{args_under, atom_under, with_atoms}
use Rattle.atom_table.specs.Sorted.{AreSorted}

-- where each argument has a value, these are the arguments under the binding
abbrev pub ArgumentsHaveTheirValues : Type 0
ArgumentsHaveTheirValues =
    (binding : List Value) (args : List Expr) (row : List Value) → values_of binding args ≡ Some row → args_under binding args ≡ row

-- a set to which atoms were added has what it had and these atoms, and nothing else
abbrev pub AddedAtomsAreThere : Type 0
AddedAtomsAreThere =
    (binding : List Value) (atoms : List Atom) (known : List NamedAtom) (atom : NamedAtom) → In atom (with_atoms binding atoms known) ↔ (In atom known ⊎ In atom (map (atom_under binding) atoms))

-- an atom has a number exactly where the atom with this number stands for it
abbrev pub NumbersStandForAtoms : Type 0
NumbersStandForAtoms =
    (symbols : List Term) (atoms : List GroundAtom) (numbered : List NamedAtom) → AreSorted symbols atoms numbered
    → (atom : NamedAtom) (number : ℕ) → (number_of numbered atom ≡ Some number) ↔ ((number < length atoms) × (named_as symbols (atom_at atoms number) ≡ atom))

-- each atom of a list has a number there
abbrev pub AtomsHaveNumbers : Type 0
AtomsHaveNumbers = (atoms : List NamedAtom) (atom : NamedAtom) → In atom atoms ↔ IsSome (number_of atoms atom)
