-- The live instances of a program that are gathered, with their atoms.
use Rattle.std.specs.Prelude.{◌↔◌, ℕ, ◌+◌, ◌<◌, List, [], ◌∷◌, ◌++◌, map, length, IsTrue}
use Rattle.std.specs.List.{flat_map, list_all}
use Rattle.tel_base.specs.Members.{In}
use Rattle.tel_term.specs.declared.terms.Value.{Value}
use Rattle.tel_rule.specs.declared.statements.Kind.{Kind}
use Rattle.tel_rule.specs.declared.statements.Kind.TheVariants as kinds
use Rattle.tel_rule.specs.declared.statements.Statement.{Statement}
use Rattle.tel_rule.specs.declared.statements.Program.{Program}
use Rattle.atom_table.specs.Named.{NamedAtom, args_in_range}
use Rattle.atom_table.specs.Collected.{atom_under, fact_atom, rule_atoms}
use Rattle.theory_lists.specs.Theories.{ProgramTheory}
use Rattle.program_theory.specs.Instances.{AreInstances, instance_count, node_count}
use Rattle.program_theory.specs.Theory.{IsTheoryOf, width_of}

-- the atoms of the live instances of a statement, as often as they stand there
abbrev pub kind_named : Kind → List (List Value) → List NamedAtom
kind_named (kinds.Rule head body) live = flat_map (λ (binding : List Value). map (atom_under binding) (rule_atoms head body)) live
kind_named (kinds.Facts fact) live = map (fact_atom fact) live
kind_named (kinds.Const name value) live = []
kind_named (kinds.Show shown) live = []

abbrev pub named_atoms : List Statement → List (List (List Value)) → List NamedAtom
named_atoms [] live = []
named_atoms (statement ∷ more) [] = []
named_atoms (statement ∷ more) (live ∷ later) = kind_named statement.kind live ++ named_atoms more later

-- how many places a state has, with so many atoms
abbrev pub place_count : List Statement → List (List (List Value)) → ℕ → ℕ
place_count statements live atoms = atoms + node_count statements live + instance_count live + 1

-- these are the live instances of a program and their atoms
pub record IsGathered (program : Program) (live : List (List (List Value))) (atoms : List NamedAtom) : Type 0 where
  pub instances : AreInstances program live
  pub same : (atom : NamedAtom) → In atom atoms ↔ In atom (named_atoms program.statements live)
  pub in_range : IsTrue (list_all (args_in_range program.symbols) atoms)

-- a state of a program has more places than so many
abbrev pub HasMorePlaces : Program → ℕ → Type 0
HasMorePlaces program room = (live : List (List (List Value))) (theory : ProgramTheory) → IsTheoryOf program live theory → room < width_of program live theory
