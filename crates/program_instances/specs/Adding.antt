-- One statement more: its live instances, the atoms that come with them, and the places that these take.
use Rattle.std.specs.Prelude.{◌≡◌, ℕ, ◌+◌, ◌-◌, ◌*◌, ◌^◌, ◌<◌, ◌≤◌, min, List, [], ◌∷◌, length}
use Rattle.tel_term.specs.declared.terms.Term.{Term}
use Rattle.tel_term.specs.declared.terms.Value.{Value}
use Rattle.tel_rule.specs.declared.statements.Kind.{Kind}
use Rattle.tel_rule.specs.declared.statements.Statement.{Statement}
use Rattle.atom_table.specs.Named.{NamedAtom, with_atom}
use Rattle.program_theory.specs.Instances.{KindHasInstances, HaveInstances, instance_count, kind_nodes, node_count}
use Rattle.program_instances.specs.Gathered.{kind_named, named_atoms}

-- a number as a `usize` holds it: a greater one counts as the greatest
abbrev pub capped : ℕ → ℕ
capped n = min n (2 ^ 64 - 1)

-- these atoms, and those of a list, each of which is put at the end unless it is there
abbrev pub with_all : List NamedAtom → List NamedAtom → List NamedAtom
with_all known [] = known
with_all known (atom ∷ more) = with_all (with_atom known atom) more

-- how many places the instances of a statement and their nodes take
abbrev pub kind_places : Kind → List (List Value) → ℕ
kind_places kind live = length live * kind_nodes kind + length live

-- a statement with these live instances was gathered, with so much room for instances, nodes and atoms before and behind it
pub record Gathers (statements : List Statement) (symbols : List Term) (count : ℕ) (kind : Kind) (old new : List NamedAtom) (room left : ℕ) (live : List (List Value)) : Type 0 where
  pub instances : KindHasInstances statements symbols count kind live
  pub atoms : new ≡ with_all old (kind_named kind live)
  pub taken : left + kind_places kind live ≡ room
  pub few : length new ≤ left

-- with this statement there isn't room for all
abbrev pub Overflows : List Statement → List Term → ℕ → Kind → List NamedAtom → ℕ → Type 0
Overflows statements symbols count kind old room =
    (live : List (List Value)) → KindHasInstances statements symbols count kind live → room < length (with_all old (kind_named kind live)) + kind_places kind live

-- some statements with these live instances were gathered, and so much room is left
pub record GathersAll (statements : List Statement) (symbols : List Term) (some : List Statement) (live : List (List (List Value))) (atoms : List NamedAtom) (room left : ℕ) : Type 0 where
  pub instances : HaveInstances statements symbols some live
  pub atoms_are : atoms ≡ with_all [] (named_atoms some live)
  pub taken : left + node_count some live + instance_count live ≡ room
  pub few : length atoms ≤ left

-- with all of them there isn't
abbrev pub OverflowsAll : List Statement → List Term → List Statement → ℕ → Type 0
OverflowsAll statements symbols some room =
    (live : List (List (List Value))) → HaveInstances statements symbols some live → room < length (with_all [] (named_atoms some live)) + node_count some live + instance_count live
