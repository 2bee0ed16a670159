-- The instances of a program over the numbers of its atoms, which are known by the bytes of their names.
use Rattle.std.specs.Prelude.{ℕ, ◌+◌, List, [], ◌∷◌, ◌++◌, map, nat_lt, unwrap_or}
use Rattle.tel_term.specs.declared.terms.Value.{Value}
use Rattle.tel_rule.specs.declared.parts.Part.{Part}
use Rattle.tel_rule.specs.declared.formulas.Atom.{Atom}
use Rattle.tel_rule.specs.declared.statements.Literal.{Literal}
use Rattle.tel_rule.specs.declared.statements.Head.{Head}
use Rattle.tel_rule.specs.declared.statements.Fact.{Fact}
use Rattle.tel_rule.specs.declared.statements.Kind.{Kind}
use Rattle.tel_rule.specs.declared.statements.Kind.TheVariants as kinds
use Rattle.tel_rule.specs.declared.statements.Statement.{Statement}
use Rattle.tel_rule.specs.declared.ground.Instance.{Instance}
use Rattle.tel_rule.specs.declared.ground.GroundHead.TheVariants as heads
use Rattle.instance_build.specs.Instances.{Numbered, ground_rule}
use Rattle.atom_table.specs.Named.{NamedAtom, number_of}
use Rattle.atom_table.specs.Collected.{atom_under, fact_atom}

-- the number of an atom among these; one that isn't there counts as 0
abbrev pub number_in : List NamedAtom → NamedAtom → ℕ
number_in atoms atom = unwrap_or (number_of atoms atom) 0

-- the number of an atom of a rule under a binding
abbrev pub bound_number : List NamedAtom → List Value → Atom → ℕ
bound_number atoms binding atom = number_in atoms (atom_under binding atom)

-- the instance of a rule under a binding
abbrev pub built_rule : List NamedAtom → ℕ → Part → Head → List Literal → List Value → Numbered Instance
built_rule atoms number part head body binding = ground_rule (bound_number atoms binding) number part head body

-- the instance of a fact with these arguments
abbrev pub fact_instance : List NamedAtom → ℕ → Part → Fact → List Value → Instance
fact_instance atoms number part fact row =
    record { statement = number; part = part; head = heads.Normal (number_in atoms (fact_atom fact row)) (nat_lt 0 fact.after); body = [] }

abbrev pub built_fact : List NamedAtom → ℕ → Part → Fact → List Value → Numbered Instance
built_fact atoms number part fact row first = (fact_instance atoms number part fact row, [])

-- the instances of a statement with this number, in their order
abbrev pub built_kind : List NamedAtom → ℕ → Part → Kind → List (List Value) → List (Numbered Instance)
built_kind atoms number part (kinds.Rule head body) live = map (built_rule atoms number part head body) live
built_kind atoms number part (kinds.Facts fact) live = map (built_fact atoms number part fact) live
built_kind atoms number part (kinds.Const name value) live = []
built_kind atoms number part (kinds.Show shown) live = []

-- those of statements, which are numbered from `number` on
abbrev pub built_statements : List NamedAtom → ℕ → List Statement → List (List (List Value)) → List (Numbered Instance)
built_statements atoms number [] live = []
built_statements atoms number (statement ∷ more) [] = []
built_statements atoms number (statement ∷ more) (live ∷ later) =
    built_kind atoms number statement.part statement.kind live ++ built_statements atoms (number + 1) more later
