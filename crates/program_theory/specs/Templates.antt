-- The template of a program: its live instances over the numbers of atoms and nodes.
use Rattle.std.specs.Prelude.{◌≡◌, ◌↔◌, ℕ, ◌+◌, ◌<◌, Bool, true, List, [], ◌∷◌, ◌++◌, map, length, nat_lt, unwrap_or, IsTrue}
use Rattle.std.specs.List.{list_all, position}
use Rattle.tel_base.specs.Members.{In}
use Rattle.tel_term.specs.declared.terms.Term.{Term}
use Rattle.tel_term.specs.declared.terms.Value.{Value}
use Rattle.tel_term.specs.Symbols.{IsTable}
use Rattle.tel_rule.specs.declared.parts.Part.{Part}
use Rattle.tel_rule.specs.declared.formulas.Atom.{Atom}
use Rattle.tel_rule.specs.declared.statements.Fact.{Fact}
use Rattle.tel_rule.specs.declared.statements.Kind.{Kind}
use Rattle.tel_rule.specs.declared.statements.Kind.TheVariants as kinds
use Rattle.tel_rule.specs.declared.statements.Statement.{Statement}
use Rattle.tel_rule.specs.declared.statements.Program.{Program}
use Rattle.tel_rule.specs.declared.nodes.Node.{Node}
use Rattle.tel_rule.specs.declared.ground.Instance.{Instance}
use Rattle.tel_rule.specs.declared.ground.GroundHead.TheVariants as heads
use Rattle.tel_rule.specs.Ground.{Ground}
use Rattle.tel_semantics.specs.Print.{is_shown}
use Rattle.instance_build.specs.Guarded.{is_guarded_body}
use Rattle.instance_build.specs.Instances.{Numbered, in_row, ground_rule}
use Rattle.instance_build.specs.Laws.{have_few_nots}
use Rattle.theory_lists.specs.Atoms.{TermAtom, same_atom}
use Rattle.theory_lists.specs.Theories.{atoms_over, numbered_atom}
use Rattle.program_theory.specs.Instances.{AreInstances}
use Rattle.program_theory.specs.Theory.{atom_under, fact_atom, instance_demands, demanded_atoms, atom_predicate, is_shown_by}

-- ---- numbers

-- the number of an atom, its place among these
abbrev pub number_among : List TermAtom → TermAtom → ℕ
number_among atoms atom = unwrap_or (position (same_atom atom) atoms) 0

-- ---- instances

-- the instance of a fact with these arguments
abbrev pub ground_fact : List Term → List TermAtom → ℕ → Part → Fact → List Value → Numbered Instance
ground_fact symbols atoms number part fact row first =
    (record { statement = number; part = part; head = heads.Normal (number_among atoms (fact_atom symbols fact row)) (nat_lt 0 fact.after); body = [] }, [])

-- the instances of a statement with this number, in their order
abbrev pub ground_kind : List Term → List TermAtom → ℕ → Part → Kind → List (List Value) → List (Numbered Instance)
ground_kind symbols atoms number part (kinds.Rule head body) live =
    map (λ binding. ground_rule (λ (atom : Atom). number_among atoms (atom_under symbols binding atom)) number part head body) live
ground_kind symbols atoms number part (kinds.Facts fact) live = map (ground_fact symbols atoms number part fact) live
ground_kind symbols atoms number part (kinds.Const name value) live = []
ground_kind symbols atoms number part (kinds.Show shown) live = []

-- those of statements, which are numbered from `number` on
abbrev pub ground_statements : List Term → List TermAtom → ℕ → List Statement → List (List (List Value)) → List (Numbered Instance)
ground_statements symbols atoms number [] live = []
ground_statements symbols atoms number (statement ∷ more) [] = []
ground_statements symbols atoms number (statement ∷ more) (live ∷ later) =
    ground_kind symbols atoms number statement.part statement.kind live ++ ground_statements symbols atoms (number + 1) more later

-- those of a program and their nodes, numbered one behind the other
abbrev pub ground_program : Program → List TermAtom → List (List (List Value)) → List Instance × List Node
ground_program program atoms live = in_row (ground_statements program.symbols atoms 0 program.statements live) 0

-- ---- templates

-- no literal of a program has more than two `not`
abbrev pub has_few_nots : Kind → Bool
has_few_nots (kinds.Rule head body) = have_few_nots body
has_few_nots (kinds.Facts fact) = true
has_few_nots (kinds.Const name value) = true
has_few_nots (kinds.Show shown) = true

abbrev pub HasFewNots : Program → Type 0
HasFewNots program = IsTrue (list_all (λ (statement : Statement). has_few_nots statement.kind) program.statements)

-- each way from a positive literal of a rule with a head down to an arrow passes a `~`
abbrev pub is_guarded_kind : Kind → Bool
is_guarded_kind (kinds.Rule head body) = is_guarded_body head body
is_guarded_kind (kinds.Facts fact) = true
is_guarded_kind (kinds.Const name value) = true
is_guarded_kind (kinds.Show shown) = true

-- the symbols are those of the program, and behind them others
abbrev pub Extends : List Term → List Term → Type 0
Extends symbols more = (behind : List Term) × (more ≡ symbols ++ behind)

-- the template of a program with these live instances: its atoms are those that the instances speak of, its instances and nodes are theirs, and it shows the
-- atoms of the predicates that the program shows
pub record IsTemplateOf (program : Program) (live : List (List (List Value))) (template : Ground) : Type 0 where
  pub instances_are : AreInstances program live
  pub symbols : Extends program.symbols template.symbols
  pub table : IsTable template.symbols
  pub atoms : (atom : TermAtom) → In atom (atoms_over template) ↔ In atom (demanded_atoms (instance_demands program live))
  pub instances : template.instances ≡ (ground_program program (atoms_over template) live).0
  pub nodes : template.nodes ≡ (ground_program program (atoms_over template) live).1
  pub shown : (number : ℕ) → number < length template.atoms → is_shown template.show number ≡ is_shown_by program.statements (atom_predicate (numbered_atom template number))
