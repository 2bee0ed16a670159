-- The theory of a program: each live instance is the formula body -> head, demanded at the instants of its part, and no atom holds together with its negative.
use Rattle.std.specs.Prelude.{◌≡◌, ◌↔◌, ℕ, ◌+◌, pos, Bool, true, false, not, ◌&&◌, ◌||◌, List, [], ◌∷◌, ◌++◌, map, length, nat_lt, Ok, Err, IsTrue, if◌then◌else◌}
use Rattle.std.specs.List.{flat_map, list_any}
use Rattle.std.specs.Option.{option_to_list}
use Rattle.tel_base.specs.Members.{In}
use Rattle.tel_term.specs.declared.terms.Term.{Term}
use Rattle.tel_term.specs.declared.terms.Term.TheVariants as terms
use Rattle.tel_term.specs.declared.terms.Value.{Value}
use Rattle.tel_term.specs.declared.exprs.Expr.{Expr}
use Rattle.tel_term.specs.Arithmetic.{Valued, expr_value}
use Rattle.tel_term.specs.Order.{term_at}
use Rattle.tel_rule.specs.Rising.{rises}
use Rattle.tel_rule.specs.declared.parts.Part.{Part}
use Rattle.tel_rule.specs.declared.parts.Part.TheVariants as parts
use Rattle.tel_rule.specs.declared.formulas.Atom.{Atom}
use Rattle.tel_rule.specs.declared.statements.Head.{Head}
use Rattle.tel_rule.specs.declared.statements.Literal.{Literal}
use Rattle.tel_rule.specs.declared.statements.Fact.{Fact}
use Rattle.tel_rule.specs.declared.statements.Signature.{Signature}
use Rattle.tel_rule.specs.declared.statements.Kind.{Kind}
use Rattle.tel_rule.specs.declared.statements.Kind.TheVariants as kinds
use Rattle.tel_rule.specs.declared.statements.Statement.{Statement}
use Rattle.tel_rule.specs.declared.statements.Program.{Program}
use Rattle.tel_semantics.specs.Formula as formulas
use Rattle.tel_semantics.specs.Formula.{FormulaOver, negation}
use Rattle.tel_semantics.specs.Theory.{DemandOver}
use Rattle.tel_semantics.specs.Tables.{same_predicate}
use Rattle.instance_build.specs.Meaning.{rule_meaning}
use Rattle.theory_lists.specs.Atoms.{TermAtom, term_atom_lt, same_atom, negative_of}
use Rattle.theory_lists.specs.Theories.{ProgramTheory}
use Rattle.program_theory.specs.Instances.{AreInstances, instance_count, node_count}

-- ---- instances

-- the term of a value; each expression of an instance has one
abbrev pub value_term : List Term → Valued → Term
value_term symbols (Ok value) = term_at symbols value
value_term symbols (Err fault) = terms.Num (pos 0)

-- an atom of a rule under a binding
abbrev pub atom_under : List Term → List Value → Atom → TermAtom
atom_under symbols binding atom =
    record { negative = atom.negative; name = atom.name; args = map (λ (arg : Expr). value_term symbols (expr_value binding arg)) atom.args }

-- body -> head
abbrev pub rule_demand : List Term → Part → Head → List Literal → List Value → DemandOver TermAtom
rule_demand symbols part head body binding = record { part = part; formula = rule_meaning (atom_under symbols binding) head body }

-- the atom of a fact with these arguments
abbrev pub fact_atom : List Term → Fact → List Value → TermAtom
fact_atom symbols fact row = record { negative = fact.negative; name = fact.name; args = map (term_at symbols) row }

-- an atom at the same instant, or at the next one
abbrev pub derived : TermAtom → Bool → FormulaOver TermAtom
derived atom after = if after then formulas.Next (formulas.Atom atom) else formulas.Atom atom

-- a fact has the body that is true
abbrev pub fact_demand : List Term → Part → Fact → List Value → DemandOver TermAtom
fact_demand symbols part fact row = record { part = part; formula = formulas.Arrow formulas.True (derived (fact_atom symbols fact row) (nat_lt 0 fact.after)) }

-- what the instances of a statement demand, in their order
abbrev pub kind_demands : List Term → Part → Kind → List (List Value) → List (DemandOver TermAtom)
kind_demands symbols part (kinds.Rule head body) live = map (rule_demand symbols part head body) live
kind_demands symbols part (kinds.Facts fact) live = map (fact_demand symbols part fact) live
kind_demands symbols part (kinds.Const name value) live = []
kind_demands symbols part (kinds.Show shown) live = []

abbrev pub statement_demands : List Term → List Statement → List (List (List Value)) → List (DemandOver TermAtom)
statement_demands symbols [] live = []
statement_demands symbols (statement ∷ more) [] = []
statement_demands symbols (statement ∷ more) (live ∷ later) = kind_demands symbols statement.part statement.kind live ++ statement_demands symbols more later

-- what the live instances of a program demand
abbrev pub instance_demands : Program → List (List (List Value)) → List (DemandOver TermAtom)
instance_demands program live = statement_demands program.symbols program.statements live

-- ---- atoms and pairs

-- the atoms of a formula, from left to right, as often as they stand there
abbrev pub formula_atoms : {X : Type 0} → FormulaOver X → List X
formula_atoms formulas.True = []
formula_atoms formulas.False = []
formula_atoms (formulas.Atom atom) = atom ∷ []
formula_atoms (formulas.And f g) = formula_atoms f ++ formula_atoms g
formula_atoms (formulas.Or f g) = formula_atoms f ++ formula_atoms g
formula_atoms (formulas.Arrow f g) = formula_atoms f ++ formula_atoms g
formula_atoms (formulas.Previous f) = formula_atoms f
formula_atoms (formulas.Since f g) = formula_atoms f ++ formula_atoms g
formula_atoms (formulas.Trigger f g) = formula_atoms f ++ formula_atoms g
formula_atoms (formulas.Next f) = formula_atoms f
formula_atoms (formulas.Until f g) = formula_atoms f ++ formula_atoms g
formula_atoms (formulas.Release f g) = formula_atoms f ++ formula_atoms g

abbrev pub demanded_atoms : {X : Type 0} → List (DemandOver X) → List X
demanded_atoms demands = flat_map (λ demand. formula_atoms demand.formula) demands

-- a plain atom whose negative is an atom too: not both, at every instant
abbrev pub pair_demands : List TermAtom → TermAtom → List (DemandOver TermAtom)
pair_demands atoms atom =
    if not atom.negative && list_any (same_atom (negative_of atom)) atoms
    then record { part = parts.Always; formula = negation (formulas.And (formulas.Atom atom) (formulas.Atom (negative_of atom))) } ∷ []
    else []

-- ---- what is shown

-- the predicate of an atom
abbrev pub atom_predicate : TermAtom → Signature
atom_predicate atom = record { negative = atom.negative; name = atom.name; arity = length atom.args }

-- a statement that says what is shown
abbrev pub is_show : Kind → Bool
is_show (kinds.Rule head body) = false
is_show (kinds.Facts fact) = false
is_show (kinds.Const name value) = false
is_show (kinds.Show shown) = true

-- the predicate that it names; `#show.` names none
abbrev pub named_predicates : Kind → List Signature
named_predicates (kinds.Rule head body) = []
named_predicates (kinds.Facts fact) = []
named_predicates (kinds.Const name value) = []
named_predicates (kinds.Show shown) = option_to_list shown

-- whether the atoms of a predicate are shown: no statement says what is shown, or one names the predicate
abbrev pub is_shown_by : List Statement → Signature → Bool
is_shown_by statements predicate =
    not (list_any (λ (statement : Statement). is_show statement.kind) statements)
    || list_any (same_predicate predicate) (flat_map (λ (statement : Statement). named_predicates statement.kind) statements)

-- ---- programs

-- the theory of a program with these live instances: its atoms are those that the instances speak of, in their order; it demands what the instances do, and of each plain
-- atom whose negative is among them that not both hold; it shows the atoms of the predicates that the program shows
pub record IsTheoryOf (program : Program) (live : List (List (List Value))) (theory : ProgramTheory) : Type 0 where
  pub instances : AreInstances program live
  pub rise : IsTrue (rises term_atom_lt theory.atoms)
  pub atoms : (atom : TermAtom) → In atom theory.atoms ↔ In atom (demanded_atoms (instance_demands program live))
  pub demands : theory.demands ≡ instance_demands program live ++ flat_map (pair_demands theory.atoms) theory.atoms
  pub shown : theory.shown ≡ (λ atom. is_shown_by program.statements (atom_predicate atom))

-- how many places a state of a program has: one for each atom, each node and each instance, and one for whether it is the last
abbrev pub width_of : Program → List (List (List Value)) → ProgramTheory → ℕ
width_of program live theory = length theory.atoms + node_count program.statements live + instance_count live + 1
