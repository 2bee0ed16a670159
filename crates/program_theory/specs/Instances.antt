-- The live instances of a program, statement by statement: those of a rule by their bindings, and those of a fact by the arguments of the atoms that it states.
use Rattle.std.specs.Prelude.{◌≡◌, ℕ, ◌+◌, ◌*◌, nat_lt, nat_le, List, [], ◌∷◌, length, if◌then◌else◌}
use Rattle.std.specs.List.{flat_map, sum, sum_by}
use Rattle.tel_term.specs.declared.terms.Term.{Term}
use Rattle.tel_term.specs.declared.terms.Value.{Value}
use Rattle.tel_rule.specs.declared.formulas.Atom.{Atom}
use Rattle.tel_rule.specs.declared.formulas.Formula.{Formula}
use Rattle.tel_rule.specs.declared.statements.LitItem.{LitItem}
use Rattle.tel_rule.specs.declared.statements.LitItem.TheVariants as items
use Rattle.tel_rule.specs.declared.statements.Literal.{Literal}
use Rattle.tel_rule.specs.declared.statements.Kind.{Kind}
use Rattle.tel_rule.specs.declared.statements.Kind.TheVariants as kinds
use Rattle.tel_rule.specs.declared.statements.Statement.{Statement}
use Rattle.tel_rule.specs.declared.statements.Program.{Program}
use Rattle.tel_semantics.specs.Tables.{tuple_rows}
use Rattle.instance_build.specs.FormulaValues.{formula_value}
use Rattle.live_instances.specs.Instances.{AreLive}

-- of a rule the bindings that make live instances, each once, in their order; of a fact the arguments of each atom that it states, in the order in which
-- it states them, the first argument slowest; a directive has none
abbrev pub KindHasInstances : List Statement → List Term → ℕ → Kind → List (List Value) → Type 0
KindHasInstances statements symbols count (kinds.Rule head body) live = AreLive statements symbols count head body live
KindHasInstances statements symbols count (kinds.Facts fact) live = live ≡ flat_map tuple_rows fact.tuples
KindHasInstances statements symbols count (kinds.Const name value) live = live ≡ []
KindHasInstances statements symbols count (kinds.Show shown) live = live ≡ []

abbrev pub HasInstances : List Statement → List Term → Statement → List (List Value) → Type 0
HasInstances statements symbols statement live = KindHasInstances statements symbols (length statement.vars) statement.kind live

-- those of each of some statements of a program, which has these statements and symbols in all
abbrev pub HaveInstances : List Statement → List Term → List Statement → List (List (List Value)) → Type 0
HaveInstances statements symbols [] [] = Unit {0}
HaveInstances statements symbols (statement ∷ more) (live ∷ later) = HasInstances statements symbols statement live × HaveInstances statements symbols more later
HaveInstances statements symbols some live = ⊥

-- those of each statement of a program
abbrev pub AreInstances : Program → List (List (List Value)) → Type 0
AreInstances program live = HaveInstances program.statements program.symbols program.statements live

-- ---- counts

-- how many instances there are
abbrev pub instance_count : List (List (List Value)) → ℕ
instance_count live = sum_by length live

-- the operators and constants of a formula; a chain of conjunctions or of disjunctions is one
abbrev pub operator_count : Formula → ℕ
operator_count formula = formula_value (λ (atom : Atom). 0) (λ op (below : List ℕ). 1 + sum below) formula

abbrev pub item_operators : LitItem → ℕ
item_operators (items.Atom atom) = 0
item_operators (items.Tel formula) = operator_count formula
item_operators (items.Compare relation left right) = 0

-- two `not` are one operator, and of a primed atom two; a comparison has none
abbrev pub nots_operators : LitItem → ℕ
nots_operators (items.Atom atom) = if nat_lt 0 atom.before then 2 else 1
nots_operators (items.Tel formula) = 1
nots_operators (items.Compare relation left right) = 0

-- how many nodes a literal of an instance has
abbrev pub literal_nodes : Literal → ℕ
literal_nodes literal = item_operators literal.item + (if nat_le literal.nots 1 then 0 else nots_operators literal.item)

abbrev pub kind_nodes : Kind → ℕ
kind_nodes (kinds.Rule head body) = sum_by literal_nodes body
kind_nodes (kinds.Facts fact) = 0
kind_nodes (kinds.Const name value) = 0
kind_nodes (kinds.Show shown) = 0

-- how many nodes the instances of statements have
abbrev pub node_count : List Statement → List (List (List Value)) → ℕ
node_count [] live = 0
node_count (statement ∷ more) [] = 0
node_count (statement ∷ more) (live ∷ later) = length live * kind_nodes statement.kind + node_count more later
