-- What a plan asks for, of a rule: that its table atoms are rows, and besides what its equations and comparisons say.
use Rattle.std.specs.Prelude.{◌⊎◌, ℕ, false, List, [], ◌∷◌, ◌++◌, map, replicate, Ok, Err, Option, Some, None}
use Rattle.std.specs.List.{flat_map}
use Rattle.tel_base.specs.Members.{In}
use Rattle.tel_term.specs.declared.terms.Term.{Term}
use Rattle.tel_term.specs.declared.terms.Value.{Value}
use Rattle.tel_term.specs.declared.exprs.Expr.{Expr}
use Rattle.tel_term.specs.Arithmetic.{Valued, expr_value}
use Rattle.tel_rule.specs.declared.formulas.Atom.{Atom}
use Rattle.tel_rule.specs.declared.statements.Relation.{Relation}
use Rattle.tel_rule.specs.declared.statements.LitItem.{LitItem}
use Rattle.tel_rule.specs.declared.statements.LitItem.TheVariants as items
use Rattle.tel_rule.specs.declared.statements.Literal.{Literal}
use Rattle.tel_rule.specs.declared.statements.Signature.{Signature}
use Rattle.tel_rule.specs.declared.statements.Statement.{Statement}
use Rattle.tel_semantics.specs.Tables.{predicate_of}
use Rattle.rule_binding.specs.Binding.{vars_of, whole_var, Equation, equations_of}
use Rattle.live_instances.specs.Instances.{both_relate, table_atoms}
use Rattle.join_plans.specs.Join.{Expression, Comparison, Step, IsPlan}
use Rattle.join_plans.specs.Atoms.{Arg, Whole, Other, TableAtom, after_atoms}
use Rattle.join_plans.specs.Goals.{Goal, HasValue, Compares, goal_of, atom_goals}

-- ---- expressions and comparisons, as a plan sees them

abbrev pub ok_value : Valued → Option Value
ok_value (Ok value) = Some value
ok_value (Err fault) = None

abbrev pub expression_of : Expr → Expression
expression_of expr = record { reads = vars_of expr; value = λ (binding : List Value). ok_value (expr_value binding expr) }

abbrev pub comparison_of : List Term → Relation → Expr → Expr → Comparison
comparison_of symbols relation left right = record {
  reads = vars_of left ++ vars_of right;
  holds = λ (binding : List Value). both_relate symbols relation (expr_value binding left) (expr_value binding right);
}

-- ---- table atoms

abbrev pub arg_from : Expr → Option ℕ → Arg
arg_from expr None = Other (expression_of expr)
arg_from expr (Some v) = Whole v

-- an argument is a variable as a whole or another expression
abbrev pub arg_of : Expr → Arg
arg_of expr = arg_from expr (whole_var expr)

-- the rows of each predicate
abbrev pub Rows : Type 0
Rows = Signature → List (List Value)

abbrev pub table_atom_of : Rows → Atom → TableAtom
table_atom_of rows atom = record { args = map arg_of atom.args; rows = rows (predicate_of atom) }

abbrev pub rule_atoms : List Statement → Rows → List Literal → List TableAtom
rule_atoms statements rows body = map (table_atom_of rows) (table_atoms statements body)

-- how many places a plan for a rule of so many variables has: one for each variable, and one for each argument of a table atom that is none
abbrev pub place_count : List Statement → Rows → ℕ → List Literal → ℕ
place_count statements rows count body = after_atoms count (rule_atoms statements rows body)

-- what every plan asks for
abbrev pub row_goals : List Statement → Rows → ℕ → List Literal → List Goal
row_goals statements rows count body = atom_goals count (rule_atoms statements rows body)

-- ---- equations and comparisons

-- a side that is a variable has the value of the other side
abbrev pub side_goals : Expr → Option ℕ → List Goal
side_goals other None = []
side_goals other (Some v) = HasValue v (expression_of other) ∷ []

abbrev pub equation_goals : Equation → List Goal
equation_goals equation = side_goals equation.right (whole_var equation.left) ++ side_goals equation.left (whole_var equation.right)

abbrev pub item_goals : List Term → LitItem → List Goal
item_goals symbols (items.Atom atom) = []
item_goals symbols (items.Tel formula) = []
item_goals symbols (items.Compare relation left right) = Compares (comparison_of symbols relation left right) ∷ []

-- what a plan may ask for besides
abbrev pub body_goals : List Term → List Literal → List Goal
body_goals symbols body = flat_map equation_goals (equations_of body) ++ flat_map (λ (literal : Literal). item_goals symbols literal.item) body

-- ---- plans

-- a plan for a rule of so many variables: it runs, it asks for all rows, and for nothing that the body doesn't say
pub record IsRulePlan (statements : List Statement) (symbols : List Term) (rows : Rows) (count : ℕ) (body : List Literal) (steps : List Step) : Type 0 where
  pub runs : IsPlan (replicate (place_count statements rows count body) false) steps
  pub all : (goal : Goal) → In goal (row_goals statements rows count body) → In goal (map goal_of steps)
  pub only : (goal : Goal) → In goal (map goal_of steps) → In goal (row_goals statements rows count body) ⊎ In goal (body_goals symbols body)
