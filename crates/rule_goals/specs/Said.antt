-- The goals of a body as they are made: literal by literal, with places for the arguments that are no variables, one behind the other.
use Rattle.std.specs.Prelude.{◌≡◌, ℕ, suc, ◌==◌, ◌&&◌, List, [], ◌∷◌, ◌++◌, map, Option, Some, None, if◌then◌else◌}
use Rattle.std.specs.List.{flat_map}
use Rattle.tel_term.specs.declared.exprs.Expr.{Expr}
use Rattle.tel_rule.specs.declared.formulas.Atom.{Atom}
use Rattle.tel_rule.specs.declared.statements.Relation.{Relation}
use Rattle.tel_rule.specs.declared.statements.Relation.TheVariants as relations
use Rattle.tel_rule.specs.declared.statements.LitItem.{LitItem}
use Rattle.tel_rule.specs.declared.statements.LitItem.TheVariants as items
use Rattle.tel_rule.specs.declared.statements.Literal.{Literal}
use Rattle.tel_rule.specs.declared.statements.Signature.{Signature}
use Rattle.tel_semantics.specs.Tables.{predicate_of}
use Rattle.rule_binding.specs.Binding.{vars_of, whole_var}
use Rattle.plan_order.specs.declared.goals.Goal.{Goal}
use Rattle.plan_order.specs.declared.goals.Goal.TheVariants as goals

-- what a goal says, with its expressions themselves
pub data Said : Type 0 where
  Row : ℕ → List ℕ → Said
  Equal : ℕ → Expr → List ℕ → Said
  Compare : Relation → Expr → Expr → List ℕ → Said

abbrev pub said : Goal → Said
said (goals.Row predicate places) = Row predicate places
said (goals.Equal place expr reads) = Equal place expr.now reads
said (goals.Compare relation left right reads) = Compare relation left.now right.now reads

abbrev pub all_said : List Goal → List Said
all_said list = map said list

-- the number of the table of each predicate that is one
abbrev pub Numbers : Type 0
Numbers = Signature → Option ℕ

-- ---- arguments, where `free` is the first free place

-- a variable has a place of its own, and another argument the first free one
abbrev pub own_place : ℕ → Option ℕ → ℕ
own_place free None = free
own_place free (Some v) = v

abbrev pub next_free : ℕ → Option ℕ → ℕ
next_free free None = suc free
next_free free (Some v) = free

abbrev pub arg_places : ℕ → List Expr → List ℕ
arg_places free [] = []
arg_places free (arg ∷ args) = own_place free (whole_var arg) ∷ arg_places (next_free free (whole_var arg)) args

abbrev pub behind_args : ℕ → List Expr → ℕ
behind_args free [] = free
behind_args free (arg ∷ args) = behind_args (next_free free (whole_var arg)) args

-- an argument that is no variable is the value of its place
abbrev pub arg_said : ℕ → Expr → Option ℕ → List Said
arg_said free arg None = Equal free arg (vars_of arg) ∷ []
arg_said free arg (Some v) = []

abbrev pub args_said : ℕ → List Expr → List Said
args_said free [] = []
args_said free (arg ∷ args) = arg_said free arg (whole_var arg) ++ args_said (next_free free (whole_var arg)) args

-- ---- table atoms

-- the table of a positive unprimed atom
abbrev pub table_of : Numbers → ℕ → Atom → Option ℕ
table_of number nots atom = if (nots == 0) && ((atom.before == 0) && (atom.after == 0)) then number (predicate_of atom) else None

abbrev pub row_said : ℕ → List Expr → Option ℕ → List Said
row_said free args None = []
row_said free args (Some table) = Row table (arg_places free args) ∷ args_said free args

abbrev pub behind_row : ℕ → List Expr → Option ℕ → ℕ
behind_row free args None = free
behind_row free args (Some table) = behind_args free args

abbrev pub item_rows : Numbers → ℕ → ℕ → LitItem → List Said
item_rows number free nots (items.Atom atom) = row_said free atom.args (table_of number nots atom)
item_rows number free nots (items.Tel formula) = []
item_rows number free nots (items.Compare relation left right) = []

abbrev pub behind_item : Numbers → ℕ → ℕ → LitItem → ℕ
behind_item number free nots (items.Atom atom) = behind_row free atom.args (table_of number nots atom)
behind_item number free nots (items.Tel formula) = free
behind_item number free nots (items.Compare relation left right) = free

abbrev pub body_rows : Numbers → ℕ → List Literal → List Said
body_rows number free [] = []
body_rows number free (literal ∷ body) = item_rows number free literal.nots literal.item ++ body_rows number (behind_item number free literal.nots literal.item) body

abbrev pub behind_body : Numbers → ℕ → List Literal → ℕ
behind_body number free [] = free
behind_body number free (literal ∷ body) = behind_body number (behind_item number free literal.nots literal.item) body

-- ---- equations and comparisons

-- a side that is a variable has the value of the other side
abbrev pub side_said : Expr → Option ℕ → List Said
side_said other None = []
side_said other (Some v) = Equal v other (vars_of other) ∷ []

abbrev pub sides_said : Expr → Expr → Relation → List Said
sides_said left right relations.Equal = side_said right (whole_var left) ++ side_said left (whole_var right)
sides_said left right relations.Unequal = []
sides_said left right relations.Less = []
sides_said left right relations.LessEqual = []
sides_said left right relations.Greater = []
sides_said left right relations.GreaterEqual = []

abbrev pub equation_said : LitItem → List Said
equation_said (items.Atom atom) = []
equation_said (items.Tel formula) = []
equation_said (items.Compare relation left right) = sides_said left right relation

abbrev pub comparison_said : LitItem → List Said
comparison_said (items.Atom atom) = []
comparison_said (items.Tel formula) = []
comparison_said (items.Compare relation left right) = Compare relation left right (vars_of left ++ vars_of right) ∷ []

abbrev pub equations_said : List Literal → List Said
equations_said body = flat_map (λ (literal : Literal). equation_said literal.item) body

abbrev pub comparisons_said : List Literal → List Said
comparisons_said body = flat_map (λ (literal : Literal). comparison_said literal.item) body

-- ---- bodies

-- all goals of a body, and how many places they have
pub record SayBody (number : Numbers) (vars : ℕ) (body : List Literal) (places : ℕ) (list : List Goal) : Type 0 where
  pub places_are : places ≡ behind_body number vars body
  pub goals_are : all_said list ≡ body_rows number vars body ++ (equations_said body ++ comparisons_said body)

-- the goals of its table atoms alone, and how many places they have
pub record SayRows (number : Numbers) (vars : ℕ) (body : List Literal) (places : ℕ) (list : List Goal) : Type 0 where
  pub places_are : places ≡ behind_body number vars body
  pub goals_are : all_said list ≡ body_rows number vars body
