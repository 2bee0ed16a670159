-- The candidates of a body: each side of an `=` that is a variable, with the other side, from left to right. And which variables have marks.
use Rattle.std.specs.Prelude.{◌≡◌, ℕ, ◌<◌, Bool, ◌||◌, List, [], ◌∷◌, ◌++◌, length, Option, Some, None}
use Rattle.std.specs.List.{flat_map}
use Rattle.tel_term.specs.declared.exprs.Expr.{Expr}
use Rattle.tel_rule.specs.declared.statements.Relation.{Relation}
use Rattle.tel_rule.specs.declared.statements.Relation.TheVariants as relations
use Rattle.tel_rule.specs.declared.statements.LitItem.{LitItem}
use Rattle.tel_rule.specs.declared.statements.LitItem.TheVariants as items
use Rattle.tel_rule.specs.declared.statements.Literal.{Literal}
use Rattle.rule_binding.specs.Binding.{Setting, whole_var, has}
use Rattle.rule_binding.specs.Closure.{marked}

abbrev pub side_candidates : Expr → Option ℕ → List Setting
side_candidates other None = []
side_candidates other (Some v) = record { var = v; value = other } ∷ []

abbrev pub relation_candidates : Expr → Expr → Relation → List Setting
relation_candidates left right relations.Equal = side_candidates right (whole_var left) ++ side_candidates left (whole_var right)
relation_candidates left right relations.Unequal = []
relation_candidates left right relations.Less = []
relation_candidates left right relations.LessEqual = []
relation_candidates left right relations.Greater = []
relation_candidates left right relations.GreaterEqual = []

abbrev pub item_candidates : LitItem → List Setting
item_candidates (items.Atom atom) = []
item_candidates (items.Tel formula) = []
item_candidates (items.Compare relation left right) = relation_candidates left right relation

abbrev pub body_candidates : List Literal → List Setting
body_candidates body = flat_map (λ (literal : Literal). item_candidates literal.item) body

-- ---- marks

-- these are the variables with a mark
abbrev pub AreMarked : List Bool → List ℕ → Type 0
AreMarked marks vars = (v : ℕ) → has vars v ≡ marked marks v

-- of the variables below the number of marks, these have one now, too
abbrev pub MarksMore : List Bool → List Bool → List ℕ → Type 0
MarksMore old new vars = (v : ℕ) → v < length old → marked new v ≡ (marked old v || has vars v)
