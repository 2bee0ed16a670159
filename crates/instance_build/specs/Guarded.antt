-- Which bodies have no arrow but below a `~`.
use Rattle.std.specs.Prelude.{Bool, true, ◌==◌, List, if◌then◌else◌}
use Rattle.std.specs.List.{list_all}
use Rattle.tel_rule.specs.declared.formulas.Formula.{Formula}
use Rattle.tel_rule.specs.declared.statements.LitItem.{LitItem}
use Rattle.tel_rule.specs.declared.statements.LitItem.TheVariants as items
use Rattle.tel_rule.specs.declared.statements.Literal.{Literal}
use Rattle.tel_rule.specs.declared.statements.Head.{Head}
use Rattle.tel_rule.specs.declared.statements.Head.TheVariants as heads
use Rattle.tel_rule.specs.Nodes.{guard}
use Rattle.instance_build.specs.FormulaValues.{formula_value}

abbrev pub all_hold : List Bool → Bool
all_hold tests = list_all (λ b. b) tests

-- each way from a formula down to an arrow passes a `~`
abbrev pub is_guarded_formula : Formula → Bool
is_guarded_formula formula = formula_value (λ atom. true) guard formula

-- a formula has no arrow but below a `~`
abbrev pub is_guarded_item : LitItem → Bool
is_guarded_item (items.Atom atom) = true
is_guarded_item (items.Tel formula) = is_guarded_formula formula
is_guarded_item (items.Compare relation left right) = true

-- of a literal with `not` nothing is asked
abbrev pub is_guarded_literal : Literal → Bool
is_guarded_literal literal = if literal.nots == 0 then is_guarded_item literal.item else true

-- nor of the body of a constraint
abbrev pub is_guarded_body : Head → List Literal → Bool
is_guarded_body heads.None body = true
is_guarded_body head body = list_all is_guarded_literal body
