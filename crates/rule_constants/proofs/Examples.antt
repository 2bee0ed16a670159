-- Worked rows: values of constants, worked out by hand.
use Rattle.std.proofs.Common.{◌≡◌, ℕ, zero, suc, false, List, [], ◌∷◌, map, Some, None, refl}
use Rattle.std.specs.Prelude.{codes, pos, negsuc}
use Rattle.tel_base.specs.declared.places.Place.{Place}
use Rattle.tel_term.specs.declared.terms.Term.{Term}
use Rattle.tel_term.specs.declared.terms.Term.TheVariants as terms
use Rattle.tel_term.specs.declared.terms.Value.TheVariants as values
use Rattle.tel_term.specs.declared.exprs.Expr.{Expr}
use Rattle.tel_term.specs.declared.exprs.Expr.TheVariants as exprs
use Rattle.tel_rule.specs.declared.parts.Part.TheVariants as parts
use Rattle.tel_rule.specs.declared.statements.Arg.TheVariants as args
use Rattle.tel_rule.specs.declared.statements.Kind.{Kind}
use Rattle.tel_rule.specs.declared.statements.Kind.TheVariants as kinds
use Rattle.tel_rule.specs.declared.statements.Statement.{Statement}
use Rattle.rule_constants.proofs.ExprLayers.{needs-value, needs-minus, variable-value, variable-var, variable-minus, value-replaced_value, value-replaced_minus, replaced-value}
use Rattle.rule_constants.specs.Constants.{Values, definition_of, links_of, values_after, replacement}
use Rattle.rule_constants.specs.Replaced.{statement_replaced}

abbrev at : Place
at = record { file = 1; line = 1; at = 1 }

-- a statement without variables
abbrev said : Kind → Statement
said kind = record { place = at; part = parts.Initial; vars = []; kind = kind }

abbrev number : ℕ → Expr
number n = exprs.Value (values.Num (pos n))

abbrev symbol : ℕ → Expr
symbol n = exprs.Value (values.Sym n)

-- `#const n = -m. #const m = 2. #const n = 3.`, with the symbols m (0), n (1), the string "m" (2) and a (3)
abbrev counting : List Statement
counting =
    said (kinds.Const (codes "n") (exprs.Minus (symbol 0)))
    ∷ said (kinds.Const (codes "m") (number 2))
    ∷ said (kinds.Const (codes "n") (number 3))
    ∷ []

abbrev symbols : List Term
symbols = terms.Name (codes "m") ∷ terms.Name (codes "n") ∷ terms.Str (codes "m") ∷ terms.Name (codes "a") ∷ []

-- the first statement that defines a name is its definition
first_is_definition : definition_of counting (codes "n") ≡ Some 0
first_is_definition = refl

-- a string is no name
links : links_of counting symbols ≡ Some 1 ∷ Some 0 ∷ None ∷ None ∷ []
links = refl

-- in the first round m has a value, in the second n
after_one_round : values_after counting (links_of counting symbols) 1 0 ≡ None
after_one_round = simp (needs-value, needs-minus, variable-value, variable-var, variable-minus, value-replaced_value, value-replaced_minus) refl

after_two_rounds : values_after counting (links_of counting symbols) 2 0 ≡ Some (values.Num (negsuc 1))
after_two_rounds = simp (needs-value, needs-minus, variable-value, variable-var, variable-minus, value-replaced_value, value-replaced_minus) refl

-- a name that is no constant stands for itself, what is computed with it has no value, nor has a variable
abbrev other : List Statement
other =
    said (kinds.Const (codes "m") (symbol 3))
    ∷ said (kinds.Const (codes "n") (exprs.Minus (symbol 3)))
    ∷ said (kinds.Const (codes "k") (exprs.Var 0))
    ∷ []

name_itself : values_after other (links_of other symbols) 1 0 ≡ Some (values.Sym 3)
name_itself = simp (needs-value, needs-minus, variable-value, variable-var, variable-minus, value-replaced_value, value-replaced_minus) refl

of_name : values_after other (links_of other symbols) 1 1 ≡ None
of_name = simp (needs-value, needs-minus, variable-value, variable-var, variable-minus, value-replaced_value, value-replaced_minus) refl

variable : values_after other (links_of other symbols) 1 2 ≡ None
variable = simp (needs-value, needs-minus, variable-value, variable-var, variable-minus, value-replaced_value, value-replaced_minus) refl

-- `m(m, n, "m", a).` has other arguments, and its name stays
abbrev fact : List Expr → Statement
fact arguments = said (kinds.Facts (record { negative = false; before = 0; name = codes "m"; after = 0; tuples = map (λ (argument : Expr). args.One argument) arguments ∷ [] }))

abbrev known : Values
known zero = Some (values.Num (negsuc 1))
known (suc zero) = Some (values.Num (pos 2))
known other = None

replaced : statement_replaced (replacement (links_of counting symbols) known) (fact (symbol 0 ∷ symbol 1 ∷ symbol 2 ∷ symbol 3 ∷ [])) ≡ fact (number 2 ∷ exprs.Value (values.Num (negsuc 1)) ∷ symbol 2 ∷ symbol 3 ∷ [])
replaced = simp replaced-value refl
