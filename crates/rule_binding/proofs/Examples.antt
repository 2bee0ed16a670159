-- What binds the variables of small bodies, worked out by hand.
use Rattle.std.proofs.Common.{◌≡◌, ℕ, pos, Bool, false, List, [], ◌∷◌, ◌++◌, Option, Some, None, refl, sym, ap, ◌∙◌}
use Rattle.std.specs.Prelude.{◌&&◌, ◌==◌, bytes_eq}
use Rattle.tel_term.specs.declared.terms.Value.TheVariants as values
use Rattle.tel_term.specs.declared.exprs.SumOp.TheVariants as sums
use Rattle.tel_term.specs.declared.exprs.Expr.{Expr}
use Rattle.tel_term.specs.declared.exprs.Expr.TheVariants as exprs
use Rattle.tel_term.specs.declared.exprs.Expr.TheVariants.{rolls-Value, rolls-Var, rolls-Sum}
use Rattle.tel_term.specs.declared.exprs.Expr.TheOpen as layers
use Rattle.tel_term.specs.declared.exprs.Expr.TheFolds.{fold-roll-Expr}
use Rattle.tel_rule.specs.declared.statements.LitItem.TheVariants as items
use Rattle.tel_rule.specs.declared.statements.Literal.{Literal}
use Rattle.tel_rule.specs.declared.statements.Signature.{Signature}
use Rattle.rule_binding.specs.Binding.{vars_of, layer_vars, whole_var, layer_whole, row_vars, Equation, Setting, AreSettings, has, sets}

-- X, Y, Z and the number 1
abbrev X : Expr
X = exprs.Var 0

abbrev Y : Expr
Y = exprs.Var 1

abbrev Z : Expr
Z = exprs.Var 2

abbrev one : Expr
one = exprs.Value (values.Num (pos 1))

-- e + 1
abbrev next : Expr → Expr
next e = exprs.Sum e ((sums.Plus, one) ∷ [])

-- ---- variables of expressions

vars-var : (v : ℕ) → vars_of (exprs.Var v) ≡ v ∷ []
vars-var v = ap vars_of (sym (rolls-Var v)) ∙ fold-roll-Expr (List ℕ) layer_vars (layers.Var v)

vars-one : vars_of one ≡ []
vars-one = ap vars_of (sym (rolls-Value (values.Num (pos 1)))) ∙ fold-roll-Expr (List ℕ) layer_vars (layers.Value (values.Num (pos 1)))

whole-var : (v : ℕ) → whole_var (exprs.Var v) ≡ Some v
whole-var v = ap whole_var (sym (rolls-Var v)) ∙ fold-roll-Expr (Option ℕ) layer_whole (layers.Var v)

whole-one : whole_var one ≡ None
whole-one = ap whole_var (sym (rolls-Value (values.Num (pos 1)))) ∙ fold-roll-Expr (Option ℕ) layer_whole (layers.Value (values.Num (pos 1)))

-- a sum is no variable as a whole
whole-next : (e : Expr) → whole_var (next e) ≡ None
whole-next e =
    ap whole_var (sym (rolls-Sum e ((sums.Plus, one) ∷ [])))
    ∙ fold-roll-Expr (Option ℕ) layer_whole (layers.Sum e ((sums.Plus, one) ∷ []))

vars-next : (e : Expr) → vars_of (next e) ≡ vars_of e ++ (vars_of one ++ [])
vars-next e =
    ap vars_of (sym (rolls-Sum e ((sums.Plus, one) ∷ [])))
    ∙ fold-roll-Expr (List ℕ) layer_vars (layers.Sum e ((sums.Plus, one) ∷ []))

-- ---- bound by a table

-- p/1 is the table
abbrev name : List ℕ
name = 112 ∷ []

abbrev tables : Signature → Bool
tables predicate = bytes_eq predicate.name name && (predicate.arity == 1)

abbrev literal : ℕ → ℕ → ℕ → List ℕ → Expr → Literal
literal nots before after named arg =
    record { nots = nots; item = items.Atom (record { negative = false; before = before; name = named; after = after; args = arg ∷ [] }) }

-- p(X)
whole-binds : row_vars tables (literal 0 0 0 name X ∷ []) ≡ 0 ∷ []
whole-binds = rw (whole-var 0) refl

-- p(X + 1) binds nothing
sum-binds-none : row_vars tables (literal 0 0 0 name (next X) ∷ []) ≡ []
sum-binds-none = rw (whole-next X) refl

-- nor do not p(X), not not p(X), 'p(X), p'(X) and q(X)
negated-binds-none : row_vars tables (literal 1 0 0 name X ∷ []) ≡ []
negated-binds-none = refl

twice-negated-binds-none : row_vars tables (literal 2 0 0 name X ∷ []) ≡ []
twice-negated-binds-none = refl

primed-binds-none : row_vars tables (literal 0 1 0 name X ∷ []) ≡ []
primed-binds-none = refl

primed-after-binds-none : row_vars tables (literal 0 0 1 name X ∷ []) ≡ []
primed-after-binds-none = refl

other-binds-none : row_vars tables (literal 0 0 0 (113 ∷ []) X ∷ []) ≡ []
other-binds-none = refl

-- ---- bound by an equation

abbrev equation : Expr → Expr → Equation
equation left right = record { left = left; right = right }

abbrev setting : ℕ → Expr → Setting
setting v value = record { var = v; value = value }

-- X = 1, and 1 = X
number-sets : sets (has []) (equation X one) ≡ setting 0 one ∷ []
number-sets = rw (whole-var 0) (rw vars-one (rw whole-one refl))

sets-number : sets (has []) (equation one X) ≡ setting 0 one ∷ []
sets-number = rw (whole-var 0) (rw vars-one (rw whole-one refl))

-- X = Y sets neither, unless the other one is bound
neither : sets (has []) (equation X Y) ≡ []
neither = rw (whole-var 0) (rw (whole-var 1) (rw (vars-var 0) (rw (vars-var 1) refl)))

left-is-set : sets (has (1 ∷ [])) (equation X Y) ≡ setting 0 Y ∷ []
left-is-set = rw (whole-var 0) (rw (whole-var 1) (rw (vars-var 1) refl))

right-is-set : sets (has (0 ∷ [])) (equation X Y) ≡ setting 1 X ∷ []
right-is-set = rw (whole-var 0) (rw (whole-var 1) (rw (vars-var 0) refl))

both-are-bound : sets (has (1 ∷ 0 ∷ [])) (equation X Y) ≡ []
both-are-bound = rw (whole-var 0) (rw (whole-var 1) refl)

-- X = X doesn't set X
itself : sets (has []) (equation X X) ≡ []
itself = rw (whole-var 0) (rw (vars-var 0) refl)

-- X + 1 = 2 sets nothing
sum-is-not-set : sets (has []) (equation (next X) one) ≡ []
sum-is-not-set = rw (whole-next X) (rw whole-one refl)

vars-next-of : (v : ℕ) → vars_of (next (exprs.Var v)) ≡ v ∷ []
vars-next-of v = vars-next (exprs.Var v) ∙ rw (vars-var v) (rw vars-one refl)

-- Z = Y + 1, Y = X + 1 where X is bound: first Y is set, then Z
in-order : AreSettings (equation Z (next Y) ∷ equation Y (next X) ∷ []) (0 ∷ []) (setting 1 (next X) ∷ setting 2 (next Y) ∷ [])
in-order = (
  rw (whole-var 2) (rw (whole-var 1) (rw (whole-next X) (rw (whole-next Y) (rw (vars-next-of 0) (rw (vars-next-of 1) refl))))),
  (
    rw (whole-var 2) (rw (whole-var 1) (rw (whole-next X) (rw (whole-next Y) (rw (vars-next-of 1) refl)))),
    rw (whole-var 2) (rw (whole-var 1) (rw (whole-next X) (rw (whole-next Y) refl))),
  ),
)

-- two equations for one variable: the left one sets it
leftmost : AreSettings (equation X one ∷ equation X Y ∷ []) (1 ∷ []) (setting 0 one ∷ [])
leftmost = (
  rw (whole-var 0) (rw vars-one refl),
  rw (whole-var 0) (rw (whole-var 1) (rw whole-one refl)),
)
