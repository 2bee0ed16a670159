-- The setting equations of small bodies, worked out by hand.
use Rattle.std.proofs.Common.{◌≡◌, ℕ, pos, List, [], ◌∷◌, Option, Some, None, refl, sym, ap, ◌∙◌}
use Rattle.tel_term.specs.declared.terms.Value.TheVariants as values
use Rattle.tel_term.specs.declared.exprs.SumOp.TheVariants as sums
use Rattle.tel_term.specs.declared.exprs.Expr.{Expr}
use Rattle.tel_term.specs.declared.exprs.Expr.TheVariants as exprs
use Rattle.tel_term.specs.declared.exprs.Expr.TheVariants.{rolls-Value, rolls-Var, rolls-Sum}
use Rattle.tel_term.specs.declared.exprs.Expr.TheOpen as layers
use Rattle.tel_term.specs.declared.exprs.Expr.TheFolds.{fold-roll-Expr}
use Rattle.tel_rule.specs.declared.statements.Relation.TheVariants as relations
use Rattle.tel_rule.specs.declared.statements.LitItem.TheVariants as items
use Rattle.tel_rule.specs.declared.statements.Literal.{Literal}
use Rattle.rule_binding.specs.Binding.{vars_of, layer_vars, whole_var, layer_whole, Setting, equations_of, AreSettings}

-- X, Y, Z, and numbers
abbrev X : Expr
X = exprs.Var 0

abbrev Y : Expr
Y = exprs.Var 1

abbrev Z : Expr
Z = exprs.Var 2

abbrev number : ℕ → Expr
number n = exprs.Value (values.Num (pos n))

-- e + 1
abbrev next : Expr → Expr
next e = exprs.Sum e ((sums.Plus, number 1) ∷ [])

vars-var : (v : ℕ) → vars_of (exprs.Var v) ≡ v ∷ []
vars-var v = ap vars_of (sym (rolls-Var v)) ∙ fold-roll-Expr (List ℕ) layer_vars (layers.Var v)

whole-var : (v : ℕ) → whole_var (exprs.Var v) ≡ Some v
whole-var v = ap whole_var (sym (rolls-Var v)) ∙ fold-roll-Expr (Option ℕ) layer_whole (layers.Var v)

vars-number : (n : ℕ) → vars_of (number n) ≡ []
vars-number n = ap vars_of (sym (rolls-Value (values.Num (pos n)))) ∙ fold-roll-Expr (List ℕ) layer_vars (layers.Value (values.Num (pos n)))

whole-number : (n : ℕ) → whole_var (number n) ≡ None
whole-number n = ap whole_var (sym (rolls-Value (values.Num (pos n)))) ∙ fold-roll-Expr (Option ℕ) layer_whole (layers.Value (values.Num (pos n)))

whole-next : (e : Expr) → whole_var (next e) ≡ None
whole-next e = ap whole_var (sym (rolls-Sum e ((sums.Plus, number 1) ∷ []))) ∙ fold-roll-Expr (Option ℕ) layer_whole (layers.Sum e ((sums.Plus, number 1) ∷ []))

vars-next : (v : ℕ) → vars_of (next (exprs.Var v)) ≡ v ∷ []
vars-next v = ap vars_of (sym (rolls-Sum (exprs.Var v) ((sums.Plus, number 1) ∷ []))) ∙ fold-roll-Expr (List ℕ) layer_vars (layers.Sum (exprs.Var v) ((sums.Plus, number 1) ∷ [])) ∙ rw (vars-var v) (rw (vars-number 1) refl)

-- ---- bodies

-- left = right
abbrev equal : Expr → Expr → Literal
equal left right = record { nots = 0; item = items.Compare relations.Equal left right }

abbrev setting : ℕ → Expr → Setting
setting v value = record { var = v; value = value }

-- Y = X + 1, Z = Y + 1, X = 3: X, Y, Z
last_first : AreSettings (equations_of (equal Y (next X) ∷ equal Z (next Y) ∷ equal X (number 3) ∷ [])) [] (setting 0 (number 3) ∷ setting 1 (next X) ∷ setting 2 (next Y) ∷ [])
last_first = (
  simp (whole-var, whole-next, whole-number, vars-next, vars-number),
  (
    simp (whole-var, whole-next, whole-number, vars-next),
    (simp (whole-var, whole-next, whole-number, vars-next), simp (whole-var, whole-next, whole-number)),
  ),
)

-- X = Y, Y = 2, X = 3: Y, and X by the first equation; the last one sets nothing
once : AreSettings (equations_of (equal X Y ∷ equal Y (number 2) ∷ equal X (number 3) ∷ [])) [] (setting 1 (number 2) ∷ setting 0 Y ∷ [])
once = (
  simp (whole-var, whole-number, vars-var, vars-number),
  (simp (whole-var, whole-number, vars-var, vars-number), simp (whole-var, whole-number)),
)

-- X = Y, Y = 1, Z = 2: Y, then X, since the leftmost one comes first again, and Z
leftmost_again : AreSettings (equations_of (equal X Y ∷ equal Y (number 1) ∷ equal Z (number 2) ∷ [])) [] (setting 1 (number 1) ∷ setting 0 Y ∷ setting 2 (number 2) ∷ [])
leftmost_again = (
  simp (whole-var, whole-number, vars-var, vars-number),
  (
    simp (whole-var, whole-number, vars-var, vars-number),
    (simp (whole-var, whole-number, vars-number), simp (whole-var, whole-number)),
  ),
)

-- X = Y + 1, Y = X + 1: none
in_a_circle : AreSettings (equations_of (equal X (next Y) ∷ equal Y (next X) ∷ [])) [] []
in_a_circle = simp (whole-var, whole-next, vars-next)

-- the same where X is bound: Y
circle_of_bound : AreSettings (equations_of (equal X (next Y) ∷ equal Y (next X) ∷ [])) (0 ∷ []) (setting 1 (next X) ∷ [])
circle_of_bound = (simp (whole-var, whole-next, vars-next), simp (whole-var, whole-next))
