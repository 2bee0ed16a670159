-- Instances of small programs, worked out by hand.
use Rattle.std.proofs.Common.{◌≡◌, ◌∙◌, ℕ, pos, true, false, ◌&&◌, List, [], ◌∷◌, Ok, Err, map, refl, sym, ap, ap₂}
use Rattle.std.specs.declared.cmp.Ordering.TheVariants.{Less}
use Rattle.tel_term.specs.declared.terms.Term.{Term}
use Rattle.tel_term.specs.declared.terms.Term.TheVariants as terms
use Rattle.tel_term.specs.declared.terms.Value.{Value}
use Rattle.tel_term.specs.declared.terms.Value.TheVariants as values
use Rattle.tel_term.specs.declared.arithmetic.EvalFault.TheVariants.{Undefined, Range}
use Rattle.tel_term.specs.declared.exprs.SumOp.TheVariants as sums
use Rattle.tel_term.specs.declared.exprs.Expr.{Expr}
use Rattle.tel_term.specs.declared.exprs.Expr.TheVariants as exprs
use Rattle.tel_term.specs.declared.exprs.Expr.TheVariants.{rolls-Value, rolls-Var, rolls-Sum}
use Rattle.tel_term.specs.declared.exprs.Expr.TheOpen as layers
use Rattle.tel_term.specs.declared.exprs.Expr.TheFolds.{fold-roll-Expr}
use Rattle.tel_term.specs.Arithmetic.{Valued, layer_value, expr_value, applied, summed}
use Rattle.tel_rule.specs.declared.parts.Part.TheVariants as parts
use Rattle.tel_rule.specs.declared.formulas.Atom.{Atom}
use Rattle.tel_rule.specs.declared.statements.Head.{Head}
use Rattle.tel_rule.specs.declared.statements.Head.TheVariants as heads
use Rattle.tel_rule.specs.declared.statements.Arg.TheVariants as args
use Rattle.tel_rule.specs.declared.statements.LitItem.TheVariants as items
use Rattle.tel_rule.specs.declared.statements.Literal.{Literal}
use Rattle.tel_rule.specs.declared.statements.Kind.{Kind}
use Rattle.tel_rule.specs.declared.statements.Kind.TheVariants as kinds
use Rattle.tel_rule.specs.declared.statements.Statement.{Statement}
use Rattle.rule_binding.specs.Binding.{vars_of, layer_vars}
use Rattle.live_instances.specs.Bindings.{is_binding, binding_cmp}
use Rattle.live_instances.specs.Instances.{is_live}
use Rattle.live_instances.specs.Reached.{LeavesRange}

-- X + 1, where X is the variable 0
abbrev X : Expr
X = exprs.Var 0

abbrev one : Expr
one = exprs.Value (values.Num (pos 1))

abbrev next : Expr
next = exprs.Sum X ((sums.Plus, one) ∷ [])

value-X : (value : Value) → expr_value (value ∷ []) X ≡ Ok value
value-X value = ap (expr_value (value ∷ [])) (sym (rolls-Var 0)) ∙ fold-roll-Expr Valued (layer_value (value ∷ [])) (layers.Var 0)

value-one : (value : Value) → expr_value (value ∷ []) one ≡ Ok (values.Num (pos 1))
value-one value =
    ap (expr_value (value ∷ [])) (sym (rolls-Value (values.Num (pos 1)))) ∙ fold-roll-Expr Valued (layer_value (value ∷ [])) (layers.Value (values.Num (pos 1)))

value-next : (value : Value) → expr_value (value ∷ []) next ≡ applied (summed sums.Plus) (Ok value) (Ok (values.Num (pos 1)))
value-next value =
    ap (expr_value (value ∷ [])) (sym (rolls-Sum X ((sums.Plus, one) ∷ [])))
    ∙ fold-roll-Expr Valued (layer_value (value ∷ [])) (layers.Sum X ((sums.Plus, one) ∷ []))
    ∙ ap₂ (λ (a b : Valued). applied (summed sums.Plus) a b) (value-X value) (value-one value)

-- with X = 1 it is 2
one_more : expr_value (values.Num (pos 1) ∷ []) next ≡ Ok (values.Num (pos 2))
one_more = value-next (values.Num (pos 1))

-- with X the first symbol it has no value
no_value : expr_value (values.Sym 0 ∷ []) next ≡ Err Undefined
no_value = value-next (values.Sym 0)

-- with X = 2147483647 it leaves the range
too_large : expr_value (values.Num (pos 2147483647) ∷ []) next ≡ Err Range
too_large = value-next (values.Num (pos 2147483647))

-- ---- the program `n(1;a). s(X + 1) :- n(X).`, and the same with the fact `n(2147483647).`

-- the name a, and the value that stands for it
abbrev symbols : List Term
symbols = terms.Name (97 ∷ []) ∷ []

abbrev a : Value
a = values.Sym 0

abbrev number : ℕ → Value
number n = values.Num (pos n)

given : (value : Value) → expr_value [] (exprs.Value value) ≡ Ok value
given value = ap (expr_value []) (sym (rolls-Value value)) ∙ fold-roll-Expr Valued (layer_value []) (layers.Value value)

vars-X : vars_of X ≡ 0 ∷ []
vars-X = ap vars_of (sym (rolls-Var 0)) ∙ fold-roll-Expr (List ℕ) layer_vars (layers.Var 0)

-- the names n and s
abbrev n : List ℕ
n = 110 ∷ []

abbrev s : List ℕ
s = 115 ∷ []

abbrev atom : List ℕ → Expr → Atom
atom name arg = record { negative = false; before = 0; name = name; after = 0; args = arg ∷ [] }

abbrev always : List (List ℕ) → Kind → Statement
always vars kind = record { place = record { file = 1; line = 1; at = 1 }; part = parts.Always; vars = vars; kind = kind }

abbrev rows : List Value → Statement
rows list = always [] (kinds.Facts (record { negative = false; before = 0; name = n; after = 0; tuples = map (λ (value : Value). args.One (exprs.Value value) ∷ []) list }))

abbrev head : Head
head = heads.Normal (atom s next)

abbrev body : List Literal
body = record { nots = 0; item = items.Atom (atom n X) } ∷ []

abbrev rule : Statement
rule = always ((88 ∷ []) ∷ []) (kinds.Rule head body)

abbrev program : List Statement
program = rows (number 1 ∷ a ∷ []) ∷ rule ∷ []

-- the binding of 1 is live
one_live : is_live program symbols head body (number 1 ∷ []) ≡ true
one_live = rw (value-next (number 1)) (rw (value-X (number 1)) (rw (given (number 1)) refl))

-- that of a makes no instance, since a + 1 has no value
a_not_live : is_live program symbols head body (a ∷ []) ≡ false
a_not_live = rw (value-next a) refl

-- that of 2 makes an instance, but n(2) is no row
two_not_live : is_live program symbols head body (number 2 ∷ []) ≡ false
two_not_live = rw (value-next (number 2)) (rw (value-X (number 2)) (rw (given (number 1)) (rw (given a) refl)))

-- both are bindings of the program, and 1 comes before a
both_bindings : (is_binding symbols 1 (number 1 ∷ []) && is_binding symbols 1 (a ∷ [])) ≡ true
both_bindings = refl

number_first : binding_cmp symbols (number 1 ∷ []) (a ∷ []) ≡ Less
number_first = refl

-- where the row is 2147483647, the rule leaves the range
leaves : LeavesRange (rows (number 2147483647 ∷ []) ∷ rule ∷ []) symbols rule
leaves = record {
  settings = [];
  are = refl;
  binding = number 2147483647 ∷ [];
  is = refl;
  reached = (rw (given (number 2147483647)) (rw vars-X (rw (value-X (number 2147483647)) refl)), rw (value-next (number 2147483647)) refl);
}
