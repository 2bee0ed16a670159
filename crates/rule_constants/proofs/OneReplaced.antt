-- A program has one program with its constants replaced.
use Rattle.std.proofs.Common.{◌≡◌, ℕ, List, Option, Some, None, map, refl, sym, ap, ◌∙◌}
use Rattle.tel_term.specs.declared.terms.Term.{Term}
use Rattle.tel_term.specs.declared.terms.Value.{Value}
use Rattle.tel_rule.specs.declared.statements.Statement.{Statement}
use Rattle.tel_rule.specs.declared.statements.Program.{Program}
use Rattle.rule_constants.specs.Constants.{Values, links_of, replacement}
use Rattle.rule_constants.specs.Replaced.{AreValues, IsReplaced, statement_replaced}

same-values : (S : List Statement) (Y : List Term) (K L : Values) → AreValues S Y K → AreValues S Y L → (n : ℕ) → K n ≡ L n
same-values S Y K L k l n = of (K n) (L n) refl refl
  where
    of : (a b : Option Value) → K n ≡ a → L n ≡ b → K n ≡ L n
    of (Some v) b x y = x ∙ sym ((l n v).1 ((k n v).0 x))
    of None None x y = x ∙ sym y
    of None (Some w) x y = (k n w).1 ((l n w).0 y) ∙ sym y

one_values : (S : List Statement) (Y : List Term) (K L : Values) → AreValues S Y K → AreValues S Y L → K ≡ L
one_values S Y K L k l = λ i n. same-values S Y K L k l n i

pub one_replaced : (program a b : Program) → IsReplaced program a → IsReplaced program b → a ≡ b
one_replaced program a b x y =
    let P = program.statements in
    let Y = program.symbols in
    let statements : a.statements ≡ b.statements = x.statements ∙ ap (λ (K : Values). map (statement_replaced (replacement (links_of P Y) K)) P) (one_values P Y x.known y.known x.values y.values) ∙ sym y.statements in
    let symbols : a.symbols ≡ b.symbols = x.symbols ∙ sym y.symbols in
    ap (λ (s : List Statement). record { statements = s; symbols = a.symbols }) statements
    ∙ ap (λ (t : List Term). record { statements = b.statements; symbols = t }) symbols
