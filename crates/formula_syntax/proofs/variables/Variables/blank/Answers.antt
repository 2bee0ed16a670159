use Rattle.std.proofs.Common.{◌≡◌, ℕ, List, Some, sym, subst}
use Rattle.formula_syntax.specs.Variables.{found, IsIndex}
use Rattle.formula_syntax.proofs.Indexed.{indexed-again}
use Rattle.formula_syntax.proofs.variables.Variables.blank.Goals as goal

pub invariant_of-self : goal.invariant_of-self
invariant_of-self c =
    let names = c.self.inside.names in
    let there : found c.in_ok-name.name names ≡ Some c.in-Some.field-0 = cc (c.in-Some.ensures, c.self.view_is) in
    subst (λ (ns : List (List ℕ)). IsIndex c.self.inside.places ns) (sym c.in_ok-push-in-Some.ensures.ok) (indexed-again c.self.inside.places names c.in_ok-name.name c.in-Some.field-0 c.self.invariant there)
