use Rattle.std.proofs.Common.{◌≡◌, ℕ, List, length, Some, None, sym, subst}
use Rattle.std.specs.Prelude.{bytes_eq}
use Rattle.indexmap.specs.IndexMap.{Updates}
use Rattle.formula_syntax.specs.Variables.{found, IsIndex}
use Rattle.formula_syntax.proofs.Indexed.{indexed-new}
use Rattle.formula_syntax.proofs.variables.Variables.add.Goals as goal

pub invariant_of-self-in-Ok : goal.invariant_of-self-in-Ok
invariant_of-self-in-Ok c =
    let names = c.self.inside.names in
    let absent : found c.args.name names ≡ None = cc (c.requires, c.self.view_is) in
    let key : c.in_ok-key.key ≡ c.args.name = cc (c.in_ok-key.ensures, c.as_slice.ensures) in
    let at_key : Updates bytes_eq c.self.inside.places c.insert.new.self c.args.name (Some c.len-place.result) = subst (λ (k : List ℕ). Updates bytes_eq c.self.inside.places c.insert.new.self k (Some c.len-place.result)) key c.in-Ok.ensures.updates in
    let updates : Updates bytes_eq c.self.inside.places c.insert.new.self c.args.name (Some (length names)) = subst (λ (p : ℕ). Updates bytes_eq c.self.inside.places c.insert.new.self c.args.name (Some p)) c.len-place.ensures at_key in
    subst (λ (ns : List (List ℕ)). IsIndex c.insert.new.self ns) (sym c.in_ok-push.ensures.ok) (indexed-new c.self.inside.places c.insert.new.self names c.args.name c.self.invariant absent updates)
