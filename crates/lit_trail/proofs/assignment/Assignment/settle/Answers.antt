use Rattle.std.proofs.Common.{◌<◌, ◌≤◌, ⊎_elim, sym, ap, ◌∙◌, get_or}
use Rattle.std.specs.Prelude.{None, is_some}
use Rattle.std.proofs.lemmas.Bool.{cases_lt}
use Rattle.lit_trail.proofs.assignment.Assignment.settle.Goals as goal

pub invariant_of-self : goal.invariant_of-self
invariant_of-self c = (
  c.self.invariant.0,
  c.self.invariant.1,
  λ var below.
      ⊎_elim (λ (l : var < c.self.inside.settled). c.self.invariant.2 var l) (λ (l : c.self.inside.settled ≤ var). ap (λ xs. is_some (get_or xs var None)) (sym c.deref.ensures.value) ∙ c.first_none-settled.ensures var below l) (cases_lt var c.self.inside.settled),
)
