-- Marks of all variables of a list.
use Rattle.std.proofs.Common.{◌≡◌, ◌∙◌, ℕ, ◌<◌, ◌≤◌, Bool, false, List, length, sym, subst, ⊎_elim, arith, IsTrue}
use Rattle.std.specs.Prelude.{◌==◌}
use Rattle.std.proofs.lemmas.Bool.{cases_lt, eqb-true, false_from_ne_true}
use Rattle.tel_base.specs.Members.{In}
use Rattle.tel_base.proofs.Members.{any_found}
use Rattle.rule_binding.specs.Binding.{has}
use Rattle.rule_binding.specs.Closure.{marked}
use Rattle.rule_binding.proofs.Marks.{marked-below}
use Rattle.rule_settings.specs.Candidates.{AreMarked}

has_below : (vars : List ℕ) (count : ℕ) → ((v : ℕ) → In v vars → v < count) → (v : ℕ) → IsTrue (has vars v) → v < count
has_below vars count below v h =
    let found = any_found (λ (w : ℕ). w == v) vars h in
    subst (λ (w : ℕ). w < count) (eqb-true found.0 v found.2) (below found.0 found.1)

pub all_marked : (marks : List Bool) (vars : List ℕ) (count : ℕ) → length marks ≡ count → ((v : ℕ) → v < count → marked marks v ≡ has vars v) → ((v : ℕ) → In v vars → v < count) → AreMarked marks vars
all_marked marks vars count len same below v =
    ⊎_elim (λ (less : v < count). sym (same v less))
    (λ (past : count ≤ v).
    let none : has vars v ≡ false = false_from_ne_true (has vars v) (λ h. let less = has_below vars count below v h in absurd (omega (arith, past, less))) in
    let bare : marked marks v ≡ false = false_from_ne_true (marked marks v) (λ h. let less = marked-below marks v h in absurd (omega (arith, past, less, len))) in
    none ∙ sym bare)
    (cases_lt v count)
