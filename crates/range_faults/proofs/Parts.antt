-- Goals that were parted, and goals for variables that no row binds.
use Rattle.std.proofs.Common.{◌≡◌, ◌∙◌, inl, ℕ, zero, suc, ◌+◌, ◌<◌, Bool, true, false, List, [], ◌∷◌, length, refl, sym, ap, subst, ⊎_elim, arith, true≢false}
use Rattle.std.specs.Prelude.{if◌then◌else◌}
use Rattle.tel_base.specs.Members.{In}
use Rattle.tel_base.proofs.Members.{In-append_left, In-append_right, In-append_cases, In-flat_map, In-flat_map_from}
use Rattle.tel_term.specs.declared.exprs.Expr.{Expr}
use Rattle.rule_binding.specs.Closure.{marked}
use Rattle.rule_goals.specs.Said.{Said, Equal}
use Rattle.range_faults.specs.Parting.{is_early, early_of, late_of, early_goals, late_goals, zero_goal, zero_goals}

-- ---- early and late goals

early_one : (one goal : Said) (t : Bool) → In one (if t then goal ∷ [] else []) → (goal ≡ one) × (t ≡ true)
early_one one goal true there = ⊎_elim (λ (same : goal ≡ one). (same, refl)) (λ none. absurd none) there
early_one one goal false there = absurd there

late_one : (one goal : Said) (t : Bool) → In one (if t then [] else goal ∷ []) → (goal ≡ one) × (t ≡ false)
late_one one goal true there = absurd there
late_one one goal false there = ⊎_elim (λ (same : goal ≡ one). (same, refl)) (λ none. absurd none) there

own_early : (goal : Said) (t : Bool) → t ≡ true → In goal (if t then goal ∷ [] else [])
own_early goal true is = inl refl
own_early goal false is = absurd (true≢false (sym is))

own_late : (goal : Said) (t : Bool) → t ≡ false → In goal (if t then [] else goal ∷ [])
own_late goal true is = absurd (true≢false is)
own_late goal false is = inl refl

module _ (marks : List Bool) (list : List Said) where
  pub early_from : (one : Said) → In one (early_goals marks list) → In one list × (is_early marks one ≡ true)
  early_from one there =
      let from = In-flat_map_from (early_of marks) one list there in
      let both = early_one one from.0 (is_early marks from.0) from.2 in
      (subst (λ (g : Said). In g list) both.0 from.1, ap (is_early marks) (sym both.0) ∙ both.1)

  pub early_to : (one : Said) → In one list → is_early marks one ≡ true → In one (early_goals marks list)
  early_to one there is = In-flat_map (early_of marks) one one list there (own_early one (is_early marks one) is)

  pub late_from : (one : Said) → In one (late_goals marks list) → In one list × (is_early marks one ≡ false)
  late_from one there =
      let from = In-flat_map_from (late_of marks) one list there in
      let both = late_one one from.0 (is_early marks from.0) from.2 in
      (subst (λ (g : Said). In g list) both.0 from.1, ap (is_early marks) (sym both.0) ∙ both.1)

  pub late_to : (one : Said) → In one list → is_early marks one ≡ false → In one (late_goals marks list)
  late_to one there is = In-flat_map (late_of marks) one one list there (own_late one (is_early marks one) is)

-- ---- variables that no row binds

-- the goal of a variable without a mark
pub record IsZeroGoal (expr : Expr) (first : ℕ) (marks : List Bool) (one : Said) : Type 0 where
  pub v : ℕ
  pub is : Equal (v + first) expr [] ≡ one
  pub inside : v < length marks
  pub unmarked : marked marks v ≡ false

zero_one : (expr : Expr) (v : ℕ) (one : Said) (mark : Bool) → In one (zero_goal expr v mark) → (Equal v expr [] ≡ one) × (mark ≡ false)
zero_one expr v one true there = absurd there
zero_one expr v one false there = ⊎_elim (λ (same : Equal v expr [] ≡ one). (same, refl)) (λ none. absurd none) there

pub zero_from : (expr : Expr) (first : ℕ) (marks : List Bool) (one : Said) → In one (zero_goals expr first marks) → IsZeroGoal expr first marks one
zero_from expr first [] one there = absurd there
zero_from expr first (mark ∷ marks) one there =
    ⊎_elim
    (λ (here : In one (zero_goal expr first mark)).
    let both = zero_one expr first one mark here in
    let same : 0 + first ≡ first = omega arith in
    record { v = 0; is = ap (λ (n : ℕ). Equal n expr []) same ∙ both.0; inside = omega arith; unmarked = both.1 })
    (λ (later : In one (zero_goals expr (suc first) marks)).
    let rest = zero_from expr (suc first) marks one later in
    let same : suc rest.v + first ≡ rest.v + suc first = omega arith in
    let less = rest.inside in
    record { v = suc rest.v; is = ap (λ (n : ℕ). Equal n expr []) same ∙ rest.is; inside = omega (arith, less); unmarked = rest.unmarked })
    (In-append_cases one (zero_goal expr first mark) (zero_goals expr (suc first) marks) there)

own_zero : (expr : Expr) (v : ℕ) (mark : Bool) → mark ≡ false → In (Equal v expr []) (zero_goal expr v mark)
own_zero expr v true is = absurd (true≢false is)
own_zero expr v false is = inl refl

pub zero_to : (expr : Expr) (first : ℕ) (marks : List Bool) (v : ℕ) → v < length marks → marked marks v ≡ false → In (Equal (v + first) expr []) (zero_goals expr first marks)
zero_to expr first [] v less is = absurd (omega (arith, less))
zero_to expr first (mark ∷ marks) zero less is =
    let same : first ≡ 0 + first = omega arith in
    subst (λ (n : ℕ). In (Equal n expr []) (zero_goals expr first (mark ∷ marks))) same
    (In-append_left (Equal first expr []) (zero_goal expr first mark) (zero_goals expr (suc first) marks) (own_zero expr first mark is))
zero_to expr first (mark ∷ marks) (suc v) less is =
    let same : v + suc first ≡ suc v + first = omega arith in
    In-append_right (Equal (suc v + first) expr []) (zero_goal expr first mark) (zero_goals expr (suc first) marks)
    (subst (λ (n : ℕ). In (Equal n expr []) (zero_goals expr (suc first) marks)) same (zero_to expr (suc first) marks v (omega (arith, less)) is))
