-- Counts that a `usize` holds.
use Rattle.std.proofs.Common.{◌≡◌, ℕ, ◌+◌, ◌-◌, ◌^◌, ◌≤◌, List, map, sym, ap, ◌∙◌, arith}
use Rattle.std.specs.Prelude.{min}
use Rattle.std.specs.List.{sum}
use Rattle.tel_rule.specs.declared.formulas.Atom.{Atom}
use Rattle.tel_rule.specs.declared.formulas.ManyOp.{ManyOp}
use Rattle.tel_rule.specs.declared.formulas.Formula.{Formula}
use Rattle.tel_rule.specs.declared.formulas.Formula.TheVariants as shapes
use Rattle.tel_rule.specs.declared.nodes.NodeOp.{NodeOp}
use Rattle.instance_build.proofs.FormulaLayers.{value-many}
use Rattle.program_theory.specs.Instances.{operator_count}
use Rattle.program_instances.specs.Adding.{capped}

-- ---- sums

min_sum : (m n t : ℕ) → min (min m t + min n t) t ≡ min (m + n) t
min_sum m n t = omega arith

min_more : (m t : ℕ) → 1 ≤ t → min (min m t + 1) t ≡ min (1 + m) t
min_more m t some = omega arith

pub capped_sum : (m n : ℕ) → min (capped m + capped n) (2 ^ 64 - 1) ≡ capped (m + n)
capped_sum m n = min_sum m n (2 ^ 64 - 1)

pub capped_more : (m : ℕ) → min (capped m + 1) (2 ^ 64 - 1) ≡ capped (1 + m)
capped_more m = min_more m (2 ^ 64 - 1) (omega arith)

-- ---- formulas

abbrev none_of : Atom → ℕ
none_of atom = 0

abbrev one_more : NodeOp → List ℕ → ℕ
one_more op below = 1 + sum below

pub many_count : (op : ManyOp) (fs others : List Formula) (formula : Formula) (r b : ℕ) → formula ≡ shapes.Many op fs → others ≡ fs → r ≡ min (b + 1) (2 ^ 64 - 1) → b ≡ capped (sum (map operator_count others)) → r ≡ capped (operator_count formula)
many_count op fs others formula r b is same sum_is below =
    sum_is ∙ ap (λ (n : ℕ). min (n + 1) (2 ^ 64 - 1)) below ∙ capped_more (sum (map operator_count others)) ∙ ap (λ (l : List Formula). capped (1 + sum (map operator_count l))) same
    ∙ ap capped (sym (value-many none_of one_more op fs)) ∙ ap (λ (h : Formula). capped (operator_count h)) (sym is)
