-- The table of satisfaction with its "some j" and "every j" over all numbers, and what the other operators mean in words.
use Rattle.std.specs.Prelude.{◌≡◌, ℕ, ◌+◌, ◌-◌, ◌<◌, ◌≤◌, ◌⊎◌, ◌↔◌, List, IsTrue}
use Rattle.std.specs.List.{Contains}
use Rattle.tel_rule.specs.declared.formulas.ConstOp.TheVariants as constants
use Rattle.tel_rule.specs.declared.formulas.UnaryOp.TheVariants as unary
use Rattle.tel_rule.specs.declared.formulas.BinaryOp.TheVariants as binary
use Rattle.tel_rule.specs.declared.formulas.ManyOp.TheVariants as many
use Rattle.tel_semantics.specs.Traces.{Test}
use Rattle.tel_semantics.specs.Formula.{Formula, True, False, Atom, And, Or, Arrow, Previous, Since, Trigger, Next, Until, Release}
use Rattle.tel_semantics.specs.NodeFormula.{const_formula, unary_formula, binary_formula, many_formula}
use Rattle.tel_semantics.specs.Satisfaction.{sat}

-- f holds at the instant k of (H, T)
abbrev pub Holds : Formula → ℕ → Test → Test → ℕ → Type 0
Holds f n H T k = IsTrue (sat f n H T k)

-- what each operator holds exactly where
pub record FollowsTable (f g : Formula) (n : ℕ) (H T : Test) (k : ℕ) : Type 0 where
  pub true_row : Holds True n H T k
  pub false_row : Holds False n H T k → ⊥
  pub atom_row : (atom : ℕ) → Holds (Atom atom) n H T k ↔ IsTrue (H k atom)
  pub and_row : Holds (And f g) n H T k ↔ (Holds f n H T k × Holds g n H T k)
  pub or_row : Holds (Or f g) n H T k ↔ (Holds f n H T k ⊎ Holds g n H T k)
  pub arrow_row : Holds (Arrow f g) n H T k ↔ ((Holds f n H T k → Holds g n H T k) × (Holds f n T T k → Holds g n T T k))
  pub previous_row : Holds (Previous f) n H T k ↔ ((0 < k) × Holds f n H T (k - 1))
  pub since_row : Holds (Since f g) n H T k ↔ ((j : ℕ) × (j ≤ k) × Holds g n H T j × ((i : ℕ) → j < i → i ≤ k → Holds f n H T i))
  pub trigger_row : Holds (Trigger f g) n H T k ↔ ((j : ℕ) → j ≤ k → Holds g n H T j ⊎ ((i : ℕ) × (j < i) × (i ≤ k) × Holds f n H T i))
  pub next_row : Holds (Next f) n H T k ↔ ((k + 1 < n) × Holds f n H T (k + 1))
  pub until_row : Holds (Until f g) n H T k ↔ ((j : ℕ) × (k ≤ j) × (j < n) × Holds g n H T j × ((i : ℕ) → k ≤ i → i < j → Holds f n H T i))
  pub release_row : Holds (Release f g) n H T k ↔ ((j : ℕ) → k ≤ j → j < n → Holds g n H T j ⊎ ((i : ℕ) × (k ≤ i) × (i < j) × Holds f n H T i))

-- what each operator of the nodes holds exactly where, at an instant of the trace
pub record MeansItsName (f g : Formula) (formulas : List Formula) (n : ℕ) (H T : Test) (k : ℕ) : Type 0 where
  pub true_row : Holds (const_formula constants.True) n H T k
  pub false_row : Holds (const_formula constants.False) n H T k → ⊥
  pub initial_row : Holds (const_formula constants.Initial) n H T k ↔ (k ≡ 0)
  pub final_row : Holds (const_formula constants.Final) n H T k ↔ (k + 1 ≡ n)
  pub not_row : Holds (unary_formula unary.Not f) n H T k ↔ ((Holds f n H T k → ⊥) × (Holds f n T T k → ⊥))
  pub previous_row : Holds (unary_formula unary.Previous f) n H T k ↔ ((0 < k) × Holds f n H T (k - 1))
  pub weak_previous_row : Holds (unary_formula unary.WeakPrevious f) n H T k ↔ (0 < k → Holds f n H T (k - 1))
  pub always_before_row : Holds (unary_formula unary.AlwaysBefore f) n H T k ↔ ((j : ℕ) → j ≤ k → Holds f n H T j)
  pub once_before_row : Holds (unary_formula unary.OnceBefore f) n H T k ↔ ((j : ℕ) × (j ≤ k) × Holds f n H T j)
  pub initially_row : Holds (unary_formula unary.Initially f) n H T k ↔ Holds f n H T 0
  pub next_row : Holds (unary_formula unary.Next f) n H T k ↔ ((k + 1 < n) × Holds f n H T (k + 1))
  pub weak_next_row : Holds (unary_formula unary.WeakNext f) n H T k ↔ (k + 1 < n → Holds f n H T (k + 1))
  pub always_after_row : Holds (unary_formula unary.AlwaysAfter f) n H T k ↔ ((j : ℕ) → k ≤ j → j < n → Holds f n H T j)
  pub once_after_row : Holds (unary_formula unary.OnceAfter f) n H T k ↔ ((j : ℕ) × (k ≤ j) × (j < n) × Holds f n H T j)
  pub finally_row : Holds (unary_formula unary.Finally f) n H T k ↔ Holds f n H T (n - 1)
  pub since_row : Holds (binary_formula binary.Since f g) n H T k ↔ ((j : ℕ) × (j ≤ k) × Holds g n H T j × ((i : ℕ) → j < i → i ≤ k → Holds f n H T i))
  pub trigger_row : Holds (binary_formula binary.Trigger f g) n H T k ↔ ((j : ℕ) → j ≤ k → Holds g n H T j ⊎ ((i : ℕ) × (j < i) × (i ≤ k) × Holds f n H T i))
  pub until_row : Holds (binary_formula binary.Until f g) n H T k ↔ ((j : ℕ) × (k ≤ j) × (j < n) × Holds g n H T j × ((i : ℕ) → k ≤ i → i < j → Holds f n H T i))
  pub release_row : Holds (binary_formula binary.Release f g) n H T k ↔ ((j : ℕ) → k ≤ j → j < n → Holds g n H T j ⊎ ((i : ℕ) × (k ≤ i) × (i < j) × Holds f n H T i))
  pub implies_row : Holds (binary_formula binary.Implies f g) n H T k ↔ ((Holds f n H T k → Holds g n H T k) × (Holds f n T T k → Holds g n T T k))
  pub implied_by_row : Holds (binary_formula binary.ImpliedBy f g) n H T k ↔ ((Holds g n H T k → Holds f n H T k) × (Holds g n T T k → Holds f n T T k))
  pub same_row : Holds (binary_formula binary.Same f g) n H T k ↔ ((Holds f n H T k ↔ Holds g n H T k) × (Holds f n T T k ↔ Holds g n T T k))
  pub and_row : Holds (many_formula many.And formulas) n H T k ↔ ((h : Formula) → Contains formulas h → Holds h n H T k)
  pub or_row : Holds (many_formula many.Or formulas) n H T k ↔ ((h : Formula) × Contains formulas h × Holds h n H T k)

-- satisfaction is the table
abbrev pub SatisfactionIsTable : Type 0
SatisfactionIsTable = (f g : Formula) (n : ℕ) (H T : Test) (k : ℕ) → FollowsTable f g n H T k

-- the operators of nodes mean what they are called
abbrev pub OperatorsMeanTheirNames : Type 0
OperatorsMeanTheirNames =
    (f g : Formula) (formulas : List Formula) (n : ℕ) (H T : Test) (k : ℕ) → k < n → MeansItsName f g formulas n H T k
