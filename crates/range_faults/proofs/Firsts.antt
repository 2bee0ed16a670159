-- The first statement that leaves the range.
use Rattle.std.proofs.Common.{◌≡◌, ◌⊎◌, inl, inr, ℕ, zero, suc, ◌+◌, ◌<◌, ◌≤◌, true, false, List, [], ◌∷◌, length, refl, sym, ap, ◌∙◌, subst, ⊎_elim, arith, true≢false}
use Rattle.std.specs.Prelude.{Bool, Some, slice_get}
use Rattle.tel_base.specs.Members.{In}
use Rattle.tel_base.proofs.Members.{any_found, any_from}
use Rattle.tel_term.specs.declared.terms.Term.{Term}
use Rattle.tel_term.specs.declared.arithmetic.EvalFault.{EvalFault}
use Rattle.tel_term.specs.declared.arithmetic.EvalFault.TheVariants.{Undefined, Range}
use Rattle.tel_rule.specs.declared.statements.Arg.{Arg}
use Rattle.tel_rule.specs.declared.statements.Fact.{Fact}
use Rattle.tel_rule.specs.declared.statements.Kind.{Kind}
use Rattle.tel_rule.specs.declared.statements.Kind.TheVariants as kinds
use Rattle.tel_rule.specs.declared.statements.Statement.{Statement}
use Rattle.live_instances.specs.Reached.{tuple_fault, KindLeavesRange, LeavesRange}
use Rattle.std.specs.Prelude.{Option, None}
use Rattle.range_faults.specs.Ranges.{NoneLeavesRange}
use Rattle.range_faults.specs.Stops.{is_range}
use Rattle.range_faults.specs.Facts.{some_leaves}
use Rattle.range_faults.specs.Rules.{Tells}
use Rattle.range_faults.proofs.Ruled.{tells_by}

-- ---- statements

pub get_in : (statements : List Statement) (n : ℕ) (statement : Statement) → slice_get statements n ≡ Some statement → In statement statements
get_in [] n statement e = absurd cc
get_in (one ∷ statements) zero statement e = let same : one ≡ statement = cc in inl same
get_in (one ∷ statements) (suc n) statement e = inr (get_in statements n statement e)

at_in : (statements : List Statement) (statement : Statement) → In statement statements → (n : ℕ) × (n < length statements) × (slice_get statements n ≡ Some statement)
at_in [] statement there = absurd there
at_in (one ∷ statements) statement (inl same) = (0, omega arith, ap (λ (s : Statement). Some s) same)
at_in (one ∷ statements) statement (inr later) = let rest = at_in statements statement later in let less = rest.1 in (suc rest.0, omega (arith, less), rest.2)

below_cases : (n k : ℕ) → n < k + 1 → (n < k) ⊎ (n ≡ k)
below_cases zero zero less = inr refl
below_cases zero (suc k) less = inl (omega arith)
below_cases (suc n) zero less = absurd (omega (arith, less))
below_cases (suc n) (suc k) less = ⊎_elim (λ (below : n < k). inl (omega (arith, below))) (λ (same : n ≡ k). inr (ap suc same)) (below_cases n k (omega (arith, less)))

module _ (statements : List Statement) (symbols : List Term) where
  abbrev pub NoneBefore : ℕ → Type 0
  NoneBefore n = (other : ℕ) (earlier : Statement) → other < n → slice_get statements other ≡ Some earlier → LeavesRange statements symbols earlier → ⊥

  some_statement : (a b : Statement) → Some a ≡ Some b → a ≡ b
  some_statement a b e = cc

  pub one_more : (n : ℕ) (statement : Statement) → slice_get statements n ≡ Some statement → (LeavesRange statements symbols statement → ⊥) → NoneBefore n → NoneBefore (n + 1)
  one_more n statement at stays before other earlier less there leaves =
      ⊎_elim (λ (below : other < n). before other earlier below there leaves)
      (λ (same : other ≡ n).
      let is : earlier ≡ statement = some_statement earlier statement (sym there ∙ ap (slice_get statements) same ∙ at) in
      stays (subst (λ (s : Statement). LeavesRange statements symbols s) is leaves))
      (below_cases other n less)

  pub none_leaves : (n : ℕ) → length statements ≤ n → NoneBefore n → NoneLeavesRange statements symbols
  none_leaves n all before statement there leaves = let at = at_in statements statement there in let less = at.1 in before at.0 statement (omega (arith, all, less)) at.2 leaves

  -- ---- by kinds

  pub other_kind : (statement : Statement) (kind : Kind) → statement.kind ≡ kind → (KindLeavesRange statements symbols statement kind → ⊥) → LeavesRange statements symbols statement → ⊥
  other_kind statement kind is never leaves = never (subst (KindLeavesRange statements symbols statement) is leaves)

  range_is : (fault : Option EvalFault) → is_range fault ≡ true → fault ≡ Some Range
  range_is None is = absurd (true≢false (sym is))
  range_is (Some Undefined) is = absurd (true≢false (sym is))
  range_is (Some Range) is = refl

  pub facts_tell : (statement : Statement) (fact : Fact) (tuples : List (List Arg)) (answer : Bool) → statement.kind ≡ kinds.Facts fact → tuples ≡ fact.tuples → answer ≡ some_leaves tuples → Tells answer (LeavesRange statements symbols statement)
  facts_tell statement fact tuples answer is same told =
      tells_by answer (LeavesRange statements symbols statement)
      (λ yes_it.
      let found = any_found (λ (tuple : List Arg). is_range (tuple_fault tuple)) fact.tuples (subst (λ (l : List (List Arg)). some_leaves l ≡ true) same (sym told ∙ yes_it)) in
      subst (KindLeavesRange statements symbols statement) (sym is) (found.0, found.1, range_is (tuple_fault found.0) found.2))
      (λ isnt leaves.
      let own : KindLeavesRange statements symbols statement (kinds.Facts fact) = subst (KindLeavesRange statements symbols statement) is leaves in
      let some : some_leaves fact.tuples ≡ true = any_from (λ (tuple : List Arg). is_range (tuple_fault tuple)) fact.tuples own.0 own.1 (ap is_range own.2) in
      true≢false (sym some ∙ ap some_leaves (sym same) ∙ sym told ∙ isnt))
