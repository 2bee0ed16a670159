-- Steps for goals.
use Rattle.std.proofs.Common.{◌≡◌, ◌∙◌, ℕ, zero, suc, ◌<◌, true, List, [], ◌∷◌, ◌++◌, map, length, refl, ap, subst, ⊎_elim, arith}
use Rattle.std.specs.Prelude.{Bool, IsTrue, slice_set}
use Rattle.std.specs.List.{list_all}
use Rattle.tel_base.specs.Members.{In}
use Rattle.tel_base.proofs.Members.{In-list_all, In-append_left, In-append_right}
use Rattle.tel_term.specs.declared.terms.Term.{Term}
use Rattle.tel_term.specs.declared.exprs.Expr.{Expr}
use Rattle.tel_term.specs.Arithmetic.{Valued, expr_value}
use Rattle.tel_rule.specs.declared.statements.Relation.{Relation}
use Rattle.rule_binding.specs.Binding.{vars_of}
use Rattle.live_instances.specs.Instances.{both_relate}
use Rattle.join_plans.specs.declared.columns.Column.{Column}
use Rattle.join_plans.specs.declared.columns.Column.TheVariants.{New, Old}
use Rattle.join_plans.specs.Join.{place, is_known, IsRight, learn, AreRight, learn_all, IsReady, IsClear}
use Rattle.rule_plans.specs.Goals.{ok_value, expression_of, comparison_of}
use Rattle.rule_plans.proofs.Exprs.{value_reads}

-- ---- marks

pub learn_grows : (known : List Bool) (c : Column) (v : ℕ) → IsTrue (is_known known v) → IsTrue (is_known (learn known c) v)
learn_grows known (Old w) v is = is
learn_grows known (New w) v is = of known w v is
  where
    of : (marks : List Bool) (w v : ℕ) → is_known marks v ≡ true → is_known (slice_set marks w true) v ≡ true
    of [] w v is = is
    of (mark ∷ marks) zero zero is = refl
    of (mark ∷ marks) zero (suc v) is = is
    of (mark ∷ marks) (suc w) zero is = is
    of (mark ∷ marks) (suc w) (suc v) is = of marks w v is

pub learn_all_grows : (known : List Bool) (cs : List Column) (v : ℕ) → IsTrue (is_known known v) → IsTrue (is_known (learn_all known cs) v)
learn_all_grows known [] v is = is
learn_all_grows known (c ∷ cs) v is = learn_all_grows (learn known c) cs v (learn_grows known c v is)

set_known : (marks : List Bool) (w : ℕ) → w < length marks → is_known (slice_set marks w true) w ≡ true
set_known [] w less = absurd (omega (arith, less))
set_known (mark ∷ marks) zero less = refl
set_known (mark ∷ marks) (suc w) less = set_known marks w (omega (arith, less))

pub right_known : (known : List Bool) (c : Column) → IsRight known c → IsTrue (is_known (learn known c) (place c))
right_known known (Old w) right = right
right_known known (New w) right = set_known known w right.0

pub all_right_known : (known : List Bool) (cs : List Column) → AreRight known cs → (v : ℕ) → In v (map place cs) → IsTrue (is_known (learn_all known cs) v)
all_right_known known [] right v there = absurd there
all_right_known known (c ∷ cs) right v there =
    ⊎_elim
    (λ (same : place c ≡ v). learn_all_grows (learn known c) cs v (subst (λ (w : ℕ). IsTrue (is_known (learn known c) w)) same (right_known known c right.0)))
    (λ later. all_right_known (learn known c) cs right.1 v later) there

-- ---- expressions and comparisons

pub is_ready : (known : List Bool) (expr : Expr) → list_all (is_known known) (vars_of expr) ≡ true → IsReady known (expression_of expr)
is_ready known expr all = record {
  there = λ v reads. In-list_all (is_known known) v (vars_of expr) all reads;
  reads = λ a b same. ap ok_value (value_reads a b expr same);
}

pub is_clear : (symbols : List Term) (relation : Relation) (known : List Bool) (left right : Expr) → list_all (is_known known) (vars_of left ++ vars_of right) ≡ true → IsClear known (comparison_of symbols relation left right)
is_clear symbols relation known left right all = record {
  there = λ v reads. In-list_all (is_known known) v (vars_of left ++ vars_of right) all reads;
  reads = λ a b same.
      ap (λ (x : Valued). both_relate symbols relation x (expr_value a right)) (value_reads a b left (λ v there. same v (In-append_left v (vars_of left) (vars_of right) there)))
      ∙ ap (both_relate symbols relation (expr_value b left)) (value_reads a b right (λ v there. same v (In-append_right v (vars_of left) (vars_of right) there)));
}
