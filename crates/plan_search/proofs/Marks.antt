-- The places that are known at each step of a plan.
use Rattle.std.proofs.Common.{◌≡◌, inl, inr, ℕ, zero, suc, ◌<◌, ◌≤◌, ◌==◌, Bool, true, false, ◌||◌, List, [], ◌∷◌, length, drop, refl, sym, ap, ◌∙◌, subst, true≢false, arith, get_or-set_same, get_or-set_other}
use Rattle.std.specs.Prelude.{Some, slice_get, slice_set, replicate}
use Rattle.std.specs.List.{All}
use Rattle.std.proofs.lemmas.Bool.{cases_eq, eqb-true, false_from_ne_true}
use Rattle.tel_term.specs.declared.terms.Value.{Value}
use Rattle.join_plans.specs.declared.columns.Column.{Column}
use Rattle.join_plans.specs.declared.columns.Column.TheVariants.{New, Old}
use Rattle.join_plans.specs.Join.{place, Expression, Step, Row, Equal, Compare, is_known, IsRight, learn, AreRight, learn_all, IsPlan}
use Rattle.join_plans.proofs.Exact.{length-learn, length-learn_all}
use Rattle.join_plans.proofs.Arranged.{length_none}
use Rattle.plan_search.proofs.Dropping.{drop_at}
use Rattle.plan_search.specs.Putting.{gives, any_gives, Stays}
use Rattle.plan_search.specs.Searching.{marks_at, AgreeOn}

-- ---- what is known stays known

inside : (known : List Bool) (v : ℕ) → is_known known v ≡ true → v < length known
inside [] v is = absurd (true≢false (sym is))
inside (k ∷ known) zero is = omega arith
inside (k ∷ known) (suc v) is = omega (arith, inside known v is)

learn_keeps : (known : List Bool) (c : Column) (v : ℕ) → is_known known v ≡ true → is_known (learn known c) v ≡ true
learn_keeps known (Old w) v is = is
learn_keeps known (New w) v is = elim (cases_eq v w) [
  | inl e ↦ ap (is_known (slice_set known w true)) e ∙ get_or-set_same known w true false (subst (λ (u : ℕ). u < length known) e (inside known v is))
  | inr n ↦ get_or-set_other known w v true false n ∙ is
]

all_keep : (known : List Bool) (cs : List Column) (v : ℕ) → is_known known v ≡ true → is_known (learn_all known cs) v ≡ true
all_keep known [] v is = is
all_keep known (c ∷ cs) v is = all_keep (learn known c) cs v (learn_keeps known c v is)

marks_keep : (known : List Bool) (steps : List Step) (n v : ℕ) → is_known known v ≡ true → is_known (marks_at known steps n) v ≡ true
marks_keep known steps zero v is = is
marks_keep known [] (suc n) v is = is
marks_keep known (Row cs rows ∷ more) (suc n) v is = marks_keep (learn_all known cs) more n v (all_keep known cs v is)
marks_keep known (Equal c e ∷ more) (suc n) v is = marks_keep (learn known c) more n v (learn_keeps known c v is)
marks_keep known (Compare c ∷ more) (suc n) v is = marks_keep known more n v is

pub marks_more : (known : List Bool) (steps : List Step) (i j v : ℕ) → i ≤ j → is_known (marks_at known steps i) v ≡ true → is_known (marks_at known steps j) v ≡ true
marks_more known steps zero j v less is = marks_keep known steps j v is
marks_more known steps (suc i) zero v less is = absurd (omega (arith, less))
marks_more known [] (suc i) (suc j) v less is = is
marks_more known (Row cs rows ∷ more) (suc i) (suc j) v less is = marks_more (learn_all known cs) more i j v (omega (arith, less)) is
marks_more known (Equal c e ∷ more) (suc i) (suc j) v less is = marks_more (learn known c) more i j v (omega (arith, less)) is
marks_more known (Compare c ∷ more) (suc i) (suc j) v less is = marks_more known more i j v (omega (arith, less)) is

pub marks_long : (known : List Bool) (steps : List Step) (n : ℕ) → length (marks_at known steps n) ≡ length known
marks_long known steps zero = refl
marks_long known [] (suc n) = refl
marks_long known (Row cs rows ∷ more) (suc n) = marks_long (learn_all known cs) more n ∙ length-learn_all known cs
marks_long known (Equal c e ∷ more) (suc n) = marks_long (learn known c) more n ∙ length-learn known c
marks_long known (Compare c ∷ more) (suc n) = marks_long known more n

-- the rest of a plan goes on from its marks
pub plan_from : (known : List Bool) (steps : List Step) (n : ℕ) → IsPlan known steps → IsPlan (marks_at known steps n) (drop n steps)
plan_from known steps zero plan = plan
plan_from known [] (suc n) plan = plan
plan_from known (Row cs rows ∷ more) (suc n) plan = plan_from (learn_all known cs) more n plan.1
plan_from known (Equal c e ∷ more) (suc n) plan = plan_from (learn known c) more n plan.2
plan_from known (Compare c ∷ more) (suc n) plan = plan_from known more n plan.1

-- ---- columns

column_inside : (known : List Bool) (c : Column) → IsRight known c → place c < length known
column_inside known (New v) right = right.0
column_inside known (Old v) right = inside known v right

pub columns_inside : (known : List Bool) (cs : List Column) (n : ℕ) → length known ≡ n → AreRight known cs → All (λ (c : Column). place c < n) cs
columns_inside known [] n long right k d less = absurd (omega (arith, less))
columns_inside known (c ∷ cs) n long right zero d less = let here = column_inside known c right.0 in omega (arith, here, long)
columns_inside known (c ∷ cs) n long right (suc k) d less = columns_inside (learn known c) cs n (length-learn known c ∙ long) right.1 k d (omega (arith, less))

-- a place that is known is given no value
gives_not : (known : List Bool) (c : Column) (v : ℕ) → IsRight known c → is_known known v ≡ true → gives v c ≡ false
gives_not known (Old w) v right is = refl
gives_not known (New w) v right is = false_from_ne_true (w == v) (λ e. true≢false (sym is ∙ ap (is_known known) (sym (eqb-true w v e)) ∙ right.1))

pub any_not : (known : List Bool) (cs : List Column) (v : ℕ) → AreRight known cs → is_known known v ≡ true → any_gives cs v ≡ false
any_not known [] v right is = refl
any_not known (c ∷ cs) v right is =
    ap (λ (t : Bool). t || any_gives cs v) (gives_not known c v right.0 is) ∙ any_not (learn known c) cs v right.1 (learn_keeps known c v is)

pub agree_put : (known : List Bool) (cs : List Column) (old new : List Value) → AreRight known cs → length known ≡ length old → length new ≡ length old → Stays cs old new → AgreeOn known old new
agree_put known cs old new right marks long stays = record {
  same = λ v is. sym (stays v (any_not known cs v right is));
  marks = marks;
  long = sym long;
}

-- ---- the columns of a step

pub row_inside : (plan : List Step) (level n : ℕ) (cs : List Column) (rows : List (List Value)) → IsPlan (replicate n false) plan → slice_get plan level ≡ Some (Row cs rows) → All (λ (c : Column). place c < n) cs
row_inside plan level n cs rows is step =
    let marks = marks_at (replicate n false) plan level in
    let from = subst (λ (p : List Step). IsPlan marks p) (drop_at plan level (Row cs rows) step) (plan_from (replicate n false) plan level is) in
    columns_inside marks cs n (marks_long (replicate n false) plan level ∙ length_none n) from.0

pub equal_inside : (plan : List Step) (level n : ℕ) (c : Column) (e : Expression) → IsPlan (replicate n false) plan → slice_get plan level ≡ Some (Equal c e) → place c < n
equal_inside plan level n c e is step =
    let marks = marks_at (replicate n false) plan level in
    let from = subst (λ (p : List Step). IsPlan marks p) (drop_at plan level (Equal c e) step) (plan_from (replicate n false) plan level is) in
    let long = marks_long (replicate n false) plan level ∙ length_none n in
    let here = column_inside marks c from.1 in
    omega (arith, here, long)
