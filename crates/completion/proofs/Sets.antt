-- Stable sets of any rules.
use Rattle.std.proofs.Common.{◌≡◌, ℕ, Bool, true, false, cond, not, ◌&&◌, ◌||◌, List, [], ◌∷◌, map, refl, sym, ap, ◌∙◌, ⊎_elim}
use Rattle.std.specs.Prelude.{Option, Some, None, ◌==◌}
use Rattle.std.specs.List.{list_all, list_any, filter}
use Rattle.std.proofs.lemmas.Bool.{and_parts, and_from, or_cases, or_left, or_right, eqb-true, eq-eqb, not_from_false, false≢true, cases_Bool}
use Rattle.tel_base.proofs.Members.{In, In-list_all, list_all-from_In, any_found, none_found}
use Rattle.tel_base.specs.declared.literals.Lit.{Lit}
use Rattle.normal_program.specs.declared.rules.NRule.{NRule}
use Rattle.normal_program.specs.StableSets.{Set, lit_holds, lits_hold, body_holds, head_kept, keeps, is_closed, IsStable}
use Rattle.normal_program.specs.Rules.{positives, negatives}

pub first_one : (x a b : Bool) → ((x && a) && b) ≡ (x && (a && b))
first_one true a b = refl
first_one false a b = refl

second_one : (x a b : Bool) → (a && (x && b)) ≡ (x && (a && b))
second_one true a b = refl
second_one false true b = refl
second_one false false b = refl

in_set : (c s : Bool) → c ≡ true → (c && not s) ≡ false → s ≡ true
in_set true true c h = refl
in_set true false c h = sym h
in_set false s c h = absurd (false≢true c)

-- the literals of a rule, and the two lists that it keeps
pub lits-body : (X S : Set) (lits : List Lit) → (list_all X (positives lits) && list_all (λ v. not (S v)) (negatives lits)) ≡ lits_hold X S lits
lits-body X S [] = refl
lits-body X S (lit ∷ more) =
    let rest = lits-body X S more in
    let all = list_all X (positives more) in
    let none = list_all (λ v. not (S v)) (negatives more) in
    (elim lit.positive as (λ (b : Bool). (list_all X (map (λ (l : Lit). l.var) (cond b (lit ∷ filter (λ (l : Lit). l.positive) more) (filter (λ (l : Lit). l.positive) more))) && list_all (λ v. not (S v)) (map (λ (l : Lit). l.var) (cond (not b) (lit ∷ filter (λ (l : Lit). not l.positive) more) (filter (λ (l : Lit). not l.positive) more)))) ≡ (cond b (X lit.var) (not (S lit.var)) && (all && none))) [
      | true ↦ first_one (X lit.var) all none
      | false ↦ second_one (not (S lit.var)) all none
    ]) ∙ (λ i. lit_holds X S lit && rest i)

-- a larger set has more bodies
all-more : (X Y : Set) (vars : List ℕ) → ((v : ℕ) → X v ≡ true → Y v ≡ true) → list_all X vars ≡ true → list_all Y vars ≡ true
all-more X Y [] more h = refl
all-more X Y (v ∷ vars) more h =
    let both = and_parts (X v) (list_all X vars) h in
    and_from (Y v) (list_all Y vars) (more v both.0) (all-more X Y vars more both.1)

pub body-more : (X Y S : Set) (rule : NRule) → ((v : ℕ) → X v ≡ true → Y v ≡ true) → body_holds X S rule ≡ true → body_holds Y S rule ≡ true
body-more X Y S rule more h =
    let both = and_parts (list_all X rule.pos) (list_all (λ v. not (S v)) rule.neg) h in
    and_from (list_all Y rule.pos) (list_all (λ v. not (S v)) rule.neg) (all-more X Y rule.pos more both.0) both.1

-- what a closed set has by a rule
pub kept : (rules : List NRule) (S X : Set) (rule : NRule) (head : ℕ) → is_closed rules S X ≡ true → In rule rules → rule.head ≡ Some head → (rule.choice ≡ true → S head ≡ true) → body_holds X S rule ≡ true → X head ≡ true
kept rules S X rule head closed found is chosen body =
    let keep : keeps S X rule ≡ true = In-list_all (keeps S X) rule rules closed found in
    let at : (not true || head_kept S X rule.choice (Some head)) ≡ true = sym (λ i. not (body i) || head_kept S X rule.choice (is i)) ∙ keep in
    ⊎_elim (λ left. let p = and_parts rule.choice (not (S head)) left in absurd (false≢true (sym (ap not (chosen p.0)) ∙ p.1))) (λ right. right) (or_cases (rule.choice && not (S head)) (X head) at)

-- a set is closed where it keeps each rule
pub keeps-from : (S X : Set) (rule : NRule) → ((head : ℕ) → rule.head ≡ Some head → (rule.choice ≡ true → S head ≡ true) → body_holds X S rule ≡ true → X head ≡ true) → keeps S X rule ≡ true
keeps-from S X rule h =
    ⊎_elim (λ (body : body_holds X S rule ≡ true). or_right (not (body_holds X S rule)) (head_kept S X rule.choice rule.head) (elim (rule.head) as (λ (o : Option ℕ). rule.head ≡ o → head_kept S X rule.choice o ≡ true) [
      | None ↦ λ is. refl
      | Some head ↦ λ is. ⊎_elim (λ (out : (rule.choice && not (S head)) ≡ true). or_left (rule.choice && not (S head)) (X head) out) (λ (within : (rule.choice && not (S head)) ≡ false). or_right (rule.choice && not (S head)) (X head) (h head is (λ c. in_set rule.choice (S head) c within) body)) (cases_Bool (rule.choice && not (S head)))
    ] refl)) (λ (body : body_holds X S rule ≡ false). or_left (not (body_holds X S rule)) (head_kept S X rule.choice rule.head) (not_from_false (body_holds X S rule) body)) (cases_Bool (body_holds X S rule))

-- whether a rule derives v by a body that holds
head_is : ℕ → Option ℕ → Bool
head_is v None = false
head_is v (Some head) = head == v

supports : Set → ℕ → NRule → Bool
supports S v rule = head_is v rule.head && body_holds S S rule

is_some_of : (v : ℕ) (o : Option ℕ) → head_is v o ≡ true → o ≡ Some v
unfolding head_is
is_some_of v None h = absurd (false≢true h)
is_some_of v (Some head) h = ap Some (eqb-true head v h)

-- each variable of a stable set is the head of a rule whose body holds
pub stable_supported : (rules : List NRule) (pairs : List (ℕ × ℕ)) (S : Set) → IsStable rules pairs S → (v : ℕ) → S v ≡ true → (rule : NRule) × In rule rules × (rule.head ≡ Some v) × (body_holds S S rule ≡ true)
unfolding head_is supports
stable_supported rules pairs S stable v h =
    ⊎_elim (λ (lit_of : list_any (supports S v) rules ≡ true).
    let w = any_found (supports S v) rules lit_of in
    let p = and_parts (head_is v w.0.head) (body_holds S S w.0) w.2 in
    (w.0, w.1, is_some_of v w.0.head p.0, p.1)) (λ (none : list_any (supports S v) rules ≡ false).
    let X : Set = λ u. S u && not (u == v) in
    let closed : is_closed rules S X ≡ true = list_all-from_In (keeps S X) rules (λ rule found.
    keeps-from S X rule (λ head is chosen body.
    let all = body-more X S S rule (λ u t. (and_parts (S u) (not (u == v)) t).0) body in
    let has = kept rules S S rule head stable.closed found is chosen all in
    let apart : (head_is v rule.head && body_holds S S rule) ≡ false = none_found (supports S v) rules rule none found in
    let differs : (head == v) ≡ false = ⊎_elim (λ (e : (head == v) ≡ true). absurd (false≢true (sym apart ∙ (λ i. head_is v (is i) && all i) ∙ and_from (head == v) true e refl))) (λ e. e) (cases_Bool (head == v)) in
    and_from (S head) (not (head == v)) has (not_from_false (head == v) differs))) in
    let lost = and_parts (S v) (not (v == v)) (stable.least X closed v h) in
    absurd (false≢true (sym (ap not (eq-eqb v v refl)) ∙ lost.1))) (cases_Bool (list_any (supports S v) rules))
