-- Setting equations: what they bind is what each closed set has.
use Rattle.std.proofs.Common.{◌≡◌, ℕ, zero, suc, ◌<◌, ◌≤◌, Bool, true, false, not, ◌&&◌, ◌||◌, List, [], ◌∷◌, ◌++◌, Option, Some, None, refl, sym, ap, subst, ◌∙◌, true≢false, inl, inr, arith, IsTrue}
use Rattle.std.specs.Prelude.{◌==◌, if◌then◌else◌}
use Rattle.std.specs.List.{list_all, flat_map}
use Rattle.std.proofs.lemmas.Bool.{and_parts, and_from, or_left, or_right, or_cases, cases_Bool, false_from_ne_true, eqb-true, eq-eqb}
use Rattle.std.proofs.lemmas.List.Folds.{list_all-append, list_any-append}
use Rattle.tel_base.specs.Members.{In}
use Rattle.tel_base.proofs.Members.{In-list_all}
use Rattle.tel_term.specs.declared.exprs.Expr.{Expr}
use Rattle.rule_binding.specs.Binding.{Vars, has, vars_of, whole_var, one_var, Equation, Setting, var_set, side_set, sets, possible, first_of, AreSettings, bound_by}
use Rattle.rule_binding.specs.Closure.{keeps_rule, keeps}
use Rattle.rule_binding.specs.Rules.{var_rules, side_rules, equation_rules}
use Rattle.rule_binding.specs.Laws.{AreInSomeOrder}
use Rattle.rule_binding.proofs.Marks.{all_more}

-- ---- lists

-- what all have, one that is there has
pub all_of_has : (X : Vars) (vars : List ℕ) → IsTrue (list_all X vars) → (v : ℕ) → IsTrue (has vars v) → IsTrue (X v)
all_of_has X [] h v there = absurd (true≢false (sym there))
all_of_has X (w ∷ vars) h v there =
    let both = and_parts (X w) (list_all X vars) h in
    elim (or_cases (w == v) (has vars v) there) [
      | inl same ↦ subst (λ (u : ℕ). IsTrue (X u)) (eqb-true w v same) both.0
      | inr later ↦ all_of_has X vars both.1 v later
    ]

pub has-itself : (v : ℕ) (vars : List ℕ) → IsTrue (has (v ∷ vars) v)
has-itself v vars = or_left (v == v) (has vars v) (eq-eqb v v refl)

-- all that are there are there
pub all-has : (vars : List ℕ) → IsTrue (list_all (has vars) vars)
all-has [] = refl
all-has (v ∷ vars) =
    and_from (has (v ∷ vars) v) (list_all (has (v ∷ vars)) vars) (has-itself v vars)
    (all_more (has vars) (has (v ∷ vars)) (λ w. or_right (v == w) (has vars w)) vars (all-has vars))

all_append : {A : Type 0} (p : A → Bool) (xs ys : List A) → IsTrue (list_all p xs) → IsTrue (list_all p ys) → IsTrue (list_all p (xs ++ ys))
all_append p xs ys a b = list_all-append p xs ys ∙ and_from (list_all p xs) (list_all p ys) a b

all_apart : {A : Type 0} (p : A → Bool) (xs ys : List A) → IsTrue (list_all p (xs ++ ys)) → IsTrue (list_all p xs) × IsTrue (list_all p ys)
all_apart p xs ys h = and_parts (list_all p xs) (list_all p ys) (sym (list_all-append p xs ys) ∙ h)

first_in : (settings : List Setting) (setting : Setting) → first_of settings ≡ Some setting → In setting settings
first_in [] setting e = absurd cc
first_in (s ∷ more) setting e = let same : s ≡ setting = cc in inl same

none_at_all : (settings : List Setting) → first_of settings ≡ None → settings ≡ []
none_at_all [] e = refl
none_at_all (s ∷ more) e = absurd cc

none_apart : (xs ys : List Setting) → xs ++ ys ≡ [] → (xs ≡ []) × (ys ≡ [])
none_apart [] ys e = (refl, e)
none_apart (x ∷ xs) ys e = absurd cc

-- ---- closed sets

-- the set is closed under equations
abbrev pub closed : Vars → List Equation → Bool
closed X equations = keeps X (flat_map equation_rules equations)

-- what a closed set has gives what it has
side_sound : (X B : Vars) (other : Expr) (whole : Option ℕ) → ((v : ℕ) → IsTrue (B v) → IsTrue (X v)) → IsTrue (keeps X (var_rules other whole)) → IsTrue (list_all (λ (s : Setting). X s.var) (var_set B other whole))
side_sound X B other None within kept = refl
side_sound X B other (Some v) within kept = elim (cases_Bool (not (B v) && list_all B (vars_of other))) [
  | inl is ↦
      let bound : IsTrue (list_all X (vars_of other)) = all_more B X within (vars_of other) (and_parts (not (B v)) (list_all B (vars_of other)) is).1 in
      let rule : (X v || not (list_all X (vars_of other))) ≡ true = (and_parts (X v || not (list_all X (vars_of other))) true kept).0 in
      let there : X v ≡ true = elim (or_cases (X v) (not (list_all X (vars_of other))) rule) [
        | inl h ↦ h
        | inr h ↦ absurd (true≢false (sym h ∙ ap not bound))
      ] in
      ap (λ (b : Bool). list_all (λ (s : Setting). X s.var) (if b then record { var = v; value = other } ∷ [] else [])) is ∙ and_from (X v) true there refl
  | inr isnt ↦ ap (λ (b : Bool). list_all (λ (s : Setting). X s.var) (if b then record { var = v; value = other } ∷ [] else [])) isnt
]

pub possible_sound : (X B : Vars) (equations : List Equation) → ((v : ℕ) → IsTrue (B v) → IsTrue (X v)) → IsTrue (closed X equations) → IsTrue (list_all (λ (s : Setting). X s.var) (possible B equations))
possible_sound X B [] within kept = refl
possible_sound X B (e ∷ more) within kept =
    let both = all_apart (keeps_rule X) (equation_rules e) (flat_map equation_rules more) kept in
    let sides = all_apart (keeps_rule X) (side_rules e.left e.right) (side_rules e.right e.left) both.0 in
    all_append (λ (s : Setting). X s.var) (sets B e) (possible B more)
    (all_append (λ (s : Setting). X s.var) (side_set B e.left e.right) (side_set B e.right e.left)
    (side_sound X B e.right (whole_var e.left) within sides.0)
    (side_sound X B e.left (whole_var e.right) within sides.1))
    (possible_sound X B more within both.1)

-- each closed set with the variables that are bound at first has all that are bound in the end
pub sound : (X : Vars) (equations : List Equation) (bound : List ℕ) (settings : List Setting) → IsTrue (closed X equations) → IsTrue (list_all X bound) → AreInSomeOrder equations bound settings → IsTrue (list_all X (bound_by bound settings))
sound X equations bound [] kept start are = start
sound X equations bound (setting ∷ more) kept start are =
    let there = In-list_all (λ (s : Setting). X s.var) setting (possible (has bound) equations) (possible_sound X (has bound) equations (all_of_has X bound start) kept) are.0 in
    sound X equations (setting.var ∷ bound) more kept (and_from (X setting.var) (list_all X bound) there start) are.1

-- ---- the end

side_ends : (B : Vars) (other : Expr) (whole : Option ℕ) → var_set B other whole ≡ [] → IsTrue (keeps B (var_rules other whole))
side_ends B other None e = refl
side_ends B other (Some v) e = by (B v) (list_all B (vars_of other)) e
  where
    by : (b needs : Bool) → if◌then◌else◌ {A = List Setting} (not b && needs) (record { var = v; value = other } ∷ []) [] ≡ [] → ((b || not needs) && true) ≡ true
    by true needs h = refl
    by false false h = refl
    by false true h = absurd cc

-- where no equation can set a variable, what is bound is closed
pub ends : (B : Vars) (equations : List Equation) → possible B equations ≡ [] → IsTrue (closed B equations)
ends B [] e = refl
ends B (equation ∷ more) e =
    let both = none_apart (sets B equation) (possible B more) e in
    let sides = none_apart (side_set B equation.left equation.right) (side_set B equation.right equation.left) both.0 in
    all_append (keeps_rule B) (equation_rules equation) (flat_map equation_rules more)
    (all_append (keeps_rule B) (side_rules equation.left equation.right) (side_rules equation.right equation.left)
    (side_ends B equation.right (whole_var equation.left) sides.0)
    (side_ends B equation.left (whole_var equation.right) sides.1))
    (ends B more both.1)

-- in the end it is so
pub end_closed : (equations : List Equation) (bound : List ℕ) (settings : List Setting) → AreInSomeOrder equations bound settings → IsTrue (closed (has (bound_by bound settings)) equations)
end_closed equations bound [] are = ends (has bound) equations (none_at_all (possible (has bound) equations) are)
end_closed equations bound (setting ∷ more) are = end_closed equations (setting.var ∷ bound) more are.1

-- what was bound stays bound
pub stays_bound : (bound : List ℕ) (settings : List Setting) (v : ℕ) → IsTrue (has bound v) → IsTrue (has (bound_by bound settings) v)
stays_bound bound [] v h = h
stays_bound bound (setting ∷ more) v h = stays_bound (setting.var ∷ bound) more v (or_right (setting.var == v) (has bound v) h)

-- ---- in every order

pub some_order : (equations : List Equation) (bound : List ℕ) (settings : List Setting) → AreSettings equations bound settings → AreInSomeOrder equations bound settings
some_order equations bound [] are = are
some_order equations bound (setting ∷ more) are = (first_in (possible (has bound) equations) setting are.0, some_order equations (setting.var ∷ bound) more are.1)

pub below : (equations : List Equation) (bound : List ℕ) (a b : List Setting) → AreInSomeOrder equations bound a → AreInSomeOrder equations bound b → (v : ℕ) → IsTrue (has (bound_by bound a) v) → IsTrue (has (bound_by bound b) v)
below equations bound a b are_a are_b v h =
    let start : IsTrue (list_all (has (bound_by bound b)) bound) = all_more (has bound) (has (bound_by bound b)) (stays_bound bound b) bound (all-has bound) in
    all_of_has (has (bound_by bound b)) (bound_by bound a) (sound (has (bound_by bound b)) equations bound a (end_closed equations bound b are_b) start are_a) v h

-- two tests that follow from one another
pub both_ways : (p q : Bool) → (IsTrue p → IsTrue q) → (IsTrue q → IsTrue p) → p ≡ q
both_ways true q there back = sym (there refl)
both_ways false true there back = back refl
both_ways false false there back = refl

pub same_bound : (equations : List Equation) (bound : List ℕ) (a b : List Setting) → AreInSomeOrder equations bound a → AreInSomeOrder equations bound b → (v : ℕ) → has (bound_by bound a) v ≡ has (bound_by bound b) v
same_bound equations bound a b are_a are_b v =
    both_ways (has (bound_by bound a) v) (has (bound_by bound b) v) (below equations bound a b are_a are_b v) (below equations bound b a are_b are_a v)

-- ---- setting equations are one list

pub one_list : (equations : List Equation) (bound : List ℕ) (a b : List Setting) → AreSettings equations bound a → AreSettings equations bound b → a ≡ b
one_list equations bound [] [] are_a are_b = refl
one_list equations bound [] (t ∷ b) are_a are_b = let first = are_b.0 in absurd cc
one_list equations bound (s ∷ a) [] are_a are_b = let first = are_a.0 in absurd cc
one_list equations bound (s ∷ a) (t ∷ b) are_a are_b =
    let first_a = are_a.0 in
    let first_b = are_b.0 in
    let same : s ≡ t = cc in
    let later : AreSettings equations (t.var ∷ bound) a = subst (λ (r : Setting). AreSettings equations (r.var ∷ bound) a) same are_a.1 in
    let rest = one_list equations (t.var ∷ bound) a b later are_b.1 in
    cc

-- ---- there are setting equations

-- the variables that stand alone on a side
abbrev candidates : List Equation → List ℕ
candidates equations = flat_map (λ (e : Equation). one_var (whole_var e.left) ++ one_var (whole_var e.right)) equations

abbrev unbound_count : List ℕ → List ℕ → ℕ
unbound_count bound [] = 0
unbound_count bound (c ∷ more) = if has bound c then unbound_count bound more else suc (unbound_count bound more)

has_append_left : (xs ys : List ℕ) (v : ℕ) → IsTrue (has xs v) → IsTrue (has (xs ++ ys) v)
has_append_left xs ys v h = list_any-append (λ (w : ℕ). w == v) xs ys ∙ or_left (has xs v) (has ys v) h

has_append_right : (xs ys : List ℕ) (v : ℕ) → IsTrue (has ys v) → IsTrue (has (xs ++ ys) v)
has_append_right xs ys v h = list_any-append (λ (w : ℕ). w == v) xs ys ∙ or_right (has xs v) (has ys v) h

-- a variable that can be set is a candidate that isn't bound
abbrev is_new : Vars → List ℕ → Setting → Bool
is_new B cs s = has cs s.var && not (B s.var)

side_new : (B : Vars) (other : Expr) (whole : Option ℕ) → IsTrue (list_all (is_new B (one_var whole)) (var_set B other whole))
side_new B other None = refl
side_new B other (Some v) = by (B v) (list_all B (vars_of other)) refl
  where
    by : (b needs : Bool) → B v ≡ b → IsTrue (list_all (is_new B (v ∷ [])) (if not b && needs then record { var = v; value = other } ∷ [] else []))
    by true needs e = refl
    by false false e = refl
    by false true e = and_from (has (v ∷ []) v && not (B v)) true (and_from (has (v ∷ []) v) (not (B v)) (has-itself v []) (ap not e)) refl

new_left : (B : Vars) (xs ys : List ℕ) (s : Setting) → IsTrue (is_new B xs s) → IsTrue (is_new B (xs ++ ys) s)
new_left B xs ys s h =
    let both = and_parts (has xs s.var) (not (B s.var)) h in
    and_from (has (xs ++ ys) s.var) (not (B s.var)) (has_append_left xs ys s.var both.0) both.1

new_right : (B : Vars) (xs ys : List ℕ) (s : Setting) → IsTrue (is_new B ys s) → IsTrue (is_new B (xs ++ ys) s)
new_right B xs ys s h =
    let both = and_parts (has ys s.var) (not (B s.var)) h in
    and_from (has (xs ++ ys) s.var) (not (B s.var)) (has_append_right xs ys s.var both.0) both.1

possible_new : (B : Vars) (equations : List Equation) → IsTrue (list_all (is_new B (candidates equations)) (possible B equations))
possible_new B [] = refl
possible_new B (e ∷ more) =
    let left = one_var (whole_var e.left) in
    let right = one_var (whole_var e.right) in
    all_append (is_new B (candidates (e ∷ more))) (sets B e) (possible B more)
    (all_more (is_new B (left ++ right)) (is_new B (candidates (e ∷ more))) (new_left B (left ++ right) (candidates more)) (sets B e)
    (all_append (is_new B (left ++ right)) (side_set B e.left e.right) (side_set B e.right e.left)
    (all_more (is_new B left) (is_new B (left ++ right)) (new_left B left right) (side_set B e.left e.right) (side_new B e.right (whole_var e.left)))
    (all_more (is_new B right) (is_new B (left ++ right)) (new_right B left right) (side_set B e.right e.left) (side_new B e.left (whole_var e.right)))))
    (all_more (is_new B (candidates more)) (is_new B (candidates (e ∷ more))) (new_right B (left ++ right) (candidates more)) (possible B more) (possible_new B more))

fewer : (bound : List ℕ) (v : ℕ) (cs : List ℕ) → unbound_count (v ∷ bound) cs ≤ unbound_count bound cs
fewer bound v [] = omega arith
fewer bound v (c ∷ more) = by (fewer bound v more) (v == c) (has bound c)
  where
    by : unbound_count (v ∷ bound) more ≤ unbound_count bound more → (same there : Bool) → (if same || there then unbound_count (v ∷ bound) more else suc (unbound_count (v ∷ bound) more)) ≤ (if there then unbound_count bound more else suc (unbound_count bound more))
    by less true true = less
    by less true false = omega (arith, less)
    by less false true = less
    by less false false = omega (arith, less)

strictly_fewer : (bound : List ℕ) (v : ℕ) (cs : List ℕ) → IsTrue (has cs v) → has bound v ≡ false → unbound_count (v ∷ bound) cs < unbound_count bound cs
strictly_fewer bound v [] there new = absurd (true≢false (sym there))
strictly_fewer bound v (c ∷ more) there new = elim (or_cases (c == v) (has more v) there) [
  | inl same ↦
      let e : c ≡ v = eqb-true c v same in
      let less = fewer bound v more in
      let bound_now : has (v ∷ bound) c ≡ true = subst (λ (u : ℕ). has (v ∷ bound) u ≡ true) (sym e) (has-itself v bound) in
      let unbound : has bound c ≡ false = subst (λ (u : ℕ). has bound u ≡ false) (sym e) new in
      let now : unbound_count (v ∷ bound) (c ∷ more) ≡ unbound_count (v ∷ bound) more = ap (λ (b : Bool). if b then unbound_count (v ∷ bound) more else suc (unbound_count (v ∷ bound) more)) bound_now in
      let before : unbound_count bound (c ∷ more) ≡ suc (unbound_count bound more) = ap (λ (b : Bool). if b then unbound_count bound more else suc (unbound_count bound more)) unbound in
      omega (arith, less, now, before)
  | inr later ↦ by (strictly_fewer bound v more later new) (v == c) (has bound c)
] where
  by : unbound_count (v ∷ bound) more < unbound_count bound more → (same there' : Bool) → (if same || there' then unbound_count (v ∷ bound) more else suc (unbound_count (v ∷ bound) more)) < (if there' then unbound_count bound more else suc (unbound_count bound more))
  by less true true = less
  by less true false = omega (arith, less)
  by less false true = less
  by less false false = omega (arith, less)

exist_below : (n : ℕ) (equations : List Equation) (bound : List ℕ) → unbound_count bound (candidates equations) < n → (settings : List Setting) × AreSettings equations bound settings
exist_below zero equations bound l = absurd (omega (arith, l))
exist_below (suc n) equations bound l = by (exist_below n equations) (first_of (possible (has bound) equations)) refl
  where
    by : ((next : List ℕ) → unbound_count next (candidates equations) < n → (settings : List Setting) × AreSettings equations next settings) → (first : Option Setting) → first_of (possible (has bound) equations) ≡ first → (settings : List Setting) × AreSettings equations bound settings
    by later None e = ([], e)
    by later (Some s) e =
        let new = and_parts (has (candidates equations) s.var) (not (has bound s.var)) (In-list_all (is_new (has bound) (candidates equations)) s (possible (has bound) equations) (possible_new (has bound) equations) (first_in (possible (has bound) equations) s e)) in
        let unbound : has bound s.var ≡ false = false_from_ne_true (has bound s.var) (λ h. true≢false (sym new.1 ∙ ap not h)) in
        let less = strictly_fewer bound s.var (candidates equations) new.0 unbound in
        let rest = later (s.var ∷ bound) (omega (arith, less, l)) in
        (s ∷ rest.0, (e, rest.1))

pub exist : (equations : List Equation) (bound : List ℕ) → (settings : List Setting) × AreSettings equations bound settings
exist equations bound = exist_below (suc (unbound_count bound (candidates equations))) equations bound (omega arith)
