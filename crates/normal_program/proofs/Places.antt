-- Rows and marks by variable.
use Rattle.std.proofs.Common.{◌≡◌, ℕ, zero, suc, ◌+◌, ◌<◌, ◌≤◌, Bool, true, false, ◌||◌, List, [], ◌∷◌, ◌++◌, length, get_or, take, cond, refl, sym, ap, subst, ◌∙◌, arith, append_assoc, append-nil}
use Rattle.std.specs.Prelude.{nat_lt, slice_get}
use Rattle.std.specs.List.{list_all, filter, range_with_len}
use Rattle.std.proofs.lemmas.Bool.{and_parts, and_from, ltb-true, lt-ltb}
use Rattle.normal_program.specs.declared.rules.NRule.{NRule}
use Rattle.normal_program.specs.declared.modules.ModuleParts.{ModuleParts}
use Rattle.normal_program.specs.Numbering.{head_is, id_at, ids_from}
use Rattle.normal_program.specs.Grounds.{has_head, rules_with, heads_of, is_head}

-- one more value, and a greater bound
pub above_more : {A : Type 0} (f : A → ℕ) (xs : List A) (i : ℕ) (x d : A) (old new : ℕ) → list_all (λ (a : A). nat_lt (f a) old) (take i xs) ≡ true → i < length xs → get_or xs i d ≡ x → old ≤ new → f x < new → list_all (λ (a : A). nat_lt (f a) new) (take (suc i) xs) ≡ true
above_more f [] i x d old new h within is more below = absurd (omega (arith, within))
above_more f (y ∷ xs) zero x d old new h within is more below = and_from (nat_lt (f y) new) true (lt-ltb (f y) new (subst (λ z. f z < new) (sym is) below)) refl
above_more f (y ∷ xs) (suc i) x d old new h within is more below =
    let both = and_parts (nat_lt (f y) old) _ h in
    let here = ltb-true (f y) old both.0 in
    and_from (nat_lt (f y) new) _ (lt-ltb (f y) new (omega (arith, here, more))) (above_more f xs i x d old new both.1 (omega (arith, within)) is more below)

-- a bound that grows
pub above_grows : {A : Type 0} (f : A → ℕ) (xs : List A) (old new : ℕ) → list_all (λ (a : A). nat_lt (f a) old) xs ≡ true → old ≤ new → list_all (λ (a : A). nat_lt (f a) new) xs ≡ true
above_grows f [] old new h more = refl
above_grows f (y ∷ xs) old new h more =
    let both = and_parts (nat_lt (f y) old) _ h in
    let here = ltb-true (f y) old both.0 in
    and_from (nat_lt (f y) new) _ (lt-ltb (f y) new (omega (arith, here, more))) (above_grows f xs old new both.1 more)

-- one default value more at the end
pub get_default_more : {A : Type 0} (xs : List A) (v : ℕ) (d : A) → get_or (xs ++ (d ∷ [])) v d ≡ get_or xs v d
get_default_more [] zero d = refl
get_default_more [] (suc v) d = refl
get_default_more (x ∷ xs) zero d = refl
get_default_more (x ∷ xs) (suc v) d = get_default_more xs v d

-- one rule more of a list
pub ids_more : (rules : List NRule) (k first var : ℕ) (rule : NRule) → k < length rules → rule ≡ get_or rules k rule → ids_from first var (take (suc k) rules) ≡ (ids_from first var (take k rules) ++ id_at (first + k) var rule.head)
ids_more [] k first var rule within is = absurd (omega (arith, within))
ids_more (x ∷ xs) zero first var rule within is =
    append-nil (id_at first var x.head) ∙ (let same : first ≡ first + 0 = omega arith in λ i. id_at (same i) var (sym is i).head)
ids_more (x ∷ xs) (suc k) first var rule within is =
    let next : ((first + 1) + k) ≡ first + suc k = omega arith in
    ap (λ (ids : List ℕ). id_at first var x.head ++ ids) (ids_more xs k (first + 1) var rule (omega (arith, within)) is ∙ ap (λ (n : ℕ). ids_from (first + 1) var (take k xs) ++ id_at n var rule.head) next)
    ∙ sym (append_assoc (id_at first var x.head) (ids_from (first + 1) var (take k xs)) (id_at (first + suc k) var rule.head))

-- rules behind others
pub ids_append : (xs ys : List NRule) (first var : ℕ) → ids_from first var (xs ++ ys) ≡ (ids_from first var xs ++ ids_from (first + length xs) var ys)
ids_append [] ys first var = ap (λ (n : ℕ). ids_from n var ys) (omega arith)
ids_append (x ∷ xs) ys first var =
    let next : ((first + 1) + length xs) ≡ first + suc (length xs) = omega arith in
    ap (λ (ids : List ℕ). id_at first var x.head ++ ids) (ids_append xs ys (first + 1) var ∙ ap (λ (n : ℕ). ids_from (first + 1) var xs ++ ids_from n var ys) next)
    ∙ sym (append_assoc (id_at first var x.head) (ids_from (first + 1) var xs) (ids_from (first + suc (length xs)) var ys))

split : (b : Bool) (x : ℕ) (xs : List ℕ) → cond b (x ∷ xs) xs ≡ (cond b (x ∷ []) [] ++ xs)
split true x xs = refl
split false x xs = refl

-- the filter of all numbers is the numbering
numbers : (var : ℕ) (all xs : List NRule) (k : ℕ) → ((i : ℕ) → slice_get all (k + i) ≡ slice_get xs i) → filter (λ (id : ℕ). has_head var (slice_get all id)) (range_with_len k (length xs)) ≡ ids_from k var xs
numbers var all [] k same = refl
numbers var all (x ∷ xs) k same =
    let zero_more : k ≡ k + 0 = omega arith in
    let here : has_head var (slice_get all k) ≡ head_is var x.head = ap (λ (n : ℕ). has_head var (slice_get all n)) zero_more ∙ ap (has_head var) (same 0) in
    let rest = numbers var all xs (k + 1) (λ i. (let next : ((k + 1) + i) ≡ k + suc i = omega arith in ap (slice_get all) next) ∙ same (suc i)) in
    (λ i. cond (here i) (k ∷ rest i) (rest i)) ∙ split (head_is var x.head) k (ids_from (k + 1) var xs)

rules_with-ids : (rules : List NRule) (var : ℕ) → rules_with rules var ≡ ids_from 0 var rules
rules_with-ids rules var = numbers var rules rules 0 (λ i. ap (slice_get rules) (omega arith))

pub rows_more : (rules more : List NRule) (var : ℕ) (old new : List ℕ) → old ≡ rules_with rules var → new ≡ old ++ ids_from (length rules) var more → new ≡ rules_with (rules ++ more) var
rows_more rules more var old new done is =
    is ∙ ap (λ (ids : List ℕ). ids ++ ids_from (length rules) var more) (done ∙ rules_with-ids rules var)
    ∙ ap (λ (n : ℕ). ids_from 0 var rules ++ ids_from n var more) (omega arith)
    ∙ sym (ids_append rules more 0 var) ∙ sym (rules_with-ids (rules ++ more) var)

or_false : (b : Bool) → (b || false) ≡ b
or_false true = refl
or_false false = refl

or_assoc : (a b c : Bool) → (a || (b || c)) ≡ ((a || b) || c)
or_assoc true b c = refl
or_assoc false b c = refl

any_more : (modules : List ModuleParts) (parts : ModuleParts) (var : ℕ) → is_head (modules ++ (parts ∷ [])) var ≡ (is_head modules var || heads_of var parts)
any_more [] parts var = or_false (heads_of var parts)
any_more (m ∷ modules) parts var = ap (λ (b : Bool). heads_of var m || b) (any_more modules parts var) ∙ or_assoc (heads_of var m) (is_head modules var) (heads_of var parts)

pub marks_more : (modules : List ModuleParts) (parts : ModuleParts) (var : ℕ) (old atoms nodes new : Bool) → old ≡ is_head modules var → (atoms || nodes) ≡ heads_of var parts → new ≡ ((old || atoms) || nodes) → new ≡ is_head (modules ++ (parts ∷ [])) var
marks_more modules parts var old atoms nodes new done has is =
    is ∙ sym (or_assoc old atoms nodes) ∙ (λ i. done i || has i) ∙ sym (any_more modules parts var)
