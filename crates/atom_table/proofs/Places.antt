-- The places of names among names that are all different.
use Rattle.std.proofs.Common.{◌≡◌, ℕ, zero, suc, ◌+◌, ◌<◌, ◌≤◌, Bool, true, false, not, cond, ◌||◌, ◌==◌, List, [], ◌∷◌, ◌++◌, length, get_or, refl, sym, ap, ◌∙◌, true≢false, inl, inr, Option, Some, None, is_some, nat_lt, position, unwrap_or, arith}
use Rattle.std.specs.List.{list_any, position_or_len, IsDistinct, AllByRecursion}
use Rattle.std.specs.Str.{bytes_eq}
use Rattle.std.proofs.lemmas.Bool.{cases_Bool, false_from_ne_true, eqb-true, eq-eqb, or_parts, ltb-true, ltb-false}
use Rattle.std.proofs.lemmas.Map.Keys.{IsDistinct-head, IsDistinct-tail}
use Rattle.std.proofs.lemmas.Slice.Eq.{bytes_eq-Decides}
use Rattle.atom_table.specs.Keys.{name_place}

pub bytes_itself : (a : List ℕ) → bytes_eq a a ≡ true
bytes_itself a = (bytes_eq-Decides a a).1 refl

bytes_apart : (a b : List ℕ) → bytes_eq a b ≡ false → bytes_eq b a ≡ false
bytes_apart a b apart =
    false_from_ne_true (bytes_eq b a) (λ same. true≢false (sym ((bytes_eq-Decides a b).1 (sym ((bytes_eq-Decides b a).0 same))) ∙ apart))

-- what stands within a list doesn't hang on what is read past its end
pub default_same : {X : Type 0} (xs : List X) (i : ℕ) → i < length xs → (d e : X) → get_or xs i d ≡ get_or xs i e
default_same [] i inside d e = absurd (omega (arith, inside))
default_same (x ∷ xs) zero inside d e = refl
default_same (x ∷ xs) (suc i) inside d e = default_same xs i (omega (arith, inside)) d e

-- ---- all different

each_at : {X : Type 0} (p : X → Bool) (xs : List X) (i : ℕ) (d : X) → AllByRecursion (λ x. p x ≡ false) xs → i < length xs → p (get_or xs i d) ≡ false
each_at p [] i d each inside = absurd (omega (arith, inside))
each_at p (x ∷ xs) zero d each inside = each.0
each_at p (x ∷ xs) (suc i) d each inside = each_at p xs i d each.1 (omega (arith, inside))

-- one name stands at one place
pub one_place : (names : List (List ℕ)) (i j : ℕ) → IsDistinct bytes_eq names → i < length names → j < length names → get_or names i [] ≡ get_or names j [] → i ≡ j
one_place [] i j distinct in_i in_j same = absurd (omega (arith, in_i))
one_place (x ∷ names) zero zero distinct in_i in_j same = refl
one_place (x ∷ names) zero (suc j) distinct in_i in_j same =
    let apart = each_at (bytes_eq x) names j [] (IsDistinct-head bytes_eq x names distinct) (omega (arith, in_j)) in
    absurd (true≢false (sym ((bytes_eq-Decides x (get_or names j [])).1 same) ∙ apart))
one_place (x ∷ names) (suc i) zero distinct in_i in_j same =
    let apart = each_at (bytes_eq x) names i [] (IsDistinct-head bytes_eq x names distinct) (omega (arith, in_i)) in
    absurd (true≢false (sym ((bytes_eq-Decides x (get_or names i [])).1 (sym same)) ∙ apart))
one_place (x ∷ names) (suc i) (suc j) distinct in_i in_j same =
    ap suc (one_place names i j (IsDistinct-tail bytes_eq x names distinct) (omega (arith, in_i)) (omega (arith, in_j)) same)

-- so names at two places are the same where the places are
pub same_names : (names : List (List ℕ)) (i j : ℕ) → IsDistinct bytes_eq names → i < length names → j < length names → (i == j) ≡ bytes_eq (get_or names i []) (get_or names j [])
same_names names i j distinct in_i in_j = elim (cases_Bool (i == j)) [
  | inl is ↦
      let at = eqb-true i j is in
      is ∙ sym ((bytes_eq-Decides (get_or names i []) (get_or names j [])).1 (ap (λ (k : ℕ). get_or names k []) at))
  | inr isnt ↦
      isnt
      ∙ sym (false_from_ne_true (bytes_eq (get_or names i []) (get_or names j []))
      (λ same. true≢false (sym (eq-eqb i j (one_place names i j distinct in_i in_j ((bytes_eq-Decides (get_or names i []) (get_or names j [])).0 same))) ∙ isnt)))
]

each_push : {X : Type 0} (p : X → Bool) (xs : List X) (y : X) → AllByRecursion (λ x. p x ≡ false) xs → p y ≡ false → AllByRecursion (λ x. p x ≡ false) (xs ++ y ∷ [])
each_push p [] y each last = (last, tt)
each_push p (x ∷ xs) y each last = (each.0, each_push p xs y each.1 last)

pub distinct_push : (names : List (List ℕ)) (name : List ℕ) → IsDistinct bytes_eq names → list_any (bytes_eq name) names ≡ false → IsDistinct bytes_eq (names ++ name ∷ [])
unfolding IsDistinct
distinct_push [] name distinct new = (tt, tt)
distinct_push (x ∷ names) name distinct new =
    let parts = or_parts (bytes_eq name x) (list_any (bytes_eq name) names) new in
    (each_push (bytes_eq x) names name distinct.0 (bytes_apart name x parts.0), distinct_push names name distinct.1 parts.1)

-- ---- places

pub step_here : (b : Bool) (n : ℕ) → b ≡ true → cond (not b) (1 + n) 0 ≡ 0
step_here b n is = ap (λ (c : Bool). cond (not c) (1 + n) 0) is

pub step_on : (b : Bool) (n : ℕ) → b ≡ false → cond (not b) (1 + n) 0 ≡ suc n
step_on b n is = let on : cond (not b) (1 + n) 0 ≡ 1 + n = ap (λ (c : Bool). cond (not c) (1 + n) 0) is in omega (arith, on)

-- a name that isn't there has the count as its place
pub missing : (names : List (List ℕ)) (name : List ℕ) → list_any (bytes_eq name) names ≡ false → name_place names name ≡ length names
missing [] name none = refl
missing (x ∷ names) name none =
    let parts = or_parts (bytes_eq name x) (list_any (bytes_eq name) names) none in
    let rest = missing names name parts.1 in
    let now = step_on (bytes_eq name x) (name_place names name) parts.0 in
    omega (arith, rest, now)

-- one that is there stands at its place
pub present : (names : List (List ℕ)) (name : List ℕ) → list_any (bytes_eq name) names ≡ true → (name_place names name < length names) × (get_or names (name_place names name) [] ≡ name)
present [] name some = absurd (true≢false (sym some))
present (x ∷ names) name some = elim (cases_Bool (bytes_eq name x)) [
  | inl is ↦
      let now = step_here (bytes_eq name x) (name_place names name) is in
      (omega (arith, now), ap (λ (n : ℕ). get_or (x ∷ names) n []) now ∙ sym ((bytes_eq-Decides name x).0 is))
  | inr isnt ↦
      let rest = present names name (sym (ap (λ (b : Bool). b || list_any (bytes_eq name) names) isnt) ∙ some) in
      let now = step_on (bytes_eq name x) (name_place names name) isnt in
      let less = rest.0 in
      (omega (arith, now, less), ap (λ (n : ℕ). get_or (x ∷ names) n []) now ∙ rest.1)
]

-- a name at a place below the count is there
pub found : (names : List (List ℕ)) (name : List ℕ) → name_place names name < length names → list_any (bytes_eq name) names ≡ true
found names name less = elim (cases_Bool (list_any (bytes_eq name) names)) [
  | inl some ↦ some
  | inr none ↦ let end = missing names name none in absurd (omega (arith, end, less))
]

pub other_name : (names : List (List ℕ)) (name : List ℕ) (n : ℕ) → list_any (bytes_eq name) names ≡ false → n < length names → bytes_eq name (get_or names n []) ≡ false
other_name [] name n none inside = absurd (omega (arith, inside))
other_name (x ∷ names) name zero none inside = (or_parts (bytes_eq name x) (list_any (bytes_eq name) names) none).0
other_name (x ∷ names) name (suc n) none inside = other_name names name n (or_parts (bytes_eq name x) (list_any (bytes_eq name) names) none).1 (omega (arith, inside))

-- what passes nowhere has no place
pub nowhere : {X : Type 0} (p : X → Bool) (xs : List X) → list_any p xs ≡ false → position p xs ≡ None
nowhere {X} p xs none =
    let end = at_end xs none in
    let past : nat_lt (position_or_len p xs) (length xs) ≡ false = false_from_ne_true (nat_lt (position_or_len p xs) (length xs)) (λ less. let inside = ltb-true (position_or_len p xs) (length xs) less in omega (arith, inside, end)) in
    ap (λ (b : Bool). cond b (Some (position_or_len p xs)) None) past
  where
    at_end : (xs : List X) → list_any p xs ≡ false → position_or_len p xs ≡ length xs
    at_end [] none = refl
    at_end (x ∷ xs) none =
        let parts = or_parts (p x) (list_any p xs) none in
        let rest = at_end xs parts.1 in
        let now = step_on (p x) (position_or_len p xs) parts.0 in
        omega (arith, rest, now)

module _ {X : Type 0} (p : X → Bool) (xs : List X) where
  pub some_place : (n : ℕ) → Some n ≡ position p xs → (n ≡ position_or_len p xs) × (n < length xs)
  some_place n is = elim (cases_Bool (nat_lt (position_or_len p xs) (length xs))) [
    | inl less ↦
        let at = ap (λ (o : Option ℕ). unwrap_or o 0) (is ∙ ap (λ (b : Bool). cond b (Some (position_or_len p xs)) None) less) in
        let inside = ltb-true (position_or_len p xs) (length xs) less in
        (at, omega (arith, at, inside))
    | inr most ↦ absurd (true≢false (ap is_some (is ∙ ap (λ (b : Bool). cond b (Some (position_or_len p xs)) None) most)))
  ]

  pub no_place : None ≡ position p xs → length xs ≤ position_or_len p xs
  no_place is = elim (cases_Bool (nat_lt (position_or_len p xs) (length xs))) [
    | inl less ↦ absurd (true≢false (sym (ap is_some (is ∙ ap (λ (b : Bool). cond b (Some (position_or_len p xs)) None) less))))
    | inr most ↦ ltb-false (position_or_len p xs) (length xs) most
  ]
