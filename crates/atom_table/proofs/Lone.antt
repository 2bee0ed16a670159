-- Tests that one element of a list at most passes.
use Rattle.std.proofs.Common.{◌≡◌, ℕ, zero, suc, ◌+◌, ◌<◌, Bool, true, false, cond, ◌||◌, List, [], ◌∷◌, filter, length, get_or, refl, sym, ap, ◌∙◌, true≢false, inl, inr, arith, Option, Some, None, is_some, nat_lt, position}
use Rattle.std.specs.List.{list_any, range_with_len, position_or_len}
use Rattle.std.specs.Option.{option_to_list, option_map}
use Rattle.std.proofs.lemmas.Bool.{or_parts, or_left, or_right, cases_Bool, false_from_ne_true, ltb-true, lt-ltb}
use Rattle.atom_table.proofs.Places.{some_place, step_here, step_on}

module _ {X : Type 0} (p : X → Bool) where
  abbrev pub OnlyOne : List X → Type 0
  OnlyOne [] = Unit {0}
  OnlyOne (x ∷ xs) = (p x ≡ true → list_any p xs ≡ false) × OnlyOne xs

  position_here : (x : X) (xs : List X) → p x ≡ true → position p (x ∷ xs) ≡ Some 0
  position_here x xs is =
      let place = step_here (p x) (position_or_len p xs) is in
      let inside : nat_lt 0 (length (x ∷ xs)) ≡ true = lt-ltb 0 (length (x ∷ xs)) (omega arith) in
      ap (λ (n : ℕ). cond (nat_lt n (length (x ∷ xs))) (Some n) None) place ∙ ap (λ (b : Bool). cond b (Some 0) None) inside

  position_on : (x : X) (xs : List X) → p x ≡ false → position p (x ∷ xs) ≡ option_map (λ (n : ℕ). suc n) (position p xs)
  position_on x xs isnt =
      let place = step_on (p x) (position_or_len p xs) isnt in
      let less : nat_lt (suc (position_or_len p xs)) (suc (length xs)) ≡ nat_lt (position_or_len p xs) (length xs) = both_up (position_or_len p xs) (length xs) in
      ap (λ (n : ℕ). cond (nat_lt n (length (x ∷ xs))) (Some n) None) place ∙ ap (λ (b : Bool). cond b (Some (suc (position_or_len p xs))) None) less
      ∙ through (nat_lt (position_or_len p xs) (length xs)) (position_or_len p xs)
    where
      both_up : (m n : ℕ) → nat_lt (suc m) (suc n) ≡ nat_lt m n
      both_up m n = elim (cases_Bool (nat_lt m n)) [
        | inl is ↦ let less = ltb-true m n is in lt-ltb (suc m) (suc n) (omega (arith, less)) ∙ sym is
        | inr isnt ↦ false_from_ne_true (nat_lt (suc m) (suc n)) (λ is. let less = ltb-true (suc m) (suc n) is in true≢false (sym (lt-ltb m n (omega (arith, less))) ∙ isnt)) ∙ sym isnt
      ]

      through : (b : Bool) (n : ℕ) → cond b (Some (suc n)) None ≡ option_map (λ (m : ℕ). suc m) (cond b (Some n) None)
      through true n = refl
      through false n = refl

  -- a test of numbers that agrees with it
  module _ (q : ℕ → Bool) (d : X) where
    abbrev Agrees : ℕ → List X → Type 0
    Agrees start xs = (k : ℕ) → k < length xs → q (start + k) ≡ p (get_or xs k d)

    agrees_on : (start : ℕ) (x : X) (xs : List X) → Agrees start (x ∷ xs) → Agrees (start + 1) xs
    agrees_on start x xs agree k inside = ap q (further start k) ∙ agree (suc k) (omega (arith, inside))
      where
        further : (s k : ℕ) → (s + 1) + k ≡ s + suc k
        further s k = omega arith

    agrees_here : (start : ℕ) (x : X) (xs : List X) → Agrees start (x ∷ xs) → q start ≡ p x
    agrees_here start x xs agree = let same : start ≡ start + 0 = omega arith in ap q same ∙ agree 0 (omega arith)

    filter_none : (start : ℕ) (xs : List X) → Agrees start xs → list_any p xs ≡ false → filter q (range_with_len start (length xs)) ≡ []
    filter_none start [] agree none = refl
    filter_none start (x ∷ xs) agree none =
        let parts = or_parts (p x) (list_any p xs) none in
        let rest = range_with_len (start + 1) (length xs) in
        ap (λ (b : Bool). cond b (start ∷ filter q rest) (filter q rest)) (agrees_here start x xs agree ∙ parts.0) ∙ filter_none (start + 1) xs (agrees_on start x xs agree) parts.1

    pub filter_one : (start : ℕ) (xs : List X) → Agrees start xs → OnlyOne xs → filter q (range_with_len start (length xs)) ≡ option_to_list (option_map (λ (n : ℕ). start + n) (position p xs))
    filter_one start [] agree one = refl
    filter_one start (x ∷ xs) agree one =
        let rest = range_with_len (start + 1) (length xs) in
        let here = agrees_here start x xs agree in
        elim (cases_Bool (p x)) [
          | inl is ↦
              let same : start ≡ start + 0 = omega arith in
              ap (λ (b : Bool). cond b (start ∷ filter q rest) (filter q rest)) (here ∙ is)
              ∙ (λ i. same i ∷ filter_none (start + 1) xs (agrees_on start x xs agree) (one.0 is) i)
              ∙ sym (ap (λ (place : Option ℕ). option_to_list (option_map (λ (n : ℕ). start + n) place)) (position_here x xs is))
          | inr isnt ↦
              ap (λ (b : Bool). cond b (start ∷ filter q rest) (filter q rest)) (here ∙ isnt)
              ∙ filter_one (start + 1) xs (agrees_on start x xs agree) one.1
              ∙ moved start (position p xs)
              ∙ sym (ap (λ (place : Option ℕ). option_to_list (option_map (λ (n : ℕ). start + n) place)) (position_on x xs isnt))
        ]
      where
        further : (s k : ℕ) → (s + 1) + k ≡ s + suc k
        further s k = omega arith

        moved : (s : ℕ) (place : Option ℕ) → option_to_list (option_map (λ (n : ℕ). (s + 1) + n) place) ≡ option_to_list (option_map (λ (n : ℕ). s + n) (option_map (λ (n : ℕ). suc n) place))
        moved s None = refl
        moved s (Some n) = ap (λ (m : ℕ). m ∷ []) (further s n)

  any_at : (xs : List X) (k : ℕ) (d : X) → k < length xs → p (get_or xs k d) ≡ true → list_any p xs ≡ true
  any_at [] k d inside is = absurd (omega (arith, inside))
  any_at (x ∷ xs) zero d inside is = or_left (p x) (list_any p xs) is
  any_at (x ∷ xs) (suc k) d inside is = or_right (p x) (list_any p xs) (any_at xs k d (omega (arith, inside)) is)

  -- where it passes is its place
  pub place_of_one : (xs : List X) (k : ℕ) (d : X) → OnlyOne xs → k < length xs → p (get_or xs k d) ≡ true → position p xs ≡ Some k
  place_of_one [] k d one inside is = absurd (omega (arith, inside))
  place_of_one (x ∷ xs) zero d one inside is = position_here x xs is
  place_of_one (x ∷ xs) (suc k) d one inside is =
      let there = any_at xs k d (omega (arith, inside)) is in
      let isnt : p x ≡ false = false_from_ne_true (p x) (λ here. true≢false (sym there ∙ one.0 here)) in
      position_on x xs isnt ∙ ap (option_map (λ (n : ℕ). suc n)) (place_of_one xs k d one.1 (omega (arith, inside)) is)

  passes_there : (xs : List X) (d : X) → position_or_len p xs < length xs → p (get_or xs (position_or_len p xs) d) ≡ true
  passes_there [] d inside = absurd (omega (arith, inside))
  passes_there (x ∷ xs) d inside = elim (cases_Bool (p x)) [
    | inl is ↦ ap (λ (n : ℕ). p (get_or (x ∷ xs) n d)) (step_here (p x) (position_or_len p xs) is) ∙ is
    | inr isnt ↦
        let on = step_on (p x) (position_or_len p xs) isnt in
        ap (λ (n : ℕ). p (get_or (x ∷ xs) n d)) on ∙ passes_there xs d (omega (arith, inside, on))
  ]

  -- it passes at its place
  pub stands_at : (xs : List X) (k : ℕ) (d : X) → position p xs ≡ Some k → (k < length xs) × (p (get_or xs k d) ≡ true)
  stands_at xs k d is =
      let at = some_place p xs k (sym is) in
      let place = at.0 in
      let inside = at.1 in
      (inside, ap (λ (n : ℕ). p (get_or xs n d)) place ∙ passes_there xs d (omega (arith, place, inside)))

  inside_of : (xs : List X) → list_any p xs ≡ true → position_or_len p xs < length xs
  inside_of [] some = absurd (true≢false (sym some))
  inside_of (x ∷ xs) some = elim (cases_Bool (p x)) [
    | inl is ↦ let here = step_here (p x) (position_or_len p xs) is in omega (arith, here)
    | inr isnt ↦
        let on = step_on (p x) (position_or_len p xs) isnt in
        let rest = inside_of xs (sym (ap (λ (b : Bool). b || list_any p xs) isnt) ∙ some) in
        omega (arith, on, rest)
  ]

  -- what passes somewhere has a place
  pub some_from : (xs : List X) → list_any p xs ≡ true → is_some (position p xs) ≡ true
  some_from xs some = ap (λ (b : Bool). is_some (cond b (Some (position_or_len p xs)) None)) (lt-ltb (position_or_len p xs) (length xs) (inside_of xs some))
