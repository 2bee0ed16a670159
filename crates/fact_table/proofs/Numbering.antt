-- The numbers of cells, when a cell is added.
use Rattle.std.proofs.Common.{◌≡◌, ℕ, ◌+◌, ◌<◌, ◌≤◌, Bool, true, false, not, cond, eqb, ◌||◌, List, [], ◌∷◌, ◌++◌, length, refl, sym, ap, subst, ◌∙◌, true≢false, inl, inr, if◌then◌else◌, ◌==◌, arith, length-append, Option, Some, None, is_some, nat_lt, position}
use Rattle.std.specs.List.{list_any, position_or_len}
use Rattle.std.proofs.lemmas.Bool.{and_parts, and_from, cases_Bool, eqb-true, eq-eqb, ltb-false}
use Rattle.std.specs.Prelude.{unwrap_or}
use Rattle.std.proofs.lemmas.List.Folds.{position_or_len_push}
use Rattle.indexmap.specs.IndexSet.{insert_key}
use Rattle.tel_term.specs.declared.terms.Value.{Value}
use Rattle.tel_term.specs.declared.terms.Value.TheVariants as values
use Rattle.tel_rule.specs.Atoms.{value_eq}
use Rattle.fact_table.specs.declared.columns.Cell.{Cell}
use Rattle.fact_table.specs.contracts.columns.CellPartialEq.TheImpl.{eq-value}
use Rattle.fact_table.specs.Equal.{value_one, value_itself}
use Rattle.fact_table.specs.Columns.{same_cell, number_of}

-- what `==` answers
derived_eq : (a b : Cell) → eq-value.it a b ≡ same_cell a b
derived_eq a b = by a.value b.value
  where
    by : (v w : Value) → eq-value.it (record { column = a.column; value = v }) (record { column = b.column; value = w }) ≡ same_cell (record { column = a.column; value = v }) (record { column = b.column; value = w })
    by (values.Num m) (values.Num n) = refl
    by (values.Num m) (values.Sym t) = refl
    by (values.Sym s) (values.Num n) = refl
    by (values.Sym s) (values.Sym t) = refl

pub derived : eq-value.it ≡ same_cell
derived = λ i a b. derived_eq a b i

pub cell_one : (a b : Cell) → same_cell a b ≡ true → a ≡ b
cell_one a b same =
    let both = and_parts (a.column == b.column) (value_eq a.value b.value) same in
    let column = eqb-true a.column b.column both.0 in
    let value = value_one a.value b.value both.1 in
    λ i. record { column = column i; value = value i }

pub cell_itself : (a : Cell) → same_cell a a ≡ true
cell_itself a = and_from (a.column == a.column) (value_eq a.value a.value) (eq-eqb a.column a.column refl) (value_itself a.value)

module _ {X : Type 0} (p : X → Bool) where
  -- an element that isn't there has the length as its place
  missing : (xs : List X) → list_any p xs ≡ false → position_or_len p xs ≡ length xs
  missing [] none = refl
  missing (x ∷ xs) none = by (missing xs) (p x) refl
    where
      by : (list_any p xs ≡ false → position_or_len p xs ≡ length xs) → (b : Bool) → p x ≡ b → cond (not (p x)) (1 + position_or_len p xs) 0 ≡ length (x ∷ xs)
      by more true is = absurd (true≢false (sym (ap (λ (b : Bool). b || list_any p xs) is) ∙ none))
      by more false is =
          let rest = more (sym (ap (λ (b : Bool). b || list_any p xs) is) ∙ none) in
          let now : cond (not (p x)) (1 + position_or_len p xs) 0 ≡ 1 + position_or_len p xs = ap (λ (b : Bool). cond (not b) (1 + position_or_len p xs) 0) is in
          omega (arith, rest, now)

  -- one that is there has a place
  present : (xs : List X) → list_any p xs ≡ true → position_or_len p xs < length xs
  present [] some = absurd (true≢false (sym some))
  present (x ∷ xs) some = by (present xs) (p x) refl
    where
      by : (list_any p xs ≡ true → position_or_len p xs < length xs) → (b : Bool) → p x ≡ b → cond (not (p x)) (1 + position_or_len p xs) 0 < length (x ∷ xs)
      by more true is =
          let now : cond (not (p x)) (1 + position_or_len p xs) 0 ≡ 0 = ap (λ (b : Bool). cond (not b) (1 + position_or_len p xs) 0) is in
          omega (arith, now)
      by more false is =
          let rest = more (sym (ap (λ (b : Bool). b || list_any p xs) is) ∙ some) in
          let now : cond (not (p x)) (1 + position_or_len p xs) 0 ≡ 1 + position_or_len p xs = ap (λ (b : Bool). cond (not b) (1 + position_or_len p xs) 0) is in
          omega (arith, rest, now)

  -- one more at the end changes no place before the end
  before_end : (xs : List X) (y : X) → position_or_len p xs < length xs → position_or_len p (xs ++ y ∷ []) ≡ position_or_len p xs
  before_end xs y inside = position_or_len_push p xs y ∙ ap (λ (b : Bool). cond b (length xs + cond (p y) 0 1) (position_or_len p xs)) (not_same (position_or_len p xs) (length xs) inside)
    where
      not_same : (m n : ℕ) → m < n → eqb m n ≡ false
      not_same m n less = elim (cases_Bool (eqb m n)) [
        | inl is ↦ let same = eqb-true m n is in absurd (omega (arith, same, less))
        | inr isnt ↦ isnt
      ]

  at_end : (xs : List X) (y : X) → position_or_len p xs ≡ length xs → position_or_len p (xs ++ y ∷ []) ≡ length xs + cond (p y) 0 1
  at_end xs y is = position_or_len_push p xs y ∙ ap (λ (b : Bool). cond b (length xs + cond (p y) 0 1) (position_or_len p xs)) (eq-eqb (position_or_len p xs) (length xs) is)

-- how the numbers of cells are after one was added
pub record Added (old new : List Cell) (cell : Cell) : Type 0 where
  pub itself : number_of new cell ≡ number_of old cell
  pub there : number_of new cell < length new
  pub most : number_of old cell ≤ length old
  pub longer : length old ≤ length new
  pub short : length new ≤ length old + 1
  pub kept : (other : Cell) → number_of old other < length old → number_of new other ≡ number_of old other
  pub past : (other : Cell) → length old ≤ number_of old other → length old ≤ number_of new other

most_of : (cells : List Cell) (cell : Cell) → number_of cells cell ≤ length cells
most_of cells cell = elim (cases_Bool (list_any (same_cell cell) cells)) [
  | inl some ↦ let less = present (same_cell cell) cells some in omega (arith, less)
  | inr none ↦ let same = missing (same_cell cell) cells none in omega (arith, same)
]

pub added : (old : List Cell) (cell : Cell) → Added old (insert_key same_cell old cell) cell
added old cell = by (list_any (same_cell cell) old) refl
  where
    by : (b : Bool) → list_any (same_cell cell) old ≡ b → Added old (if b then old else old ++ cell ∷ []) cell
    by true some = record {
      itself = refl;
      there = present (same_cell cell) old some;
      most = most_of old cell;
      longer = omega arith;
      short = omega arith;
      kept = λ other inside. refl;
      past = λ other outside. outside;
    }
    by false none =
        let end = missing (same_cell cell) old none in
        let grown : length (old ++ cell ∷ []) ≡ length old + 1 = length-append old (cell ∷ []) in
        let same = at_end (same_cell cell) old cell end ∙ ap (λ (b : Bool). length old + cond b 0 1) (cell_itself cell) in
        record {
          itself = omega (arith, same, end);
          there = omega (arith, same, grown);
          most = omega (arith, end);
          longer = omega (arith, grown);
          short = omega (arith, grown);
          kept = λ other inside. before_end (same_cell other) old cell inside;
          past = λ other outside.
              let most = most_of old other in
              let at : number_of old other ≡ length old = omega (arith, most, outside) in
              let new = at_end (same_cell other) old cell at in
              omega (arith, new);
        }

-- cells with one number are one
pub one_number : (cells : List Cell) (a b : Cell) → number_of cells a ≡ number_of cells b → number_of cells b < length cells → same_cell a b ≡ true
one_number [] a b same inside = absurd (omega (arith, inside))
one_number (cell ∷ cells) a b same inside = by (one_number cells a b) (same_cell a cell) (same_cell b cell) refl refl
  where
    by : (number_of cells a ≡ number_of cells b → number_of cells b < length cells → same_cell a b ≡ true) → (x y : Bool) → same_cell a cell ≡ x → same_cell b cell ≡ y → same_cell a b ≡ true
    by more true true isa isb = subst (λ (c : Cell). same_cell a c ≡ true) (sym (cell_one b cell isb)) isa
    by more true false isa isb =
        let na : number_of (cell ∷ cells) a ≡ 0 = ap (λ (x : Bool). cond (not x) (1 + number_of cells a) 0) isa in
        let nb : number_of (cell ∷ cells) b ≡ 1 + number_of cells b = ap (λ (x : Bool). cond (not x) (1 + number_of cells b) 0) isb in
        absurd (omega (arith, na, nb, same))
    by more false true isa isb =
        let na : number_of (cell ∷ cells) a ≡ 1 + number_of cells a = ap (λ (x : Bool). cond (not x) (1 + number_of cells a) 0) isa in
        let nb : number_of (cell ∷ cells) b ≡ 0 = ap (λ (x : Bool). cond (not x) (1 + number_of cells b) 0) isb in
        absurd (omega (arith, na, nb, same))
    by more false false isa isb =
        let na : number_of (cell ∷ cells) a ≡ 1 + number_of cells a = ap (λ (x : Bool). cond (not x) (1 + number_of cells a) 0) isa in
        let nb : number_of (cell ∷ cells) b ≡ 1 + number_of cells b = ap (λ (x : Bool). cond (not x) (1 + number_of cells b) 0) isb in
        more (omega (arith, na, nb, same)) (omega (arith, nb, inside))

module _ {X : Type 0} (p : X → Bool) where
  pub some_place : (xs : List X) (n : ℕ) → Some n ≡ position p xs → n ≡ position_or_len p xs
  some_place xs n is = elim (cases_Bool (nat_lt (position_or_len p xs) (length xs))) [
    | inl less ↦ ap (λ (o : Option ℕ). unwrap_or o 0) (is ∙ ap (λ (b : Bool). cond b (Some (position_or_len p xs)) None) less)
    | inr most ↦ absurd (true≢false (ap is_some (is ∙ ap (λ (b : Bool). cond b (Some (position_or_len p xs)) None) most)))
  ]

  pub no_place : (xs : List X) → None ≡ position p xs → length xs ≤ position_or_len p xs
  no_place xs is = elim (cases_Bool (nat_lt (position_or_len p xs) (length xs))) [
    | inl less ↦ absurd (true≢false (sym (ap is_some (is ∙ ap (λ (b : Bool). cond b (Some (position_or_len p xs)) None) less))))
    | inr most ↦ ltb-false (position_or_len p xs) (length xs) most
  ]
