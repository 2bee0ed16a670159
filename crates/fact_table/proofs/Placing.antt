-- The places of cells, when room is made and when a place is put.
use Rattle.std.proofs.Common.{◌≡◌, ◌≢◌, ℕ, zero, suc, ◌+◌, ◌<◌, ◌≤◌, ◌⊎◌, Bool, true, false, ◌&&◌, List, [], ◌∷◌, ◌++◌, take, length, refl, sym, ap, subst, ◌∙◌, true≢false, inl, inr, if◌then◌else◌, ◌==◌, arith, Option, slice_set, slice_index_or}
use Rattle.std.proofs.lemmas.Bool.{cases_Bool, cases_order, false_from_ne_true, eq-eqb, eqb-true}
use Rattle.std.proofs.lemmas.List.{get_or-set_other, get_or-set_same, append-nil}
use Rattle.indexmap.specs.IndexSet.{insert_key}
use Rattle.tel_term.specs.declared.terms.Value.{Value}
use Rattle.tel_rule.specs.Atoms.{value_eq}
use Rattle.fact_table.specs.declared.columns.Cell.{Cell}
use Rattle.fact_table.specs.declared.columns.Columns.{Columns}
use Rattle.fact_table.specs.Lists.{lists_of, list_at, room_at}
use Rattle.fact_table.specs.Columns.{same_cell, number_of, places, AreListed, HasRoom, Keeps, with_place, if_in}
use Rattle.fact_table.specs.Rows.{is_value, has_at}
use Rattle.std.proofs.lemmas.Option.{slice_get_past}
use Rattle.std.proofs.lemmas.List.{length-take-le, take_more}
use Rattle.fact_table.proofs.ListSteps.{length-lists_of}
use Rattle.fact_table.proofs.Numbering.{Added, added, cell_one, one_number}

below_or : (m n : ℕ) → (m < n) ⊎ (n ≤ m)
below_or m n = elim (cases_order m n) [
  | inl same ↦ inr (omega (arith, same))
  | inr apart ↦ elim apart [ inl less ↦ inl less | inr more ↦ inr (omega (arith, more)) ]
]

-- ---- room

pub keeps_all : (columns : Columns) → AreListed columns → Keeps columns columns
keeps_all columns listed = record { listed = listed; places_stay = λ cell. refl; room_stays = λ cell room. room }

pub keeps_then : (old mid new : Columns) → Keeps old mid → Keeps mid new → Keeps old new
keeps_then old mid new first second = record {
  listed = second.listed;
  places_stay = λ cell. second.places_stay cell ∙ first.places_stay cell;
  room_stays = λ cell room. second.room_stays cell (first.room_stays cell room);
}

module _ (old new : Columns) (cell : Cell) (listed : AreListed old) (keys : new.cells.keys ≡ insert_key same_cell old.cells.keys cell) where
  step : Added old.cells.keys new.cells.keys cell
  step = subst (λ (cells : List Cell). Added old.cells.keys cells cell) (sym keys) (added old.cells.keys cell)

  module _ (lists : lists_of new.lists.items ≡ lists_of old.lists.items) (len : length new.lists.items ≡ length old.lists.items)
      (rooms : (other : ℕ) → room_at old.lists.items other ≤ room_at new.lists.items other) (more : length old.cells.keys < length old.lists.items) where
    same_at : (number : ℕ) → list_at (lists_of new.lists.items) number ≡ list_at (lists_of old.lists.items) number
    same_at number = ap (λ (all : List (List ℕ)). list_at all number) lists

    same_places : (other : Cell) → places new other ≡ places old other
    same_places other = elim (below_or (number_of old.cells.keys other) (length old.cells.keys)) [
      | inl inside ↦ same_at (number_of new.cells.keys other) ∙ ap (list_at (lists_of old.lists.items)) (step.kept other inside)
      | inr outside ↦
          same_at (number_of new.cells.keys other) ∙ listed.spare (number_of new.cells.keys other) (step.past other outside)
          ∙ sym (listed.spare (number_of old.cells.keys other) outside)
    ]

    same_room : (other : Cell) → HasRoom old other → HasRoom new other
    same_room other room =
        let same = step.kept other room.there in
        let longer = step.longer in
        let there = room.there in
        let some = room.room in
        let grows = rooms (number_of old.cells.keys other) in
        let here : room_at new.lists.items (number_of new.cells.keys other) ≡ room_at new.lists.items (number_of old.cells.keys other) = ap (room_at new.lists.items) same in
        record { there = omega (arith, same, longer, there); room = omega (arith, here, grows, some) }

    -- a cell that was added keeps all places, where its list is there already
    pub reserved : Keeps old new
    reserved =
        let short = step.short in
        let longer = step.longer in
        record {
          listed = record {
            listed = omega (arith, short, len, more);
            spare = λ number past. same_at number ∙ listed.spare number (omega (arith, past, longer));
          };
          places_stay = same_places;
          room_stays = same_room;
        }

  -- and it has room where its list has
  pub has_room : (number : ℕ) → number ≡ number_of old.cells.keys cell → 0 < room_at new.lists.items number → HasRoom new cell
  has_room number is room =
      let same : room_at new.lists.items (number_of new.cells.keys cell) ≡ room_at new.lists.items number = ap (room_at new.lists.items) (step.itself ∙ sym is) in
      record { there = step.there; room = omega (arith, same, room) }

-- ---- a place more

module _ (old new : Columns) (cell : Cell) (place number : ℕ) (listed : AreListed old) (is : number ≡ number_of old.cells.keys cell) (inside : number < length old.cells.keys)
    (keys : new.cells.keys ≡ old.cells.keys) where
  number_apart : (other : Cell) → same_cell cell other ≡ false → number_of old.cells.keys other ≢ number
  number_apart other apart same = true≢false (sym (one_number old.cells.keys cell other (sym is ∙ sym same) (omega (arith, same, inside))) ∙ apart)

  pub put_places : lists_of new.lists.items ≡ slice_set (lists_of old.lists.items) number (list_at (lists_of old.lists.items) number ++ place ∷ [])
      → (other : Cell) → places new other ≡ with_place cell place other (places old other)
  put_places lists other =
      let at : places new other ≡ list_at (slice_set (lists_of old.lists.items) number (list_at (lists_of old.lists.items) number ++ place ∷ [])) (number_of old.cells.keys other)
      = λ i. list_at (lists i) (number_of (keys i) other) in
      elim (cases_Bool (same_cell cell other)) [
        | inl same ↦
            let here : number_of old.cells.keys other ≡ number = ap (number_of old.cells.keys) (sym (cell_one cell other same)) ∙ sym is in
            let all = length-lists_of old.lists.items in
            let enough = listed.listed in
            at ∙ ap (list_at (slice_set (lists_of old.lists.items) number (list_at (lists_of old.lists.items) number ++ place ∷ []))) here
            ∙ get_or-set_same (lists_of old.lists.items) number (list_at (lists_of old.lists.items) number ++ place ∷ []) [] (omega (arith, all, enough, inside))
            ∙ ap (λ (n : ℕ). list_at (lists_of old.lists.items) n ++ place ∷ []) (sym here)
            ∙ sym (ap (λ (b : Bool). if b then places old other ++ place ∷ [] else places old other) same)
        | inr apart ↦
            at ∙ get_or-set_other (lists_of old.lists.items) number (number_of old.cells.keys other) (list_at (lists_of old.lists.items) number ++ place ∷ []) [] (number_apart other apart)
            ∙ sym (ap (λ (b : Bool). if b then places old other ++ place ∷ [] else places old other) apart)
      ]

  pub put_rooms : ((other : ℕ) → other ≢ number → room_at new.lists.items other ≡ room_at old.lists.items other)
      → (other : Cell) → same_cell cell other ≡ false → HasRoom old other → HasRoom new other
  put_rooms rooms other apart room =
      let there = room.there in
      let some = room.room in
      let same : room_at new.lists.items (number_of new.cells.keys other) ≡ room_at old.lists.items (number_of old.cells.keys other)
      = ap (λ (cells : List Cell). room_at new.lists.items (number_of cells other)) keys ∙ rooms (number_of old.cells.keys other) (number_apart other apart) in
      record { there = subst (λ (cells : List Cell). number_of cells other < length cells) (sym keys) there; room = omega (arith, same, some) }

  pub put_listed : length new.lists.items ≡ length old.lists.items
      → lists_of new.lists.items ≡ slice_set (lists_of old.lists.items) number (list_at (lists_of old.lists.items) number ++ place ∷ []) → AreListed new
  put_listed len lists =
      let enough = listed.listed in
      let count : length new.cells.keys ≡ length old.cells.keys = ap length keys in
      record {
        listed = omega (arith, enough, count, len);
        spare = λ n past.
            let apart : n ≢ number = λ same. omega (arith, same, past, inside, count) in
            ap (λ (all : List (List ℕ)). list_at all n) lists
            ∙ get_or-set_other (lists_of old.lists.items) number n (list_at (lists_of old.lists.items) number ++ place ∷ []) [] apart
            ∙ listed.spare n (omega (arith, past, count));
      }

-- ---- a row

less_apart : (m n : ℕ) → m < n → (m == n) ≡ false
less_apart m n less = false_from_ne_true (m == n) (λ is. let same = eqb-true m n is in omega (arith, same, less))

more_apart : (m n : ℕ) → n < m → (m == n) ≡ false
more_apart m n more = false_from_ne_true (m == n) (λ is. let same = eqb-true m n is in omega (arith, same, more))

-- cells of different columns differ
pub columns_apart : (a b : Cell) → a.column < b.column → same_cell a b ≡ false
columns_apart a b less = ap (λ (x : Bool). x && value_eq a.value b.value) (less_apart a.column b.column less)

suc_same : (m n : ℕ) → (suc m == suc n) ≡ (m == n)
suc_same m n = elim (cases_Bool (m == n)) [
  | inl is ↦ eq-eqb (suc m) (suc n) (ap suc (eqb-true m n is)) ∙ sym is
  | inr isnt ↦ false_from_ne_true (suc m == suc n) (λ h. true≢false (sym (eq-eqb m n (let e = eqb-true (suc m) (suc n) h in omega (arith, e))) ∙ isnt)) ∙ sym isnt
]

-- what a row has with one value more
has_at-push : (front : List Value) (last : Value) (column : ℕ) (value : Value)
    → has_at (front ++ last ∷ []) column value ≡ (if length front == column then value_eq last value else has_at front column value)
has_at-push [] last zero value = refl
has_at-push [] last (suc column) value = sym (ap (λ (b : Bool). if b then value_eq last value else false) (less_apart 0 (suc column) (omega arith)))
has_at-push (x ∷ front) last zero value = sym (ap (λ (b : Bool). if b then value_eq last value else value_eq x value) (more_apart (length (x ∷ front)) 0 (omega arith)))
has_at-push (x ∷ front) last (suc column) value =
    has_at-push front last column value
    ∙ ap (λ (b : Bool). if b then value_eq last value else has_at front column value) (sym (suc_same (length front) column))

none_past : (front : List Value) (column : ℕ) (value : Value) → (length front == column) ≡ true → has_at front column value ≡ false
none_past front column value is =
    let same = eqb-true (length front) column is in
    ap (λ (o : Option Value). is_value o value) (slice_get_past front column (omega (arith, same)))

put_by : (held : List ℕ) (place : ℕ) (here same before : Bool) → (here ≡ true → before ≡ false)
    → (if here && same then (held ++ (if before then place ∷ [] else [])) ++ place ∷ [] else held ++ (if before then place ∷ [] else []))
    ≡ held ++ (if (if here then same else before) then place ∷ [] else [])
put_by held place true true before none =
    ap (λ (b : Bool). (held ++ (if b then place ∷ [] else [])) ++ place ∷ []) (none refl) ∙ ap (λ (l : List ℕ). l ++ place ∷ []) (append-nil held)
put_by held place true false before none = ap (λ (b : Bool). held ++ (if b then place ∷ [] else [])) (none refl)
put_by held place false same before none = refl

-- the places after one value more of a row
pub put_more : (row : List Value) (column : ℕ) (none : Value) → column < length row → (other : Cell) (place : ℕ) (held : List ℕ)
    → with_place (record { column = column; value = slice_index_or row column none }) place other (held ++ if_in (take column row) other place)
    ≡ held ++ if_in (take (column + 1) row) other place
put_more row column none inside other place held =
    let front = take column row in
    let last = slice_index_or row column none in
    let len : length front ≡ column = length-take-le column row (omega (arith, inside)) in
    let grown : take (column + 1) row ≡ front ++ last ∷ [] = take_more row column none inside in
    ap (λ (n : ℕ). if (n == other.column) && value_eq last other.value then (held ++ if_in front other place) ++ place ∷ [] else held ++ if_in front other place) (sym len)
    ∙ put_by held place (length front == other.column) (value_eq last other.value) (has_at front other.column other.value) (none_past front other.column other.value)
    ∙ ap (λ (b : Bool). held ++ (if b then place ∷ [] else [])) (sym (has_at-push front last other.column other.value))
    ∙ ap (λ (r : List Value). held ++ if_in r other place) (sym grown)
