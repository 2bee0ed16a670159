-- The places of rows, when a row is put at the end.
use Rattle.std.proofs.Common.{◌≡◌, ℕ, ◌+◌, Bool, true, false, List, [], ◌∷◌, ◌++◌, map, filter, length, refl, sym, ap, ◌∙◌, if◌then◌else◌, arith}
use Rattle.std.specs.List.{enumerate_from}
use Rattle.std.proofs.lemmas.List.{map-append}
use Rattle.std.proofs.lemmas.List.Elements.{filter-append}
use Rattle.tel_term.specs.declared.terms.Value.{Value}
use Rattle.fact_table.specs.declared.columns.Cell.{Cell}
use Rattle.fact_table.specs.declared.columns.Columns.{Columns}
use Rattle.fact_table.specs.Rows.{has_at, has_row, with_row, places_with}
use Rattle.fact_table.specs.Columns.{places, AreListed, Keeps, if_in}
use Rattle.fact_table.specs.Held.{IsHeld}

enumerate-push : {X : Type 0} (n : ℕ) (xs : List X) (x : X) → enumerate_from n (xs ++ x ∷ []) ≡ enumerate_from n xs ++ (n + length xs, x) ∷ []
enumerate-push {X} n [] x = let same : n ≡ n + 0 = omega arith in ap (λ (m : ℕ). (m, x) ∷ []) same
enumerate-push {X} n (y ∷ ys) x =
    let same : (n + 1) + length ys ≡ n + length (y ∷ ys) = omega arith in
    ap (λ (more : List (ℕ × X)). (n, y) ∷ more) (enumerate-push (n + 1) ys x ∙ ap (λ (m : ℕ). enumerate_from (n + 1) ys ++ (m, x) ∷ []) same)

one_kept : (p : ℕ × List Value → Bool) (e : ℕ × List Value) → map (λ (r : ℕ × List Value). r.0) (filter p (e ∷ [])) ≡ (if p e then e.0 ∷ [] else [])
one_kept p e = by (p e) refl
  where
    by : (b : Bool) → p e ≡ b → map (λ (r : ℕ × List Value). r.0) (filter p (e ∷ [])) ≡ (if p e then e.0 ∷ [] else [])
    by true is = ap (λ (b : Bool). map (λ (r : ℕ × List Value). r.0) (if b then e ∷ [] else [])) is ∙ sym (ap (λ (b : Bool). if b then e.0 ∷ [] else []) is)
    by false is = ap (λ (b : Bool). map (λ (r : ℕ × List Value). r.0) (if b then e ∷ [] else [])) is ∙ sym (ap (λ (b : Bool). if b then e.0 ∷ [] else []) is)

pub places_with-push : (rows : List (List Value)) (row : List Value) (cell : Cell)
    → places_with (rows ++ row ∷ []) cell.column cell.value ≡ places_with rows cell.column cell.value ++ if_in row cell (length rows)
places_with-push rows row cell =
    let fst : ℕ × List Value → ℕ = λ r. r.0 in
    let p : ℕ × List Value → Bool = λ r. has_at r.1 cell.column cell.value in
    let all = enumerate_from 0 rows in
    let same : 0 + length rows ≡ length rows = omega arith in
    ap (λ (l : List (ℕ × List Value)). map fst (filter p l)) (enumerate-push 0 rows row)
    ∙ ap (map fst) (filter-append p all ((0 + length rows, row) ∷ []))
    ∙ map-append fst (filter p all) (filter p ((0 + length rows, row) ∷ []))
    ∙ ap (λ (l : List ℕ). map fst (filter p all) ++ l) (one_kept p (0 + length rows, row))
    ∙ ap (λ (n : ℕ). map fst (filter p all) ++ if_in row cell n) same

-- a table with a new row at the end
pub held_more : (rows new : List (List Value)) (row : List Value) (old mid now : Columns) (place : ℕ) → IsHeld rows old → Keeps old mid → AreListed now
    → ((cell : Cell) → places now cell ≡ places mid cell ++ if_in row cell place) → place ≡ length rows → has_row rows row ≡ false → new ≡ with_row rows row → IsHeld new now
held_more rows new row old mid now place held keeps listed put is none grown = record {
  listed = listed;
  places_are = λ cell.
      put cell ∙ (λ i. (keeps.places_stay cell ∙ held.places_are cell) i ++ if_in row cell (is i)) ∙ sym (places_with-push rows row cell)
      ∙ ap (λ (l : List (List Value)). places_with l cell.column cell.value) (sym (grown ∙ ap (λ (b : Bool). if b then rows else rows ++ row ∷ []) none));
}

-- a table whose room alone grew
pub held_on : (rows : List (List Value)) (old mid : Columns) → IsHeld rows old → Keeps old mid → IsHeld rows mid
held_on rows old mid held keeps = record { listed = keeps.listed; places_are = λ cell. keeps.places_stay cell ∙ held.places_are cell }
