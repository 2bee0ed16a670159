-- The held clauses with their lengths.
use Rattle.std.proofs.Common.{◌≡◌, ℕ, suc, ◌+◌, List, [], ◌∷◌, ◌++◌, ◌<◌, length, drop, get_or, refl, sym, ap, ◌∙◌, arith}
use Rattle.std.proofs.Math.Seq.{drop-cons}
use Rattle.std.proofs.lemmas.List.{length-append}
use Rattle.clause_store.specs.declared.store.ClauseKind.TheVariants as kinds
use Rattle.clause_store.specs.Held.{Held, clauses_in}
use Rattle.clause_store.specs.Closure.{Clause}
use Rattle.search_laws.specs.Origins.{Kept, lits_of}
use Rattle.cdcl_search.specs.Searches.{kept_of, held_of_module, lengths_of_module, kept_of_module}

-- the clauses are those of the store
pub kept_clauses : (held : List Held) (lengths : List ℕ) → lits_of (kept_of held lengths) ≡ clauses_in held
kept_clauses [] lengths = refl
kept_clauses (clause ∷ more) [] = ap (λ (rest : List Clause). clause.lits ∷ rest) (kept_clauses more [])
kept_clauses (clause ∷ more) (n ∷ lengths) = ap (λ (rest : List Clause). clause.lits ∷ rest) (kept_clauses more lengths)

pub kept_count : (held : List Held) (lengths : List ℕ) → length (kept_of held lengths) ≡ length held
kept_count [] lengths = refl
kept_count (clause ∷ more) [] = ap suc (kept_count more [])
kept_count (clause ∷ more) (n ∷ lengths) = ap suc (kept_count more lengths)

-- one clause more
pub kept_one : (held : List Held) (lengths : List ℕ) (clause : Held) (n : ℕ) → length lengths ≡ length held → kept_of (held ++ clause ∷ []) (lengths ++ n ∷ []) ≡ kept_of held lengths ++ record { kind = clause.kind; length = n; lits = clause.lits } ∷ []
kept_one [] [] clause n same = refl
kept_one [] (m ∷ lengths) clause n same = absurd (omega (arith, same))
kept_one (first ∷ held) [] clause n same = absurd (omega (arith, same))
kept_one (first ∷ held) (m ∷ lengths) clause n same = ap (λ (rest : List Kept). record { kind = first.kind; length = m; lits = first.lits } ∷ rest) (kept_one held lengths clause n (omega (arith, same)))

-- those of a module more
pub kept_module : (held : List Held) (lengths : List ℕ) (clauses : List Clause) (n : ℕ) → length lengths ≡ length held → kept_of (held ++ held_of_module clauses) (lengths ++ lengths_of_module n clauses) ≡ kept_of held lengths ++ kept_of_module n clauses
kept_module [] [] [] n same = refl
kept_module [] [] (clause ∷ more) n same = ap (λ (rest : List Kept). record { kind = kinds.Module; length = n; lits = clause } ∷ rest) (kept_module [] [] more n refl)
kept_module [] (m ∷ lengths) clauses n same = absurd (omega (arith, same))
kept_module (first ∷ held) [] clauses n same = absurd (omega (arith, same))
kept_module (first ∷ held) (m ∷ lengths) clauses n same = ap (λ (rest : List Kept). record { kind = first.kind; length = m; lits = first.lits } ∷ rest) (kept_module held lengths clauses n (omega (arith, same)))

-- the item at a place stands in front of those behind it
pub next_item : {A : Type 0} (xs : List A) (i : ℕ) (x : A) → i < length xs → x ≡ get_or xs i x → drop i xs ≡ x ∷ drop (i + 1) xs
next_item xs i x within is =
    let next : suc i ≡ i + 1 = omega arith in
    drop-cons xs i x within ∙ ap (λ y. y ∷ drop (suc i) xs) (sym is) ∙ ap (λ (k : ℕ). x ∷ drop k xs) next

pub module_count : (held : List Held) (lengths : List ℕ) (clauses : List Clause) (n : ℕ) → length lengths ≡ length held → length (lengths ++ lengths_of_module n clauses) ≡ length (held ++ held_of_module clauses)
module_count held lengths clauses n same =
    let left = length-append lengths (lengths_of_module n clauses) in
    let right = length-append held (held_of_module clauses) in
    let one = count_lengths clauses n in
    let two = count_held clauses in
    omega (arith, left, right, one, two, same)
  where
    count_lengths : (cs : List Clause) (m : ℕ) → length (lengths_of_module m cs) ≡ length cs
    count_lengths [] m = refl
    count_lengths (c ∷ cs) m = ap suc (count_lengths cs m)

    count_held : (cs : List Clause) → length (held_of_module cs) ≡ length cs
    count_held [] = refl
    count_held (c ∷ cs) = ap suc (count_held cs)
