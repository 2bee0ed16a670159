-- One literal more on the trail, or one less.
use Rattle.std.proofs.Common.{◌≡◌, ℕ, zero, suc, ◌+◌, ◌-◌, ◌<◌, ◌≤◌, List, [], ◌∷◌, ◌++◌, map, reverse, length, get_or, set, replicate, refl, sym, ap, subst, ◌∙◌, ⊎_elim, arith, get_or-set_other, get_or-set_same}
use Rattle.std.proofs.lemmas.List.{length-append, length-replicate, length-set, length-reverse, reverse-append, reverse-reverse, get_or-reverse}
use Rattle.std.specs.Prelude.{Option, Some, None, ◌==◌, min, is_some}
use Rattle.std.proofs.lemmas.Bool.{eq-eqb, ne_eqb, cases_eq, cond-true, cond-false}
use Rattle.tel_base.specs.declared.literals.Lit.{Lit}
use Rattle.clause_store.specs.declared.store.ClauseId.{ClauseId}
use Rattle.lit_trail.specs.declared.assignment.Spot.{Spot}
use Rattle.lit_trail.specs.declared.assignment.Entry.{Entry}
use Rattle.lit_trail.specs.Entries.{Assigned, spot_in, spot_of, Apart, top_level, tail}
use Rattle.lit_trail.specs.Table.{level_or, entry_with, entries_of, assigned_of, free_in, InStep, IsSettled}

-- a variable that isn't there isn't the first, and isn't further on
pub not_here : (entry : Entry) (older : List Entry) (v : ℕ) → spot_in (entry ∷ older) v ≡ None → (entry.lit.var ≡ v → ⊥) × (spot_in older v ≡ None)
not_here entry older v h =
    ⊎_elim (λ (e : entry.lit.var ≡ v). let p : Some (spot_of entry) ≡ None = sym (cond-true (entry.lit.var == v) (Some (spot_of entry)) (spot_in older v) (eq-eqb entry.lit.var v e)) ∙ h in absurd (cc)) (λ ne. (ne, sym (cond-false (entry.lit.var == v) (Some (spot_of entry)) (spot_in older v) (ne_eqb entry.lit.var v ne)) ∙ h)) (cases_eq entry.lit.var v)

pub here : (entry : Entry) (older : List Entry) (v : ℕ) → entry.lit.var ≡ v → spot_in (entry ∷ older) v ≡ Some (spot_of entry)
here entry older v e = cond-true (entry.lit.var == v) (Some (spot_of entry)) (spot_in older v) (eq-eqb entry.lit.var v e)

pub there : (entry : Entry) (older : List Entry) (v : ℕ) → (entry.lit.var ≡ v → ⊥) → spot_in (entry ∷ older) v ≡ spot_in older v
there entry older v ne = cond-false (entry.lit.var == v) (Some (spot_of entry)) (spot_in older v) (ne_eqb entry.lit.var v ne)

-- a write at a variable that isn't there changes no entry
pub entries_of-set : (table : List (Option Spot)) (lits : List Lit) (v : ℕ) (spot : Option Spot) → spot_in (entries_of table lits) v ≡ None → entries_of (set table v spot) lits ≡ entries_of table lits
entries_of-set table [] v spot h = refl
entries_of-set table (lit ∷ older) v spot h =
    let out = not_here (entry_with lit (get_or table lit.var None)) (entries_of table older) v h in
    let first = get_or-set_other table v lit.var spot None out.0 in
    let rest = entries_of-set table older v spot out.1 in
    λ i. entry_with lit (first i) ∷ rest i

-- one place less that is free
pub count-set : (table : List (Option Spot)) (v : ℕ) (spot : Spot) → v < length table → get_or table v None ≡ None → free_in (set table v (Some spot)) + 1 ≡ free_in table
count-set [] v spot l h = absurd (omega (arith, l))
count-set (None ∷ table) zero spot l h = omega arith
count-set (Some s ∷ table) zero spot l h = absurd (cc)
count-set (None ∷ table) (suc v) spot l h = let rest = count-set table v spot (omega (arith, l)) h in omega (arith, rest)
count-set (Some s ∷ table) (suc v) spot l h = let rest = count-set table v spot (omega (arith, l)) h in omega (arith, rest)

pub count-free : (table : List (Option Spot)) (v : ℕ) (spot : Spot) → v < length table → get_or table v None ≡ Some spot → free_in (set table v None) ≡ free_in table + 1
count-free [] v spot l h = absurd (omega (arith, l))
count-free (None ∷ table) zero spot l h = absurd (cc)
count-free (Some s ∷ table) zero spot l h = omega arith
count-free (None ∷ table) (suc v) spot l h = let rest = count-free table v spot (omega (arith, l)) h in omega (arith, rest)
count-free (Some s ∷ table) (suc v) spot l h = let rest = count-free table v spot (omega (arith, l)) h in omega (arith, rest)

pub reverse_push : (order : List Lit) (lit : Lit) → reverse (order ++ lit ∷ []) ≡ lit ∷ reverse order
reverse_push order lit = reverse-append order (lit ∷ [])

pub put_entries : (table : List (Option Spot)) (order : List Lit) (lit : Lit) (spot : Spot) → lit.var < length table → spot_in (entries_of table (reverse order)) lit.var ≡ None → entries_of (set table lit.var (Some spot)) (reverse (order ++ lit ∷ [])) ≡ record { lit = lit; level = spot.level; reason = spot.reason } ∷ entries_of table (reverse order)
put_entries table order lit spot l free =
    let first = get_or-set_same table lit.var (Some spot) None l in
    let rest = entries_of-set table (reverse order) lit.var (Some spot) free in
    ap (entries_of (set table lit.var (Some spot))) (reverse_push order lit) ∙ (λ i. entry_with lit (first i) ∷ rest i)

pub put_step : (table : List (Option Spot)) (order : List Lit) (level : ℕ) (lit : Lit) (reason : Option ClauseId) → InStep table order → lit.var < length table → spot_in (entries_of table (reverse order)) lit.var ≡ None → InStep (set table lit.var (Some (record { positive = lit.positive; level = level; reason = reason }))) (order ++ lit ∷ [])
put_step table order level lit reason step l free =
    let spot : Spot = record { positive = lit.positive; level = level; reason = reason } in
    let entry : Entry = record { lit = lit; level = level; reason = reason } in
    let older = entries_of table (reverse order) in
    let new : List (Option Spot) = set table lit.var (Some spot) in
    let is : entries_of new (reverse (order ++ lit ∷ [])) ≡ entry ∷ older = put_entries table order lit spot l free in
    let none : get_or table lit.var None ≡ None = step.said lit.var ∙ free in
    let fewer : free_in new + 1 ≡ free_in table = count-set table lit.var spot l none in
    let longer : length (order ++ lit ∷ []) ≡ length order + 1 = length-append order (lit ∷ []) in
    let kept : length new ≡ length table = length-set table lit.var (Some spot) in
    let room = step.room in
    record {
      said = λ v. ⊎_elim (λ (e : lit.var ≡ v). ap (λ u. get_or new u None) (sym e) ∙ get_or-set_same table lit.var (Some spot) None l ∙ sym (ap (λ es. spot_in es v) is ∙ here entry older v e)) (λ (ne : lit.var ≡ v → ⊥). get_or-set_other table lit.var v (Some spot) None (λ e. ne (sym e)) ∙ step.said v ∙ sym (ap (λ es. spot_in es v) is ∙ there entry older v ne)) (cases_eq lit.var v);
      apart = subst Apart (sym is) (free, step.apart);
      room = omega (arith, room, fewer, longer, kept);
    }

pub get_past : (table : List (Option Spot)) (v : ℕ) (spot : Spot) → get_or table v None ≡ Some spot → v < length table
get_past [] v spot h = absurd (cc)
get_past (s ∷ table) zero spot h = omega arith
get_past (s ∷ table) (suc v) spot h = let rest = get_past table v spot h in omega (arith, rest)

-- what the last literal of the order says
pub last_said : (table : List (Option Spot)) (order : List Lit) (lit : Lit) → InStep table (order ++ lit ∷ []) → (spot : Spot) × (get_or table lit.var None ≡ Some spot) × (lit.var < length table)
last_said table order lit step =
    let entry = entry_with lit (get_or table lit.var None) in
    let older = entries_of table (reverse order) in
    let is : entries_of table (reverse (order ++ lit ∷ [])) ≡ entry ∷ older = ap (entries_of table) (reverse_push order lit) in
    let found = step.said lit.var ∙ ap (λ es. spot_in es lit.var) is ∙ here entry older lit.var refl in
    (spot_of entry, found, get_past table lit.var (spot_of entry) found)

pub pop_entries : (table : List (Option Spot)) (order : List Lit) (lit : Lit) → InStep table (order ++ lit ∷ []) → entries_of (set table lit.var None) (reverse order) ≡ tail (entries_of table (reverse (order ++ lit ∷ [])))
pop_entries table order lit step =
    let is : entries_of table (reverse (order ++ lit ∷ [])) ≡ entry_with lit (get_or table lit.var None) ∷ entries_of table (reverse order) = ap (entries_of table) (reverse_push order lit) in
    let apart = subst Apart is step.apart in
    entries_of-set table (reverse order) lit.var None apart.0 ∙ sym (ap tail is)

pub pop_step : (table : List (Option Spot)) (order : List Lit) (lit : Lit) → InStep table (order ++ lit ∷ []) → InStep (set table lit.var None) order
pop_step table order lit step =
    let entry = entry_with lit (get_or table lit.var None) in
    let older = entries_of table (reverse order) in
    let is : entries_of table (reverse (order ++ lit ∷ [])) ≡ entry ∷ older = ap (entries_of table) (reverse_push order lit) in
    let apart = subst Apart is step.apart in
    let new : List (Option Spot) = set table lit.var None in
    let same : entries_of new (reverse order) ≡ older = entries_of-set table (reverse order) lit.var None apart.0 in
    let last = last_said table order lit step in
    let more : free_in new ≡ free_in table + 1 = count-free table lit.var last.0 last.2 last.1 in
    let longer : length (order ++ lit ∷ []) ≡ length order + 1 = length-append order (lit ∷ []) in
    let kept : length new ≡ length table = length-set table lit.var None in
    let room = step.room in
    record {
      said = λ v. ⊎_elim (λ (e : lit.var ≡ v). ap (λ u. get_or new u None) (sym e) ∙ get_or-set_same table lit.var None None last.2 ∙ sym (ap (λ es. spot_in es v) same ∙ ap (spot_in older) (sym e) ∙ apart.0)) (λ (ne : lit.var ≡ v → ⊥). get_or-set_other table lit.var v None None (λ e. ne (sym e)) ∙ step.said v ∙ ap (λ es. spot_in es v) is ∙ there entry older v ne ∙ sym (ap (λ es. spot_in es v) same)) (cases_eq lit.var v);
      apart = subst Apart (sym same) apart.1;
      room = omega (arith, room, more, longer, kept);
    }

pub lits_of : (table : List (Option Spot)) (lits : List Lit) → map (λ (entry : Entry). entry.lit) (entries_of table lits) ≡ lits
lits_of table [] = refl
lits_of table (lit ∷ older) = ap (λ more. lit ∷ more) (lits_of table older)

pub order_of : (table : List (Option Spot)) (order : List Lit) → order ≡ reverse (map (λ (entry : Entry). entry.lit) (entries_of table (reverse order)))
order_of table order = sym (ap reverse (lits_of table (reverse order)) ∙ reverse-reverse order)

-- the forms that the functions of the trail ask for
pub put_in_step : (table : List (Option Spot)) (order new : List Lit) (lit : Lit) (level : ℕ) (reason : Option ClauseId) (view : Assigned) → assigned_of table order ≡ view → InStep table order → new ≡ order ++ lit ∷ [] → lit.var < view.vars → spot_in view.entries lit.var ≡ None → InStep (set table lit.var (Some (record { positive = lit.positive; level = level; reason = reason }))) new
put_in_step table order new lit level reason view is step n l free =
    subst (λ (xs : List Lit). InStep (set table lit.var (Some (record { positive = lit.positive; level = level; reason = reason }))) xs) (sym n) (put_step table order level lit reason step (subst (λ (v : Assigned). lit.var < v.vars) (sym is) l) (ap (λ (v : Assigned). spot_in v.entries lit.var) is ∙ free))

pub put_is : (table : List (Option Spot)) (order new : List Lit) (lit : Lit) (spot : Spot) (view : Assigned) → assigned_of table order ≡ view → new ≡ order ++ lit ∷ [] → lit.var < view.vars → spot_in view.entries lit.var ≡ None → entries_of (set table lit.var (Some spot)) (reverse new) ≡ record { lit = lit; level = spot.level; reason = spot.reason } ∷ view.entries
put_is table order new lit spot view is n l free =
    let entry : Entry = record { lit = lit; level = spot.level; reason = spot.reason } in
    ap (λ (xs : List Lit). entries_of (set table lit.var (Some spot)) (reverse xs)) n ∙ put_entries table order lit spot (subst (λ (v : Assigned). lit.var < v.vars) (sym is) l) (ap (λ (v : Assigned). spot_in v.entries lit.var) is ∙ free) ∙ ap (λ (v : Assigned). entry ∷ v.entries) is

pub pop_in_step : (table : List (Option Spot)) (order new : List Lit) (lit : Lit) → InStep table order → order ≡ new ++ lit ∷ [] → InStep (set table lit.var None) new
pop_in_step table order new lit step e = pop_step table new lit (subst (λ (xs : List Lit). InStep table xs) e step)

pub pop_is : (table : List (Option Spot)) (order new : List Lit) (lit : Lit) (view : Assigned) → assigned_of table order ≡ view → InStep table order → order ≡ new ++ lit ∷ [] → entries_of (set table lit.var None) (reverse new) ≡ tail view.entries
pop_is table order new lit view is step e =
    pop_entries table new lit (subst (λ (xs : List Lit). InStep table xs) e step) ∙ ap (λ (xs : List Lit). tail (entries_of table (reverse xs))) (sym e) ∙ ap (λ (v : Assigned). tail v.entries) is

first_of_reverse : (table : List (Option Spot)) (lits : List Lit) (lit : Lit) (spot : Spot) → 0 < length lits → lit ≡ get_or lits 0 lit → get_or table lit.var None ≡ Some spot → spot.level ≡ top_level (entries_of table lits)
first_of_reverse table [] lit spot l e found = absurd (omega (arith, l))
first_of_reverse table (x ∷ lits) lit spot l e found =
    sym (ap (λ (y : Lit). level_or (get_or table y.var None)) (sym e) ∙ ap level_or found)

pub top_is : (table : List (Option Spot)) (order : List Lit) (lit : Lit) (last : ℕ) (spot : Spot) (view : Assigned) → assigned_of table order ≡ view → last + 1 ≡ length order → lit ≡ get_or order last lit → get_or table lit.var None ≡ Some spot → spot.level ≡ top_level view.entries
top_is table order lit last spot view is l e found =
    let n = length-reverse order in
    let some : 0 < length (reverse order) = omega (arith, n, l) in
    let place : length order - 1 - 0 ≡ last = omega (arith, l) in
    let within : 0 < length order = omega (arith, l) in
    first_of_reverse table (reverse order) lit spot some (e ∙ sym (get_or-reverse order 0 lit within ∙ ap (λ k. get_or order k lit) place)) found ∙ ap (λ (v : Assigned). top_level v.entries) is

none_of : (table : List (Option Spot)) (order : List Lit) → length order ≡ 0 → 0 ≡ top_level (entries_of table (reverse order))
none_of table [] l = refl
none_of table (x ∷ order) l = absurd (omega (arith, l))

pub none_is : (table : List (Option Spot)) (order : List Lit) (view : Assigned) → assigned_of table order ≡ view → length order ≡ 0 → 0 ≡ top_level view.entries
none_is table order view is l = none_of table order l ∙ ap (λ (v : Assigned). top_level v.entries) is

some_free : (table : List (Option Spot)) (v : ℕ) → v < length table → get_or table v None ≡ None → 0 < free_in table
some_free [] v l h = absurd (omega (arith, l))
some_free (None ∷ table) v l h = omega arith
some_free (Some s ∷ table) zero l h = absurd (cc)
some_free (Some s ∷ table) (suc v) l h = some_free table v (omega (arith, l)) h

pub has_room : (table : List (Option Spot)) (order : List Lit) (v : ℕ) (view : Assigned) → assigned_of table order ≡ view → InStep table order → v < view.vars → spot_in view.entries v ≡ None → length order < length table
has_room table order v view is step l free =
    let some : 0 < free_in table = some_free table v (subst (λ (w : Assigned). v < w.vars) (sym is) l) (step.said v ∙ ap (λ (w : Assigned). spot_in w.entries v) is ∙ free) in
    let room = step.room in
    omega (arith, some, room)

pub length_of : (table : List (Option Spot)) (lits : List Lit) → length (entries_of table lits) ≡ length lits
length_of table [] = refl
length_of table (lit ∷ older) = ap suc (length_of table older)

pub put_room : (table : List (Option Spot)) (order new : List Lit) (lit : Lit) (spot : Spot) (view : Assigned) → assigned_of table order ≡ view → InStep table order → new ≡ order ++ lit ∷ [] → lit.var < view.vars → spot_in view.entries lit.var ≡ None → length (entries_of (set table lit.var (Some spot)) (reverse new)) ≤ length (set table lit.var (Some spot))
put_room table order new lit spot view is step n l free =
    let more = has_room table order lit.var view is step l free in
    let a = length_of (set table lit.var (Some spot)) (reverse new) in
    let b = length-reverse new in
    let d : length new ≡ length order + 1 = ap length n ∙ length-append order (lit ∷ []) in
    let e = length-set table lit.var (Some spot) in
    omega (arith, more, a, b, d, e)

pub entry_at : (table : List (Option Spot)) (lits : List Lit) (place : ℕ) (lit : Lit) (d : Entry) → place < length lits → lit ≡ get_or lits place lit → get_or (entries_of table lits) place d ≡ entry_with lit (get_or table lit.var None)
entry_at table [] place lit d l e = absurd (omega (arith, l))
entry_at table (x ∷ lits) zero lit d l e = ap (λ (y : Lit). entry_with y (get_or table y.var None)) (sym e)
entry_at table (x ∷ lits) (suc place) lit d l e = entry_at table lits place lit d (omega (arith, l)) e

-- ---- more variables

get_or-more : (table : List (Option Spot)) (count v : ℕ) → get_or (table ++ replicate count None) v None ≡ get_or table v None
get_or-more [] zero v = refl
get_or-more [] (suc count) zero = refl
get_or-more [] (suc count) (suc v) = get_or-more [] count v
get_or-more (spot ∷ table) count zero = refl
get_or-more (spot ∷ table) count (suc v) = get_or-more table count v

free-none : (count : ℕ) → free_in (replicate count None) ≡ count
free-none zero = refl
free-none (suc count) = ap suc (free-none count)

free-more : (table : List (Option Spot)) (count : ℕ) → free_in (table ++ replicate count None) ≡ free_in table + count
free-more [] count = let n = free-none count in omega (arith, n)
free-more (None ∷ table) count = let rest = free-more table count in omega (arith, rest)
free-more (Some spot ∷ table) count = free-more table count

pub entries_of-more : (table : List (Option Spot)) (lits : List Lit) (count : ℕ) → entries_of (table ++ replicate count None) lits ≡ entries_of table lits
entries_of-more table [] count = refl
entries_of-more table (lit ∷ older) count =
    let first = get_or-more table count lit.var in
    let rest = entries_of-more table older count in
    λ i. entry_with lit (first i) ∷ rest i

pub grow_step : (table : List (Option Spot)) (order : List Lit) (count : ℕ) → InStep table order → InStep (table ++ replicate count None) order
grow_step table order count step =
    let same = entries_of-more table (reverse order) count in
    let free = free-more table count in
    let nones : List (Option Spot) = replicate count None in
    let longer = length-append table nones in
    let added : length nones ≡ count = length-replicate count None in
    let room = step.room in
    record {
      said = λ v. get_or-more table count v ∙ step.said v ∙ ap (λ (es : List Entry). spot_in es v) (sym same);
      apart = subst Apart (sym same) step.apart;
      room = omega (arith, room, free, longer, added);
    }

-- ---- the variables that have a value

settled-set : (table : List (Option Spot)) (count v : ℕ) (spot : Spot) → v < length table → IsSettled table count → IsSettled (set table v (Some spot)) count
settled-set table count v spot l settled u below =
    ⊎_elim (λ (e : v ≡ u). ap (λ (k : ℕ). is_some (get_or (set table v (Some spot)) k None)) (sym e) ∙ ap is_some (get_or-set_same table v (Some spot) None l)) (λ ne. ap is_some (get_or-set_other table v u (Some spot) None (λ e. ne (sym e))) ∙ settled u below) (cases_eq v u)

pub settled-put : (table : List (Option Spot)) (count v : ℕ) (spot : Spot) (view : Assigned) (order : List Lit) → assigned_of table order ≡ view → v < view.vars → IsSettled table count → IsSettled (set table v (Some spot)) count
settled-put table count v spot view order is l settled =
    settled-set table count v spot (subst (λ (w : Assigned). v < w.vars) (sym is) l) settled

pub settled-pop : (table : List (Option Spot)) (count v least : ℕ) → least ≡ min count v → IsSettled table count → IsSettled (set table v None) least
settled-pop table count v least e settled u below =
    ap is_some (get_or-set_other table v u None None (λ same. absurd (omega (arith, same, e, below)))) ∙ settled u (omega (arith, e, below))

pub settled-grow : (table new : List (Option Spot)) (more count : ℕ) → new ≡ table ++ replicate more None → IsSettled table count → IsSettled new count
settled-grow table new more count is settled u below =
    ap (λ (xs : List (Option Spot)). is_some (get_or xs u None)) is ∙ ap is_some (get_or-more table more u) ∙ settled u below
