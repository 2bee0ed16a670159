-- The entry at a place of a trail.
use Rattle.std.proofs.Common.{◌≡◌, ℕ, ◌-◌, ◌<◌, List, reverse, length, get_or, sym, ap, subst, ◌∙◌, arith}
use Rattle.std.specs.Prelude.{Option, None}
use Rattle.std.proofs.lemmas.List.{length-reverse, get_or-reverse, get_or_default}
use Rattle.tel_base.specs.declared.literals.Lit.{Lit}
use Rattle.lit_trail.specs.declared.assignment.Spot.{Spot}
use Rattle.lit_trail.specs.declared.assignment.Entry.{Entry}
use Rattle.lit_trail.specs.Entries.{Assigned, spot_of, spot_reason}
use Rattle.lit_trail.specs.Table.{level_or, entry_with, entries_of, assigned_of, InStep}
use Rattle.clause_store.proofs.Levels.{In-at}
use Rattle.clause_store.specs.Closure.{In}
use Rattle.lit_trail.proofs.TableSteps.{entry_at, get_past, length_of}
use Rattle.lit_trail.proofs.Values.{spot_there}

pub count_is : (table : List (Option Spot)) (order : List Lit) (view : Assigned) → assigned_of table order ≡ view → length order ≡ length view.entries
count_is table order view is = sym (ap (λ (v : Assigned). length v.entries) (sym is) ∙ length_of table (reverse order) ∙ length-reverse order)

pub entry_here : (table : List (Option Spot)) (order : List Lit) (place last : ℕ) (lit : Lit) (view : Assigned) (d : Entry) → assigned_of table order ≡ view → place < length view.entries → last ≡ length order - 1 - place → lit ≡ get_or order last lit → get_or view.entries place d ≡ entry_with lit (get_or table lit.var None)
entry_here table order place last lit view d is l n e =
    let count = count_is table order view is in
    let within : place < length order = omega (arith, l, count) in
    let k = length-reverse order in
    let inside : place < length (reverse order) = omega (arith, within, k) in
    let first : lit ≡ get_or (reverse order) place lit = e ∙ ap (λ j. get_or order j lit) n ∙ sym (get_or-reverse order place lit within) in
    ap (λ (v : Assigned). get_or v.entries place d) (sym is) ∙ entry_at table (reverse order) place lit d inside first

pub entry_is : (table : List (Option Spot)) (order : List Lit) (place last : ℕ) (lit : Lit) (o : Option Spot) (view : Assigned) → assigned_of table order ≡ view → place < length view.entries → last ≡ length order - 1 - place → lit ≡ get_or order last lit → o ≡ get_or table lit.var o → lit.var < length table → record { lit = lit; level = level_or o; reason = spot_reason o } ≡ get_or view.entries place (record { lit = lit; level = level_or o; reason = spot_reason o })
entry_is table order place last lit o view is l n e found r =
    sym (entry_here table order place last lit view (record { lit = lit; level = level_or o; reason = spot_reason o }) is l n e ∙ ap (entry_with lit) (sym (found ∙ get_or_default table lit.var o None r)))

pub entry_range : (table : List (Option Spot)) (order : List Lit) (place last : ℕ) (lit : Lit) (view : Assigned) → assigned_of table order ≡ view → InStep table order → place < length view.entries → last ≡ length order - 1 - place → lit ≡ get_or order last lit → lit.var < length table
entry_range table order place last lit view is step l n e =
    let entry = entry_with lit (get_or table lit.var None) in
    let here : get_or view.entries place entry ≡ entry = entry_here table order place last lit view entry is l n e in
    let i : In entry view.entries = subst (λ (x : Entry). In x view.entries) here (In-at view.entries place entry l) in
    let j : In entry (entries_of table (reverse order)) = subst (λ (v : Assigned). In entry v.entries) (sym is) i in
    get_past table lit.var (spot_of entry) (step.said lit.var ∙ spot_there (entries_of table (reverse order)) entry step.apart j)
