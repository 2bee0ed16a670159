-- Clauses in one list of literals: more variables, one clause more, and where a head leads.
use Rattle.std.proofs.Common.{◌≡◌, ℕ, zero, suc, ◌+◌, ◌<◌, ◌≤◌, true, List, [], ◌∷◌, ◌++◌, length, take, drop, get_or, refl, sym, ap, subst, ◌∙◌, arith}
use Rattle.std.specs.Prelude.{nat_lt, ◌&&◌}
use Rattle.std.proofs.lemmas.Bool.{and_parts, and_from, ltb-true, lt-ltb}
use Rattle.std.proofs.lemmas.List.{length-append, length-drop, map-append, take-append-le, drop-append-le, drop_at, take_all}
use Rattle.tel_base.specs.declared.literals.Lit.{Lit}
use Rattle.clause_store.specs.declared.store.ClauseKind.{ClauseKind}
use Rattle.clause_store.specs.declared.store.Head.{Head}
use Rattle.clause_store.specs.Held.{lacks, are_distinct, is_clause}
use Rattle.clause_store.specs.Flat.{part_at, held_of, clauses_of, IsFlat}

-- ---- more variables

distinct_wider : (vars more : ℕ) (lits : List Lit) → vars ≤ more → are_distinct vars lits ≡ true → are_distinct more lits ≡ true
distinct_wider vars more [] wider h = refl
distinct_wider vars more (lit ∷ rest) wider h =
    let p = and_parts (nat_lt lit.var vars) (lacks lit.var rest && are_distinct vars rest) h in
    let q = and_parts (lacks lit.var rest) (are_distinct vars rest) p.1 in
    and_from (nat_lt lit.var more) (lacks lit.var rest && are_distinct more rest) (lt-ltb lit.var more (omega (arith, ltb-true lit.var vars p.0))) (and_from (lacks lit.var rest) (are_distinct more rest) q.0 (distinct_wider vars more rest wider q.1))

pub clause_wider : (vars more : ℕ) (lits : List Lit) → vars ≤ more → is_clause vars lits ≡ true → is_clause more lits ≡ true
clause_wider vars more lits wider h =
    let p = and_parts (nat_lt 0 (length lits)) (are_distinct vars lits) h in
    and_from (nat_lt 0 (length lits)) (are_distinct more lits) p.0 (distinct_wider vars more lits wider p.1)

pub flat_wider : (vars more : ℕ) (lits : List Lit) (heads : List Head) → vars ≤ more → IsFlat vars lits heads → IsFlat more lits heads
flat_wider vars more lits [] wider h = tt
flat_wider vars more lits (head ∷ heads) wider h = (h.0, clause_wider vars more (part_at lits head) wider h.1, flat_wider vars more lits heads wider h.2)

-- ---- one clause more

part_more : (lits more : List Lit) (head : Head) → head.start + head.count ≤ length lits → part_at (lits ++ more) head ≡ part_at lits head
part_more lits more head h =
    let first : head.start ≤ length lits = omega (arith, h) in
    let l = length-drop head.start lits in
    let rest : head.count ≤ length (drop head.start lits) = omega (arith, l, h) in
    ap (take head.count) (drop-append-le head.start lits more first) ∙ take-append-le head.count (drop head.start lits) more rest

clauses_more : (vars : ℕ) (lits more : List Lit) (heads : List Head) → IsFlat vars lits heads → clauses_of (lits ++ more) heads ≡ clauses_of lits heads
clauses_more vars lits more [] h = refl
clauses_more vars lits more (head ∷ heads) h =
    let a = ap (λ (part : List Lit). record { kind = head.kind; lits = part }) (part_more lits more head h.0) in
    let b = clauses_more vars lits more heads h.2 in
    λ i. a i ∷ b i

flat_more : (vars : ℕ) (lits more : List Lit) (heads : List Head) → IsFlat vars lits heads → IsFlat vars (lits ++ more) heads
flat_more vars lits more [] h = tt
flat_more vars lits more (head ∷ heads) h =
    let l = length-append lits more in
    let m = h.0 in
    (omega (arith, l, m), subst (λ (part : List Lit). is_clause vars part ≡ true) (sym (part_more lits more head h.0)) h.1, flat_more vars lits more heads h.2)

flat_push : (vars : ℕ) (lits : List Lit) (heads : List Head) (head : Head) → IsFlat vars lits heads → head.start + head.count ≤ length lits → is_clause vars (part_at lits head) ≡ true → IsFlat vars lits (heads ++ head ∷ [])
flat_push vars lits [] head h l d = (l, d, tt)
flat_push vars lits (x ∷ heads) head h l d = (h.0, h.1, flat_push vars lits heads head h.2 l d)

last_part : (lits more : List Lit) (kind : ClauseKind) → part_at (lits ++ more) (record { kind = kind; start = length lits; count = length more }) ≡ more
last_part lits more kind = ap (take (length more)) (drop_at lits more (length lits) refl) ∙ take_all (length more) more (omega arith)

pub flat_added : (vars : ℕ) (lits more : List Lit) (heads : List Head) (kind : ClauseKind) → IsFlat vars lits heads → is_clause vars more ≡ true → IsFlat vars (lits ++ more) (heads ++ record { kind = kind; start = length lits; count = length more } ∷ [])
flat_added vars lits more heads kind h d =
    let l = length-append lits more in
    flat_push vars (lits ++ more) heads (record { kind = kind; start = length lits; count = length more }) (flat_more vars lits more heads h) (omega (arith, l)) (subst (λ (part : List Lit). is_clause vars part ≡ true) (sym (last_part lits more kind)) d)

pub clauses_added : (vars : ℕ) (lits more : List Lit) (heads : List Head) (kind : ClauseKind) → IsFlat vars lits heads → clauses_of (lits ++ more) (heads ++ record { kind = kind; start = length lits; count = length more } ∷ []) ≡ clauses_of lits heads ++ record { kind = kind; lits = more } ∷ []
clauses_added vars lits more heads kind h =
    let head : Head = record { kind = kind; start = length lits; count = length more } in
    let last : held_of (lits ++ more) head ≡ record { kind = kind; lits = more } = ap (λ (part : List Lit). record { kind = kind; lits = part }) (last_part lits more kind) in
    map-append (held_of (lits ++ more)) heads (head ∷ []) ∙ (λ i. clauses_more vars lits more heads h i ++ last i ∷ [])

-- ---- where a head leads

pub head_leads : (vars : ℕ) (lits : List Lit) (heads : List Head) (place : ℕ) (head : Head) → IsFlat vars lits heads → place < length heads → head ≡ get_or heads place head → (head.start + head.count ≤ length lits) × (is_clause vars (part_at lits head) ≡ true)
head_leads vars lits [] place head h l e = absurd (omega (arith, l))
head_leads vars lits (x ∷ heads) zero head h l e = subst (λ (y : Head). (y.start + y.count ≤ length lits) × (is_clause vars (part_at lits y) ≡ true)) (sym e) (h.0, h.1)
head_leads vars lits (x ∷ heads) (suc place) head h l e = head_leads vars lits heads place head h.2 (omega (arith, l)) e
