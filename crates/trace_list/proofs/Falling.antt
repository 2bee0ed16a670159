-- With each clause that isn't absorbed fewer can come, and with none more.
use Rattle.std.proofs.Common.{◌≡◌, ℕ, zero, suc, ◌+◌, ◌-◌, ◌*◌, ◌^◌, ◌<◌, ◌≤◌, Bool, true, false, cond, not, ◌&&◌, ◌||◌, List, [], ◌∷◌, ◌++◌, length, map, reverse, refl, sym, ap, subst, ◌∙◌, inl, inr, ⊎_elim, arith}
use Rattle.std.specs.Prelude.{nat_lt, ◌==◌}
use Rattle.std.specs.List.{filter, list_any}
use Rattle.std.proofs.Math.Nat.{one-le-pow}
use Rattle.std.proofs.lemmas.Bool.{and_parts, cases_Bool, cond-true, cond-false, eq-eqb, eqb-true, ltb-true, false≢true}
use Rattle.std.proofs.lemmas.List.{map-append, reverse-append}
use Rattle.tel_base.specs.declared.literals.Lit.{Lit}
use Rattle.tel_base.specs.Literals.{negate, negations}
use Rattle.tel_base.proofs.Members.{In, In-append_cases, In-filter_from, In-list_all, In-map_from, any_found}
use Rattle.clause_store.specs.Held.{lacks, are_distinct, is_clause}
use Rattle.clause_store.specs.Closure.{Clause, others, Absorbed}
use Rattle.clause_store.specs.Counts.{code, unused, left_over, IsBelow}
use Rattle.clause_store.proofs.Closures.{up_start, up_grows, conflict_grows}
use Rattle.clause_store.proofs.Counting.{code_same, fewer_left}
use Rattle.search_laws.specs.Origins.{Kept, lits_of}
use Rattle.cdcl_search.specs.Searches.{View, Begun, clauses_of}
use Rattle.cdcl_search.specs.Steps.{IsOneMore}
use Rattle.clause_store.specs.declared.store.ClauseId.{ClauseId}
use Rattle.trace_list.specs.Listing.{left_of}

-- ---- a clause of different variables

other_var : (lit : Lit) (lits : List Lit) (k : Lit) → lacks lit.var lits ≡ true → In k lits → k.var ≡ lit.var → ⊥
other_var lit lits k none i e =
    false≢true (sym (ap not (eq-eqb k.var lit.var e)) ∙ In-list_all (λ (l : Lit). not (l.var == lit.var)) k lits none i)

distinct_apart : (vars : ℕ) (lits : List Lit) → are_distinct vars lits ≡ true → (lit : Lit) → In lit lits → In (negate lit) lits → ⊥
distinct_apart vars [] d lit i j = i
distinct_apart vars (first ∷ more) d lit i j =
    let p = and_parts (nat_lt first.var vars) (lacks first.var more && are_distinct vars more) d in
    let q = and_parts (lacks first.var more) (are_distinct vars more) p.1 in
    ⊎_elim (λ (e : first ≡ lit).
    ⊎_elim (λ (f : first ≡ negate lit). opposite lit (sym e ∙ f)) (λ l. other_var first more (negate lit) q.0 l (ap (λ (k : Lit). k.var) (sym e))) j) (λ l.
    ⊎_elim (λ (f : first ≡ negate lit). other_var first more lit q.0 l (ap (λ (k : Lit). k.var) (sym f))) (λ m. distinct_apart vars more q.1 lit l m) j) i
  where
    differ : (b : Bool) → b ≡ not b → ⊥
    differ true e = false≢true (sym e)
    differ false e = false≢true e

    opposite : (k : Lit) → k ≡ negate k → ⊥
    opposite k e = differ k.positive (ap (λ (l : Lit). l.positive) e)

distinct_low : (vars : ℕ) (lits : List Lit) → are_distinct vars lits ≡ true → (lit : Lit) → In lit lits → lit.var < vars
distinct_low vars [] d lit i = absurd i
distinct_low vars (first ∷ more) d lit i =
    let p = and_parts (nat_lt first.var vars) (lacks first.var more && are_distinct vars more) d in
    let q = and_parts (lacks first.var more) (are_distinct vars more) p.1 in
    ⊎_elim (λ (e : first ≡ lit). subst (λ (k : Lit). k.var < vars) e (ltb-true first.var vars p.0)) (λ l. distinct_low vars more q.1 lit l) i

clause_below : (vars : ℕ) (clause : Clause) → is_clause vars clause ≡ true → IsBelow vars clause
clause_below vars clause is =
    let d = (and_parts (nat_lt 0 (length clause)) (are_distinct vars clause) is).1 in
    record { below = distinct_low vars clause d; apart = distinct_apart vars clause d }

-- ---- the measure

in_reversed : (clause : Clause) (clauses : List Clause) → In clause (reverse clauses) → In clause clauses
in_reversed clause [] i = i
in_reversed clause (first ∷ more) i =
    ⊎_elim (λ l. inr (in_reversed clause more l)) (λ r. ⊎_elim (λ (e : first ≡ clause). inl e) (λ none. absurd none) r) (In-append_cases clause (reverse more) (first ∷ []) (subst (λ (cs : List Clause). In clause cs) (reverse-append (first ∷ []) more) i))

absorbed_more : (fewer clauses : List Clause) (clause : Clause) → ((c : Clause) → In c fewer → In c clauses) → Absorbed fewer clause → Absorbed clauses clause
absorbed_more fewer clauses clause inside absorbed lit i =
    let start = negations (others lit clause) in
    let same = λ (k : Lit) (j : In k start). up_start clauses start k j in
    ⊎_elim (λ up. inl (up_grows fewer clauses start start inside same lit up)) (λ clash. inr (conflict_grows fewer clauses start start inside same clash)) (absorbed lit i)

fewer_clauses : (vars : ℕ) (clauses : List Clause) (clause : Clause) → is_clause vars clause ≡ true → (Absorbed clauses clause → ⊥) → left_over vars (filter (is_clause vars) (reverse (clauses ++ clause ∷ []))) < left_over vars (filter (is_clause vars) (reverse clauses))
fewer_clauses vars clauses clause is free =
    let proper = filter (is_clause vars) (reverse clauses) in
    let inside : (c : Clause) → In c proper → In c clauses = λ c i. in_reversed c clauses (In-filter_from (is_clause vars) c (reverse clauses) i).0 in
    let each : (c : Clause) → In c proper → IsBelow vars c = λ c i. clause_below vars c (In-filter_from (is_clause vars) c (reverse clauses) i).1 in
    let front : filter (is_clause vars) (reverse (clauses ++ clause ∷ [])) ≡ clause ∷ proper =
    ap (filter (is_clause vars)) (reverse-append clauses (clause ∷ [])) ∙ cond-true (is_clause vars clause) (clause ∷ proper) proper is in
    subst (λ (cs : List Clause). left_over vars cs < left_over vars proper) (sym front) (fewer_left vars proper clause each (clause_below vars clause is) (λ absorbed. free (absorbed_more proper clauses clause inside absorbed)))

-- the clauses of an end and one more, in the order in which they are measured
with_last : (vars : ℕ) (clauses : List Clause) (clause : Clause) → filter (is_clause vars) (reverse (clauses ++ clause ∷ [])) ≡ cond (is_clause vars clause) (clause ∷ filter (is_clause vars) (reverse clauses)) (filter (is_clause vars) (reverse clauses))
with_last vars clauses clause = ap (filter (is_clause vars)) (reverse-append clauses (clause ∷ []))

pub one_fewer : (old new : View) (begun : Begun) (id : ClauseId) → new.vars ≡ old.vars → IsOneMore old new begun id → left_of new < left_of old
one_fewer old new begun id vars is =
    let lits : clauses_of new ≡ clauses_of old ++ is.one.lits ∷ [] = ap lits_of is.kept ∙ map-append (λ (one : Kept). one.lits) old.kept (is.one ∷ []) in
    let less = fewer_clauses old.vars (clauses_of old) is.one.lits is.distinct is.free in
    subst (λ (v : ℕ). left_over v (filter (is_clause v) (reverse (clauses_of new))) < left_of old) (sym vars) (subst (λ (cs : List Clause). left_over old.vars (filter (is_clause old.vars) (reverse cs)) < left_of old) (sym lits) less)

-- ---- any clause

used_less : (codes : List ℕ) (c k : ℕ) → unused (c ∷ codes) k ≤ unused codes k
used_less codes c zero = omega arith
used_less codes c (suc k) = one_less (c == k) (list_any (λ (x : ℕ). x == k) codes) (unused (c ∷ codes) k) (unused codes k) (used_less codes c k)
  where
    one_less : (a b : Bool) (x y : ℕ) → x ≤ y → x + cond (a || b) 0 1 ≤ y + cond b 0 1
    one_less true true x y l = omega (arith, l)
    one_less true false x y l = omega (arith, l)
    one_less false true x y l = omega (arith, l)
    one_less false false x y l = omega (arith, l)

no_more_clauses : (vars : ℕ) (clauses : List Clause) (clause : Clause) → left_over vars (filter (is_clause vars) (reverse (clauses ++ clause ∷ []))) ≤ left_over vars (filter (is_clause vars) (reverse clauses))
no_more_clauses vars clauses clause =
    let proper = filter (is_clause vars) (reverse clauses) in
    let less : left_over vars (clause ∷ proper) ≤ left_over vars proper = used_less (map (code vars) proper) (code vars clause) (3 ^ vars) in
    let same : left_over vars proper ≤ left_over vars proper = omega arith in
    subst (λ (cs : List Clause). left_over vars cs ≤ left_over vars proper) (sym (with_last vars clauses clause))
    (⊎_elim (λ (t : is_clause vars clause ≡ true). subst (λ (cs : List Clause). left_over vars cs ≤ left_over vars proper) (sym (cond-true (is_clause vars clause) (clause ∷ proper) proper t)) less) (λ (f : is_clause vars clause ≡ false). subst (λ (cs : List Clause). left_over vars cs ≤ left_over vars proper) (sym (cond-false (is_clause vars clause) (clause ∷ proper) proper f)) same) (cases_Bool (is_clause vars clause)))

pub none_more : (old new : View) (one : Kept) → new.vars ≡ old.vars → new.kept ≡ old.kept ++ one ∷ [] → left_of new ≤ left_of old
none_more old new one vars kept =
    let lits : clauses_of new ≡ clauses_of old ++ one.lits ∷ [] = ap lits_of kept ∙ map-append (λ (k : Kept). k.lits) old.kept (one ∷ []) in
    let less = no_more_clauses old.vars (clauses_of old) one.lits in
    subst (λ (v : ℕ). left_over v (filter (is_clause v) (reverse (clauses_of new))) ≤ left_of old) (sym vars) (subst (λ (cs : List Clause). left_over old.vars (filter (is_clause old.vars) (reverse cs)) ≤ left_of old) (sym lits) less)

pub same_left : (old new : View) → new.vars ≡ old.vars → new.kept ≡ old.kept → left_of new ≡ left_of old
same_left old new vars kept = λ i. left_over (vars i) (filter (is_clause (vars i)) (reverse (lits_of (kept i))))

-- ---- there are always some, since the empty clause isn't held

empty_code : (v : ℕ) → code v [] ≡ 0
empty_code zero = refl
empty_code (suc v) = let rest = empty_code v in omega (arith, rest)

held_code : (vars : ℕ) (clause : Clause) → is_clause vars clause ≡ true → code vars clause ≡ 0 → ⊥
held_code vars [] is none = false≢true is
held_code vars (lit ∷ more) is none = code_same vars (lit ∷ more) [] (clause_below vars (lit ∷ more) is) (none ∙ sym (empty_code vars)) lit (inl refl)

some_unused : (codes : List ℕ) (k : ℕ) → list_any (λ (c : ℕ). c == 0) codes ≡ false → 0 < unused codes (suc k)
some_unused codes zero none = let one : cond {A = ℕ} (list_any (λ (c : ℕ). c == 0) codes) 0 1 ≡ 1 = cond-false (list_any (λ (c : ℕ). c == 0) codes) 0 1 none in omega (arith, one)
some_unused codes (suc k) none = let rest = some_unused codes k none in omega (arith, rest)

pub some_left : (search : View) → 0 < left_of search
some_left search =
    let vars = search.vars in
    let proper = filter (is_clause vars) (reverse (clauses_of search)) in
    let codes = map (code vars) proper in
    let none : list_any (λ (c : ℕ). c == 0) codes ≡ false = ⊎_elim (λ (t : list_any (λ (c : ℕ). c == 0) codes ≡ true).
    let found = any_found (λ (c : ℕ). c == 0) codes t in
    let of = In-map_from (code vars) found.0 proper found.1 in
    absurd (held_code vars of.0 (In-filter_from (is_clause vars) of.0 (reverse (clauses_of search)) of.1).1 (of.2 ∙ eqb-true found.0 0 found.2))) (λ f. f) (cases_Bool (list_any (λ (c : ℕ). c == 0) codes)) in
    let some : 1 ≤ 3 ^ vars = one-le-pow vars 3 (omega arith) in
    let most : suc (3 ^ vars - 1) ≡ 3 ^ vars = omega (arith, some) in
    subst (λ (k : ℕ). 0 < unused codes k) most (some_unused codes (3 ^ vars - 1) none)
