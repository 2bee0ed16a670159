-- Lines that have the form of one: of a clause of different variables in order, and of a rising set.
use Rattle.std.proofs.Common.{◌≡◌, ℕ, ◌+◌, ◌<◌, ◌≤◌, Bool, true, false, not, ◌&&◌, List, [], ◌∷◌, length, map, refl, sym, ap, subst, ◌∙◌, inl, inr, ⊎_elim, arith}
use Rattle.std.specs.Prelude.{nat_lt, ◌==◌}
use Rattle.std.specs.List.{list_all}
use Rattle.std.proofs.lemmas.Bool.{and_parts, cases_Bool, ltb-true, ltb-false, eq-eqb, false≢true}
use Rattle.tel_base.specs.declared.literals.Lit.{Lit}
use Rattle.tel_base.proofs.Members.{In, In-list_all, In-map_from, In-append_cases, any_found, any_from}
use Rattle.clause_store.specs.Held.{lacks, are_distinct, is_clause}
use Rattle.clause_store.specs.Closure.{Clause}
use Rattle.normal_program.specs.Grounds.{Layers, is_head}
use Rattle.normal_program.specs.ModuleClauses.{rank, in_order}
use Rattle.completion.proofs.Orders as orders
use Rattle.completion.proofs.Orders.{in_order_rises, into_order, from_order}
use Rattle.unfounded_sets.specs.LoopClauses.{IsLoopClause, among, rises}
use Rattle.proof_log.specs.declared.line.Line.TheVariants as lines
use Rattle.proof_log.specs.Lines.{greatest, lit_number, Rises, IsClause}
use Rattle.search_log.specs.ValidLogs.{IsWritten}

-- ---- what different variables say

distinct_below : (bound : ℕ) (lits : List Lit) → are_distinct bound lits ≡ true → (lit : Lit) → In lit lits → lit.var < bound
distinct_below bound [] distinct lit i = absurd i
distinct_below bound (first ∷ more) distinct lit i =
    let p = and_parts (nat_lt first.var bound) (lacks first.var more && are_distinct bound more) distinct in
    let q = and_parts (lacks first.var more) (are_distinct bound more) p.1 in
    ⊎_elim (λ (e : first ≡ lit). subst (λ (k : Lit). k.var < bound) e (ltb-true first.var bound p.0)) (λ m. distinct_below bound more q.1 lit m) i

distinct_one : (bound : ℕ) (lits : List Lit) → are_distinct bound lits ≡ true → (lit also : Lit) → In lit lits → In also lits → lit.var ≡ also.var → lit ≡ also
distinct_one bound [] distinct lit also i j e = absurd i
distinct_one bound (first ∷ more) distinct lit also i j e =
    let p = and_parts (nat_lt first.var bound) (lacks first.var more && are_distinct bound more) distinct in
    let q = and_parts (lacks first.var more) (are_distinct bound more) p.1 in
    let other : (k : Lit) → In k more → k.var ≡ first.var → ⊥ =
    λ k m same. false≢true (sym (ap not (eq-eqb k.var first.var same)) ∙ In-list_all (λ (l : Lit). not (l.var == first.var)) k more q.0 m) in
    ⊎_elim
    (λ (f : first ≡ lit). ⊎_elim (λ (g : first ≡ also). sym f ∙ g) (λ m. absurd (other also m (sym e ∙ ap (λ (k : Lit). k.var) (sym f)))) j)
    (λ l. ⊎_elim (λ (g : first ≡ also). absurd (other lit l (e ∙ ap (λ (k : Lit). k.var) (sym g)))) (λ m. distinct_one bound more q.1 lit also l m e) j)
    i

-- ---- in order

rank_var : (lit also : Lit) → rank lit < rank also → lit.var ≤ also.var
rank_var lit also less = by lit.var also.var lit.positive also.positive less
  where
    by : (v w : ℕ) (p q : Bool) → rank (record { var = v; positive = p }) < rank (record { var = w; positive = q }) → v ≤ w
    by v w true true l = omega (arith, l)
    by v w true false l = omega (arith, l)
    by v w false true l = omega (arith, l)
    by v w false false l = omega (arith, l)

-- literals in order with different variables have rising ones
var_rises : (lit also : Lit) → rank lit < rank also → (lit.var ≡ also.var → lit ≡ also) → lit.var < also.var
var_rises lit also less one =
    let up = rank_var lit also less in
    ⊎_elim
    (λ (t : nat_lt lit.var also.var ≡ true). ltb-true lit.var also.var t)
    (λ (f : nat_lt lit.var also.var ≡ false).
    let down = ltb-false lit.var also.var f in
    let same : rank lit ≡ rank also = ap rank (one (omega (arith, up, down))) in
    absurd (omega (arith, less, same)))
    (cases_Bool (nat_lt lit.var also.var))

-- the numbers of literals in order rise, from above a least one
numbers_rise : (bound low : ℕ) (lits : List Lit) → bound ≤ greatest → orders.Rises lits → ((lit : Lit) → In lit lits → lit.var < bound) → ((lit also : Lit) → In lit lits → In also lits → lit.var ≡ also.var → lit ≡ also) → ((lit : Lit) → In lit lits → low ≤ lit.var) → Rises low (map lit_number lits)
numbers_rise bound low [] fits rise below one above = tt
numbers_rise bound low (lit ∷ more) fits rise below one above =
    let least = above lit (inl refl) in
    let most = below lit (inl refl) in (
      omega (arith, least),
      omega (arith, most, fits),
      numbers_rise bound (lit.var + 1) more fits rise.1 (λ k m. below k (inr m)) (λ k l m n. one k l (inr m) (inr n)) (λ k m.
          let up = var_rises lit k (rise.0 k m) (one lit k (inl refl) (inr m)) in omega (arith, up)),
    )

some_first : {X : Type 0} (xs : List X) → 0 < length xs → (x : X) × In x xs
some_first [] l = absurd (omega (arith, l))
some_first (x ∷ xs) l = (x, inl refl)

has_some : {X : Type 0} (x : X) (xs : List X) → In x xs → 0 < length xs
has_some x [] i = absurd i
has_some x (y ∷ ys) i = omega arith

-- a clause of different variables has the form of a clause, in order
order_form : (bound : ℕ) (clause : Clause) → bound ≤ greatest → is_clause bound clause ≡ true → IsClause (in_order clause)
order_form bound clause fits is =
    let p = and_parts (nat_lt 0 (length clause)) (are_distinct bound clause) is in
    let some = some_first clause (ltb-true 0 (length clause) p.0) in (
      has_some some.0 (in_order clause) (into_order some.0 clause some.1),
      numbers_rise bound 0 (in_order clause) fits (in_order_rises clause) (λ lit i. distinct_below bound clause p.1 lit (from_order lit clause i)) (λ lit also i j. distinct_one bound clause p.1 lit also (from_order lit clause i) (from_order also clause j)) (λ lit i. omega arith),
    )

order_below : (bound : ℕ) (clause : Clause) → is_clause bound clause ≡ true → (var : ℕ) → In var (map (λ (lit : Lit). lit.var) (in_order clause)) → var < bound
order_below bound clause is var i =
    let p = and_parts (nat_lt 0 (length clause)) (are_distinct bound clause) is in
    let w = In-map_from (λ (lit : Lit). lit.var) var (in_order clause) i in
    subst (λ (v : ℕ). v < bound) w.2 (distinct_below bound clause p.1 w.0 (from_order w.0 clause w.1))

-- ---- the lines

pub order_written : (bound : ℕ) (clause : Clause) → bound ≤ greatest → is_clause bound clause ≡ true → IsWritten bound (lines.Module (in_order clause)) × IsWritten bound (lines.Learnt (in_order clause)) × IsWritten bound (lines.Block (in_order clause))
order_written bound clause fits is =
    let form = order_form bound clause fits is in
    let below = order_below bound clause is in
    (record { form = form; below = below }, record { form = form; below = below }, record { form = form; below = below })

-- a rising set has the form of one
set_rises : (bound low : ℕ) (set : List ℕ) → bound ≤ greatest → rises set ≡ true → ((v : ℕ) → In v set → v < bound) → ((v : ℕ) → In v set → low ≤ v) → Rises low (map (λ var. var + 1) set)
set_rises bound low [] fits rise below above = tt
set_rises bound low (var ∷ more) fits rise below above =
    let p = and_parts (list_all (λ (u : ℕ). nat_lt var u) more) (rises more) rise in
    let least = above var (inl refl) in
    let most = below var (inl refl) in (
      omega (arith, least),
      omega (arith, most, fits),
      set_rises bound (var + 1) more fits p.1 (λ v m. below v (inr m)) (λ v m. let up = ltb-true var v (In-list_all (λ (u : ℕ). nat_lt var u) v more p.0 m) in omega (arith, up)),
    )

pub loop_written : (bound : ℕ) (ground : Layers) (atom : ℕ) (set : List ℕ) (clause : Clause) → bound ≤ greatest → ((v : ℕ) → is_head ground.modules v ≡ true → v < bound) → rises set ≡ true → IsLoopClause ground (among set) atom clause → is_clause bound clause ≡ true → IsWritten bound (lines.Loop atom set (in_order clause))
loop_written bound ground atom set clause fits heads rise loop is =
    let set_below : (v : ℕ) → In v set → v < bound = λ v i. heads v (loop.heads v (any_from (λ (u : ℕ). u == v) set v i (eq-eqb v v refl))) in
    let atom_below = heads atom (loop.heads atom loop.within) in
    let some = any_found (λ (u : ℕ). u == atom) set loop.within in
    record {
      form = (omega (arith, atom_below, fits), (has_some some.0 set some.1, set_rises bound 0 set fits rise set_below (λ v i. omega arith)), order_form bound clause fits is);
      below = λ var i.
          ⊎_elim
          (λ (e : atom ≡ var). subst (λ (v : ℕ). v < bound) e atom_below)
          (λ m. ⊎_elim (λ l. set_below var l) (λ r. order_below bound clause is var r) (In-append_cases var set (map (λ (lit : Lit). lit.var) (in_order clause)) m))
          i;
    }
