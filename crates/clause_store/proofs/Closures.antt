-- The closure under the unit rule, as a set that grows.
use Rattle.std.proofs.Common.{◌≡◌, Bool, true, false, cond, not, ◌||◌, List, refl, sym, ap, ◌∙◌, inl, inr, ⊎_elim}
use Rattle.std.specs.Prelude.{◌==◌}
use Rattle.std.proofs.lemmas.Bool.{and_parts, and_from, or_cases, false≢true, eqb-true, eq-eqb}
use Rattle.tel_base.specs.declared.literals.Lit.{Lit}
use Rattle.tel_base.specs.Literals.{negate}
use Rattle.clause_store.specs.Closure.{In, Clause, same_lit, others, refutes, keeps_unit, Up, Conflict}
use Rattle.tel_base.proofs.Members.{In-list_all, list_all-from_In}

same_bool : (a b : Bool) → cond a b (not b) ≡ true → a ≡ b
same_bool true b h = sym h
same_bool false true h = h
same_bool false false h = refl

pub same_lit-true : (a b : Lit) → same_lit a b ≡ true → a ≡ b
same_lit-true a b h =
    let p = and_parts (a.var == b.var) (cond a.positive b.positive (not b.positive)) h in
    let v = eqb-true a.var b.var p.0 in
    let s = same_bool a.positive b.positive p.1 in
    λ i. record { var = v i; positive = s i }

same_self : (b : Bool) → cond b b (not b) ≡ true
same_self true = refl
same_self false = refl

pub same_lit-self : (lit : Lit) → same_lit lit lit ≡ true
same_lit-self lit = and_from (lit.var == lit.var) (cond lit.positive lit.positive (not lit.positive)) (eq-eqb lit.var lit.var refl) (same_self lit.positive)

pub up_start : (clauses : List Clause) (start : List Lit) (lit : Lit) → In lit start → Up clauses start lit
up_start clauses start lit i X h k = In-list_all X lit start h i

pub up_keeps : (clauses : List Clause) (start : List Lit) (clause : Clause) (lit : Lit) → In clause clauses → In lit clause → ((other : Lit) → In other (others lit clause) → Up clauses start (negate other)) → Up clauses start lit
up_keeps clauses start clause lit i m negated X h k =
    let unit = In-list_all (λ (l : Lit). X l || not (refutes X (others l clause))) lit clause (In-list_all (keeps_unit X) clause clauses k i) m in
    let all : refutes X (others lit clause) ≡ true = list_all-from_In (λ (l : Lit). X (negate l)) (others lit clause) (λ other j. negated other j X h k) in
    ⊎_elim (λ t. t) (λ (u : not (refutes X (others lit clause)) ≡ true). absurd (false≢true (sym (ap not all) ∙ u))) (or_cases (X lit) (not (refutes X (others lit clause))) unit)

pub up_grows : (clauses more : List Clause) (start wider : List Lit) → ((clause : Clause) → In clause clauses → In clause more) → ((lit : Lit) → In lit start → Up more wider lit) → (lit : Lit) → Up clauses start lit → Up more wider lit
up_grows clauses more start wider sub has lit up X h k =
    up X (list_all-from_In X start (λ l i. has l i X h k)) (list_all-from_In (keeps_unit X) clauses (λ clause i. In-list_all (keeps_unit X) clause more k (sub clause i)))

pub conflict_grows : (clauses more : List Clause) (start wider : List Lit) → ((clause : Clause) → In clause clauses → In clause more) → ((lit : Lit) → In lit start → Up more wider lit) → Conflict clauses start → Conflict more wider
conflict_grows clauses more start wider sub has clash =
    let on = up_grows clauses more start wider sub has in
    ⊎_elim (λ (two : (lit : Lit) × Up clauses start lit × Up clauses start (negate lit)). inl (two.0, on two.0 two.1, on (negate two.0) two.2)) (λ (one : (clause : Clause) × In clause clauses × ((lit : Lit) → In lit clause → Up clauses start (negate lit))). inr (one.0, sub one.0 one.1, λ lit i. on (negate lit) (one.2 lit i))) clash
