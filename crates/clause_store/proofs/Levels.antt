-- Closures that don't conflict, and the clauses that a store holds.
use Rattle.std.proofs.Common.{◌≡◌, ℕ, zero, suc, ◌<◌, true, false, not, List, [], ◌∷◌, length, get_or, refl, sym, ◌∙◌, ◌⊎◌, inl, inr, ⊎_elim}
use Rattle.std.specs.List.{list_all, list_any}
use Rattle.std.proofs.lemmas.List.{get_or_default}
use Rattle.std.proofs.lemmas.Bool.{cases_Bool, false≢true}
use Rattle.tel_base.specs.declared.literals.Lit.{Lit}
use Rattle.tel_base.specs.Literals.{negate}
use Rattle.clause_store.specs.Held.{Held, held_at, clauses_in, clause_at}
use Rattle.clause_store.specs.Closure.{In, Clause, Lits, same_lit, others, refutes, Up, IsSettled, IsClosedLevel, IsClosure}
use Rattle.tel_base.proofs.Members.{In-get_or, In-list_all, list_all-from_In, In-filter_from, none_found, all_lost}
use Rattle.clause_store.proofs.Closures.{up_start, up_keeps, up_grows}
use Rattle.clause_store.proofs.Free.{settled_kept, settled_calm, calm_free}

-- a clause of a closure is settled
closure_settled : (clauses : List Clause) (start : List Lit) (X : Lits) (clause : Clause) → IsClosure clauses start X → In clause clauses → IsSettled X clause
closure_settled clauses start X clause is i =
    ⊎_elim (λ some. inl some) (λ (none : list_any X clause ≡ false).
    ⊎_elim (λ (all : refutes X clause ≡ true). absurd (is.calm (inr (clause, i, λ lit j. is.derived (negate lit) (In-list_all (λ (l : Lit). X (negate l)) lit clause all j))))) (λ (lost : refutes X clause ≡ false).
    let w = all_lost (λ (l : Lit). X (negate l)) clause lost in
    ⊎_elim (λ (rest : refutes X (others w.0 clause) ≡ true). absurd (false≢true (sym (none_found X clause w.0 none w.1) ∙ is.whole w.0 (up_keeps clauses start clause w.0 i w.1 (λ other j. is.derived (negate other) (In-list_all (λ (l : Lit). X (negate l)) other (others w.0 clause) rest j)))))) (λ (more : refutes X (others w.0 clause) ≡ false).
    let u = all_lost (λ (l : Lit). X (negate l)) (others w.0 clause) more in
    let there = In-filter_from (λ (l : Lit). not (same_lit l w.0)) u.0 clause u.1 in
    inr (record { first = u.0; second = w.0; apart = there.1; has_first = there.0; has_second = w.1; first_open = u.2; second_open = w.2 })) (cases_Bool (refutes X (others w.0 clause)))) (cases_Bool (refutes X clause))) (cases_Bool (list_any X clause))

pub closure_closed : (clauses : List Clause) (start : List Lit) (X : Lits) → IsClosure clauses start X → IsClosedLevel clauses X
closure_closed clauses start X is = record {
  one_value = λ lit a b. is.calm (inl (lit, is.derived lit a, is.derived (negate lit) b));
  settled = λ clause i. closure_settled clauses start X clause is i;
}

pub closed_closure : (clauses : List Clause) (start : List Lit) (X : Lits) → list_all X start ≡ true → ((lit : Lit) → X lit ≡ true → Up clauses start lit) → IsClosedLevel clauses X → IsClosure clauses start X
closed_closure clauses start X holds derived level =
    let keep = settled_kept clauses X level in
    record {
      derived = derived;
      whole = λ lit up. up X holds keep;
      calm = λ clash. calm_free clauses start X keep (settled_calm clauses X level) holds clash;
    }

pub closure_stays : (clauses more : List Clause) (start : List Lit) (X : Lits) → ((clause : Clause) → In clause clauses → In clause more) → ((clause : Clause) → In clause more → In clause clauses ⊎ IsSettled X clause) → IsClosure clauses start X → IsClosure more start X
closure_stays clauses more start X sub come is =
    let level = closure_closed clauses start X is in
    closed_closure more start X (list_all-from_In X start (λ lit i. is.whole lit (up_start clauses start lit i))) (λ lit x. up_grows clauses more start start sub (λ k i. up_start more start k i) lit (is.derived lit x)) (record {
      one_value = level.one_value;
      settled = λ clause i. ⊎_elim (λ old. level.settled clause old) (λ new. new) (come clause i);
    })

-- a clause that a store holds
pub at_held : (held : List Held) (place : ℕ) → (held_at held place).lits ≡ clause_at (clauses_in held) place
at_held [] place = refl
at_held (one ∷ held) zero = refl
at_held (one ∷ held) (suc place) = at_held held place

pub In-at : {X : Type 0} (xs : List X) (i : ℕ) (d : X) → i < length xs → In (get_or xs i d) xs
In-at xs i d l = In-get_or xs i (get_or xs i d) l (get_or_default xs i (get_or xs i d) d l)

pub In-clause_at : (clauses : List Clause) (place : ℕ) → place < length clauses → In (clause_at clauses place) clauses
In-clause_at clauses place l = In-at clauses place [] l
