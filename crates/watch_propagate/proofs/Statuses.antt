-- What the status of a clause says.
use Rattle.std.proofs.Common.{◌≡◌, ℕ, Bool, true, false, not, ◌&&◌, ◌||◌, List, [], ◌∷◌, refl, sym, ap, subst, inl, inr, ◌∙◌, ⊎_elim}
use Rattle.std.specs.Prelude.{if◌then◌else◌, Option, Some, None, ◌==◌, nat_lt, ◌⊎◌, length}
use Rattle.std.specs.List.{list_any}
use Rattle.std.proofs.lemmas.Bool.{and_parts, or_left, or_right, false≢true, not-true, not_from_false}
use Rattle.tel_base.specs.declared.literals.Lit.{Lit}
use Rattle.tel_base.specs.Literals.{negate}
use Rattle.clause_store.specs.Held.{lacks, are_distinct, is_clause}
use Rattle.clause_store.specs.Closure.{In, same_lit, others, refutes, TwoOpen, IsSettled}
use Rattle.tel_base.proofs.Members.{list_all-from_In, In-filter_from}
use Rattle.clause_store.proofs.Closures.{same_lit-self}
use Rattle.lit_trail.specs.declared.assignment.Spot.{Spot}
use Rattle.lit_trail.specs.declared.assignment.Entry.{Entry}
use Rattle.lit_trail.specs.Entries.{spot_in, spot_value, value_in, same_sign}
use Rattle.lit_trail.specs.Sound.{holds, is_true}
use Rattle.watch_propagate.specs.declared.examining.Examined.{Examined}
use Rattle.watch_propagate.specs.declared.examining.Examined.TheVariants as found
use Rattle.watch_propagate.specs.Status.{status, status_at}

-- the value of the opposite literal
flipped : Option Bool → Option Bool
flipped None = None
flipped (Some value) = Some (not value)

sign_not : (a b : Bool) → same_sign a (not b) ≡ not (same_sign a b)
sign_not true b = refl
sign_not false b = refl

other_value : (entries : List Entry) (lit : Lit) → value_in entries (negate lit) ≡ flipped (value_in entries lit)
unfolding flipped
other_value entries lit =
    elim (spot_in entries lit.var) as (λ (o : Option Spot). spot_value (not lit.positive) o ≡ flipped (spot_value lit.positive o)) [
      | None ↦ refl
      | Some spot ↦ ap Some (sign_not spot.positive lit.positive)
    ]

false_holds : (entries : List Entry) (lit : Lit) → value_in entries lit ≡ Some false → holds entries (negate lit) ≡ true
unfolding flipped
false_holds entries lit v = ap is_true (other_value entries lit ∙ ap flipped v)

none_open : (entries : List Entry) (lit : Lit) → value_in entries lit ≡ None → holds entries (negate lit) ≡ false
unfolding flipped
none_open entries lit v = ap is_true (other_value entries lit ∙ ap flipped v)

-- ---- settled

open_pair : (entries : List Entry) (clause : List Lit) (first second : Lit) → value_in entries first ≡ None → value_in entries second ≡ None → (second.var == first.var) ≡ false → In first clause → In second clause → TwoOpen (holds entries) clause
open_pair entries clause first second a b apart i j =
    record {
      first = second;
      second = first;
      apart = not_from_false (same_lit second first) (ap (λ (t : Bool). t && (if second.positive then first.positive else not first.positive)) apart);
      has_first = j;
      has_second = i;
      first_open = none_open entries second b;
      second_open = none_open entries first a;
    }

settled_more : (entries : List Entry) (m : Lit) (more : List Lit) → IsSettled (holds entries) more → IsSettled (holds entries) (m ∷ more)
settled_more entries m more h =
    ⊎_elim (λ some. inl (or_right (holds entries m) (list_any (holds entries) more) some)) (λ (two : TwoOpen (holds entries) more). inr (record { first = two.first; second = two.second; apart = two.apart; has_first = inr two.has_first; has_second = inr two.has_second; first_open = two.first_open; second_open = two.second_open })) h

between : (first m : Lit) (more : List Lit) (lit : Lit) → In lit (first ∷ more) → In lit (first ∷ m ∷ more)
between first m more lit i = ⊎_elim (λ e. inl e) (λ r. inr (inr r)) i

settled_some : (entries : List Entry) (clause : List Lit) (first : Lit) → status entries clause (Some first) ≡ found.Settled → value_in entries first ≡ None → lacks first.var clause ≡ true → IsSettled (holds entries) (first ∷ clause)
settled_some entries [] first h v l = absurd (cc)
settled_some entries (m ∷ more) first h v l =
    let out = and_parts (not (m.var == first.var)) (lacks first.var more) l in
    (elim (value_in entries m) as (λ (o : Option Bool). value_in entries m ≡ o → status_at o (Some first) (status entries more (Some first)) (status entries more (Some m)) ≡ found.Settled → IsSettled (holds entries) (first ∷ m ∷ more)) [
      | None ↦ λ w s. inr (open_pair entries (first ∷ m ∷ more) first m v w (not-true (m.var == first.var) out.0) (inl refl) (inr (inl refl)))
      | Some true ↦ λ w s. inl (or_right (holds entries first) (holds entries m || list_any (holds entries) more) (or_left (holds entries m) (list_any (holds entries) more) (ap is_true w)))
      | Some false ↦ λ w s. ⊎_elim (λ (some : list_any (holds entries) (first ∷ more) ≡ true).
          let here : holds entries first ≡ false = ap is_true v in
          inl (or_right (holds entries first) (holds entries m || list_any (holds entries) more) (or_right (holds entries m) (list_any (holds entries) more) (sym (ap (λ (b : Bool). b || list_any (holds entries) more) here) ∙ some)))) (λ (two : TwoOpen (holds entries) (first ∷ more)).
          inr (record { first = two.first; second = two.second; apart = two.apart; has_first = between first m more two.first two.has_first; has_second = between first m more two.second two.has_second; first_open = two.first_open; second_open = two.second_open })) (settled_some entries more first s v out.1)
    ]) refl h

settled_distinct : (entries : List Entry) (vars : ℕ) (clause : List Lit) → status entries clause None ≡ found.Settled → are_distinct vars clause ≡ true → IsSettled (holds entries) clause
settled_distinct entries vars [] h l = absurd (cc)
settled_distinct entries vars (m ∷ more) h l =
    let both = and_parts (nat_lt m.var vars) (lacks m.var more && are_distinct vars more) l in
    let out = and_parts (lacks m.var more) (are_distinct vars more) both.1 in
    (elim (value_in entries m) as (λ (o : Option Bool). value_in entries m ≡ o → status_at o None (status entries more None) (status entries more (Some m)) ≡ found.Settled → IsSettled (holds entries) (m ∷ more)) [
      | None ↦ λ w s. settled_some entries more m s w out.0
      | Some true ↦ λ w s. inl (or_left (holds entries m) (list_any (holds entries) more) (ap is_true w))
      | Some false ↦ λ w s. settled_more entries m more (settled_distinct entries vars more s out.1)
    ]) refl h

pub settled_none : (entries : List Entry) (vars : ℕ) (clause : List Lit) → status entries clause None ≡ found.Settled → is_clause vars clause ≡ true → IsSettled (holds entries) clause
settled_none entries vars clause h l =
    settled_distinct entries vars clause h (and_parts (nat_lt 0 (length clause)) (are_distinct vars clause) l).1

-- ---- one literal left

unit_lit : Examined → Lit → Lit
unit_lit (found.Unit lit) other = lit
unit_lit found.False other = other
unit_lit found.Settled other = other

same_unit : (a b : Lit) → found.Unit a ≡ found.Unit b → a ≡ b
unfolding unit_lit
same_unit a b h = ap (λ (x : Examined). unit_lit x a) h

-- each literal is this one or false
abbrev Left : List Entry → List Lit → Lit → Type 0
Left entries clause lit = (k : Lit) → In k clause → (k ≡ lit) ⊎ (holds entries (negate k) ≡ true)

unit_some : (entries : List Entry) (clause : List Lit) (first lit : Lit) → status entries clause (Some first) ≡ found.Unit lit → (first ≡ lit) × Left entries clause lit
unit_some entries [] first lit h = (same_unit first lit h, λ k i. absurd i)
unit_some entries (m ∷ more) first lit h =
    (elim (value_in entries m) as (λ (o : Option Bool). value_in entries m ≡ o → status_at o (Some first) (status entries more (Some first)) (status entries more (Some m)) ≡ found.Unit lit → (first ≡ lit) × Left entries (m ∷ more) lit) [
      | None ↦ λ v s. absurd (cc)
      | Some true ↦ λ v s. absurd (cc)
      | Some false ↦ λ v s. let rest = unit_some entries more first lit s in (rest.0, λ k i. ⊎_elim (λ (e : m ≡ k). inr (subst (λ (x : Lit). holds entries (negate x) ≡ true) e (false_holds entries m v))) (λ r. rest.1 k r) i)
    ]) refl h

pub record IsUnit (entries : List Entry) (clause : List Lit) (lit : Lit) : Type 0 where
  pub held : In lit clause
  pub free : value_in entries lit ≡ None
  pub left : (k : Lit) → In k clause → (k ≡ lit) ⊎ (holds entries (negate k) ≡ true)

pub unit_none : (entries : List Entry) (clause : List Lit) (lit : Lit) → status entries clause None ≡ found.Unit lit → IsUnit entries clause lit
unit_none entries [] lit h = absurd (cc)
unit_none entries (m ∷ more) lit h =
    (elim (value_in entries m) as (λ (o : Option Bool). value_in entries m ≡ o → status_at o None (status entries more None) (status entries more (Some m)) ≡ found.Unit lit → IsUnit entries (m ∷ more) lit) [
      | None ↦ λ v s.
          let rest = unit_some entries more m lit s in
          record {
            held = inl rest.0;
            free = subst (λ (x : Lit). value_in entries x ≡ None) rest.0 v;
            left = λ k i. ⊎_elim (λ (e : m ≡ k). inl (sym e ∙ rest.0)) (λ r. rest.1 k r) i;
          }
      | Some true ↦ λ v s. absurd (cc)
      | Some false ↦ λ v s.
          let rest = unit_none entries more lit s in
          record {
            held = inr rest.held;
            free = rest.free;
            left = λ k i. ⊎_elim (λ (e : m ≡ k). inr (subst (λ (x : Lit). holds entries (negate x) ≡ true) e (false_holds entries m v))) (λ r. rest.left k r) i;
          }
    ]) refl h

-- so its other literals are false
pub unit_others : (entries : List Entry) (clause : List Lit) (lit : Lit) → IsUnit entries clause lit → refutes (holds entries) (others lit clause) ≡ true
unit_others entries clause lit is =
    list_all-from_In (λ (k : Lit). holds entries (negate k)) (others lit clause) (λ k i.
    let w = In-filter_from (λ (x : Lit). not (same_lit x lit)) k clause i in
    ⊎_elim (λ (e : k ≡ lit). absurd (false≢true (sym (not-true (same_lit k lit) w.1) ∙ ap (λ (x : Lit). same_lit k x) (sym e) ∙ same_lit-self k))) (λ t. t) (is.left k w.0))

-- ---- false

no_false : (entries : List Entry) (clause : List Lit) (first : Lit) → status entries clause (Some first) ≡ found.False → ⊥
no_false entries [] first h = cc
no_false entries (m ∷ more) first h =
    (elim (value_in entries m) as (λ (o : Option Bool). status_at o (Some first) (status entries more (Some first)) (status entries more (Some m)) ≡ found.False → ⊥) [
      | None ↦ λ s. cc
      | Some true ↦ λ s. cc
      | Some false ↦ λ s. no_false entries more first s
    ]) h

pub false_none : (entries : List Entry) (clause : List Lit) → status entries clause None ≡ found.False → refutes (holds entries) clause ≡ true
false_none entries [] h = refl
false_none entries (m ∷ more) h =
    (elim (value_in entries m) as (λ (o : Option Bool). value_in entries m ≡ o → status_at o None (status entries more None) (status entries more (Some m)) ≡ found.False → refutes (holds entries) (m ∷ more) ≡ true) [
      | None ↦ λ v s. absurd (no_false entries more m s)
      | Some true ↦ λ v s. absurd (cc)
      | Some false ↦ λ v s. (λ i. false_holds entries m v i && false_none entries more s i)
    ]) refl h
