-- How a list is read, entry by entry.
use Rattle.std.proofs.Common.{◌≡◌, ℕ, ◌≤◌, Bool, true, false, List, [], ◌∷◌, ◌++◌, Option, Some, None, length, map, refl, sym, ap, subst, ◌∙◌, arith, append_assoc, append-nil}
use Rattle.std.proofs.lemmas.List.{map-append}
use Rattle.tel_base.specs.declared.literals.Lit.{Lit}
use Rattle.tel_base.specs.Literals.{lit_of}
use Rattle.proof_log.specs.Lines.{lit_number}
use Rattle.proof_log.specs.Parts.{AnyOf, Then, IsEntry, IsList}
use Rattle.proof_log.specs.Texts.{StopsAt, StandsAt}
use Rattle.proof_log.proofs.Numerals.{number-free}
use Rattle.proof_log.proofs.Entries.{closed, negative, positive, first-of, entry-some}
use Rattle.proof_log.proofs.Sequences.{IsPrefixFree, stands-then, stops-at-same, stops-at-first, stops-at-second}

lit_number_same : (a b : Lit) → lit_number a ≡ lit_number b → a.positive ≡ b.positive → a ≡ b
lit_number_same a b n p =
    let v : a.var ≡ b.var = omega (arith, n) in
    λ i. record { var = v i; positive = p i }

-- no entry is a front of another
pub entry-free : (signed : Bool) (low end : ℕ) → IsPrefixFree (IsEntry signed low end)
entry-free signed low end x y [] b r s is also e = absurd (entry-some signed low end x is)
entry-free signed low end x y (byte ∷ a) [] r s is also e = absurd (entry-some signed low end y also)
entry-free signed low end x y (byte ∷ a) (other ∷ b) r s is also e =
    let head : byte ≡ other = cc in
    let tails : a ++ r ≡ b ++ s = cc in
    elim (first-of signed low end x byte a is) [
      | closed none at_zero ends some ↦ elim (first-of signed low end y other b also) [
        | closed none' at_zero' ends' some' ↦ (none ∙ sym none', ap (λ (t : List ℕ). byte ∷ t) (ends ∙ sym ends') ∙ ap (λ (z : ℕ). z ∷ b) head)
        | negative _ _ _ _ sign' _ ↦ absurd (omega (arith, head, at_zero, sign'))
        | positive _ _ _ above' _ _ ↦ absurd (omega (arith, head, at_zero, above'))
      ]
      | negative lit is_lit minus with_signs sign number ↦ elim (first-of signed low end y other b also) [
        | closed _ at_zero' _ _ ↦ absurd (omega (arith, head, at_zero', sign))
        | negative lit' is_lit' minus' _ sign' number' ↦
            let same = number-free low 32 (omega arith) (lit_number lit) (lit_number lit') a b r s number number' tails in
            (is_lit ∙ ap Some (lit_number_same lit lit' same.0 (minus ∙ sym minus')) ∙ sym is_lit', ap (λ (t : List ℕ). byte ∷ t) same.1 ∙ ap (λ (z : ℕ). z ∷ b) head)
        | positive _ _ _ above' _ _ ↦ absurd (omega (arith, head, sign, above'))
      ]
      | positive lit is_lit plus above below number ↦ elim (first-of signed low end y other b also) [
        | closed _ at_zero' _ _ ↦ absurd (omega (arith, head, at_zero', above))
        | negative _ _ _ _ sign' _ ↦ absurd (omega (arith, head, sign', above))
        | positive lit' is_lit' plus' _ _ number' ↦
            let same = number-free low 32 (omega arith) (lit_number lit) (lit_number lit') (byte ∷ a) (other ∷ b) r s number number' e in
            (is_lit ∙ ap Some (lit_number_same lit lit' same.0 (plus ∙ sym plus')) ∙ sym is_lit', same.1)
      ]
    ]

-- what stands behind an entry of a list
abbrev pub AfterEntry : Bool → ℕ → Option Lit → List ℕ → Type 0
AfterEntry signed end None text = text ≡ []
AfterEntry signed end (Some lit) text = AnyOf (IsList signed (lit_number lit) end) text

list-to : (signed : Bool) (low end : ℕ) (text : List ℕ) → Then (IsEntry signed low end) (AfterEntry signed end) text → AnyOf (IsList signed low end) text
list-to signed low end text (None, a, b, e, is, rest) =
    ([], subst (λ t. IsEntry signed low end None t) (sym (e ∙ ap (λ t. a ++ t) rest ∙ append-nil a)) is)
list-to signed low end text (Some lit, a, b, e, is, rest) = (lit ∷ rest.0, (a, b, e, is, rest.1))

list-from : (signed : Bool) (low end : ℕ) (text : List ℕ) → AnyOf (IsList signed low end) text → Then (IsEntry signed low end) (AfterEntry signed end) text
list-from signed low end text ([], is) = (None, text, [], sym (append-nil text), is, refl)
list-from signed low end text (lit ∷ lits, is) = (Some lit, is.0, is.1, is.2, is.3, (lits, is.4))

list-live : (signed : Bool) (low end : ℕ) (entry : Option Lit) (a : List ℕ) → IsEntry signed low end entry a → (b : List ℕ) × AfterEntry signed end entry b
list-live signed low end None a is = ([], refl)
list-live signed low end (Some lit) a is = (48 ∷ end ∷ [], ([], (omega arith, refl)))

-- a list is read up to a place, behind the number `low`
pub record IsListing (signed : Bool) (end : ℕ) (bytes : List ℕ) (at place low : ℕ) (done : List Lit) : Type 0 where
  pub within : place ≤ length bytes
  pub stands : (lits : List Lit) (after : ℕ) → StandsAt (IsList signed low end lits) bytes place after → StandsAt (IsList signed 0 end (done ++ lits)) bytes at after
  pub stops : (stop : ℕ) → StopsAt (AnyOf (IsList signed low end)) bytes place stop → StopsAt (AnyOf (IsList signed 0 end)) bytes at stop

pub listing-start : (signed : Bool) (end : ℕ) (bytes : List ℕ) (at : ℕ) → at ≤ length bytes → IsListing signed end bytes at at 0 []
listing-start signed end bytes at within = record { within = within; stands = λ lits after s. s; stops = λ stop s. s }

pub listing-more : (signed : Bool) (end : ℕ) (bytes : List ℕ) (at place after low : ℕ) (done : List Lit) (lit : Lit) → IsListing signed end bytes at place low done
    → StandsAt (IsEntry signed low end (Some lit)) bytes place after → IsListing signed end bytes at after (lit_number lit) (done ++ lit ∷ [])
listing-more signed end bytes at place after low done lit l s = record {
  within = s.within;
  stands = λ lits behind t.
      subst (λ all. StandsAt (IsList signed 0 end all) bytes at behind) (sym (append_assoc done (lit ∷ []) lits))
      (l.stands (lit ∷ lits) behind (stands-then (IsEntry signed low end (Some lit)) (IsList signed (lit_number lit) end lits) (IsList signed low end (lit ∷ lits)) (λ a b i k. (a, b, refl, i, k)) bytes place after behind s t));
  stops = λ stop t.
      l.stops stop (stops-at-same (Then (IsEntry signed low end) (AfterEntry signed end)) (AnyOf (IsList signed low end)) (list-to signed low end) (list-from signed low end) bytes place stop
      (stops-at-second (IsEntry signed low end) (AfterEntry signed end) (entry-free signed low end) (Some lit) bytes place after stop s t));
}

pub listing-done : (signed : Bool) (end : ℕ) (bytes : List ℕ) (at place after low : ℕ) (done : List Lit) → IsListing signed end bytes at place low done
    → StandsAt (IsEntry signed low end None) bytes place after → StandsAt (IsList signed 0 end done) bytes at after
listing-done signed end bytes at place after low done l s =
    subst (λ all. StandsAt (IsList signed 0 end all) bytes at after) (append-nil done) (l.stands [] after s)

pub listing-stuck : (signed : Bool) (end : ℕ) (bytes : List ℕ) (at place stop low : ℕ) (done : List Lit) → IsListing signed end bytes at place low done
    → StopsAt (AnyOf (IsEntry signed low end)) bytes place stop → StopsAt (AnyOf (IsList signed 0 end)) bytes at stop
listing-stuck signed end bytes at place stop low done l s =
    l.stops stop (stops-at-same (Then (IsEntry signed low end) (AfterEntry signed end)) (AnyOf (IsList signed low end)) (list-to signed low end) (list-from signed low end) bytes place stop
    (stops-at-first (IsEntry signed low end) (AfterEntry signed end) bytes place stop (list-live signed low end) s))

-- the same of a set, whose variables are read as positive literals
lit_of-var : (lit : Lit) → lit.positive ≡ true → lit_of lit.var ≡ lit
lit_of-var lit plus = λ i. record { var = lit.var; positive = sym plus i }

pub set-more : (set : List ℕ) (var : ℕ) → map lit_of (set ++ var ∷ []) ≡ map lit_of set ++ lit_of var ∷ []
set-more set var = map-append lit_of set (var ∷ [])

pub setting-more : (end : ℕ) (bytes : List ℕ) (at place after low : ℕ) (set : List ℕ) (lit : Lit) → IsListing false end bytes at place low (map lit_of set)
    → StandsAt (IsEntry false low end (Some lit)) bytes place after → IsListing false end bytes at after (lit_number lit) (map lit_of (set ++ lit.var ∷ []))
setting-more end bytes at place after low set lit l s =
    let plus : lit.positive ≡ true = s.is.2 refl in
    subst (λ all. IsListing false end bytes at after (lit_number lit) all)
    (ap (λ (x : Lit). map lit_of set ++ x ∷ []) (sym (lit_of-var lit plus)) ∙ sym (set-more set lit.var))
    (listing-more false end bytes at place after low (map lit_of set) lit l s)
