-- The order of terms is total, and level terms are one.
use Rattle.std.proofs.Common.{◌≡◌, ◌↔◌, ℕ, true, List, [], length, ℤ, pos, Some, refl, sym, ap, ◌∙◌, subst}
use Rattle.std.proofs.lemmas.Bool.{ltb-true}
use Rattle.std.proofs.lemmas.Cmp.{on_total, then_total, nat_cmp_total, int_cmp_total, nat_list_cmp_total, tied_itself}
use Rattle.std.proofs.lemmas.Map.Lookups.{exact_signed, exact_bytes}
use Rattle.std.proofs.lemmas.Option.{slice_get-get_or}
use Rattle.std.specs.Cmp.{IsTotalOrder}
use Rattle.std.specs.Ordering.{nat_cmp, int_cmp, ordering_then, ordering_reverse}
use Rattle.std.specs.declared.cmp.Ordering.{Ordering}
use Rattle.std.specs.declared.cmp.Ordering.TheVariants.{Less, Equal, Greater}
use Rattle.tel_term.specs.declared.terms.Term.{Term}
use Rattle.tel_term.specs.declared.terms.Term.TheVariants as terms
use Rattle.tel_term.specs.declared.terms.Value.{Value}
use Rattle.tel_term.specs.declared.terms.Value.TheVariants as values
use Rattle.tel_term.specs.Symbols.{IsTable, term_of}
use Rattle.tel_term.specs.Order.{name_cmp, term_cmp, value_in_range, term_at, value_cmp}
use Rattle.tel_term.proofs.Growth.{one-value}

-- ---- the order, part by part

abbrev kind : Term → ℕ
kind (terms.Num n) = 0
kind (terms.Name a) = 1
kind (terms.Str a) = 2

abbrev number : Term → ℤ
number (terms.Num n) = n
number (terms.Name a) = pos 0
number (terms.Str a) = pos 0

abbrev bytes : Term → List ℕ
bytes (terms.Num n) = []
bytes (terms.Name a) = a
bytes (terms.Str a) = a

abbrev by_parts : Term → Term → Ordering
by_parts a b = ordering_then (nat_cmp (kind a) (kind b)) (ordering_then (int_cmp (number a) (number b)) (name_cmp (bytes a) (bytes b)))

parts-total : IsTotalOrder by_parts
parts-total = then_total (on_total kind nat_cmp_total) (then_total (on_total number int_cmp_total) (on_total bytes nat_list_cmp_total))

then-equal : (o : Ordering) → ordering_then o Equal ≡ o
then-equal Less = refl
then-equal Equal = refl
then-equal Greater = refl

same-order : (a b : Term) → by_parts a b ≡ term_cmp a b
same-order (terms.Num m) (terms.Num n) = then-equal (int_cmp m n)
same-order (terms.Num m) (terms.Name b) = refl
same-order (terms.Num m) (terms.Str b) = refl
same-order (terms.Name a) (terms.Num n) = refl
same-order (terms.Name a) (terms.Name b) = refl
same-order (terms.Name a) (terms.Str b) = refl
same-order (terms.Str a) (terms.Num n) = refl
same-order (terms.Str a) (terms.Name b) = refl
same-order (terms.Str a) (terms.Str b) = refl

total-as : {K : Type 0} (R S : K → K → Ordering) → IsTotalOrder R → ((a b : K) → R a b ≡ S a b) → IsTotalOrder S
total-as R S o h = record {
  antisymm = λ x y. sym (h x y) ∙ o.antisymm x y ∙ ap ordering_reverse (h y x);
  trans = λ x y z p q. sym (h x z) ∙ o.trans x y z (h x y ∙ p) (h y z ∙ q);
  congr = λ x y z p. sym (h x z) ∙ o.congr x y z (h x y ∙ p) ∙ h y z;
}

pub terms-total : IsTotalOrder term_cmp
terms-total = total-as by_parts term_cmp parts-total same-order

pub values-total : (symbols : List Term) → IsTotalOrder (value_cmp symbols)
values-total symbols = on_total (term_at symbols) terms-total

-- ---- what is level

level-one : (a b : Term) → term_cmp a b ≡ Equal → a ≡ b
level-one (terms.Num m) (terms.Num n) e = ap terms.Num (exact_signed m n e)
level-one (terms.Num m) (terms.Name b) e = absurd (cc)
level-one (terms.Num m) (terms.Str b) e = absurd (cc)
level-one (terms.Name a) (terms.Num n) e = absurd (cc)
level-one (terms.Name a) (terms.Name b) e = ap terms.Name (exact_bytes a b e)
level-one (terms.Name a) (terms.Str b) e = absurd (cc)
level-one (terms.Str a) (terms.Num n) e = absurd (cc)
level-one (terms.Str a) (terms.Name b) e = absurd (cc)
level-one (terms.Str a) (terms.Str b) e = ap terms.Str (exact_bytes a b e)

pub terms-level : (a b : Term) → (term_cmp a b ≡ Equal) ↔ (a ≡ b)
terms-level a b = (level-one a b, λ e. subst (λ (x : Term). term_cmp a x ≡ Equal) e (tied_itself terms-total a))

-- a value in range stands for its term
stands-for : (symbols : List Term) (value : Value) → value_in_range symbols value ≡ true → term_of symbols value ≡ Some (term_at symbols value)
stands-for symbols (values.Num n) h = refl
stands-for symbols (values.Sym place) h = slice_get-get_or symbols place (terms.Name []) (ltb-true place (length symbols) h)

values-one : (symbols : List Term) (a b : Value) → IsTable symbols → value_in_range symbols a ≡ true → value_in_range symbols b ≡ true → value_cmp symbols a b ≡ Equal → a ≡ b
values-one symbols a b table h k e =
    let same = level-one (term_at symbols a) (term_at symbols b) e in
    let first = one-value symbols (term_at symbols a) a table.distinct table.symbols (stands-for symbols a h) in
    let second = one-value symbols (term_at symbols a) b table.distinct table.symbols (stands-for symbols b k ∙ ap Some (sym same)) in
    sym first ∙ second

pub values-level : (symbols : List Term) (a b : Value) → IsTable symbols → value_in_range symbols a ≡ true → value_in_range symbols b ≡ true → (value_cmp symbols a b ≡ Equal) ↔ (a ≡ b)
values-level symbols a b table h k =
    (values-one symbols a b table h k, λ e. subst (λ (x : Value). value_cmp symbols a x ≡ Equal) e (tied_itself (values-total symbols) a))
