-- Where one of two lists ends, their lengths decide.
use Rattle.std.proofs.Common.{◌≡◌, ◌⊎◌, inl, inr, ℕ, zero, suc, ◌<◌, ◌≤◌, List, [], ◌∷◌, length, drop, refl, sym, ap, ◌∙◌, ⊎_elim, arith}
use Rattle.std.specs.Ordering.{nat_cmp}
use Rattle.std.specs.Cmp.Lexicographic.{slice_cmp}
use Rattle.std.specs.declared.cmp.Ordering.{Ordering}
use Rattle.std.specs.declared.cmp.Ordering.TheVariants.{Less, Equal, Greater}
use Rattle.std.proofs.lemmas.Bool.{cases_order}
use Rattle.tel_term.specs.declared.terms.Value.{Value}

pub cmp_less : (x y : ℕ) → x < y → nat_cmp x y ≡ Less
cmp_less x y l = grind (arith)

pub cmp_equal : (x y : ℕ) → x ≡ y → nat_cmp x y ≡ Equal
cmp_equal x y e = grind (arith)

pub cmp_greater : (x y : ℕ) → y < x → nat_cmp x y ≡ Greater
cmp_greater x y l = grind (arith)

cmp_suc : (x y : ℕ) → nat_cmp x y ≡ nat_cmp (suc x) (suc y)
cmp_suc x y =
    ⊎_elim (λ e. cmp_equal x y e ∙ sym (cmp_equal (suc x) (suc y) (ap suc e)))
    (λ o. ⊎_elim (λ l. cmp_less x y l ∙ sym (cmp_less (suc x) (suc y) (omega (arith, l)))) (λ g. cmp_greater x y g ∙ sym (cmp_greater (suc x) (suc y) (omega (arith, g)))) o)
    (cases_order x y)

pub ends : (R : Value → Value → Ordering) (a b : List Value) (n : ℕ) → (n ≡ length a) ⊎ (n ≡ length b) → n ≤ length a → n ≤ length b → slice_cmp R (drop n a) (drop n b) ≡ nat_cmp (length a) (length b)
ends R [] [] zero e l m = refl
ends R [] (y ∷ b) zero e l m = sym (cmp_less 0 (length (y ∷ b)) (omega arith))
ends R (x ∷ a) [] zero e l m = sym (cmp_greater (length (x ∷ a)) 0 (omega arith))
ends R (x ∷ a) (y ∷ b) zero e l m = absurd (⊎_elim (λ p. omega (arith, p)) (λ p. omega (arith, p)) e)
ends R [] b (suc n) e l m = absurd (omega (arith, l))
ends R (x ∷ a) [] (suc n) e l m = absurd (omega (arith, m))
ends R (x ∷ a) (y ∷ b) (suc n) e l m =
    ends R a b n (⊎_elim (λ p. inl (omega (arith, p))) (λ p. inr (omega (arith, p))) e) (omega (arith, l)) (omega (arith, m)) ∙ cmp_suc (length a) (length b)
