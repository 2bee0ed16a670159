-- A list without doubles is at most as long as any that has its members.
use Rattle.std.proofs.Common.{◌≡◌, inl, inr, ◌≤◌, List, [], ◌∷◌, ◌++◌, length, refl, sym, ap, subst, ⊎_elim, arith}
use Rattle.std.proofs.lemmas.List.{length-append}
use Rattle.tel_base.specs.Members.{In}
use Rattle.join_plans.specs.Once.{IsOnce}
use Rattle.join_plans.proofs.Exact.{has_left, has_right, has_cases}

record Split {X : Type 0} (ys : List X) (x : X) : Type 0 where
  pub front : List X
  pub back : List X
  pub is : ys ≡ front ++ x ∷ back

split : {X : Type 0} (ys : List X) (x : X) → In x ys → Split ys x
split [] x h = absurd h
split {X} (y ∷ ys) x h =
    ⊎_elim
    (λ e. record { front = []; back = ys; is = ap (λ (z : X). z ∷ ys) e })
    (λ m. let s = split ys x m in record { front = y ∷ s.front; back = s.back; is = ap (λ (l : List X). y ∷ l) s.is })
    h

without : {X : Type 0} (front back : List X) (x z : X) → (x ≡ z → ⊥) → In z (front ++ x ∷ back) → In z (front ++ back)
without front back x z apart h =
    ⊎_elim (λ l. has_left front back z l) (λ r. ⊎_elim (λ e. absurd (apart e)) (λ b. has_right front back z b) r) (has_cases front (x ∷ back) z h)

pub fewer : {X : Type 0} (xs ys : List X) → IsOnce xs → ((x : X) → In x xs → In x ys) → length xs ≤ length ys
fewer [] ys once sub = omega arith
fewer {X} (x ∷ xs) ys once sub =
    let s = split ys x (sub x (inl refl)) in
    let rest = fewer xs (s.front ++ s.back) once.1 (λ z h. without s.front s.back x z
    (λ e. once.0 (subst (λ (w : X). In w xs) (sym e) h))
    (subst (λ (l : List X). In z l) s.is (sub z (inr h)))) in
    let one = ap length s.is in
    let two = length-append s.front (x ∷ s.back) in
    let three = length-append s.front s.back in
    omega (arith, rest, one, two, three)
