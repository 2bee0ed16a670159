-- A program has one first cause.
use Rattle.std.proofs.Common.{◌≡◌, ℕ, ◌<◌, List, Some, sym, ap, subst, ◌∙◌, ◌⊎◌, inl, inr, ⊎_elim, arith}
use Rattle.std.specs.Prelude.{slice_get}
use Rattle.std.proofs.lemmas.Bool.{cases_order}
use Rattle.tel_rule.specs.declared.statements.Kind.{Kind}
use Rattle.tel_rule.specs.declared.statements.Kind.TheVariants as kinds
use Rattle.tel_rule.specs.declared.statements.Statement.{Statement}
use Rattle.tel_rule.specs.declared.statements.Program.{Program}
use Rattle.tel_semantics.specs.Tables.{is_table}
use Rattle.rule_binding.proofs.Bodies.{one_unbound}
use Rattle.rule_constants.specs.Constants.{IsFaultyConstant}
use Rattle.rule_check.specs.declared.faults.CheckFault.{CheckFault}
use Rattle.rule_check.specs.declared.faults.CheckFault.TheVariants as causes
use Rattle.rule_check.specs.Causes.{IsUnbound, IsCause, rank, IsSound, IsFirstCause}
use Rattle.rule_check.proofs.FirstCauses.{get-in}

faulty-name : (p : Program) (n : ℕ) (kind : Kind) (a b : List ℕ) → IsFaultyConstant p.statements p.symbols n kind a → IsFaultyConstant p.statements p.symbols n kind b → a ≡ b
faulty-name p n (kinds.Const own expr) a b x y = x.0 ∙ sym y.0
faulty-name p n (kinds.Rule head body) a b x y = absurd x
faulty-name p n (kinds.Facts fact) a b x y = absurd x
faulty-name p n (kinds.Show shown) a b x y = absurd x

unbound-name : (p : Program) (s : Statement) (a b : List ℕ) → IsUnbound (is_table p.statements) s a → IsUnbound (is_table p.statements) s b → a ≡ b
unbound-name p s a b x y =
    let e = one_unbound (is_table p.statements) s (Some x.0) (Some y.0) x.1 y.1 in
    let v : x.0 ≡ y.0 = cc in
    let at : slice_get s.vars x.0 ≡ Some b = ap (slice_get s.vars) v ∙ y.2 in
    let both : Some a ≡ Some b = sym x.2 ∙ at in
    cc

-- two causes of one statement that have one rank are one
one_rank : (p : Program) (n : ℕ) (s : Statement) (a b : CheckFault) → rank a ≡ rank b → IsCause p n s a → IsCause p n s b → a ≡ b
one_rank p n s (causes.Unbound q x) (causes.Unbound r y) e i j = let place : q ≡ r = i.0 ∙ sym j.0 in let name = unbound-name p s x y i.1 j.1 in cc
one_rank p n s (causes.Unbound q x) (causes.Arrow r) e i j = absurd (omega (arith, e))
one_rank p n s (causes.Unbound q x) (causes.Prime r) e i j = absurd (omega (arith, e))
one_rank p n s (causes.Unbound q x) (causes.Const r y) e i j = absurd (omega (arith, e))
one_rank p n s (causes.Unbound q x) causes.Memory e i j = absurd j
one_rank p n s (causes.Arrow q) (causes.Unbound r y) e i j = absurd (omega (arith, e))
one_rank p n s (causes.Arrow q) (causes.Arrow r) e i j = ap (λ x. causes.Arrow x) (i.0 ∙ sym j.0)
one_rank p n s (causes.Arrow q) (causes.Prime r) e i j = absurd (omega (arith, e))
one_rank p n s (causes.Arrow q) (causes.Const r y) e i j = absurd (omega (arith, e))
one_rank p n s (causes.Arrow q) causes.Memory e i j = absurd j
one_rank p n s (causes.Prime q) (causes.Unbound r y) e i j = absurd (omega (arith, e))
one_rank p n s (causes.Prime q) (causes.Arrow r) e i j = absurd (omega (arith, e))
one_rank p n s (causes.Prime q) (causes.Prime r) e i j = ap (λ x. causes.Prime x) (i.0 ∙ sym j.0)
one_rank p n s (causes.Prime q) (causes.Const r y) e i j = absurd (omega (arith, e))
one_rank p n s (causes.Prime q) causes.Memory e i j = absurd j
one_rank p n s (causes.Const q x) (causes.Unbound r y) e i j = absurd (omega (arith, e))
one_rank p n s (causes.Const q x) (causes.Arrow r) e i j = absurd (omega (arith, e))
one_rank p n s (causes.Const q x) (causes.Prime r) e i j = absurd (omega (arith, e))
one_rank p n s (causes.Const q x) (causes.Const r y) e i j = let place : q ≡ r = i.0 ∙ sym j.0 in let name = faulty-name p n s.kind x y i.1 j.1 in cc
one_rank p n s (causes.Const q x) causes.Memory e i j = absurd j
one_rank p n s causes.Memory b e i j = absurd i

order : (a b : ℕ) → (a < b) ⊎ ((a ≡ b) ⊎ (b < a))
order a b = ⊎_elim (λ (e : a ≡ b). inr (inl e)) (λ m. ⊎_elim (λ (l : a < b). inl l) (λ (l : b < a). inr (inr l)) m) (cases_order a b)

pub one_cause : (p : Program) (a b : CheckFault) → IsFirstCause p a → IsFirstCause p b → a ≡ b
one_cause p a b x y = by_number (order x.number y.number)
  where
    same_statement : x.number ≡ y.number → IsCause p x.number x.statement b
    same_statement e =
        let there : Some x.statement ≡ Some y.statement = sym x.at ∙ ap (slice_get p.statements) e ∙ y.at in
        let s : x.statement ≡ y.statement = cc in
        subst (λ (n : ℕ). IsCause p n x.statement b) (sym e) (subst (λ (t : Statement). IsCause p y.number t b) (sym s) y.is)

    same_other : x.number ≡ y.number → IsCause p y.number y.statement a
    same_other e =
        let there : Some x.statement ≡ Some y.statement = sym x.at ∙ ap (slice_get p.statements) e ∙ y.at in
        let s : x.statement ≡ y.statement = cc in
        subst (λ (n : ℕ). IsCause p n y.statement a) e (subst (λ (t : Statement). IsCause p x.number t a) s x.is)

    by_number : (x.number < y.number) ⊎ ((x.number ≡ y.number) ⊎ (y.number < x.number)) → a ≡ b
    by_number (inl l) = absurd (y.before x.number x.statement l x.at a x.is)
    by_number (inr (inr l)) = absurd (x.before y.number y.statement l y.at b y.is)
    by_number (inr (inl e)) = ⊎_elim (λ (l : rank a < rank b). absurd (y.first a l (same_other e))) (λ m. ⊎_elim (λ (r : rank a ≡ rank b). one_rank p x.number x.statement a b r x.is (same_statement e)) (λ (l : rank b < rank a). absurd (x.first b l (same_statement e))) m) (order (rank a) (rank b))

pub sound_none : (p : Program) (cause : CheckFault) → IsSound p → IsFirstCause p cause → ⊥
sound_none p cause sound first = sound first.number first.statement (get-in p.statements first.number first.statement first.at) first.at cause first.is
