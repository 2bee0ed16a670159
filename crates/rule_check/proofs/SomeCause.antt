-- A program is sound, or has a first cause.
use Rattle.std.proofs.Common.{◌≡◌, ℕ, zero, suc, ◌<◌, ◌≤◌, Bool, true, false, List, [], ◌∷◌, length, Option, Some, None, refl, sym, ap, subst, ◌∙◌, ◌⊎◌, inl, inr, ⊎_elim, arith}
use Rattle.std.specs.Prelude.{slice_get}
use Rattle.std.proofs.lemmas.Bool.{cases_Bool, cases_lt, cases_order, false≢true}
use Rattle.tel_rule.specs.declared.statements.Kind.{Kind}
use Rattle.tel_rule.specs.declared.statements.Kind.TheVariants as kinds
use Rattle.tel_rule.specs.declared.statements.Signature.{Signature}
use Rattle.tel_rule.specs.declared.statements.Statement.{Statement}
use Rattle.tel_rule.specs.declared.statements.Program.{Program}
use Rattle.tel_semantics.specs.Tables.{is_table}
use Rattle.rule_binding.specs.Binding.{Vars, has, equations_of, row_vars, body_of, bound_by, IsFirstMissing, IsFirstUnbound}
use Rattle.rule_binding.proofs.Bodies.{one_unbound}
use Rattle.rule_binding.proofs.Settings.{exist}
use Rattle.rule_constants.specs.Constants.{definition_of, IsSoundConstant, IsFaultyConstant}
use Rattle.rule_constants.specs.Replaced.{IsReplaced}
use Rattle.rule_constants.proofs.Settling.{value_or_none, some_replaced}
use Rattle.rule_check.specs.declared.faults.CheckFault.{CheckFault}
use Rattle.rule_check.specs.declared.faults.CheckFault.TheVariants as causes
use Rattle.rule_check.specs.Causes.{has_bare_arrow, has_bad_prime, IsUnbound, IsCause, rank, HasNoCause, HaveNoCause, IsSound, IsFirstCause}
use Rattle.rule_check.proofs.FirstCauses.{sound-not_faulty}

-- ---- variables

some_missing : (X : Vars) (count : ℕ) → (first : Option ℕ) × IsFirstMissing X count first
some_missing X zero = (None, λ v low. absurd (omega (arith, low)))
some_missing X (suc count) = of (some_missing X count).0 (some_missing X count).1
  where
    of : (first : Option ℕ) → IsFirstMissing X count first → (first : Option ℕ) × IsFirstMissing X (suc count) first
    of (Some v) is = (Some v, (let low = is.0 in omega (arith, low), is.1, is.2))
    of None all = ⊎_elim
        (λ (there : X count ≡ true). (None, λ v low. ⊎_elim (λ (l : v < count). all v l) (λ (h : count ≤ v). let e : count ≡ v = omega (arith, low, h) in subst (λ (k : ℕ). X k ≡ true) e there) (cases_lt v count)))
        (λ (missing : X count ≡ false). (Some count, (omega arith, missing, all)))
        (cases_Bool (X count))

-- a statement has a first unbound variable, or none
some_unbound : (tables : Signature → Bool) (s : Statement) → (first : Option ℕ) × IsFirstUnbound tables s first
some_unbound tables s =
    let body = body_of s.kind in
    let settings = exist (equations_of body) (row_vars tables body) in
    let first = some_missing (has (bound_by (row_vars tables body) settings.0)) (length s.vars) in
    (first.0, record { settings = settings.0; are = settings.1; is = first.1 })

-- ---- constants

same_number : (a : Option ℕ) (n : ℕ) → (a ≡ Some n) ⊎ (a ≡ Some n → ⊥)
same_number None n = inr (λ e. cc)
same_number (Some m) n = ⊎_elim (λ (e : m ≡ n). inl (ap (λ (k : ℕ). Some k) e)) (λ m'. inr (λ e. let back : m ≡ n = cc in ⊎_elim (λ (l : m < n). omega (arith, l, back)) (λ (l : n < m). omega (arith, l, back)) m')) (cases_order m n)

constant : (p : Program) (n : ℕ) (kind : Kind) → IsSoundConstant p.statements p.symbols n kind ⊎ ((name : List ℕ) × IsFaultyConstant p.statements p.symbols n kind name)
constant p n (kinds.Const name expr) =
    ⊎_elim
    (λ (here : definition_of p.statements name ≡ Some n). ⊎_elim (λ has. inl (here, has)) (λ none. inr (name, (refl, inr none))) (value_or_none p.statements p.symbols n))
    (λ other. inr (name, (refl, inl other)))
    (same_number (definition_of p.statements name) n)
constant p n (kinds.Rule head body) = inl tt
constant p n (kinds.Facts fact) = inl tt
constant p n (kinds.Show shown) = inl tt

-- ---- one statement

got : {X : Type 0} (xs : List X) (n : ℕ) → n < length xs → (x : X) × (slice_get xs n ≡ Some x)
got [] n within = absurd (omega (arith, within))
got (x ∷ xs) zero within = (x, refl)
got (x ∷ xs) (suc n) within = got xs n (omega (arith, within))

-- a cause that comes before all others of the statement
abbrev First : Program → ℕ → Statement → Type 0
First p n s = (cause : CheckFault) × IsCause p n s cause × ((other : CheckFault) → rank other < rank cause → IsCause p n s other → ⊥)

bound_not : (p : Program) (s : Statement) (name : List ℕ) → IsFirstUnbound (is_table p.statements) s None → IsUnbound (is_table p.statements) s name → ⊥
bound_not p s name bound unbound = let e = one_unbound (is_table p.statements) s (Some unbound.0) None unbound.1 bound in cc

-- where no variable is unbound, and no arrow and no prime is wrong
by_constant : (p : Program) (n : ℕ) (s : Statement) → IsFirstUnbound (is_table p.statements) s None → has_bare_arrow s.kind ≡ false → has_bad_prime s.kind ≡ false → HasNoCause p n s ⊎ First p n s
by_constant p n s bound arrow prime =
    ⊎_elim (λ sound. inl (none sound)) (λ faulty. inr (causes.Const s.place faulty.0, (refl, faulty.1), before)) (constant p n s.kind)
  where
    before : (other : CheckFault) → rank other < 3 → IsCause p n s other → ⊥
    before (causes.Unbound q x) less is = bound_not p s x bound is.1
    before (causes.Arrow q) less is = false≢true (sym arrow ∙ is.1)
    before (causes.Prime q) less is = false≢true (sym prime ∙ is.1)
    before (causes.Const q x) less is = absurd (omega (arith, less))
    before causes.Memory less is = is

    none : IsSoundConstant p.statements p.symbols n s.kind → HasNoCause p n s
    none sound (causes.Unbound q x) is = bound_not p s x bound is.1
    none sound (causes.Arrow q) is = false≢true (sym arrow ∙ is.1)
    none sound (causes.Prime q) is = false≢true (sym prime ∙ is.1)
    none sound (causes.Const q x) is = sound-not_faulty p.statements p.symbols n s.kind x sound is.1
    none sound causes.Memory is = is

by_prime : (p : Program) (n : ℕ) (s : Statement) → IsFirstUnbound (is_table p.statements) s None → has_bare_arrow s.kind ≡ false → HasNoCause p n s ⊎ First p n s
by_prime p n s bound arrow =
    ⊎_elim (λ (is : has_bad_prime s.kind ≡ true). inr (causes.Prime s.place, (refl, is), before)) (λ (no_prime : has_bad_prime s.kind ≡ false). by_constant p n s bound arrow no_prime) (cases_Bool (has_bad_prime s.kind))
  where
    before : (other : CheckFault) → rank other < 2 → IsCause p n s other → ⊥
    before (causes.Unbound q x) less is = bound_not p s x bound is.1
    before (causes.Arrow q) less is = false≢true (sym arrow ∙ is.1)
    before (causes.Prime q) less is = absurd (omega (arith, less))
    before (causes.Const q x) less is = absurd (omega (arith, less))
    before causes.Memory less is = is

by_arrow : (p : Program) (n : ℕ) (s : Statement) → IsFirstUnbound (is_table p.statements) s None → HasNoCause p n s ⊎ First p n s
by_arrow p n s bound =
    ⊎_elim (λ (is : has_bare_arrow s.kind ≡ true). inr (causes.Arrow s.place, (refl, is), before)) (λ (no_arrow : has_bare_arrow s.kind ≡ false). by_prime p n s bound no_arrow) (cases_Bool (has_bare_arrow s.kind))
  where
    before : (other : CheckFault) → rank other < 1 → IsCause p n s other → ⊥
    before (causes.Unbound q x) less is = bound_not p s x bound is.1
    before (causes.Arrow q) less is = absurd (omega (arith, less))
    before (causes.Prime q) less is = absurd (omega (arith, less))
    before (causes.Const q x) less is = absurd (omega (arith, less))
    before causes.Memory less is = is

statement : (p : Program) (n : ℕ) (s : Statement) → HasNoCause p n s ⊎ First p n s
statement p n s = of (some_unbound (is_table p.statements) s).0 (some_unbound (is_table p.statements) s).1
  where
    before : (other : CheckFault) → rank other < 0 → IsCause p n s other → ⊥
    before other less is = omega (arith, less)

    named : (v : ℕ) → v < length s.vars → (name : List ℕ) × (slice_get s.vars v ≡ Some name)
    named v within = got s.vars v within

    of : (first : Option ℕ) → IsFirstUnbound (is_table p.statements) s first → HasNoCause p n s ⊎ First p n s
    of None bound = by_arrow p n s bound
    of (Some v) unbound = let name = named v unbound.is.0 in inr (causes.Unbound s.place name.0, (refl, (v, unbound, name.1)), before)

-- ---- programs

first_of : (p : Program) (count : ℕ) → count ≤ length p.statements → HaveNoCause p count ⊎ ((cause : CheckFault) × IsFirstCause p cause)
first_of p zero within = inl (λ n s low at. absurd (omega (arith, low)))
first_of p (suc count) within = let here = got p.statements count (omega (arith, within)) in ⊎_elim (λ none. last none here.0 here.1) (λ found. inr found) (first_of p count (omega (arith, within)))
  where
    last : HaveNoCause p count → (s : Statement) → slice_get p.statements count ≡ Some s → HaveNoCause p (suc count) ⊎ ((cause : CheckFault) × IsFirstCause p cause)
    last none s at =
        ⊎_elim
        (λ here. inl (λ n other low is. ⊎_elim (λ (l : n < count). none n other l is) (λ (h : count ≤ n). let e : n ≡ count = omega (arith, low, h) in let there : slice_get p.statements count ≡ Some other = subst (λ (k : ℕ). slice_get p.statements k ≡ Some other) e is in let same : s ≡ other = cc in subst (λ (k : ℕ). HasNoCause p k other) (sym e) (subst (λ (t : Statement). HasNoCause p count t) same here)) (cases_lt n count)))
        (λ first. inr (first.0, record { number = count; statement = s; at = at; is = first.1; first = first.2; before = none }))
        (statement p count s)

-- a program passes, and has its constants replaced, or it has a first cause
pub sound_or_cause : (p : Program) → (IsSound p × ((replaced : Program) × IsReplaced p replaced)) ⊎ ((cause : CheckFault) × IsFirstCause p cause)
sound_or_cause p = ⊎_elim (λ sound. inl (sound, some_replaced p)) (λ found. inr found) (first_of p (length p.statements) (omega arith))
