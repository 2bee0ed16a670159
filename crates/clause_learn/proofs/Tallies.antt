-- Sets that differ at one variable, and what is counted of their literals.
use Rattle.std.proofs.Common.{◌≡◌, ℕ, suc, ◌+◌, ◌<◌, ◌≤◌, Bool, true, false, cond, not, ◌&&◌, List, [], ◌∷◌, length, refl, sym, ap, subst, inl, inr, ◌∙◌, ⊎_elim, arith}
use Rattle.std.specs.Prelude.{Some, None, ◌==◌, ◌⊎◌}
use Rattle.std.proofs.lemmas.Bool.{eq-eqb, ne_eqb, cases_eq, cond-true, cond-false}
use Rattle.tel_base.specs.declared.literals.Lit.{Lit}
use Rattle.tel_base.specs.Literals.{negate}
use Rattle.clause_store.specs.Closure.{In, Lits}
use Rattle.lit_trail.specs.declared.assignment.Entry.{Entry}
use Rattle.lit_trail.specs.Entries.{spot_in, spot_level, level_in, Apart}
use Rattle.lit_trail.specs.Levels.{AreLevels, AreWithin}
use Rattle.lit_trail.specs.Sound.{holds}
use Rattle.lit_trail.proofs.TableSteps.{not_here}
use Rattle.lit_trail.proofs.Values.{spot_there, one_value}
use Rattle.clause_learn.specs.Noted.{picks, tally, seen}

-- two sets say the same of the literals of other variables
abbrev pub AgreeOff : ℕ → Lits → Lits → Type 0
AgreeOff v X Y = (k : Lit) → (k.var ≡ v → ⊥) → Y k ≡ X k

pub picks_off : (test : ℕ → Bool) (X Y : Lits) (v : ℕ) (entry : Entry) → AgreeOff v X Y → (entry.lit.var ≡ v → ⊥) → picks test Y entry ≡ picks test X entry
picks_off test X Y v entry agree ne = ap (λ (b : Bool). b && test entry.level) (agree (negate entry.lit) ne)

-- an entry of these isn't one of a variable that has none
pub other_var : (older : List Entry) (entry : Entry) (v : ℕ) → spot_in older v ≡ None → In entry older → entry.lit.var ≡ v → ⊥
other_var [] entry v free i e = absurd i
other_var (x ∷ older) entry v free i e =
    let out = not_here x older v free in
    ⊎_elim (λ (same : x ≡ entry). out.0 (ap (λ (y : Entry). y.lit.var) same ∙ e)) (λ r. other_var older entry v out.1 r e) i

pub tally_off : (test : ℕ → Bool) (X Y : Lits) (v : ℕ) (entries : List Entry) → AgreeOff v X Y → spot_in entries v ≡ None → tally (picks test Y) entries ≡ tally (picks test X) entries
tally_off test X Y v [] agree free = refl
tally_off test X Y v (entry ∷ older) agree free =
    let out = not_here entry older v free in
    let first = picks_off test X Y v entry agree out.0 in
    let rest = tally_off test X Y v older agree out.1 in
    λ i. cond (first i) (suc (rest i)) (rest i)

abbrev pub one_if : Bool → ℕ
one_if true = 1
one_if false = 0

one_more : (a b : Bool) (n : ℕ) → cond b (suc n) n + one_if a ≡ cond a (suc n) n + one_if b
one_more true true n = refl
one_more true false n = omega arith
one_more false true n = omega arith
one_more false false n = refl

both_more : (c a b : Bool) (m n : ℕ) → m + one_if a ≡ n + one_if b → cond c (suc m) m + one_if a ≡ cond c (suc n) n + one_if b
both_more true a b m n e = omega (arith, e)
both_more false a b m n e = e

pub tally_at : (test : ℕ → Bool) (X Y : Lits) (entry : Entry) (entries : List Entry) → Apart entries → In entry entries → AgreeOff entry.lit.var X Y → tally (picks test Y) entries + one_if (picks test X entry) ≡ tally (picks test X) entries + one_if (picks test Y entry)
tally_at test X Y entry [] apart i agree = absurd i
tally_at test X Y entry (x ∷ older) apart i agree =
    ⊎_elim (λ (same : x ≡ entry).
    let free : spot_in older entry.lit.var ≡ None = ap (λ (y : Entry). spot_in older y.lit.var) (sym same) ∙ apart.0 in
    let rest = tally_off test X Y entry.lit.var older agree free in
    let n = tally (picks test X) older in
    (λ j. cond (picks test Y (same j)) (suc (rest j)) (rest j) + one_if (picks test X entry)) ∙ one_more (picks test X entry) (picks test Y entry) n ∙ (λ j. cond (picks test X (sym same j)) (suc n) n + one_if (picks test Y entry))) (λ r.
    let first = picks_off test X Y entry.lit.var x agree (λ e. other_var older entry x.lit.var apart.0 r (sym e)) in
    let m = tally (picks test Y) older in
    (λ j. cond (first j) (suc m) m + one_if (picks test X entry)) ∙ both_more (picks test X x) (picks test X entry) (picks test Y entry) m (tally (picks test X) older) (tally_at test X Y entry older apart.1 r agree)) i

pub tally_most : (test : Entry → Bool) (entries : List Entry) → tally test entries ≤ length entries
tally_most test [] = omega arith
tally_most test (entry ∷ older) =
    let rest = tally_most test older in
    (elim (test entry) as (λ (b : Bool). cond b (suc (tally test older)) (tally test older) ≤ suc (length older)) [
      | true ↦ omega (arith, rest)
      | false ↦ omega (arith, rest)
    ])

pub seen_off : (test : ℕ → Bool) (X Y : Lits) (v w : ℕ) (entries : List Entry) → AgreeOff v X Y → (w ≡ v → ⊥) → seen (picks test Y) entries w ≡ seen (picks test X) entries w
seen_off test X Y v w [] agree ne = refl
seen_off test X Y v w (entry ∷ older) agree ne =
    let rest = seen_off test X Y v w older agree ne in
    ⊎_elim (λ (e : entry.lit.var ≡ w). let first = picks_off test X Y v entry agree (λ same. ne (sym e ∙ same)) in (λ j. cond (entry.lit.var == w) (first j) (rest j))) (λ (out : entry.lit.var ≡ w → ⊥). cond-false (entry.lit.var == w) (picks test Y entry) (seen (picks test Y) older w) (ne_eqb entry.lit.var w out) ∙ rest ∙ sym (cond-false (entry.lit.var == w) (picks test X entry) (seen (picks test X) older w) (ne_eqb entry.lit.var w out))) (cases_eq entry.lit.var w)

pub seen_at : (test : Entry → Bool) (entry : Entry) (entries : List Entry) → Apart entries → In entry entries → seen test entries entry.lit.var ≡ test entry
seen_at test entry [] apart i = absurd i
seen_at test entry (x ∷ older) apart i =
    ⊎_elim (λ (same : x ≡ entry). cond-true (x.lit.var == entry.lit.var) (test x) (seen test older entry.lit.var) (eq-eqb x.lit.var entry.lit.var (ap (λ (y : Entry). y.lit.var) same)) ∙ ap test same) (λ r. cond-false (x.lit.var == entry.lit.var) (test x) (seen test older entry.lit.var) (ne_eqb x.lit.var entry.lit.var (λ e. other_var older entry x.lit.var apart.0 r (sym e))) ∙ seen_at test entry older apart.1 r) i

pub level_at : (entries : List Entry) (entry : Entry) → Apart entries → In entry entries → level_in entries entry.lit.var ≡ Some entry.level
level_at entries entry apart i = ap spot_level (spot_there entries entry apart i)

pub level_most : (top : ℕ) (entries : List Entry) (entry : Entry) → AreLevels top entries → In entry entries → entry.level ≤ top
level_most top [] entry levels i = absurd i
level_most top (x ∷ older) entry levels i =
    let a = levels.0 in
    ⊎_elim (λ (same : x ≡ entry). subst (λ (y : Entry). y.level ≤ top) same a) (λ r. let b = level_most x.level older entry levels.1 r in omega (arith, a, b)) i

pub var_within : (vars : ℕ) (entries : List Entry) (entry : Entry) → AreWithin vars entries → In entry entries → entry.lit.var < vars
var_within vars [] entry within i = absurd i
var_within vars (x ∷ older) entry within i =
    ⊎_elim (λ (same : x ≡ entry). subst (λ (y : Entry). y.lit.var < vars) same within.0) (λ r. var_within vars older entry within.1 r) i

not_not : (b : Bool) → not (not b) ≡ b
not_not true = refl
not_not false = refl

pub negate_twice : (lit : Lit) → negate (negate lit) ≡ lit
negate_twice lit = λ i. record { var = lit.var; positive = not_not lit.positive i }

same_or_not : (a b : Bool) → (a ≡ b) ⊎ (b ≡ not a)
same_or_not true true = inl refl
same_or_not true false = inr refl
same_or_not false true = inr refl
same_or_not false false = inl refl

-- one literal of a variable holds
pub same_held : (entries : List Entry) (a b : Lit) → holds entries a ≡ true → holds entries b ≡ true → a.var ≡ b.var → a ≡ b
same_held entries a b ha hb e =
    ⊎_elim (λ (s : a.positive ≡ b.positive). λ i. record { var = e i; positive = s i }) (λ (s : b.positive ≡ not a.positive). let is : b ≡ negate a = λ i. record { var = sym e i; positive = s i } in absurd (one_value entries a ha (subst (λ (l : Lit). holds entries l ≡ true) is hb))) (same_or_not a.positive b.positive)
