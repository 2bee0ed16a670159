-- A literal and its negation.
use Rattle.std.proofs.Common.{◌≡◌, Bool, true, false, cond, not, refl, sym, ap, ◌∙◌}
use Rattle.std.proofs.lemmas.Bool.{false≢true}
use Rattle.tel_base.specs.declared.literals.Lit.{Lit}
use Rattle.tel_base.specs.Literals.{negate}
use Rattle.normal_program.specs.StableSets.{Set}
use Rattle.completion.specs.Completions.{lit_true}

not_not : (b : Bool) → not (not b) ≡ b
not_not true = refl
not_not false = refl

pub negate_twice : (lit : Lit) → negate (negate lit) ≡ lit
negate_twice lit i = record { var = lit.var; positive = not_not lit.positive i }

cond_not : (b s : Bool) → cond (not b) s (not s) ≡ not (cond b s (not s))
cond_not true s = refl
cond_not false s = sym (not_not s)

pub true_negate : (S : Set) (lit : Lit) → lit_true S (negate lit) ≡ not (lit_true S lit)
true_negate S lit = cond_not lit.positive (S lit.var)

pub both_true : (S : Set) (lit : Lit) → lit_true S lit ≡ true → lit_true S (negate lit) ≡ true → ⊥
both_true S lit t n = false≢true (sym (ap not t) ∙ (sym (true_negate S lit) ∙ n))
