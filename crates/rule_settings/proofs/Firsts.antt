-- The first candidate that passes a test.
use Rattle.std.proofs.Common.{◌≡◌, ◌∙◌, ℕ, zero, suc, ◌<◌, Bool, true, false, cond, List, [], ◌∷◌, Some, None, refl, sym, ap, subst, true≢false, arith, IsTrue}
use Rattle.std.specs.Prelude.{slice_get, IsFalse}
use Rattle.std.specs.List.{filter}
use Rattle.rule_binding.specs.Binding.{Setting, first_of}
use Rattle.rule_settings.specs.Waiting.{holds_at}

first_cond : (b : Bool) (s : Setting) (rest : List Setting) → IsTrue b → first_of (cond b (s ∷ rest) rest) ≡ Some s
first_cond true s rest h = refl
first_cond false s rest h = absurd (true≢false (sym h))

later_cond : (b : Bool) (s : Setting) (rest : List Setting) → IsFalse b → cond b (s ∷ rest) rest ≡ rest
later_cond true s rest h = absurd (true≢false h)
later_cond false s rest h = refl

-- none passes
pub none_passes : (p : Setting → Bool) (cs : List Setting) → ((i : ℕ) → IsFalse (holds_at p cs i)) → first_of (filter p cs) ≡ None
none_passes p [] fails = refl
none_passes p (c ∷ cs) fails = ap first_of (later_cond (p c) c (filter p cs) (fails zero)) ∙ none_passes p cs (λ i. fails (suc i))

-- this one passes, and none in front of it
pub first_passes : (p : Setting → Bool) (cs : List Setting) (i : ℕ) (s : Setting) → slice_get cs i ≡ Some s → IsTrue (p s) → ((j : ℕ) → j < i → IsFalse (holds_at p cs j)) → first_of (filter p cs) ≡ Some s
first_passes p [] i s is passes before = absurd cc
first_passes p (c ∷ cs) zero s is passes before =
    let same : c ≡ s = cc in
    first_cond (p c) c (filter p cs) (subst (λ (t : Setting). IsTrue (p t)) (sym same) passes) ∙ ap Some same
first_passes p (c ∷ cs) (suc i) s is passes before =
    ap first_of (later_cond (p c) c (filter p cs) (before zero (omega arith)))
    ∙ first_passes p cs i s is passes (λ j less. before (suc j) (omega (arith, less)))
