-- The longest fronts whose bytes pass a test.
use Rattle.std.proofs.Common.{◌≡◌, ℕ, zero, suc, ◌+◌, ◌<◌, ◌≤◌, Bool, true, false, List, [], ◌∷◌, ◌++◌, length, get_or, take, drop, refl, arith, inl, inr}
use Rattle.std.specs.List.{list_all, prefix_len}
use Rattle.std.proofs.lemmas.Bool.{cases_Bool, and_parts, and_from}
use Rattle.tel_lex.specs.Tokens.{begins}

module _ (test : ℕ → Bool) where
  -- the longest front that passes does
  pub all-prefix : (bytes : List ℕ) → list_all test (take (prefix_len test bytes) bytes) ≡ true
  all-prefix [] = refl
  all-prefix (byte ∷ bytes) =
      elim (cases_Bool (test byte)) [
        | inl passes ↦
            let n : 1 + prefix_len test bytes ≡ suc (prefix_len test bytes) = omega arith in
            rw (passes, n) (and_from (test byte) (list_all test (take (prefix_len test bytes) bytes)) passes (all-prefix bytes))
        | inr stops ↦ rw stops refl
      ]

  -- behind it comes no byte that passes
  pub begins-drop_prefix : (bytes : List ℕ) → begins test (drop (prefix_len test bytes) bytes) ≡ false
  begins-drop_prefix [] = refl
  begins-drop_prefix (byte ∷ bytes) =
      elim (cases_Bool (test byte)) [
        | inl passes ↦
            let n : 1 + prefix_len test bytes ≡ suc (prefix_len test bytes) = omega arith in
            rw (passes, n) (begins-drop_prefix bytes)
        | inr stops ↦ rw stops stops
      ]

  pub prefix_within : (bytes : List ℕ) → prefix_len test bytes ≤ length bytes
  prefix_within [] = omega arith
  prefix_within (byte ∷ bytes) =
      elim (cases_Bool (test byte)) [
        | inl passes ↦ rw passes (omega (arith, prefix_within bytes))
        | inr stops ↦ rw stops (omega arith)
      ]

  -- a front that passes is no longer
  pub prefix_most : (front rest : List ℕ) → list_all test front ≡ true → length front ≤ prefix_len test (front ++ rest)
  prefix_most [] rest all = omega arith
  prefix_most (byte ∷ front) rest all =
      let p = and_parts (test byte) (list_all test front) all in
      rw p.0 (omega (arith, prefix_most front rest p.1))

  -- a front that passes, with no byte behind it that does, is it
  pub prefix_exact : (front rest : List ℕ) → list_all test front ≡ true → begins test rest ≡ false → prefix_len test (front ++ rest) ≡ length front
  prefix_exact [] [] all ends = refl
  prefix_exact [] (byte ∷ rest) all ends = rw ends refl
  prefix_exact (byte ∷ front) rest all ends =
      let p = and_parts (test byte) (list_all test front) all in
      rw p.0 (omega (arith, prefix_exact front rest p.1 ends))

  -- it ends at the first place whose byte doesn't pass
  pub prefix_place : (n : ℕ) (bytes : List ℕ) → n < length bytes → ((k : ℕ) → k < n → test (get_or bytes k 0) ≡ true) → test (get_or bytes n 0) ≡ false → prefix_len test bytes ≡ n
  prefix_place n [] within before at = absurd (omega arith)
  prefix_place zero (byte ∷ bytes) within before at = rw at refl
  prefix_place (suc n) (byte ∷ bytes) within before at =
      rw (before 0 (omega arith)) (omega (arith, prefix_place n bytes (omega arith) (λ k below. before (suc k) (omega arith)) at))

  pub prefix_whole : (bytes : List ℕ) → ((k : ℕ) → k < length bytes → test (get_or bytes k 0) ≡ true) → prefix_len test bytes ≡ length bytes
  prefix_whole [] before = refl
  prefix_whole (byte ∷ bytes) before =
      rw (before 0 (omega arith)) (omega (arith, prefix_whole bytes (λ k below. before (suc k) (omega arith))))
