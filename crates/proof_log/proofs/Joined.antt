-- The parts of a line, as they are put, are the line.
use Rattle.std.proofs.Common.{◌≡◌, ℕ, List, [], ◌∷◌, ◌++◌, Option, Result, OnOk, OnErr, refl, sym, ap, subst, ◌∙◌, append_assoc}
use Rattle.tel_base.specs.Bytes.{Appends, AppendsFront}

pub clause-parts : (before lits : List ℕ) → (before ++ lits) ++ (48 ∷ 10 ∷ []) ≡ before ++ (lits ++ 48 ∷ []) ++ 10 ∷ []
clause-parts before lits = simp append_assoc refl

pub loop-parts : (atom set lits : List ℕ)
    → (117 ∷ 32 ∷ [] ++ atom ++ 32 ∷ []) ++ set ++ ((48 ∷ 32 ∷ []) ++ lits ++ 10 ∷ [])
    ≡ 117 ∷ 32 ∷ [] ++ atom ++ 32 ∷ [] ++ (set ++ 48 ∷ []) ++ 32 ∷ [] ++ lits ++ 10 ∷ []
loop-parts atom set lits =
    let start = 117 ∷ 32 ∷ (atom ++ 32 ∷ []) in
    let joined : (set ++ 48 ∷ []) ++ 32 ∷ [] ≡ set ++ (48 ∷ 32 ∷ []) = append_assoc set (48 ∷ []) (32 ∷ []) in
    sym (append_assoc (start ++ set) (48 ∷ 32 ∷ lits) (10 ∷ []))
    ∙ ap (λ t. t ++ 10 ∷ [])
    (sym (append_assoc (start ++ set) (48 ∷ 32 ∷ []) lits)
    ∙ ap (λ t. t ++ lits) (append_assoc start set (48 ∷ 32 ∷ []) ∙ ap (λ t. start ++ t) (sym joined) ∙ sym (append_assoc start (set ++ 48 ∷ []) (32 ∷ []))))

-- what was written of a text was written of the same text
pub ok-same : {T E : Type 0} (result : Result T E) (old new : Option (List ℕ)) (a b : List ℕ) → b ≡ a → OnOk result (Appends old new a) → OnOk result (Appends old new b)
ok-same result old new a b e h = subst (λ (t : List ℕ). OnOk result (Appends old new t)) (sym e) h

pub err-same : {T E : Type 0} (result : Result T E) (old new : Option (List ℕ)) (a b : List ℕ) → b ≡ a → OnErr result (AppendsFront old new a) → OnErr result (AppendsFront old new b)
err-same result old new a b e h = subst (λ (t : List ℕ). OnErr result (AppendsFront old new t)) (sym e) h
