-- Marks of the variables that occur.
use Rattle.std.proofs.Common.{◌≡◌, ℕ, zero, suc, ◌+◌, ◌<◌, ◌≤◌, Bool, true, false, ◌-◌, get_or, length, List, [], ◌∷◌, ◌++◌, cond, refl, sym, ap, ◌∙◌, arith, append-nil}
use Rattle.std.specs.List.{filter, range_with_len}
use Rattle.std.proofs.lemmas.Bool.{cond-true, cond-false}
use Rattle.horizon_external.specs.Occurring.{occurs}

front : (p : ℕ → Bool) (x : ℕ) (xs : List ℕ) → filter p (x ∷ xs) ≡ cond (p x) (x ∷ filter p xs) (filter p xs)
front p x xs = refl

one : (p : ℕ → Bool) (x : ℕ) → filter p (x ∷ []) ≡ cond (p x) (x ∷ []) []
one p x = refl

behind : (b : Bool) (x : ℕ) (xs ys : List ℕ) → cond b (x ∷ (xs ++ ys)) (xs ++ ys) ≡ (cond b (x ∷ xs) xs ++ ys)
behind true x xs ys = refl
behind false x xs ys = refl

-- one variable more of a range
pub filter_range : (p : ℕ → Bool) (count low : ℕ) → filter p (range_with_len low (suc count)) ≡ (filter p (range_with_len low count) ++ cond (p (low + count)) ((low + count) ∷ []) [])
filter_range p zero low =
    let same : low ≡ low + 0 = omega arith in
    one p low ∙ ap (λ (x : ℕ). cond (p x) (x ∷ []) []) same
filter_range p (suc count) low =
    let next : ((low + 1) + count) ≡ low + suc count = omega arith in
    front p low (range_with_len (low + 1) (suc count))
    ∙ ap (λ (rest : List ℕ). cond (p low) (low ∷ rest) rest) (filter_range p count (low + 1) ∙ ap (λ (x : ℕ). filter p (range_with_len (low + 1) count) ++ cond (p x) (x ∷ []) []) next)
    ∙ behind (p low) low (filter p (range_with_len (low + 1) count)) (cond (p (low + suc count)) ((low + suc count) ∷ []) [])
    ∙ ap (λ (rest : List ℕ). rest ++ cond (p (low + suc count)) ((low + suc count) ∷ []) []) (sym (front p low (range_with_len (low + 1) count)))

pub range_more : (p : ℕ → Bool) (k low : ℕ) (old new : List ℕ) → old ≡ filter p (range_with_len low k) → new ≡ (old ++ cond (p (low + k)) ((low + k) ∷ []) []) → new ≡ filter p (range_with_len low (k + 1))
range_more p k low old new done is =
    let next : suc k ≡ k + 1 = omega arith in
    is ∙ ap (λ (xs : List ℕ). xs ++ cond (p (low + k)) ((low + k) ∷ []) []) done ∙ sym (filter_range p k low) ∙ ap (λ (x : ℕ). filter p (range_with_len low x)) next

-- a filter of a range by a test that is the same there
pub filter_same : (p q : ℕ → Bool) (count low : ℕ) → ((v : ℕ) → low ≤ v → v < low + count → p v ≡ q v) → filter p (range_with_len low count) ≡ filter q (range_with_len low count)
filter_same p q zero low same = refl
filter_same p q (suc count) low same =
    let rest = filter_same p q count (low + 1) (λ v above below. same v (omega (arith, above)) (omega (arith, below))) in
    let here : p low ≡ q low = same low (omega arith) (omega arith) in
    λ i. cond (here i) (low ∷ rest i) (rest i)

pub marked_more : (p : ℕ → Bool) (k low var : ℕ) (old new : List ℕ) → var ≡ low + k → p (low + k) ≡ true → old ≡ filter p (range_with_len low k) → new ≡ (old ++ (var ∷ [])) → new ≡ filter p (range_with_len low (k + 1))
marked_more p k low var old new here is done more =
    range_more p k low old new done (more ∙ ap (λ (x : ℕ). old ++ (x ∷ [])) here ∙ ap (λ (xs : List ℕ). old ++ xs) (sym (cond-true (p (low + k)) ((low + k) ∷ []) [] is)))

pub unmarked_more : (p : ℕ → Bool) (k low : ℕ) (old new : List ℕ) → p (low + k) ≡ false → old ≡ filter p (range_with_len low k) → new ≡ old → new ≡ filter p (range_with_len low (k + 1))
unmarked_more p k low old new is done same =
    range_more p k low old new done (same ∙ sym (append-nil old) ∙ ap (λ (xs : List ℕ). old ++ xs) (sym (cond-false (p (low + k)) ((low + k) ∷ []) [] is)))

-- the variables with a mark are those that occur
pub marked_occur : (marks : List Bool) (low w : ℕ) (vars : List ℕ) → length marks ≡ w → ((k : ℕ) → k < w → get_or marks k false ≡ occurs (low + k) vars) → filter (λ (v : ℕ). get_or marks (v - low) false) (range_with_len low (length marks)) ≡ filter (λ (v : ℕ). occurs v vars) (range_with_len low w)
marked_occur marks low w vars len right =
    ap (λ (n : ℕ). filter (λ (v : ℕ). get_or marks (v - low) false) (range_with_len low n)) len
    ∙ filter_same (λ (v : ℕ). get_or marks (v - low) false) (λ (v : ℕ). occurs v vars) w low (λ v above below.
    right (v - low) (omega (arith, above, below)) ∙ ap (λ (x : ℕ). occurs x vars) (omega (arith, above)))
