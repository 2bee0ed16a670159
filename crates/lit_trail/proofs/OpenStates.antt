-- Where the first variable without a value is found.
use Rattle.std.proofs.Common.{◌≡◌, ℕ, zero, suc, ◌+◌, ◌-◌, ◌*◌, ◌/◌, ◌%◌, ◌<◌, ◌≤◌, Bool, true, false, not, List, [], ◌∷◌, ◌++◌, map, refl, sym, ap, ◌∙◌, ⊎_elim, arith}
use Rattle.std.specs.Prelude.{Option, Some, None, is_some}
use Rattle.std.specs.List.{find, flat_map, range_with_len}
use Rattle.std.proofs.Math.Nat.{div-add-mod}
use Rattle.std.proofs.lemmas.Bool.{cases_Bool, cases_lt, cond-true, cond-false}
use Rattle.atom_space.specs.Numbers.{Counts, width, visible}
use Rattle.lit_trail.specs.declared.assignment.Spot.{Spot}
use Rattle.lit_trail.specs.declared.assignment.Entry.{Entry}
use Rattle.lit_trail.specs.Entries.{spot_in}
use Rattle.lit_trail.specs.Unassigned.{is_open, visible_at, visible_below}

-- nothing is found in the first part
find_past : (p : ℕ → Bool) (xs ys : List ℕ) → find p xs ≡ None → find p (xs ++ ys) ≡ find p ys
find_past p [] ys h = refl
find_past p (x ∷ xs) ys h =
    ⊎_elim (λ (t : p x ≡ true). let bad : Some x ≡ None = sym (cond-true (p x) (Some x) (find p xs) t) ∙ h in absurd (cc)) (λ (f : p x ≡ false). cond-false (p x) (Some x) (find p (xs ++ ys)) f ∙ find_past p xs ys (sym (cond-false (p x) (Some x) (find p xs) f) ∙ h)) (cases_Bool (p x))

-- it is found there
find_here : (p : ℕ → Bool) (xs ys : List ℕ) (v : ℕ) → find p xs ≡ Some v → find p (xs ++ ys) ≡ Some v
find_here p [] ys v h = absurd (cc)
find_here p (x ∷ xs) ys v h =
    ⊎_elim (λ (t : p x ≡ true). cond-true (p x) (Some x) (find p (xs ++ ys)) t ∙ sym (cond-true (p x) (Some x) (find p xs) t) ∙ h) (λ (f : p x ≡ false). cond-false (p x) (Some x) (find p (xs ++ ys)) f ∙ find_here p xs ys v (sym (cond-false (p x) (Some x) (find p xs) f) ∙ h)) (cases_Bool (p x))

-- ---- items from k on

abbrev pub items_from : (ℕ → ℕ) → ℕ → ℕ → List ℕ
items_from f n k = map f (range_with_len k (n - k))

pub item_past : (p : ℕ → Bool) (f : ℕ → ℕ) (n k : ℕ) → k < n → p (f k) ≡ false → find p (items_from f n (k + 1)) ≡ find p (items_from f n k)
item_past p f n k l h =
    let less : n - k ≡ suc (n - (k + 1)) = omega (arith, l) in
    sym (ap (λ (m : ℕ). find p (map f (range_with_len k m))) less ∙ cond-false (p (f k)) (Some (f k)) (find p (items_from f n (k + 1))) h)

pub item_here : (p : ℕ → Bool) (f : ℕ → ℕ) (n k : ℕ) → k < n → p (f k) ≡ true → find p (items_from f n k) ≡ Some (f k)
item_here p f n k l h =
    let less : n - k ≡ suc (n - (k + 1)) = omega (arith, l) in
    ap (λ (m : ℕ). find p (map f (range_with_len k m))) less ∙ cond-true (p (f k)) (Some (f k)) (find p (items_from f n (k + 1))) h

pub item_end : (p : ℕ → Bool) (f : ℕ → ℕ) (n k : ℕ) → n ≤ k → find p (items_from f n k) ≡ None
item_end p f n k l =
    let none : n - k ≡ 0 = omega (arith, l) in
    ap (λ (m : ℕ). find p (map f (range_with_len k m))) none

pub items_all : (p : ℕ → Bool) (f : ℕ → ℕ) (n : ℕ) → find p (items_from f n 0) ≡ find p (map f (range_with_len 0 n))
items_all p f n = let all : n - 0 ≡ n = omega arith in ap (λ (m : ℕ). find p (map f (range_with_len 0 m))) all

-- ---- states from k on

abbrev pub rest_of : (ℕ → List ℕ) → ℕ → ℕ → List ℕ
rest_of f n k = flat_map f (range_with_len k (n - k))

pub state_past : (p : ℕ → Bool) (f : ℕ → List ℕ) (n k : ℕ) → k < n → find p (f k) ≡ None → find p (rest_of f n (k + 1)) ≡ find p (rest_of f n k)
state_past p f n k l h =
    let less : n - k ≡ suc (n - (k + 1)) = omega (arith, l) in
    sym (ap (λ (m : ℕ). find p (flat_map f (range_with_len k m))) less ∙ find_past p (f k) (rest_of f n (k + 1)) h)

pub state_here : (p : ℕ → Bool) (f : ℕ → List ℕ) (n k v : ℕ) → k < n → find p (f k) ≡ Some v → find p (rest_of f n k) ≡ Some v
state_here p f n k v l h =
    let less : n - k ≡ suc (n - (k + 1)) = omega (arith, l) in
    ap (λ (m : ℕ). find p (flat_map f (range_with_len k m))) less ∙ find_here p (f k) (rest_of f n (k + 1)) v h

pub state_end : (p : ℕ → Bool) (f : ℕ → List ℕ) (n k : ℕ) → n ≤ k → find p (rest_of f n k) ≡ None
state_end p f n k l =
    let none : n - k ≡ 0 = omega (arith, l) in
    ap (λ (m : ℕ). find p (flat_map f (range_with_len k m))) none

none_of : (p : ℕ → Bool) (f : ℕ → ℕ) (k n : ℕ) → ((a : ℕ) → a < k + n → p (f a) ≡ false) → find p (map f (range_with_len k n)) ≡ None
none_of p f k zero h = refl
none_of p f k (suc n) h =
    cond-false (p (f k)) (Some (f k)) (find p (map f (range_with_len (k + 1) n))) (h k (omega arith)) ∙ none_of p f (k + 1) n (λ a l. h a (omega (arith, l)))

-- states whose variables all fail are passed by
settled_states : (p : ℕ → Bool) (counts : Counts) (n k : ℕ) → ((v : ℕ) → v < k * width counts → p v ≡ false) → find p (rest_of (visible_at counts) n k) ≡ find p (visible_below counts n)
settled_states p counts n zero h =
    let all : n - 0 ≡ n = omega arith in
    ap (λ (m : ℕ). find p (flat_map (visible_at counts) (range_with_len 0 m))) all
settled_states p counts n (suc k) h =
    let before = settled_states p counts n k (λ v l. h v (omega (arith, l))) in
    let next : suc k ≡ k + 1 = omega arith in
    ap (λ (m : ℕ). find p (rest_of (visible_at counts) n m)) next ∙ ⊎_elim (λ (l : k < n). state_past p (visible_at counts) n k l (none_of p (λ (a : ℕ). visible counts a k) 0 counts.atoms (λ a m. h (visible counts a k) (omega (arith, m))))) (λ (l : n ≤ k). state_end p (visible_at counts) n (k + 1) (omega (arith, l)) ∙ sym (state_end p (visible_at counts) n k l)) (cases_lt k n) ∙ before

-- so those below a number under which all have values
pub settled_start : (p : ℕ → Bool) (counts : Counts) (n settled start w : ℕ) → start ≡ settled / w → w ≡ width counts → ((v : ℕ) → v < settled → p v ≡ false) → find p (rest_of (visible_at counts) n start) ≡ find p (visible_below counts n)
settled_start p counts n settled start w is wide h =
    let same : start * width counts ≡ settled / w * w = ap (λ (x : ℕ). x * width counts) is ∙ ap (λ (x : ℕ). settled / w * x) (sym wide) in
    let split : settled / w * w + settled % w ≡ settled = omega (arith, div-add-mod settled w) in
    settled_states p counts n start (λ v l. h v (omega (arith, l, same, split)))

-- ---- values

not_not : (b : Bool) → not (not b) ≡ b
not_not true = refl
not_not false = refl

-- whether a variable that was read is open
pub open_is : (entries : List Entry) (v w : ℕ) (o : Option Spot) (b : Bool) → w ≡ v → o ≡ spot_in entries w → is_some o ≡ not b → is_open entries v ≡ b
open_is entries v w o b same read h =
    ap (λ (n : ℕ). not (is_some (spot_in entries n))) (sym same) ∙ ap (λ (x : Option Spot). not (is_some x)) (sym read) ∙ ap not h ∙ not_not b

pub settled_closed : (entries : List Entry) (settled : ℕ) → ((v : ℕ) → v < settled → is_some (spot_in entries v) ≡ true) → (v : ℕ) → v < settled → is_open entries v ≡ false
settled_closed entries settled h v l = ap not (h v l)
