-- The digits of numbers, and which numbers begin with which.
use Rattle.std.proofs.Common.{◌≡◌, ℕ, zero, suc, ◌+◌, ◌*◌, ◌/◌, ◌%◌, ◌^◌, ◌<◌, ◌≤◌, List, [], ◌∷◌, ◌++◌, length, decimal, refl, sym, ap, subst, ◌∙◌, ◌⊎◌, inl, inr, ⊎_elim, arith, append_assoc, append-nil, length-append}
use Rattle.std.proofs.lemmas.Fmt.{decimal_step, decimal_digit, decimal_by_steps, decimal_injective, decimal_nonempty}
use Rattle.std.proofs.lemmas.Bool.{cases_lt}
use Rattle.proof_log.specs.Lines.{greatest}
use Rattle.proof_log.specs.Parts.{IsDigit, shown, GrowsAbove}

abbrev pub AreDigits : List ℕ → Type 0
AreDigits [] = Unit {0}
AreDigits (x ∷ xs) = IsDigit x × AreDigits xs

digits-append : (xs ys : List ℕ) → AreDigits xs → AreDigits ys → AreDigits (xs ++ ys)
digits-append [] ys h k = k
digits-append (x ∷ xs) ys h k = (h.0, digits-append xs ys h.1 k)

pub decimal-digits : (n : ℕ) → n < 2 ^ 64 → AreDigits (decimal n)
decimal-digits = decimal_by_steps (λ n ds. AreDigits ds) (λ n small. ((omega arith, omega arith), tt)) (λ n ds big h. digits-append ds ((48 + n % 10) ∷ []) h ((omega arith, omega arith), tt))

pub digit-in : (xs front rest : List ℕ) (x : ℕ) → AreDigits xs → xs ≡ front ++ x ∷ rest → IsDigit x
digit-in [] [] rest x h e = absurd (omega (arith, ap length e))
digit-in [] (y ∷ front) rest x h e = absurd (omega (arith, ap length e))
digit-in (z ∷ xs) [] rest x h e = let same : z ≡ x = cc in subst IsDigit same h.0
digit-in (z ∷ xs) (y ∷ front) rest x h e = let tails : xs ≡ front ++ x ∷ rest = cc in digit-in xs front rest x h.1 tails

-- n is v, or has digits behind those of v
pub data Grown (v : ℕ) : ℕ → Type 0 where
  here : (n : ℕ) → n ≡ v → Grown v n
  more : (n m d : ℕ) → n ≡ 10 * m + d → d < 10 → Grown v m → Grown v n

pub grown-least : (v n : ℕ) → Grown v n → v ≤ n
grown-least v n (here k e) = omega arith
grown-least v n (more k m d e low g) = omega (arith, grown-least v m g)

grown-text : (v n : ℕ) → 1 ≤ v → n < 2 ^ 64 → Grown v n → (rest : List ℕ) × (decimal n ≡ decimal v ++ rest)
grown-text v n some fits (here k e) = ([], ap decimal e ∙ sym (append-nil (decimal v)))
grown-text v n some fits (more k m d e low g) =
    let least = grown-least v m g in
    let smaller : m < 2 ^ 64 = omega arith in
    let before = grown-text v m some smaller g in
    let tens : n / 10 ≡ m = omega arith in
    let big : 10 ≤ n = omega arith in
    (before.0 ++ (48 + n % 10) ∷ [], decimal_step n big fits ∙ ap (λ k. decimal k ++ (48 + n % 10) ∷ []) tens ∙ ap (λ x. x ++ (48 + n % 10) ∷ []) before.1 ∙ append_assoc (decimal v) before.0 ((48 + n % 10) ∷ []))

last-same : (a b : List ℕ) (x y : ℕ) → a ++ x ∷ [] ≡ b ++ y ∷ [] → a ≡ b
last-same [] [] x y e = refl
last-same [] (z ∷ b) x y e = absurd (omega (arith, ap length e, length-append b (y ∷ [])))
last-same (z ∷ a) [] x y e = absurd (omega (arith, ap length e, length-append a (x ∷ [])))
last-same (z ∷ a) (w ∷ b) x y e =
    let head : z ≡ w = cc in
    let tails : a ++ x ∷ [] ≡ b ++ y ∷ [] = cc in
    ap (λ (k : ℕ). k ∷ a) head ∙ ap (λ t. w ∷ t) (last-same a b x y tails)

last-of : (x : ℕ) (xs : List ℕ) → (front : List ℕ) × (y : ℕ) × (x ∷ xs ≡ front ++ y ∷ [])
last-of x [] = ([], x, refl)
last-of x (z ∷ xs) = let rest = last-of z xs in (x ∷ rest.0, rest.1, ap (λ t. x ∷ t) rest.2)

text-grown-within : (fuel v n : ℕ) (rest : List ℕ) → n < fuel → 1 ≤ v → v < 2 ^ 64 → n < 2 ^ 64 → decimal n ≡ decimal v ++ rest → Grown v n
text-grown-within zero v n rest bound some fits within e = absurd (omega arith)
text-grown-within (suc fuel) v n [] bound some fits within e = here n (decimal_injective n v within fits (e ∙ append-nil (decimal v)))
text-grown-within (suc fuel) v n (x ∷ rest) bound some fits within e =
    ⊎_elim
    (λ (small : n < 10).
    let one : 1 ≡ length (decimal v) + length (x ∷ rest) = ap length (sym (decimal_digit n small) ∙ e) ∙ length-append (decimal v) (x ∷ rest) in
    absurd (omega (arith, one, decimal_nonempty v fits)))
    (λ (big : 10 ≤ n).
    let split = last-of x rest in
    let whole : decimal (n / 10) ++ (48 + n % 10) ∷ [] ≡ (decimal v ++ split.0) ++ split.1 ∷ [] =
    sym (decimal_step n big within) ∙ e ∙ ap (λ t. decimal v ++ t) split.2 ∙ sym (append_assoc (decimal v) split.0 (split.1 ∷ [])) in
    more n (n / 10) (n % 10) (omega arith) (omega arith)
    (text-grown-within fuel v (n / 10) split.0 (omega arith) some fits (omega arith) (last-same (decimal (n / 10)) (decimal v ++ split.0) (48 + n % 10) split.1 whole)))
    (cases_lt n 10)

text-grown : (v n : ℕ) (rest : List ℕ) → 1 ≤ v → v < 2 ^ 64 → n < 2 ^ 64 → decimal n ≡ decimal v ++ rest → Grown v n
text-grown v n rest some fits within e = text-grown-within (suc n) v n rest (omega arith) some fits within e

-- what is shown of a number
pub shown-some : (v : ℕ) → 1 ≤ v → shown v ≡ decimal v
shown-some zero some = absurd (omega arith)
shown-some (suc v) some = refl

pub shown-digits : (v : ℕ) → v < 2 ^ 64 → AreDigits (shown v)
shown-digits zero fits = tt
shown-digits (suc v) fits = decimal-digits (suc v) fits

pub shown-more : (v d : ℕ) → d < 10 → 1 ≤ 10 * v + d → 10 * v + d < 2 ^ 64 → shown (10 * v + d) ≡ shown v ++ (48 + d) ∷ []
shown-more zero d small some fits =
    let one : 10 * zero + d ≡ d = omega arith in
    let least : 1 ≤ d = omega arith in
    ap shown one ∙ shown-some d least ∙ decimal_digit d small
shown-more (suc v) d small some fits =
    let n = 10 * suc v + d in
    let tens : n / 10 ≡ suc v = omega arith in
    let ones : n % 10 ≡ d = omega arith in
    let big : 10 ≤ n = omega arith in
    shown-some n some ∙ decimal_step n big fits ∙ ap (λ k. decimal k ++ (48 + n % 10) ∷ []) tens ∙ ap (λ k. decimal (suc v) ++ (48 + k) ∷ []) ones

-- the numbers that begin as `value` does, with as many digits more, are those from `least` to `most`
pub record Spreads (value low least most : ℕ) : Type 0 where
  pub some : 1 ≤ value
  pub order : least ≤ most
  pub first : value ≤ least
  pub spread : (n : ℕ) → least ≤ n → n ≤ most → Grown value n
  pub apart : (n : ℕ) → Grown value n → (n ≤ most) ⊎ (10 * least ≤ n)
  pub above : (n : ℕ) → Grown value n → (n ≤ low) ⊎ (least ≤ n)

spread-apart : (value n : ℕ) → Grown value n → (n ≤ value) ⊎ (10 * value ≤ n)
spread-apart value n (here k e) = inl (omega arith)
spread-apart value n (more k m d e low g) = inr (omega (arith, grown-least value m g))

pub spreads-start : (value low : ℕ) → 1 ≤ value → Spreads value low value value
spreads-start value low some = record {
  some = some;
  order = omega arith;
  first = omega arith;
  spread = λ n l m. here n (omega arith);
  apart = λ n g. spread-apart value n g;
  above = λ n g. inr (grown-least value n g);
}

apart-more : (value least most n : ℕ) → value ≤ most → ((k : ℕ) → Grown value k → (k ≤ most) ⊎ (10 * least ≤ k)) → Grown value n → (n ≤ 10 * most + 9) ⊎ (10 * (10 * least) ≤ n)
apart-more value least most n first before (here k e) = inl (omega arith)
apart-more value least most n first before (more k m d e low g) = ⊎_elim (λ (l : m ≤ most). inl (omega arith)) (λ (l : 10 * least ≤ m). inr (omega arith)) (before m g)

pub spreads-more : (value low least most : ℕ) → most ≤ low → Spreads value low least most → Spreads value low (10 * least) (10 * most + 9)
spreads-more value low least most below s = record {
  some = s.some;
  order = omega (arith, s.order);
  first = omega (arith, s.first);
  spread = λ n l m. more n (n / 10) (n % 10) (omega arith) (omega arith) (s.spread (n / 10) (omega arith) (omega arith));
  apart = λ n g. apart-more value least most n (omega (arith, s.first, s.order)) s.apart g;
  above = λ n g. ⊎_elim (λ (l : n ≤ most). inl (omega arith)) (λ (l : 10 * least ≤ n). inr l) (s.apart n g);
}

spread-text : (value n : ℕ) → 1 ≤ value → n ≤ greatest → Grown value n → (rest : List ℕ) × (decimal n ≡ shown value ++ rest)
spread-text value n some top g =
    let text = grown-text value n some (omega arith) g in
    (text.0, text.1 ∙ ap (λ t. t ++ text.0) (sym (shown-some value some)))

pub spreads-found : (value low least most : ℕ) → low < most → least ≤ greatest → low < greatest → Spreads value low least most → GrowsAbove low value
spreads-found value low least most over top room s =
    ⊎_elim
    (λ (l : low < least).
    let text = spread-text value least s.some top (s.spread least (omega arith) s.order) in (least, text.0, l, top, text.1))
    (λ (l : least ≤ low).
    let text = spread-text value (low + 1) s.some (omega arith) (s.spread (low + 1) (omega arith) (omega arith)) in (low + 1, text.0, omega arith, omega arith, text.1))
    (cases_lt low least)

pub spreads-none : (value low least most : ℕ) → value ≤ greatest → greatest < least → Spreads value low least most → GrowsAbove low value → ⊥
spreads-none value low least most fits over s g =
    let grown = text-grown value g.0 g.1 s.some (omega arith) (omega (arith, g.3)) (g.4 ∙ ap (λ t. t ++ g.1) (shown-some value s.some)) in
    ⊎_elim (λ (l : g.0 ≤ low). absurd (omega (arith, g.2, l))) (λ (l : least ≤ g.0). absurd (omega (arith, g.3, l, over))) (s.above g.0 grown)

pub grows-fits : (low value : ℕ) → 1 ≤ value → value < 2 ^ 64 → GrowsAbove low value → value ≤ greatest
grows-fits low value some fits g =
    omega (arith, g.3, grown-least value g.0 (text-grown value g.0 g.1 some fits (omega (arith, g.3)) (g.4 ∙ ap (λ t. t ++ g.1) (shown-some value some))))
