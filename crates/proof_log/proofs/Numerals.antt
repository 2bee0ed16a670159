-- How a number is read, byte by byte.
use Rattle.std.proofs.Common.{◌≡◌, ℕ, zero, suc, ◌+◌, ◌-◌, ◌*◌, ◌^◌, ◌<◌, ◌≤◌, List, [], ◌∷◌, ◌++◌, length, get_or, take, drop, decimal, refl, sym, ap, subst, ◌∙◌, ⊎_elim, arith, append_assoc, append-nil, length-append, length-drop, drop-cons, add-one}
use Rattle.std.proofs.Math.Seq.{take-append-add, take-append_seam, take-length, drop-length}
use Rattle.std.proofs.lemmas.Fmt.{decimal_injective, decimal_nonempty, first_decimal}
use Rattle.proof_log.specs.Lines.{greatest}
use Rattle.proof_log.specs.Parts.{IsDigit, shown, GrowsAbove, AnyOf, IsNumber}
use Rattle.proof_log.specs.Texts.{StopsAt, StandsAt}
use Rattle.proof_log.proofs.Digits.{decimal-digits, digit-in, shown-some, shown-digits, shown-more, grows-fits}
use Rattle.proof_log.proofs.Sequences.{fronts-compared, IsPrefixFree}

-- a number is read up to a place
pub record IsReading (low : ℕ) (bytes : List ℕ) (at place value : ℕ) : Type 0 where
  pub so_far : drop at bytes ≡ shown value ++ drop place bytes
  pub reaches : place ≡ at + length (shown value)
  pub within : place ≤ length bytes
  pub fits : value ≤ greatest
  pub grows : GrowsAbove low value

pub reading-start : (low : ℕ) (bytes : List ℕ) (at : ℕ) → low < greatest → at ≤ length bytes → IsReading low bytes at at 0
reading-start low bytes at room within = record {
  so_far = refl;
  reaches = omega arith;
  within = within;
  fits = omega arith;
  grows = (greatest, decimal greatest, room, omega arith, refl);
}

-- the byte at a place, and those behind it
pub byte-there : (bytes : List ℕ) (place byte : ℕ) → place < length bytes → byte ≡ get_or bytes place 0 → drop place bytes ≡ byte ∷ drop (place + 1) bytes
byte-there bytes place byte within is = drop-cons bytes place 0 within ∙ ap (λ (x : ℕ). x ∷ drop (suc place) bytes) (sym is) ∙ ap (λ n. byte ∷ drop n bytes) (sym (add-one place))

shown-with : (value byte : ℕ) → IsDigit byte → 1 ≤ 10 * value + (byte - 48) → value ≤ greatest → shown (10 * value + (byte - 48)) ≡ shown value ++ byte ∷ []
shown-with value byte digit some fits =
    let same : 48 + (byte - 48) ≡ byte = omega (arith, digit.0) in
    shown-more value (byte - 48) (omega (arith, digit.0, digit.1)) some (omega (arith, digit.0, digit.1)) ∙ ap (λ (x : ℕ). shown value ++ x ∷ []) same

pub reading-more : (low : ℕ) (bytes : List ℕ) (at place value byte more : ℕ) → IsReading low bytes at place value → place < length bytes → byte ≡ get_or bytes place 0
    → IsDigit byte → more ≡ 10 * value + (byte - 48) → 1 ≤ more → GrowsAbove low more → IsReading low bytes at (place + 1) more
reading-more low bytes at place value byte more so_far within is digit same some grows =
    let shows : shown more ≡ shown value ++ byte ∷ [] = ap shown same ∙ shown-with value byte digit (subst (λ x. 1 ≤ x) same some) so_far.fits in
    record {
      so_far = so_far.so_far ∙ ap (λ t. shown value ++ t) (byte-there bytes place byte within is) ∙ sym (append_assoc (shown value) (byte ∷ []) (drop (place + 1) bytes)) ∙ ap (λ t. t ++ drop (place + 1) bytes) (sym shows);
      reaches = omega (arith, so_far.reaches, ap length shows, length-append (shown value) (byte ∷ []));
      within = omega arith;
      fits = grows-fits low more some (omega (arith, same, so_far.fits, digit.1)) grows;
      grows = grows;
    }

pub reading-found : (low end : ℕ) (bytes : List ℕ) (at place value byte : ℕ) → IsReading low bytes at place value → place < length bytes → byte ≡ get_or bytes place 0
    → byte ≡ end → low < value → StandsAt (IsNumber low end value) bytes at (place + 1)
reading-found low end bytes at place value byte so_far within is same over =
    let shows : shown value ≡ decimal value = shown-some value (omega arith) in
    let there : drop place bytes ≡ end ∷ drop (place + 1) bytes = byte-there bytes place end within (sym same ∙ is) in
    record {
      text = decimal value ++ end ∷ [];
      is = (over, so_far.fits, refl);
      stands = so_far.so_far ∙ ap (λ t. shown value ++ t) there ∙ ap (λ t. t ++ end ∷ drop (place + 1) bytes) shows ∙ sym (append_assoc (decimal value) (end ∷ []) (drop (place + 1) bytes));
      reaches = omega (arith, so_far.reaches, ap length shows, length-append (decimal value) (end ∷ []));
      within = omega arith;
    }

-- a byte that isn't the end and can't go on stands in no number that begins so
module _ (low end value byte : ℕ) (mark : end < 48) (fits : value ≤ greatest) (no_end : byte ≡ end → low < value → ⊥) (no_digit : IsDigit byte → 1 ≤ 10 * value + (byte - 48) → GrowsAbove low (10 * value + (byte - 48)) → ⊥) where
  goes-on : (n : ℕ) (c : List ℕ) → low < n → n ≤ greatest → decimal n ≡ shown value ++ byte ∷ c → ⊥
  goes-on n c over top e =
      let digit : IsDigit byte = digit-in (decimal n) (shown value) c byte (decimal-digits n (omega arith)) e in
      let some : 1 ≤ 10 * value + (byte - 48) =
      elim value as (λ v. decimal n ≡ shown v ++ byte ∷ c → 1 ≤ 10 * v + (byte - 48)) [
        | zero ↦ λ e. omega (arith, first_decimal n (omega arith) (omega arith), ap (λ t. get_or t 0 0) e)
        | suc v ↦ λ e. omega arith
      ] e in
      no_digit digit some (n, c, over, top, e ∙ sym (append_assoc (shown value) (byte ∷ []) c) ∙ ap (λ t. t ++ c) (sym (shown-with value byte digit some fits)))

  ends-there : (n : ℕ) → low < n → n ≤ greatest → byte ≡ end → decimal n ≡ shown value → ⊥
  ends-there n over top same e =
      elim value as (λ v. v ≤ greatest → (byte ≡ end → low < v → ⊥) → decimal n ≡ shown v → ⊥) [
        | zero ↦ λ f h e. absurd (omega (arith, decimal_nonempty n (omega arith), ap length e))
        | suc v ↦ λ f h e.
            let is : n ≡ suc v = decimal_injective n (suc v) (omega arith) (omega arith) e in
            h same (omega arith)
      ] fits no_end e

  pub no-number : (n : ℕ) (r t : List ℕ) → low < n → n ≤ greatest → decimal n ++ end ∷ r ≡ shown value ++ byte ∷ t → ⊥
  no-number n r t over top e =
      ⊎_elim
      (λ (l : (c : List ℕ) × (shown value ≡ decimal n ++ c) × (end ∷ r ≡ c ++ byte ∷ t)).
      elim l.0 as (λ c. shown value ≡ decimal n ++ c → end ∷ r ≡ c ++ byte ∷ t → ⊥) [
        | [] ↦ λ w h. let same : byte ≡ end = cc in ends-there n over top same (sym (append-nil (decimal n)) ∙ sym w)
        | z ∷ c ↦ λ w h.
            let same : z ≡ end = cc in
            let digit = digit-in (shown value) (decimal n) c z (shown-digits value (omega arith)) w in
            absurd (omega (arith, digit.0, same))
      ] l.1 l.2)
      (λ (l : (c : List ℕ) × (decimal n ≡ shown value ++ c) × (byte ∷ t ≡ c ++ end ∷ r)).
      elim l.0 as (λ c. decimal n ≡ shown value ++ c → byte ∷ t ≡ c ++ end ∷ r → ⊥) [
        | [] ↦ λ w h. let same : byte ≡ end = cc in ends-there n over top same (w ∙ append-nil (shown value))
        | z ∷ c ↦ λ w h.
            let same : z ≡ byte = cc in
            goes-on n c over top (w ∙ ap (λ (x : ℕ). shown value ++ x ∷ c) same)
      ] l.1 l.2)
      (fronts-compared (decimal n) (shown value) (end ∷ r) (byte ∷ t) e)

-- what was read begins a number
begun-so : (low end value : ℕ) → (grows : GrowsAbove low value) → AnyOf (IsNumber low end) (shown value ++ (grows.1 ++ end ∷ []))
begun-so low end value grows = (grows.0, (grows.2, grows.3, sym (append_assoc (shown value) grows.1 (end ∷ [])) ∙ ap (λ t. t ++ end ∷ []) (sym grows.4)))

pub reading-stuck : (low end : ℕ) (bytes : List ℕ) (at place value byte : ℕ) → IsReading low bytes at place value → place < length bytes → byte ≡ get_or bytes place 0 → end < 48
    → (byte ≡ end → low < value → ⊥) → (IsDigit byte → 1 ≤ 10 * value + (byte - 48) → GrowsAbove low (10 * value + (byte - 48)) → ⊥)
    → StopsAt (AnyOf (IsNumber low end)) bytes at place
reading-stuck low end bytes at place value byte so_far within is mark no_end no_digit =
    let far : place - at ≡ length (shown value) = omega (arith, so_far.reaches) in
    let rest = drop (place + 1) bytes in
    let whole : drop at bytes ≡ shown value ++ byte ∷ rest = so_far.so_far ∙ ap (λ t. shown value ++ t) (byte-there bytes place byte within is) in
    let front : take (place - at) (drop at bytes) ≡ shown value = ap (λ n. take n (drop at bytes)) far ∙ ap (take (length (shown value))) whole ∙ take-append_seam (shown value) (byte ∷ rest) in
    let more : take (place - at + 1) (drop at bytes) ≡ shown value ++ byte ∷ [] =
    ap (λ n. take (n + 1) (drop at bytes)) far ∙ ap (take (length (shown value) + 1)) whole ∙ take-append-add (shown value) (byte ∷ rest) 1 in (
      omega (arith, so_far.reaches),
      record {
        within = rw length-drop (omega (arith, so_far.within));
        begun = (so_far.grows.1 ++ end ∷ [], subst (λ t. AnyOf (IsNumber low end) (t ++ (so_far.grows.1 ++ end ∷ []))) (sym front) (begun-so low end value so_far.grows));
        none = λ f. no-number low end value byte mark so_far.fits no_end no_digit f.2.0 f.1 rest f.2.1.0 f.2.1.1
            (sym (append_assoc (decimal f.2.0) (end ∷ []) f.1) ∙ ap (λ t. t ++ f.1) (sym f.2.1.2) ∙ sym f.3 ∙ whole);
        no_more = λ inside f. no-number low end value byte mark so_far.fits no_end no_digit f.1.0 [] f.0 f.1.1.0 f.1.1.1
            (sym f.1.1.2 ∙ ap (λ t. t ++ f.0) more ∙ append_assoc (shown value) (byte ∷ []) f.0);
      },
    )

reading-end : (low end : ℕ) (bytes : List ℕ) (at place value : ℕ) → IsReading low bytes at place value → place ≡ length bytes → end < 48
    → StopsAt (AnyOf (IsNumber low end)) bytes at place
reading-end low end bytes at place value so_far last mark =
    let far : place - at ≡ length (shown value) = omega (arith, so_far.reaches) in
    let whole : drop at bytes ≡ shown value = so_far.so_far ∙ ap (λ n. shown value ++ drop n bytes) last ∙ ap (λ t. shown value ++ t) (drop-length bytes) ∙ append-nil (shown value) in
    let front : take (place - at) (drop at bytes) ≡ shown value = ap (λ n. take n (drop at bytes)) far ∙ ap (take (length (shown value))) whole ∙ take-length (shown value) in
    let all : length (drop at bytes) ≡ length (shown value) = ap length whole in (
      omega (arith, so_far.reaches),
      record {
        within = omega (arith, all, far);
        begun = (so_far.grows.1 ++ end ∷ [], subst (λ t. AnyOf (IsNumber low end) (t ++ (so_far.grows.1 ++ end ∷ []))) (sym front) (begun-so low end value so_far.grows));
        none = λ f.
            let e : shown value ≡ decimal f.2.0 ++ end ∷ f.1 = sym whole ∙ f.3 ∙ ap (λ t. t ++ f.1) f.2.1.2 ∙ append_assoc (decimal f.2.0) (end ∷ []) f.1 in
            let digit = digit-in (shown value) (decimal f.2.0) f.1 end (shown-digits value (omega (arith, so_far.fits))) e in
            absurd (omega (arith, digit.0, mark));
        no_more = λ inside f. absurd (omega (arith, inside, all, far));
      },
    )

pub reading-short : (low end : ℕ) (bytes : List ℕ) (at place value : ℕ) → IsReading low bytes at place value → place ≡ length bytes → end < 48
    → StopsAt (AnyOf (IsNumber low end)) bytes at (length bytes)
reading-short low end bytes at place value so_far last mark =
    subst (λ p. StopsAt (AnyOf (IsNumber low end)) bytes at p) last (reading-end low end bytes at place value so_far last mark)

-- a number is no front of another
pub number-free : (low end : ℕ) → end < 48 → IsPrefixFree (IsNumber low end)
number-free low end mark m n a b r s is also e =
    let whole : decimal m ++ (end ∷ r) ≡ decimal n ++ (end ∷ s) =
    sym (append_assoc (decimal m) (end ∷ []) r) ∙ ap (λ t. t ++ r) (sym is.2) ∙ e ∙ ap (λ t. t ++ s) also.2 ∙ append_assoc (decimal n) (end ∷ []) s in
    let fits : m < 2 ^ 64 = omega (arith, is.1) in
    let also_fits : n < 2 ^ 64 = omega (arith, also.1) in
    let texts : decimal m ≡ decimal n =
    ⊎_elim
    (λ (l : (c : List ℕ) × (decimal n ≡ decimal m ++ c) × (end ∷ r ≡ c ++ end ∷ s)).
    elim l.0 as (λ c. decimal n ≡ decimal m ++ c → end ∷ r ≡ c ++ end ∷ s → decimal m ≡ decimal n) [
      | [] ↦ λ w h. sym (w ∙ append-nil (decimal m))
      | z ∷ c ↦ λ w h. let same : z ≡ end = cc in absurd (omega (arith, (digit-in (decimal n) (decimal m) c z (decimal-digits n also_fits) w).0, same, mark))
    ] l.1 l.2)
    (λ (l : (c : List ℕ) × (decimal m ≡ decimal n ++ c) × (end ∷ s ≡ c ++ end ∷ r)).
    elim l.0 as (λ c. decimal m ≡ decimal n ++ c → end ∷ s ≡ c ++ end ∷ r → decimal m ≡ decimal n) [
      | [] ↦ λ w h. w ∙ append-nil (decimal n)
      | z ∷ c ↦ λ w h. let same : z ≡ end = cc in absurd (omega (arith, (digit-in (decimal m) (decimal n) c z (decimal-digits m fits) w).0, same, mark))
    ] l.1 l.2)
    (fronts-compared (decimal m) (decimal n) (end ∷ r) (end ∷ s) whole) in
    (decimal_injective m n fits also_fits texts, is.2 ∙ ap (λ t. t ++ end ∷ []) texts ∙ sym also.2)
