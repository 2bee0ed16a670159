-- What stands, and where bytes stop, of texts one behind another.
use Rattle.std.proofs.Common.{take-take, ◌≡◌, ℕ, zero, suc, ◌+◌, ◌-◌, ◌<◌, ◌≤◌, List, [], ◌∷◌, ◌++◌, length, take, drop, get_or, refl, sym, ap, subst, ◌∙◌, ◌⊎◌, inl, inr, ⊎_elim, arith, append_assoc, append-nil, length-append, add-one}
use Rattle.std.proofs.Math.Seq.{take-append-add}
use Rattle.std.proofs.lemmas.List.{take-append-drop, append_cancel_left}
use Rattle.std.proofs.lemmas.Bool.{cases_lt}
use Rattle.proof_log.specs.Texts.{Stops, StopsAt, StandsAt}
use Rattle.proof_log.specs.Parts.{AnyOf, Then}

-- of two fronts of the same bytes, one is a front of the other
pub fronts-compared : (a b : List ℕ) (r s : List ℕ) → a ++ r ≡ b ++ s → ((c : List ℕ) × (b ≡ a ++ c) × (r ≡ c ++ s)) ⊎ ((c : List ℕ) × (a ≡ b ++ c) × (s ≡ c ++ r))
fronts-compared [] b r s e = inl (b, refl, e)
fronts-compared (x ∷ a) [] r s e = inr (x ∷ a, refl, sym e)
fronts-compared (x ∷ a) (y ∷ b) r s e =
    let head : x ≡ y = cc in
    let tails : a ++ r ≡ b ++ s = cc in
    ⊎_elim
    (λ (l : (c : List ℕ) × (b ≡ a ++ c) × (r ≡ c ++ s)). inl (l.0, subst (λ (z : ℕ). y ∷ b ≡ z ∷ (a ++ l.0)) (sym head) (ap (λ t. y ∷ t) l.1), l.2))
    (λ (l : (c : List ℕ) × (a ≡ b ++ c) × (s ≡ c ++ r)). inr (l.0, subst (λ (z : ℕ). x ∷ a ≡ z ∷ (b ++ l.0)) head (ap (λ t. x ∷ t) l.1), l.2))
    (fronts-compared a b r s tails)

-- the byte at a place in bytes
pub part-more : (bytes : List ℕ) (place : ℕ) → place < length bytes → take (place + 1) bytes ≡ take place bytes ++ get_or bytes place 0 ∷ []
part-more [] place within = absurd (omega arith)
part-more (x ∷ bytes) zero within = refl
part-more (x ∷ bytes) (suc place) within =
    ap (λ n. take n (x ∷ bytes)) (add-one (suc place)) ∙ ap (λ t. x ∷ t) (ap (λ n. take n bytes) (sym (add-one place)) ∙ part-more bytes place (omega arith))

-- no thing's text goes on as another's
abbrev pub IsPrefixFree : {Thing : Type 0} → (Thing → List ℕ → Type 0) → Type 0
IsPrefixFree {Thing} Is = (x y : Thing) (a b r s : List ℕ) → Is x a → Is y b → a ++ r ≡ b ++ s → (x ≡ y) × (a ≡ b)

module _ {Thing : Type 0} (First Next : Thing → List ℕ → Type 0) where
  -- where the first text stops, the two stop
  pub stops-first : (bytes : List ℕ) (place : ℕ)
      → ((thing : Thing) (a : List ℕ) → First thing a → (b : List ℕ) × Next thing b)
      → Stops (AnyOf First) bytes place → Stops (Then First Next) bytes place
  stops-first bytes place live stops = record {
    within = stops.within;
    begun =
        let rest = stops.begun.0 in
        let thing = stops.begun.1.0 in
        let next = live thing (take place bytes ++ rest) stops.begun.1.1 in
        (rest ++ next.0, (thing, take place bytes ++ rest, next.0, sym (append_assoc (take place bytes) rest next.0), stops.begun.1.1, next.1));
    none = λ f.
        let t = f.2 in
        stops.none (t.1, t.2 ++ f.1, (t.0, t.4), f.3 ∙ ap (λ x. x ++ f.1) t.3 ∙ append_assoc t.1 t.2 f.1);
    no_more = λ within f.
        let t = f.1 in
        let front = take (place + 1) bytes in
        ⊎_elim
        (λ (l : (c : List ℕ) × (t.1 ≡ front ++ c) × (f.0 ≡ c ++ t.2)). stops.no_more within (l.0, (t.0, subst (λ x. First t.0 x) l.1 t.4)))
        (λ (l : (c : List ℕ) × (front ≡ t.1 ++ c) × (t.2 ≡ c ++ f.0)).
        stops.none (t.1, l.0 ++ drop (place + 1) bytes, (t.0, t.4), sym (take-append-drop (place + 1) bytes) ∙ ap (λ x. x ++ drop (place + 1) bytes) l.1 ∙ append_assoc t.1 l.0 (drop (place + 1) bytes)))
        (fronts-compared front t.1 f.0 t.2 t.3);
  }

  module _ (free : IsPrefixFree First) where
    -- what stands behind the first text is the second
    second-stands : (thing : Thing) (a cs b r : List ℕ) → First thing a → (t : Then First Next b) → b ++ r ≡ a ++ cs → (t.2 ++ r ≡ cs) × Next thing t.2
    second-stands thing a cs b r first t e =
        let whole : t.1 ++ (t.2 ++ r) ≡ a ++ cs = sym (append_assoc t.1 t.2 r) ∙ ap (λ x. x ++ r) (sym t.3) ∙ e in
        let same = free t.0 thing t.1 a (t.2 ++ r) cs t.4 first whole in
        (append_cancel_left a (t.2 ++ r) cs (ap (λ x. x ++ (t.2 ++ r)) (sym same.1) ∙ whole), subst (λ x. Next x t.2) same.0 t.5)

    -- where the second text stops behind the first, the two stop
    pub stops-second : (bytes : List ℕ) (thing : Thing) (a cs : List ℕ) (place : ℕ)
        → First thing a → bytes ≡ a ++ cs → Stops (Next thing) cs place → Stops (Then First Next) bytes (length a + place)
    stops-second bytes thing a cs place first whole stops =
        let front : (n : ℕ) → take (length a + n) bytes ≡ a ++ take n cs = λ n. ap (take (length a + n)) whole ∙ take-append-add a cs n in
        record {
          within = rw (whole, length-append) (omega (arith, stops.within));
          begun = (stops.begun.0, (thing, a, take place cs ++ stops.begun.0, ap (λ x. x ++ stops.begun.0) (front place) ∙ append_assoc a (take place cs) stops.begun.0, first, stops.begun.1));
          none = λ f.
              let s = second-stands thing a cs f.0 f.1 first f.2 (sym f.3 ∙ whole) in
              stops.none (f.2.2, f.1, s.1, sym s.0);
          no_more = λ within f.
              let inside : place < length cs = omega (arith, subst (λ x. length a + place < x) (ap length whole ∙ length-append a cs) within) in
              let more : take (length a + place + 1) bytes ≡ a ++ take (place + 1) cs = ap (λ n. take n bytes) (omega arith) ∙ front (place + 1) in
              let s = second-stands thing a (take (place + 1) cs ++ f.0) (take (length a + place + 1) bytes ++ f.0) [] first f.1
              (append-nil (take (length a + place + 1) bytes ++ f.0) ∙ ap (λ x. x ++ f.0) more ∙ append_assoc a (take (place + 1) cs) f.0) in
              stops.no_more inside (f.0, subst (λ x. Next thing x) (sym (append-nil f.1.2) ∙ s.0) s.1);
        }

    -- the two texts are no front of another two, where the second isn't of another second
    pub then-free : ((thing : Thing) (a b r s : List ℕ) → Next thing a → Next thing b → a ++ r ≡ b ++ s → a ≡ b)
        → (x y r s : List ℕ) → Then First Next x → Then First Next y → x ++ r ≡ y ++ s → x ≡ y
    then-free alone x y r s t u e =
        let second = second-stands u.0 u.1 (u.2 ++ s) x r u.4 t (e ∙ ap (λ z. z ++ s) u.3 ∙ append_assoc u.1 u.2 s) in
        let whole : t.1 ++ (t.2 ++ r) ≡ u.1 ++ (u.2 ++ s) = sym (append_assoc t.1 t.2 r) ∙ ap (λ z. z ++ r) (sym t.3) ∙ e ∙ ap (λ z. z ++ s) u.3 ∙ append_assoc u.1 u.2 s in
        let same = free t.0 u.0 t.1 u.1 (t.2 ++ r) (u.2 ++ s) t.4 u.4 whole in
        t.3 ∙ ap (λ z. z ++ t.2) same.1 ∙ ap (λ z. u.1 ++ z) (alone u.0 t.2 u.2 r s second.1 u.5 second.0) ∙ sym u.3

module _ (Text Other : List ℕ → Type 0) where
  -- where bytes stop by one kind of text, they stop by another with the same texts
  pub stops-same : ((text : List ℕ) → Text text → Other text) → ((text : List ℕ) → Other text → Text text) → (bytes : List ℕ) (place : ℕ) → Stops Text bytes place → Stops Other bytes place
  stops-same to from bytes place stops = record {
    within = stops.within;
    begun = (stops.begun.0, to (take place bytes ++ stops.begun.0) stops.begun.1);
    none = λ f. stops.none (f.0, f.1, from f.0 f.2, f.3);
    no_more = λ within f. stops.no_more within (f.0, from (take (place + 1) bytes ++ f.0) f.1);
  }

  -- the same where the texts of the other kind that begin as the bytes do are of the one
  pub stops-chosen : ((text : List ℕ) → Text text → Other text) → (Other [] → ⊥)
      → (bytes : List ℕ) → ((byte : ℕ) (more text : List ℕ) → bytes ≡ byte ∷ more → Other (byte ∷ text) → Text (byte ∷ text))
      → (place : ℕ) → Stops Text bytes place → Stops Other bytes place
  stops-chosen to nothing [] from place stops = record {
    within = stops.within;
    begun = (stops.begun.0, to (take place [] ++ stops.begun.0) stops.begun.1);
    none = λ f. elim f.0 as (λ t. Other t → [] ≡ t ++ f.1 → ⊥) [ [] ↦ λ o e. nothing o | x ∷ t ↦ λ o e. absurd (omega (arith, ap length e)) ] f.2 f.3;
    no_more = λ within f. absurd (omega (arith, within));
  }
  stops-chosen to nothing (byte ∷ more) from place stops = record {
    within = stops.within;
    begun = (stops.begun.0, to (take place (byte ∷ more) ++ stops.begun.0) stops.begun.1);
    none = λ f. elim f.0 as (λ t. Other t → byte ∷ more ≡ t ++ f.1 → ⊥) [
      | [] ↦ λ o e. nothing o
      | x ∷ t ↦ λ o e.
          let same : byte ≡ x = cc in
          stops.none (byte ∷ t, f.1, from byte more t refl (subst (λ z. Other (z ∷ t)) (sym same) o), subst (λ z. byte ∷ more ≡ z ∷ (t ++ f.1)) (sym same) e)
    ] f.2 f.3;
    no_more = λ within f.
        let e : take (place + 1) (byte ∷ more) ≡ byte ∷ take place more = ap (λ n. take n (byte ∷ more)) (add-one place) in
        stops.no_more within (f.0, subst (λ z. Text (z ++ f.0)) (sym e) (from byte more (take place more ++ f.0) refl (subst (λ z. Other (z ++ f.0)) e f.1)));
  }

  -- behind a byte
  pub stops-behind : (byte : ℕ) → ((text : List ℕ) → Text text → Other (byte ∷ text)) → ((text : List ℕ) → Other (byte ∷ text) → Text text) → (Other [] → ⊥)
      → (bytes more : List ℕ) (place : ℕ) → bytes ≡ byte ∷ more → Stops Text more place → Stops Other bytes (place + 1)
  stops-behind byte to from nothing bytes more place whole stops =
      let front : (n : ℕ) → take (n + 1) bytes ≡ byte ∷ take n more = λ n. ap (take (n + 1)) whole ∙ ap (λ m. take m (byte ∷ more)) (add-one n) in
      record {
        within = rw whole (omega (arith, stops.within));
        begun = (stops.begun.0, subst (λ z. Other (z ++ stops.begun.0)) (sym (front place)) (to (take place more ++ stops.begun.0) stops.begun.1));
        none = λ f. elim f.0 as (λ t. Other t → bytes ≡ t ++ f.1 → ⊥) [
          | [] ↦ λ o e. nothing o
          | x ∷ t ↦ λ o e.
              let both : byte ∷ more ≡ x ∷ (t ++ f.1) = sym whole ∙ e in
              let same : byte ≡ x = cc in
              let rest : more ≡ t ++ f.1 = cc in
              stops.none (t, f.1, from t (subst (λ z. Other (z ∷ t)) (sym same) o), rest)
        ] f.2 f.3;
        no_more = λ within f.
            let inside : place < length more = omega (arith, subst (λ z. place + 1 < length z) whole within) in
            stops.no_more inside (f.0, from (take (place + 1) more ++ f.0) (subst (λ z. Other (z ++ f.0)) (front (place + 1)) f.1));
      }

-- where no text begins with the byte that is first, bytes stop at once
pub stops-here : (Text : List ℕ → Type 0) (live : (text : List ℕ) × Text text) → (Text [] → ⊥)
    → (bytes : List ℕ) → ((byte : ℕ) (more text : List ℕ) → bytes ≡ byte ∷ more → Text (byte ∷ text) → ⊥) → Stops Text bytes 0
stops-here Text live nothing bytes from = record {
  within = omega arith;
  begun = live;
  none = λ f. elim f.0 as (λ t. Text t → bytes ≡ t ++ f.1 → ⊥) [ [] ↦ λ o e. nothing o | x ∷ t ↦ λ o e. from x (t ++ f.1) t e o ] f.2 f.3;
  no_more = λ within f. elim bytes as (λ bs. bytes ≡ bs → 0 < length bs → Text (take (0 + 1) bs ++ f.0) → ⊥) [ [] ↦ λ e w t. absurd (omega (arith, w)) | x ∷ bs ↦ λ e w t. from x bs f.0 e t ] refl within f.1;
}

-- two texts that stand one behind the other
pub stands-then : (First Next Both : List ℕ → Type 0) → ((a b : List ℕ) → First a → Next b → Both (a ++ b)) → (bytes : List ℕ) (at mid after : ℕ)
    → StandsAt First bytes at mid → StandsAt Next bytes mid after → StandsAt Both bytes at after
stands-then First Next Both join bytes at mid after s t = record {
  text = s.text ++ t.text;
  is = join s.text t.text s.is t.is;
  stands = s.stands ∙ ap (λ x. s.text ++ x) t.stands ∙ sym (append_assoc s.text t.text (drop after bytes));
  reaches = omega (arith, s.reaches, t.reaches, length-append s.text t.text);
  within = t.within;
}

pub stands-same : (Text Other : List ℕ → Type 0) → ((text : List ℕ) → Text text → Other text) → (bytes : List ℕ) (at after : ℕ) → StandsAt Text bytes at after → StandsAt Other bytes at after
stands-same Text Other to bytes at after s = record { text = s.text; is = to s.text s.is; stands = s.stands; reaches = s.reaches; within = s.within }

pub stops-at-same : (Text Other : List ℕ → Type 0) → ((text : List ℕ) → Text text → Other text) → ((text : List ℕ) → Other text → Text text) → (bytes : List ℕ) (at place : ℕ) → StopsAt Text bytes at place → StopsAt Other bytes at place
stops-at-same Text Other to from bytes at place s = (s.0, stops-same Text Other to from (drop at bytes) (place - at) s.1)

module _ {Thing : Type 0} (First Next : Thing → List ℕ → Type 0) where
  pub stops-at-first : (bytes : List ℕ) (at place : ℕ)
      → ((thing : Thing) (a : List ℕ) → First thing a → (b : List ℕ) × Next thing b)
      → StopsAt (AnyOf First) bytes at place → StopsAt (Then First Next) bytes at place
  stops-at-first bytes at place live s = (s.0, stops-first First Next (drop at bytes) (place - at) live s.1)

  pub stops-at-second : IsPrefixFree First → (thing : Thing) (bytes : List ℕ) (at mid place : ℕ)
      → StandsAt (First thing) bytes at mid → StopsAt (Next thing) bytes mid place → StopsAt (Then First Next) bytes at place
  stops-at-second free thing bytes at mid place s t =
      let far : length s.text + (place - mid) ≡ place - at = omega (arith, s.reaches, t.0) in
      (omega (arith, s.reaches, t.0), subst (λ n. Stops (Then First Next) (drop at bytes) n) far (stops-second First Next free (drop at bytes) thing s.text (drop mid bytes) (place - mid) s.is s.stands t.1))

-- bytes stop at one place
stops-before : (Text : List ℕ → Type 0) (bytes : List ℕ) (place other : ℕ) → Stops Text bytes place → Stops Text bytes other → place < other → ⊥
stops-before Text bytes place other s t less =
    let split : take other bytes ≡ take (place + 1) bytes ++ drop (place + 1) (take other bytes) =
    sym (take-append-drop (place + 1) (take other bytes)) ∙ ap (λ x. x ++ drop (place + 1) (take other bytes)) (take-take (place + 1) other bytes (omega arith)) in
    let rest = drop (place + 1) (take other bytes) in
    s.no_more (omega (arith, t.within, less))
    (rest ++ t.begun.0, subst Text (ap (λ x. x ++ t.begun.0) split ∙ append_assoc (take (place + 1) bytes) rest t.begun.0) t.begun.1)

pub stops-once : (Text : List ℕ → Type 0) (bytes : List ℕ) (at place other : ℕ) → StopsAt Text bytes at place → StopsAt Text bytes at other → place ≡ other
stops-once Text bytes at place other s t =
    ⊎_elim
    (λ (l : place < other). absurd (stops-before Text (drop at bytes) (place - at) (other - at) s.1 t.1 (omega (arith, s.0, t.0, l))))
    (λ (l : other ≤ place). ⊎_elim
    (λ (m : other < place). absurd (stops-before Text (drop at bytes) (other - at) (place - at) t.1 s.1 (omega (arith, s.0, t.0, m))))
    (λ (m : place ≤ other). omega (arith, l, m))
    (cases_lt other place))
    (cases_lt place other)
