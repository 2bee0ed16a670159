-- Each row of the table of satisfaction, and of the abbreviations.
use Rattle.std.proofs.Common.{◌≡◌, ℕ, ◌+◌, ◌-◌, ◌<◌, ◌≤◌, Bool, true, false, not, ◌&&◌, ◌||◌, List, [], ◌∷◌, refl, sym, subst, ◌⊎◌, inl, inr, ⊎_elim, arith}
use Rattle.std.specs.Prelude.{nat_lt, nat_le, ◌↔◌}
use Rattle.std.specs.List.{Contains}
use Rattle.tel_rule.specs.declared.formulas.ManyOp.TheVariants as many
use Rattle.std.proofs.lemmas.Bool.{and_parts, and_from, or_cases, or_left, or_right, cases_lt, ltb-true, lt-ltb, leb-true, le-leb, false≢true}
use Rattle.tel_semantics.specs.Traces.{Test, each_below, some_below}
use Rattle.tel_semantics.specs.Formula.{Formula, True, False, And, Arrow, Previous, Next, initial, final}
use Rattle.tel_semantics.specs.NodeFormula.{many_formula}
use Rattle.tel_semantics.specs.Satisfaction.{sat}
use Rattle.tel_semantics.specs.Table.{Holds, FollowsTable, MeansItsName}
use Rattle.tel_base.proofs.Members.{In, In-from_Contains, Contains-from_In}
use Rattle.tel_semantics.proofs.Quantifiers.{each_below-at, each_below-all, some_below-at, some_below-from}

-- `not b || c` as an implication
pub implied : (b c : Bool) → (b ≡ true → c ≡ true) → (not b || c) ≡ true
implied true c h = h refl
implied false c h = refl

pub implied_at : (b c : Bool) → (not b || c) ≡ true → b ≡ true → c ≡ true
implied_at true c h t = h
implied_at false c h t = absurd (false≢true t)

pub and_iff : (b c : Bool) → ((b && c) ≡ true) ↔ ((b ≡ true) × (c ≡ true))
and_iff b c = (and_parts b c, λ p. and_from b c p.0 p.1)

pub or_iff : (b c : Bool) → ((b || c) ≡ true) ↔ ((b ≡ true) ⊎ (c ≡ true))
or_iff b c = (or_cases b c, λ s. ⊎_elim (λ l. or_left b c l) (λ r. or_right b c r) s)

pub arrow_iff : (b c d e : Bool) → (((not b || c) && (not d || e)) ≡ true) ↔ ((b ≡ true → c ≡ true) × (d ≡ true → e ≡ true))
arrow_iff b c d e =
    (λ h. let p = and_parts (not b || c) (not d || e) h in (implied_at b c p.0, implied_at d e p.1), λ p. and_from (not b || c) (not d || e) (implied b c p.0) (implied d e p.1))

-- the bounded quantifiers of the four operators, for any tests f and g of an instant
since_iff : (f g : ℕ → Bool) (k : ℕ) → (some_below (k + 1) (λ j. g j && each_below (k + 1) (λ i. not (nat_lt j i) || f i)) ≡ true) ↔ ((j : ℕ) × (j ≤ k) × (g j ≡ true) × ((i : ℕ) → j < i → i ≤ k → f i ≡ true))
since_iff f g k =
    let since = λ (j : ℕ). each_below (k + 1) (λ i. not (nat_lt j i) || f i) in
    (λ h. let w = some_below-at (k + 1) (λ j. g j && since j) h in let p = and_parts (g w.0) (since w.0) w.2 in (w.0, omega (arith, w.1), p.0, λ i l m. implied_at (nat_lt w.0 i) (f i) (each_below-at (k + 1) (λ x. not (nat_lt w.0 x) || f x) p.1 i (omega arith)) (lt-ltb w.0 i l)), λ w. some_below-from (k + 1) (λ j. g j && since j) w.0 (omega (arith, w.1)) (and_from (g w.0) (since w.0) w.2 (each_below-all (k + 1) (λ i. not (nat_lt w.0 i) || f i) (λ i m. implied (nat_lt w.0 i) (f i) (λ l. w.3 i (ltb-true w.0 i l) (omega arith))))))

trigger_iff : (f g : ℕ → Bool) (k : ℕ) → (each_below (k + 1) (λ j. g j || some_below (k + 1) (λ i. nat_lt j i && f i)) ≡ true) ↔ ((j : ℕ) → j ≤ k → (g j ≡ true) ⊎ ((i : ℕ) × (j < i) × (i ≤ k) × (f i ≡ true)))
trigger_iff f g k =
    let after = λ (j : ℕ). some_below (k + 1) (λ i. nat_lt j i && f i) in
    (λ h j l. ⊎_elim (λ here. inl here) (λ some. let w = some_below-at (k + 1) (λ i. nat_lt j i && f i) some in let p = and_parts (nat_lt j w.0) (f w.0) w.2 in inr (w.0, ltb-true j w.0 p.0, omega (arith, w.1), p.1)) (or_cases (g j) (after j) (each_below-at (k + 1) (λ x. g x || after x) h j (omega arith))), λ h. each_below-all (k + 1) (λ j. g j || after j) (λ j l. ⊎_elim (λ here. or_left (g j) (after j) here) (λ w. or_right (g j) (after j) (some_below-from (k + 1) (λ i. nat_lt j i && f i) w.0 (omega (arith, w.2)) (and_from (nat_lt j w.0) (f w.0) (lt-ltb j w.0 w.1) w.3))) (h j (omega arith))))

until_iff : (n : ℕ) (f g : ℕ → Bool) (k : ℕ) → (some_below n (λ j. nat_le k j && (g j && each_below j (λ i. not (nat_le k i) || f i))) ≡ true) ↔ ((j : ℕ) × (k ≤ j) × (j < n) × (g j ≡ true) × ((i : ℕ) → k ≤ i → i < j → f i ≡ true))
until_iff n f g k =
    let meanwhile = λ (j : ℕ). each_below j (λ i. not (nat_le k i) || f i) in
    (λ h. let w = some_below-at n (λ j. nat_le k j && (g j && meanwhile j)) h in let p = and_parts (nat_le k w.0) (g w.0 && meanwhile w.0) w.2 in let q = and_parts (g w.0) (meanwhile w.0) p.1 in (w.0, leb-true k w.0 p.0, w.1, q.0, λ i l m. implied_at (nat_le k i) (f i) (each_below-at w.0 (λ x. not (nat_le k x) || f x) q.1 i m) (le-leb k i l)), λ w. some_below-from n (λ j. nat_le k j && (g j && meanwhile j)) w.0 w.2 (and_from (nat_le k w.0) (g w.0 && meanwhile w.0) (le-leb k w.0 w.1) (and_from (g w.0) (meanwhile w.0) w.3 (each_below-all w.0 (λ i. not (nat_le k i) || f i) (λ i m. implied (nat_le k i) (f i) (λ l. w.4 i (leb-true k i l) m))))))

release_iff : (n : ℕ) (f g : ℕ → Bool) (k : ℕ) → (each_below n (λ j. not (nat_le k j) || (g j || some_below j (λ i. nat_le k i && f i))) ≡ true) ↔ ((j : ℕ) → k ≤ j → j < n → (g j ≡ true) ⊎ ((i : ℕ) × (k ≤ i) × (i < j) × (f i ≡ true)))
release_iff n f g k =
    let before = λ (j : ℕ). some_below j (λ i. nat_le k i && f i) in
    (λ h j l m. ⊎_elim (λ here. inl here) (λ some. let w = some_below-at j (λ i. nat_le k i && f i) some in let p = and_parts (nat_le k w.0) (f w.0) w.2 in inr (w.0, leb-true k w.0 p.0, w.1, p.1)) (or_cases (g j) (before j) (implied_at (nat_le k j) (g j || before j) (each_below-at n (λ x. not (nat_le k x) || (g x || before x)) h j m) (le-leb k j l))), λ h. each_below-all n (λ j. not (nat_le k j) || (g j || before j)) (λ j m. implied (nat_le k j) (g j || before j) (λ l. ⊎_elim (λ here. or_left (g j) (before j) here) (λ w. or_right (g j) (before j) (some_below-from j (λ i. nat_le k i && f i) w.0 w.2 (and_from (nat_le k w.0) (f w.0) (le-leb k w.0 w.1) w.3))) (h j (leb-true k j l) m))))

pub follows_table : (f g : Formula) (n : ℕ) (H T : Test) (k : ℕ) → FollowsTable f g n H T k
follows_table f g n H T k =
    let at_f = sat f n H T in
    let at_g = sat g n H T in
    record {
      true_row = refl;
      false_row = λ h. false≢true h;
      atom_row = λ atom. (λ h. h, λ h. h);
      and_row = and_iff (at_f k) (at_g k);
      or_row = or_iff (at_f k) (at_g k);
      arrow_row = arrow_iff (at_f k) (at_g k) (sat f n T T k) (sat g n T T k);
      previous_row = (λ h. let p = and_parts (nat_lt 0 k) (at_f (k - 1)) h in (ltb-true 0 k p.0, p.1), λ p. and_from (nat_lt 0 k) (at_f (k - 1)) (lt-ltb 0 k p.0) p.1);
      since_row = since_iff at_f at_g k;
      trigger_row = trigger_iff at_f at_g k;
      next_row = (λ h. let p = and_parts (nat_lt (k + 1) n) (at_f (k + 1)) h in (ltb-true (k + 1) n p.0, p.1), λ p. and_from (nat_lt (k + 1) n) (at_f (k + 1)) (lt-ltb (k + 1) n p.0) p.1);
      until_row = until_iff n at_f at_g k;
      release_row = release_iff n at_f at_g k;
    }

-- a negation where what is negated is the same in (H, T) and (T, T)
negated_iff : (b c : Bool) → (((not b || false) && (not c || false)) ≡ true) ↔ ((b ≡ true → ⊥) × (c ≡ true → ⊥))
negated_iff b c =
    let arrow = arrow_iff b false c false in
    (λ h. let p = arrow.0 h in (λ t. false≢true (p.0 t), λ t. false≢true (p.1 t)), λ p. arrow.1 (λ t. absurd (p.0 t), λ t. absurd (p.1 t)))

initial_iff : (n : ℕ) (H T : Test) (k : ℕ) → Holds initial n H T k ↔ (k ≡ 0)
initial_iff n H T k =
    let some = nat_lt 0 k && true in
    let iff = negated_iff some some in
    (λ h. ⊎_elim (λ above. absurd ((iff.0 h).0 (and_from (nat_lt 0 k) true (lt-ltb 0 k above) refl))) (λ low. omega arith) (cases_lt 0 k), λ e. let none : some ≡ true → ⊥ = λ t. let above = ltb-true 0 k (and_parts (nat_lt 0 k) true t).0 in absurd (omega arith) in iff.1 (none, none))

final_iff : (n : ℕ) (H T : Test) (k : ℕ) → k < n → Holds final n H T k ↔ (k + 1 ≡ n)
final_iff n H T k l =
    let some = nat_lt (k + 1) n && true in
    let iff = negated_iff some some in
    (λ h. ⊎_elim (λ above. absurd ((iff.0 h).0 (and_from (nat_lt (k + 1) n) true (lt-ltb (k + 1) n above) refl))) (λ low. omega arith) (cases_lt (k + 1) n), λ e. let none : some ≡ true → ⊥ = λ t. let above = ltb-true (k + 1) n (and_parts (nat_lt (k + 1) n) true t).0 in absurd (omega arith) in iff.1 (none, none))

-- the `and` of formulas, and the `or` of them
and_chain : (formulas : List Formula) (n : ℕ) (H T : Test) (k : ℕ) → Holds (many_formula many.And formulas) n H T k ↔ ((h : Formula) → Contains formulas h → Holds h n H T k)
and_chain formulas n H T k =
    (λ held h found. all_held formulas n H T k held h (In-from_Contains formulas h found), λ each. each_held formulas n H T k (λ h found. each h (Contains-from_In formulas h found)))
  where
    all_held : (formulas : List Formula) (n : ℕ) (H T : Test) (k : ℕ) → Holds (many_formula many.And formulas) n H T k → (h : Formula) → In h formulas → Holds h n H T k
    all_held [] n H T k held h found = absurd found
    all_held (f ∷ more) n H T k held h found =
        let both = and_parts (sat f n H T k) (sat (many_formula many.And more) n H T k) held in
        ⊎_elim (λ same. subst (λ (x : Formula). Holds x n H T k) same both.0) (λ later. all_held more n H T k both.1 h later) found

    each_held : (formulas : List Formula) (n : ℕ) (H T : Test) (k : ℕ) → ((h : Formula) → In h formulas → Holds h n H T k) → Holds (many_formula many.And formulas) n H T k
    each_held [] n H T k each = refl
    each_held (f ∷ more) n H T k each =
        and_from (sat f n H T k) (sat (many_formula many.And more) n H T k) (each f (inl refl)) (each_held more n H T k (λ h found. each h (inr found)))

or_chain : (formulas : List Formula) (n : ℕ) (H T : Test) (k : ℕ) → Holds (many_formula many.Or formulas) n H T k ↔ ((h : Formula) × Contains formulas h × Holds h n H T k)
or_chain formulas n H T k =
    (λ held. let w = some_held formulas n H T k held in (w.0, Contains-from_In formulas w.0 w.1, w.2), λ w. holds_by formulas n H T k w.0 (In-from_Contains formulas w.0 w.1) w.2)
  where
    some_held : (formulas : List Formula) (n : ℕ) (H T : Test) (k : ℕ) → Holds (many_formula many.Or formulas) n H T k → (h : Formula) × In h formulas × Holds h n H T k
    some_held [] n H T k held = absurd (false≢true held)
    some_held (f ∷ more) n H T k held =
        ⊎_elim (λ here. (f, inl refl, here)) (λ later. let w = some_held more n H T k later in (w.0, inr w.1, w.2)) (or_cases (sat f n H T k) (sat (many_formula many.Or more) n H T k) held)

    holds_by : (formulas : List Formula) (n : ℕ) (H T : Test) (k : ℕ) (h : Formula) → In h formulas → Holds h n H T k → Holds (many_formula many.Or formulas) n H T k
    holds_by [] n H T k h found held = absurd found
    holds_by (f ∷ more) n H T k h found held =
        ⊎_elim (λ same. or_left (sat f n H T k) (sat (many_formula many.Or more) n H T k) (subst (λ (x : Formula). Holds x n H T k) (sym same) held)) (λ later. or_right (sat f n H T k) (sat (many_formula many.Or more) n H T k) (holds_by more n H T k h later held)) found

pub means_its_name : (f g : Formula) (formulas : List Formula) (n : ℕ) (H T : Test) (k : ℕ) → k < n → MeansItsName f g formulas n H T k
means_its_name f g formulas n H T k l =
    let rows = follows_table f g n H T k in
    let there = follows_table g f n H T k in
    let both = and_iff (sat (Arrow f g) n H T k) (sat (Arrow g f) n H T k) in
    let first = initial_iff n H T in
    let last = final_iff n H T in
    let before = (follows_table True f n H T k).since_row in
    let after = (follows_table True f n H T k).until_row in
    let always_back = (follows_table False f n H T k).trigger_row in
    let always_on = (follows_table False f n H T k).release_row in
    let start = (follows_table True (And initial f) n H T k).since_row in
    let finish = (follows_table True (And final f) n H T k).until_row in
    let previous = (follows_table f f n H T k).previous_row in
    let next = (follows_table f f n H T k).next_row in
    let either_previous = or_iff (sat (Previous f) n H T k) (sat initial n H T k) in
    let either_next = or_iff (sat (Next f) n H T k) (sat final n H T k) in
    record {
      not_row = negated_iff (sat f n H T k) (sat f n T T k);
      initial_row = first k;
      final_row = last k l;
      weak_previous_row = (λ h above. ⊎_elim (λ p. (previous.0 p).1) (λ i. let e = (first k).0 i in absurd (omega arith)) (either_previous.0 h), λ h. ⊎_elim (λ above. either_previous.1 (inl (previous.1 (above, h above)))) (λ low. either_previous.1 (inr ((first k).1 (omega arith)))) (cases_lt 0 k));
      weak_next_row = (λ h above. ⊎_elim (λ p. (next.0 p).1) (λ i. let e = (last k l).0 i in absurd (omega arith)) (either_next.0 h), λ h. ⊎_elim (λ above. either_next.1 (inl (next.1 (above, h above)))) (λ low. either_next.1 (inr ((last k l).1 (omega arith)))) (cases_lt (k + 1) n));
      always_before_row = (λ h j m. ⊎_elim (λ t. t) (λ w. absurd (false≢true w.3)) (always_back.0 h j m), λ h. always_back.1 (λ j m. inl (h j m)));
      once_before_row = (λ h. let w = before.0 h in (w.0, w.1, w.2), λ w. before.1 (w.0, w.1, w.2, λ i a b. refl));
      always_after_row = (λ h j a b. ⊎_elim (λ t. t) (λ w. absurd (false≢true w.3)) (always_on.0 h j a b), λ h. always_on.1 (λ j a b. inl (h j a b)));
      once_after_row = (λ h. let w = after.0 h in (w.0, w.1, w.2, w.3), λ w. after.1 (w.0, w.1, w.2, w.3, λ i a b. refl));
      initially_row = (λ h. let w = start.0 h in let p = and_parts (sat initial n H T w.0) (sat f n H T w.0) w.2 in subst (λ (j : ℕ). sat f n H T j ≡ true) ((first w.0).0 p.0) p.1, λ h. start.1 (0, omega arith, and_from (sat initial n H T 0) (sat f n H T 0) ((first 0).1 refl) h, λ i a b. refl));
      finally_row = (λ h. let w = finish.0 h in let p = and_parts (sat final n H T w.0) (sat f n H T w.0) w.3 in let e : w.0 ≡ n - 1 = omega (arith, (last w.0 w.2).0 p.0) in subst (λ (j : ℕ). sat f n H T j ≡ true) e p.1, λ h. finish.1 (n - 1, omega arith, omega arith, and_from (sat final n H T (n - 1)) (sat f n H T (n - 1)) ((last (n - 1) (omega arith)).1 (omega arith)) h, λ i a b. refl));
      true_row = refl;
      false_row = λ h. false≢true h;
      previous_row = previous;
      next_row = next;
      since_row = rows.since_row;
      trigger_row = rows.trigger_row;
      until_row = rows.until_row;
      release_row = rows.release_row;
      implies_row = rows.arrow_row;
      implied_by_row = there.arrow_row;
      same_row = (λ h. let p = both.0 h in let to = rows.arrow_row.0 p.0 in let from = there.arrow_row.0 p.1 in ((to.0, from.0), (to.1, from.1)), λ p. both.1 (rows.arrow_row.1 (p.0.0, p.1.0), there.arrow_row.1 (p.0.1, p.1.1)));
      and_row = and_chain formulas n H T k;
      or_row = or_chain formulas n H T k;
    }
