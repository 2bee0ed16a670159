-- Since, trigger, until and release by one step: what they are at an instant, by what they are at the next one of their way.
use Rattle.std.proofs.Common.{◌≡◌, ℕ, ◌+◌, ◌-◌, ◌<◌, Bool, true, false, not, ◌&&◌, ◌||◌, [], refl, sym, ap, subst, inl, inr, ⊎_elim, ◌∙◌, arith}
use Rattle.std.specs.Prelude.{nat_lt, if◌then◌else◌}
use Rattle.std.proofs.Math.Bool.{beq}
use Rattle.std.proofs.lemmas.Bool.{and_parts, and_from, and_right, not-true, not-false, false_from_ne_true, or_cases, or_left, or_right, cases_order, cases_Bool, ltb-true, lt-ltb, false≢true}
use Rattle.tel_semantics.specs.Traces.{Test}
use Rattle.tel_semantics.specs.Formula.{Formula, Since, Trigger, Until, Release, initially, finally}
use Rattle.tel_semantics.specs.Satisfaction.{sat}
use Rattle.tel_semantics.specs.Walking.{back_formula, on_formula}
use Rattle.tel_semantics.proofs.TableRows.{follows_table, means_its_name, implied, implied_at}

-- two tests of which each holds where the other does
pub same_truth : (a b : Bool) → (a ≡ true → b ≡ true) → (b ≡ true → a ≡ true) → a ≡ b
same_truth true b h i = sym (h refl)
same_truth false true h i = i refl
same_truth false false h i = refl

pub since-step : (f g : Formula) (n : ℕ) (H T : Test) (k : ℕ) → sat (Since f g) n H T k ≡ (sat g n H T k || (sat f n H T k && (nat_lt 0 k && sat (Since f g) n H T (k - 1))))
since-step f g n H T k =
    let now = (follows_table f g n H T k).since_row in
    let before = (follows_table f g n H T (k - 1)).since_row in
    let at_f = λ (i : ℕ). sat f n H T i in
    let at_g = λ (j : ℕ). sat g n H T j in
    let back = sat (Since f g) n H T (k - 1) in
    same_truth (sat (Since f g) n H T k) (at_g k || (at_f k && (nat_lt 0 k && back))) (λ h. let w = now.0 h in ⊎_elim (λ same. or_left (at_g k) (at_f k && (nat_lt 0 k && back)) (subst (λ (j : ℕ). at_g j ≡ true) same w.2)) (λ other. ⊎_elim (λ below. let rest : back ≡ true = before.1 (w.0, omega arith, w.2, λ i a b. w.3 i a (omega arith)) in or_right (at_g k) (at_f k && (nat_lt 0 k && back)) (and_from (at_f k) (nat_lt 0 k && back) (w.3 k below (omega arith)) (and_from (nat_lt 0 k) back (lt-ltb 0 k (omega arith)) rest))) (λ above. absurd (omega (arith, w.1))) other) (cases_order w.0 k)) (λ h. ⊎_elim (λ here. now.1 (k, omega arith, here, λ i a b. absurd (omega arith))) (λ more. let p = and_parts (at_f k) (nat_lt 0 k && back) more in let q = and_parts (nat_lt 0 k) back p.1 in let w = before.0 q.1 in let above : 0 < k = ltb-true 0 k q.0 in now.1 (w.0, omega (arith, w.1), w.2, λ i a b. ⊎_elim (λ same. subst (λ (j : ℕ). at_f j ≡ true) (sym same) p.0) (λ other. ⊎_elim (λ below. w.3 i a (omega arith)) (λ over. absurd (omega arith)) other) (cases_order i k))) (or_cases (at_g k) (at_f k && (nat_lt 0 k && back)) h))

pub trigger-step : (f g : Formula) (n : ℕ) (H T : Test) (k : ℕ) → sat (Trigger f g) n H T k ≡ (sat g n H T k && (sat f n H T k || (not (nat_lt 0 k) || sat (Trigger f g) n H T (k - 1))))
trigger-step f g n H T k =
    let now = (follows_table f g n H T k).trigger_row in
    let before = (follows_table f g n H T (k - 1)).trigger_row in
    let at_f = λ (i : ℕ). sat f n H T i in
    let at_g = λ (j : ℕ). sat g n H T j in
    let back = sat (Trigger f g) n H T (k - 1) in
    same_truth (sat (Trigger f g) n H T k) (at_g k && (at_f k || (not (nat_lt 0 k) || back))) (λ h. let all = now.0 h in and_from (at_g k) (at_f k || (not (nat_lt 0 k) || back)) (⊎_elim (λ here. here) (λ w. absurd (omega (arith, w.1, w.2))) (all k (omega arith))) (⊎_elim (λ yes. or_left (at_f k) (not (nat_lt 0 k) || back) yes) (λ no. or_right (at_f k) (not (nat_lt 0 k) || back) (implied (nat_lt 0 k) back (λ l. let above = ltb-true 0 k l in before.1 (λ j m. ⊎_elim (λ here. inl here) (λ w. ⊎_elim (λ same. absurd (false≢true (sym no ∙ subst (λ (i : ℕ). at_f i ≡ true) same w.3))) (λ other. ⊎_elim (λ below. inr (w.0, w.1, omega arith, w.3)) (λ over. absurd (omega (arith, w.2))) other) (cases_order w.0 k)) (all j (omega arith)))))) (cases_Bool (at_f k)))) (λ h. let p = and_parts (at_g k) (at_f k || (not (nat_lt 0 k) || back)) h in now.1 (λ j m. ⊎_elim (λ same. inl (subst (λ (i : ℕ). at_g i ≡ true) (sym same) p.0)) (λ other. ⊎_elim (λ below. ⊎_elim (λ yes. inr (k, below, omega arith, yes)) (λ more. let rest = implied_at (nat_lt 0 k) back more (lt-ltb 0 k (omega arith)) in ⊎_elim (λ here. inl here) (λ w. inr (w.0, w.1, omega (arith, w.2), w.3)) (before.0 rest j (omega arith))) (or_cases (at_f k) (not (nat_lt 0 k) || back) p.1)) (λ over. absurd (omega arith)) other) (cases_order j k)))

pub until-step : (f g : Formula) (n : ℕ) (H T : Test) (k : ℕ) → k < n → sat (Until f g) n H T k ≡ (sat g n H T k || (sat f n H T k && (nat_lt (k + 1) n && sat (Until f g) n H T (k + 1))))
until-step f g n H T k within =
    let now = (follows_table f g n H T k).until_row in
    let after = (follows_table f g n H T (k + 1)).until_row in
    let at_f = λ (i : ℕ). sat f n H T i in
    let at_g = λ (j : ℕ). sat g n H T j in
    let on = sat (Until f g) n H T (k + 1) in
    same_truth (sat (Until f g) n H T k) (at_g k || (at_f k && (nat_lt (k + 1) n && on))) (λ h. let w = now.0 h in ⊎_elim (λ same. or_left (at_g k) (at_f k && (nat_lt (k + 1) n && on)) (subst (λ (j : ℕ). at_g j ≡ true) same w.3)) (λ other. ⊎_elim (λ below. absurd (omega (arith, w.1))) (λ above. let rest : on ≡ true = after.1 (w.0, omega arith, w.2, w.3, λ i a b. w.4 i (omega arith) b) in or_right (at_g k) (at_f k && (nat_lt (k + 1) n && on)) (and_from (at_f k) (nat_lt (k + 1) n && on) (w.4 k (omega arith) above) (and_from (nat_lt (k + 1) n) on (lt-ltb (k + 1) n (omega (arith, w.2))) rest))) other) (cases_order w.0 k)) (λ h. ⊎_elim (λ here. now.1 (k, omega arith, within, here, λ i a b. absurd (omega arith))) (λ more. let p = and_parts (at_f k) (nat_lt (k + 1) n && on) more in let q = and_parts (nat_lt (k + 1) n) on p.1 in let w = after.0 q.1 in now.1 (w.0, omega (arith, w.1), w.2, w.3, λ i a b. ⊎_elim (λ same. subst (λ (j : ℕ). at_f j ≡ true) (sym same) p.0) (λ other. ⊎_elim (λ below. absurd (omega arith)) (λ over. w.4 i (omega arith) b) other) (cases_order i k))) (or_cases (at_g k) (at_f k && (nat_lt (k + 1) n && on)) h))

pub release-step : (f g : Formula) (n : ℕ) (H T : Test) (k : ℕ) → k < n → sat (Release f g) n H T k ≡ (sat g n H T k && (sat f n H T k || (not (nat_lt (k + 1) n) || sat (Release f g) n H T (k + 1))))
release-step f g n H T k within =
    let now = (follows_table f g n H T k).release_row in
    let after = (follows_table f g n H T (k + 1)).release_row in
    let at_f = λ (i : ℕ). sat f n H T i in
    let at_g = λ (j : ℕ). sat g n H T j in
    let on = sat (Release f g) n H T (k + 1) in
    same_truth (sat (Release f g) n H T k) (at_g k && (at_f k || (not (nat_lt (k + 1) n) || on))) (λ h. let all = now.0 h in and_from (at_g k) (at_f k || (not (nat_lt (k + 1) n) || on)) (⊎_elim (λ here. here) (λ w. absurd (omega (arith, w.1, w.2))) (all k (omega arith) within)) (⊎_elim (λ yes. or_left (at_f k) (not (nat_lt (k + 1) n) || on) yes) (λ no. or_right (at_f k) (not (nat_lt (k + 1) n) || on) (implied (nat_lt (k + 1) n) on (λ l. after.1 (λ j m u. ⊎_elim (λ here. inl here) (λ w. ⊎_elim (λ same. absurd (false≢true (sym no ∙ subst (λ (i : ℕ). at_f i ≡ true) same w.3))) (λ other. ⊎_elim (λ below. absurd (omega (arith, w.1))) (λ over. inr (w.0, omega arith, w.2, w.3)) other) (cases_order w.0 k)) (all j (omega arith) u))))) (cases_Bool (at_f k)))) (λ h. let p = and_parts (at_g k) (at_f k || (not (nat_lt (k + 1) n) || on)) h in now.1 (λ j m u. ⊎_elim (λ same. inl (subst (λ (i : ℕ). at_g i ≡ true) (sym same) p.0)) (λ other. ⊎_elim (λ below. absurd (omega arith)) (λ over. ⊎_elim (λ yes. inr (k, omega arith, over, yes)) (λ more. let rest = implied_at (nat_lt (k + 1) n) on more (lt-ltb (k + 1) n (omega arith)) in ⊎_elim (λ here. inl here) (λ w. inr (w.0, omega (arith, w.1), w.2, w.3)) (after.0 rest j (omega arith) u)) (or_cases (at_f k) (not (nat_lt (k + 1) n) || on) p.1)) other) (cases_order j k)))

-- ---- the loops that go back or on by these steps: each looks at its right side, and then at its left one

-- what a loop answers at an instant where it has these sides, and where it answers `more` from the next one on
abbrev pub reach : Bool → Bool → Bool → Bool → Bool
reach some right left more = if beq right some then some else (if beq left some then more else not some)

some-reached : (right left there more : Bool) → (right || (left && (there && more))) ≡ reach true right left (if there then more else false)
some-reached true left there more = refl
some-reached false true true more = refl
some-reached false true false more = refl
some-reached false false there more = refl

each-reached : (right left there more : Bool) → (right && (left || (not there || more))) ≡ reach false right left (if there then more else true)
each-reached false left there more = refl
each-reached true false true more = refl
each-reached true false false more = refl
each-reached true true there more = refl

pub back-step : (some : Bool) (f g : Formula) (n : ℕ) (H T : Test) (k : ℕ) → sat (back_formula some f g) n H T k ≡ reach some (sat g n H T k) (sat f n H T k) (if nat_lt 0 k then sat (back_formula some f g) n H T (k - 1) else not some)
back-step true f g n H T k = since-step f g n H T k ∙ some-reached (sat g n H T k) (sat f n H T k) (nat_lt 0 k) (sat (Since f g) n H T (k - 1))
back-step false f g n H T k = trigger-step f g n H T k ∙ each-reached (sat g n H T k) (sat f n H T k) (nat_lt 0 k) (sat (Trigger f g) n H T (k - 1))

pub on-step : (some : Bool) (f g : Formula) (n : ℕ) (H T : Test) (k : ℕ) → k < n → sat (on_formula some f g) n H T k ≡ reach some (sat g n H T k) (sat f n H T k) (if nat_lt (k + 1) n then sat (on_formula some f g) n H T (k + 1) else not some)
on-step true f g n H T k within = until-step f g n H T k within ∙ some-reached (sat g n H T k) (sat f n H T k) (nat_lt (k + 1) n) (sat (Until f g) n H T (k + 1))
on-step false f g n H T k within = release-step f g n H T k within ∙ each-reached (sat g n H T k) (sat f n H T k) (nat_lt (k + 1) n) (sat (Release f g) n H T (k + 1))

-- the right side decides
pub reach-right : (some right left more : Bool) → beq right some ≡ true → reach some right left more ≡ some
reach-right some right left more decides = ap (λ (t : Bool). if t then some else (if beq left some then more else not some)) decides

-- the left side decides
pub reach-left : (some right left more : Bool) → beq right some ≡ false → not (beq left some) ≡ true → reach some right left more ≡ not some
reach-left some right left more open_right decides = (λ i. if open_right i then some else (if not-true (beq left some) decides i then more else not some))

-- neither does
pub reach-on : (some right left more : Bool) → beq right some ≡ false → not (beq left some) ≡ false → reach some right left more ≡ more
reach-on some right left more open_right open_left = (λ i. if open_right i then some else (if not-false (beq left some) open_left i then more else not some))

-- the last instant on the way back
pub no_more : (j : ℕ) (more less : Bool) → j ≡ 0 → (if nat_lt 0 j then more else less) ≡ less
no_more j more less first = ap (λ (t : Bool). if t then more else less) (false_from_ne_true (nat_lt 0 j) (λ t. let l = ltb-true 0 j t in absurd (omega arith)))

pub goes_on : (i j : ℕ) (more less : Bool) → i < j → (if nat_lt i j then more else less) ≡ more
goes_on i j more less below = ap (λ (t : Bool). if t then more else less) (lt-ltb i j below)

-- ---- the ends of a trace

pub initially-is : (f : Formula) (n : ℕ) (H T : Test) (k : ℕ) → k < n → sat (initially f) n H T k ≡ sat f n H T 0
initially-is f n H T k within =
    let row = (means_its_name f f [] n H T k within).initially_row in
    same_truth (sat (initially f) n H T k) (sat f n H T 0) row.0 row.1

pub finally-is : (f : Formula) (n : ℕ) (H T : Test) (k : ℕ) → k < n → sat (finally f) n H T k ≡ sat f n H T (n - 1)
finally-is f n H T k within =
    let row = (means_its_name f f [] n H T k within).finally_row in
    same_truth (sat (finally f) n H T k) (sat f n H T (n - 1)) row.0 row.1
