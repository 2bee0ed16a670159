-- The levels of a trail: what stays when literals and levels come and go.
use Rattle.std.proofs.Common.{◌≡◌, ℕ, zero, suc, ◌+◌, ◌-◌, ◌<◌, ◌≤◌, ◌^◌, max, Bool, true, false, List, [], ◌∷◌, ◌++◌, reverse, take, drop, length, get_or, refl, sym, ap, subst, ◌∙◌, ◌⊎◌, inl, inr, ⊎_elim, arith}
use Rattle.std.specs.Prelude.{Option, Some, None, ◌==◌, ◌&&◌, nat_lt}
use Rattle.std.proofs.lemmas.Bool.{cases_Bool, cases_order, false≢true, and_right, eq-eqb, ne_eqb, lt-ltb, ltb-true, false_from_ne_true, cond-true, cond-false}
use Rattle.std.proofs.lemmas.List.{take-append-drop, reverse-append, length-reverse, length-drop, drop_at}
use Rattle.tel_base.specs.declared.literals.Lit.{Lit}
use Rattle.lit_trail.specs.declared.assignment.Entry.{Entry}
use Rattle.lit_trail.specs.Entries.{Assigned, spot_in, back, top_level, decision_in, is_decided}
use Rattle.lit_trail.specs.Levels.{AreLevels, AreOrdered, AreDecided, IsTrail}
use Rattle.lit_trail.proofs.Ordered.{ordered_given, ordered_decided, ordered_wider, ordered_back}

pub levels_more : (entries : List Entry) (low high : ℕ) → low ≤ high → AreLevels low entries → AreLevels high entries
levels_more [] low high l h = tt
levels_more (entry ∷ older) low high l h = (let m = h.0 in omega (arith, l, m), h.1)

pub not_lt : (a b : ℕ) → b ≤ a → nat_lt a b ≡ false
not_lt a b l = false_from_ne_true (nat_lt a b) (λ t. let m = ltb-true a b t in absurd (omega (arith, l, m)))

pub kept : (m : ℕ) (entry : Entry) (older : List Entry) → entry.level ≤ m → back m (entry ∷ older) ≡ entry ∷ older
kept m entry older l = cond-false (nat_lt m entry.level) (back m older) (entry ∷ older) (not_lt m entry.level l)

pub dropped : (m : ℕ) (entry : Entry) (older : List Entry) → m < entry.level → back m (entry ∷ older) ≡ back m older
dropped m entry older l = cond-true (nat_lt m entry.level) (back m older) (entry ∷ older) (lt-ltb m entry.level l)

pub order_of : (m : ℕ) (entry : Entry) → (m < entry.level) ⊎ (entry.level ≤ m)
order_of m entry = ⊎_elim (λ (t : nat_lt m entry.level ≡ true). inl (ltb-true m entry.level t)) (λ (f : nat_lt m entry.level ≡ false). inr (⊎_elim (λ (e : m ≡ entry.level). omega (arith, e)) (λ ne. ⊎_elim (λ (l : m < entry.level). absurd (false≢true (sym f ∙ lt-ltb m entry.level l))) (λ (l : entry.level < m). omega (arith, l)) ne) (cases_order m entry.level))) (cases_Bool (nat_lt m entry.level))

pub back_all : (entries : List Entry) (top m : ℕ) → AreLevels top entries → top ≤ m → back m entries ≡ entries
back_all [] top m h l = refl
back_all (entry ∷ older) top m h l = let a = h.0 in kept m entry older (omega (arith, a, l))

-- where no level above is left
pub back_top : (entries : List Entry) (m : ℕ) → top_level entries ≤ m → back m entries ≡ entries
back_top [] m l = refl
back_top (entry ∷ older) m l = kept m entry older l

pub back_back : (entries : List Entry) (l m : ℕ) → l ≤ m → back l (back m entries) ≡ back l entries
back_back [] l m below = refl
back_back (entry ∷ older) l m below =
    ⊎_elim (λ (over : m < entry.level). ap (back l) (dropped m entry older over) ∙ back_back older l m below ∙ sym (dropped l entry older (omega (arith, over, below)))) (λ (under : entry.level ≤ m). ap (back l) (kept m entry older under)) (order_of m entry)

pub back_levels : (entries : List Entry) (top m : ℕ) → AreLevels top entries → AreLevels m (back m entries)
back_levels [] top m h = tt
back_levels (entry ∷ older) top m h =
    ⊎_elim (λ (over : m < entry.level). subst (AreLevels m) (sym (dropped m entry older over)) (back_levels older entry.level m h.1)) (λ (under : entry.level ≤ m). subst (AreLevels m) (sym (kept m entry older under)) (under, h.1)) (order_of m entry)

pub back_short : (entries : List Entry) (m : ℕ) → length (back m entries) ≤ length entries
back_short [] m = omega arith
back_short (entry ∷ older) m =
    ⊎_elim (λ (over : m < entry.level). let n = ap length (dropped m entry older over) in let rest = back_short older m in omega (arith, n, rest)) (λ (under : entry.level ≤ m). let n = ap length (kept m entry older under) in omega (arith, n)) (order_of m entry)

-- a decision of another level is passed by
pub passed : (entry : Entry) (older : List Entry) (k : ℕ) → (entry.level ≡ k → ⊥) → decision_in (entry ∷ older) k ≡ decision_in older k
passed entry older k ne =
    cond-false ((entry.level == k) && is_decided entry.reason) (Some entry.lit) (decision_in older k) (ap (λ (b : Bool). b && is_decided entry.reason) (ne_eqb entry.level k ne))

-- and so is a literal that has a reason
pub given : (entry : Entry) (older : List Entry) (k : ℕ) → is_decided entry.reason ≡ false → decision_in (entry ∷ older) k ≡ decision_in older k
given entry older k f =
    cond-false ((entry.level == k) && is_decided entry.reason) (Some entry.lit) (decision_in older k) (ap (λ (b : Bool). (entry.level == k) && b) f ∙ and_right (entry.level == k) false refl)

pub decision_back : (entries : List Entry) (k m : ℕ) → k ≤ m → decision_in (back m entries) k ≡ decision_in entries k
decision_back [] k m l = refl
decision_back (entry ∷ older) k m l =
    ⊎_elim (λ (over : m < entry.level). ap (λ (es : List Entry). decision_in es k) (dropped m entry older over) ∙ decision_back older k m l ∙ sym (passed entry older k (λ e. absurd (omega (arith, e, over, l))))) (λ (under : entry.level ≤ m). ap (λ (es : List Entry). decision_in es k) (kept m entry older under)) (order_of m entry)

pub decision_above : (entries : List Entry) (top k : ℕ) → AreLevels top entries → top < k → decision_in entries k ≡ None
decision_above [] top k h l = refl
decision_above (entry ∷ older) top k h l =
    let a = h.0 in
    passed entry older k (λ e. absurd (omega (arith, e, a, l))) ∙ decision_above older entry.level k h.1 (omega (arith, a, l))

-- ---- the decisions of the levels

drop_none : (n : ℕ) → drop {A = Option Lit} n [] ≡ []
drop_none zero = refl
drop_none (suc n) = refl

pub decided_back : (entries : List Entry) (decisions : List (Option Lit)) (l : ℕ) → AreLevels (length decisions) entries → AreDecided entries decisions → l ≤ length decisions → AreDecided (back l entries) (drop (length decisions - l) decisions)
decided_back entries [] l levels h below =
    subst (λ (ds : List (Option Lit)). AreDecided (back l entries) ds) (sym (drop_none (0 - l))) (subst (λ (es : List Entry). decision_in es 0 ≡ None) (sym (back_all entries 0 l levels (omega arith))) h)
decided_back entries (decision ∷ lower) l levels h below =
    ⊎_elim (λ (e : l ≡ suc (length lower)).
    let nothing : suc (length lower) - l ≡ 0 = omega (arith, e) in
    let all = back_all entries (suc (length lower)) l levels (omega (arith, e)) in
    subst (λ (n : ℕ). AreDecided (back l entries) (drop n (decision ∷ lower))) (sym nothing) (subst (λ (es : List Entry). AreDecided es (decision ∷ lower)) (sym all) h)) (λ ne.
    let less : l ≤ length lower = ⊎_elim (λ (m : l < suc (length lower)). omega (arith, m)) (λ (m : suc (length lower) < l). absurd (omega (arith, m, below))) ne in
    let one : suc (length lower) - l ≡ suc (length lower - l) = omega (arith, less) in
    let rest = decided_back (back (length lower) entries) lower l (back_levels entries (suc (length lower)) (length lower) levels) h.0 less in
    subst (λ (n : ℕ). AreDecided (back l entries) (drop n (decision ∷ lower))) (sym one) (subst (λ (es : List Entry). AreDecided es (drop (length lower - l) lower)) (back_back entries l (length lower) less) rest)) (cases_order l (suc (length lower)))

-- level 0 has no decision
pub none_at_first : (entries : List Entry) (decisions : List (Option Lit)) → AreDecided entries decisions → decision_in entries 0 ≡ None
none_at_first entries [] h = h
none_at_first entries (decision ∷ lower) h = sym (decision_back entries 0 (length lower) (omega arith)) ∙ none_at_first (back (length lower) entries) lower h.0

-- the decision at a place
pub decided_at : (entries : List Entry) (decisions : List (Option Lit)) (k : ℕ) → AreDecided entries decisions → k < length decisions → get_or decisions (length decisions - 1 - k) None ≡ decision_in entries (k + 1)
decided_at entries [] k h l = absurd (omega (arith, l))
decided_at entries (decision ∷ lower) k h l =
    ⊎_elim (λ (e : k ≡ length lower).
    let first : suc (length lower) - 1 - k ≡ 0 = omega (arith, e) in
    ap (λ (n : ℕ). get_or (decision ∷ lower) n None) first ∙ sym h.1 ∙ ap (λ (n : ℕ). decision_in entries (n + 1)) (sym e)) (λ ne.
    let less : k < length lower = ⊎_elim (λ (m : k < length lower). m) (λ (m : length lower < k). absurd (omega (arith, m, l))) ne in
    let next : suc (length lower) - 1 - k ≡ suc (length lower - 1 - k) = omega (arith, less) in
    ap (λ (n : ℕ). get_or (decision ∷ lower) n None) next ∙ decided_at (back (length lower) entries) lower k h.0 less ∙ decision_back entries (k + 1) (length lower) (omega (arith, less))) (cases_order k (length lower))

shorter : (entries : List Entry) (m top : ℕ) (lit : Lit) → AreLevels top entries → decision_in entries (m + 1) ≡ Some lit → length (back m entries) < length entries
shorter [] m top lit levels h = absurd (cc)
shorter (entry ∷ older) m top lit levels h =
    ⊎_elim (λ (over : m < entry.level). let n = ap length (dropped m entry older over) in let rest = back_short older m in omega (arith, n, rest)) (λ (under : entry.level ≤ m).
    let none : decision_in (entry ∷ older) (m + 1) ≡ None = decision_above (entry ∷ older) m (m + 1) (under, levels.1) (omega arith) in
    absurd (cc)) (order_of m entry)

some_decision : (o : Option Lit) (n : ℕ) → (o ≡ None → n ≡ 0) → 0 < n → (lit : Lit) × (o ≡ Some lit)
some_decision None n h l = let e = h refl in absurd (omega (arith, e, l))
some_decision (Some lit) n h l = (lit, refl)

-- there are few levels
pub few : (entries : List Entry) (decisions : List (Option Lit)) → AreLevels (length decisions) entries → AreDecided entries decisions → length decisions ≤ length entries + 1
few entries [] levels h = omega arith
few entries (decision ∷ []) levels h = omega arith
few entries (decision ∷ (next ∷ lower)) levels h =
    let count = length (next ∷ lower) in
    let found = some_decision decision count h.2 (omega arith) in
    let less = shorter entries count (suc count) found.0 levels (h.1 ∙ found.1) in
    let rest = few (back count entries) (next ∷ lower) (back_levels entries (suc count) count levels) h.0 in
    omega (arith, less, rest)

-- ---- what each call keeps

decided_given : (entry : Entry) (entries : List Entry) (decisions : List (Option Lit)) → is_decided entry.reason ≡ false → entry.level ≡ length decisions → AreDecided entries decisions → AreDecided (entry ∷ entries) decisions
decided_given entry entries [] f e h = given entry entries 0 f ∙ h
decided_given entry entries (decision ∷ lower) f e h =
    (subst (λ (es : List Entry). AreDecided es lower) (sym (dropped (length lower) entry entries (omega (arith, e)))) h.0, given entry entries (length lower + 1) f ∙ h.1, h.2)

pub imply_trail : (old new : Assigned) (decisions : List (Option Lit)) (room : ℕ) (entry : Entry) → IsTrail old decisions room → new.entries ≡ entry ∷ old.entries → new.vars ≡ old.vars → length new.entries ≤ new.vars → entry.level ≡ length decisions → is_decided entry.reason ≡ false → spot_in old.entries entry.lit.var ≡ None → entry.lit.var < old.vars → IsTrail new decisions room
imply_trail old new decisions room entry trail is same short at reason free within =
    let some = trail.some in
    let small = trail.small in
    record {
      ordered = subst (λ (es : List Entry). AreOrdered new.vars es) (sym is) (subst (λ (n : ℕ). AreOrdered n (entry ∷ old.entries)) (sym same) (ordered_given old.vars entry old.entries free within (λ none. absurd (false≢true (sym reason ∙ ap is_decided none))) trail.ordered));
      levels = subst (AreLevels (length decisions)) (sym is) (omega (arith, at), levels_more old.entries (length decisions) entry.level (omega (arith, at)) trail.levels);
      decided = subst (λ (es : List Entry). AreDecided es decisions) (sym is) (decided_given entry old.entries decisions reason at trail.decided);
      short = short;
      some = omega (arith, some, same);
      room = λ l. let r = trail.room (omega (arith, l, same)) in omega (arith, r, same);
      small = omega (arith, small, same);
    }

pub decide_trail : (old new : Assigned) (decisions : List (Option Lit)) (room more : ℕ) (lit : Lit) → IsTrail old decisions room → new.entries ≡ record { lit = lit; level = length decisions + 1; reason = None } ∷ old.entries → new.vars ≡ old.vars → length new.entries ≤ new.vars → room ≤ more → spot_in old.entries lit.var ≡ None → lit.var < old.vars → IsTrail new (Some lit ∷ decisions) more
decide_trail old new decisions room more lit trail is same short wider free within =
    let entry : Entry = record { lit = lit; level = length decisions + 1; reason = None } in
    let count = few old.entries decisions trail.levels trail.decided in
    let small = trail.small in
    let longer : length new.entries ≡ length old.entries + 1 = ap length is ∙ omega arith in
    let rest : back (length decisions) (entry ∷ old.entries) ≡ old.entries = dropped (length decisions) entry old.entries (omega arith) ∙ back_all old.entries (length decisions) (length decisions) trail.levels (omega arith) in
    let found : decision_in (entry ∷ old.entries) (length decisions + 1) ≡ Some lit = cond-true ((entry.level == (length decisions + 1)) && true) (Some lit) (decision_in old.entries (length decisions + 1)) (ap (λ (b : Bool). b && true) (eq-eqb (length decisions + 1) (length decisions + 1) refl)) in
    record {
      ordered = subst (λ (es : List Entry). AreOrdered new.vars es) (sym is) (subst (λ (n : ℕ). AreOrdered n (entry ∷ old.entries)) (sym same) (ordered_decided old.vars (length decisions) entry old.entries free within trail.levels (omega arith) trail.ordered));
      levels = subst (AreLevels (suc (length decisions))) (sym is) (omega arith, levels_more old.entries (length decisions) (length decisions + 1) (omega arith) trail.levels);
      decided = subst (λ (es : List Entry). AreDecided es (Some lit ∷ decisions)) (sym is) (subst (λ (es : List Entry). AreDecided es decisions) (sym rest) trail.decided, found, λ none. absurd (cc));
      short = short;
      some = omega (arith, count, longer, short);
      room = λ l. let r = trail.room (omega (arith, l, same)) in omega (arith, r, same, wider);
      small = omega (arith, small, same);
    }

-- a place for one decision more
pub decide_room : (old : Assigned) (decisions : List (Option Lit)) (room : ℕ) → IsTrail old decisions room → length old.entries < old.vars → (length decisions < room) × (length decisions + 1 < 2 ^ 32)
decide_room old decisions room trail free =
    let count = few old.entries decisions trail.levels trail.decided in
    let small = trail.small in
    let r = trail.room (omega (arith, free)) in
    (omega (arith, count, free, r), omega (arith, count, free, small))

pub open_trail : (old : Assigned) (room more : ℕ) → IsTrail old [] room → room ≤ more → IsTrail old (None ∷ []) more
open_trail old room more trail wider =
    let small = trail.small in
    record {
      ordered = trail.ordered;
      levels = levels_more old.entries 0 1 (omega arith) trail.levels;
      decided = (subst (λ (es : List Entry). decision_in es 0 ≡ None) (sym (back_all old.entries 0 0 trail.levels (omega arith))) trail.decided, decision_above old.entries 0 1 trail.levels (omega arith), λ none. refl);
      short = trail.short;
      some = omega arith;
      room = λ l. let r = trail.room l in omega (arith, r, wider);
      small = small;
    }

pub grow_trail : (old new : Assigned) (decisions : List (Option Lit)) (room more vars : ℕ) → IsTrail old decisions room → new.entries ≡ old.entries → new.vars ≡ max old.vars vars → room ≤ more → (0 < vars → vars + 1 ≤ more) → vars + 1 < 2 ^ 32 → IsTrail new decisions more
grow_trail old new decisions room more vars trail is bigger wider enough below =
    let small = trail.small in
    let some = trail.some in
    let short = trail.short in
    let n = ap length is in
    record {
      ordered = subst (λ (es : List Entry). AreOrdered new.vars es) (sym is) (ordered_wider old.vars new.vars old.entries (omega (arith, bigger)) trail.ordered);
      levels = subst (AreLevels (length decisions)) (sym is) trail.levels;
      decided = subst (λ (es : List Entry). AreDecided es decisions) (sym is) trail.decided;
      short = omega (arith, short, n, bigger);
      some = omega (arith, some, bigger);
      room = λ l. ⊎_elim (λ (e : vars ≡ 0). let r = trail.room (omega (arith, l, bigger, e)) in omega (arith, r, wider, bigger, e)) (λ ne.
          let e = enough (⊎_elim (λ (m : vars < 0). absurd (omega (arith, m))) (λ (m : 0 < vars). m) ne) in
          ⊎_elim (λ (m : old.vars ≡ 0). omega (arith, e, bigger, m)) (λ other. let r = trail.room (⊎_elim (λ (m : old.vars < 0). absurd (omega (arith, m))) (λ (m : 0 < old.vars). m) other) in omega (arith, r, e, wider, bigger)) (cases_order old.vars 0)) (cases_order vars 0);
      small = omega (arith, small, below, bigger);
    }

pub back_trail : (old new : Assigned) (decisions : List (Option Lit)) (room l : ℕ) → IsTrail old decisions room → new.entries ≡ back l old.entries → new.vars ≡ old.vars → l ≤ length decisions → IsTrail new (drop (length decisions - l) decisions) room
back_trail old new decisions room l trail is same below =
    let small = trail.small in
    let some = trail.some in
    let short = trail.short in
    let n = ap length is in
    let fewer = back_short old.entries l in
    let left = length-drop (length decisions - l) decisions in
    let count : length (drop (length decisions - l) decisions) ≡ l = omega (arith, left, below) in
    record {
      ordered = subst (λ (es : List Entry). AreOrdered new.vars es) (sym is) (subst (λ (n : ℕ). AreOrdered n (back l old.entries)) (sym same) (ordered_back old.vars l old.entries trail.ordered));
      levels = subst (λ (m : ℕ). AreLevels m new.entries) (sym count) (subst (AreLevels l) (sym is) (back_levels old.entries (length decisions) l trail.levels));
      decided = subst (λ (es : List Entry). AreDecided es (drop (length decisions - l) decisions)) (sym is) (decided_back old.entries decisions l trail.levels trail.decided below);
      short = omega (arith, short, n, fewer, same);
      some = omega (arith, some, same, count, below);
      room = λ m. let r = trail.room (omega (arith, m, same)) in omega (arith, r, same);
      small = omega (arith, small, same);
    }

-- ---- the decisions stand in a vector the other way round

pub reverse_push : (xs : List (Option Lit)) (x : Option Lit) → reverse (xs ++ x ∷ []) ≡ x ∷ reverse xs
reverse_push xs x = reverse-append xs (x ∷ [])

pub reverse_take : (xs : List (Option Lit)) (l : ℕ) → reverse (take l xs) ≡ drop (length (reverse xs) - l) (reverse xs)
reverse_take xs l =
    let whole : reverse xs ≡ reverse (drop l xs) ++ reverse (take l xs) = ap reverse (sym (take-append-drop l xs)) ∙ reverse-append (take l xs) (drop l xs) in
    let a = length-reverse xs in
    let b = length-reverse (drop l xs) in
    let d = length-drop l xs in
    let place : length (reverse xs) - l ≡ length (reverse (drop l xs)) = omega (arith, a, b, d) in
    sym (ap (drop (length (reverse xs) - l)) whole ∙ drop_at (reverse (drop l xs)) (reverse (take l xs)) (length (reverse xs) - l) (sym place))

pub no_decisions : (xs : List (Option Lit)) → length xs ≡ 0 → reverse xs ≡ []
no_decisions [] l = refl
no_decisions (x ∷ xs) l = absurd (omega (arith, l))
