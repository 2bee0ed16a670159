-- The set that is left, and its clause, are an answer.
use Rattle.std.proofs.Common.{◌≡◌, ℕ, ◌<◌, Bool, true, false, not, ◌&&◌, ◌||◌, List, [], ◌∷◌, map, length, set, replicate, zero, suc, refl, sym, ap, subst, inl, inr, ◌∙◌, ⊎_elim, arith, get_or-set_other, get_or-set_same}
use Rattle.std.specs.Prelude.{◌⊎◌, ◌==◌, Option, Some, None, nat_lt}
use Rattle.std.specs.List.{find, filter, list_all, list_any, range_with_len}
use Rattle.std.proofs.lemmas.List.{length-replicate}
use Rattle.std.proofs.lemmas.Bool.{and_parts, and_from, or_cases, or_left, or_right, false≢true, cases_Bool, not-true, not_from_false, eq-eqb, eqb-true, ltb-true, cases_eq, ne_eqb}
use Rattle.tel_base.specs.declared.literals.Lit.{Lit}
use Rattle.tel_base.specs.Literals.{lit_of, negate}
use Rattle.tel_base.specs.Members.{In}
use Rattle.tel_base.proofs.Members.{In-filter, In-filter_from, In-map, In-map_from, list_all-from_In, any_found, any_from}
use Rattle.normal_program.specs.declared.rules.NRule.{NRule}
use Rattle.normal_program.specs.Grounds.{Layers, is_head}
use Rattle.normal_program.specs.StableSets.{Set}
use Rattle.lit_trail.specs.declared.assignment.Entry.{Entry}
use Rattle.lit_trail.specs.declared.assignment.Spot.{Spot}
use Rattle.lit_trail.specs.Entries.{same_sign, spot_in, spot_value}
use Rattle.unfounded_sets.specs.declared.founded.LoopNogood.{LoopNogood}
use Rattle.unfounded_sets.specs.Unfounded.{is_no, is_false, is_true, is_off, body_lits, head_in, IsUnfounded}
use Rattle.unfounded_sets.specs.LoopClauses.{is_outside, IsLoopClause, among, rises, IsFalseLoop, NoneHolds}
use Rattle.unfounded_sets.specs.Least.{wanted_below, at, is_kept, LeastFrom}
use Rattle.unfounded_sets.specs.Marks.{rest_of, are_below, Below, var_is, marks_by, false_of}
use Rattle.unfounded_sets.proofs.Ranges.{In-range, kept_rises}
use Rattle.unfounded_sets.proofs.Marked.{found_in, any_find}
use Rattle.unfounded_sets.proofs.Unfoundedness.{rest_unfounded, unfounded_left}

-- ---- literals

sign_of : (p : Bool) → not (same_sign p true) ≡ true → not (same_sign p false) ≡ false
sign_of true h = absurd (false≢true h)
sign_of false h = refl

one_sign : (o : Option Spot) → is_no (spot_value true o) ≡ true → is_no (spot_value false o) ≡ false
one_sign None h = absurd (false≢true h)
one_sign (Some spot) h = sign_of spot.positive h

false_at : (entries : List Entry) (v : ℕ) (positive : Bool) → is_false entries (record { var = v; positive = positive }) ≡ true → false_of entries v ≡ record { var = v; positive = positive }
false_at entries v true h = ap (λ (b : Bool). record { var = v; positive = not b }) (one_sign (spot_in entries v) h)
false_at entries v false h = ap (λ (b : Bool). record { var = v; positive = not b }) h

-- a false literal is the one of its variable
false_is : (entries : List Entry) (lit : Lit) → is_false entries lit ≡ true → false_of entries lit.var ≡ lit
false_is entries lit h = false_at entries lit.var lit.positive h

var_some : (v : ℕ) (o : Option Lit) → var_is v o ≡ true → (lit : Lit) × (Some lit ≡ o) × (lit.var ≡ v)
var_some v None h = absurd (false≢true h)
var_some v (Some lit) h = (lit, refl, eqb-true lit.var v h)

vars_of : (entries : List Entry) (xs : List ℕ) → map (λ (lit : Lit). lit.var) (map (false_of entries) xs) ≡ xs
vars_of entries [] = refl
vars_of entries (x ∷ xs) = ap (λ (ys : List ℕ). x ∷ ys) (vars_of entries xs)

-- ---- the set

want_range : (layers : Layers) (entries : List Entry) (bound : ℕ) (X : Set) (v : ℕ) → rest_of (wanted_below layers entries bound) X v ≡ true → v < bound
want_range layers entries bound X v h =
    let wanted = (and_parts (wanted_below layers entries bound v) (not (X v)) h).0 in
    ltb-true v bound (and_parts (nat_lt v bound) (is_head layers.modules v && not (is_false entries (lit_of v))) wanted).0

kept_in : (U : Set) (bound v : ℕ) → v < bound → U v ≡ true → In v (filter U (range_with_len 0 bound))
kept_in U bound v low h = In-filter U v (range_with_len 0 bound) (In-range 0 bound v (omega arith) (omega (arith, low))) h

-- the list of a set below the bound is the set
listed : (U : Set) (bound : ℕ) → ((v : ℕ) → U v ≡ true → v < bound) → (v : ℕ) → U v ≡ among (filter U (range_with_len 0 bound)) v
listed U bound low v =
    let vars = filter U (range_with_len 0 bound) in
    ⊎_elim (λ (t : U v ≡ true). t ∙ sym (any_from (λ u. u == v) vars v (kept_in U bound v (low v t) t) (eq-eqb v v refl))) (λ (f : U v ≡ false).
    f ∙ ⊎_elim (λ (t : among vars v ≡ true).
    let w = any_found (λ u. u == v) vars t in
    let is_v : w.0 ≡ v = eqb-true w.0 v w.2 in
    let kept = (In-filter_from U w.0 (range_with_len 0 bound) w.1).1 in
    absurd (false≢true (sym f ∙ subst (λ (u : ℕ). U u ≡ true) is_v kept))) (λ (g : among vars v ≡ false). sym g) (cases_Bool (among vars v))) (cases_Bool (U v))

-- ---- the clause

pub record IsLeft (layers : Layers) (entries : List Entry) (bound : ℕ) (found marks : List Bool) (atom : ℕ) : Type 0 where
  pub closed : is_kept layers.rules entries (wanted_below layers entries bound) (at found) ≡ true
  pub below : Below bound entries
  pub first : Some atom ≡ find (λ v. rest_of (wanted_below layers entries bound) (at found) v && is_true entries v) (range_with_len 0 bound)
  pub marked : (v : ℕ) → at marks v ≡ ((atom == v) || marks_by entries (rest_of (wanted_below layers entries bound) (at found)) layers.rules v)

left_atom : (layers : Layers) (entries : List Entry) (bound : ℕ) (found marks : List Bool) (atom : ℕ) → IsLeft layers entries bound found marks atom → (rest_of (wanted_below layers entries bound) (at found) atom ≡ true) × (is_true entries atom ≡ true)
left_atom layers entries bound found marks atom is =
    let U : Set = rest_of (wanted_below layers entries bound) (at found) in
    and_parts (U atom) (is_true entries atom) (found_in (λ v. U v && is_true entries v) (range_with_len 0 bound) atom is.first).1

abbrev clause_by : List Entry → List Bool → ℕ → List Lit
clause_by entries marks bound = map (false_of entries) (filter (at marks) (range_with_len 0 bound))

marked_in : (entries : List Entry) (marks : List Bool) (bound v : ℕ) → v < bound → at marks v ≡ true → In (false_of entries v) (clause_by entries marks bound)
marked_in entries marks bound v low h = In-map (false_of entries) v (filter (at marks) (range_with_len 0 bound)) (kept_in (at marks) bound v low h)

-- a rule outside has a false literal in the clause
outside_in : (layers : Layers) (entries : List Entry) (bound : ℕ) (found marks : List Bool) (atom : ℕ) → IsLeft layers entries bound found marks atom → (rule : NRule) → In rule layers.rules → is_outside (rest_of (wanted_below layers entries bound) (at found)) rule ≡ true → (lit : Lit) × In lit (clause_by entries marks bound) × In lit (body_lits rule)
outside_in layers entries bound found marks atom is rule i out =
    let U : Set = rest_of (wanted_below layers entries bound) (at found) in
    let parts = and_parts (head_in U rule.head) (not (list_any U rule.pos)) out in
    let fed = (rest_unfounded layers entries bound (at found) is.closed).fed rule i parts.0 in
    let off : is_off entries rule ≡ true = ⊎_elim (λ (o : is_off entries rule ≡ true). o) (λ a. absurd (false≢true (sym (not-true (list_any U rule.pos) parts.1) ∙ a))) (or_cases (is_off entries rule) (list_any U rule.pos) fed) in
    let w = any_find (is_false entries) (body_lits rule) off in
    let lit : Lit = w.0 in
    let got = found_in (is_false entries) (body_lits rule) lit w.1 in
    let test : NRule → Bool = λ r. is_outside U r && var_is lit.var (find (is_false entries) (body_lits r)) in
    let here : test rule ≡ true = and_from (is_outside U rule) (var_is lit.var (find (is_false entries) (body_lits rule))) out (ap (var_is lit.var) (sym w.1) ∙ eq-eqb lit.var lit.var refl) in
    let marked : at marks lit.var ≡ true = is.marked lit.var ∙ or_right (atom == lit.var) (marks_by entries U layers.rules lit.var) (any_from test layers.rules rule i here) in
    (lit, subst (λ (k : Lit). In k (clause_by entries marks bound)) (false_is entries lit got.1) (marked_in entries marks bound lit.var (is.below lit got.1) marked), got.0)

-- what the clause has
clause_has : (layers : Layers) (entries : List Entry) (bound : ℕ) (found marks : List Bool) (atom : ℕ) → IsLeft layers entries bound found marks atom → (lit : Lit) → In lit (clause_by entries marks bound) →
    ((negate (lit_of atom) ≡ lit) ⊎ ((rule : NRule) × In rule layers.rules × (is_outside (rest_of (wanted_below layers entries bound) (at found)) rule ≡ true) × In lit (body_lits rule))) × (is_false entries lit ≡ true)
clause_has layers entries bound found marks atom is lit i =
    let U : Set = rest_of (wanted_below layers entries bound) (at found) in
    let w = In-map_from (false_of entries) lit (filter (at marks) (range_with_len 0 bound)) i in
    let v : ℕ = w.0 in
    let marked = (In-filter_from (at marks) v (range_with_len 0 bound) w.1).1 in
    let holds = (left_atom layers entries bound found marks atom is).1 in
    ⊎_elim (λ (e : (atom == v) ≡ true).
    let here : false_of entries v ≡ negate (lit_of atom) = ap (false_of entries) (sym (eqb-true atom v e)) ∙ false_is entries (negate (lit_of atom)) holds in
    let same : negate (lit_of atom) ≡ lit = sym here ∙ w.2 in
    (inl same, subst (λ (k : Lit). is_false entries k ≡ true) same holds)) (λ (m : marks_by entries U layers.rules v ≡ true).
    let r = any_found (λ (rule : NRule). is_outside U rule && var_is v (find (is_false entries) (body_lits rule))) layers.rules m in
    let rule : NRule = r.0 in
    let parts = and_parts (is_outside U rule) (var_is v (find (is_false entries) (body_lits rule))) r.2 in
    let o = var_some v (find (is_false entries) (body_lits rule)) parts.1 in
    let got = found_in (is_false entries) (body_lits rule) o.0 o.1 in
    let same : o.0 ≡ lit = sym (ap (false_of entries) (sym o.2) ∙ false_is entries o.0 got.1) ∙ w.2 in
    (inr (rule, r.1, parts.0, subst (λ (k : Lit). In k (body_lits rule)) same got.0), subst (λ (k : Lit). is_false entries k ≡ true) same got.1)) (or_cases (atom == v) (marks_by entries U layers.rules v) (sym (is.marked v) ∙ marked))

loop_clause : (layers : Layers) (entries : List Entry) (bound : ℕ) (found marks : List Bool) (atom : ℕ) → IsLeft layers entries bound found marks atom → IsLoopClause layers (rest_of (wanted_below layers entries bound) (at found)) atom (clause_by entries marks bound)
loop_clause layers entries bound found marks atom is =
    let U : Set = rest_of (wanted_below layers entries bound) (at found) in
    let parts = left_atom layers entries bound found marks atom is in
    record {
      heads = (rest_unfounded layers entries bound (at found) is.closed).heads;
      within = parts.0;
      negated =
          subst (λ (k : Lit). In k (clause_by entries marks bound)) (false_is entries (negate (lit_of atom)) parts.1) (marked_in entries marks bound atom (want_range layers entries bound (at found) atom parts.0) (is.marked atom ∙ or_left (atom == atom) (marks_by entries U layers.rules atom) (eq-eqb atom atom refl)));
      each = outside_in layers entries bound found marks atom is;
      only = λ lit i. (clause_has layers entries bound found marks atom is lit i).0;
    }

-- the answer
pub answered : (layers : Layers) (entries : List Entry) (bound : ℕ) (found marks : List Bool) (nogood : LoopNogood) → IsLeft layers entries bound found marks nogood.atom → nogood.set.items ≡ filter (rest_of (wanted_below layers entries bound) (at found)) (range_with_len 0 bound) → nogood.clause ≡ map (false_of entries) (filter (at marks) (range_with_len 0 bound)) → IsFalseLoop layers entries nogood
answered layers entries bound found marks nogood is set_is clause_is =
    let U : Set = rest_of (wanted_below layers entries bound) (at found) in
    let vars = filter U (range_with_len 0 bound) in
    let same : (v : ℕ) → U v ≡ among nogood.set.items v = λ v. listed U bound (want_range layers entries bound (at found)) v ∙ ap (λ (xs : List ℕ). among xs v) (sym set_is) in
    let sets : U ≡ among nogood.set.items = λ i v. same v i in
    let clause : List Lit = clause_by entries marks bound in
    record {
      unfounded = subst (IsUnfounded layers entries) sets (rest_unfounded layers entries bound (at found) is.closed);
      holds = (left_atom layers entries bound found marks nogood.atom is).1;
      loop = subst (λ (V : Set). IsLoopClause layers V nogood.atom nogood.clause) sets (subst (IsLoopClause layers U nogood.atom) (sym clause_is) (loop_clause layers entries bound found marks nogood.atom is));
      conflict = subst (λ (lits : List Lit). list_all (is_false entries) lits ≡ true) (sym clause_is) (list_all-from_In (is_false entries) clause (λ lit i. (clause_has layers entries bound found marks nogood.atom is lit i).1));
      set_rises = ap rises set_is ∙ kept_rises U 0 bound;
      clause_rises = ap (λ (lits : List Lit). rises (map (λ (lit : Lit). lit.var) lits)) clause_is ∙ ap rises (vars_of entries (filter (at marks) (range_with_len 0 bound))) ∙ kept_rises (at marks) 0 bound;
    }

-- ---- none

find_none : (p : ℕ → Bool) (xs : List ℕ) (v : ℕ) → None ≡ find p xs → In v xs → p v ≡ true → ⊥
find_none p xs v h i t =
    let some : list_any p xs ≡ true = any_from p xs v i t in
    let w = any_find p xs some in
    let bad : Some w.0 ≡ None = w.1 ∙ sym h in
    absurd (cc)

none_at : (n v : ℕ) → at (replicate n false) v ≡ false
none_at zero v = refl
none_at (suc n) zero = refl
none_at (suc n) (suc v) = none_at n v

pub none_holds : (layers : Layers) (entries : List Entry) (bound : ℕ) (old found : List Bool) → old ≡ replicate bound false → LeastFrom layers.rules entries (wanted_below layers entries bound) old found → are_below bound layers.rules ≡ true → Below bound entries → None ≡ find (λ v. rest_of (wanted_below layers entries bound) (at found) v && is_true entries v) (range_with_len 0 bound) → NoneHolds layers entries
none_holds layers entries bound old found begun least below low none U unfounded v h =
    ⊎_elim (λ (t : is_true entries v ≡ true).
    let within : v < bound = low (negate (lit_of v)) t in
    let W : Set = wanted_below layers entries bound in
    let left = unfounded_left layers entries bound (at found) U below (λ Y closed. least Y closed (λ u s. absurd (false≢true (sym (ap (λ (table : List Bool). at table u) begun ∙ none_at bound u) ∙ s)))) unfounded v within h in
    absurd (find_none (λ u. rest_of W (at found) u && is_true entries u) (range_with_len 0 bound) v none (In-range 0 bound v (omega arith) (omega (arith, within))) (and_from (rest_of W (at found) v) (is_true entries v) left t))) (λ (f : is_true entries v ≡ false). not_from_false (is_true entries v) f) (cases_Bool (is_true entries v))

-- the marks of the atom and of what a call marks behind it
pub marked_by : (bound atom : ℕ) (old one : List Bool) (by : ℕ → Bool) (now : ℕ → Bool) → old ≡ replicate bound false → atom < bound → length old ≡ bound → one ≡ set old atom true → ((v : ℕ) → now v ≡ (at one v || by v)) → (v : ℕ) → now v ≡ ((atom == v) || by v)
marked_by bound atom old one by now begun low long is more v =
    let within : atom < length old = omega (arith, low, long) in
    let before : at old v ≡ false = ap (λ (table : List Bool). at table v) begun ∙ none_at bound v in
    more v ∙ ap (λ (b : Bool). b || by v) (ap (λ (table : List Bool). at table v) is ∙ ⊎_elim (λ (e : atom ≡ v). subst (λ (w : ℕ). at (set old atom true) w ≡ true) e (get_or-set_same old atom true false within) ∙ sym (eq-eqb atom v e)) (λ ne. get_or-set_other old atom v true false (λ e. ne (sym e)) ∙ before ∙ sym (ne_eqb atom v ne)) (cases_eq atom v))

pub first_range : (layers : Layers) (entries : List Entry) (bound atom : ℕ) (found : List Bool) → Some atom ≡ find (λ v. rest_of (wanted_below layers entries bound) (at found) v && is_true entries v) (range_with_len 0 bound) → atom < bound
first_range layers entries bound atom found first =
    let U : Set = rest_of (wanted_below layers entries bound) (at found) in
    want_range layers entries bound (at found) atom (and_parts (U atom) (is_true entries atom) (found_in (λ v. U v && is_true entries v) (range_with_len 0 bound) atom first).1).0

pub table_long : (bound : ℕ) (table : List Bool) → table ≡ replicate bound false → length table ≡ bound
table_long bound table is = ap length is ∙ length-replicate bound false
