-- Bounds of variables.
use Rattle.std.proofs.Common.{◌≡◌, ℕ, ◌+◌, ◌<◌, ◌≤◌, Bool, true, List, [], ◌∷◌, length, get_or, take, map, max, reverse, refl, sym, ap, subst, inl, inr, ◌∙◌, ⊎_elim, arith}
use Rattle.std.specs.Prelude.{◌==◌, Some, nat_lt}
use Rattle.std.specs.List.{list_all}
use Rattle.std.proofs.lemmas.List.{reverse-append}
use Rattle.std.proofs.lemmas.List.Folds.{list_all_more}
use Rattle.std.proofs.lemmas.Bool.{and_from, cases_eq, ltb-true, lt-ltb, ne_eqb, cond-false, false≢true}
use Rattle.tel_base.specs.declared.literals.Lit.{Lit}
use Rattle.tel_base.specs.Members.{In}
use Rattle.tel_base.proofs.Members.{In-append_left, In-append_right, In-list_all, In-map, list_all-from_In}
use Rattle.normal_program.specs.declared.rules.NRule.{NRule}
use Rattle.lit_trail.specs.declared.assignment.Entry.{Entry}
use Rattle.lit_trail.specs.Entries.{spot_in, spot_of, spot_value}
use Rattle.unfounded_sets.specs.Unfounded.{is_false, is_no}
use Rattle.unfounded_sets.specs.Marks.{all_below, are_below, Below}

all_weaker : {A : Type 0} (p q : A → Bool) (xs : List A) → ((a : A) → p a ≡ true → q a ≡ true) → list_all p xs ≡ true → list_all q xs ≡ true
all_weaker p q xs weaker h = list_all-from_In q xs (λ x i. weaker x (In-list_all p x xs h i))

-- one more element, and a weaker test
pub all_more : {A : Type 0} (p q : A → Bool) (xs : List A) (i : ℕ) (d : A) → ((a : A) → p a ≡ true → q a ≡ true) → list_all p (take i xs) ≡ true → i < length xs → q (get_or xs i d) ≡ true → list_all q (take (i + 1) xs) ≡ true
all_more p q xs i d weaker h within here =
    list_all_more q xs i d within ∙ and_from (list_all q (take i xs)) (q (get_or xs i d)) (all_weaker p q (take i xs) weaker h) here

below_more : (old new v : ℕ) → old ≤ new → nat_lt v old ≡ true → nat_lt v new ≡ true
below_more old new v more h = let l = ltb-true v old h in lt-ltb v new (omega (arith, l, more))

pub vars_more : (vars : List ℕ) (i old new : ℕ) → all_below old (take i vars) ≡ true → i < length vars → new ≡ max old (get_or vars i 0 + 1) → all_below new (take (i + 1) vars) ≡ true
vars_more vars i old new h within is = all_more (λ v. nat_lt v old) (λ v. nat_lt v new) vars i 0 (λ v. below_more old new v (omega (arith, is))) h within (lt-ltb (get_or vars i 0) new (omega (arith, is)))

pub lits_more : (lits : List Lit) (i old new : ℕ) (d : Lit) → list_all (λ (lit : Lit). nat_lt lit.var old) (take i lits) ≡ true → i < length lits → new ≡ max old ((get_or lits i d).var + 1) → list_all (λ (lit : Lit). nat_lt lit.var new) (take (i + 1) lits) ≡ true
lits_more lits i old new d h within is = all_more (λ (lit : Lit). nat_lt lit.var old) (λ (lit : Lit). nat_lt lit.var new) lits i d (λ lit. below_more old new lit.var (omega (arith, is))) h within (lt-ltb (get_or lits i d).var new (omega (arith, is)))

vars_weaker : (old new : ℕ) (vars : List ℕ) → old ≤ new → all_below old vars ≡ true → all_below new vars ≡ true
vars_weaker old new vars more = all_weaker (λ v. nat_lt v old) (λ v. nat_lt v new) vars (λ v. below_more old new v more)

pub rules_more : (rules : List NRule) (i old new : ℕ) (rule : NRule) → are_below old (take i rules) ≡ true → i < length rules → rule ≡ get_or rules i rule → old ≤ new → all_below new rule.pos ≡ true → are_below new (take (i + 1) rules) ≡ true
rules_more rules i old new rule h within is more here =
    all_more (λ (r : NRule). all_below old r.pos) (λ (r : NRule). all_below new r.pos) rules i rule (λ r. vars_weaker old new r.pos more) h within (subst (λ (r : NRule). all_below new r.pos ≡ true) is here)

pub rules_weaker : (rules : List NRule) (old new : ℕ) → old ≤ new → are_below old rules ≡ true → are_below new rules ≡ true
rules_weaker rules old new more = all_weaker (λ (r : NRule). all_below old r.pos) (λ (r : NRule). all_below new r.pos) rules (λ r. vars_weaker old new r.pos more)

-- a false literal is of an entry
false_entry : (entries : List Entry) (lit : Lit) → is_false entries lit ≡ true → (entry : Entry) × In entry entries × (entry.lit.var ≡ lit.var)
false_entry [] lit h = absurd (false≢true h)
false_entry (entry ∷ older) lit h =
    ⊎_elim (λ (e : entry.lit.var ≡ lit.var). (entry, inl refl, e)) (λ ne.
    let w = false_entry older lit (sym (ap (λ o. is_no (spot_value lit.positive o)) (cond-false (entry.lit.var == lit.var) (Some (spot_of entry)) (spot_in older lit.var) (ne_eqb entry.lit.var lit.var ne))) ∙ h) in
    (w.0, inr w.1, w.2)) (cases_eq entry.lit.var lit.var)

In-reverse : {X : Type 0} (x : X) (xs : List X) → In x xs → In x (reverse xs)
In-reverse x [] i = absurd i
In-reverse x (y ∷ xs) i =
    subst (In x) (sym (reverse-append (y ∷ []) xs)) (⊎_elim (λ e. In-append_right x (reverse xs) (y ∷ []) (inl e)) (λ m. In-append_left x (reverse xs) (y ∷ []) (In-reverse x xs m)) i)

pub lits_bound : (entries : List Entry) (lits : List Lit) (bound : ℕ) → lits ≡ reverse (map (λ (entry : Entry). entry.lit) entries) → list_all (λ (lit : Lit). nat_lt lit.var bound) lits ≡ true → Below bound entries
lits_bound entries lits bound is h lit gone =
    let w = false_entry entries lit gone in
    let i : In w.0.lit lits = subst (In w.0.lit) (sym is) (In-reverse w.0.lit (map (λ (entry : Entry). entry.lit) entries) (In-map (λ (entry : Entry). entry.lit) w.0 entries w.1)) in
    let l = ltb-true w.0.lit.var bound (In-list_all (λ (lit : Lit). nat_lt lit.var bound) w.0.lit lits h i) in
    let same = w.2 in
    omega (arith, l, same)
