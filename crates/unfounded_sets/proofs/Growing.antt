-- A set of supported variables that grows.
use Rattle.std.proofs.Common.{◌≡◌, ℕ, zero, suc, ◌+◌, ◌<◌, Bool, true, false, not, ◌&&◌, ◌||◌, List, [], ◌∷◌, length, get_or, set, refl, sym, ap, subst, inl, inr, ◌∙◌, ⊎_elim, arith, get_or-set_other}
use Rattle.std.specs.Prelude.{Some, nat_lt}
use Rattle.std.proofs.lemmas.Bool.{and_parts, and_from, or_cases, or_left, or_right, false≢true, not_from_false, not-true, cases_eq, ltb-true}
use Rattle.normal_program.specs.declared.rules.NRule.{NRule}
use Rattle.tel_base.specs.Literals.{lit_of}
use Rattle.normal_program.specs.Grounds.{Layers, is_head}
use Rattle.normal_program.specs.StableSets.{Set}
use Rattle.lit_trail.specs.declared.assignment.Entry.{Entry}
use Rattle.tel_base.specs.Members.{In}
use Rattle.tel_base.proofs.Members.{In-list_all}
use Rattle.unfounded_sets.specs.Unfounded.{head_in, is_false, is_off}
use Rattle.unfounded_sets.specs.Least.{wanted_below, at, all_of, supports, keeps_rule, is_kept, LeastFrom, missing}

pub In-get_or : {X : Type 0} (xs : List X) (i : ℕ) (d : X) → i < length xs → In (get_or xs i d) xs
In-get_or [] i d l = absurd (omega (arith, l))
In-get_or (x ∷ xs) zero d l = inl refl
In-get_or (x ∷ xs) (suc i) d l = inr (In-get_or xs i d (omega (arith, l)))

pub fewer_missing : (found : List Bool) (v : ℕ) → v < length found → at found v ≡ false → missing (set found v true) + 1 ≡ missing found
fewer_missing [] v l h = absurd (omega (arith, l))
fewer_missing (true ∷ found) zero l h = absurd (false≢true (sym h))
fewer_missing (false ∷ found) zero l h = omega arith
fewer_missing (true ∷ found) (suc v) l h = fewer_missing found v (omega (arith, l)) h
fewer_missing (false ∷ found) (suc v) l h = let rest = fewer_missing found v (omega (arith, l)) h in omega (arith, rest)

pub more_found : (wanted X Y : Set) (vars : List ℕ) → ((v : ℕ) → X v ≡ true → Y v ≡ true) → all_of wanted X vars ≡ true → all_of wanted Y vars ≡ true
more_found wanted X Y [] up h = refl
more_found wanted X Y (v ∷ vars) up h =
    let both = and_parts (not (wanted v) || X v) (all_of wanted X vars) h in
    and_from (not (wanted v) || Y v) (all_of wanted Y vars) (⊎_elim (λ n. or_left (not (wanted v)) (Y v) n) (λ x. or_right (not (wanted v)) (Y v) (up v x)) (or_cases (not (wanted v)) (X v) both.0)) (more_found wanted X Y vars up both.1)

-- what a rule says by its parts
pub record Supports (entries : List Entry) (wanted X : Set) (rule : NRule) (head : ℕ) : Type 0 where
  pub head_is : rule.head ≡ Some head
  pub on : is_off entries rule ≡ false
  pub want : wanted head ≡ true
  pub all : all_of wanted X rule.pos ≡ true

pub supports_from : (entries : List Entry) (wanted X : Set) (rule : NRule) (head : ℕ) → Supports entries wanted X rule head → supports entries wanted X rule ≡ true
supports_from entries wanted X rule head s =
    and_from (not (is_off entries rule) && head_in wanted rule.head) (all_of wanted X rule.pos) (and_from (not (is_off entries rule)) (head_in wanted rule.head) (not_from_false (is_off entries rule) s.on) (ap (head_in wanted) s.head_is ∙ s.want)) s.all

-- a closed set has the head of a rule that is supported by a smaller set
pub head_kept : (rules : List NRule) (entries : List Entry) (wanted X : Set) (rule : NRule) (head : ℕ) → is_kept rules entries wanted X ≡ true → In rule rules → Supports entries wanted X rule head → X head ≡ true
head_kept rules entries wanted X rule head closed i s =
    let keeps = In-list_all (keeps_rule entries wanted X) rule rules closed i in
    ⊎_elim (λ n. absurd (false≢true (sym (not-true (supports entries wanted X rule) n) ∙ supports_from entries wanted X rule head s))) (λ (x : head_in X rule.head ≡ true). ap (head_in X) (sym s.head_is) ∙ x) (or_cases (not (supports entries wanted X rule)) (head_in X rule.head) keeps)

-- one more found, by a rule
pub least_more : (rules : List NRule) (entries : List Entry) (wanted : Set) (old now : List Bool) (rule : NRule) (head : ℕ) → LeastFrom rules entries wanted old now → In rule rules → Supports entries wanted (at now) rule head → LeastFrom rules entries wanted old (set now head true)
least_more rules entries wanted old now rule head least i s X closed up v h =
    let so_far = least X closed up in
    ⊎_elim (λ (e : head ≡ v). subst (λ (u : ℕ). X u ≡ true) e (head_kept rules entries wanted X rule head closed i (record { head_is = s.head_is; on = s.on; want = s.want; all = more_found wanted (at now) X rule.pos so_far s.all }))) (λ ne. so_far v (sym (get_or-set_other now head v true false (λ e. ne (sym e))) ∙ h)) (cases_eq head v)

-- a wanted variable has a place in the table
pub want_range : (layers : Layers) (entries : List Entry) (bound v : ℕ) → wanted_below layers entries bound v ≡ true → v < bound
want_range layers entries bound v h = ltb-true v bound (and_parts (nat_lt v bound) (is_head layers.modules v && not (is_false entries (lit_of v))) h).0
