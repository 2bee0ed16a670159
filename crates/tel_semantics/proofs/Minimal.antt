-- The enumeration of the traces below a trace stands for all tests below it.
use Rattle.std.proofs.Common.{◌≡◌, ℕ, ◌+◌, zero, suc, Bool, true, false, ◌&&◌, ◌||◌, cond, List, [], ◌∷◌, map, refl, sym, ap, subst, ◌∙◌, inl, ⊎_elim, arith}
use Rattle.std.specs.Prelude.{◌==◌}
use Rattle.std.specs.List.{filter}
use Rattle.std.proofs.lemmas.Bool.{or_cases, or_left, or_right, cases_Bool, eqb-true}
use Rattle.tel_semantics.specs.Traces.{Test, is_member, test_of, IsBelow, Agree}
use Rattle.tel_semantics.specs.Lists.{subsets}
use Rattle.tel_base.proofs.Members.{In, In-append_left, In-append_right, In-append_cases, In-map, In-map_from}
use Rattle.tel_semantics.proofs.Below.{Under}

-- whether a number is the atom, or else in the state
member_cons : (x : ℕ) (xs : List ℕ) (atom : ℕ) → is_member (x ∷ xs) atom ≡ ((x == atom) || is_member xs atom)
member_cons x xs atom = refl

-- a member of a subset is a member of the whole
pub member-subsets : (state subset : List ℕ) (atom : ℕ) → In subset (subsets state) → is_member subset atom ≡ true → is_member state atom ≡ true
member-subsets [] subset atom h m =
    ⊎_elim (λ e. subst (λ (s : List ℕ). is_member s atom ≡ true) (sym e) m) (λ f. absurd f) h
member-subsets (x ∷ xs) subset atom h m =
    ⊎_elim (λ l. or_right (x == atom) (is_member xs atom) (member-subsets xs subset atom l m)) (λ r. let w = In-map_from (λ (s : List ℕ). x ∷ s) subset (subsets xs) r in let here : is_member (x ∷ w.0) atom ≡ true = subst (λ (s : List ℕ). is_member s atom ≡ true) (sym w.2) m in ⊎_elim (λ e. or_left (x == atom) (is_member xs atom) e) (λ more. or_right (x == atom) (is_member xs atom) (member-subsets xs w.0 atom w.1 more)) (or_cases (x == atom) (is_member w.0 atom) here)) (In-append_cases subset (subsets xs) (map (λ (s : List ℕ). x ∷ s) (subsets xs)) h)

-- the elements that pass a test are a subset
pub filter-subsets : (p : ℕ → Bool) (state : List ℕ) → In (filter p state) (subsets state)
filter-subsets p [] = inl refl
filter-subsets p (x ∷ xs) =
    let rest = filter-subsets p xs in
    let with : In (x ∷ filter p xs) (subsets (x ∷ xs)) = In-append_right (x ∷ filter p xs) (subsets xs) (map (λ (s : List ℕ). x ∷ s) (subsets xs)) (In-map (λ (s : List ℕ). x ∷ s) (filter p xs) (subsets xs) rest) in
    let without : In (filter p xs) (subsets (x ∷ xs)) = In-append_left (filter p xs) (subsets xs) (map (λ (s : List ℕ). x ∷ s) (subsets xs)) rest in
    elim (p x) as (λ b. In (cond b (x ∷ filter p xs) (filter p xs)) (subsets (x ∷ xs))) [ true ↦ with | false ↦ without ]

member_at : (p : ℕ → Bool) (x : ℕ) (atom : ℕ) (b m n : Bool) → p x ≡ b → n ≡ (p atom && m) → cond b ((x == atom) || n) n ≡ (p atom && ((x == atom) || m))
member_at p x atom b m n e h =
    ⊎_elim (λ same. let at : p atom ≡ b = ap p (sym (eqb-true x atom same)) ∙ e in elim b as (λ v. p atom ≡ v → cond v ((x == atom) || n) n ≡ (p atom && ((x == atom) || m))) [ true ↦ λ t. cc | false ↦ λ t. cc ] at) (λ other. elim b as (λ v. cond v ((x == atom) || n) n ≡ (p atom && ((x == atom) || m))) [ true ↦ cc | false ↦ cc ]) (cases_Bool (x == atom))

-- what is in the elements that pass: what passes and is in the whole
pub member-filter : (p : ℕ → Bool) (state : List ℕ) (atom : ℕ) → is_member (filter p state) atom ≡ (p atom && is_member state atom)
member-filter p [] atom = elim (p atom) as (λ b. false ≡ (b && false)) [ true ↦ refl | false ↦ refl ]
member-filter p (x ∷ xs) atom =
    let rest = member-filter p xs atom in
    let split : is_member (cond (p x) (x ∷ filter p xs) (filter p xs)) atom ≡ cond (p x) ((x == atom) || is_member (filter p xs) atom) (is_member (filter p xs) atom) = elim (p x) as (λ b. is_member (cond b (x ∷ filter p xs) (filter p xs)) atom ≡ cond b ((x == atom) || is_member (filter p xs) atom) (is_member (filter p xs) atom)) [ true ↦ refl | false ↦ refl ] in
    split ∙ member_at p x atom (p x) (is_member xs atom) (is_member (filter p xs) atom) refl rest

-- the part of a trace, whose first state is that of the instant k, that passes a test
abbrev pub part_of : Test → ℕ → List (List ℕ) → List (List ℕ)
part_of H k [] = []
part_of H k (state ∷ more) = filter (H k) state ∷ part_of H (k + 1) more

pub Under-part_of : (H : Test) (k : ℕ) (trace : List (List ℕ)) → Under (part_of H k trace) trace
Under-part_of H k [] = tt
Under-part_of H k (state ∷ more) = (filter-subsets (H k) state, Under-part_of H (k + 1) more)

pub test_of-part_of : (H : Test) (k : ℕ) (trace : List (List ℕ)) (j atom : ℕ) → test_of (part_of H k trace) j atom ≡ (H (k + j) atom && test_of trace j atom)
test_of-part_of H k [] j atom = elim (H (k + j) atom) as (λ b. false ≡ (b && false)) [ true ↦ refl | false ↦ refl ]
test_of-part_of H k (state ∷ more) zero atom =
    member-filter (H k) state atom ∙ ap (λ (i : ℕ). H i atom && is_member state atom) (omega arith)
test_of-part_of H k (state ∷ more) (suc j) atom =
    test_of-part_of H (k + 1) more j atom ∙ ap (λ (i : ℕ). H i atom && test_of more j atom) (omega arith)

both_below : (h t : Bool) → (h ≡ true → t ≡ true) → (h && t) ≡ h
both_below true t h = h refl
both_below false t h = refl

-- a test below a trace agrees with the part of the trace that passes it
pub Agree-part_of : (n count : ℕ) (H : Test) (trace : List (List ℕ)) → IsBelow n count H (test_of trace) → Agree n count H (test_of (part_of H 0 trace))
Agree-part_of n count H trace below k atom l m =
    sym (test_of-part_of H 0 trace k atom ∙ ap (λ (i : ℕ). H i atom && test_of trace k atom) (omega arith) ∙ both_below (H k atom) (test_of trace k atom) (below k atom l m))

-- a listed trace under another is below it
pub IsBelow-Under : (small large : List (List ℕ)) → Under small large → (k atom : ℕ) → test_of small k atom ≡ true → test_of large k atom ≡ true
IsBelow-Under [] [] h k atom m = m
IsBelow-Under [] (state ∷ large) h k atom m = absurd h
IsBelow-Under (subset ∷ small) [] h k atom m = absurd h
IsBelow-Under (subset ∷ small) (state ∷ large) h zero atom m = member-subsets state subset atom h.0 m
IsBelow-Under (subset ∷ small) (state ∷ large) h (suc k) atom m = IsBelow-Under small large h.1 k atom m
