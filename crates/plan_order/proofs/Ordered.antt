-- A draft at its beginning and at its end.
use Rattle.std.proofs.Common.{◌≡◌, ◌↔◌, ◌∙◌, ◌⊎◌, inl, inr, ℕ, zero, suc, ◌+◌, ◌<◌, true, false, List, [], ◌∷◌, ◌++◌, map, length, refl, sym, ap, subst, ⊎_elim, arith, true≢false}
use Rattle.std.specs.Prelude.{Bool, Some, slice_get, replicate}
use Rattle.std.specs.List.{list_all}
use Rattle.std.specs.List.Sorted.{IsPermutation}
use Rattle.std.proofs.lemmas.List.Sorted.{Contains-permutation}
use Rattle.std.proofs.lemmas.Bool.{and_parts}
use Rattle.std.proofs.lemmas.List.{append-nil}
use Rattle.tel_base.specs.Members.{In}
use Rattle.tel_base.proofs.Members.{In-append_left, In-append_right, In-append_cases, In-map_from, list_all-from_In, In-from_Contains, Contains-from_In}
use Rattle.tel_term.specs.declared.terms.Term.{Term}
use Rattle.join_plans.specs.Join as plans
use Rattle.join_plans.specs.Join.{is_known, IsPlan}
use Rattle.join_plans.specs.Goals as plans_goals
use Rattle.join_plans.specs.Goals.{goal_of}
use Rattle.plan_search.specs.declared.steps.Step.{Step}
use Rattle.plan_search.specs.Steps.{Tables, plan_of}
use Rattle.plan_order.specs.declared.goals.Goal.{Goal}
use Rattle.plan_order.specs.declared.goals.Goal.TheVariants as goals
use Rattle.plan_order.specs.Goals.{meant, ready, IsSound, IsDone}
use Rattle.plan_order.specs.Passing.{IsDraft, AreUnready, IsOrdered, IsStuck}

-- ---- numbers

below_cases : (n k : ℕ) → n < k + 1 → (n < k) ⊎ (n ≡ k)
below_cases zero zero less = inr refl
below_cases zero (suc k) less = inl (omega arith)
below_cases (suc n) zero less = absurd (omega (arith, less))
below_cases (suc n) (suc k) less = ⊎_elim (λ (below : n < k). inl (omega (arith, below))) (λ (same : n ≡ k). inr (ap suc same)) (below_cases n k (omega (arith, less)))

pub numbers_more : (numbers after : List ℕ) (k : ℕ) → after ≡ numbers ++ k ∷ [] → ((n : ℕ) → In n numbers ↔ (n < k)) → (n : ℕ) → In n after ↔ (n < k + 1)
numbers_more numbers after k is so_far n = (
  (λ there.
      ⊎_elim (λ (earlier : In n numbers). let less = (so_far n).0 earlier in omega (arith, less)) (λ last. ⊎_elim (λ (same : k ≡ n). omega (arith, same)) (λ none. absurd none) last)
      (In-append_cases n numbers (k ∷ []) (subst (λ (l : List ℕ). In n l) is there))),
  (λ less.
      subst (λ (l : List ℕ). In n l) (sym is)
      (⊎_elim (λ (below : n < k). In-append_left n numbers (k ∷ []) ((so_far n).1 below)) (λ (same : n ≡ k). In-append_right n numbers (k ∷ []) (inl (sym same))) (below_cases n k less))),
)

-- ---- lists

got_inside : {X : Type 0} (xs : List X) (i : ℕ) (x : X) → slice_get xs i ≡ Some x → i < length xs
got_inside [] i x e = absurd (cc)
got_inside (y ∷ xs) zero x e = omega arith
got_inside (y ∷ xs) (suc i) x e = let less = got_inside xs i x e in omega (arith, less)

in_at : {X : Type 0} (xs : List X) (x : X) → In x xs → (i : ℕ) × (slice_get xs i ≡ Some x)
in_at [] x there = absurd there
in_at {X} (y ∷ xs) x there = ⊎_elim (λ (same : y ≡ x). (0, ap Some same)) (λ later. let at = in_at xs x later in (suc at.0, at.1)) there

all_at : (known : List Bool) → list_all (λ (mark : Bool). mark) known ≡ true → (v : ℕ) → v < length known → is_known known v ≡ true
all_at [] all v less = absurd (omega (arith, less))
all_at (mark ∷ known) all zero less = (and_parts mark (list_all (λ (m : Bool). m) known) all).0
all_at (mark ∷ known) all (suc v) less = all_at known (and_parts mark (list_all (λ (m : Bool). m) known) all).1 v (omega (arith, less))

lost_at : (known : List Bool) → list_all (λ (mark : Bool). mark) known ≡ false → (v : ℕ) × (v < length known) × (is_known known v ≡ false)
lost_at [] lost = absurd (true≢false lost)
lost_at (false ∷ known) lost = (0, omega arith, refl)
lost_at (true ∷ known) lost = let later = lost_at known lost in (suc later.0, omega (arith, later.1), later.2)

-- ---- all goals are ready where all places have values

all_ready : (count : ℕ) (known : List Bool) → ((v : ℕ) → v < count → is_known known v ≡ true) → (goal : Goal) → IsSound count goal → ready known goal ≡ true
all_ready count known all (goals.Row predicate places) sound = refl
all_ready count known all (goals.Equal place expr reads) sound = list_all-from_In (is_known known) reads (λ v there. all v (sound.2 v there))
all_ready count known all (goals.Compare relation left right reads) sound = list_all-from_In (is_known known) reads (λ v there. all v (sound.1 v there))

-- ---- the beginning

pub draft_begins : (tables : Tables) (symbols : List Term) (places : ℕ) (goals : List Goal) (numbers : List ℕ) (known : List Bool) (steps : List Step) → steps ≡ [] → known ≡ replicate places false → ((n : ℕ) → In n numbers ↔ (n < length goals)) → IsDraft tables symbols places goals numbers known steps
draft_begins tables symbols places goals numbers known steps none is all = record {
  leads = λ more plan. subst (λ (l : List Step). IsPlan (replicate places false) (plan_of tables symbols l ++ more)) (sym none) (subst (λ (k : List Bool). IsPlan k more) is plan);
  only = λ goal there. absurd (subst (λ (l : List Step). In goal (map goal_of (plan_of tables symbols l))) none there);
  each = λ n goal there. inl ((all n).1 (got_inside goals n goal there));
  terms = λ own step there. absurd (subst (λ (l : List Step). In step l) none there);
}

-- ---- the end

module _ (tables : Tables) (symbols : List Term) (places : ℕ) (goals : List Goal) (left : List ℕ) (known : List Bool) (steps : List Step) (draft : IsDraft tables symbols places goals left known steps) (long : length known ≡ places) (unready : AreUnready goals left known) where
  -- a goal that is ready was taken
  taken : (goal : Goal) → In goal goals → ready known goal ≡ true → In (meant tables symbols goal) (map goal_of (plan_of tables symbols steps)) × IsDone known goal
  taken goal there is =
      let at = in_at goals goal there in
      ⊎_elim (λ in_left. absurd (true≢false (sym is ∙ unready at.0 goal in_left at.1))) (λ both. both) (draft.each at.0 goal at.1)

  pub ordered : ((goal : Goal) → In goal goals → IsSound places goal) → list_all (λ (mark : Bool). mark) known ≡ true → IsOrdered tables symbols places goals steps
  ordered sound all =
      let marks = λ (v : ℕ) (less : v < places). all_at known all v (omega (arith, less, long)) in
      record {
        runs = subst (λ (l : List plans.Step). IsPlan (replicate places false) l) (append-nil (plan_of tables symbols steps)) (draft.leads [] (λ v less. all_at known all v less));
        asks = λ g. (
          (λ there. draft.only g there),
          (λ there.
              let from = In-map_from (meant tables symbols) g goals there in
              subst (λ (h : plans_goals.Goal). In h (map goal_of (plan_of tables symbols steps))) from.2 (taken from.0 from.1 (all_ready places known marks from.0 (sound from.0 from.1))).0),
        );
        terms = draft.terms;
      }

  pub stuck : list_all (λ (mark : Bool). mark) known ≡ false → IsStuck places goals
  stuck lost =
      let at = lost_at known lost in
      record {
        known = known;
        long = long;
        closed = λ goal there is. (taken goal there is).1;
        misses = (at.0, omega (arith, at.1, long), at.2);
      }

-- what is in a list is in each order of it
pub moved_in : {X : Type 0} (xs ys : List X) (x : X) → IsPermutation xs ys → In x xs → In x ys
moved_in xs ys x moved there = In-from_Contains ys x (Contains-permutation xs ys x moved (Contains-from_In xs x there))
