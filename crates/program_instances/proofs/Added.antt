-- Atoms that are added to a set one after another.
use Rattle.std.proofs.Common.{◌≡◌, ◌↔◌, ◌⊎◌, inl, inr, ℕ, ◌+◌, ◌<◌, ◌≤◌, Bool, List, [], ◌∷◌, ◌++◌, map, length, drop, get_or, refl, sym, ap, subst, ◌∙◌, ⊎_elim, arith, add-one}
use Rattle.std.specs.Prelude.{if◌then◌else◌}
use Rattle.std.specs.List.{flat_map}
use Rattle.std.proofs.Math.Seq.{drop-cons}
use Rattle.std.proofs.lemmas.Bool.{cases_Bool, false≢true}
use Rattle.std.proofs.lemmas.List.{length-append}
use Rattle.tel_base.specs.Members.{In}
use Rattle.tel_base.proofs.Members.{In-append_left, In-append_right, In-append_cases, any_found, any_from}
use Rattle.tel_term.specs.declared.terms.Value.{Value}
use Rattle.tel_rule.specs.declared.formulas.Atom.{Atom}
use Rattle.join_plans.specs.Once.{IsOnce}
use Rattle.atom_table.specs.Named.{NamedAtom, named_eq, has_atom, with_atom}
use Rattle.atom_table.specs.Collected.{atom_under, with_atoms}
use Rattle.atom_table.proofs.PairNumbers.{named_one, named_itself}
use Rattle.program_instances.specs.Adding.{with_all}

-- ---- one atom more

-- it is there already, or it comes at the end
one-atom : (P : List NamedAtom → Type 0) (known : List NamedAtom) (x : NamedAtom) → (In x known → P known) → ((In x known → ⊥) → P (known ++ x ∷ [])) → P (with_atom known x)
one-atom P known x old new = elim (cases_Bool (has_atom known x)) [
  | inl some ↦
      let there = any_found (named_eq x) known some in
      subst P (sym (ap (λ (b : Bool). if b then known else known ++ x ∷ []) some))
      (old (subst (λ (y : NamedAtom). In y known) (sym (named_one x there.0 there.2)) there.1))
  | inr none ↦
      subst P (sym (ap (λ (b : Bool). if b then known else known ++ x ∷ []) none))
      (new (λ there. false≢true (sym none ∙ any_from (named_eq x) known x there (named_itself x))))
]

one-longer : (known : List NamedAtom) (x : NamedAtom) → length known ≤ length (with_atom known x)
one-longer known x = one-atom (λ (l : List NamedAtom). length known ≤ length l) known x (λ there. omega arith) (λ none. let long = length-append known (x ∷ []) in omega (arith, long))

one-in : (known : List NamedAtom) (x atom : NamedAtom) → In atom (with_atom known x) ↔ (In atom known ⊎ (x ≡ atom))
one-in known x atom =
    one-atom (λ (l : List NamedAtom). In atom l ↔ (In atom known ⊎ (x ≡ atom))) known x
    (λ there. (λ h. inl h, λ h. ⊎_elim (λ (before : In atom known). before) (λ (same : x ≡ atom). subst (λ (y : NamedAtom). In y known) same there) h))
    (λ none. (
      λ h. ⊎_elim (λ (before : In atom known). inl before) (λ (last : In atom (x ∷ [])). ⊎_elim (λ (same : x ≡ atom). inr same) (λ nothing. absurd nothing) last) (In-append_cases atom known (x ∷ []) h),
      λ h. ⊎_elim (λ (before : In atom known). In-append_left atom known (x ∷ []) before) (λ (same : x ≡ atom). In-append_right atom known (x ∷ []) (inl same)) h,
    ))

once-last : (xs : List NamedAtom) (x : NamedAtom) → IsOnce xs → (In x xs → ⊥) → IsOnce (xs ++ x ∷ [])
once-last [] x once none = ((λ there. there), tt)
once-last (y ∷ ys) x once none = (
  λ there. ⊎_elim (λ (before : In y ys). once.0 before) (λ (last : In y (x ∷ [])). ⊎_elim (λ (same : x ≡ y). none (inl (sym same))) (λ nothing. absurd nothing) last) (In-append_cases y ys (x ∷ []) there),
  once-last ys x once.1 (λ there. none (inr there)),
)

one-once : (known : List NamedAtom) (x : NamedAtom) → IsOnce known → IsOnce (with_atom known x)
one-once known x once = one-atom (λ (l : List NamedAtom). IsOnce l) known x (λ there. once) (λ none. once-last known x once none)

-- ---- many

pub all-append : (known xs ys : List NamedAtom) → with_all known (xs ++ ys) ≡ with_all (with_all known xs) ys
all-append known [] ys = refl
all-append known (x ∷ xs) ys = all-append (with_atom known x) xs ys

pub all-longer : (known xs : List NamedAtom) → length known ≤ length (with_all known xs)
all-longer known [] = omega arith
all-longer known (x ∷ xs) =
    let first = one-longer known x in
    let rest = all-longer (with_atom known x) xs in
    omega (arith, first, rest)

pub all-in : (known xs : List NamedAtom) (atom : NamedAtom) → In atom (with_all known xs) ↔ (In atom known ⊎ In atom xs)
all-in known [] atom = (λ h. inl h, λ h. ⊎_elim (λ (before : In atom known). before) (λ nothing. absurd nothing) h)
all-in known (x ∷ xs) atom =
    let here = one-in known x atom in
    let rest = all-in (with_atom known x) xs atom in (
      λ h. ⊎_elim (λ (before : In atom (with_atom known x)). ⊎_elim (λ (old : In atom known). inl old) (λ (same : x ≡ atom). inr (inl same)) (here.0 before)) (λ (later : In atom xs). inr (inr later)) (rest.0 h),
      λ h. rest.1 (⊎_elim (λ (old : In atom known). inl (here.1 (inl old))) (λ (new : In atom (x ∷ xs)). ⊎_elim (λ (same : x ≡ atom). inl (here.1 (inr same))) (λ (later : In atom xs). inr later) new) h),
    )

pub all-once : (known xs : List NamedAtom) → IsOnce known → IsOnce (with_all known xs)
all-once known [] once = once
all-once known (x ∷ xs) once = all-once (with_atom known x) xs (one-once known x once)

pub all-over : (known xs : List NamedAtom) (most : ℕ) → most < length known → most < length (with_all known xs)
all-over known xs most more = let longer = all-longer known xs in omega (arith, more, longer)

-- those of a rule
pub with_atoms-all : (binding : List Value) (atoms : List Atom) (known : List NamedAtom) → with_atoms binding atoms known ≡ with_all known (map (atom_under binding) atoms)
with_atoms-all binding [] known = refl
with_atoms-all binding (atom ∷ more) known = with_atoms-all binding more (with_atom known (atom_under binding atom))

-- ---- steps of the walks over instances

module _ {X : Type 0} (things : List X) (i : ℕ) (thing : X) (inside : i < length things) (is : thing ≡ get_or things i thing) where
  here : drop i things ≡ thing ∷ drop (i + 1) things
  here = drop-cons things i thing inside ∙ (λ j. sym is j ∷ drop (sym (add-one i) j) things)

  pub next-many : (f : X → List NamedAtom) (old new : List NamedAtom) → new ≡ with_all old (f thing) → with_all new (flat_map f (drop (i + 1) things)) ≡ with_all old (flat_map f (drop i things))
  next-many f old new put =
      ap (λ (l : List NamedAtom). with_all l (flat_map f (drop (i + 1) things))) put ∙ sym (all-append old (f thing) (flat_map f (drop (i + 1) things)))
      ∙ sym (ap (λ (left : List X). with_all old (flat_map f left)) here)

  pub next-one : (f : X → NamedAtom) (old new : List NamedAtom) → new ≡ with_atom old (f thing) → with_all new (map f (drop (i + 1) things)) ≡ with_all old (map f (drop i things))
  next-one f old new put =
      ap (λ (l : List NamedAtom). with_all l (map f (drop (i + 1) things))) put ∙ sym (ap (λ (left : List X). with_all old (map f left)) here)
