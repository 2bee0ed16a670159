-- The ends of a walk are apart.
use Rattle.std.proofs.Common.{◌≡◌, ℕ, true, false, List, [], ◌∷◌, refl, sym, ap, subst, ◌∙◌, ◌⊎◌, inl, inr, ⊎_elim}
use Rattle.std.specs.Prelude.{◌==◌}
use Rattle.std.specs.List.{list_any}
use Rattle.std.proofs.lemmas.Bool.{cases_Bool, cond-true, cond-false, eqb-true, eq-eqb, not-true, false≢true}
use Rattle.tel_base.specs.declared.literals.Lit.{Lit}
use Rattle.tel_base.specs.Literals.{lit_of}
use Rattle.tel_base.proofs.Members.{In, none_found}
use Rattle.normal_program.specs.ModuleClauses.{no_lit}
use Rattle.normal_program.specs.declared.modules.BodyDef.{BodyDef}
use Rattle.normal_program.specs.StableSets.{Set, lits_hold}
use Rattle.clause_store.specs.Closure.{Clause, Conflict}
use Rattle.search_laws.specs.Walks.{HasValue, WalksOn, SticksOn, IsTotalWalk, IsStuckWalk, IsClosedWalk}
use Rattle.search_laws.specs.Lengths.{Length, bodies_of, IsStableAt, IsValued, with_bodies}
use Rattle.search_laws.specs.Needed.{IsWalkSet, IsFound, IsUnstable, Needed}
use Rattle.search_laws.proofs.Walking.{walk_cases}
use Rattle.completion.proofs.ShapeValues.{same_bits}

walk_one : (clauses : List Clause) (start : List Lit) (seen : List ℕ) (decisions others : List Lit) → WalksOn clauses start seen decisions → WalksOn clauses start seen others → decisions ≡ others
walk_one clauses start [] decisions others a b = sym a ∙ b
walk_one clauses start (v ∷ seen) decisions others a b =
    walk_cases clauses start v seen decisions (decisions ≡ others) a (λ value rest. walk_cases clauses start v seen others (decisions ≡ others) b (λ _ more. walk_one clauses start seen decisions others rest more) (λ free _ _. absurd (free value))) (λ free calm rest. walk_cases clauses start v seen others (decisions ≡ others) b (λ value _. absurd (free value)) (λ _ _ more. walk_one clauses (no_lit v ∷ start) seen decisions others rest more))

walk_not_stuck : (clauses : List Clause) (start : List Lit) (seen : List ℕ) (decisions others : List Lit) → WalksOn clauses start seen decisions → SticksOn clauses start seen others → ⊥
walk_not_stuck clauses start [] decisions others a b = b
walk_not_stuck clauses start (v ∷ seen) decisions others a b =
    walk_cases clauses start v seen decisions ⊥ a (λ value rest. ⊎_elim (λ (old : HasValue clauses start v × SticksOn clauses start seen others). walk_not_stuck clauses start seen decisions others rest old.1) (λ (made : (HasValue clauses start v → ⊥) × (((Conflict clauses (no_lit v ∷ start)) × ((no_lit v ∷ start) ≡ others)) ⊎ ((Conflict clauses (no_lit v ∷ start) → ⊥) × SticksOn clauses (no_lit v ∷ start) seen others))). made.0 value) b) (λ free calm rest. ⊎_elim (λ (old : HasValue clauses start v × SticksOn clauses start seen others). free old.0) (λ (made : (HasValue clauses start v → ⊥) × (((Conflict clauses (no_lit v ∷ start)) × ((no_lit v ∷ start) ≡ others)) ⊎ ((Conflict clauses (no_lit v ∷ start) → ⊥) × SticksOn clauses (no_lit v ∷ start) seen others))).
    ⊎_elim (λ (clash : (Conflict clauses (no_lit v ∷ start)) × ((no_lit v ∷ start) ≡ others)). calm clash.0) (λ (on : (Conflict clauses (no_lit v ∷ start) → ⊥) × SticksOn clauses (no_lit v ∷ start) seen others). walk_not_stuck clauses (no_lit v ∷ start) seen decisions others rest on.1) made.1) b)

set_one : (length : Length) (clauses : List Clause) (decisions : List Lit) (S R : Set) → IsWalkSet length clauses decisions S → IsWalkSet length clauses decisions R → S ≡ R
set_one length clauses decisions S R a b i v =
    same_bits (S v) (R v) (λ t. b.whole v (a.own v t) (a.derived v t)) (λ t. a.whole v (b.own v t) (b.derived v t)) i

total_one : (length : Length) (clauses : List Clause) (decisions others : List Lit) → IsTotalWalk clauses length.ending length.visible decisions → IsTotalWalk clauses length.ending length.visible others → decisions ≡ others
total_one length clauses decisions others a b = walk_one clauses (lit_of length.ending ∷ []) length.visible decisions others a.goes b.goes

pub found_is_one : (length : Length) (clauses : List Clause) (decisions others : List Lit) (S R : Set) → IsFound length clauses decisions S → IsFound length clauses others R → (decisions ≡ others) × (S ≡ R)
found_is_one length clauses decisions others S R a b =
    let e = total_one length clauses decisions others a.total b.total in
    (e, set_one length clauses others S R (subst (λ (d : List Lit). IsWalkSet length clauses d S) e a.set) b.set)

pub ends_are_apart : (length : Length) (clauses : List Clause) → ((decisions : List Lit) (S : Set) → IsFound length clauses decisions S → Needed length clauses → ⊥) × ((decisions : List Lit) (S : Set) → IsFound length clauses decisions S → IsClosedWalk clauses length.ending → ⊥) × (Needed length clauses → IsClosedWalk clauses length.ending → ⊥)
ends_are_apart length clauses = (
  λ decisions S found needed. ⊎_elim (λ (stuck : (others : List Lit) × IsStuckWalk clauses length.ending length.visible others). walk_not_stuck clauses (lit_of length.ending ∷ []) length.visible decisions stuck.0 found.total.goes stuck.1.goes) (λ (other : (others : List Lit) × (R : Set) × IsUnstable length clauses others R).
      let e = total_one length clauses decisions other.0 found.total other.2.total in
      let same = set_one length clauses other.0 S other.1 (subst (λ (d : List Lit). IsWalkSet length clauses d S) e found.set) other.2.set in
      other.2.unstable (subst (λ (X : Set). IsStableAt length X) same found.stable)) needed,
  λ decisions S found closed. found.total.begins closed,
  λ needed closed. ⊎_elim (λ (stuck : (others : List Lit) × IsStuckWalk clauses length.ending length.visible others). stuck.1.begins closed) (λ (other : (others : List Lit) × (R : Set) × IsUnstable length clauses others R). other.2.total.begins closed) needed,
)

-- ---- the values of bodies

value_found : (defs all : List BodyDef) (S : Set) (def : BodyDef) → ((b : BodyDef) → In b defs → In b all) → ((b other : BodyDef) → In b all → In other all → b.var ≡ other.var → b.lits ≡ other.lits) → In def defs → with_bodies defs S def.var ≡ lits_hold S S def.lits
value_found [] all S def sub one i = absurd i
value_found (first ∷ more) all S def sub one i =
    let here = lits_hold S S first.lits in
    ⊎_elim (λ (t : (first.var == def.var) ≡ true). cond-true (first.var == def.var) here (with_bodies more S def.var) t ∙ ap (λ (ls : List Lit). lits_hold S S ls) (one first def (sub first (inl refl)) (sub def i) (eqb-true first.var def.var t))) (λ (f : (first.var == def.var) ≡ false).
    cond-false (first.var == def.var) here (with_bodies more S def.var) f ∙ ⊎_elim (λ (e : first ≡ def). absurd (false≢true (sym f ∙ eq-eqb first.var def.var (ap (λ (b : BodyDef). b.var) e)))) (λ m. value_found more all S def (λ b k. sub b (inr k)) one m) i) (cases_Bool (first.var == def.var))

value_none : (defs : List BodyDef) (S : Set) (v : ℕ) → ((def : BodyDef) → In def defs → (def.var == v) ≡ false) → with_bodies defs S v ≡ S v
value_none [] S v h = refl
value_none (def ∷ more) S v h =
    cond-false (def.var == v) (lits_hold S S def.lits) (with_bodies more S v) (h def (inl refl)) ∙ value_none more S v (λ d m. h d (inr m))

pub values_stand : (length : Length) (S : Set) → ((def other : BodyDef) → In def (bodies_of length) → In other (bodies_of length) → def.var ≡ other.var → def.lits ≡ other.lits) → IsValued length S (with_bodies (bodies_of length) S)
values_stand length S one = record {
  same = λ v p. value_none (bodies_of length) S v (λ def m. none_found (λ (d : BodyDef). d.var == v) (bodies_of length) def (not-true (list_any (λ (d : BodyDef). d.var == v) (bodies_of length)) p) m);
  bodies = λ def i. value_found (bodies_of length) (bodies_of length) S def (λ b k. k) one i;
}
