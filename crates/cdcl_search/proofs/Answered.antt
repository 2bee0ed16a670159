-- A search that holds what it held, with another trail.
use Rattle.std.proofs.Common.{◌≡◌, ℕ, List, [], ◌∷◌, ◌++◌, length, refl, sym, ap, subst, ◌∙◌, inl, inr, ⊎_elim}
use Rattle.std.specs.Prelude.{Option, Some, IsTrue}
use Rattle.tel_base.proofs.Members.{In}
use Rattle.normal_program.specs.declared.modules.StepModule.{StepModule}
use Rattle.normal_program.specs.Grounds.{Layers}
use Rattle.clause_store.specs.declared.store.ClauseId.{ClauseId}
use Rattle.clause_store.specs.Held as held
use Rattle.clause_store.specs.Held.{Held, is_clause}
use Rattle.clause_store.specs.Closure.{Clause, Absorbed, Conflict, negations}
use Rattle.lit_trail.specs.Entries as trails
use Rattle.search_laws.specs.Lengths.{length_of}
use Rattle.search_laws.specs.Origins.{Kept, lits_of}
use Rattle.search_laws.specs.Needed.{Needed, IsCut}
use Rattle.unfounded_sets.specs.LoopClauses.{IsLoopClause, among}
use Rattle.cdcl_search.specs.declared.loops.LoopSet.{LoopSet}
use Rattle.cdcl_search.specs.declared.steps.Step.TheVariants as steps
use Rattle.cdcl_search.specs.Searches.{Begun, View, kept_of, view_of}
use Rattle.cdcl_search.specs.Steps.{IsOfModules, IsNeeded, CutsWalk, HoldsSame, IsLearntOne, IsLoopOne, IsOneMore, Allows, Steps, AtLength}

-- the same rules and parts, clauses, variables, and sets of loop clauses
pub record IsAlike (old new : View) : Type 0 where
  pub ground : new.ground ≡ old.ground
  pub kept : new.kept ≡ old.kept
  pub vars : new.vars ≡ old.vars
  pub loops : new.loops ≡ old.loops

pub alike : (ground : Layers) (store new : held.View) (lengths : List ℕ) (trail later : trails.View) (loops : List LoopSet) (begun : Option Begun) → new.clauses ≡ store.clauses → later.vars ≡ trail.vars → IsAlike (view_of ground store lengths trail loops begun) (view_of ground new lengths later loops begun)
alike ground store new lengths trail later loops begun same vars = record { ground = refl; kept = ap (λ (hs : List Held). kept_of hs lengths) same; vars = vars; loops = refl }

pub holds_same : (ground : Layers) (store new : held.View) (lengths : List ℕ) (trail later : trails.View) (loops : List LoopSet) (begun : Option Begun) → new.clauses ≡ store.clauses → HoldsSame (view_of ground store lengths trail loops begun) (view_of ground new lengths later loops begun)
holds_same ground store new lengths trail later loops begun same = record { kept = ap (λ (hs : List Held). kept_of hs lengths) same; loops = refl; begun = refl }

of_alike : (old new : View) (begun : Begun) (steps : ℕ → StepModule) → IsAlike old new → IsOfModules old begun steps → IsOfModules new begun steps
of_alike old new begun steps same of = record {
  plain = of.plain;
  modules = of.modules;
  rank = of.rank;
  ranked = of.ranked;
  ground = of.ground ∙ sym same.ground;
  visible = of.visible;
  ending = of.ending;
  held = λ t l clause i. subst (λ (ks : List Kept). In clause (lits_of ks)) (sym same.kept) (of.held t l clause i);
}

pub needed_alike : (old new : View) (begun : Begun) → IsAlike old new → IsNeeded new begun → IsNeeded old begun
needed_alike old new begun same needed steps of = subst (λ (ks : List Kept). Needed (length_of steps begun.n) (lits_of ks)) same.kept (needed steps (of_alike old new begun steps same of))

pub cuts_alike : (old new : View) (begun : Begun) (clause : Clause) → IsAlike old new → CutsWalk new begun clause → CutsWalk old begun clause
cuts_alike old new begun clause same cuts steps of = subst (λ (ks : List Kept). IsCut (length_of steps begun.n) (lits_of ks) clause) same.kept (cuts steps (of_alike old new begun steps same of))

learnt_alike : (old new later : View) (one : Kept) → IsAlike old new → IsLearntOne new later one → IsLearntOne old later one
learnt_alike old new later one same is = record {
  kind = is.kind;
  follows = subst (λ (ks : List Kept). Conflict (lits_of ks) (negations one.lits)) same.kept is.follows;
  loops = is.loops ∙ same.loops;
}

loop_alike : (old new later : View) (one : Kept) → IsAlike old new → IsLoopOne new later one → IsLoopOne old later one
loop_alike old new later one same is = record {
  kind = is.kind;
  set = is.set;
  clause = subst (λ (layers : Layers). IsLoopClause layers (among is.set.set.items) is.set.atom one.lits) same.ground is.clause;
  rising = is.rising;
  place = is.place ∙ ap length same.kept;
  loops = is.loops ∙ ap (λ (ls : List LoopSet). ls ++ is.set ∷ []) same.loops;
}

pub one_alike : (old new later : View) (begun : Begun) (id : ClauseId) → IsAlike old new → IsOneMore new later begun id → IsOneMore old later begun id
one_alike old new later begun id same is = record {
  one = is.one;
  number = is.number ∙ ap length same.kept;
  kept = is.kept ∙ ap (λ (ks : List Kept). ks ++ is.one ∷ []) same.kept;
  length = is.length;
  distinct = subst (λ (vars : ℕ). IsTrue (is_clause vars is.one.lits)) same.vars is.distinct;
  came = ⊎_elim (λ l. inl (learnt_alike old new later is.one same l)) (λ l. inr (loop_alike old new later is.one same l)) is.came;
  free = subst (λ (ks : List Kept). Absorbed (lits_of ks) is.one.lits → ⊥) same.kept is.free;
  count = is.count;
}

-- and it cuts the walk
pub added_alike : (old new later : View) (begun : Begun) (id : ClauseId) (budget : Option ℕ) → IsAlike old new → (more : IsOneMore new later begun id) → Allows budget begun.counted → CutsWalk old begun more.one.lits → Steps old later begun budget (steps.Added id)
unfolding one_alike
added_alike old new later begun id budget same more allows cuts = (one_alike old new later begun id same more, allows, cuts)

-- what is said of the length that a search is at
pub at_begun : (P : View → Begun → Type 0) (old now : View) (begun : Begun) → old ≡ now → old.begun ≡ Some begun → P old begun → AtLength now.begun (P now)
at_begun P old now begun same is p = subst (λ (v : View). AtLength v.begun (P v)) same (subst (λ (o : Option Begun). AtLength o (P old)) (sym is) p)
