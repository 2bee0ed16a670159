-- What the steps of a listing leave.
use Rattle.std.proofs.Common.{◌≡◌, ℕ, suc, ◌+◌, ◌-◌, ◌^◌, ◌<◌, ◌≤◌, List, [], ◌∷◌, ◌++◌, map, reverse, refl, sym, ap, subst, ◌∙◌, ◌⊎◌, ⊎_elim, arith}
use Rattle.std.specs.Prelude.{Option, Some, None}
use Rattle.std.specs.List.{filter}
use Rattle.std.proofs.lemmas.List.{map-append, append-nil}
use Rattle.tel_base.specs.Literals.{negations}
use Rattle.tel_base.proofs.Members.{In, In-append_left}
use Rattle.tel_rule.specs.Ground.{Ground, IsGround}
use Rattle.tel_semantics.specs.Equilibrium.{list_of}
use Rattle.atom_space.specs.Numbers.{Counts, Space, end_at}
use Rattle.normal_program.specs.Grounds.{Layers}
use Rattle.normal_program.specs.StableSets.{Set}
use Rattle.clause_store.specs.declared.store.ClauseId.{ClauseId}
use Rattle.clause_store.specs.declared.store.ClauseKind.{ClauseKind}
use Rattle.clause_store.specs.declared.store.ClauseKind.TheVariants as kinds
use Rattle.clause_store.specs.Held.{is_clause}
use Rattle.clause_store.specs.Closure.{Clause, Conflict}
use Rattle.clause_store.proofs.Counting.{at_most_left}
use Rattle.lit_trail.specs.Unassigned.{visible_below}
use Rattle.formula_unfold.specs.Nodes.{counts_of}
use Rattle.step_module.specs.Modules.{module_of}
use Rattle.stable_models.specs.Values.{is_plain, read_trace}
use Rattle.unfounded_sets.specs.LoopClauses.{IsLoopClause, among}
use Rattle.search_laws.specs.Walks.{IsClosedWalk}
use Rattle.search_laws.specs.Lengths.{Length, length_of}
use Rattle.search_laws.specs.Origins.{Kept, lits_of, OriginBy}
use Rattle.search_laws.specs.Needed.{Needed}
use Rattle.search_laws.specs.Founded.{true_set}
use Rattle.search_laws.specs.Runs.{Run, adds, blocks}
use Rattle.search_laws.proofs.Listing.{found_finds}
use Rattle.search_log.specs.Held.{Came}
use Rattle.search_log.specs.Held as came
use Rattle.cdcl_search.specs.Searches as searches
use Rattle.cdcl_search.specs.Searches.{Begun, clauses_of, ending_of}
use Rattle.cdcl_search.specs.declared.steps.Step.{Step}
use Rattle.cdcl_search.specs.declared.steps.Step.TheVariants as steps
use Rattle.cdcl_search.specs.Steps.{IsOfModules, IsLearntOne, IsLoopOne, IsOneMore, IsBlocked, Allows, IsUsedUp, Steps, AtLength}
use Rattle.template_lengths.proofs.Templates.{templates_modules, templates_composed, templates_visible}
use Rattle.template_lengths.proofs.Ranked.{templates_ranked}
use Rattle.trace_list.specs.declared.stages.Stage.{Stage}
use Rattle.trace_list.specs.declared.stages.Stage.TheVariants as stages
use Rattle.trace_list.specs.declared.stages.Next.{Next}
use Rattle.trace_list.specs.declared.stages.Next.TheVariants as nexts
use Rattle.trace_list.specs.Reading.{trace_of}
use Rattle.trace_list.specs.Lengths.{HasModules, HasLength}
use Rattle.trace_list.specs.Listing.{View, Adds, nothing, counting, blocking, AddsSome, IsWithin, left_of, begun_as, OnFound, Fits, Stands, IsListing, OnEnded, IsFront, GoesOn, StaysEnded, stage_of, ListedIsFront, ListedIsSmall}
use Rattle.trace_list.specs.Seeking.{left, OnSeeking, Keeps, Seeks, come, after_step, Tells}
use Rattle.trace_list.proofs.Models.{same_trace}
use Rattle.trace_list.proofs.Orders.{run_first, first_more, first_listed, closed_listed}
use Rattle.trace_list.proofs.Extending.{run_some, modules_stay}
use Rattle.trace_list.proofs.Falling.{one_fewer, none_more, same_left, some_left}

-- ---- clauses that come

pub adds_then : (a b c : List Kept) (k m : ℕ) → Adds a b k → Adds b c m → Adds a c (m + k)
adds_then a b c k m first (nothing _ _ same is) = subst (λ (held : List Kept). Adds a held (m + k)) (sym same) (subst (λ (j : ℕ). Adds a b j) (omega (arith, is)) first)
adds_then a b c k m first (counting _ before one _ less whole is rest other free) = counting c before one (m + k) (less + k) whole (omega (arith, is)) (adds_then a b before k less first rest) other free
adds_then a b c k m first (blocking _ before one _ whole rest kind) = blocking c before one (m + k) whole (adds_then a b before k m first rest) kind

pub some_then : (a b c : List Kept) → AddsSome a b → AddsSome b c → AddsSome a c
some_then a b c first second = (second.0 + first.0, adds_then a b c first.0 second.0 first.1 second.1)

pub adds_none : (old new : List Kept) → new ≡ old → AddsSome old new
adds_none old new same = (0, nothing new 0 same refl)

-- ---- the length of a search

not_block : (old new : searches.View) (one : Kept) → IsLearntOne old new one ⊎ IsLoopOne old new one → one.kind ≡ kinds.Block → ⊥
not_block old new one came is =
    ⊎_elim (λ (learnt : IsLearntOne old new one). let e : kinds.Learnt ≡ kinds.Block = sym learnt.kind ∙ is in cc) (λ (loop : IsLoopOne old new one). let e : kinds.Loop ≡ kinds.Block = sym loop.kind ∙ is in cc) came

learnt_conflicts : (old new : searches.View) (one : Kept) → IsLearntOne old new one ⊎ IsLoopOne old new one → one.kind ≡ kinds.Learnt → Conflict (clauses_of old) (negations one.lits)
learnt_conflicts old new one came is =
    ⊎_elim (λ (learnt : IsLearntOne old new one). learnt.follows) (λ (loop : IsLoopOne old new one). absurd (let e : kinds.Loop ≡ kinds.Learnt = sym loop.kind ∙ is in cc)) came

module _ (program : Ground) (n : ℕ) (ground : IsGround program) where
  -- the modules of the program are those of the search
  of_program : (search : searches.View) (space : Space) (count : ℕ) → 0 < n → HasModules program n search → space.counts ≡ counts_of program → IsOfModules search (begun_as space n count) (module_of program)
  of_program search space count some has counts =
      let ranked = templates_ranked program n ground in
      record {
        plain = is_plain program;
        modules = templates_modules program n ground some;
        rank = ranked.0;
        ranked = ranked.1;
        ground = sym has.ground;
        visible = templates_visible program n ∙ ap (λ (c : Counts). visible_below c n) (sym counts);
        ending = ap (λ (c : Counts). end_at c (n - 1)) (sym counts);
        held = has.held;
      }

  -- its walk that is found has the trace of the trail
  read_found : (search : searches.View) (space : Space) → 0 < n → space.counts ≡ counts_of program → read_trace program n (true_set (length_of (module_of program) n) search.trail.entries) ≡ trace_of search.trail.entries space.counts n
  read_found search space some counts =
      same_trace program n search.trail.entries (templates_composed program n ground some).visible_heads ∙ ap (λ (c : Counts). trace_of search.trail.entries c n) (sym counts)

  -- ---- one clause more

  modules_one : (old new : searches.View) (one : Kept) → HasModules program n old → new.ground ≡ old.ground → new.vars ≡ old.vars → new.kept ≡ old.kept ++ one ∷ [] → HasModules program n new
  modules_one old new one has same vars kept =
      modules_stay program n old new has same (omega (arith, vars)) (λ clause i.
      subst (λ (held : List Kept). In clause (lits_of held)) (sym kept) (subst (λ (cs : List Clause). In clause cs) (sym (map-append (λ (k : Kept). k.lits) old.kept (one ∷ []))) (In-append_left clause (lits_of old.kept) (one.lits ∷ []) i)))

  origin_of : (old new : searches.View) (one : Kept) → HasModules program n old → one.length ≡ n → IsLearntOne old new one ⊎ IsLoopOne old new one → OriginBy (length_of (module_of program)) (lits_of old.kept) one.kind one.length one.lits
  origin_of old new one has long came =
      ⊎_elim (λ (learnt : IsLearntOne old new one).
      subst (λ (kind : ClauseKind). OriginBy (length_of (module_of program)) (lits_of old.kept) kind one.length one.lits) (sym learnt.kind) learnt.follows) (λ (loop : IsLoopOne old new one).
      subst (λ (kind : ClauseKind). OriginBy (length_of (module_of program)) (lits_of old.kept) kind one.length one.lits) (sym loop.kind) (
        among loop.set.set.items,
        loop.set.atom,
        subst (λ (k : ℕ). IsLoopClause (length_of (module_of program) k).ground (among loop.set.set.items) loop.set.atom one.lits) (sym long) (subst (λ (layers : Layers). IsLoopClause layers (among loop.set.set.items) loop.set.atom one.lits) has.ground loop.clause),
      )) came

  length_one : (old new : searches.View) (begun : Begun) (id : ClauseId) (sets : List Set) → begun.n ≡ n → new.ground ≡ old.ground → new.vars ≡ old.vars → IsOneMore old new begun id → HasLength program n old sets → HasLength program n new sets
  length_one old new begun id sets number same vars is has = record {
    modules = modules_one old new is.one has.modules same vars is.kept;
    run = adds new.kept sets old.kept is.one is.kept has.run (is.length ∙ number) (not_block old new is.one is.came) (origin_of old new is.one has.modules (is.length ∙ number) is.came);
  }

  length_same : (old new : searches.View) (sets : List Set) → new.ground ≡ old.ground → new.vars ≡ old.vars → new.kept ≡ old.kept → HasLength program n old sets → HasLength program n new sets
  length_same old new sets same vars kept has = record {
    modules = modules_stay program n old new has.modules same (omega (arith, vars)) (λ clause i. subst (λ (held : List Kept). In clause (lits_of held)) (sym kept) i);
    run = subst (λ (held : List Kept). Run (length_of (module_of program)) n held sets) (sym kept) has.run;
  }

-- ---- the budget

within_more : (budget : Option ℕ) (count : ℕ) → Allows budget count → IsWithin budget (count + 1)
within_more None count allows = tt
within_more (Some budget) count allows = omega (arith, allows)

used_up : (budget : Option ℕ) (count : ℕ) → IsUsedUp budget count → IsWithin budget count → budget ≡ Some count
used_up None count used within = absurd used
used_up (Some budget) count used within = let same : budget ≡ count = omega (arith, used, within) in ap Some same

-- ---- how many clauses there are

few_at_first : (search : searches.View) → 0 + left_of search ≤ 3 ^ search.vars
few_at_first search =
    let most : left_of search ≤ 3 ^ search.vars = at_most_left search.vars (filter (is_clause search.vars) (reverse (clauses_of search))) in
    omega (arith, most)

few_blocked : (old new : searches.View) (one : Kept) (count : ℕ) → new.vars ≡ old.vars → new.kept ≡ old.kept ++ one ∷ [] → count + left_of old ≤ 3 ^ old.vars → count + left_of new ≤ 3 ^ new.vars
few_blocked old new one count vars kept few =
    let less = none_more old new one vars kept in
    let most : 3 ^ new.vars ≡ 3 ^ old.vars = ap (λ (v : ℕ). 3 ^ v) vars in
    omega (arith, few, less, most)

few_more : (old new : searches.View) (begun : Begun) (id : ClauseId) (count : ℕ) → new.vars ≡ old.vars → IsOneMore old new begun id → count + left_of old ≤ 3 ^ old.vars → count + 1 + left_of new ≤ 3 ^ new.vars
few_more old new begun id count vars is few =
    let less = one_fewer old new begun id vars is in
    let most : 3 ^ new.vars ≡ 3 ^ old.vars = ap (λ (v : ℕ). 3 ^ v) vars in
    omega (arith, few, less, most)

few_same : (old new : searches.View) (count : ℕ) → new.vars ≡ old.vars → new.kept ≡ old.kept → count + left_of old ≤ 3 ^ old.vars → count + left_of new ≤ 3 ^ new.vars
few_same old new count vars kept few =
    let same = same_left old new vars kept in
    let most : 3 ^ new.vars ≡ 3 ^ old.vars = ap (λ (v : ℕ). 3 ^ v) vars in
    omega (arith, few, same, most)

few_counted : (search : searches.View) (count : ℕ) → count + left_of search ≤ 3 ^ search.vars → count < 3 ^ search.vars
few_counted search count few =
    let some = some_left search in
    omega (arith, few, some)

pub listed_is_small : ListedIsSmall
listed_is_small program n start listing search traces is = few_counted search is.fits.counted is.few

-- ---- where a listing stands

stands_at : (program : Ground) (n : ℕ) (start : List Kept) (listing : View) (stage : Stage) (search : searches.View) (count : ℕ) (sets : List Set) (traces : List (List (List ℕ))) → listing.stage ≡ stage → Stands program n start listing listing.stage search count sets traces → Stands program n start listing stage search count sets traces
stands_at program n start listing stage search count sets traces is stands = subst (λ (s : Stage). Stands program n start listing s search count sets traces) is stands

fits_at : (listing : View) (search : searches.View) (stage : Stage) → listing.stage ≡ stage → Fits listing search → OnFound stage (0 < search.trail.level)
fits_at listing search stage is fits = subst (λ (s : Stage). OnFound s (0 < search.trail.level)) is fits.level

-- of which length the search is
pub at_begun : (listing : View) (search : searches.View) (fits : Fits listing search) (P : Begun → Type 0) → AtLength search.begun P → P (begun_as listing.space listing.n fits.counted)
at_begun listing search fits P at = subst (λ (o : Option Begun). AtLength o P) fits.begun at

-- the traces with that of the trail are those of the sets with that of the walk
with_found : (program : Ground) (n : ℕ) (search : searches.View) (space : Space) (sets : List Set) (traces : List (List (List ℕ))) → IsGround program → 0 < n → space.counts ≡ counts_of program → map (read_trace program n) sets ++ trace_of search.trail.entries space.counts n ∷ [] ≡ traces → map (read_trace program n) (sets ++ true_set (length_of (module_of program) n) search.trail.entries ∷ []) ≡ traces
with_found program n search space sets traces ground some counts is =
    let S : Set = true_set (length_of (module_of program) n) search.trail.entries in
    map-append (read_trace program n) sets (S ∷ []) ∙ ap (λ (t : List (List ℕ)). map (read_trace program n) sets ++ t ∷ []) (read_found program n ground search space some counts) ∙ is

-- ---- what was listed is a front

nothing_more : (traces : List (List (List ℕ))) (all : List (List (List ℕ))) → all ≡ traces → IsFront traces all
nothing_more traces all same = ([], same ∙ sym (append-nil traces))

front_at : (program : Ground) (start : List Kept) (listing : View) (search : searches.View) (traces : List (List (List ℕ))) → IsGround program → IsListing program listing.n start listing search traces → IsFront traces (list_of program listing.n)
front_at program start listing search traces ground is =
    let n = listing.n in
    let lengths : ℕ → Length = length_of (module_of program) in
    let some = run_some lengths n search.kept is.sets is.length.run in
    let laid = templates_composed program n ground some in
    let first = run_first lengths n laid search.kept is.sets is.length.run in
    let front = first_listed program n ground some is.sets first in
    (elim (listing.stage) as (λ (stage : Stage). Stands program n start listing stage search is.fits.counted is.sets traces → IsFront traces (list_of program n)) [
      | stages.Seeking ↦ λ same. subst (λ (ts : List (List (List ℕ))). IsFront ts (list_of program n)) same front
      | stages.Found ↦ λ stands.
          let found = stands.0 (module_of program) (of_program program n ground search listing.space is.fits.counted some is.length.modules is.counts) in
          let S : Set = true_set (lengths n) search.trail.entries in
          let finds = found_finds (lengths n) (clauses_of search) found.0 S laid.visible_heads found.1 in
          let more = first_listed program n ground some (is.sets ++ S ∷ []) (first_more lengths n laid search.kept is.sets found.0 S is.length.run first finds) in
          subst (λ (ts : List (List (List ℕ))). IsFront ts (list_of program n)) (with_found program n search listing.space is.sets traces ground some is.counts stands.1) more
      | stages.Complete ↦ λ stands. nothing_more traces (list_of program n) stands.1
      | stages.Spent ↦ λ stands. subst (λ (ts : List (List (List ℕ))). IsFront ts (list_of program n)) stands.0 front
    ]) is.stands

pub listed_is_front : ListedIsFront
listed_is_front program n start listing search traces ground is =
    subst (λ (k : ℕ). IsFront traces (list_of program k)) is.number (front_at program start listing search traces ground (subst (λ (k : ℕ). IsListing program k start listing search traces) (sym is.number) is))

-- ---- the trace that was found is blocked

abbrev pub fits_blocked : (old : View) (before after : searches.View) → after.begun ≡ before.begun → Fits old before → Fits (record old { stage = stages.Seeking }) after
fits_blocked old before after begun fits = record { within = fits.within; counted = fits.counted; begun = begun ∙ fits.begun; level = tt }

blocked_at : (program : Ground) (start : List Kept) (old : View) (before after : searches.View) (id : ClauseId) (traces : List (List (List ℕ))) → old.stage ≡ stages.Found → after.ground ≡ before.ground → after.vars ≡ before.vars → after.begun ≡ before.begun → AtLength before.begun (λ begun. IsBlocked before after begun id) → IsGround program → IsListing program old.n start old before traces → IsListing program old.n start (record old { stage = stages.Seeking }) after traces
blocked_at program start old before after id traces stage same vars begun at ground is =
    let n = old.n in
    let lengths : ℕ → Length = length_of (module_of program) in
    let some = run_some lengths n before.kept is.sets is.length.run in
    let b = at_begun old before is.fits (λ (one : Begun). IsBlocked before after one id) at in
    let stands = stands_at program n start old stages.Found before is.fits.counted is.sets traces stage is.stands in
    let S : Set = true_set (lengths n) before.trail.entries in
    let block = b.blocks stands.0 (module_of program) (of_program program n ground before old.space is.fits.counted some is.length.modules is.counts) in
    record {
      fits = fits_blocked old before after begun is.fits;
      number = refl;
      counts = is.counts;
      sets = is.sets ++ S ∷ [];
      length = record {
        modules = modules_one program n ground before after b.one is.length.modules same vars b.kept;
        run = blocks after.kept (is.sets ++ S ∷ []) before.kept b.one is.sets block.0 S b.kept refl is.length.run b.length b.kind block.1;
      };
      added = blocking after.kept before.kept b.one is.fits.counted b.kept is.added b.kind;
      came = came.blocking after.kept before.kept b.one (is.sets ++ S ∷ []) is.sets block.0 S is.fits.counted b.kept refl is.came b.kind block.1;
      budget = is.budget;
      few = few_blocked before after b.one is.fits.counted vars b.kept is.few;
      stands = with_found program n before old.space is.sets traces ground some is.counts stands.1;
    }

pub keeps_blocked : (old : View) (before after : searches.View) (id : ClauseId) → old.stage ≡ stages.Found → after.ground ≡ before.ground → after.vars ≡ before.vars → after.begun ≡ before.begun → AtLength before.begun (λ begun. IsBlocked before after begun id) → Keeps old before (record old { stage = stages.Seeking }) after
keeps_blocked old before after id stage same vars begun at program n start traces ground is =
    subst (λ (k : ℕ). IsListing program k start (record old { stage = stages.Seeking }) after traces) is.number (blocked_at program start old before after id traces stage same vars begun at ground (subst (λ (k : ℕ). IsListing program k start old before traces) (sym is.number) is))

pub adds_blocked : (old : View) (before after : searches.View) (id : ClauseId) → Fits old before → AtLength before.begun (λ begun. IsBlocked before after begun id) → AddsSome before.kept after.kept
adds_blocked old before after id fits at =
    let b = at_begun old before fits (λ (one : Begun). IsBlocked before after one id) at in
    (0, blocking after.kept before.kept b.one 0 b.kept (nothing before.kept 0 refl refl) b.kind)

-- a listing that stands at no trace stays where it is
pub left_there : (stage : Stage) → (stage ≡ stages.Found → ⊥) → stage ≡ left stage
left_there stages.Seeking other = refl
left_there stages.Found other = absurd (other refl)
left_there stages.Complete other = refl
left_there stages.Spent other = refl

ended_there : (stage : Stage) (P : Type 0) → P → OnEnded stage P
ended_there stages.Complete P p = p
ended_there stages.Spent P p = p
ended_there stages.Seeking P p = tt
ended_there stages.Found P p = tt

pub stays_there : (old : View) (before : searches.View) → StaysEnded old before old before
stays_there old before = ended_there old.stage ((old ≡ old) × (before ≡ before)) (refl, refl)

-- one that stands at a trace, or looks for one, hasn't ended
pub not_ended : (stage : Stage) (P : Type 0) → (stage ≡ stages.Found) ⊎ (stage ≡ stages.Seeking) → OnEnded stage P
not_ended stage P is = ⊎_elim (λ e. subst (λ (s : Stage). OnEnded s P) (sym e) tt) (λ e. subst (λ (s : Stage). OnEnded s P) (sym e) tt) is

pub stays_then : (old mid new : View) (before between after : searches.View) → StaysEnded old before mid between → StaysEnded mid between new after → StaysEnded old before new after
stays_then old mid new before between after first second =
    let Stays : Type 0 = (new ≡ old) × (after ≡ before) in
    (elim (old.stage) as (λ (s : Stage). s ≡ old.stage → OnEnded s ((mid ≡ old) × (between ≡ before)) → OnEnded s Stays) [
      | stages.Seeking ↦ λ e p. tt
      | stages.Found ↦ λ e p. tt
      | stages.Complete ↦ λ e p.
          let q : (new ≡ mid) × (after ≡ between) = subst (λ (s : Stage). OnEnded s ((new ≡ mid) × (after ≡ between))) (ap (λ (v : View). v.stage) p.0 ∙ sym e) second in
          (q.0 ∙ p.0, q.1 ∙ p.1)
      | stages.Spent ↦ λ e p.
          let q : (new ≡ mid) × (after ≡ between) = subst (λ (s : Stage). OnEnded s ((new ≡ mid) × (after ≡ between))) (ap (λ (v : View). v.stage) p.0 ∙ sym e) second in
          (q.0 ∙ p.0, q.1 ∙ p.1)
    ]) refl first

-- ---- a step

pub record Stepped (old : View) (before : searches.View) (new : View) (after : searches.View) : Type 0 where
  pub fits : Fits new after
  pub adds : AddsSome before.kept after.kept
  pub falls : OnSeeking new.stage (left_of after < left_of before)
  pub seeks : Seeks old before new after

listing_step : (program : Ground) (start : List Kept) (old : View) (before after : searches.View) (step : Step) (traces : List (List (List ℕ))) → old.stage ≡ stages.Seeking → after.ground ≡ before.ground → after.vars ≡ before.vars → AtLength before.begun (λ begun. Steps before after begun old.conflicts step) → IsGround program → IsListing program old.n start old before traces
    → IsListing program old.n start (record old { stage = after_step step }) after (come (after_step step) traces (trace_of after.trail.entries old.space.counts old.n))
listing_step program start old before after step traces stage same vars at ground is =
    let n = old.n in
    let c = is.fits.counted in
    let lengths : ℕ → Length = length_of (module_of program) in
    let some = run_some lengths n before.kept is.sets is.length.run in
    let begun = begun_as old.space n c in
    let of = of_program program n ground before old.space c some is.length.modules is.counts in
    let stands = stands_at program n start old stages.Seeking before c is.sets traces stage is.stands in
    (elim step as (λ (s : Step). Steps before after begun old.conflicts s → IsListing program n start (record old { stage = after_step s }) after (come (after_step s) traces (trace_of after.trail.entries old.space.counts n))) [
      | steps.Added id ↦ λ d. record {
        fits = record { within = is.fits.within; counted = c + 1; begun = d.0.count; level = tt };
        number = refl;
        counts = is.counts;
        sets = is.sets;
        length = length_one program n ground before after begun id is.sets refl same vars d.0 is.length;
        added = counting after.kept before.kept d.0.one (c + 1) c d.0.kept (omega arith) is.added (not_block before after d.0.one d.0.came) d.0.free;
        came = came.counting after.kept before.kept d.0.one is.sets (c + 1) c d.0.kept (omega arith) is.came (not_block before after d.0.one d.0.came) (record { cut = d.2 (module_of program) of; free = d.0.free }) (learnt_conflicts before after d.0.one d.0.came);
        budget = within_more old.conflicts c d.1;
        few = few_more before after begun id c vars d.0 is.few;
        stands = stands;
      }
      | steps.Found ↦ λ d. record {
        fits = record { within = is.fits.within; counted = c; begun = d.0.begun ∙ is.fits.begun; level = d.1 };
        number = refl;
        counts = is.counts;
        sets = is.sets;
        length = length_same program n ground before after is.sets same vars d.0.kept is.length;
        added = subst (λ (held : List Kept). Adds start held c) (sym d.0.kept) is.added;
        came = subst (λ (held : List Kept). Came (lengths n) start held is.sets c) (sym d.0.kept) is.came;
        budget = is.budget;
        few = few_same before after c vars d.0.kept is.few;
        stands = (d.2, ap (λ (ts : List (List (List ℕ))). ts ++ trace_of after.trail.entries old.space.counts n ∷ []) stands);
      }
      | steps.Closed ↦ λ d.
          let clash = subst (λ (k : Counts). IsClosedWalk (clauses_of before) (end_at k (n - 1))) is.counts d.1 in
          record {
            fits = record { within = is.fits.within; counted = c; begun = d.0.begun ∙ is.fits.begun; level = tt };
            number = refl;
            counts = is.counts;
            sets = is.sets;
            length = length_same program n ground before after is.sets same vars d.0.kept is.length;
            added = subst (λ (held : List Kept). Adds start held c) (sym d.0.kept) is.added;
            came = subst (λ (held : List Kept). Came (lengths n) start held is.sets c) (sym d.0.kept) is.came;
            budget = is.budget;
            few = few_same before after c vars d.0.kept is.few;
            stands = (stands, closed_listed program n ground some before.kept is.sets is.length.run clash ∙ stands, subst (λ (held : List Kept). IsClosedWalk (lits_of held) (lengths n).ending) (sym d.0.kept) clash);
          }
      | steps.Spent ↦ λ d.
          let more = subst (λ (held : List Kept). Adds start held c) (sym d.0.kept) is.added in
          let few = few_same before after c vars d.0.kept is.few in
          record {
            fits = record { within = is.fits.within; counted = c; begun = d.0.begun ∙ is.fits.begun; level = tt };
            number = refl;
            counts = is.counts;
            sets = is.sets;
            length = length_same program n ground before after is.sets same vars d.0.kept is.length;
            added = more;
            came = subst (λ (held : List Kept). Came (lengths n) start held is.sets c) (sym d.0.kept) is.came;
            budget = is.budget;
            few = few;
            stands = (stands, record { counted = c; budget = used_up old.conflicts c d.1 is.budget; added = more; needed = subst (λ (held : List Kept). Needed (lengths n) (lits_of held)) (sym d.0.kept) (d.2 (module_of program) of); few = few_counted after c few }, refl);
          }
    ]) (at_begun old before is.fits (λ (one : Begun). Steps before after one old.conflicts step) at)

seeks_step : (old : View) (before after : searches.View) (step : Step) → old.stage ≡ stages.Seeking → after.ground ≡ before.ground → after.vars ≡ before.vars → AtLength before.begun (λ begun. Steps before after begun old.conflicts step) → Seeks old before (record old { stage = after_step step }) after
seeks_step old before after step stage same vars at program n start traces ground is =
    let trace = trace_of after.trail.entries old.space.counts old.n in
    subst (λ (k : ℕ). IsListing program k start (record old { stage = after_step step }) after (come (after_step step) traces trace)) is.number (listing_step program start old before after step traces stage same vars at ground (subst (λ (k : ℕ). IsListing program k start old before traces) (sym is.number) is))

pub stepped : (old : View) (before after : searches.View) (step : Step) → Fits old before → old.stage ≡ stages.Seeking → after.ground ≡ before.ground → after.vars ≡ before.vars → AtLength before.begun (λ begun. Steps before after begun old.conflicts step) → Stepped old before (record old { stage = after_step step }) after
stepped old before after step fits stage same vars at =
    let begun = begun_as old.space old.n fits.counted in
    let seeks = seeks_step old before after step stage same vars at in
    (elim step as (λ (s : Step). Steps before after begun old.conflicts s → Seeks old before (record old { stage = after_step s }) after → Stepped old before (record old { stage = after_step s }) after) [
      | steps.Added id ↦ λ d seeks. record {
        fits = record { within = fits.within; counted = fits.counted + 1; begun = d.0.count; level = tt };
        adds = (1, counting after.kept before.kept d.0.one 1 0 d.0.kept refl (nothing before.kept 0 refl refl) (not_block before after d.0.one d.0.came) d.0.free);
        falls = one_fewer before after begun id vars d.0;
        seeks = seeks;
      }
      | steps.Found ↦ λ d seeks. record {
        fits = record { within = fits.within; counted = fits.counted; begun = d.0.begun ∙ fits.begun; level = d.1 };
        adds = adds_none before.kept after.kept d.0.kept;
        falls = tt;
        seeks = seeks;
      }
      | steps.Closed ↦ λ d seeks. record {
        fits = record { within = fits.within; counted = fits.counted; begun = d.0.begun ∙ fits.begun; level = tt };
        adds = adds_none before.kept after.kept d.0.kept;
        falls = tt;
        seeks = seeks;
      }
      | steps.Spent ↦ λ d seeks. record {
        fits = record { within = fits.within; counted = fits.counted; begun = d.0.begun ∙ fits.begun; level = tt };
        adds = adds_none before.kept after.kept d.0.kept;
        falls = tt;
        seeks = seeks;
      }
    ]) (at_begun old before fits (λ (one : Begun). Steps before after one old.conflicts step) at) seeks

-- how far a listing is from its next answer
abbrev pub weight : Stage → ℕ → ℕ
weight stages.Seeking fewer = suc fewer
weight stages.Found fewer = 0
weight stages.Complete fewer = 0
weight stages.Spent fewer = 0

-- ---- the answer

pub keeps_seeks : (old mid new : View) (before between after : searches.View) → Keeps old before mid between → Seeks mid between new after → Seeks old before new after
keeps_seeks old mid new before between after keeps seeks program n start traces ground is = seeks program n start traces ground (keeps program n start traces ground is)

-- behind a step that leaves the listing looking for a trace goes a further one
pub seeks_then : (old mid new : View) (before between after : searches.View) → mid.stage ≡ stages.Seeking → Seeks old before mid between → Seeks mid between new after → Seeks old before new after
seeks_then old mid new before between after stage first second program n start traces ground is =
    let trace = trace_of between.trail.entries mid.space.counts mid.n in
    second program n start traces ground (subst (λ (s : Stage). IsListing program n start mid between (come s traces trace)) stage (first program n start traces ground is))

-- and none where it stands at none
pub seeks_none : (old : View) (before : searches.View) → left old.stage ≡ old.stage → Seeks old before old before
seeks_none old before stays program n start traces ground is =
    let trace = trace_of before.trail.entries old.space.counts old.n in
    (elim (old.stage) as (λ (s : Stage). left s ≡ s → IsListing program n start old before (come s traces trace)) [
      | stages.Seeking ↦ λ e. is
      | stages.Found ↦ λ (e : stages.Seeking ≡ stages.Found). absurd (cc)
      | stages.Complete ↦ λ e. is
      | stages.Spent ↦ λ e. is
    ]) stays

pub goes_on : (old new : View) (before after : searches.View) (next : Next) → Seeks old before new after → Tells new after next → GoesOn old before new after next
goes_on old new before after (nexts.Trace trace) seeks tells program n start traces ground is =
    let here = trace_of after.trail.entries new.space.counts new.n in
    let same : come new.stage traces here ≡ traces ++ trace ∷ [] = ap (λ (s : Stage). come s traces here) tells.0 ∙ ap (λ (t : List (List ℕ)). traces ++ t ∷ []) (sym tells.1) in
    let listing = subst (λ (ts : List (List (List ℕ))). IsListing program n start new after ts) same (seeks program n start traces ground is) in
    (listing, listed_is_front program n start new after (traces ++ trace ∷ []) ground listing)
goes_on old new before after nexts.Complete seeks tells program n start traces ground is =
    let here = trace_of after.trail.entries new.space.counts new.n in
    let listing = subst (λ (s : Stage). IsListing program n start new after (come s traces here)) tells (seeks program n start traces ground is) in
    (listing, (stands_at program n start new stages.Complete after listing.fits.counted listing.sets traces tells listing.stands).1)
goes_on old new before after nexts.Spent seeks tells program n start traces ground is =
    let here = trace_of after.trail.entries new.space.counts new.n in
    let listing = subst (λ (s : Stage). IsListing program n start new after (come s traces here)) tells (seeks program n start traces ground is) in
    (listing, (stands_at program n start new stages.Spent after listing.fits.counted listing.sets traces tells listing.stands).1)

pub told_stage : (listing : View) (search : searches.View) (next : Next) → Tells listing search next → listing.stage ≡ stage_of next
told_stage listing search (nexts.Trace trace) tells = tells.0
told_stage listing search nexts.Complete tells = tells
told_stage listing search nexts.Spent tells = tells

-- ---- the beginning

pub begins_listing : (old : searches.View) (new : searches.View) (space : Space) (n : ℕ) (conflicts : Option ℕ) → n ≤ space.greatest → new.ground ≡ old.ground → new.vars ≡ old.vars → new.kept ≡ old.kept → new.begun ≡ Some (begun_as space n 0) → (program : Ground) → space.counts ≡ counts_of program → HasLength program n old []
    → IsListing program n old.kept (record { space = space; n = n; conflicts = conflicts; stage = stages.Seeking }) new []
begins_listing old new space n conflicts within same vars kept begun program counts has = record {
  fits = record { within = within; counted = 0; begun = begun; level = tt };
  number = refl;
  counts = counts;
  sets = [];
  length = record {
    modules = modules_stay program n old new has.modules same (omega (arith, vars)) (λ clause i. subst (λ (held : List Kept). In clause (lits_of held)) (sym kept) i);
    run = subst (λ (held : List Kept). Run (length_of (module_of program)) n held []) (sym kept) has.run;
  };
  added = nothing new.kept 0 kept refl;
  came = came.nothing new.kept [] 0 kept refl refl;
  budget = (elim conflicts as (λ (o : Option ℕ). IsWithin o 0) [ None ↦ tt | Some budget ↦ omega arith ]);
  few = few_at_first new;
  stands = refl;
}
