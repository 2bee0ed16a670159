-- What the end of a walk along a trail says of the walk.
use Rattle.std.proofs.Common.{◌≡◌, ℕ, zero, suc, ◌<◌, ◌≤◌, List, [], ◌∷◌, sym, ap, subst, ◌∙◌, inl, inr, ⊎_elim, arith}
use Rattle.std.specs.Prelude.{None}
use Rattle.std.specs.List.{find}
use Rattle.std.proofs.lemmas.Bool.{cases_order}
use Rattle.tel_base.specs.declared.literals.Lit.{Lit}
use Rattle.tel_base.specs.Literals.{lit_of}
use Rattle.tel_base.specs.Members.{In}
use Rattle.atom_space.specs.Numbers.{Space}
use Rattle.clause_store.specs.declared.store.ClauseId.{ClauseId}
use Rattle.clause_store.specs.Closure.{Clause, Up, Conflict, IsClosure}
use Rattle.clause_store.proofs.Closures.{up_start, up_grows}
use Rattle.normal_program.specs.ModuleClauses.{no_lit}
use Rattle.lit_trail.specs.declared.assignment.Entry.{Entry}
use Rattle.lit_trail.specs.Entries.{View, back}
use Rattle.lit_trail.specs.Levels.{AreLevels, AreOpened}
use Rattle.lit_trail.specs.Sound.{holds, decided_lits, IsClosedTrail, IsSound}
use Rattle.lit_trail.specs.Unassigned.{is_open, first_open}
use Rattle.lit_trail.proofs.Derived.{decided_up}
use Rattle.lit_trail.proofs.LevelSteps.{back_all}
use Rattle.watch_propagate.specs.Propagation.{IsFalseClause}
use Rattle.search_laws.specs.Lengths.{Length}
use Rattle.search_laws.specs.Levels.{AreDecisions, IsWalking}
use Rattle.search_laws.proofs.TrailLevels.{none_decided, decided_cases, next_decided, levels_are_total, levels_are_stuck}
use Rattle.trail_walk.specs.declared.walking.Walked.TheVariants as outcomes
use Rattle.trail_walk.specs.Ways.{IsDerived, IsEnded, IsOnWay, Spans, WalkEnds}
use Rattle.trail_walk.proofs.WaySteps.{false_conflict}

-- with a further closed level
closed_up_to : (clauses : List Clause) (trail : View) (level : ℕ) → IsSound clauses trail → AreLevels trail.level trail.entries → IsClosedTrail clauses trail.entries → level ≤ trail.level → IsClosedTrail clauses (back level trail.entries)
closed_up_to clauses trail level sound levels closed l =
    ⊎_elim (λ (e : level ≡ trail.level). subst (IsClosedTrail clauses) (sym (back_all trail.entries trail.level level levels (omega (arith, e)))) closed) (λ ne. ⊎_elim (λ (m : level < trail.level). sound.below level m) (λ (m : trail.level < level). absurd (omega (arith, m, l))) ne) (cases_order level trail.level)

-- a closed trail on its way is a walk
pub walking : (clauses : List Clause) (length : Length) (trail : View) → IsSound clauses trail → AreLevels trail.level trail.entries → AreOpened trail.entries → IsClosedTrail clauses trail.entries → (way : IsOnWay length trail) → IsWalking length clauses trail.entries way.last way.decisions
walking clauses length trail sound levels opened closed way =
    let at = way.level in
    record {
      levels = (trail.level, levels);
      opened = opened;
      ended = way.ended.holds_there;
      first = way.ended.first;
      closed = λ level low high. closed_up_to clauses trail level sound levels closed (omega (arith, high, at));
      decided = way.decided;
    }

-- where no visible variable is without a value, the walk is total
pub total_end : (clauses : List Clause) (length : Length) (space : Space) (n : ℕ) (trail : View) → Spans space n length → IsSound clauses trail → AreLevels trail.level trail.entries → AreOpened trail.entries → IsClosedTrail clauses trail.entries → first_open trail.entries space n ≡ None → IsOnWay length trail → WalkEnds clauses length trail outcomes.Total
total_end clauses length space n trail spans sound levels opened closed none way =
    let at = way.level in
    let all : back (suc way.last) trail.entries ≡ trail.entries = back_all trail.entries trail.level (suc way.last) levels (omega (arith, at)) in
    let open_none : find (is_open (back (suc way.last) trail.entries)) length.visible ≡ None = ap (λ (es : List Entry). find (is_open es) length.visible) all ∙ ap (λ (vs : List ℕ). find (is_open trail.entries) vs) spans ∙ none in
    let end = levels_are_total length clauses trail.entries way.last way.decisions (walking clauses length trail sound levels opened closed way) open_none in
    (way.decisions, end.0, subst (λ (es : List Entry). IsClosure clauses way.decisions (holds es)) all end.1)

-- where a clause is false, it is closed at level 1, and stuck above
conflict_at : (clauses : List Clause) (length : Length) (trail : View) (id : ClauseId) → IsSound clauses trail → AreLevels trail.level trail.entries → AreOpened trail.entries → IsFalseClause clauses trail.entries id → IsEnded (lit_of length.ending) trail → (m : ℕ) → trail.level ≡ suc m → (decisions : List Lit) → AreDecisions length trail.entries m decisions → WalkEnds clauses length trail (outcomes.Conflict id)
conflict_at clauses length trail id sound levels opened clash ended zero at decisions decided =
    let end = lit_of length.ending in
    let all : back 1 trail.entries ≡ trail.entries = back_all trail.entries trail.level 1 levels (omega (arith, at)) in
    let has : (lit : Lit) → In lit (decided_lits trail.entries) → Up clauses (end ∷ []) lit = λ lit i.
    ⊎_elim (λ low. absurd (none_decided trail.level trail.entries lit levels opened low)) (λ is. up_start clauses (end ∷ []) lit (inl (ended.first lit is))) (decided_cases 0 trail.level trail.entries lit levels opened (subst (λ (es : List Entry). In lit (decided_lits es)) (sym all) i)) in
    inl (at, false_conflict clauses trail.entries (end ∷ []) id sound.reasons clash has)
conflict_at clauses length trail id sound levels opened clash ended (suc m) at decisions decided =
    let v = decided.0 in
    let older = decided.1 in
    let all : back (suc (suc m)) trail.entries ≡ trail.entries = back_all trail.entries trail.level (suc (suc m)) levels (omega (arith, at)) in
    let lower : IsWalking length clauses trail.entries m older = record {
      levels = (trail.level, levels);
      opened = opened;
      ended = ended.holds_there;
      first = ended.first;
      closed = λ level low high. sound.below level (omega (arith, high, at));
      decided = decided.5;
    } in
    let conflict : Conflict clauses (decided_lits trail.entries) = false_conflict clauses trail.entries (decided_lits trail.entries) id sound.reasons clash (λ lit i. up_start clauses (decided_lits trail.entries) lit i) in
    let decided_there : (lit : Lit) → In lit (decided_lits trail.entries) → Up clauses (no_lit v ∷ older) lit = λ lit i. next_decided length clauses trail.entries m v older lower decided.3 lit (subst (λ (es : List Entry). In lit (decided_lits es)) (sym all) i) in
    let derived : IsDerived clauses (no_lit v ∷ older) trail.entries = λ lit h. up_grows clauses clauses (decided_lits trail.entries) (no_lit v ∷ older) (λ c i. i) decided_there lit (decided_up clauses trail.entries sound.reasons lit h) in
    inr (omega (arith, at), (no_lit v ∷ older, levels_are_stuck length clauses trail.entries m v older lower decided.2 decided.3 (subst (λ (es : List Entry). Conflict clauses (decided_lits es)) (sym all) conflict), derived))

pub conflict_end : (clauses : List Clause) (length : Length) (trail : View) (id : ClauseId) → IsSound clauses trail → AreLevels trail.level trail.entries → AreOpened trail.entries → IsFalseClause clauses trail.entries id → IsOnWay length trail → WalkEnds clauses length trail (outcomes.Conflict id)
conflict_end clauses length trail id sound levels opened clash way = conflict_at clauses length trail id sound levels opened clash way.ended way.last way.level way.decisions way.decided
