-- What a listing logs.
use Rattle.std.proofs.Common.{◌≡◌, ℕ, ◌==◌, List, [], ◌∷◌, ◌++◌, map, length, reverse, refl, sym, ap, subst, ◌∙◌, ◌⊎◌, ⊎_elim, append_assoc, append-nil}
use Rattle.std.specs.Prelude.{Option, Some, Result, Ok, Err, OnOk, OnErr, IsTrue, slice_index_or}
use Rattle.std.specs.List.{find}
use Rattle.std.proofs.lemmas.Bool.{cond-true, eq-eqb}
use Rattle.std.proofs.lemmas.List.{reverse-append}
use Rattle.std.proofs.lemmas.Grind.{flat_map-append}
use Rattle.tel_base.specs.Bytes.{Appends, AppendsFront}
use Rattle.tel_base.proofs.Told.{appends-nothing, appends-then, front-then, front-of-whole}
use Rattle.normal_program.specs.Grounds.{Layers}
use Rattle.clause_store.specs.declared.store.ClauseId.{ClauseId}
use Rattle.clause_store.specs.declared.store.ClauseKind.TheVariants as kinds
use Rattle.clause_store.specs.Held.{Held, held_at, is_clause}
use Rattle.clause_store.specs.Closure.{Clause}
use Rattle.normal_program.specs.ModuleClauses.{in_order}
use Rattle.unfounded_sets.specs.LoopClauses.{IsLoopClause, among}
use Rattle.search_laws.specs.Origins.{Kept}
use Rattle.proof_log.specs.declared.line.Line.{Line}
use Rattle.proof_log.specs.declared.line.Line.TheVariants as lines
use Rattle.proof_log.specs.Lines.{line_text}
use Rattle.search_log.specs.declared.fault.ListFault.{ListFault}
use Rattle.search_log.specs.Held.{IsLineOf, AreLines, nothing, more}
use Rattle.search_log.specs.Writing.{log_text, CountsFaults, WritesText}
use Rattle.cdcl_search.specs.declared.loops.LoopSet.{LoopSet}
use Rattle.cdcl_search.specs.declared.steps.Step.{Step}
use Rattle.cdcl_search.specs.declared.steps.Step.TheVariants as steps
use Rattle.cdcl_search.specs.Searches as searches
use Rattle.cdcl_search.specs.Searches.{Begun}
use Rattle.cdcl_search.specs.Steps.{IsLearntOne, IsLoopOne, IsOneMore, IsBlocked, Steps, AtLength, loop_set}
use Rattle.trace_list.specs.declared.stages.Stage.{Stage}
use Rattle.trace_list.specs.declared.stages.Stage.TheVariants as stages
use Rattle.trace_list.specs.Listing.{View, begun_as, Fits, OnEnded, StaysEnded}
use Rattle.trace_list.specs.Seeking.{left, Keeps, Seeks, come, after_step}
use Rattle.trace_list.specs.Reading.{trace_of}
use Rattle.trace_list.specs.Logging.{HasSet, IsLast, HasLast, WritesHeld, OnAdded, WritesStep, ended, ends, Passes, Logs, LogsWhole, LogsFront}
use Rattle.trace_list.proofs.Going.{at_begun, Stepped, stepped}

-- ---- lines in a row

lines_then : (vars : ℕ) (ground : Layers) (a b c : List Kept) (first second : List Line) → AreLines vars ground a b first → AreLines vars ground b c second → AreLines vars ground a c (first ++ second)
lines_then vars ground a b c first second one (nothing _ _ same none) =
    subst (λ (held : List Kept). AreLines vars ground a held (first ++ second)) (sym same) (subst (λ (log : List Line). AreLines vars ground a b log) (sym (append-nil first) ∙ ap (λ (l : List Line). first ++ l) (sym none)) one)
lines_then vars ground a b c first second one (more _ before kept _ earlier line held is rest distinct of) =
    more c before kept (first ++ second) (first ++ earlier) line held (ap (λ (l : List Line). first ++ l) is ∙ sym (append_assoc first earlier (line ∷ []))) (lines_then vars ground a b before first earlier one rest) distinct of

text_then : (first second : List Line) → log_text (first ++ second) ≡ log_text first ++ log_text second
text_then first second = flat_map-append line_text first second

text_one : (line : Line) → log_text (line ∷ []) ≡ line_text line
text_one line = append-nil (line_text line)

-- ---- the line of the end

same_ends : (stage : Stage) (n : ℕ) → ends stage stage n ≡ []
same_ends stages.Seeking n = refl
same_ends stages.Found n = refl
same_ends stages.Complete n = refl
same_ends stages.Spent n = refl

-- what belongs to the one stage belongs to the other
abbrev pub Joins : Stage → Stage → Type 0
Joins old mid = (stage : Stage) (n : ℕ) → ends old stage n ≡ ends mid stage n

pub joins_after : (old mid : Stage) → mid ≡ left old → Joins old mid
joins_after old mid is = subst (λ (s : Stage). Joins old s) (sym is) (each old)
  where
    each : (s : Stage) → Joins s (left s)
    each stages.Seeking other n = refl
    each stages.Found other n = refl
    each stages.Complete other n = refl
    each stages.Spent other n = refl

-- a listing that hasn't ended goes on as one at its beginning
pub joins_open : (old mid : Stage) → old ≡ stages.Seeking → (mid ≡ stages.Seeking) ⊎ (mid ≡ stages.Found) → Joins old mid
joins_open old mid begins is =
    subst (λ (s : Stage). Joins s mid) (sym begins) (⊎_elim (λ e. subst (λ (s : Stage). Joins stages.Seeking s) (sym e) (λ other n. refl)) (λ e. subst (λ (s : Stage). Joins stages.Seeking s) (sym e) (λ other n. refl)) is)

pub joins_seeking : (old mid : View) (before between : searches.View) → mid.stage ≡ stages.Seeking → StaysEnded old before mid between → Joins old.stage mid.stage
joins_seeking old mid before between seeking stays =
    subst (λ (m : Stage). Joins old.stage m) (sym seeking) ((elim (old.stage) as (λ (s : Stage). s ≡ old.stage → OnEnded s ((mid ≡ old) × (between ≡ before)) → Joins s stages.Seeking) [
      | stages.Seeking ↦ λ e p. λ other n. refl
      | stages.Found ↦ λ e p. λ other n. refl
      | stages.Complete ↦ λ e p. absurd (let clash : stages.Seeking ≡ stages.Complete = sym seeking ∙ ap (λ (v : View). v.stage) p.0 ∙ sym e in cc)
      | stages.Spent ↦ λ e p. absurd (let clash : stages.Seeking ≡ stages.Spent = sym seeking ∙ ap (λ (v : View). v.stage) p.0 ∙ sym e in cc)
    ]) refl stays)

-- ---- logs in a row

pub logs_none : (old : View) (before : searches.View) → Logs old before old before []
logs_none old before = record {
  vars = refl;
  ground = refl;
  n = refl;
  clauses = [];
  lines = nothing before.kept [] refl refl;
  whole = sym (same_ends old.stage old.n);
  passes = λ program n start traces ground is. (traces, is);
}

logs_then : (old mid new : View) (before between after : searches.View) (first second : List Line) → Joins old.stage mid.stage → Logs old before mid between first → Logs mid between new after second → Logs old before new after (first ++ second)
logs_then old mid new before between after first second joins one two =
    let no_end : ends old.stage mid.stage old.n ≡ [] = joins mid.stage old.n ∙ same_ends mid.stage old.n in
    let alone : first ≡ one.clauses = one.whole ∙ ap (λ (l : List Line). one.clauses ++ l) no_end ∙ append-nil one.clauses in
    let end : ends mid.stage new.stage mid.n ≡ ends old.stage new.stage old.n = ap (λ (k : ℕ). ends mid.stage new.stage k) one.n ∙ sym (joins new.stage old.n) in
    record {
      vars = two.vars ∙ one.vars;
      ground = two.ground ∙ one.ground;
      n = two.n ∙ one.n;
      clauses = one.clauses ++ two.clauses;
      lines = lines_then before.vars before.ground before.kept between.kept after.kept one.clauses two.clauses one.lines (subst (λ (v : ℕ). AreLines v before.ground between.kept after.kept two.clauses) one.vars (subst (λ (g : Layers). AreLines between.vars g between.kept after.kept two.clauses) one.ground two.lines));
      whole = ap (λ (l : List Line). l ++ second) alone ∙ ap (λ (l : List Line). one.clauses ++ l) (two.whole ∙ ap (λ (l : List Line). two.clauses ++ l) end) ∙ sym (append_assoc one.clauses two.clauses (ends old.stage new.stage old.n));
      passes = λ program n start traces ground is. let come = one.passes program n start traces ground is in two.passes program n start come.0 ground come.1;
    }

pub whole_none : (old : View) (before : searches.View) (bytes : Option (List ℕ)) → LogsWhole old before old before bytes bytes
whole_none old before bytes = ([], logs_none old before, appends-nothing bytes)

pub front_none : (old : View) (before : searches.View) (bytes : Option (List ℕ)) → LogsFront old before bytes bytes
front_none old before bytes = (old, before, [], logs_none old before, front-of-whole bytes bytes [] (appends-nothing bytes))

pub whole_then : (old mid new : View) (before between after : searches.View) (a b c : Option (List ℕ)) → Joins old.stage mid.stage → LogsWhole old before mid between a b → LogsWhole mid between new after b c → LogsWhole old before new after a c
whole_then old mid new before between after a b c joins one two = (
  one.0 ++ two.0,
  logs_then old mid new before between after one.0 two.0 joins one.1 two.1,
  subst (λ (text : List ℕ). Appends a c text) (sym (text_then one.0 two.0)) (appends-then a b c (log_text one.0) (log_text two.0) one.2 two.2),
)

pub front_behind : (old mid : View) (before between : searches.View) (a b c : Option (List ℕ)) → Joins old.stage mid.stage → LogsWhole old before mid between a b → LogsFront mid between b c → LogsFront old before a c
front_behind old mid before between a b c joins one two = (
  two.0,
  two.1,
  one.0 ++ two.2,
  logs_then old mid two.0 before between two.1 one.0 two.2 joins one.1 two.3,
  subst (λ (text : List ℕ). AppendsFront a c text) (sym (text_then one.0 two.2)) (front-then a b c (log_text one.0) (log_text two.2) one.2 two.4),
)

pub front_whole : (old new : View) (before after : searches.View) (a b : Option (List ℕ)) → LogsWhole old before new after a b → LogsFront old before a b
front_whole old new before after a b is = (new, after, is.0, is.1, front-of-whole a b (log_text is.0) is.2)

-- ---- what one line says

-- lines that belong to what was done, and were written or not
pub record Writes {T : Type 0} (result : Result T ListFault) (old : View) (before : searches.View) (new : View) (after : searches.View) (bytes bytes_now : Option (List ℕ)) (faults faults_now : ℕ) : Type 0 where
  pub log : List Line
  pub logs : Logs old before new after log
  pub text : WritesText result (log_text log) bytes bytes_now faults faults_now

pub writes_ok : {T : Type 0} (result : Result T ListFault) (old new : View) (before after : searches.View) (a b : Option (List ℕ)) (f g : ℕ) → Writes result old before new after a b f g → OnOk result (LogsWhole old before new after a b)
writes_ok (Ok done) old new before after a b f g is = (is.log, is.logs, is.text.ok)
writes_ok (Err fault) old new before after a b f g is = tt

pub writes_err : {T : Type 0} (result : Result T ListFault) (old new : View) (before after : searches.View) (a b : Option (List ℕ)) (f g : ℕ) → Writes result old before new after a b f g → OnErr result (LogsFront old before a b)
writes_err (Ok done) old new before after a b f g is = tt
writes_err (Err fault) old new before after a b f g is = (new, after, is.log, is.logs, is.text.err)

-- ---- a step

pub added_last : (before after : searches.View) (begun : Begun) (id : ClauseId) (one : IsOneMore before after begun id) → after.ground ≡ before.ground → after.vars ≡ before.vars → IsLast after id before.kept one.one
added_last before after begun id is same vars = record {
  number = is.number;
  kept = is.kept;
  distinct = subst (λ (v : ℕ). IsTrue (is_clause v is.one.lits)) (sym vars) is.distinct;
  kind = λ of_module. ⊎_elim (λ (learnt : IsLearntOne before after is.one). absurd (let e : kinds.Learnt ≡ kinds.Module = sym learnt.kind ∙ of_module in cc)) (λ (loop : IsLoopOne before after is.one). absurd (let e : kinds.Loop ≡ kinds.Module = sym loop.kind ∙ of_module in cc)) is.came;
  set = λ kind. ⊎_elim (λ (learnt : IsLearntOne before after is.one). absurd (let e : kinds.Learnt ≡ kinds.Loop = sym learnt.kind ∙ kind in cc)) (λ (loop : IsLoopOne before after is.one). record {
    before = before.loops;
    last = loop.set;
    loops = loop.loops;
    place = loop.place ∙ sym is.number;
    rising = loop.rising;
    clause = subst (λ (g : Layers). IsLoopClause g (among loop.set.set.items) loop.set.atom is.one.lits) (sym same) loop.clause;
  }) is.came;
}

-- the one line of a clause that came
logs_one : (old new : View) (before after : searches.View) (one : Kept) (line : Line) → after.ground ≡ before.ground → after.vars ≡ before.vars → new.n ≡ old.n → after.kept ≡ before.kept ++ one ∷ [] → IsTrue (is_clause before.vars one.lits) → ends old.stage new.stage old.n ≡ [] → Passes old before new after → IsLineOf after.ground one line → Logs old before new after (line ∷ [])
logs_one old new before after one line same vars n kept distinct no_end passes is = record {
  vars = vars;
  ground = same;
  n = n;
  clauses = line ∷ [];
  lines = more after.kept before.kept one (line ∷ []) [] line kept refl (nothing before.kept [] refl refl) distinct (subst (λ (g : Layers). IsLineOf g one line) same is);
  whole = ap (λ (l : List Line). line ∷ l) (sym no_end);
  passes = passes;
}

-- the search holds what it held
logs_same : (old new : View) (before after : searches.View) → after.ground ≡ before.ground → after.vars ≡ before.vars → new.n ≡ old.n → after.kept ≡ before.kept → Passes old before new after → Logs old before new after (ends old.stage new.stage old.n)
logs_same old new before after same vars n kept passes = record {
  vars = vars;
  ground = same;
  n = n;
  clauses = [];
  lines = nothing after.kept [] kept refl;
  whole = refl;
  passes = passes;
}

pub step_writes : {T : Type 0} (result : Result T ListFault) (old : View) (before after : searches.View) (step : Step) (a b : Option (List ℕ)) (f g : ℕ) → Fits old before → old.stage ≡ stages.Seeking → after.ground ≡ before.ground → after.vars ≡ before.vars → AtLength before.begun (λ begun. Steps before after begun old.conflicts step) → Seeks old before (record old { stage = after_step step }) after → WritesStep result step old.n after a b f g
    → Writes result old before (record old { stage = after_step step }) after a b f g
step_writes {T} result old before after step a b f g fits stage same vars at seeks =
    let begun = begun_as old.space old.n fits.counted in
    let none : (s : Stage) → ends old.stage s old.n ≡ ended s old.n = λ s. ap (λ (o : Stage). ends o s old.n) stage in
    (elim step as (λ (s : Step). Steps before after begun old.conflicts s → Seeks old before (record old { stage = after_step s }) after → WritesStep result s old.n after a b f g → Writes result old before (record old { stage = after_step s }) after a b f g) [
      | steps.Added id ↦ λ d s w.
          let new : View = record old { stage = stages.Seeking } in
          let last = added_last before after begun id d.0 same vars in
          let held = w before.kept d.0.one last in
          record {
            log = held.line ∷ [];
            logs = logs_one old new before after d.0.one held.line same vars refl d.0.kept d.0.distinct (none stages.Seeking) (sought old new before after s) held.is_line;
            text = subst (λ (text : List ℕ). WritesText result text a b f g) (sym (text_one held.line)) held.writes;
          }
      | steps.Found ↦ λ d s w.
          let new : View = record old { stage = stages.Found } in
          record {
            log = ends old.stage stages.Found old.n;
            logs = logs_same old new before after same vars refl d.0.kept (sought old new before after s);
            text = subst (λ (log : List Line). WritesText result (log_text log) a b f g) (sym (none stages.Found)) w;
          }
      | steps.Closed ↦ λ d s w.
          let new : View = record old { stage = stages.Complete } in
          record {
            log = ends old.stage stages.Complete old.n;
            logs = logs_same old new before after same vars refl d.0.kept (sought old new before after s);
            text = subst (λ (log : List Line). WritesText result (log_text log) a b f g) (sym (none stages.Complete)) (subst (λ (text : List ℕ). WritesText result text a b f g) (sym (text_one (lines.End old.n))) w);
          }
      | steps.Spent ↦ λ d s w.
          let new : View = record old { stage = stages.Spent } in
          record {
            log = ends old.stage stages.Spent old.n;
            logs = logs_same old new before after same vars refl d.0.kept (sought old new before after s);
            text = subst (λ (log : List Line). WritesText result (log_text log) a b f g) (sym (none stages.Spent)) w;
          }
    ]) (at_begun old before fits (λ (one : Begun). Steps before after one old.conflicts step) at) seeks
  where
    sought : (old new : View) (before after : searches.View) → Seeks old before new after → Passes old before new after
    sought old new before after seeks program n start traces ground is = (come new.stage traces (trace_of after.trail.entries new.space.counts new.n), seeks program n start traces ground is)

pub step_last : (old : View) (before after : searches.View) (step : Step) (conflicts : Option ℕ) → conflicts ≡ old.conflicts → Fits old before → after.ground ≡ before.ground → after.vars ≡ before.vars → AtLength before.begun (λ begun. Steps before after begun conflicts step) → OnAdded step (λ id. HasLast after id)
step_last old before after step conflicts budget fits same vars came =
    let at = subst (λ (c : Option ℕ). AtLength before.begun (λ begun. Steps before after begun c step)) budget came in
    let begun = begun_as old.space old.n fits.counted in
    (elim step as (λ (s : Step). Steps before after begun old.conflicts s → OnAdded s (λ id. HasLast after id)) [
      | steps.Added id ↦ λ d. (before.kept, d.0.one, added_last before after begun id d.0 same vars)
      | steps.Found ↦ λ d. tt
      | steps.Closed ↦ λ d. tt
      | steps.Spent ↦ λ d. tt
    ]) (at_begun old before fits (λ (one : Begun). Steps before after one old.conflicts step) at)

-- ---- a trace that is blocked

pub blocked_last : (old : View) (before after : searches.View) (id : ClauseId) → Fits old before → after.vars ≡ before.vars → AtLength before.begun (λ begun. IsBlocked before after begun id) → HasLast after id
blocked_last old before after id fits vars at =
    let b = at_begun old before fits (λ (one : Begun). IsBlocked before after one id) at in (
      before.kept,
      b.one,
      record {
        number = b.number;
        kept = b.kept;
        distinct = subst (λ (v : ℕ). IsTrue (is_clause v b.one.lits)) (sym vars) b.distinct;
        kind = λ of_module. absurd (let e : kinds.Block ≡ kinds.Module = sym b.kind ∙ of_module in cc);
        set = λ kind. absurd (let e : kinds.Block ≡ kinds.Loop = sym b.kind ∙ kind in cc);
      },
    )

pub blocked_writes : {T : Type 0} (result : Result T ListFault) (old : View) (before after : searches.View) (id : ClauseId) (a b : Option (List ℕ)) (f g : ℕ) → Fits old before → old.stage ≡ stages.Found → after.ground ≡ before.ground → after.vars ≡ before.vars → AtLength before.begun (λ begun. IsBlocked before after begun id) → Keeps old before (record old { stage = stages.Seeking }) after
    → ((held : List Kept) (one : Kept) → IsLast after id held one → WritesHeld result after.ground one a b f g) → Writes result old before (record old { stage = stages.Seeking }) after a b f g
unfolding blocked_last
blocked_writes result old before after id a b f g fits stage same vars at keeps writes =
    let new : View = record old { stage = stages.Seeking } in
    let is = at_begun old before fits (λ (one : Begun). IsBlocked before after one id) at in
    let last = blocked_last old before after id fits vars at in
    let held = writes last.0 last.1 last.2 in
    record {
      log = held.line ∷ [];
      logs = logs_one old new before after is.one held.line same vars refl is.kept is.distinct (ap (λ (o : Stage). ends o stages.Seeking old.n) stage) (λ program n start traces ground is. (traces, keeps program n start traces ground is)) held.is_line;
      text = subst (λ (text : List ℕ). WritesText result text a b f g) (sym (text_one held.line)) held.writes;
    }

-- ---- the clause that is held last

last_in : {X Y : Type 0} (f : X → Y) (before : List X) (one : X) (d : Y) → slice_index_or (map f (before ++ one ∷ [])) (length before) d ≡ f one
last_in f [] one d = refl
last_in f (x ∷ xs) one d = last_in f xs one d

abbrev stored_as : Kept → Held
stored_as one = record { kind = one.kind; lits = one.lits }

pub held_last : (search : searches.View) (id : ClauseId) (before : List Kept) (one : Kept) (clauses : List Held) → IsLast search id before one → clauses ≡ map (λ (k : Kept). record { kind = k.kind; lits = k.lits }) search.kept → held_at clauses id.place ≡ record { kind = one.kind; lits = one.lits }
held_last search id before one clauses is same =
    ap (λ (held : List Held). held_at held id.place) (same ∙ ap (map stored_as) is.kept) ∙ ap (λ (k : ℕ). held_at (map stored_as (before ++ one ∷ [])) k) is.number ∙ last_in stored_as before one (record { kind = kinds.Module; lits = [] })

pub set_last : (search : searches.View) (id : ClauseId) (one : Kept) (has : HasSet search id one) → loop_set search.loops id.place ≡ Some has.last
set_last search id one has =
    ap (λ (sets : List LoopSet). loop_set sets id.place) has.loops ∙ ap (λ (sets : List LoopSet). find (λ (s : LoopSet). s.clause == id.place) sets) (reverse-append has.before (has.last ∷ []))
    ∙ cond-true (has.last.clause == id.place) (Some has.last) (find (λ (s : LoopSet). s.clause == id.place) (reverse has.before)) (eq-eqb has.last.clause id.place has.place)

pub held_writes : {T : Type 0} (result : Result T ListFault) (ground : Layers) (one : Kept) (make : Clause → Line) (clause : Clause) (a b : Option (List ℕ)) (f g : ℕ) → clause ≡ one.lits → IsLineOf ground one (make (in_order one.lits)) → WritesText result (line_text (make (in_order clause))) a b f g → WritesHeld result ground one a b f g
held_writes result ground one make clause a b f g same is writes =
    record { line = make (in_order one.lits); is_line = is; writes = subst (λ (lits : Clause). WritesText result (line_text (make (in_order lits))) a b f g) same writes }

-- ---- the listing as it stands in the code

pub stepped_at : (given now : View) (before after : searches.View) (step : Step) (stage : Stage) (conflicts : Option ℕ) → now ≡ given → stage ≡ after_step step → conflicts ≡ given.conflicts → Fits given before → given.stage ≡ stages.Seeking → after.ground ≡ before.ground → after.vars ≡ before.vars → AtLength before.begun (λ begun. Steps before after begun conflicts step)
    → Stepped given before (record now { stage = stage }) after
stepped_at given now before after step stage conflicts is stands budget fits seeking same vars at =
    subst (λ (v : View). Stepped given before (record v { stage = stage }) after) (sym is)
    (subst (λ (s : Stage). Stepped given before (record given { stage = s }) after) (sym stands) (stepped given before after step fits seeking same vars (subst (λ (c : Option ℕ). AtLength before.begun (λ begun. Steps before after begun c step)) budget at)))

pub step_logged : {T : Type 0} (result : Result T ListFault) (given now : View) (before after : searches.View) (step : Step) (stage : Stage) (conflicts : Option ℕ) (a b : Option (List ℕ)) (f g : ℕ) → now ≡ given → stage ≡ after_step step → conflicts ≡ given.conflicts → Fits given before → given.stage ≡ stages.Seeking → after.ground ≡ before.ground → after.vars ≡ before.vars → AtLength before.begun (λ begun. Steps before after begun conflicts step)
    → WritesStep result step given.n after a b f g → Writes result given before (record now { stage = stage }) after a b f g
step_logged result given now before after step stage conflicts a b f g is stands budget fits seeking same vars at writes =
    let steps = subst (λ (c : Option ℕ). AtLength before.begun (λ begun. Steps before after begun c step)) budget at in
    subst (λ (v : View). Writes result given before (record v { stage = stage }) after a b f g) (sym is)
    (subst (λ (s : Stage). Writes result given before (record given { stage = s }) after a b f g) (sym stands) (step_writes result given before after step a b f g fits seeking same vars steps (stepped given before after step fits seeking same vars steps).seeks writes))

pub step_faults : {T : Type 0} (result : Result T ListFault) (step : Step) (n : ℕ) (search : searches.View) (a b : Option (List ℕ)) (f g : ℕ) → OnAdded step (λ id. HasLast search id) → WritesStep result step n search a b f g → CountsFaults result f g
step_faults result (steps.Added id) n search a b f g last writes = (writes last.0 last.1 last.2).writes.faults
step_faults result steps.Found n search a b f g last writes = writes.faults
step_faults result steps.Closed n search a b f g last writes = writes.faults
step_faults result steps.Spent n search a b f g last writes = writes.faults

-- ---- what holds holds of either answer

pub on_ok : {T E P : Type 0} (result : Result T E) → P → OnOk result P
on_ok (Ok x) p = p
on_ok (Err e) p = tt

pub on_err : {T E P : Type 0} (result : Result T E) → P → OnErr result P
on_err (Ok x) p = tt
on_err (Err e) p = p
