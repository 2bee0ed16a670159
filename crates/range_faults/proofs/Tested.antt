-- One setting equation after another, in place.
use Rattle.std.proofs.Common.{◌≡◌, ◌∙◌, ◌⊎◌, inl, inr, ℕ, zero, suc, ◌+◌, ◌<◌, ◌≤◌, Bool, true, false, ◌||◌, ◌==◌, List, [], ◌∷◌, drop, length, refl, sym, ap, subst, ⊎_elim, arith}
use Rattle.std.specs.Prelude.{Ok, Err, Option, Some, None, slice_get, slice_set}
use Rattle.std.proofs.lemmas.Bool.{cases_lt, false_from_ne_true, eqb-true}
use Rattle.tel_base.specs.Members.{In}
use Rattle.tel_base.proofs.Members.{In-map, any_found}
use Rattle.tel_term.specs.declared.terms.Value.{Value}
use Rattle.tel_term.specs.declared.arithmetic.EvalFault.{EvalFault}
use Rattle.tel_term.specs.declared.arithmetic.EvalFault.TheVariants.{Undefined, Range}
use Rattle.tel_term.specs.declared.exprs.Expr.{Expr}
use Rattle.tel_term.specs.Arithmetic.{expr_value}
use Rattle.rule_binding.specs.Binding.{Vars, Setting, has}
use Rattle.rule_binding.specs.Closure.{marked}
use Rattle.rule_settings.specs.declared.candidates.Setting as shown
use Rattle.rule_settings.specs.Said.{said, all_said}
use Rattle.live_instances.specs.Reached.{set_by}
use Rattle.plan_order.specs.Goals.{AreBelow}
use Rattle.rule_goals.specs.Said as goals
use Rattle.range_faults.specs.Stops.{Stop, stopped, stop}
use Rattle.range_faults.specs.Testing.{all_agree, stop_agrees, leaves, stop_at, stop_number, behind}

-- ---- lists

some_setting : (a b : Setting) → Some a ≡ Some b → a ≡ b
some_setting a b e = cc

get_said : (settings : List shown.Setting) (n : ℕ) (setting : shown.Setting) → slice_get settings n ≡ Some setting → slice_get (all_said settings) n ≡ Some (said setting)
get_said [] n setting e = absurd cc
get_said (one ∷ settings) zero setting e = let same : one ≡ setting = cc in ap (λ (s : shown.Setting). Some (said s)) same
get_said (one ∷ settings) (suc n) setting e = get_said settings n setting e

drop_at : (settings : List Setting) (n : ℕ) (setting : Setting) → slice_get settings n ≡ Some setting → drop n settings ≡ setting ∷ drop (suc n) settings
drop_at [] n setting e = absurd cc
drop_at (one ∷ settings) zero setting e = ap (λ (s : Setting). s ∷ settings) (some_setting one setting e)
drop_at (one ∷ settings) (suc n) setting e = drop_at settings n setting e

in_at : (settings : List Setting) (n : ℕ) (setting : Setting) → slice_get settings n ≡ Some setting → In setting settings
in_at [] n setting e = absurd cc
in_at (one ∷ settings) zero setting e = inl (some_setting one setting e)
in_at (one ∷ settings) (suc n) setting e = inr (in_at settings n setting e)

-- the next setting equation, and those behind it
pub next_setting : (settings : List shown.Setting) (n : ℕ) (setting : shown.Setting) → slice_get settings n ≡ Some setting → drop n (all_said settings) ≡ said setting ∷ drop (n + 1) (all_said settings)
next_setting settings n setting e =
    let one : suc n ≡ n + 1 = omega arith in
    drop_at (all_said settings) n (said setting) (get_said settings n setting e) ∙ ap (λ (m : ℕ). said setting ∷ drop m (all_said settings)) one

pub var_below : (settings : List shown.Setting) (n : ℕ) (setting : shown.Setting) (count : ℕ) → slice_get settings n ≡ Some setting → AreBelow count (set_by (all_said settings)) → setting.var < count
var_below settings n setting count e below =
    below setting.var (In-map (λ (s : Setting). s.var) (said setting) (all_said settings) (in_at (all_said settings) n (said setting) (get_said settings n setting e)))

-- ---- values

pub goes_on : (exprs : List Expr) (old new : List Value) (setting : Setting) (value : Value) (more : List Setting) → expr_value old setting.value ≡ Ok value → new ≡ slice_set old setting.var value → stop exprs old (setting ∷ more) ≡ stop exprs new more
goes_on exprs old new setting value more is set =
    ap (stopped (Some (record { unset = set_by (setting ∷ more); env = old })) (λ (v : Value). stop exprs (slice_set old setting.var v) more)) is ∙ ap (λ (env : List Value). stop exprs env more) (sym set)

pub stops_here : (exprs : List Expr) (old : List Value) (setting : Setting) (fault : EvalFault) (more : List Setting) → expr_value old setting.value ≡ Err fault → stop exprs old (setting ∷ more) ≡ behind exprs setting more old (Some fault)
stops_here exprs old setting Undefined more is =
    ap (stopped (Some (record { unset = set_by (setting ∷ more); env = old })) (λ (v : Value). stop exprs (slice_set old setting.var v) more)) is
stops_here exprs old setting Range more is =
    ap (stopped (Some (record { unset = set_by (setting ∷ more); env = old })) (λ (v : Value). stop exprs (slice_set old setting.var v) more)) is

-- where the next setting equation has a value
pub one_set : (exprs : List Expr) (settings : List shown.Setting) (n : ℕ) (setting : shown.Setting) (first old new : List Value) (result : Option EvalFault) → slice_get settings n ≡ Some setting
    → stop exprs old (drop n (all_said settings)) ≡ stop exprs first (all_said settings)
    → stop exprs old (said setting ∷ drop (n + 1) (all_said settings)) ≡ behind exprs (said setting) (drop (n + 1) (all_said settings)) new result → result ≡ None
    → stop exprs new (drop (n + 1) (all_said settings)) ≡ stop exprs first (all_said settings)
one_set exprs settings n setting first old new result at so_far goes none =
    let rest = drop (n + 1) (all_said settings) in
    sym (ap (behind exprs (said setting) rest new) none)
    ∙ sym goes
    ∙ sym (ap (stop exprs old) (next_setting settings n setting at))
    ∙ so_far

behind_fault : (exprs : List Expr) (settings : List Setting) (n : ℕ) (setting : Setting) (new : List Value) (fault : EvalFault) → drop n settings ≡ setting ∷ drop (n + 1) settings → behind exprs setting (drop (n + 1) settings) new (Some fault) ≡ stop_at settings new (stop_number fault n)
behind_fault exprs settings n setting new Undefined at = refl
behind_fault exprs settings n setting new Range at = ap (λ (l : List Setting). Some (record { unset = set_by l; env = new })) (sym at)

-- where it has a fault
pub one_stops : (exprs : List Expr) (settings : List shown.Setting) (n : ℕ) (setting : shown.Setting) (first old new : List Value) (result : Option EvalFault) (fault : EvalFault) → slice_get settings n ≡ Some setting
    → stop exprs old (drop n (all_said settings)) ≡ stop exprs first (all_said settings)
    → stop exprs old (said setting ∷ drop (n + 1) (all_said settings)) ≡ behind exprs (said setting) (drop (n + 1) (all_said settings)) new result → result ≡ Some fault
    → stop exprs first (all_said settings) ≡ stop_at (all_said settings) new (stop_number fault n)
one_stops exprs settings n setting first old new result fault at so_far goes some =
    let rest = drop (n + 1) (all_said settings) in
    sym so_far
    ∙ ap (stop exprs old) (next_setting settings n setting at)
    ∙ goes
    ∙ ap (behind exprs (said setting) rest new) some
    ∙ behind_fault exprs (all_said settings) n (said setting) new fault (next_setting settings n setting at)

-- ---- marks

or_next : (a b c : Bool) → ((a || (b || false)) || c) ≡ (a || (b || c))
or_next true b c = refl
or_next false true c = refl
or_next false false c = refl

pub one_mark : (settings : List shown.Setting) (n : ℕ) (setting : shown.Setting) (v : ℕ) (before after : Bool) → slice_get settings n ≡ Some setting → after ≡ (before || has (setting.var ∷ []) v)
    → (after || has (set_by (drop (n + 1) (all_said settings))) v) ≡ (before || has (set_by (drop n (all_said settings))) v)
one_mark settings n setting v before after at is =
    let rest = has (set_by (drop (n + 1) (all_said settings))) v in
    ap (λ (t : Bool). t || rest) is
    ∙ or_next before (setting.var == v) rest
    ∙ ap (λ (l : List Setting). before || has (set_by l) v) (sym (next_setting settings n setting at))

past_marks : (marks : List Bool) (v : ℕ) → length marks ≤ v → marked marks v ≡ false
past_marks [] v past = refl
past_marks (mark ∷ marks) zero past = absurd (omega (arith, past))
past_marks (mark ∷ marks) (suc v) past = past_marks marks v (omega (arith, past))

dropped_vars : (n : ℕ) (settings : List Setting) (v : ℕ) → In v (set_by (drop n settings)) → In v (set_by settings)
dropped_vars zero settings v there = there
dropped_vars (suc n) [] v there = absurd there
dropped_vars (suc n) (one ∷ settings) v there = inr (dropped_vars n settings v there)

all_marks : (settings : List Setting) (n : ℕ) (marks : List Bool) → ((v : ℕ) → v < length marks → marked marks v ≡ has (set_by (drop n settings)) v) → AreBelow (length marks) (set_by settings) → marked marks ≡ has (set_by (drop n settings))
all_marks settings n marks inside below = λ i v. each v i
  where
    each : (v : ℕ) → marked marks v ≡ has (set_by (drop n settings)) v
    each v =
        ⊎_elim (λ (less : v < length marks). inside v less)
        (λ (past : length marks ≤ v).
        past_marks marks v past
        ∙ sym (false_from_ne_true (has (set_by (drop n settings)) v) (λ is.
        let found = any_found (λ (w : ℕ). w == v) (set_by (drop n settings)) is in
        let small = below v (dropped_vars n settings v (subst (λ (w : ℕ). In w (set_by (drop n settings))) (eqb-true found.0 v found.2) found.1)) in
        absurd (omega (arith, past, small)))))
        (cases_lt v (length marks))

-- ---- the test

-- where the setting equations stop at this number
pub agrees_at : (exprs : List Expr) (settings : List Setting) (late : List goals.Said) (env copied after : List Value) (number : ℕ) (result : Option ℕ) (marks : List Bool) (answer : Bool) → copied ≡ env → stop exprs copied settings ≡ stop_at settings after result → result ≡ Some number
    → ((v : ℕ) → v < length marks → marked marks v ≡ has (set_by (drop number settings)) v) → AreBelow (length marks) (set_by settings) → answer ≡ all_agree (marked marks) after late → answer ≡ leaves exprs settings late env
agrees_at exprs settings late env copied after number result marks answer same stops some inside below is =
    is
    ∙ ap (λ (unset : Vars). all_agree unset after late) (all_marks settings number marks inside below)
    ∙ sym (ap (λ (o : Option ℕ). stop_agrees late (stop_at settings after o)) some)
    ∙ sym (ap (stop_agrees late) stops)
    ∙ ap (λ (l : List Value). leaves exprs settings late l) same

pub stops_nowhere : (exprs : List Expr) (settings : List Setting) (late : List goals.Said) (env copied after : List Value) (result : Option ℕ) → copied ≡ env → stop exprs copied settings ≡ stop_at settings after result → result ≡ None → false ≡ leaves exprs settings late env
stops_nowhere exprs settings late env copied after result same stops none =
    sym (ap (λ (o : Option ℕ). stop_agrees late (stop_at settings after o)) none) ∙ sym (ap (stop_agrees late) stops) ∙ ap (λ (l : List Value). leaves exprs settings late l) same
