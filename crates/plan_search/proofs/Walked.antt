-- What the stack still finds, turn by turn.
use Rattle.std.proofs.Common.{◌≡◌, ℕ, suc, ◌+◌, ◌<◌, ◌≤◌, Bool, true, false, List, [], ◌∷◌, ◌++◌, map, length, take, drop, replicate, refl, sym, ap, ap₂, ◌∙◌, subst, arith, append_assoc}
use Rattle.std.specs.Prelude.{filter, if◌then◌else◌}
use Rattle.std.specs.Option.{option_copied}
use Rattle.std.proofs.lemmas.List.{append-nil, length-append, map-append, take_all, take-map, take-append-le}
use Rattle.std.proofs.lemmas.List.Elements.{filter-append}
use Rattle.tel_term.specs.declared.terms.Value.{Value}
use Rattle.join_plans.specs.Join.{Step, Row, Equal, Compare, answers, IsPlan}
use Rattle.plan_search.specs.declared.searching.Frame.{Frame}
use Rattle.plan_search.specs.Trying.{tries}
use Rattle.plan_search.specs.Searching.{frame_finds, finds, all_find, kept, marks_at, Rise, turns, frame_tries, all_turns, most_rows, IsEntered, AgreeOn, Turns}
use Rattle.plan_search.proofs.Agreeing.{answers_agree, behind_agree}
use Rattle.plan_search.proofs.Dropping.{drop_past}
use Rattle.plan_search.proofs.Marks.{marks_more, marks_long, plan_from}
use Rattle.plan_search.proofs.Turning.{some_turn}

-- ---- stacks

find-append : (plan : List Step) (env : List Value) (fs gs : List Frame) → all_find plan env (fs ++ gs) ≡ all_find plan env gs ++ all_find plan env fs
find-append plan env [] gs = sym (append-nil (all_find plan env gs))
find-append plan env (f ∷ fs) gs =
    ap (λ (l : List (List Value)). l ++ finds plan env f) (find-append plan env fs gs) ∙ append_assoc (all_find plan env gs) (all_find plan env fs) (finds plan env f)

turns-append : (most : ℕ) (plan : List Step) (fs gs : List Frame) → all_turns most plan (fs ++ gs) ≡ all_turns most plan fs + all_turns most plan gs
turns-append most plan [] gs = omega arith
turns-append most plan (f ∷ fs) gs = omega (arith, turns-append most plan fs gs)

-- ---- levels

rise_less : (m n levels : ℕ) (fs : List Frame) → m ≤ n → Rise n levels fs → Rise m levels fs
rise_less m n levels [] less rise = tt
rise_less m n levels (f ∷ fs) less rise = (omega (arith, less, rise.0), rise.1, rise.2)

last_least : (n levels : ℕ) (fs : List Frame) (frame : Frame) → Rise n levels (fs ++ frame ∷ []) → n ≤ frame.level
last_least n levels [] frame rise = rise.0
last_least n levels (f ∷ fs) frame rise = let later = last_least (suc f.level) levels fs frame rise.2 in omega (arith, later, rise.0)

pub rise_front : (n levels : ℕ) (fs : List Frame) (frame : Frame) → Rise n levels (fs ++ frame ∷ []) → Rise n levels fs
rise_front n levels [] frame rise = tt
rise_front n levels (f ∷ fs) frame rise = (rise.0, rise.1, rise_front (suc f.level) levels fs frame rise.2)

rise_swap : (n levels : ℕ) (fs gs : List Frame) (frame : Frame) → Rise n levels (fs ++ frame ∷ []) → Rise frame.level levels gs → Rise n levels (fs ++ gs)
rise_swap n levels [] gs frame rise new = rise_less n frame.level levels gs rise.0 new
rise_swap n levels (f ∷ fs) gs frame rise new = (rise.0, rise.1, rise_swap (suc f.level) levels fs gs frame rise.2 new)

abbrev UpTo : ℕ → List Frame → Type 0
UpTo level [] = Unit {0}
UpTo level (f ∷ fs) = (f.level ≤ level) × UpTo level fs

front_up_to : (n levels : ℕ) (fs : List Frame) (frame : Frame) → Rise n levels (fs ++ frame ∷ []) → UpTo frame.level fs
front_up_to n levels [] frame rise = tt
front_up_to n levels (f ∷ fs) frame rise =
    let later = last_least (suc f.level) levels fs frame rise.2 in
    (omega (arith, later), front_up_to (suc f.level) levels fs frame rise.2)

-- ---- frames below a level find what they found

frame_agree : (steps : List Step) (known : List Bool) (a b : List Value) (frame : Frame) → IsPlan known steps → AgreeOn known a b → frame_finds steps a frame ≡ frame_finds steps b frame
frame_agree [] known a b frame plan agree = answers_agree [] known a b plan agree
frame_agree (Row cs rows ∷ more) known a b frame plan agree = behind_agree cs more known a b (drop frame.turn (tries rows (option_copied frame.listed))) plan.0 plan.1 agree
frame_agree (Equal c e ∷ more) known a b frame plan agree = answers_agree (Equal c e ∷ more) known a b plan agree
frame_agree (Compare c ∷ more) known a b frame plan agree = answers_agree (Compare c ∷ more) known a b plan agree

agree_below : (known : List Bool) (plan : List Step) (i j : ℕ) (a b : List Value) → i ≤ j → AgreeOn (marks_at known plan j) a b → AgreeOn (marks_at known plan i) a b
agree_below known plan i j a b less agree = record {
  same = λ v is. agree.same v (marks_more known plan i j v less is);
  marks = marks_long known plan i ∙ sym (marks_long known plan j) ∙ agree.marks;
  long = agree.long;
}

all_agree : (known : List Bool) (plan : List Step) (level : ℕ) (a b : List Value) (fs : List Frame) → IsPlan known plan → UpTo level fs → AgreeOn (marks_at known plan level) a b → all_find plan a fs ≡ all_find plan b fs
all_agree known plan level a b [] is up agree = refl
all_agree known plan level a b (f ∷ fs) is up agree =
    ap₂ (λ (x y : List (List Value)). x ++ y) (all_agree known plan level a b fs is up.1 agree)
    (frame_agree (drop f.level plan) (marks_at known plan f.level) a b f (plan_from known plan f.level is) (agree_below known plan f.level level a b up.0 agree))

-- ---- the loop

kept-append : (test : List Value → Bool) (vars : ℕ) (xs ys : List (List Value)) → kept test vars (xs ++ ys) ≡ kept test vars xs ++ kept test vars ys
kept-append test vars xs ys = ap (map (take vars)) (filter-append test xs ys) ∙ map-append (take vars) (filter test xs) (filter test ys)

-- at most one more is kept
pub one_kept : (test : List Value → Bool) (vars most : ℕ) (env : List Value) (found new : List (List Value)) → length found < most → new ≡ found ++ kept test vars (env ∷ []) → length new ≤ most
one_kept test vars most env found new less is =
    let count = ap length is ∙ length-append found (kept test vars (env ∷ [])) in
    elim (test env) as (λ t. length new ≡ length found + length (map (take vars) (if t then env ∷ [] else [])) → length new ≤ most) [
      | true ↦ λ e. omega (arith, e, less)
      | false ↦ λ e. omega (arith, e, less)
    ]
    count

module _ (plan : List Step) (test : List Value → Bool) (vars : ℕ) where
  abbrev pub Whole : List Frame → List Value → List (List Value) → List (List Value) → Type 0
  Whole stack env found all = found ++ kept test vars (all_find plan env stack) ≡ all

  pub begun : (frame : Frame) (env : List Value) → IsEntered plan 0 env frame → Whole (frame ∷ []) env [] (kept test vars (answers plan env))
  begun frame env entered = ap (kept test vars) entered.all

  pub begun_rise : (frame : Frame) (env : List Value) → IsEntered plan 0 env frame → Rise 0 (length plan) (frame ∷ [])
  begun_rise frame env entered = (omega arith, omega (arith, entered.at), tt)

  turned_same : (known : List Bool) (rest pushed : List Frame) (frame : Frame) (old new : List Value) → IsPlan known plan → Rise 0 (length plan) (rest ++ frame ∷ []) → AgreeOn (marks_at known plan frame.level) old new → all_find plan new pushed ≡ finds plan old frame
      → all_find plan new (rest ++ pushed) ≡ all_find plan old (rest ++ frame ∷ [])
  turned_same known rest pushed frame old new is rise agree same =
      find-append plan new rest pushed
      ∙ ap₂ (λ (x y : List (List Value)). x ++ y) same (sym (all_agree known plan frame.level old new rest is (front_up_to 0 (length plan) rest frame rise) agree))
      ∙ sym (find-append plan old rest (frame ∷ []))

  pub turn_whole : (stack rest after : List Frame) (frame : Frame) (old new : List Value) (found all : List (List Value)) → IsPlan (replicate (length old) false) plan → stack ≡ rest ++ frame ∷ [] → Rise 0 (length plan) stack → Turns plan frame old new rest after
      → Whole stack old found all → Whole after new found all
  turn_whole stack rest after frame old new found all is popped rise turns whole =
      ap (λ (l : List (List Value)). found ++ kept test vars l)
      (ap (all_find plan new) turns.is
      ∙ turned_same (replicate (length old) false) rest turns.pushed frame old new is (subst (Rise 0 (length plan)) popped rise) turns.turned.stays turns.turned.same
      ∙ ap (all_find plan old) (sym popped))
      ∙ whole

  pub turn_rise : (stack rest after : List Frame) (frame : Frame) (old new : List Value) → stack ≡ rest ++ frame ∷ [] → Rise 0 (length plan) stack → Turns plan frame old new rest after → Rise 0 (length plan) after
  turn_rise stack rest after frame old new popped rise turns =
      subst (Rise 0 (length plan)) (sym turns.is) (rise_swap 0 (length plan) rest turns.pushed frame (subst (Rise 0 (length plan)) popped rise) turns.turned.rise)

  pub turn_less : (stack rest after : List Frame) (frame : Frame) (old new : List Value) → stack ≡ rest ++ frame ∷ [] → Turns plan frame old new rest after → all_turns (most_rows plan) plan after < all_turns (most_rows plan) plan stack
  turn_less stack rest after frame old new popped turns =
      let most = most_rows plan in
      let one = ap (all_turns most plan) popped in
      let two = turns-append most plan rest (frame ∷ []) in
      let three = ap (all_turns most plan) turns.is in
      let four = turns-append most plan rest turns.pushed in
      omega (arith, one, two, three, four, turns.turned.fewer)

  pub end_whole : (stack rest : List Frame) (frame : Frame) (env : List Value) (found all new : List (List Value)) → length plan ≤ frame.level → stack ≡ rest ++ frame ∷ [] → new ≡ found ++ kept test vars (env ∷ []) → Whole stack env found all → Whole rest env new all
  end_whole stack rest frame env found all new past popped put whole =
      let here : finds plan env frame ≡ env ∷ [] = ap (λ (p : List Step). frame_finds p env frame) (drop_past plan frame.level past) in
      ap (λ (f : List (List Value)). f ++ kept test vars (all_find plan env rest)) put
      ∙ append_assoc found (kept test vars (env ∷ [])) (kept test vars (all_find plan env rest))
      ∙ ap (λ (l : List (List Value)). found ++ l)
      (sym (kept-append test vars (env ∷ []) (all_find plan env rest))
      ∙ ap (kept test vars) (ap (λ (l : List (List Value)). l ++ all_find plan env rest) (sym here) ∙ sym (find-append plan env rest (frame ∷ [])) ∙ ap (all_find plan env) (sym popped)))
      ∙ whole

  pub end_less : (stack rest : List Frame) (frame : Frame) → stack ≡ rest ++ frame ∷ [] → all_turns (most_rows plan) plan rest < all_turns (most_rows plan) plan stack
  end_less stack rest frame popped =
      let most = most_rows plan in
      let one = ap (all_turns most plan) popped in
      let two = turns-append most plan rest (frame ∷ []) in
      omega (arith, one, two, some_turn most (length (drop frame.level plan)) (frame_tries (drop frame.level plan) frame))

  pub end_rise : (stack rest : List Frame) (frame : Frame) → stack ≡ rest ++ frame ∷ [] → Rise 0 (length plan) stack → Rise 0 (length plan) rest
  end_rise stack rest frame popped rise = rise_front 0 (length plan) rest frame (subst (Rise 0 (length plan)) popped rise)

  pub all_walked : (stack : List Frame) (env : List Value) (found all : List (List Value)) → stack ≡ [] → Whole stack env found all → found ≡ all
  all_walked stack env found all empty whole =
      sym (append-nil found) ∙ ap (λ (fs : List Frame). found ++ kept test vars (all_find plan env fs)) (sym empty) ∙ whole

  -- ---- the limit

  pub all_taken : (most : ℕ) (stack : List Frame) (env : List Value) (found from : List (List Value)) → length found ≤ most → stack ≡ [] → Whole stack env found (kept test vars from) → found ≡ map (take vars) (take most (filter test from))
  all_taken most stack env found from few empty whole =
      let is = all_walked stack env found (kept test vars from) empty whole in
      sym (take_all most found few) ∙ ap (take most) is ∙ take-map (take vars) most (filter test from)

  pub most_taken : (most : ℕ) (stack : List Frame) (env : List Value) (found from : List (List Value)) → length found ≤ most → most ≤ length found → Whole stack env found (kept test vars from) → found ≡ map (take vars) (take most (filter test from))
  most_taken most stack env found from few enough whole =
      let rest = kept test vars (all_find plan env stack) in
      sym (take_all most found few) ∙ sym (take-append-le most found rest enough) ∙ ap (take most) whole ∙ take-map (take vars) most (filter test from)
