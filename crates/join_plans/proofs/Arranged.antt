-- Plans by their goals.
use Rattle.std.proofs.Common.{◌≡◌, inl, inr, ℕ, zero, suc, ◌<◌, Bool, true, false, List, [], ◌∷◌, map, length, refl, sym, ap, ◌∙◌, subst, true≢false, ⊎_elim, arith, get_or-set_other}
use Rattle.std.specs.Prelude.{replicate, IsTrue}
use Rattle.std.specs.List.{list_all}
use Rattle.std.proofs.lemmas.Bool.{cases_eq, and_parts}
use Rattle.tel_term.specs.declared.terms.Value.{Value}
use Rattle.join_plans.specs.declared.columns.Column.{Column}
use Rattle.join_plans.specs.declared.columns.Column.TheVariants.{New, Old}
use Rattle.tel_base.specs.Members.{In}
use Rattle.tel_base.proofs.Members.{In-append_left, In-append_right, In-append_cases}
use Rattle.join_plans.specs.Join.{at, place, Step, Row, Equal, Compare, Holds, HoldAll, is_known, learn, learn_all, IsPlan}
use Rattle.join_plans.specs.Atoms.{Arg, Whole, Other, TableAtom, places, after_args, ChecksHold, PlanHolds}
use Rattle.join_plans.specs.Goals.{Goal, IsRow, HasValue, goal_of, IsMet, AreMet, PlansMeetGoals, arg_goals, atom_goals, AtomGoalsAreThePlan, Gives, FoundValuesPass}
use Rattle.join_plans.proofs.Exact.{sound, full, length-learn, length-learn_all}

-- ---- steps and their goals

at_places : (b : List Value) (columns : List Column) → map (λ c. at b (place c)) columns ≡ map (at b) (map place columns)
at_places b [] = refl
at_places b (c ∷ cs) = ap (λ (l : List Value). at b (place c) ∷ l) (at_places b cs)

pub met_from_step : (b : List Value) (step : Step) → Holds step b → IsMet b (goal_of step)
met_from_step b (Row columns rows) h = subst (λ (row : List Value). In row rows) (at_places b columns) h
met_from_step b (Equal column e) h = h
met_from_step b (Compare c) h = h

pub step_from_met : (b : List Value) (step : Step) → IsMet b (goal_of step) → Holds step b
step_from_met b (Row columns rows) h = subst (λ (row : List Value). In row rows) (sym (at_places b columns)) h
step_from_met b (Equal column e) h = h
step_from_met b (Compare c) h = h

pub met_from_all : (b : List Value) (steps : List Step) → HoldAll steps b → AreMet b (map goal_of steps)
met_from_all b [] hold goal there = absurd there
met_from_all b (step ∷ more) hold goal there =
    ⊎_elim (λ (is : goal_of step ≡ goal). subst (λ (g : Goal). IsMet b g) is (met_from_step b step hold.0)) (λ later. met_from_all b more hold.1 goal later) there

pub all_from_met : (b : List Value) (steps : List Step) → AreMet b (map goal_of steps) → HoldAll steps b
all_from_met b [] met = tt
all_from_met b (step ∷ more) met = (step_from_met b step (met (goal_of step) (inl refl)), all_from_met b more (λ goal there. met goal (inr there)))

-- ---- no place is known

none_known : (n v : ℕ) → is_known (replicate n false) v ≡ true → ⊥
none_known zero v h = true≢false (sym h)
none_known (suc n) zero h = true≢false (sym h)
none_known (suc n) (suc v) h = none_known n v h

pub length_none : (n : ℕ) → length (replicate n false) ≡ n
length_none zero = refl
length_none (suc n) = ap suc (length_none n)

pub plans_meet_goals : PlansMeetGoals
plans_meet_goals steps env b plan = (
  (λ found.
      let both = sound steps (replicate (length env) false) env b plan (length_none (length env)) found in
      (both.0.places, met_from_all b steps both.1)),
  (λ met.
      full steps (replicate (length env) false) env b plan
      (record { marks = length_none (length env); places = met.0; same = λ v known. absurd (none_known (length env) v known) })
      (all_from_met b steps met.1)),
)

-- ---- goals of table atoms

args_met : (b : List Value) (k : ℕ) (args : List Arg) → AreMet b (arg_goals k args) → ChecksHold b k args
args_met b k [] met = tt
args_met b k (Whole v ∷ args) met = args_met b k args met
args_met b k (Other e ∷ args) met = (met (HasValue k e) (inl refl), args_met b (suc k) args (λ goal there. met goal (inr there)))

met_args : (b : List Value) (k : ℕ) (args : List Arg) → ChecksHold b k args → AreMet b (arg_goals k args)
met_args b k [] hold goal there = absurd there
met_args b k (Whole v ∷ args) hold goal there = met_args b k args hold goal there
met_args b k (Other e ∷ args) hold goal there =
    ⊎_elim (λ (is : HasValue k e ≡ goal). subst (λ (g : Goal). IsMet b g) is hold.0) (λ later. met_args b (suc k) args hold.1 goal later) there

atoms_met : (b : List Value) (k : ℕ) (atoms : List TableAtom) → AreMet b (atom_goals k atoms) → PlanHolds b k atoms
atoms_met b k [] met = tt
atoms_met b k (atom ∷ more) met = (
  met (IsRow (places k atom.args) atom.rows) (inl refl),
  args_met b k atom.args (λ goal there. met goal (inr (In-append_left goal (arg_goals k atom.args) (atom_goals (after_args k atom.args) more) there))),
  atoms_met b (after_args k atom.args) more (λ goal there. met goal (inr (In-append_right goal (arg_goals k atom.args) (atom_goals (after_args k atom.args) more) there))),
)

met_atoms : (b : List Value) (k : ℕ) (atoms : List TableAtom) → PlanHolds b k atoms → AreMet b (atom_goals k atoms)
met_atoms b k [] hold goal there = absurd there
met_atoms b k (atom ∷ more) hold goal there =
    ⊎_elim (λ (is : IsRow (places k atom.args) atom.rows ≡ goal). subst (λ (g : Goal). IsMet b g) is hold.0)
    (λ later. ⊎_elim (λ own. met_args b k atom.args hold.1 goal own) (λ rest. met_atoms b (after_args k atom.args) more hold.2 goal rest)
    (In-append_cases goal (arg_goals k atom.args) (atom_goals (after_args k atom.args) more) later))
    there

pub atom_goals_are : AtomGoalsAreThePlan
atom_goals_are b k atoms = (atoms_met b k atoms, met_atoms b k atoms)

-- ---- values that pass a test

abbrev Pass : (Value → Bool) → List Bool → List Value → Type 0
Pass test known b = (v : ℕ) → IsTrue (is_known known v) → IsTrue (test (at b v))

pass_learn : (test : Value → Bool) (known : List Bool) (c : Column) (b : List Value) → IsTrue (test (at b (place c))) → Pass test known b → Pass test (learn known c) b
pass_learn test known (Old w) b here pass v is = pass v is
pass_learn test known (New w) b here pass v is = elim (cases_eq v w) [
  | inl same ↦ subst (λ (u : ℕ). IsTrue (test (at b u))) (sym same) here
  | inr apart ↦ pass v (sym (get_or-set_other known w v true false apart) ∙ is)
]

pass_row : (test : Value → Bool) (known : List Bool) (cs : List Column) (b : List Value) → IsTrue (list_all test (map (λ c. at b (place c)) cs)) → Pass test known b → Pass test (learn_all known cs) b
pass_row test known [] b all pass = pass
pass_row test known (c ∷ cs) b all pass =
    pass_row test (learn known c) cs b (and_parts (test (at b (place c))) (list_all test (map (λ d. at b (place d)) cs)) all).1
    (pass_learn test known c b (and_parts (test (at b (place c))) (list_all test (map (λ d. at b (place d)) cs)) all).0 pass)

pass_all : (test : Value → Bool) (known : List Bool) (steps : List Step) (b : List Value) → IsPlan known steps → ((goal : Goal) → In goal (map goal_of steps) → Gives test goal) → HoldAll steps b → Pass test known b
    → (v : ℕ) → v < length known → IsTrue (test (at b v))
pass_all test known [] b plan gives hold pass v less = pass v (plan v less)
pass_all test known (Row cs rows ∷ more) b plan gives hold pass v less =
    pass_all test (learn_all known cs) more b plan.1 (λ goal there. gives goal (inr there)) hold.1
    (pass_row test known cs b (gives (IsRow (map place cs) rows) (inl refl) (map (λ c. at b (place c)) cs) hold.0) pass) v (omega (arith, less, length-learn_all known cs))
pass_all test known (Equal c e ∷ more) b plan gives hold pass v less =
    pass_all test (learn known c) more b plan.2 (λ goal there. gives goal (inr there)) hold.1
    (pass_learn test known c b (gives (HasValue (place c) e) (inl refl) b (at b (place c)) (λ w reads. pass w (plan.0.there w reads)) hold.0) pass) v (omega (arith, less, length-learn known c))
pass_all test known (Compare c ∷ more) b plan gives hold pass v less = pass_all test known more b plan.1 (λ goal there. gives goal (inr there)) hold.1 pass v less

pub found_values_pass : FoundValuesPass
found_values_pass test steps env b plan gives found v less =
    let both = sound steps (replicate (length env) false) env b plan (length_none (length env)) found in
    let long = both.0.places in
    let none = length_none (length env) in
    pass_all test (replicate (length env) false) steps b plan gives both.1 (λ w known. absurd (none_known (length env) w known)) v (omega (arith, less, long, none))
