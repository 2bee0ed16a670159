-- How far the scan for supported variables has come.
use Rattle.std.specs.Prelude.{◌≡◌, ℕ, ◌+◌, ◌<◌, ◌≤◌, Bool, true, false, not, ◌&&◌, ◌||◌, List, [], ◌∷◌, ◌++◌, None, length, replicate, take, slice_index_or, slice_set, IsTrue, ◌⊎◌, if◌then◌else◌}
use Rattle.tel_base.specs.Members.{In}
use Rattle.normal_program.specs.declared.rules.NRule.{NRule}
use Rattle.normal_program.specs.Grounds.{Layers}
use Rattle.normal_program.specs.StableSets.{Set}
use Rattle.lit_trail.specs.declared.assignment.Entry.{Entry}
use Rattle.unfounded_sets.specs.declared.waits.Wait.{Wait}
use Rattle.unfounded_sets.specs.declared.supported.Support.{Support}
use Rattle.unfounded_sets.specs.Unfounded.{is_off, head_in}
use Rattle.unfounded_sets.specs.LoopClauses.{among}
use Rattle.unfounded_sets.specs.Least.{wanted_below, all_of, at, LeastFrom, missing}
use Rattle.unfounded_sets.specs.Waiting.{Rows, row, vars_in}

abbrev pub no_rule : NRule
no_rule = record { head = None; choice = false; pos = []; neg = []; body = None }

abbrev pub rule_at : List NRule → ℕ → NRule
rule_at rules number = slice_index_or rules number no_rule

-- whether a rule may support its head: its body isn't false, and its head is wanted
abbrev pub is_live : List Entry → Set → NRule → Bool
is_live entries wanted rule = not (is_off entries rule) && head_in wanted rule.head

-- the variables that were found, those of them whose waiting rules weren't looked at again, and what waits
pub record State : Type 0 where
  pub found : List Bool
  pub fresh : List ℕ
  pub row : Rows
  pub vars : ℕ

abbrev pub state_of : Support → State
state_of support = record { found = support.found.items; fresh = support.fresh.items; row = row support.waits; vars = vars_in support.waits }

-- the wanted atoms of a rule that may support its head are found up to a place
pub record IsWait (layers : Layers) (entries : List Entry) (bound : ℕ) (found : List Bool) (wait : Wait) : Type 0 where
  pub within : wait.rule < length layers.rules
  pub live : IsTrue (is_live entries (wanted_below layers entries bound) (rule_at layers.rules wait.rule))
  pub short : wait.place ≤ length (rule_at layers.rules wait.rule).pos
  pub passed : IsTrue (all_of (wanted_below layers entries bound) (at found) (take wait.place (rule_at layers.rules wait.rule).pos))

-- what the scan keeps
pub record IsScan (layers : Layers) (entries : List Entry) (bound : ℕ) (state : State) : Type 0 where
  pub least : LeastFrom layers.rules entries (wanted_below layers entries bound) (replicate bound false) state.found
  pub waits : (v : ℕ) (wait : Wait) → In wait (state.row v) → IsWait layers entries bound state.found wait
  pub fresh_found : (v : ℕ) → IsTrue (among state.fresh v) → IsTrue (at state.found v)
  pub long : length state.found ≡ bound
  pub wide : state.vars ≡ bound

-- what is still to be looked at: more, and what is fresh
abbrev pub is_busy : Set → List ℕ → Set
is_busy more fresh v = more v || among fresh v

-- a rule waits for one of its wanted atoms, which isn't found or is still to be looked at
pub record IsWaiting (layers : Layers) (entries : List Entry) (bound : ℕ) (more : Set) (state : State) (number : ℕ) : Type 0 where
  pub var : ℕ
  pub wait : Wait
  pub there : In wait (state.row var)
  pub of_rule : wait.rule ≡ number
  pub has : In var (rule_at layers.rules number).pos
  pub want : IsTrue (wanted_below layers entries bound var)
  pub blocked : IsTrue (not (at state.found var) || is_busy more state.fresh var)

-- its head is found, or it waits
abbrev pub IsServed : Layers → List Entry → ℕ → Set → State → ℕ → Type 0
IsServed layers entries bound more state number =
    IsTrue (head_in (at state.found) (rule_at layers.rules number).head) ⊎ IsWaiting layers entries bound more state number

-- the rules below a number that may support their heads are served
abbrev pub AreServed : Layers → List Entry → ℕ → Set → ℕ → State → Type 0
AreServed layers entries bound more count state =
    (number : ℕ) → number < count → IsTrue (is_live entries (wanted_below layers entries bound) (rule_at layers.rules number)) → IsServed layers entries bound more state number

abbrev pub none : Set
none v = false

-- what a step does: it serves its rule, keeps what was served, and lets the work that is left not grow
pub record IsStep (layers : Layers) (entries : List Entry) (bound : ℕ) (number : ℕ) (old new : State) : Type 0 where
  pub serves : (more : Set) → IsServed layers entries bound more new number
  pub keeps : (more : Set) (other : ℕ) → IsServed layers entries bound more old other → IsServed layers entries bound more new other
  pub work : missing new.found + length new.fresh ≤ missing old.found + length old.fresh
  pub grows : (v : ℕ) → IsTrue (at old.found v) → IsTrue (at new.found v)
  pub stays : (v : ℕ) → IsTrue (at old.found v) → new.row v ≡ old.row v

-- how a head is taken in
abbrev pub found_with : List Bool → ℕ → List Bool
found_with found head = if at found head then found else slice_set found head true

abbrev pub fresh_with : List Bool → List ℕ → ℕ → List ℕ
fresh_with found fresh head = if at found head then fresh else fresh ++ head ∷ []
