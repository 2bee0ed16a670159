-- What a stack of frames still finds, and how many turns it takes at most.
use Rattle.std.specs.Prelude.{◌≡◌, ℕ, zero, suc, ◌+◌, ◌<◌, ◌≤◌, Bool, true, false, List, [], ◌∷◌, ◌++◌, map, filter, take, drop, length, replicate}
use Rattle.std.specs.Option.{option_copied}
use Rattle.tel_term.specs.declared.terms.Value.{Value}
use Rattle.join_plans.specs.Join.{at, Step, Row, Equal, Compare, answers, is_known, learn, learn_all}
use Rattle.plan_search.specs.declared.searching.Frame.{Frame}
use Rattle.plan_search.specs.Trying.{tries, all_behind}

-- ---- what is left

-- what a frame still finds, where it stands at the first of these steps
abbrev pub frame_finds : List Step → List Value → Frame → List (List Value)
frame_finds [] env frame = env ∷ []
frame_finds (Row columns rows ∷ more) env frame = all_behind columns more env (drop frame.turn (tries rows (option_copied frame.listed)))
frame_finds (Equal column e ∷ more) env frame = answers (Equal column e ∷ more) env
frame_finds (Compare c ∷ more) env frame = answers (Compare c ∷ more) env

abbrev pub finds : List Step → List Value → Frame → List (List Value)
finds plan env frame = frame_finds (drop frame.level plan) env frame

-- what a stack still finds, the last frame first
abbrev pub all_find : List Step → List Value → List Frame → List (List Value)
all_find plan env [] = []
all_find plan env (frame ∷ more) = all_find plan env more ++ finds plan env frame

-- the first values of those that pass a test
abbrev pub kept : (List Value → Bool) → ℕ → List (List Value) → List (List Value)
kept test vars found = map (take vars) (filter test found)

-- ---- the places that are known at a step

abbrev pub marks_at : List Bool → List Step → ℕ → List Bool
marks_at known steps zero = known
marks_at known [] (suc n) = known
marks_at known (Row columns rows ∷ more) (suc n) = marks_at (learn_all known columns) more n
marks_at known (Equal column e ∷ more) (suc n) = marks_at (learn known column) more n
marks_at known (Compare c ∷ more) (suc n) = marks_at known more n

-- ---- frames

-- the levels rise, from this one on, and none is above the number of steps
abbrev pub Rise : ℕ → ℕ → List Frame → Type 0
Rise least levels [] = Unit {0}
Rise least levels (frame ∷ more) = (least ≤ frame.level) × (frame.level ≤ levels) × Rise (suc frame.level) levels more

-- ---- turns

-- so many times a number
abbrev pub times : ℕ → ℕ → ℕ
times zero n = 0
times (suc count) n = n + times count n

-- how many turns are taken at most with so many steps left and so many rows to try, where no step has more rows than `most`
abbrev pub turns : ℕ → ℕ → ℕ → ℕ
turns most zero count = 1
turns most (suc steps) count = 1 + times count (1 + turns most steps most)

-- how many rows a frame still tries; a step that isn't a row is one
abbrev pub frame_tries : List Step → Frame → ℕ
frame_tries [] frame = 1
frame_tries (Row columns rows ∷ more) frame = length (drop frame.turn (tries rows (option_copied frame.listed)))
frame_tries (Equal column e ∷ more) frame = 1
frame_tries (Compare c ∷ more) frame = 1

abbrev pub frame_turns : ℕ → List Step → Frame → ℕ
frame_turns most steps frame = turns most (length steps) (frame_tries steps frame)

abbrev pub all_turns : ℕ → List Step → List Frame → ℕ
all_turns most plan [] = 0
all_turns most plan (frame ∷ more) = all_turns most plan more + frame_turns most (drop frame.level plan) frame

-- at least the number of rows of each step, and 1
abbrev pub most_rows : List Step → ℕ
most_rows [] = 1
most_rows (Row columns rows ∷ more) = length rows + most_rows more
most_rows (Equal column e ∷ more) = most_rows more
most_rows (Compare c ∷ more) = most_rows more

-- ---- what a turn does

-- a frame at the beginning of a step
pub record IsEntered (plan : List Step) (level : ℕ) (env : List Value) (frame : Frame) : Type 0 where
  pub at : frame.level ≡ level
  pub all : finds plan env frame ≡ answers (drop level plan) env
  pub few : frame_tries (drop level plan) frame ≤ most_rows plan

-- a frame at the beginning of the next step was put on the stack
pub record Opens (plan : List Step) (level : ℕ) (env : List Value) (stack after : List Frame) : Type 0 where
  pub fresh : Frame
  pub is : after ≡ stack ++ fresh ∷ []
  pub entered : IsEntered plan (level + 1) env fresh

-- these have the same values at the known places
pub record AgreeOn (known : List Bool) (a b : List Value) : Type 0 where
  pub same : (v : ℕ) → is_known known v ≡ true → at a v ≡ at b v
  pub marks : length known ≡ length a
  pub long : length a ≡ length b

-- these frames come in the place of one: they find what it finds, in fewer turns, and what was known at its step stays
pub record IsTurned (plan : List Step) (frame : Frame) (old new : List Value) (pushed : List Frame) : Type 0 where
  pub same : all_find plan new pushed ≡ finds plan old frame
  pub stays : AgreeOn (marks_at (replicate (length old) false) plan frame.level) old new
  pub rise : Rise frame.level (length plan) pushed
  pub fewer : all_turns (most_rows plan) plan pushed < frame_turns (most_rows plan) (drop frame.level plan) frame

pub record Turns (plan : List Step) (frame : Frame) (old new : List Value) (stack after : List Frame) : Type 0 where
  pub pushed : List Frame
  pub is : after ≡ stack ++ pushed
  pub turned : IsTurned plan frame old new pushed
