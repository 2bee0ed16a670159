-- Rules that wait for variables, as linked lists in one table.
use Rattle.std.specs.Prelude.{◌≡◌, ℕ, suc, ◌≤◌, List, [], ◌∷◌, Option, Some, None, length, reverse, slice_index_or, ◌==◌, if◌then◌else◌}
use Rattle.unfounded_sets.specs.declared.waits.Wait.{Wait}
use Rattle.unfounded_sets.specs.declared.waits.Link.{Link}

-- the waits from a link on, where the links are told last first and numbered from 1
abbrev pub chain : List Link → ℕ → List Wait
chain [] number = []
chain (link ∷ older) number = if number == suc (length older) then link.wait ∷ chain older link.next else chain older number

-- the number of the first link of each variable, and the links
pub record Waiting : Type 0 where
  pub first : List ℕ
  pub links : List Link

abbrev pub waiting_of : List ℕ → List Link → Waiting
waiting_of first links = record { first = first; links = links }

-- what waits for a variable
abbrev pub row : Waiting → ℕ → List Wait
row waiting v = chain (reverse waiting.links) (slice_index_or waiting.first v 0)

-- how many variables there are
abbrev pub vars_in : Waiting → ℕ
vars_in waiting = length waiting.first

-- each link goes on with an earlier one
abbrev pub Earlier : List Link → Type 0
Earlier [] = Unit {0}
Earlier (link ∷ older) = (link.next ≤ length older) × Earlier older

pub record IsLinked (first : List ℕ) (links : List Link) : Type 0 where
  pub firsts : (v : ℕ) → slice_index_or first v 0 ≤ length links
  pub earlier : Earlier (reverse links)

abbrev pub Rows : Type 0
Rows = ℕ → List Wait

-- one more waits for a variable
abbrev pub Adds : ℕ → Wait → Rows → Rows → Type 0
Adds var wait old new = (v : ℕ) → new v ≡ (if v == var then wait ∷ old v else old v)

-- the first one that waits for a variable was taken away, if there is one
abbrev pub Takes : Option Wait → ℕ → Rows → Rows → Type 0
Takes None var old new = (old var ≡ []) × ((v : ℕ) → new v ≡ old v)
Takes (Some wait) var old new = (v : ℕ) → old v ≡ (if v == var then wait ∷ new v else new v)
