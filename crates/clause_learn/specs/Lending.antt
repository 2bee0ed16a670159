-- A scratch after its answer is given up.
use Rattle.std.specs.Prelude.{◌≡◌, ⊤}
use mathlib.Core.Option.{none}
use Rattle.std.specs.Borrow.{MutBor, Fml, follows_so}
use Rattle.clause_learn.specs.Room.{Room}
use Rattle.clause_learn.specs.contracts.learning.Scratch.{the_row}

-- it stays grown to as many variables
abbrev pub StaysGrown : MutBor Room → Fml
StaysGrown scratch = follows_so the_row the_row scratch.ghost_name none (λ _ _. ⊤) (λ after. after.vars ≡ scratch.now.vars)
