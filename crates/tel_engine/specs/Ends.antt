-- Which traces the listing of a length prints, and how it ends.
use Rattle.std.specs.Prelude.{◌≡◌, ℕ, ◌+◌, ◌*◌, ◌^◌, ◌<◌, Bool, ◌&&◌, ◌⊎◌, List, ◌++◌, length, take, min, nat_lt, nat_le, Option, Some, if◌then◌else◌}
use Rattle.tel_rule.specs.Ground.{Ground}
use Rattle.tel_semantics.specs.declared.ends.How.{How}
use Rattle.tel_semantics.specs.declared.ends.How.TheVariants.{Complete, Limit, Budget}
use Rattle.tel_semantics.specs.Print.{greatest_count}
use Rattle.atom_space.specs.Numbers.{width}
use Rattle.formula_unfold.specs.Nodes.{counts_of}
use Rattle.tel_engine.specs.declared.ends.LengthEnd.{LengthEnd}

-- the traces that are printed, and how the listing ends
pub record End : Type 0 where
  pub traces : List (List (List ℕ))
  pub how : How

-- so many traces are asked for, where 0 asks for all, and there are as many
abbrev pub is_reached : ℕ → ℕ → Bool
is_reached models count = nat_lt 0 models && nat_le models count

-- the end of a listing of these traces that no budget cuts: the first ones, as many as are asked for, or all
abbrev pub whole_end : List (List (List ℕ)) → ℕ → End
whole_end all models = if is_reached models (length all) then record { traces = take models all; how = Limit } else record { traces = all; how = Complete }

-- fewer traces than are asked for
abbrev pub IsFewer : ℕ → ℕ → Type 0
IsFewer models count = (models ≡ 0) ⊎ (count < models)

-- a budget below `most` was used up: a front of the traces is printed, which are fewer than are asked for
pub record IsCut (all : List (List (List ℕ))) (models : ℕ) (conflicts : Option ℕ) (most : ℕ) (end : End) : Type 0 where
  pub budget : ℕ
  pub given : conflicts ≡ Some budget
  pub small : budget < most
  pub how : end.how ≡ Budget
  pub rest : List (List (List ℕ))
  pub front : (whole_end all models).traces ≡ end.traces ++ rest
  pub fewer : IsFewer models (length end.traces)

-- an end of the listing of these traces, of which so many are asked for, with this budget of conflicts, which cuts it only below `most`
abbrev pub IsEnd : List (List (List ℕ)) → ℕ → Option ℕ → ℕ → End → Type 0
IsEnd all models conflicts most end = (end ≡ whole_end all models) ⊎ IsCut all models conflicts most end

-- as many clauses as there are over the variables of n + 1 states
unfoldable pub most_counted : Ground → ℕ → ℕ
most_counted program n = 3 ^ ((n + 1) * width (counts_of program))

-- what is answered of an end: how it ended, and how many traces were printed, up to the greatest count
pub record Tells (end : End) (answer : LengthEnd) : Type 0 where
  pub how : answer.how ≡ end.how
  pub traces : answer.traces ≡ min (length end.traces) greatest_count
