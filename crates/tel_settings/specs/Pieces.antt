-- What an option says.
use Rattle.std.specs.Prelude.{ℕ, Option}
use Rattle.tel_settings.specs.declared.fields.Stop.{Stop}

pub data Piece : Type 0 where
  -- the least length
  Imin : ℕ → Piece
  -- the greatest length
  Imax : ℕ → Piece
  -- the stop rule
  Istop : Stop → Piece
  -- how many traces are printed of each length at the most
  Models : ℕ → Piece
  -- the budget of conflicts, where there is one
  Conflicts : Option ℕ → Piece
  -- the number of the generated text
  Generate : ℕ → Piece
