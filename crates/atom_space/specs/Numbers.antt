-- The numbers of the variables of each state: its atoms, its nodes, its bodies, and its end.
use Rattle.std.specs.Prelude.{ℕ, ◌+◌, ◌*◌, ◌^◌, ◌<◌}

pub record Counts : Type 0 where
  pub atoms : ℕ
  pub nodes : ℕ
  pub bodies : ℕ

pub record Space : Type 0 where
  pub counts : Counts
  pub greatest : ℕ

abbrev pub space_of : ℕ → ℕ → ℕ → ℕ → Space
space_of atoms nodes bodies greatest = record { counts = record { atoms = atoms; nodes = nodes; bodies = bodies }; greatest = greatest }

-- how many variables a state has
abbrev pub width : Counts → ℕ
width counts = counts.atoms + counts.nodes + counts.bodies + 1

-- how many variables there are
abbrev pub size : Space → ℕ
size space = (space.greatest + 1) * width space.counts

pub record IsSpace (space : Space) : Type 0 where
  pub small : size space < 2 ^ 31

abbrev pub visible : Counts → ℕ → ℕ → ℕ
visible counts atom t = t * width counts + atom

abbrev pub part : Counts → ℕ → ℕ → ℕ
part counts node t = t * width counts + (counts.atoms + node)

abbrev pub body_at : Counts → ℕ → ℕ → ℕ
body_at counts instance t = t * width counts + (counts.atoms + counts.nodes + instance)

abbrev pub end_at : Counts → ℕ → ℕ
end_at counts t = t * width counts + (counts.atoms + counts.nodes + counts.bodies)
