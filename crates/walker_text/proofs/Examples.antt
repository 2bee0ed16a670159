-- A worked row.
use Rattle.std.proofs.Common.{◌≡◌, ◌++◌, codes, refl}
use Rattle.std.specs.Fmt.{digits}
use Rattle.walker_text.specs.Walker.{walker_text, walker_lines, ended}

-- the walker with three cells
three_cells : walker_text 3 ≡ codes "#program always.\ncell(1..3).\n#program initial.\nat(1).\n{mark(X)} :- cell(X).\n{x}. {y}.\n:- x, y, not &tel { >> at(3) }.\n:- x, not y, not &tel { >> at(3) }.\n:- not x, y, not &tel { >> at(3) }.\n:- not x, not y, not &tel { >> at(3) }.\n#program dynamic.\nat(X+1) :- 'at(X), cell(X), X < 3.\n#show at/1.\n"
unfolding walker_text walker_lines ended digits
three_cells = refl
