use Rattle.std.proofs.Common.{rules}
use Rattle.telingo_cli.proofs.Fronts.{front_more}
use Rattle.telingo_cli.proofs.reading.read_piece.Goals as goal

pub returns-in-Ok-extend_from_slice-clause-front :
    goal.returns-in-Ok-extend_from_slice-clause-front
returns-in-Ok-extend_from_slice-clause-front g c =
    rw c.in-Ok-extend_from_slice.ensures.items
    (front_more _ _ _ c.len-from.result _ (search rules) c.requires.front c.in-Ok.ensures.room c.in-Ok.ensures.bytes)
