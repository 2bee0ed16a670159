use Rattle.std.proofs.Common.{sym}
use Rattle.plan_search.proofs.Terms.{known_value}
use Rattle.plan_search.proofs.comparing.compares.Goals as goal

pub cmp-requires-clause-first : goal.cmp-requires-clause-first
cmp-requires-clause-first c = known_value _ _ _ _ c.requires.env c.requires.left (sym c.in-Ok.ensures)

pub cmp-requires-clause-second : goal.cmp-requires-clause-second
cmp-requires-clause-second c = known_value _ _ _ _ c.requires.env c.requires.right (sym c.in-Ok-eval.ensures)
