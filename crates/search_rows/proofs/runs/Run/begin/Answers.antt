use Rattle.search_rows.proofs.Fits.{visible_fit}
use Rattle.search_rows.proofs.runs.Run.begin.Goals as goal

pub begin-requires-clause-visible : goal.begin-requires-clause-visible
begin-requires-clause-visible c = visible_fit c.args.self.now.space.counts c.args.n c.extend.new.search.vars c.requires.some c.in_ok-extend.ensures
