use Rattle.trace_list.proofs.Going.{begins_listing}
use Rattle.trace_list.proofs.listing.Listing.begin.Goals as goal

pub returns-clause-listing : goal.returns-clause-listing
returns-clause-listing g c =
    let began = c.begin.ensures in
    begins_listing c.args.search.now c.begin.new.self c.args.space c.args.n c.args.conflicts c.requires.within began.ground began.vars began.kept began.begun
