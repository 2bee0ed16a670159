use Rattle.std.proofs.Common.{refl, length, replicate, false}
use Rattle.unfounded_sets.proofs.Answered.{none_holds}
use Rattle.unfounded_sets.proofs.answering.answer.Goals as goal

pub returns-in-None : goal.returns-in-None
returns-in-None c =
    none_holds c.args.ground.now c.args.trail.now.entries (length c.args.found.now) (replicate (length c.args.found.now) false) c.args.found.now refl c.requires.least c.requires.rules c.requires.trail c.in-None.ensures
