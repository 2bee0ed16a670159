use Rattle.stable_models.proofs.BodyValues.{bodies_added}
use Rattle.stable_models.proofs.laws.sets_with_bodies.Goals as goal

pub returns : goal.returns
returns c = bodies_added
