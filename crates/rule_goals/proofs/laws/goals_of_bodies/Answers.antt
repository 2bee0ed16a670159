use Rattle.rule_goals.proofs.Meant.{rule_goals_are}
use Rattle.rule_goals.proofs.laws.goals_of_bodies.Goals as goal

pub returns : goal.returns
returns c = rule_goals_are
