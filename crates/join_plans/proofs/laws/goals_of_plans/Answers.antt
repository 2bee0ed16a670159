use Rattle.join_plans.proofs.Arranged.{atom_goals_are, found_values_pass, plans_meet_goals}
use Rattle.join_plans.proofs.laws.goals_of_plans.Goals as goal

pub returns : goal.returns
returns c = record { met = plans_meet_goals; atoms = atom_goals_are; pass = found_values_pass }
