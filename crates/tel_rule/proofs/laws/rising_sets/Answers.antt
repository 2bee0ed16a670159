-- The rising set of names: its order, its members, and that they tell it.
use Rattle.std.proofs.Common.{[], refl}
use Rattle.tel_rule.proofs.RisingLaws.{rises-with_names, has_name-rising_set, rising_lists_same}
use Rattle.tel_rule.proofs.laws.rising_sets.Goals as goal

pub returns-clause-rises : goal.returns-clause-rises
returns-clause-rises c names = rises-with_names names [] refl

pub returns-clause-members : goal.returns-clause-members
returns-clause-members c = has_name-rising_set

pub returns-clause-one : goal.returns-clause-one
returns-clause-one c = rising_lists_same
