use Rattle.tel_term.proofs.Growth.{values-distinct, value-stands, one-value}
use Rattle.tel_term.proofs.laws.values_of_terms.Goals as goal

pub returns-clause-distinct : goal.returns-clause-distinct
returns-clause-distinct c = values-distinct

pub returns-clause-stand : goal.returns-clause-stand
returns-clause-stand c = value-stands

pub returns-clause-one : goal.returns-clause-one
returns-clause-one c = one-value
