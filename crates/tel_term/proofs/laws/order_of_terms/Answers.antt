use Rattle.tel_term.proofs.Ordered.{terms-total, terms-level, values-total, values-level}
use Rattle.tel_term.proofs.laws.order_of_terms.Goals as goal

pub returns-clause-terms : goal.returns-clause-terms
returns-clause-terms c = terms-total

pub returns-clause-level : goal.returns-clause-level
returns-clause-level c = terms-level

pub returns-clause-values : goal.returns-clause-values
returns-clause-values c = values-total

pub returns-clause-level_values : goal.returns-clause-level_values
returns-clause-level_values c = values-level
