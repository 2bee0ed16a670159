use Rattle.rule_goals.proofs.Meant.{row_goals_of}
use Rattle.rule_goals.proofs.Fit.{row_goals_fit}
use Rattle.rule_goals.proofs.body.row_goals.Goals as goal

pub returns-clause-goals : goal.returns-clause-goals
returns-clause-goals g c = λ statements symbols rows tables fits. row_goals_of tables symbols (g.N.TableNumbers.number c.args.numbers.now) statements rows fits c.args.vars c.args.body.now c.in_ok-found.found.places c.in_ok-found.found.goals.items c.in_ok-found.ensures

pub returns-clause-fit : goal.returns-clause-fit
returns-clause-fit g c = λ symbols within. row_goals_fit (g.N.TableNumbers.number c.args.numbers.now) symbols c.args.vars c.args.body.now c.in_ok-found.found.places c.in_ok-found.found.goals.items c.in_ok-found.ensures within
