use Rattle.template_lengths.proofs.Templates.{templates_modules, templates_composed, templates_visible}
use Rattle.template_lengths.proofs.Ranked.{templates_ranked}
use Rattle.template_lengths.proofs.laws.composed_templates.Goals as goal

pub returns-clause-modules : goal.returns-clause-modules
returns-clause-modules c = templates_modules

pub returns-clause-ranked : goal.returns-clause-ranked
returns-clause-ranked c = templates_ranked

pub returns-clause-composed : goal.returns-clause-composed
returns-clause-composed c = templates_composed

pub returns-clause-visible : goal.returns-clause-visible
returns-clause-visible c = templates_visible
