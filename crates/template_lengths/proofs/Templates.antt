-- The laws of the lengths of a program.
use Rattle.std.proofs.Common.{◌≡◌, ℕ, refl}
use Rattle.tel_rule.specs.Ground.{Ground}
use Rattle.step_module.specs.Modules.{module_of}
use Rattle.stable_models.specs.Values.{is_plain}
use Rattle.stable_models.proofs.SettledModules.{templates_settled}
use Rattle.stable_models.proofs.PlainModules.{templates_apart, templates_plain}
use Rattle.search_laws.proofs.Composing.{modules_composed}
use Rattle.lit_trail.specs.Sound.{holds}
use Rattle.search_laws.proofs.Bases.{visible_is_base}
use Rattle.search_laws.proofs.AllValues.{gaps_are_total}
use Rattle.template_lengths.specs.Laws.{TemplatesAreModules, TemplatesAreComposed, TemplatesAreVisible, TrailsAreTotal}
use Rattle.template_lengths.proofs.Known.{templates_known}
use Rattle.template_lengths.proofs.Ranked.{templates_ranked}

pub templates_modules : TemplatesAreModules
templates_modules program n ground some = record {
  some = some;
  settled = templates_settled program n ground;
  separate = templates_apart program n ground;
  speak = templates_plain program n ground;
  known = templates_known program n ground;
}

pub templates_composed : TemplatesAreComposed
templates_composed program n ground some = modules_composed (module_of program) n (is_plain program) some (templates_settled program n ground) (templates_apart program n ground) (templates_plain program n ground)

pub templates_visible : TemplatesAreVisible
templates_visible program n = refl

pub trails_total : TrailsAreTotal
trails_total program n clauses entries ground some total =
    let ranked = templates_ranked program n ground in
    let base = visible_is_base (module_of program) n clauses (holds entries) some (templates_settled program n ground) total in
    gaps_are_total (module_of program) n (is_plain program) ranked.0 clauses entries (templates_modules program n ground some) ranked.1 base total.ended
