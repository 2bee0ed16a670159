use Rattle.std.proofs.Common.{length}
use Rattle.program_instances.specs.Gathered.{place_count}
use Rattle.fact_instantiate.specs.Instantiated.{most_places, template_width}
use Rattle.fact_instantiate.proofs.PlacesCounted.{times_fewer}
use Rattle.fact_instantiate.proofs.instantiating.instantiate.Goals as goal

pub returns-in-Ok-template_of-clause-template : goal.returns-in-Ok-template_of-clause-template
returns-in-Ok-template_of-clause-template c =
    let gathered = c.in-Ok.gathered in
    let template = c.in-Ok-template_of.template in
    record {
      live = gathered.live;
      is = c.in-Ok-template_of.ensures.template;
      ranges = c.in-Ok.ensures.ranges;
      few = times_fewer c.args.greatest (template_width template) (place_count c.args.program.statements gathered.live (length gathered.atoms)) most_places c.in-Ok-template_of.ensures.few c.in-Ok.ensures.few;
    }
