use Rattle.std.proofs.Common.{◌≤◌, length, sym, ap, subst, ◌∙◌}
use Rattle.std.specs.List.{list_all}
use Rattle.tel_rule.specs.Atoms.{atom_in_range}
use Rattle.tel_rule.specs.Ground.{Ground}
use Rattle.program_theory.specs.Templates.{IsTemplateOf}
use Rattle.program_instances.specs.Gathered.{place_count}
use Rattle.fact_instantiate.specs.Instantiated.{template_width}
use Rattle.fact_instantiate.specs.Shown.{show_by}
use Rattle.fact_instantiate.proofs.Arranged.{instances_long, templated}
use Rattle.fact_instantiate.proofs.instantiating.template_of.Goals as goal

pub build-requires-clause-each : goal.build-requires-clause-each
build-requires-clause-each c =
    ap length c.as_slice-2.ensures ∙ instances_long c.args.program c.args.gathered.live c.requires.gathered.instances ∙ sym (ap length c.as_slice.ensures)

pub show_of-requires : goal.show_of-requires
show_of-requires c =
    let sorted = c.in_ok-sorted.sorted in
    ap (list_all (atom_in_range sorted.symbols)) c.as_slice-4.ensures ∙ c.in_ok-sorted.ensures.sorted.in_range

pub assemble-requires : goal.assemble-requires
assemble-requires c =
    let gathered = c.args.gathered in
    let sorted = c.in_ok-sorted.sorted in
    let said = c.in_ok-sorted.ensures in
    let built = c.in_ok-built.built in
    let made = templated c.args.program gathered.live gathered.atoms sorted.symbols sorted.atoms sorted.numbers c.in_ok-pairs.pairs built.nodes built.instances c.in_ok-show.show c.as_slice.result.now c.as_slice-3.result.now c.as_slice-2.result.now c.requires.ready c.requires.gathered said.grows said.sorted said.members c.in_ok-pairs.ensures c.as_slice.ensures c.as_slice-2.ensures c.in_ok-built.ensures.instances c.in_ok-built.ensures.nodes c.as_slice-3.ensures (c.in_ok-show.ensures ∙ ap (show_by c.as_slice-3.result.now sorted.symbols) c.as_slice-4.ensures) in
    made.ground

pub returns-clause-template : goal.returns-clause-template
returns-clause-template c =
    let gathered = c.args.gathered in
    let sorted = c.in_ok-sorted.sorted in
    let said = c.in_ok-sorted.ensures in
    let built = c.in_ok-built.built in
    let made = templated c.args.program gathered.live gathered.atoms sorted.symbols sorted.atoms sorted.numbers c.in_ok-pairs.pairs built.nodes built.instances c.in_ok-show.show c.as_slice.result.now c.as_slice-3.result.now c.as_slice-2.result.now c.requires.ready c.requires.gathered said.grows said.sorted said.members c.in_ok-pairs.ensures c.as_slice.ensures c.as_slice-2.ensures c.in_ok-built.ensures.instances c.in_ok-built.ensures.nodes c.as_slice-3.ensures (c.in_ok-show.ensures ∙ ap (show_by c.as_slice-3.result.now sorted.symbols) c.as_slice-4.ensures) in
    subst (λ (template : Ground). IsTemplateOf c.args.program gathered.live template) (sym c.assemble.ensures) made.is

pub returns-clause-few : goal.returns-clause-few
returns-clause-few c =
    let gathered = c.args.gathered in
    let sorted = c.in_ok-sorted.sorted in
    let said = c.in_ok-sorted.ensures in
    let built = c.in_ok-built.built in
    let made = templated c.args.program gathered.live gathered.atoms sorted.symbols sorted.atoms sorted.numbers c.in_ok-pairs.pairs built.nodes built.instances c.in_ok-show.show c.as_slice.result.now c.as_slice-3.result.now c.as_slice-2.result.now c.requires.ready c.requires.gathered said.grows said.sorted said.members c.in_ok-pairs.ensures c.as_slice.ensures c.as_slice-2.ensures c.in_ok-built.ensures.instances c.in_ok-built.ensures.nodes c.as_slice-3.ensures (c.in_ok-show.ensures ∙ ap (show_by c.as_slice-3.result.now sorted.symbols) c.as_slice-4.ensures) in
    subst (λ (template : Ground). template_width template ≤ place_count c.args.program.statements gathered.live (length gathered.atoms)) (sym c.assemble.ensures) made.few
