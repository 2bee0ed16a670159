use Rattle.std.proofs.Common.{◌∙◌, ap, sym, ◌++◌, ◌∷◌, [], List, ℕ, slice_set}
use Rattle.std.specs.Global.{Vec}
use Rattle.fact_table.specs.Lists.{lists_of}
use Rattle.fact_table.proofs.ListSteps.{lists_of-set, list_at-get, room_at-other}
use Rattle.fact_table.proofs.lists.push_at.Goals as goal

pub returns-clause-lists : goal.returns-clause-lists
returns-clause-lists c =
    let held = c.index_mut-list.result.now in
    let old = list_at-get c.args.lists.now.items c.args.number held c.requires.inside ∙ ap (λ (list : Vec ℕ). list.items) (sym c.index_mut-list.ensures.value) in
    lists_of-set c.args.lists.now.items c.args.number c.push.new.self
    ∙ ap (slice_set (lists_of c.args.lists.now.items) c.args.number) (c.in-Ok.ensures.items ∙ ap (λ (l : List ℕ). l ++ c.args.place ∷ []) (sym old))

pub returns-clause-rooms : goal.returns-clause-rooms
returns-clause-rooms c = λ other apart. room_at-other c.args.lists.now.items c.args.number c.push.new.self other apart
