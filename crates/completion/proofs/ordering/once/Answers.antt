use Rattle.std.proofs.Common.{List, ◌++◌, sym, ap, ◌∙◌, append-nil}
use Rattle.tel_base.specs.declared.literals.Lit.{Lit}
use Rattle.std.proofs.lemmas.List.{drop_all}
use Rattle.normal_program.specs.ModuleClauses.{in_order}
use Rattle.completion.proofs.Orders.{order_none}
use Rattle.completion.proofs.ordering.once.Goals as goal

pub returns : goal.returns
returns c =
    let lits = c.reading.lits.items in
    let end = c.reading-test.false in
    sym (append-nil lits) ∙ ap (λ (more : List Lit). lits ++ more) (sym (ap in_order (drop_all c.reading.place c.args.sorted.now end) ∙ order_none)) ∙ c.reading.invariant.list
