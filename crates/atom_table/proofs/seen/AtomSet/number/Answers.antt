use Rattle.std.proofs.Common.{◌≡◌, ◌∙◌, ap, List}
use Rattle.tel_term.specs.declared.terms.Value.{Value}
use Rattle.tel_term.specs.declared.exprs.Expr.{Expr}
use Rattle.atom_table.specs.Named.{number_of}
use Rattle.atom_table.specs.Collected.{args_under}
use Rattle.atom_table.proofs.seen.AtomSet.number.Goals as goal

pub returns : goal.returns
returns c =
    let atom = c.args.atom.now in
    let row : c.in_ok-row.row ≡ args_under c.args.binding.now atom.args = c.in_ok-row.ensures ∙ ap (λ (args : List Expr). args_under c.args.binding.now args) c.as_slice.ensures in
    c.find.ensures ∙ ap (λ (args : List Value). number_of c.args.self.now (record { negative = atom.negative; name = atom.name; args = args })) row
