use Rattle.std.proofs.Common.{◌≡◌, ◌∙◌, ℕ, List, ap, sym}
use Rattle.tel_term.specs.declared.terms.Term.TheVariants as terms
use Rattle.tel_term.specs.Symbols.{value_of, with_term}
use Rattle.atom_table.proofs.Symbolized.{no_number, name_put, put_grows}
use Rattle.atom_table.proofs.symbolizing.name_symbol.Goals as goal

pub unreachable-requires : goal.unreachable-requires
unreachable-requires c = no_number c.args.symbols.now c.in_ok-copy.copy c.in-Num.field-0 (sym c.in-Num.is ∙ c.in_ok-number.ensures.value)

pub returns-clause-number : goal.returns-clause-number
returns-clause-number c =
    let copied : c.in_ok-copy.copy ≡ c.args.name.now = c.in_ok-copy.ensures ∙ c.as_slice.ensures in
    name_put c.args.symbols.now c.value.new.self c.args.name.now c.in-Sym.number
    (c.in_ok-number.ensures.table ∙ ap (λ (name : List ℕ). with_term c.args.symbols.now (terms.Name name)) copied)
    (sym c.in-Sym.is ∙ c.in_ok-number.ensures.value ∙ ap (λ (name : List ℕ). value_of c.args.symbols.now (terms.Name name)) copied)

pub returns-clause-grows : goal.returns-clause-grows
returns-clause-grows c = put_grows c.args.symbols.now c.value.new.self c.in_ok-copy.copy c.in_ok-number.ensures.table
