-- A number changes nothing, and the place of a name or a string in the set is its number.
use Rattle.std.proofs.Common.{rules, ◌-◌, ◌^◌, ◌<◌, length}
use Rattle.tel_term.specs.Symbols.{with_term, value_of}
use Rattle.tel_term.proofs.Growth.{IsTable-with_term, length-with_term, symbol-not_number, with_term-keys, value_of-place}
use Rattle.tel_term.proofs.symbols.Symbols.value.Goals as goal

pub returns-in-Num-clause-value : goal.returns-in-Num-clause-value
unfolding value_of
returns-in-Num-clause-value c = search rules

pub returns-in-Num-clause-table : goal.returns-in-Num-clause-table
unfolding with_term
returns-in-Num-clause-table c = search rules

pub invariant_of-self-2 : goal.invariant_of-self-2
invariant_of-self-2 c =
    let symbol = symbol-not_number c.args.term c.in_default.not-Num in
    let grown = with_term-keys c.self.inside.terms.keys c.insert_full.new.self.keys c.args.term symbol c.in-Ok.ensures.keys in
    let room : length c.self.inside.terms.keys < 2 ^ 32 - 1 = rw (← c.self.view_is) at c.requires in
    rw grown (IsTable-with_term c.self.inside.terms.keys c.args.term c.self.invariant room)

pub returns : goal.returns
returns c =
    let symbol = symbol-not_number c.args.term c.in_default.not-Num in
    let grown = with_term-keys c.self.inside.terms.keys c.insert_full.new.self.keys c.args.term symbol c.in-Ok.ensures.keys in
    rw (← c.self.view_is) (record {
      value = value_of-place c.self.inside.terms.keys c.args.term c.in-Ok.found.0 symbol c.in-Ok.ensures.index;
      table = grown;
      room = rw grown (length-with_term c.self.inside.terms.keys c.args.term);
      err = tt;
    })
