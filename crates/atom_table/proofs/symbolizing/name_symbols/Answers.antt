use Rattle.std.proofs.Common.{◌+◌, ◌∷◌, [], ℕ, List, length, ap, sym, subst, arith, length-append}
use Rattle.std.proofs.lemmas.Option.{slice_get_within}
use Rattle.atom_table.proofs.Symbolized.{AreNamesUpTo, grows_then, one_name_more}
use Rattle.atom_table.proofs.symbolizing.name_symbols.Goals as goal

pub loop-name-preserved : goal.loop-name-preserved
loop-name-preserved c =
    let old = c.loop-name.symbols in
    let new = c.name_symbol.new.symbols in
    let numbers = c.loop-name.numbers.items in
    let before = c.loop-name.invariant in
    let long = before.2 in
    let put = c.in_ok-push.ensures.items in
    let more = length-append numbers (c.in_ok-number.number ∷ []) in
    let same_length = ap length put in (
      grows_then c.args.symbols.now old new before.0 c.in_ok-number.ensures.grows,
      subst (λ (list : List ℕ). AreNamesUpTo new c.args.names.now list (c.loop-name.name-index + 1)) (sym put)
          (one_name_more old new c.args.names.now numbers c.loop-name.name-index c.in_ok-number.number c.name-item.result c.in_ok-number.ensures.grows before.1 long c.name-item.is c.in_ok-number.ensures.number),
      omega (arith, same_length, more, long),
    )

pub returns-clause-numbers : goal.returns-clause-numbers
returns-clause-numbers c place name there =
    let inside = slice_get_within c.args.names.now place name there in
    c.loop-name.invariant.1 place name (omega (arith, inside, c.loop-name-test.false)) there
