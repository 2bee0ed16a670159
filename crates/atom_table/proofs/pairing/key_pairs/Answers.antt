use Rattle.std.proofs.Common.{◌≡◌, ◌∙◌, false, sym, ap}
use Rattle.std.specs.List.{list_any}
use Rattle.atom_table.specs.Keys.{is_negative}
use Rattle.atom_table.proofs.PairNumbers.{no_pairs}
use Rattle.atom_table.proofs.pairing.key_pairs.Goals as goal

pub returns-then-not-has_negative : goal.returns-then-not-has_negative
returns-then-not-has_negative c =
    let absent : c.has_negative.result ≡ false = c.if-not-has_negative.true in
    c.new.ensures ∙ no_pairs c.args.keys.now.keys (ap (list_any is_negative) (sym c.as_slice.ensures.keys) ∙ sym c.has_negative.ensures ∙ absent)
