-- Keys that are sorted by ranks rise.
use Rattle.std.proofs.Common.{◌≡◌, ℕ, true, List}
use Rattle.std.specs.List.{list_all, IsDistinct}
use Rattle.std.specs.List.Sorted.{IsSorted}
use Rattle.std.specs.Str.{bytes_eq}
use Rattle.tel_base.proofs.Members.{In-list_all}
use Rattle.tel_term.specs.declared.terms.Term.{Term}
use Rattle.tel_term.specs.Symbols.{IsTable}
use Rattle.tel_rule.specs.Rising.{rises}
use Rattle.atom_table.specs.declared.keys.Key.{Key}
use Rattle.atom_table.specs.Keys.{key_eq, key_cmp, key_lt, key_rank_cmp, is_held, is_ranged}
use Rattle.atom_table.specs.Ranks.{AreRanks}
use Rattle.atom_table.specs.Sorted.{AreNames}
use Rattle.atom_table.proofs.InOrder.{key_total, same_keys, sorted_rises}
use Rattle.atom_table.proofs.Ranked.{keys_agree, sorted_again}

pub ranked_rises : (symbols : List Term) (names : List (List ℕ)) (numbers ranks : List ℕ) (keys : List Key) → IsTable symbols → IsDistinct bytes_eq names → AreNames symbols names numbers → AreRanks symbols ranks
    → list_all (is_held names) keys ≡ true → list_all (is_ranged symbols) keys ≡ true → IsSorted (key_rank_cmp ranks numbers) keys → IsDistinct key_eq keys → rises (key_lt symbols names) keys ≡ true
ranked_rises symbols names numbers ranks keys table distinct named ranked held ranged sorted once =
    sorted_rises (key_cmp symbols names) key_eq (key_total symbols names) keys
    (λ x y in_x in_y level.
    same_keys symbols names x y table distinct (In-list_all (is_held names) x keys held in_x) (In-list_all (is_held names) y keys held in_y) (In-list_all (is_ranged symbols) x keys ranged in_x) (In-list_all (is_ranged symbols) y keys ranged in_y) level)
    (sorted_again (key_rank_cmp ranks numbers) (key_cmp symbols names) keys
    (λ x y in_x in_y.
    keys_agree symbols ranks table ranked names numbers named x y (In-list_all (is_held names) x keys held in_x) (In-list_all (is_held names) y keys held in_y) (In-list_all (is_ranged symbols) x keys ranged in_x)
    (In-list_all (is_ranged symbols) y keys ranged in_y))
    sorted)
    once
