use Rattle.std.proofs.Common.{rules, ℕ, length, subst}
use Rattle.std.specs.Ordering.{is_lt}
use Rattle.std.proofs.lemmas.Fn.{always_returns_same}
use Rattle.std.proofs.lemmas.List.Sorted.{ranks_by}
use Rattle.atom_table.specs.Ranks.{symbol_cmp, AreBelow}
use Rattle.atom_table.proofs.Ranked.{symbol_total, has_all, stay_below}
use Rattle.atom_table.proofs.ranking.ordered_symbols.Goals as goal

pub returns-in-Ok-clause-sorted : goal.returns-in-Ok-clause-sorted
returns-in-Ok-clause-sorted c =
    let symbols = c.args.symbols.now in
    c.in-Ok.ensures.sorted (λ x y. is_lt (symbol_cmp symbols x y)) (ranks_by (symbol_total symbols) (λ x. x)) (always_returns_same _ _ _ (λ a r f' k. search rules))

pub returns-in-Ok-clause-all : goal.returns-in-Ok-clause-all
returns-in-Ok-clause-all c =
    let old = c.in_ok-order.order.items in
    has_all (length c.args.symbols.now) old c.sort_by.new.self.items (subst (λ (count : ℕ). AreBelow count old) c.len.ensures.count c.in_ok-order.ensures) c.sort_by.ensures.permutation

pub returns-in-Ok-clause-within : goal.returns-in-Ok-clause-within
returns-in-Ok-clause-within c =
    let old = c.in_ok-order.order.items in
    stay_below (length c.args.symbols.now) old c.sort_by.new.self.items (subst (λ (count : ℕ). AreBelow count old) c.len.ensures.count c.in_ok-order.ensures) c.sort_by.ensures.permutation
