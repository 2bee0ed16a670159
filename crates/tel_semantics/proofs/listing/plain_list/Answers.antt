use Rattle.std.proofs.Common.{◌∙◌, sym, ap, subst, ℕ, List, arith}
use Rattle.std.specs.List.{list_all}
use Rattle.tel_rule.specs.Rising.{numbers_rise}
use Rattle.tel_base.proofs.Members.{In, In-get_or}
use Rattle.tel_semantics.proofs.Below.{all_traces-rise}
use Rattle.tel_semantics.proofs.listing.plain_list.Goals as goal

pub trace_of-requires : goal.trace_of-requires
trace_of-requires c =
    let states = c.states-item.result in
    let found : In states c.as_slice-states-items.result.now = In-get_or c.as_slice-states-items.result.now c.loop-states.states-index states (omega arith) (sym c.states-item.is) in
    let listed = c.as_slice-states-items.ensures ∙ c.in_ok-candidates.ensures in
    let rise = all_traces-rise c.len.result c.args.n states (subst (λ (traces : List (List (List ℕ))). In states traces) listed found) in
    ap (λ (trace : List (List ℕ)). list_all numbers_rise trace) c.as_slice-then-branch.ensures ∙ rise
