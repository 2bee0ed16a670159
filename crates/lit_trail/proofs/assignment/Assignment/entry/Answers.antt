use Rattle.std.proofs.Common.{◌≡◌, ◌-◌, ℕ, ◌∙◌, ap, subst, arith}
use Rattle.std.proofs.Common.{get_or}
use Rattle.std.specs.Prelude.{Option, Some, None}
use Rattle.lit_trail.specs.declared.assignment.Spot.{Spot}
use Rattle.lit_trail.proofs.Places.{count_is, entry_is, entry_range}
use Rattle.lit_trail.proofs.assignment.Assignment.entry.Goals as goal

pub overflow_sub-len-2 : goal.overflow_sub-len-2
overflow_sub-len-2 c =
    let a = c.len.ensures in
    let b = c.self.inside.order.ok.0 in
    let d = count_is c.self.inside.table.items c.self.inside.order.items c.args.self.now c.self.view_is in
    let l = c.requires in
    omega (arith, a, b, d, l)

pub index-requires : goal.index-requires
index-requires c =
    let a = entry_range c.self.inside.table.items c.self.inside.order.items c.args.place _ c.index-lit.result.now c.args.self.now c.self.view_is c.self.invariant.0 c.requires (ap (λ (n : ℕ). n - 1 - c.args.place) (c.len.ensures ∙ c.self.inside.order.ok.0)) c.index-lit.ensures in
    let b = c.self.inside.table.ok.0 in
    omega (arith, a, b)

pub returns-in-Some : goal.returns-in-Some
returns-in-Some c =
    let l = entry_range c.self.inside.table.items c.self.inside.order.items c.args.place _ c.index-lit.result.now c.args.self.now c.self.view_is c.self.invariant.0 c.requires (ap (λ (n : ℕ). n - 1 - c.args.place) (c.len.ensures ∙ c.self.inside.order.ok.0)) c.index-lit.ensures in
    let found = subst (λ (o : Option Spot). o ≡ get_or c.self.inside.table.items c.index-lit.result.now.var o) c.in-Some.is c.index.ensures in
    entry_is c.self.inside.table.items c.self.inside.order.items c.args.place _ c.index-lit.result.now (Some c.in-Some.spot) c.args.self.now c.self.view_is c.requires (ap (λ (n : ℕ). n - 1 - c.args.place) (c.len.ensures ∙ c.self.inside.order.ok.0)) c.index-lit.ensures found l

pub returns-in-None : goal.returns-in-None
returns-in-None c =
    let l = entry_range c.self.inside.table.items c.self.inside.order.items c.args.place _ c.index-lit.result.now c.args.self.now c.self.view_is c.self.invariant.0 c.requires (ap (λ (n : ℕ). n - 1 - c.args.place) (c.len.ensures ∙ c.self.inside.order.ok.0)) c.index-lit.ensures in
    let found = subst (λ (o : Option Spot). o ≡ get_or c.self.inside.table.items c.index-lit.result.now.var o) c.in-None.is c.index.ensures in
    entry_is c.self.inside.table.items c.self.inside.order.items c.args.place _ c.index-lit.result.now (None) c.args.self.now c.self.view_is c.requires (ap (λ (n : ℕ). n - 1 - c.args.place) (c.len.ensures ∙ c.self.inside.order.ok.0)) c.index-lit.ensures found l
