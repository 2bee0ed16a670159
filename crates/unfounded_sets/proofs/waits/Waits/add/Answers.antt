use Rattle.std.proofs.Common.{◌≡◌, ◌<◌, ◌∙◌, ◌+◌, ℕ, List, get_or, set, length, sym, subst, ap}
use Rattle.std.proofs.lemmas.List.{get_or_default}
use Rattle.unfounded_sets.specs.declared.waits.Link.{Link}
use Rattle.unfounded_sets.specs.Waiting.{Waiting, IsLinked}
use Rattle.unfounded_sets.proofs.Chains.{add_linked}
use Rattle.unfounded_sets.proofs.waits.Waits.add.Goals as goal

pub invariant_of-self-2 : goal.invariant_of-self-2
invariant_of-self-2 c =
    let first = c.self.inside.first.items in
    let links = c.self.inside.links.items in
    let link : Link = record { wait = c.args.wait; next = c.index-next.result.now } in
    let within : c.args.var < length first = subst (λ (w : Waiting). c.args.var < length w.first) (sym c.self.view_is) c.requires in
    let next : c.index-next.result.now ≡ get_or first c.args.var 0 = c.index-next.ensures ∙ get_or_default first c.args.var c.index-next.result.now 0 within in
    let many : c.len.result ≡ length links + 1 = c.len.ensures ∙ c.in_ok-push.ensures.len ∙ ap (λ (n : ℕ). n + 1) c.self.inside.links.ok.0 in
    subst (λ (list : List Link). IsLinked (set first c.args.var c.len.result) list) (sym c.in_ok-push.ensures.items) (add_linked first links c.args.var link c.len.result c.self.invariant next many)
