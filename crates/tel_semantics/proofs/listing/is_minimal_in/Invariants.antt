use Rattle.std.proofs.Common.{◌≡◌, ℕ, List, true, not, ◌||◌, length, take}
use Rattle.std.specs.List.{list_all}
use Rattle.tel_semantics.specs.Traces.{test_of, is_below}
use Rattle.tel_semantics.specs.Theory.{theory, is_model}
use Rattle.tel_semantics.proofs.listing.is_minimal_in.Given as goal

abbrev pub invariant-loop-smaller : goal.invariant-loop-smaller
invariant-loop-smaller l =
    list_all (λ (smaller : List (List ℕ)). not (is_model (theory l.template) l.n (test_of smaller) (test_of l.trace)) || is_below l.n (length l.template.atoms) (test_of l.trace) (test_of smaller)) (take l.smaller-index l.smaller-items) ≡ true
