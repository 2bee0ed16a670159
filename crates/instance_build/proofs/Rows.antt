-- Instances in a row.
use Rattle.std.proofs.Common.{◌≡◌, ℕ, ◌+◌, true, ◌&&◌, List, [], ◌∷◌, length, map, IsTrue, refl, sym, inl, inr, arith}
use Rattle.std.specs.List.{list_all}
use Rattle.std.proofs.lemmas.List.{append-nil}
use Rattle.tel_base.proofs.Members.{In}
use Rattle.tel_rule.specs.declared.nodes.Node.{Node}
use Rattle.tel_rule.specs.declared.ground.Instance.{Instance}
use Rattle.tel_rule.specs.Ground.{instance_in_range, is_guarded}
use Rattle.tel_semantics.specs.Theory.{Demand, demand_of}
use Rattle.instance_build.specs.Instances.{Numbered, in_row}
use Rattle.instance_build.specs.Placed.{Placed}
use Rattle.instance_build.specs.Laws.{Demands, IsGuarded, IsInRange, RowsMeanInstances, RowsAreInRange, RowsAreGuarded}
use Rattle.instance_build.proofs.Valued.{placed_left, placed_right}
use Rattle.instance_build.proofs.ListsInRange.{ListFits, none_fit, both_fit}

-- all nodes, where no others are
pub all_placed : (nodes : List Node) → Placed nodes 0 nodes
all_placed nodes = record { front = []; back = []; whole = sym (append-nil nodes); count = refl }

row_means : (row : List (Numbered Instance × Demand)) → ((one : Numbered Instance × Demand) → In one row → Demands one.0 one.1) → (nodes : List Node) (first : ℕ) → Placed nodes first (in_row (map (λ one. one.0) row) first).1 → map (demand_of nodes) (in_row (map (λ one. one.0) row) first).0 ≡ map (λ one. one.1) row
row_means [] each nodes first placed = refl
row_means (one ∷ more) each nodes first placed =
    let here = one.0 first in
    let second = first + length here.1 in
    let later = in_row (map (λ (one : Numbered Instance × Demand). one.0) more) second in
    let is = each one (inl refl) nodes first (placed_left nodes first here.1 later.1 placed) in
    let rest = row_means more (λ other there. each other (inr there)) nodes second (placed_right nodes first here.1 later.1 placed) in
    λ i. is i ∷ rest i

row_guarded : (row : List (Numbered Instance)) → ((made : Numbered Instance) → In made row → IsGuarded made) → (nodes : List Node) (first : ℕ) → Placed nodes first (in_row row first).1 → IsTrue (list_all (is_guarded nodes) (in_row row first).0)
row_guarded [] each nodes first placed = refl
row_guarded (made ∷ more) each nodes first placed =
    let here = made first in
    let second = first + length here.1 in
    let later = in_row more second in
    let is = each made (inl refl) nodes first (placed_left nodes first here.1 later.1 placed) in
    let rest = row_guarded more (λ other there. each other (inr there)) nodes second (placed_right nodes first here.1 later.1 placed) in
    λ i. is i && rest i

-- one instance as a list
pub one_fits : (atoms : ℕ) (made : Numbered Instance) → IsInRange atoms made → ListFits atoms (λ total. instance_in_range atoms total) (λ first. ((made first).0 ∷ [], (made first).1))
one_fits atoms made range = record {
  nodes = λ first total within. range.nodes first total within;
  all = λ first total within. (let here = range.instance first total within in λ i. here i && true);
}

row_fits : (atoms : ℕ) (row : List (Numbered Instance)) → ((made : Numbered Instance) → In made row → IsInRange atoms made) → ListFits atoms (λ total. instance_in_range atoms total) (in_row row)
row_fits atoms [] each = none_fit atoms (λ total. instance_in_range atoms total)
row_fits atoms (made ∷ more) each =
    both_fit atoms (λ total. instance_in_range atoms total) (λ first. ((made first).0 ∷ [], (made first).1)) (in_row more) (in_row (made ∷ more)) (λ first. refl)
    (one_fits atoms made (each made (inl refl))) (row_fits atoms more (λ other there. each other (inr there)))

pub rows_mean_instances : RowsMeanInstances
rows_mean_instances row each =
    let all = in_row (map (λ (one : Numbered Instance × Demand). one.0) row) 0 in
    row_means row each all.1 0 (all_placed all.1)

pub rows_are_in_range : RowsAreInRange
rows_are_in_range atoms row each =
    let all = in_row row 0 in
    let fits = row_fits atoms row each in
    (fits.nodes 0 (length all.1) (omega arith), fits.all 0 (length all.1) (omega arith))

pub rows_are_guarded : RowsAreGuarded
rows_are_guarded row each =
    let all = in_row row 0 in
    row_guarded row each all.1 0 (all_placed all.1)
