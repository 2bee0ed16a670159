-- The clauses of a module are such as a search takes, and the variables of a length are below those of its last module.
use Rattle.std.proofs.Common.{◌≡◌, ℕ, suc, ◌+◌, ◌-◌, ◌*◌, ◌<◌, ◌≤◌, ◌==◌, Bool, true, false, not, List, [], ◌∷◌, ◌++◌, map, length, refl, sym, ap, subst, ◌∙◌, ◌⊎◌, inl, inr, ⊎_elim, arith}
use Rattle.std.specs.Prelude.{nat_lt, max, ◌&&◌, ◌||◌, Option, Some, None, if◌then◌else◌}
use Rattle.std.specs.List.{list_all, flat_map, range_with_len}
use Rattle.std.proofs.Math.Nat.{le-max_left, le-max_right}
use Rattle.std.proofs.lemmas.Bool.{cases_Bool, cond-true, cond-false, and_from, lt-ltb, ltb-true, ltb-false, ne_eqb, eqb-false, not_from_false, false≢true}
use Rattle.std.proofs.lemmas.Nat.{mul-le}
use Rattle.tel_base.specs.declared.literals.Lit.{Lit}
use Rattle.tel_base.specs.Literals.{lit_of, negate, negations}
use Rattle.tel_base.proofs.Members.{In, In-append_cases, In-map, In-map_from, In-flat_map_from, list_all-from_In}
use Rattle.completion.proofs.Orders.{Rises, into_order, in_order_rises}
use Rattle.completion.proofs.Ranges.{range_cases}
use Rattle.atom_space.specs.Numbers.{Counts, width, visible, end_at}
use Rattle.clause_store.specs.Held.{lacks, are_distinct, is_clause}
use Rattle.clause_store.specs.Closure.{Clause}
use Rattle.horizon_external.specs.Occurring.{lit_vars}
use Rattle.lit_trail.specs.Unassigned.{visible_at, visible_below}
use Rattle.normal_program.specs.declared.rules.NRule.{NRule}
use Rattle.normal_program.specs.declared.shapes.Shape.{Shape}
use Rattle.normal_program.specs.declared.shapes.Shape.TheVariants as shapes
use Rattle.normal_program.specs.declared.shapes.NodeRule.{NodeRule}
use Rattle.normal_program.specs.declared.modules.BodyHead.{BodyHead}
use Rattle.normal_program.specs.declared.modules.BodyHead.TheVariants as uses
use Rattle.normal_program.specs.declared.modules.BodyDef.{BodyDef}
use Rattle.normal_program.specs.declared.modules.StepModule.{StepModule}
use Rattle.normal_program.specs.ModuleClauses.{rank, in_order, has_both, listed, no_lit, shape_clauses, node_clauses, use_clauses, body_clauses, head_clauses, later_clauses, later_rules, support_clause, pair_clause, open_clause, close_clauses, stated_clauses, clauses_of}
use Rattle.cdcl_search.specs.Searches.{greatest, greatest_in, vars_for}

-- ---- variables are below the number that a search needs

var_below : (var : ℕ) (vars : List ℕ) → In var vars → var ≤ greatest vars
var_below var [] i = absurd i
var_below var (v ∷ more) i =
    let left = le-max_left v (greatest more) in
    let right = le-max_right v (greatest more) in
    ⊎_elim (λ (e : v ≡ var). omega (arith, e, left)) (λ m. let below = var_below var more m in omega (arith, below, right)) i

clause_below : (clause : Clause) (clauses : List Clause) → In clause clauses → greatest (lit_vars clause) ≤ greatest_in clauses
clause_below clause [] i = absurd i
clause_below clause (c ∷ more) i =
    let left = le-max_left (greatest (lit_vars c)) (greatest_in more) in
    let right = le-max_right (greatest (lit_vars c)) (greatest_in more) in
    ⊎_elim (λ (e : c ≡ clause). let same : greatest (lit_vars c) ≡ greatest (lit_vars clause) = ap (λ (k : Clause). greatest (lit_vars k)) e in omega (arith, same, left)) (λ m. let below = clause_below clause more m in omega (arith, below, right)) i

lit_below : (step : StepModule) (clauses : List Clause) (clause : Clause) (lit : Lit) → In clause clauses → In lit clause → lit.var < vars_for step clauses
lit_below step clauses clause lit i j =
    let one = var_below lit.var (lit_vars clause) (In-map (λ (l : Lit). l.var) lit clause j) in
    let two = clause_below clause clauses i in
    let three = le-max_right (greatest step.atoms) (greatest_in clauses) in
    let four = le-max_right step.end (max (greatest step.atoms) (greatest_in clauses)) in
    omega (arith, one, two, three, four)

-- the end of the module is
pub ending_below : (step : StepModule) (clauses : List Clause) → step.end < vars_for step clauses
ending_below step clauses =
    let one = le-max_left step.end (max (greatest step.atoms) (greatest_in clauses)) in
    omega (arith, one)

-- and its atoms are
pub atom_below : (step : StepModule) (clauses : List Clause) (var : ℕ) → In var step.atoms → var < vars_for step clauses
atom_below step clauses var i =
    let one = var_below var step.atoms i in
    let two = le-max_left (greatest step.atoms) (greatest_in clauses) in
    let three = le-max_right step.end (max (greatest step.atoms) (greatest_in clauses)) in
    omega (arith, one, two, three)

-- ---- a clause in order that is listed has different variables

twice_below : (v w p q : ℕ) → v + v + p < w + w + q → p ≤ 1 → q ≤ 1 → v ≤ w
twice_below v w p q l a b = omega (arith, l, a, b)

sign_small : (p : Bool) → (if p then 1 else 0) ≤ 1
sign_small true = omega arith
sign_small false = omega arith

rank_var : (a b : Lit) → rank a < rank b → a.var ≤ b.var
rank_var a b l = twice_below a.var b.var (if a.positive then 1 else 0) (if b.positive then 1 else 0) l (sign_small a.positive) (sign_small b.positive)

or_none : (x y : Bool) → (x || y) ≡ false → (x ≡ false) × (y ≡ false)
or_none true y e = absurd (false≢true (sym e))
or_none false y e = (refl, e)

less_or_same : (m n : ℕ) → m ≤ n → (m < n) ⊎ (m ≡ n)
less_or_same m n le = ⊎_elim (λ (less : nat_lt m n ≡ true). inl (ltb-true m n less)) (λ (other : nat_lt m n ≡ false). let up = ltb-false m n other in inr (omega (arith, le, up))) (cases_Bool (nat_lt m n))

-- the variables behind the first one are above it
behind_above : (x y : Lit) (more : List Lit) → Rises (x ∷ y ∷ more) → has_both (x ∷ y ∷ more) ≡ false → (z : Lit) → In z (y ∷ more) → x.var < z.var
unfolding has_both
behind_above x y more r none z i =
    let parts = or_none (x.var == y.var) (has_both (y ∷ more)) none in
    let apart = eqb-false x.var y.var parts.0 in
    let near = rank_var x y (r.0 y (inl refl)) in
    let first : x.var < y.var = ⊎_elim (λ l. l) (λ (e : x.var ≡ y.var). absurd (apart e)) (less_or_same x.var y.var near) in
    ⊎_elim (λ (e : y ≡ z). subst (λ (k : Lit). x.var < k.var) e first) (λ m. let up = rank_var y z (r.1.0 z m) in omega (arith, first, up)) i

rest_none : (x y : Lit) (more : List Lit) → has_both (x ∷ y ∷ more) ≡ false → has_both (y ∷ more) ≡ false
unfolding has_both
rest_none x y more none = let parts = or_none (x.var == y.var) (has_both (y ∷ more)) none in parts.1

lacks_above : (var : ℕ) (lits : List Lit) → ((lit : Lit) → In lit lits → var < lit.var) → lacks var lits ≡ true
lacks_above var lits h =
    list_all-from_In (λ (lit : Lit). not (lit.var == var)) lits (λ lit i.
    let above = h lit i in
    not_from_false (lit.var == var) (ne_eqb lit.var var (λ e. absurd (omega (arith, above, e)))))

distinct_in_order : (vars : ℕ) (lits : List Lit) → Rises lits → has_both lits ≡ false → ((lit : Lit) → In lit lits → lit.var < vars) → are_distinct vars lits ≡ true
distinct_in_order vars [] r none below = refl
distinct_in_order vars (x ∷ []) r none below = and_from (nat_lt x.var vars) true (lt-ltb x.var vars (below x (inl refl))) refl
distinct_in_order vars (x ∷ y ∷ more) r none below =
    and_from (nat_lt x.var vars) (lacks x.var (y ∷ more) && are_distinct vars (y ∷ more)) (lt-ltb x.var vars (below x (inl refl)))
    (and_from (lacks x.var (y ∷ more)) (are_distinct vars (y ∷ more))
    (lacks_above x.var (y ∷ more) (behind_above x y more r none))
    (distinct_in_order vars (y ∷ more) r.1 (rest_none x y more none) (λ lit i. below lit (inr i))))

-- ---- no clause is empty

abbrev IsSome : List Lit → Type 0
IsSome lits = (lit : Lit) × In lit lits

record AreSome (clauses : List Clause) : Type 0 where
  some : (clause : Clause) → In clause clauses → IsSome clause

both_some : (xs ys : List Clause) → AreSome xs → AreSome ys → AreSome (xs ++ ys)
both_some xs ys one two = record { some = λ clause i. ⊎_elim (λ l. one.some clause l) (λ r. two.some clause r) (In-append_cases clause xs ys i) }

each_some : {X : Type 0} (f : X → List Clause) (xs : List X) → ((x : X) → AreSome (f x)) → AreSome (flat_map f xs)
each_some f xs h = record { some = λ clause i. let w = In-flat_map_from f clause xs i in (h w.0).some clause w.2 }

map_some : {X : Type 0} (f : X → Clause) (xs : List X) → ((x : X) → IsSome (f x)) → AreSome (map f xs)
map_some f xs h = record { some = λ clause i. let w = In-map_from f clause xs i in subst (λ (c : Clause). IsSome c) w.2 (h w.0) }

none_some : AreSome []
none_some = record { some = λ clause i. absurd i }

more_some : (lit : Lit) (rest : List Lit) (more : List Clause) → AreSome more → AreSome ((lit ∷ rest) ∷ more)
more_some lit rest more h = record { some = λ clause i. ⊎_elim (λ (e : (lit ∷ rest) ≡ clause). subst (λ (c : Clause). IsSome c) e (lit, inl refl)) (λ m. h.some clause m) i }

shape_some : (x : ℕ) (shape : Shape) → AreSome (shape_clauses x shape)
shape_some x shapes.True = more_some _ _ [] none_some
shape_some x shapes.False = more_some _ _ [] none_some
shape_some x (shapes.Is y) = more_some _ _ _ (more_some _ _ [] none_some)
shape_some x (shapes.All ys) = both_some (map (λ (y : Lit). no_lit x ∷ y ∷ []) ys) ((lit_of x ∷ negations ys) ∷ []) (map_some (λ (y : Lit). no_lit x ∷ y ∷ []) ys (λ y. (no_lit x, inl refl))) (more_some _ _ [] none_some)
shape_some x (shapes.Any ys) = both_some (map (λ (y : Lit). lit_of x ∷ negate y ∷ []) ys) ((no_lit x ∷ ys) ∷ []) (map_some (λ (y : Lit). lit_of x ∷ negate y ∷ []) ys (λ y. (lit_of x, inl refl))) (more_some _ _ [] none_some)
shape_some x (shapes.AllAny y zs) = more_some _ _ _ (more_some _ _ _ (map_some (λ (z : Lit). lit_of x ∷ negate y ∷ negate z ∷ []) zs (λ z. (lit_of x, inl refl))))
shape_some x (shapes.AnyAll y z w) = more_some _ _ _ (more_some _ _ _ (more_some _ _ _ (more_some _ _ [] none_some)))
shape_some x (shapes.Same y z) = more_some _ _ _ (more_some _ _ _ (more_some _ _ _ (more_some _ _ [] none_some)))

use_some : (ending body : ℕ) (head : BodyHead) → AreSome (use_clauses ending body head)
use_some ending body (uses.Normal head) = more_some _ _ [] none_some
use_some ending body (uses.Choice head) = none_some
use_some ending body uses.Nothing = more_some _ _ [] none_some
use_some ending body uses.NextNormal = more_some _ _ [] none_some
use_some ending body uses.NextChoice = none_some

head_some : (choice : Bool) (head body : Option ℕ) → AreSome (head_clauses choice head body)
head_some false (Some head) (Some body) = more_some _ _ [] none_some
head_some false (Some head) None = none_some
head_some false None body = none_some
head_some true head body = none_some

close_some : (close : Option Lit) → AreSome (close_clauses close)
close_some None = none_some
close_some (Some lit) = more_some lit [] [] none_some

body_some : (ending : ℕ) (def : BodyDef) → AreSome (body_clauses ending def)
body_some ending def =
    both_some (map (λ (lit : Lit). no_lit def.var ∷ lit ∷ []) def.lits) ((lit_of def.var ∷ negations def.lits) ∷ use_clauses ending def.var def.head)
    (map_some (λ (lit : Lit). no_lit def.var ∷ lit ∷ []) def.lits (λ lit. (no_lit def.var, inl refl)))
    (more_some (lit_of def.var) (negations def.lits) (use_clauses ending def.var def.head) (use_some ending def.var def.head))

stated_some : (step : StepModule) → AreSome (stated_clauses step)
stated_some step =
    let closes = close_clauses step.close in
    let bodies = flat_map (body_clauses step.end) step.bodies in
    let laters = flat_map later_clauses (later_rules step) in
    let supports = map (support_clause step.rules) step.atoms in
    let nodes = flat_map node_clauses step.nodes in
    let pairs = map pair_clause step.pairs in
    let opens = map (open_clause step.end) step.open_vars in
    both_some closes (bodies ++ (laters ++ (supports ++ (nodes ++ (pairs ++ opens))))) (close_some step.close)
    (both_some bodies (laters ++ (supports ++ (nodes ++ (pairs ++ opens)))) (each_some (body_clauses step.end) step.bodies (λ def. body_some step.end def))
    (both_some laters (supports ++ (nodes ++ (pairs ++ opens))) (each_some later_clauses (later_rules step) (λ rule. head_some rule.choice rule.head rule.body))
    (both_some supports (nodes ++ (pairs ++ opens)) (map_some (support_clause step.rules) step.atoms (λ atom. (no_lit atom, inl refl)))
    (both_some nodes (pairs ++ opens) (each_some node_clauses step.nodes (λ node. shape_some node.var node.shape))
    (both_some pairs opens (map_some pair_clause step.pairs (λ pair. (no_lit pair.0, inl refl)))
    (map_some (open_clause step.end) step.open_vars (λ var. (no_lit step.end, inl refl))))))))

long_some : (lits : List Lit) → IsSome lits → nat_lt 0 (length lits) ≡ true
long_some [] some = absurd some.1
long_some (lit ∷ more) some = lt-ltb 0 (length (lit ∷ more)) (omega arith)

-- ---- so the clauses of a module are clauses over its variables

listed_one : (lits clause : List Lit) → In clause (listed lits) → (in_order lits ≡ clause) × (has_both (in_order lits) ≡ false)
listed_one lits clause i =
    ⊎_elim
    (λ (both : has_both (in_order lits) ≡ true). absurd (subst (λ (cs : List Clause). In clause cs) (cond-true (has_both (in_order lits)) [] (in_order lits ∷ []) both) i))
    (λ (none : has_both (in_order lits) ≡ false). (⊎_elim (λ e. e) (λ k. absurd k) (subst (λ (cs : List Clause). In clause cs) (cond-false (has_both (in_order lits)) [] (in_order lits ∷ []) none) i), none))
    (cases_Bool (has_both (in_order lits)))

in_order_fits : (vars : ℕ) (lits : List Lit) → IsSome lits → has_both (in_order lits) ≡ false → ((lit : Lit) → In lit (in_order lits) → lit.var < vars) → is_clause vars (in_order lits) ≡ true
in_order_fits vars lits some none below =
    and_from (nat_lt 0 (length (in_order lits))) (are_distinct vars (in_order lits))
    (long_some (in_order lits) (some.0, into_order some.0 lits some.1))
    (distinct_in_order vars (in_order lits) (in_order_rises lits) none below)

pub module_fits : (step : StepModule) → list_all (is_clause (vars_for step (clauses_of step))) (clauses_of step) ≡ true
module_fits step =
    list_all-from_In (is_clause (vars_for step (clauses_of step))) (clauses_of step) (λ clause i.
    let w = In-flat_map_from listed clause (stated_clauses step) i in
    let one = listed_one w.0 clause w.2 in
    subst (λ (c : Clause). is_clause (vars_for step (clauses_of step)) c ≡ true) one.0
    (in_order_fits (vars_for step (clauses_of step)) w.0 ((stated_some step).some w.0 w.1) one.1
    (λ lit j. lit_below step (clauses_of step) clause lit i (subst (λ (c : Clause). In lit c) one.0 j))))

-- ---- the variables of a length are below those of the next one

within_rows : (t n w a var : ℕ) → t < n → a < w → t * w + a ≡ var → var < n * w
within_rows t n w a var state place is =
    let wide : (t + 1) * w ≤ n * w = mul-le (t + 1) w n w (omega (arith, state)) (omega arith) in
    let next : (t + 1) * w ≡ t * w + w = omega arith in
    omega (arith, is, place, wide, next)

row_end : (n w last vars var : ℕ) → 0 < n → last + 1 ≡ w → (n - 1) * w + last < vars → var < n * w → var < vars
row_end n w last vars var some wide ending small =
    let rows : n * w ≡ ((n - 1) + 1) * w = ap (λ (k : ℕ). k * w) (omega (arith, some)) in
    let next : ((n - 1) + 1) * w ≡ (n - 1) * w + w = omega arith in
    omega (arith, wide, ending, small, rows, next)

visible_small : (counts : Counts) (n var : ℕ) → In var (visible_below counts n) → var < n * width counts
visible_small counts n var i =
    let found = In-flat_map_from (visible_at counts) var (range_with_len 0 n) i in
    let state = range_cases n 0 found.0 found.1 in
    let atom = In-map_from (λ (a : ℕ). visible counts a found.0) var (range_with_len 0 counts.atoms) found.2 in
    let within = range_cases counts.atoms 0 atom.0 atom.1 in
    let below = within.1 in
    within_rows found.0 n (width counts) atom.0 var (let up = state.1 in omega (arith, up)) (omega (arith, below)) atom.2

pub visible_by_end : (counts : Counts) (n vars : ℕ) → 0 < n → end_at counts (n - 1) < vars → (var : ℕ) → In var (visible_below counts n) → var < vars
visible_by_end counts n vars some ending var i =
    row_end n (width counts) (counts.atoms + counts.nodes + counts.bodies) vars var some refl ending (visible_small counts n var i)
