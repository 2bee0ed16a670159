-- What was gathered of a front of the statements, and one statement more.
use Rattle.std.proofs.Common.{◌≡◌, ℕ, ◌+◌, ◌*◌, ◌<◌, List, [], ◌∷◌, ◌++◌, length, refl, sym, ap, ap₂, ◌∙◌, subst, arith}
use Rattle.std.proofs.lemmas.List.{append-nil, append_assoc}
use Rattle.std.proofs.lemmas.List.Sums.{sum_by-append, sum_by-cons}
use Rattle.tel_term.specs.declared.terms.Term.{Term}
use Rattle.tel_term.specs.declared.terms.Value.{Value}
use Rattle.tel_rule.specs.declared.statements.Kind.{Kind}
use Rattle.tel_rule.specs.declared.statements.Kind.TheVariants as kinds
use Rattle.tel_rule.specs.declared.statements.Statement.{Statement}
use Rattle.live_instances.proofs.OneList.{live-one}
use Rattle.atom_table.specs.Named.{NamedAtom}
use Rattle.program_theory.specs.Instances.{KindHasInstances, HasInstances, HaveInstances, instance_count, kind_nodes, node_count}
use Rattle.program_instances.specs.Gathered.{kind_named, named_atoms}
use Rattle.program_instances.specs.Adding.{with_all, Gathers, Overflows, GathersAll, OverflowsAll}
use Rattle.program_instances.proofs.Added.{all-append, all-longer}

module _ (all : List Statement) (symbols : List Term) where
  -- ---- live instances of a front

  have-more : (xs : List Statement) (live : List (List (List Value))) (statement : Statement) (one : List (List Value)) → HaveInstances all symbols xs live → HasInstances all symbols statement one
      → HaveInstances all symbols (xs ++ statement ∷ []) (live ++ one ∷ [])
  have-more [] [] statement one are has = (has, tt {0})
  have-more [] (first ∷ live) statement one are has = absurd are
  have-more (x ∷ xs) [] statement one are has = absurd are
  have-more (x ∷ xs) (first ∷ live) statement one are has = (are.0, have-more xs live statement one are.1 has)

  record Parted (xs ys : List Statement) (live : List (List (List Value))) : Type 0 where
    pub front : List (List (List Value))
    pub back : List (List (List Value))
    pub is : live ≡ front ++ back
    pub front_are : HaveInstances all symbols xs front
    pub back_are : HaveInstances all symbols ys back

  parted : (xs ys : List Statement) (live : List (List (List Value))) → HaveInstances all symbols (xs ++ ys) live → Parted xs ys live
  parted [] ys live are = record { front = []; back = live; is = refl; front_are = tt {0}; back_are = are }
  parted (x ∷ xs) ys [] are = absurd are
  parted (x ∷ xs) ys (first ∷ live) are =
      let rest = parted xs ys live are.1 in
      record { front = first ∷ rest.front; back = rest.back; is = ap (λ (l : List (List (List Value))). first ∷ l) rest.is; front_are = (are.0, rest.front_are); back_are = rest.back_are }

  one-kind : (count : ℕ) (kind : Kind) (a b : List (List Value)) → KindHasInstances all symbols count kind a → KindHasInstances all symbols count kind b → a ≡ b
  one-kind count (kinds.Rule head body) a b is_a is_b = live-one all symbols count head body a b is_a is_b
  one-kind count (kinds.Facts fact) a b is_a is_b = is_a ∙ sym is_b
  one-kind count (kinds.Const name value) a b is_a is_b = is_a ∙ sym is_b
  one-kind count (kinds.Show shown) a b is_a is_b = is_a ∙ sym is_b

  one-front : (xs : List Statement) (a b : List (List (List Value))) → HaveInstances all symbols xs a → HaveInstances all symbols xs b → a ≡ b
  one-front [] [] [] is_a is_b = refl
  one-front [] [] (other ∷ others) is_a is_b = absurd is_b
  one-front [] (live ∷ later) b is_a is_b = absurd is_a
  one-front (x ∷ xs) [] b is_a is_b = absurd is_a
  one-front (x ∷ xs) (live ∷ later) [] is_a is_b = absurd is_b
  one-front (x ∷ xs) (live ∷ later) (other ∷ others) is_a is_b =
      ap₂ (λ (first : List (List Value)) (rest : List (List (List Value))). first ∷ rest) (one-kind (length x.vars) x.kind live other is_a.0 is_b.0) (one-front xs later others is_a.1 is_b.1)

  -- ---- counts and atoms, front and rest

  named-append : (xs ys : List Statement) (live later : List (List (List Value))) → HaveInstances all symbols xs live → named_atoms (xs ++ ys) (live ++ later) ≡ named_atoms xs live ++ named_atoms ys later
  named-append [] ys [] later are = refl
  named-append [] ys (first ∷ live) later are = absurd are
  named-append (x ∷ xs) ys [] later are = absurd are
  named-append (x ∷ xs) ys (first ∷ live) later are =
      ap (λ (l : List NamedAtom). kind_named x.kind first ++ l) (named-append xs ys live later are.1) ∙ sym (append_assoc (kind_named x.kind first) (named_atoms xs live) (named_atoms ys later))

  nodes-append : (xs ys : List Statement) (live later : List (List (List Value))) → HaveInstances all symbols xs live → node_count (xs ++ ys) (live ++ later) ≡ node_count xs live + node_count ys later
  nodes-append [] ys [] later are = omega arith
  nodes-append [] ys (first ∷ live) later are = absurd are
  nodes-append (x ∷ xs) ys [] later are = absurd are
  nodes-append (x ∷ xs) ys (first ∷ live) later are =
      let rest = nodes-append xs ys live later are.1 in
      ap (λ (n : ℕ). length first * kind_nodes x.kind + n) rest ∙ regroup (length first * kind_nodes x.kind) (node_count xs live) (node_count ys later)
    where
      regroup : (a b c : ℕ) → a + (b + c) ≡ a + b + c
      regroup a b c = omega arith

  -- ---- one statement more

  pub front-more : (xs : List Statement) (live : List (List (List Value))) (statement : Statement) (one : List (List Value)) (old new : List NamedAtom) (room left rest : ℕ)
      → GathersAll all symbols xs live old room left → Gathers all symbols (length statement.vars) statement.kind old new left rest one → GathersAll all symbols (xs ++ statement ∷ []) (live ++ one ∷ []) new room rest
  front-more xs live statement one old new room left rest front gathers =
      let named : named_atoms (xs ++ statement ∷ []) (live ++ one ∷ []) ≡ named_atoms xs live ++ kind_named statement.kind one =
      named-append xs (statement ∷ []) live (one ∷ []) front.instances ∙ ap (λ (l : List NamedAtom). named_atoms xs live ++ l) (append-nil (kind_named statement.kind one)) in
      let nodes = nodes-append xs (statement ∷ []) live (one ∷ []) front.instances in
      let instances = sum_by-append length live (one ∷ []) in
      let one_long : instance_count (one ∷ []) ≡ length one + 0 = sum_by-cons length one [] in
      let whole = front.taken in
      let here = gathers.taken in
      record {
        instances = have-more xs live statement one front.instances gathers.instances;
        atoms_are = gathers.atoms ∙ ap (λ (l : List NamedAtom). with_all l (kind_named statement.kind one)) front.atoms_are ∙ sym (all-append [] (named_atoms xs live) (kind_named statement.kind one)) ∙ ap (with_all []) (sym named);
        taken = omega (arith, nodes, instances, one_long, whole, here);
        few = gathers.few;
      }

  abbrev IsOver : List Statement → ℕ → List (List (List Value)) → Type 0
  IsOver some room l = room < length (with_all [] (named_atoms some l)) + node_count some l + instance_count l

  pub front-over : (xs ys : List Statement) (live : List (List (List Value))) (statement : Statement) (old : List NamedAtom) (room left : ℕ)
      → GathersAll all symbols xs live old room left → Overflows all symbols (length statement.vars) statement.kind old left → OverflowsAll all symbols (xs ++ statement ∷ ys) room
  front-over xs ys live statement old room left front over whole are = by (parted xs (statement ∷ ys) whole are)
    where
      split : (one : List (List Value)) (later : List (List (List Value))) → HasInstances all symbols statement one → IsOver (xs ++ statement ∷ ys) room (live ++ one ∷ later)
      split one later has =
          let named = named-append xs (statement ∷ ys) live (one ∷ later) front.instances in
          let nodes = nodes-append xs (statement ∷ ys) live (one ∷ later) front.instances in
          let instances = sum_by-append length live (one ∷ later) in
          let first : instance_count (one ∷ later) ≡ length one + instance_count later = sum_by-cons length one later in
          let here = over one has in
          let atoms : with_all [] (named_atoms (xs ++ statement ∷ ys) (live ++ one ∷ later)) ≡ with_all (with_all old (kind_named statement.kind one)) (named_atoms ys later) =
          ap (with_all []) named ∙ all-append [] (named_atoms xs live) (kind_named statement.kind one ++ named_atoms ys later) ∙ ap (λ (l : List NamedAtom). with_all l (kind_named statement.kind one ++ named_atoms ys later)) (sym front.atoms_are)
          ∙ all-append old (kind_named statement.kind one) (named_atoms ys later) in
          let long = ap length atoms in
          let longer = all-longer (with_all old (kind_named statement.kind one)) (named_atoms ys later) in
          let taken = front.taken in
          omega (arith, nodes, instances, first, here, long, longer, taken)

      back : (front_live back_live : List (List (List Value))) → live ≡ front_live → HaveInstances all symbols (statement ∷ ys) back_live → IsOver (xs ++ statement ∷ ys) room (front_live ++ back_live)
      back front_live [] same its = absurd its
      back front_live (one ∷ later) same its = subst (λ (l : List (List (List Value))). IsOver (xs ++ statement ∷ ys) room (l ++ one ∷ later)) same (split one later its.0)

      by : Parted xs (statement ∷ ys) whole → IsOver (xs ++ statement ∷ ys) room whole
      by p = subst (IsOver (xs ++ statement ∷ ys) room) (sym p.is) (back p.front p.back (one-front xs live p.front front.instances p.front_are) p.back_are)
