-- The goals of table atoms: which places they speak of.
use Rattle.std.proofs.Common.{◌≡◌, ◌⊎◌, inl, inr, ℕ, zero, suc, ◌<◌, ◌≤◌, List, [], ◌∷◌, ◌++◌, map, refl, ap, subst, ⊎_elim, arith}
use Rattle.std.specs.Prelude.{Option, Some, None}
use Rattle.std.specs.List.{flat_map}
use Rattle.std.proofs.lemmas.Bool.{cases_lt}
use Rattle.tel_base.specs.Members.{In}
use Rattle.tel_base.proofs.Members.{In-append_left, In-append_right, In-append_cases}
use Rattle.tel_term.specs.declared.terms.Value.{Value}
use Rattle.tel_term.specs.declared.exprs.Expr.{Expr}
use Rattle.tel_rule.specs.declared.formulas.Atom.{Atom}
use Rattle.rule_binding.specs.Binding.{whole_var, one_var, whole_args}
use Rattle.join_plans.specs.Atoms.{Arg, Whole, Other, places, after_args, after_atoms}
use Rattle.join_plans.specs.Goals.{Goal, IsRow, HasValue, Compares, arg_goals, atom_goals}
use Rattle.rule_plans.specs.Goals.{Rows, arg_from, arg_of, table_atom_of}
use Rattle.rule_goals.proofs.Stuck.{atom_vars}

-- ---- places of arguments

at_or_above : (k v : ℕ) → k ≤ v → (k ≡ v) ⊎ (suc k ≤ v)
at_or_above zero zero least = inl refl
at_or_above zero (suc v) least = inr (omega arith)
at_or_above (suc k) zero least = absurd (omega (arith, least))
at_or_above (suc k) (suc v) least = ⊎_elim (λ (same : k ≡ v). inl (ap suc same)) (λ (above : suc k ≤ v). inr (omega (arith, above))) (at_or_above k v (omega (arith, least)))

whole_step : (k v : ℕ) (arg : Expr) (args : List Arg) (more : List ℕ) (whole : Option ℕ) → ((j : ℕ) → In v more → In v (places j args)) → In v (one_var whole ++ more) → In v (places k (arg_from arg whole ∷ args))
whole_step k v arg args more None rest there = inr (rest (suc k) there)
whole_step k v arg args more (Some w) rest there = ⊎_elim (λ (same : w ≡ v). inl same) (λ later. inr (rest k later)) there

whole_in_places : (v : ℕ) (args : List Expr) (k : ℕ) → In v (whole_args args) → In v (places k (map arg_of args))
whole_in_places v [] k there = absurd there
whole_in_places v (arg ∷ args) k there = whole_step k v arg (map arg_of args) (whole_args args) (whole_var arg) (λ j. whole_in_places v args j) there

-- a place of an argument is that of a whole variable, or a free one
kind_step : (k v : ℕ) (arg : Expr) (args : List Arg) (more : List ℕ) (whole : Option ℕ) → ((j : ℕ) → In v (places j args) → In v more ⊎ (j ≤ v)) → In v (places k (arg_from arg whole ∷ args)) → In v (one_var whole ++ more) ⊎ (k ≤ v)
kind_step k v arg args more None rest there =
    ⊎_elim (λ (same : k ≡ v). inr (omega (arith, same)))
    (λ later. ⊎_elim (λ (own : In v more). inl own) (λ (least : suc k ≤ v). inr (omega (arith, least))) (rest (suc k) later))
    there
kind_step k v arg args more (Some w) rest there =
    ⊎_elim (λ (same : w ≡ v). inl (inl same))
    (λ later. ⊎_elim (λ (own : In v more). inl (inr own)) (λ (least : k ≤ v). inr least) (rest k later))
    there

places_kind : (v : ℕ) (args : List Expr) (k : ℕ) → In v (places k (map arg_of args)) → In v (whole_args args) ⊎ (k ≤ v)
places_kind v [] k there = absurd there
places_kind v (arg ∷ args) k there = kind_step k v arg (map arg_of args) (whole_args args) (whole_var arg) (λ j. places_kind v args j) there

free_in_places : (v k : ℕ) (args : List Arg) → k ≤ v → v < after_args k args → In v (places k args)
free_in_places v k [] least less = absurd (omega (arith, least, less))
free_in_places v k (Whole w ∷ args) least less = inr (free_in_places v k args least less)
free_in_places v k (Other e ∷ args) least less = ⊎_elim (λ (same : k ≡ v). inl same) (λ (above : suc k ≤ v). inr (free_in_places v (suc k) args above less)) (at_or_above k v least)

args_least : (k : ℕ) (args : List Arg) → k ≤ after_args k args
args_least k [] = omega arith
args_least k (Whole w ∷ args) = args_least k args
args_least k (Other e ∷ args) = let later = args_least (suc k) args in omega (arith, later)

-- ---- goals

-- the places of a goal are those of these variables, or free ones from k on
abbrev pub IsOfRows : List ℕ → ℕ → Goal → Type 0
IsOfRows vars k (IsRow where_to its) = (v : ℕ) → In v where_to → In v vars ⊎ (k ≤ v)
IsOfRows vars k (HasValue place e) = k ≤ place
IsOfRows vars k (Compares c) = ⊥

wider : (few vars : List ℕ) (j k : ℕ) → ((v : ℕ) → In v few → In v vars) → k ≤ j → (goal : Goal) → IsOfRows few j goal → IsOfRows vars k goal
wider few vars j k more least (IsRow where_to its) of = λ v there. ⊎_elim (λ (own : In v few). inl (more v own)) (λ (above : j ≤ v). inr (omega (arith, least, above))) (of v there)
wider few vars j k more least (HasValue place e) of = omega (arith, least, of)
wider few vars j k more least (Compares c) of = absurd of

of_arg : (k : ℕ) (args : List Arg) (vars : List ℕ) (goal : Goal) → In goal (arg_goals k args) → IsOfRows vars k goal
of_arg k [] vars goal there = absurd there
of_arg k (Whole v ∷ args) vars goal there = of_arg k args vars goal there
of_arg k (Other e ∷ args) vars goal there =
    ⊎_elim (λ (same : HasValue k e ≡ goal). subst (λ (g : Goal). IsOfRows vars k g) same (omega arith))
    (λ later. wider vars vars (suc k) k (λ v own. own) (omega arith) goal (of_arg (suc k) args vars goal later))
    there

module _ (rows : Rows) where
  pub of_rows : (k : ℕ) (atoms : List Atom) (goal : Goal) → In goal (atom_goals k (map (table_atom_of rows) atoms)) → IsOfRows (flat_map atom_vars atoms) k goal
  of_rows k [] goal there = absurd there
  of_rows k (atom ∷ atoms) goal there =
      let args = map arg_of atom.args in
      let next = after_args k args in
      let rest = flat_map atom_vars atoms in
      let row : Goal = IsRow (places k args) (table_atom_of rows atom).rows in
      ⊎_elim
      (λ (same : row ≡ goal).
      subst (λ (g : Goal). IsOfRows (atom_vars atom ++ rest) k g) same
      (λ v own. ⊎_elim (λ (whole : In v (whole_args atom.args)). inl (In-append_left v (atom_vars atom) rest whole)) (λ (least : k ≤ v). inr least) (places_kind v atom.args k own)))
      (λ later.
      ⊎_elim (λ (own : In goal (arg_goals k args)). of_arg k args (atom_vars atom ++ rest) goal own)
      (λ (behind : In goal (atom_goals next (map (table_atom_of rows) atoms))).
      wider rest (atom_vars atom ++ rest) next k (λ v own. In-append_right v (atom_vars atom) rest own) (args_least k args) goal (of_rows next atoms goal behind))
      (In-append_cases goal (arg_goals k args) (atom_goals next (map (table_atom_of rows) atoms)) later))
      there

  -- a goal for rows that has this place
  pub record Covers (v : ℕ) (goals : List Goal) : Type 0 where
    pub where_to : List ℕ
    pub its : List (List Value)
    pub there : In (IsRow where_to its) goals
    pub own : In v where_to

  later_covers : (v k : ℕ) (atom : Atom) (atoms : List Atom) → Covers v (atom_goals (after_args k (map arg_of atom.args)) (map (table_atom_of rows) atoms)) → Covers v (atom_goals k (map (table_atom_of rows) (atom ∷ atoms)))
  later_covers v k atom atoms later = record {
    where_to = later.where_to;
    its = later.its;
    there = inr (In-append_right (IsRow later.where_to later.its) (arg_goals k (map arg_of atom.args)) (atom_goals (after_args k (map arg_of atom.args)) (map (table_atom_of rows) atoms)) later.there);
    own = later.own;
  }

  pub whole_covers : (v k : ℕ) (atoms : List Atom) → In v (flat_map atom_vars atoms) → Covers v (atom_goals k (map (table_atom_of rows) atoms))
  whole_covers v k [] there = absurd there
  whole_covers v k (atom ∷ atoms) there =
      ⊎_elim
      (λ (here : In v (whole_args atom.args)). record { where_to = places k (map arg_of atom.args); its = (table_atom_of rows atom).rows; there = inl refl; own = whole_in_places v atom.args k here })
      (λ (later : In v (flat_map atom_vars atoms)). later_covers v k atom atoms (whole_covers v (after_args k (map arg_of atom.args)) atoms later))
      (In-append_cases v (atom_vars atom) (flat_map atom_vars atoms) there)

  pub free_covers : (v k : ℕ) (atoms : List Atom) → k ≤ v → v < after_atoms k (map (table_atom_of rows) atoms) → Covers v (atom_goals k (map (table_atom_of rows) atoms))
  free_covers v k [] least less = absurd (omega (arith, least, less))
  free_covers v k (atom ∷ atoms) least less =
      let args = map arg_of atom.args in
      ⊎_elim
      (λ (below : v < after_args k args). record { where_to = places k args; its = (table_atom_of rows atom).rows; there = inl refl; own = free_in_places v k args least below })
      (λ (above : after_args k args ≤ v). later_covers v k atom atoms (free_covers v (after_args k args) atoms above less))
      (cases_lt v (after_args k args))
