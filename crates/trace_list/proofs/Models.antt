-- What the search finds are models.
use Rattle.std.proofs.Common.{◌≡◌, ℕ, ◌<◌, Bool, true, cond, List, [], ◌∷◌, length, map, refl, ap, subst, ◌∙◌, inl, inr, arith}
use Rattle.std.specs.Prelude.{◌&&◌, ◌==◌}
use Rattle.std.specs.List.{filter, range_with_len, Contains}
use Rattle.std.proofs.lemmas.Bool.{or_left}
use Rattle.tel_base.specs.Literals.{lit_of}
use Rattle.tel_base.proofs.Members.{In, In-flat_map}
use Rattle.tel_rule.specs.Ground.{Ground}
use Rattle.tel_semantics.specs.Equilibrium.{list_of}
use Rattle.normal_program.specs.Grounds.{is_head}
use Rattle.normal_program.specs.StableSets.{Set}
use Rattle.atom_space.specs.Numbers.{visible}
use Rattle.lit_trail.specs.declared.assignment.Entry.{Entry}
use Rattle.lit_trail.specs.Sound.{holds}
use Rattle.unfounded_sets.specs.Unfounded.{is_true}
use Rattle.formula_unfold.specs.Nodes.{counts_of}
use Rattle.step_module.specs.Modules.{module_of}
use Rattle.completion.proofs.Ranges.{range_from, range_cases}
use Rattle.stable_models.specs.Values.{read_trace}
use Rattle.stable_models.specs.Laws.{full_of}
use Rattle.stable_models.proofs.LawProofs.{stable_are_models}
use Rattle.stable_models.proofs.SettledModules.{at_atom}
use Rattle.search_laws.specs.Lengths.{length_of}
use Rattle.search_laws.specs.Founded.{true_set}
use Rattle.search_laws.proofs.Composing.{stable_agree}
use Rattle.search_laws.proofs.FoundTrails.{true_holds}
use Rattle.template_lengths.proofs.Templates.{templates_composed}
use Rattle.trace_list.specs.Reading.{state_of, trace_of, FoundAreModels}

pub same_filter : (p q : ℕ → Bool) (xs : List ℕ) → ((x : ℕ) → In x xs → p x ≡ q x) → filter p xs ≡ filter q xs
same_filter p q [] h = refl
same_filter p q (x ∷ xs) h =
    ap (λ (b : Bool). cond b (x ∷ filter p xs) (filter p xs)) (h x (inl refl)) ∙ ap (λ (rest : List ℕ). cond (q x) (x ∷ rest) rest) (same_filter p q xs (λ y i. h y (inr i)))

pub same_map : (f g : ℕ → List ℕ) (xs : List ℕ) → ((x : ℕ) → In x xs → f x ≡ g x) → map f xs ≡ map g xs
same_map f g [] h = refl
same_map f g (x ∷ xs) h = (λ i. h x (inl refl) i ∷ same_map f g xs (λ y j. h y (inr j)) i)

module _ (program : Ground) (n : ℕ) (entries : List Entry) (heads : (var : ℕ) → In var (length_of (module_of program) n).visible → is_head (length_of (module_of program) n).ground.modules var ≡ true) where
  -- of an atom the set says what the trail says
  atom_value : (a k : ℕ) → a < length program.atoms → k < n → true_set (length_of (module_of program) n) entries (visible (counts_of program) a k) ≡ holds entries (lit_of (visible (counts_of program) a k))
  atom_value a k within l =
      let v = visible (counts_of program) a k in
      let inside = In-flat_map (λ (t : ℕ). (module_of program t).atoms) k v (range_with_len 0 n) (range_from n 0 k (omega arith) (omega (arith, l))) (at_atom program k a within) in
      let own = or_left (is_head (length_of (module_of program) n).ground.modules v) (v == (length_of (module_of program) n).ending) (heads v inside) in
      (λ i. own i && is_true entries v) ∙ true_holds entries v

  pub same_trace : read_trace program n (true_set (length_of (module_of program) n) entries) ≡ trace_of entries (counts_of program) n
  same_trace =
      same_map (λ (k : ℕ). filter (λ (a : ℕ). true_set (length_of (module_of program) n) entries (visible (counts_of program) a k)) (range_with_len 0 (length program.atoms))) (state_of entries (counts_of program)) (range_with_len 0 n) (λ k i.
      let l = range_cases n 0 k i in
      same_filter (λ (a : ℕ). true_set (length_of (module_of program) n) entries (visible (counts_of program) a k)) (λ (a : ℕ). holds entries (lit_of (visible (counts_of program) a k))) (range_with_len 0 (length program.atoms)) (λ a j.
      let m = range_cases (length program.atoms) 0 a j in
      atom_value a k (omega (arith, m.1)) (omega (arith, l.1))))

pub found_are_models : FoundAreModels
found_are_models program n clauses decisions entries ground some found =
    let S : Set = true_set (length_of (module_of program) n) entries in
    let stable = (stable_agree (module_of program) n S).1 found.stable in
    let models = stable_are_models program n S ground some stable in
    let heads = (templates_composed program n ground some).visible_heads in
    subst (λ (trace : List (List ℕ)). Contains (list_of program n) trace × ((v : ℕ) → S v ≡ full_of program n trace v)) (same_trace program n entries heads) models
