-- The models of a length, with the values of the bodies, satisfy the clauses of its modules.
use Rattle.std.proofs.Common.{◌≡◌, ℕ, ◌+◌, ◌/◌, ◌%◌, Bool, true, false, ◌&&◌, length, sym, ap, ◌∙◌, ⊎_elim}
use Rattle.std.specs.Prelude.{nat_lt, ◌==◌}
use Rattle.std.proofs.lemmas.Bool.{or_cases, ltb-true, eqb-true}
use Rattle.tel_rule.specs.Ground.{Ground}
use Rattle.tel_semantics.specs.Traces.{Test, test_of}
use Rattle.normal_program.specs.declared.modules.BodyDef.{BodyDef}
use Rattle.normal_program.specs.StableSets.{Set, lits_hold}
use Rattle.atom_space.specs.Numbers.{width}
use Rattle.formula_unfold.specs.Nodes.{counts_of}
use Rattle.step_module.specs.Bodies.{stands, body_lits}
use Rattle.step_module.specs.Modules.{module_of}
use Rattle.completion.proofs.StableSets.{stable_satisfy}
use Rattle.stable_models.specs.Values.{is_plain, full, body_value, full_with_bodies}
use Rattle.stable_models.specs.Laws.{ModelsAreValued, ModelsSatisfyClauses}
use Rattle.stable_models.proofs.BodyValues.{added, or_none, none_below, none_at_end, bodies_added}
use Rattle.stable_models.proofs.LawProofs.{models_are_stable}
use Rattle.stable_models.proofs.SettledModules.{templates_settled}
use Rattle.stable_models.proofs.PlainModules.{body_at_state, templates_apart, templates_plain}

-- no body is added at a plain variable
none_added : (program : Ground) (n : ℕ) (T : Test) (var : ℕ) → is_plain program var ≡ true → added program n T (var / width (counts_of program)) (var % width (counts_of program)) ≡ false
none_added program n T var h =
    let w = width (counts_of program) in
    let first = length program.atoms + length program.nodes in
    ⊎_elim
    (λ low. none_below program n T (var / w) (var % w) (ltb-true (var % w) first low))
    (λ last. ap (added program n T (var / w)) (eqb-true (var % w) (first + length program.instances) last) ∙ none_at_end program n T (var / w))
    (or_cases (nat_lt (var % w) first) (var % w == first + length program.instances) h)

stands_in : (program : Ground) (S : Set) (t : ℕ) (stand holds : Bool) → stand ≡ true → (stand && holds) ≡ holds
stands_in program S t stand holds h = λ i. h i && holds

pub models_valued : ModelsAreValued
models_valued program n T = record {
  same = λ var h. or_none _ _ (none_added program n T var h);
  bodies = λ t l def m.
      let w = body_at_state program t def m in
      let S : Set = full program n T T in
      ap (full_with_bodies program n T) (sym (ap (λ (d : BodyDef). d.var) w.is))
      ∙ ((bodies_added program n T).bodies w.number t w.within l
      ∙ (ap (body_value program S t) w.here
      ∙ (stands_in program S t (stands t w.instance) (lits_hold S S (body_lits (counts_of program) t w.instance)) w.stand
      ∙ ap (λ (d : BodyDef). lits_hold S S d.lits) w.is)));
}

pub models_satisfy : ModelsSatisfyClauses
models_satisfy program n trace ground some listed =
    let T = test_of trace in
    stable_satisfy (module_of program) n (is_plain program) (full program n T T) (full_with_bodies program n T) (templates_settled program n ground) (templates_apart program n ground) (templates_plain program n ground) some (models_are_stable program n trace ground some listed) (models_valued program n T)
