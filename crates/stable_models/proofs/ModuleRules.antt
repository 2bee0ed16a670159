-- The rules of the modules are those of the program.
use Rattle.std.proofs.Common.{◌≡◌, ℕ, ◌-◌, List, [], ◌∷◌, ◌++◌, length, cond, refl, sym, ap, ◌∙◌}
use Rattle.std.specs.Prelude.{nat_lt}
use Rattle.std.specs.List.{flat_map, range_with_len}
use Rattle.std.proofs.lemmas.List.Folds.{flat_map-map}
use Rattle.tel_rule.specs.Ground.{Ground}
use Rattle.normal_program.specs.declared.rules.NRule.{NRule}
use Rattle.normal_program.specs.declared.modules.StepModule.{StepModule}
use Rattle.normal_program.specs.Shapes.{rules_of_node}
use Rattle.formula_unfold.specs.Nodes.{counts_of, node_at}
use Rattle.step_module.specs.Rules.{instance_rules, instance_next, numbered}
use Rattle.stable_models.proofs.ProgramRules.{node_rules, module_rules, program_rules, program_pairs}
use Rattle.completion.specs.Lengths.{rules_of_modules, pairs_of_modules}
use Rattle.stable_models.specs.Programs.{end_fact, modules_of}
use Rattle.normal_program.specs.Grounds.{all_rules}
use Rattle.step_module.specs.Modules.{module_of}

together : {A : Type 0} (xs ys zs : List A) → (xs ++ (ys ++ zs)) ≡ ((xs ++ ys) ++ zs)
together [] ys zs = refl
together (x ∷ xs) ys zs = ap (λ rest. x ∷ rest) (together xs ys zs)

same_module : (program : Ground) (t : ℕ) → module_rules program t ≡ all_rules (module_of program t)
same_module program t =
    let now = numbered (instance_rules (counts_of program) t) 0 program.instances in
    let next = cond (nat_lt 0 t) (numbered (instance_next (counts_of program) (t - 1)) 0 program.instances) [] in
    let xs = range_with_len 0 (length program.nodes) in
    together now next (flat_map (node_rules program t) xs) ∙ ap (λ (rules : List NRule). (now ++ next) ++ rules) (sym (flat_map-map rules_of_node (node_at program t) xs))

pub same_rules : (program : Ground) (n : ℕ) → program_rules program n ≡ rules_of_modules (end_fact program (n - 1)) (modules_of program n)
same_rules program n =
    let fact = end_fact program (n - 1) in
    let ts = range_with_len 0 n in
    let each : module_rules program ≡ (λ (t : ℕ). all_rules (module_of program t)) = λ i t. same_module program t i in
    ap (λ (rules : ℕ → List NRule). fact ∷ flat_map rules ts) each ∙ ap (λ (rules : List NRule). fact ∷ rules) (sym (flat_map-map all_rules (module_of program) ts))

pub same_pairs : (program : Ground) (n : ℕ) → program_pairs program n ≡ pairs_of_modules (modules_of program n)
same_pairs program n = sym (flat_map-map (λ (step : StepModule). step.pairs) (module_of program) (range_with_len 0 n))
