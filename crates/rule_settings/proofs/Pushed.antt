-- One setting more.
use Rattle.std.proofs.Common.{◌≡◌, ◌∙◌, List, [], ◌∷◌, ◌++◌, refl, ap}
use Rattle.rule_binding.specs.Binding as binding
use Rattle.rule_settings.specs.declared.candidates.Setting.{Setting}
use Rattle.rule_settings.specs.Said.{said, all_said}

said_more : (list : List Setting) (setting : Setting) → all_said (list ++ setting ∷ []) ≡ all_said list ++ said setting ∷ []
said_more [] setting = refl
said_more (one ∷ list) setting = ap (λ (l : List binding.Setting). said one ∷ l) (said_more list setting)

pub one_more : (old new : List Setting) (setting : Setting) → new ≡ old ++ setting ∷ [] → all_said new ≡ all_said old ++ said setting ∷ []
one_more old new setting is = ap all_said is ∙ said_more old setting
