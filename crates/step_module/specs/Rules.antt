-- The rules that an instance gives.
use Rattle.std.specs.Prelude.{ℕ, ◌+◌, Bool, true, false, List, [], ◌∷◌, ◌++◌, Option, Some, None, if◌then◌else◌}
use Rattle.tel_base.specs.declared.literals.Lit.{Lit}
use Rattle.tel_base.specs.Literals.{lit_of}
use Rattle.tel_rule.specs.declared.ground.Instance.{Instance}
use Rattle.tel_rule.specs.declared.ground.GroundHead.{GroundHead}
use Rattle.tel_rule.specs.declared.ground.GroundHead.TheVariants as heads
use Rattle.normal_program.specs.declared.rules.NRule.{NRule}
use Rattle.normal_program.specs.declared.modules.BodyHead.{BodyHead}
use Rattle.normal_program.specs.declared.modules.BodyHead.TheVariants as uses
use Rattle.normal_program.specs.declared.modules.BodyDef.{BodyDef}
use Rattle.normal_program.specs.Rules.{rule_of}
use Rattle.atom_space.specs.Numbers.{Counts, visible, body_at, end_at}
use Rattle.step_module.specs.Bodies.{stands, body_lits}

-- what the body of the state t is for
abbrev pub head_use : Counts → ℕ → GroundHead → BodyHead
head_use counts t (heads.Normal atom after) = if after then uses.NextNormal else uses.Normal (visible counts atom t)
head_use counts t (heads.Choice atom after) = if after then uses.NextChoice else uses.Choice (visible counts atom t)
head_use counts t heads.None = uses.Nothing

-- the rule with these literals as its body, for which a variable stands
abbrev pub instance_rule : Option ℕ → Bool → List Lit → ℕ → NRule
instance_rule head choice lits var = rule_of head choice lits (Some var)

-- the rules with a body of the state t in the module t: a head of the next state says there that t isn't the end
abbrev pub head_rules : Counts → ℕ → GroundHead → List Lit → ℕ → List NRule
head_rules counts t (heads.Normal atom after) lits var =
    if after then instance_rule None false (lits ++ lit_of (end_at counts t) ∷ []) var ∷ [] else instance_rule (Some (visible counts atom t)) false lits var ∷ []
head_rules counts t (heads.Choice atom after) lits var = if after then [] else instance_rule (Some (visible counts atom t)) true lits var ∷ []
head_rules counts t heads.None lits var = instance_rule None false lits var ∷ []

-- and in the module t + 1
abbrev pub next_rules : Counts → ℕ → GroundHead → List Lit → ℕ → List NRule
next_rules counts t (heads.Normal atom after) lits var = if after then instance_rule (Some (visible counts atom (t + 1))) false lits var ∷ [] else []
next_rules counts t (heads.Choice atom after) lits var = if after then instance_rule (Some (visible counts atom (t + 1))) true lits var ∷ [] else []
next_rules counts t heads.None lits var = []

-- what the instance with a number gives, where it stands at t
abbrev pub instance_bodies : Counts → ℕ → ℕ → Instance → List BodyDef
instance_bodies counts t number instance =
    if stands t instance then record { var = body_at counts number t; lits = body_lits counts t instance; head = head_use counts t instance.head } ∷ [] else []

abbrev pub instance_rules : Counts → ℕ → ℕ → Instance → List NRule
instance_rules counts t number instance = if stands t instance then head_rules counts t instance.head (body_lits counts t instance) (body_at counts number t) else []

abbrev pub instance_next : Counts → ℕ → ℕ → Instance → List NRule
instance_next counts t number instance = if stands t instance then next_rules counts t instance.head (body_lits counts t instance) (body_at counts number t) else []

-- what is made of each instance with its number, in order
abbrev pub numbered : {A : Type 0} → (ℕ → Instance → List A) → ℕ → List Instance → List A
numbered make number [] = []
numbered make number (instance ∷ more) = make number instance ++ numbered make (number + 1) more
