-- Rules of normal programs.
use Rattle.std.specs.Prelude.{ℕ, Bool, not, List, map, Option}
use Rattle.std.specs.List.{filter}
use Rattle.tel_base.specs.declared.literals.Lit.{Lit}
use Rattle.normal_program.specs.declared.rules.NRule.{NRule}

-- the variables of the positive literals, and those of the negative ones
abbrev pub positives : List Lit → List ℕ
positives lits = map (λ (lit : Lit). lit.var) (filter (λ (lit : Lit). lit.positive) lits)

abbrev pub negatives : List Lit → List ℕ
negatives lits = map (λ (lit : Lit). lit.var) (filter (λ (lit : Lit). not lit.positive) lits)

-- the rule with these literals as its body, and the variable that stands for it
abbrev pub rule_of : Option ℕ → Bool → List Lit → Option ℕ → NRule
rule_of head choice lits body = record { head = head; choice = choice; pos = positives lits; neg = negatives lits; body = body }
