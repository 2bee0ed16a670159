-- Rules of shapes, worked out by hand.
use Rattle.std.proofs.Common.{◌≡◌, false, [], ◌∷◌, Some, None, refl}
use Rattle.tel_base.specs.declared.literals.Lit.{Lit}
use Rattle.tel_base.specs.Literals.{lit_of, negate}
use Rattle.normal_program.specs.declared.rules.NRule.{NRule}
use Rattle.normal_program.specs.declared.shapes.Shape.TheVariants as shapes
use Rattle.normal_program.specs.declared.shapes.NodeRule.{NodeRule}
use Rattle.normal_program.specs.Shapes.{rules_of_node}

one_or_two : rules_of_node (record { var = 9; shape = shapes.AnyAll (lit_of 1) (lit_of 2) (lit_of 3) }) ≡ record { head = Some 9; choice = false; pos = 1 ∷ []; neg = []; body = None }
    ∷ record { head = Some 9; choice = false; pos = 2 ∷ 3 ∷ []; neg = []; body = None }
    ∷ []
one_or_two = refl

same_or_none : rules_of_node (record { var = 9; shape = shapes.Same (lit_of 1) (negate (lit_of 2)) }) ≡ record { head = Some 9; choice = false; pos = 1 ∷ []; neg = 2 ∷ []; body = None }
    ∷ record { head = Some 9; choice = false; pos = 2 ∷ []; neg = 1 ∷ []; body = None }
    ∷ []
same_or_none = refl

never : rules_of_node (record { var = 9; shape = shapes.False }) ≡ []
never = refl
