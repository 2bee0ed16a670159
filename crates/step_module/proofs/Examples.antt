-- Modules of small programs, worked out by hand.
use Rattle.std.proofs.Common.{◌≡◌, ℕ, true, false, List, [], ◌∷◌, Some, None, refl}
use Rattle.tel_base.specs.Literals.{lit_of, negate}
use Rattle.tel_rule.specs.declared.formulas.UnaryOp.TheVariants as unary
use Rattle.tel_rule.specs.declared.parts.Part.{Part}
use Rattle.tel_rule.specs.declared.parts.Part.TheVariants as parts
use Rattle.tel_rule.specs.declared.nodes.NodeOp.TheVariants as ops
use Rattle.tel_rule.specs.declared.nodes.Kid.TheVariants as kids
use Rattle.tel_rule.specs.declared.nodes.Node.{Node}
use Rattle.tel_rule.specs.declared.ground.GroundAtom.{GroundAtom}
use Rattle.tel_rule.specs.declared.ground.GroundHead.{GroundHead}
use Rattle.tel_rule.specs.declared.ground.GroundHead.TheVariants as heads
use Rattle.tel_rule.specs.declared.ground.BodyLit.{BodyLit}
use Rattle.tel_rule.specs.declared.ground.BodyItem.TheVariants as items
use Rattle.tel_rule.specs.declared.ground.Instance.{Instance}
use Rattle.tel_rule.specs.declared.ground.Show.TheVariants as shows
use Rattle.tel_rule.specs.Ground.{Ground}
use Rattle.normal_program.specs.declared.shapes.Shape.TheVariants as shapes
use Rattle.normal_program.specs.declared.modules.BodyHead.TheVariants as uses
use Rattle.step_module.specs.Modules.{module_of}

atom : ℕ → GroundAtom
atom name = record { negative = false; name = name; args = [] }

abbrev program : List GroundAtom → List Node → List Instance → Ground
program atoms nodes instances = record { symbols = []; atoms = atoms; pairs = []; nodes = nodes; instances = instances; show = shows.All }

abbrev instance : Part → GroundHead → List BodyLit → Instance
instance part head body = record { statement = 0; part = part; head = head; body = body }

-- a.
abbrev fact : Ground
fact = program (atom 0 ∷ []) [] (instance parts.Initial (heads.Normal 0 false) [] ∷ [])

fact-0 : module_of fact 0 ≡ record {
  t = 0;
  bodies = record { var = 1; lits = []; head = uses.Normal 0 } ∷ [];
  rules = record { head = Some 0; choice = false; pos = []; neg = []; body = Some 1 } ∷ [];
  nodes = [];
  pairs = [];
  atoms = 0 ∷ [];
  open_vars = [];
  end = 2;
  close = None;
}
fact-0 = refl

fact-1 : module_of fact 1 ≡ record { t = 1; bodies = []; rules = []; nodes = []; pairs = []; atoms = 3 ∷ []; open_vars = []; end = 5; close = Some (negate (lit_of 2)) }
fact-1 = refl

-- #program always. p :- &tel { >? q }. #program dynamic. q :- 'p.
abbrev loop : Ground
loop =
    program (atom 0 ∷ atom 1 ∷ []) (record { op = ops.Unary unary.OnceAfter; kids = kids.Atom 1 ∷ [] } ∷ [])
    (instance parts.Always (heads.Normal 0 false) (record { positive = true; item = items.Node 0 } ∷ []) ∷ instance parts.Dynamic (heads.Normal 1 false) (record { positive = true; item = items.Before 0 } ∷ []) ∷ [])

loop-0 : module_of loop 0 ≡ record {
  t = 0;
  bodies = record { var = 3; lits = lit_of 2 ∷ []; head = uses.Normal 0 } ∷ [];
  rules = record { head = Some 0; choice = false; pos = 2 ∷ []; neg = []; body = Some 3 } ∷ [];
  nodes = record { var = 2; shape = shapes.Any (lit_of 1 ∷ lit_of 8 ∷ []) } ∷ [];
  pairs = [];
  atoms = 0 ∷ 1 ∷ [];
  open_vars = 8 ∷ [];
  end = 5;
  close = None;
}
loop-0 = refl

loop-1 : module_of loop 1 ≡ record {
  t = 1;
  bodies = record { var = 9; lits = lit_of 8 ∷ []; head = uses.Normal 6 } ∷ record { var = 10; lits = lit_of 0 ∷ []; head = uses.Normal 7 } ∷ [];
  rules = record { head = Some 6; choice = false; pos = 8 ∷ []; neg = []; body = Some 9 } ∷ record { head = Some 7; choice = false; pos = 0 ∷ []; neg = []; body = Some 10 } ∷ [];
  nodes = record { var = 8; shape = shapes.Any (lit_of 7 ∷ lit_of 14 ∷ []) } ∷ [];
  pairs = [];
  atoms = 6 ∷ 7 ∷ [];
  open_vars = 14 ∷ [];
  end = 11;
  close = Some (negate (lit_of 5));
}
loop-1 = refl

-- every part and every head: #program initial. {a}. #program dynamic. a' :- not 'a. #program always. {a'} :- a. #program final. :- not a. and a primed head of the final part
abbrev heads_and_parts : Ground
heads_and_parts =
    program (atom 0 ∷ []) []
    (instance parts.Initial (heads.Choice 0 false) []
    ∷ instance parts.Dynamic (heads.Normal 0 true) (record { positive = false; item = items.Before 0 } ∷ [])
    ∷ instance parts.Always (heads.Choice 0 true) (record { positive = true; item = items.Atom 0 } ∷ [])
    ∷ instance parts.Final heads.None (record { positive = false; item = items.Atom 0 } ∷ [])
    ∷ instance parts.Final (heads.Normal 0 true) (record { positive = false; item = items.Before 0 } ∷ [])
    ∷ [])

heads_and_parts-0 : module_of heads_and_parts 0 ≡ record {
  t = 0;
  bodies = record { var = 1; lits = []; head = uses.Choice 0 }
      ∷ record { var = 3; lits = lit_of 0 ∷ []; head = uses.NextChoice }
      ∷ record { var = 4; lits = negate (lit_of 0) ∷ lit_of 6 ∷ []; head = uses.Nothing }
      ∷ record { var = 5; lits = lit_of 6 ∷ []; head = uses.NextNormal }
      ∷ [];
  rules = record { head = Some 0; choice = true; pos = []; neg = []; body = Some 1 }
      ∷ record { head = None; choice = false; pos = 6 ∷ []; neg = 0 ∷ []; body = Some 4 }
      ∷ record { head = None; choice = false; pos = 6 ∷ 6 ∷ []; neg = []; body = Some 5 }
      ∷ [];
  nodes = [];
  pairs = [];
  atoms = 0 ∷ [];
  open_vars = [];
  end = 6;
  close = None;
}
heads_and_parts-0 = refl

heads_and_parts-1 : module_of heads_and_parts 1 ≡ record {
  t = 1;
  bodies = record { var = 9; lits = negate (lit_of 0) ∷ []; head = uses.NextNormal }
      ∷ record { var = 10; lits = lit_of 7 ∷ []; head = uses.NextChoice }
      ∷ record { var = 11; lits = negate (lit_of 7) ∷ lit_of 13 ∷ []; head = uses.Nothing }
      ∷ record { var = 12; lits = negate (lit_of 0) ∷ lit_of 13 ∷ []; head = uses.NextNormal }
      ∷ [];
  rules = record { head = None; choice = false; pos = 13 ∷ []; neg = 0 ∷ []; body = Some 9 }
      ∷ record { head = None; choice = false; pos = 13 ∷ []; neg = 7 ∷ []; body = Some 11 }
      ∷ record { head = None; choice = false; pos = 13 ∷ 13 ∷ []; neg = 0 ∷ []; body = Some 12 }
      ∷ record { head = Some 7; choice = true; pos = 0 ∷ []; neg = []; body = Some 3 }
      ∷ record { head = Some 7; choice = false; pos = 6 ∷ []; neg = []; body = Some 5 }
      ∷ [];
  nodes = [];
  pairs = [];
  atoms = 7 ∷ [];
  open_vars = [];
  end = 13;
  close = Some (negate (lit_of 6));
}
heads_and_parts-1 = refl
