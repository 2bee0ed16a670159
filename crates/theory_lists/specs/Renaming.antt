-- Formulas over atoms of one kind as formulas over atoms of another.
use Rattle.tel_semantics.specs.Formula.{FormulaOver, True, False, Atom, And, Or, Arrow, Previous, Since, Trigger, Next, Until, Release}
use Rattle.tel_semantics.specs.Theory.{DemandOver}

-- the formula with each atom replaced
abbrev pub renamed : {X Y : Type 0} → (X → Y) → FormulaOver X → FormulaOver Y
renamed f True = True
renamed f False = False
renamed f (Atom atom) = Atom (f atom)
renamed f (And g h) = And (renamed f g) (renamed f h)
renamed f (Or g h) = Or (renamed f g) (renamed f h)
renamed f (Arrow g h) = Arrow (renamed f g) (renamed f h)
renamed f (Previous g) = Previous (renamed f g)
renamed f (Since g h) = Since (renamed f g) (renamed f h)
renamed f (Trigger g h) = Trigger (renamed f g) (renamed f h)
renamed f (Next g) = Next (renamed f g)
renamed f (Until g h) = Until (renamed f g) (renamed f h)
renamed f (Release g h) = Release (renamed f g) (renamed f h)

-- the same of a demand: its part stays
abbrev pub renamed_demand : {X Y : Type 0} → (X → Y) → DemandOver X → DemandOver Y
renamed_demand f demand = record { part = demand.part; formula = renamed f demand.formula }
