-- Which clauses are false under a trail.
use Rattle.std.specs.Prelude.{IsTrue}
use Rattle.tel_base.specs.declared.literals.Lit.{Lit}
use Rattle.clause_store.specs.Held.{is_clause}
use Rattle.clause_store.specs.Closure.{Clause, refutes}
use Rattle.normal_program.specs.Grounds.{Layers}
use Rattle.lit_trail.specs.Entries.{View, back}
use Rattle.lit_trail.specs.Levels.{AreLevels, AreOrdered}
use Rattle.lit_trail.specs.Sound.{holds}
use Rattle.unfounded_sets.specs.declared.founded.LoopNogood.{LoopNogood}
use Rattle.unfounded_sets.specs.LoopClauses.{IsFalseLoop}
use Rattle.model_block.specs.Blocking.{block_of}

-- a clause over the variables of the trail whose literals are all false
abbrev pub IsFalseUnder : View → Clause → Type 0
IsFalseUnder trail clause = IsTrue (is_clause trail.vars clause) × IsTrue (refutes (holds trail.entries) clause)

-- a false loop clause is such
abbrev pub LoopIsFalseClause : Type 0
LoopIsFalseClause = (layers : Layers) (trail : View) (nogood : LoopNogood) → AreOrdered trail.vars trail.entries → IsFalseLoop layers trail.entries nogood → IsFalseUnder trail nogood.clause

-- and so is the blocking clause of a trail at whose level 1 the end holds
abbrev pub BlockIsFalseClause : Type 0
BlockIsFalseClause =
    (trail : View) (end : Lit) → AreOrdered trail.vars trail.entries → AreLevels trail.level trail.entries → IsTrue (holds (back 1 trail.entries) end) → IsFalseUnder trail (block_of trail.entries end)
