-- What a private function that reads statements ensures, over the methods of `Reading`.
use Rattle.std.specs.Prelude.{◌≡◌, ◌≢◌, ℕ, ◌+◌, ◌≤◌, List, length, Option, Result, Ok, Err}
use Rattle.tel_rule.specs.declared.statements.Literal.{Literal}
use Rattle.formula_syntax.specs.declared.reading.Stop.{Stop}
use Rattle.formula_syntax.specs.declared.reading.Stop.TheVariants as stops
use Rattle.formula_syntax.specs.Points.{Point, Read, Reader}
use Rattle.grammar_laws.specs.Points.{at}
use Rattle.grammar_laws.specs.Steps.{Got, Stuck}
use Rattle.formula_syntax.specs.Given.{why_of}
use Rattle.part_syntax.specs.declared.items.Item as declared
use Rattle.part_syntax.specs.declared.items.Item.TheVariants as items
use Rattle.part_syntax.specs.Grammar.{Item, InPart, Says, Stated, afresh, body_of}
use Rattle.part_syntax.specs.Reading.{read_stated}
use Rattle.part_syntax.specs.declared.texts.Stated as declared_stated

-- what the code's item is
abbrev pub item_of : declared.Item → Item
item_of (items.InPart part) = InPart part
item_of (items.Says kind) = Says kind

-- the item that the reader gives, unless memory fails
abbrev pub ReadsItem : Read Item → Result declared.Item Stop → Point → Type 0
ReadsItem outcome (Ok item) new = outcome ≡ Got (item_of item) new
ReadsItem outcome (Err stop) new = stop ≢ stops.Memory → outcome ≡ Stuck (why_of stop) new.words

-- for each name or string that became known, a word was taken
abbrev pub IsFrugal : Point → Point → Type 0
IsFrugal old new = length new.known.symbols + length new.words ≤ length old.known.symbols + length old.words

-- the literals of a body, or none, and the stop behind them
abbrev pub body_or_none : Option (List Literal) × Unit {0} → List Literal
body_or_none read = body_of (tt, read)

-- what the code's item is, with its place and its variables
abbrev pub stated_of : declared_stated.Stated → Stated
stated_of stated = record { place = stated.place; vars = stated.vars; item = item_of stated.item }

-- the same reading, where the variables of the last statement are known no more
abbrev pub forgotten : {A : Type 0} → Read A → Read A
forgotten (Got thing to) = Got thing (at (afresh to.known) to.words)
forgotten (Stuck why rest) = Stuck why rest

abbrev pub fresh_stated : ℕ → Reader Stated
fresh_stated n = λ from. forgotten (read_stated n from)

abbrev pub ReadsStated : Read Stated → Result declared_stated.Stated Stop → Point → Type 0
ReadsStated outcome (Ok stated) new = outcome ≡ Got (stated_of stated) new
ReadsStated outcome (Err stop) new = stop ≢ stops.Memory → outcome ≡ Stuck (why_of stop) new.words
