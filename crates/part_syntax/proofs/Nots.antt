-- A literal behind one `not` or two.
use Rattle.formula_syntax.specs.declared.marks.Mark.TheVariants as marks
use Rattle.std.proofs.Common.{◌≡◌, ℕ, ◌+◌, Option, refl, ap, ◌∙◌}
use Rattle.tel_rule.specs.declared.statements.LitItem.{LitItem}
use Rattle.tel_rule.specs.declared.statements.Literal.{Literal}
use Rattle.formula_syntax.specs.Points.{Point, Read, Reader}
use Rattle.grammar_laws.specs.Steps.{Got, Stuck, and_then, map_read, made, one, both, maybe, passes}
use Rattle.formula_syntax.specs.Grammar.{count, sign}
use Rattle.part_syntax.specs.Grammar.{behind_nots, negated_of}
use Rattle.part_syntax.specs.Reading.{read_negated, read_item_of}

nots_then : Read (Option (Unit {0})) → Reader LitItem → Read (Option (Unit {0}) × LitItem)
nots_then out second = and_then out (λ (a : Option (Unit {0})) (to : Point). map_read (λ (b : LitItem). (a, b)) (second to))

abbrev literal_of : ℕ → LitItem → Literal
literal_of nots item = behind_nots (1 + nots) item

two_steps : (out : Read (Option (Unit {0}))) (second : Reader LitItem) (nots : ℕ) (middle : Point) → map_read count out ≡ Got nots middle → map_read negated_of (map_read (λ (b : Option (Unit {0}) × LitItem). (tt, b)) (nots_then out second)) ≡ map_read (literal_of nots) (second middle)
unfolding nots_then
two_steps (Got further to) second nots middle is =
    let a : count further ≡ nots = cc in
    let b : to ≡ middle = cc in
    same further (second to) ∙ ap (λ (n : ℕ). map_read (literal_of n) (second to)) a ∙ ap (λ (p : Point). map_read (literal_of nots) (second p)) b
  where
    same : (further : Option (Unit {0})) (out : Read LitItem) → map_read negated_of (map_read (λ (b : Option (Unit {0}) × LitItem). (tt, b)) (map_read (λ (b : LitItem). (further, b)) out)) ≡ map_read (literal_of (count further)) out
    same further (Got item to) = refl
    same further (Stuck why rest) = refl
two_steps (Stuck why rest) second nots middle is = absurd cc

-- behind a `not`, and a further one or none, stands what the literal speaks of
pub negated_is : (n : ℕ) (from middle later : Point) (nots : ℕ) → one (sign marks.Not) from ≡ Got tt middle → made count (maybe (passes (sign marks.Not)) (one (sign marks.Not))) middle ≡ Got nots later → read_negated n from ≡ map_read (literal_of nots) (read_item_of n later)
unfolding nots_then
negated_is n from middle later nots first second =
    ap (λ (x : Read (Unit {0})). map_read negated_of (and_then x (λ (a : Unit {0}) (to : Point). map_read (λ (b : Option (Unit {0}) × LitItem). (a, b)) (both (maybe (passes (sign marks.Not)) (one (sign marks.Not))) (read_item_of n) to)))) first
    ∙ two_steps (maybe (passes (sign marks.Not)) (one (sign marks.Not)) middle) (read_item_of n) nots later second
