-- Reading statements and texts, by the level. Only private functions are held to it; the public contracts speak of the
-- grammar.
use Rattle.formula_syntax.specs.declared.marks.Mark.TheVariants as marks
use Rattle.std.specs.Prelude.{ℕ, suc, Bool, true, false, not, List, [], ◌∷◌, Option, if◌then◌else◌}
use Rattle.tel_base.specs.declared.places.Place.{Place}
use Rattle.tel_rule.specs.declared.statements.Head.{Head}
use Rattle.tel_rule.specs.declared.statements.LitItem.{LitItem}
use Rattle.tel_rule.specs.declared.statements.LitItem.TheVariants as items
use Rattle.tel_rule.specs.declared.statements.Literal.{Literal}
use Rattle.tel_rule.specs.declared.statements.Arg.{Arg}
use Rattle.tel_rule.specs.declared.statements.Fact.{Fact}
use Rattle.formula_syntax.specs.Points.{Word, Read, Reader}
use Rattle.grammar_laws.specs.Points.{at, begins}
use Rattle.grammar_laws.specs.Steps.{Got, Stuck, made, either, each, after, passes, or_also}
use Rattle.formula_syntax.specs.Grammar.{name, leaf, product_op, sum_op, sign}
use Rattle.formula_syntax.specs.Reading.{read_sign, read_expr, read_atom, read_formula, starts_atom, starts_flat, opens_value, opens_unary}
use Rattle.grammar_laws.specs.Productions.{begun_by, reader}
use Rattle.part_syntax.specs.Grammar.{relation, Item, word, comparison, Thing, ASign, AnExpr, AnAtomItem, AnAtom, AFormula, APlain, Of, Produces, tel, negatable, negated, literal, body, tail, arg, tuple, tuples, facts, head_of, behind_facts, signature, other_item, Stated, afresh}

-- ---- literals

abbrev pub read_comparison : ℕ → Reader LitItem
read_comparison n = reader word (λ i w. false) (λ i. read_expr (suc n)) comparison

abbrev pub read_atom_item : ℕ → Reader LitItem
read_atom_item n = made items.Atom (read_atom (suc n))

-- the words that go on with an expression or a comparison
abbrev pub goes_on : Word → Bool
goes_on = or_also (passes product_op) (or_also (passes sum_op) (passes relation))

-- whether words behind a `-` are an expression and no atom
abbrev pub compares_behind : List Word → Bool
compares_behind [] = true
compares_behind (word ∷ words) = if passes name word then begins goes_on words else not (passes (sign marks.Prime) word)

-- whether words that are an atom or a comparison are a comparison
unfoldable pub compares : List Word → Bool
compares [] = false
compares (word ∷ words) =
    if passes (sign marks.Minus) word then compares_behind words
    else (if passes name word then begins goes_on words else not (passes (sign marks.Prime) word))

abbrev pub read_plain : ℕ → Reader LitItem
read_plain n = λ from. if compares from.words then read_comparison n from else read_atom_item n from

-- the words that a value, an atom or a comparison, and a unary formula begin with
abbrev pub starts_value : Word → Bool
starts_value = or_also (passes leaf) opens_value

abbrev pub starts_unary : Word → Bool
starts_unary = or_also starts_flat opens_unary

abbrev pub starts_plain : Word → Bool
starts_plain = or_also starts_atom starts_value

-- the words that a thing begins with
abbrev pub starts : Thing → Word → Bool
starts ASign = starts_atom
starts AnExpr = starts_value
starts AnAtomItem = starts_atom
starts AnAtom = starts_atom
starts AFormula = starts_unary
starts APlain = starts_plain

abbrev pub read_thing : ℕ → (thing : Thing) → Reader (Of thing)
read_thing n ASign = read_sign
read_thing n AnExpr = read_expr (suc n)
read_thing n AnAtomItem = read_atom_item n
read_thing n AnAtom = read_atom (suc n)
read_thing n AFormula = read_formula (suc n)
read_thing n APlain = read_plain n

abbrev pub read_as : {A : Type 0} → Produces A → ℕ → Reader A
read_as production n = reader word starts (read_thing n) production

abbrev pub read_tel : ℕ → Reader LitItem
read_tel n = read_as tel n

abbrev pub read_item_of : ℕ → Reader LitItem
read_item_of n = read_as negatable n

abbrev pub read_negated : ℕ → Reader Literal
read_negated n = read_as negated n

abbrev pub read_literal : ℕ → Reader Literal
read_literal n = read_as literal n

abbrev pub starts_literal : Word → Bool
starts_literal = begun_by word starts literal

abbrev pub read_body : ℕ → Reader (List Literal)
read_body n = read_as body n

abbrev pub read_tail : ℕ → Reader (List Literal)
read_tail n = read_as tail n

abbrev pub read_arg : ℕ → Reader Arg
read_arg n = read_as arg n

abbrev pub read_tuple : ℕ → Reader (List Arg)
read_tuple n = read_as tuple n

abbrev pub read_tuples : ℕ → Reader (List (List Arg))
read_tuples n = read_as tuples n

abbrev pub read_facts : ℕ → Reader Fact
read_facts n = read_as facts n

abbrev pub read_behind : ℕ → Fact → Option Head → Reader Item
read_behind n fact head = read_as (behind_facts fact head) n

abbrev pub read_fact_or_rule : ℕ → Reader Item
read_fact_or_rule n = after (read_facts n) (λ fact. read_behind n fact (head_of fact))

abbrev pub starts_signature : Word → Bool
starts_signature = begun_by word starts signature

abbrev pub read_item : ℕ → Reader Item
read_item n = either starts_atom (read_fact_or_rule n) (read_as other_item n)

abbrev pub starts_item : Word → Bool
starts_item = or_also starts_atom (begun_by word starts other_item)

-- ---- texts

abbrev pub nowhere : Place
nowhere = record { file = 0; line = 0; at = 0 }

abbrev pub place_at : List Word → Place
place_at [] = nowhere
place_at (word ∷ words) = word.place

abbrev pub noted : Place → Read Item → Read Stated
noted place (Got item to) = Got (record { place = place; vars = to.known.vars; item = item }) to
noted place (Stuck why rest) = Stuck why rest

abbrev pub read_stated : ℕ → Reader Stated
read_stated n = λ from. noted (place_at from.words) (read_item n (at (afresh from.known) from.words))

abbrev pub read_text : ℕ → Reader (List Stated)
read_text n = each starts_item (read_stated n)
