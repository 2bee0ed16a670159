-- Where an instance stands, and its body there.
use Rattle.std.specs.Prelude.{ℕ, ◌-◌, Bool, true, not, ◌&&◌, ◌||◌, List, [], ◌∷◌, ◌++◌, nat_lt, ◌==◌, if◌then◌else◌}
use Rattle.std.specs.List.{list_all, flat_map}
use Rattle.tel_base.specs.declared.literals.Lit.{Lit}
use Rattle.tel_base.specs.Literals.{lit_of}
use Rattle.tel_rule.specs.declared.parts.Part.{Part}
use Rattle.tel_rule.specs.declared.parts.Part.TheVariants as parts
use Rattle.tel_rule.specs.declared.ground.Instance.{Instance}
use Rattle.tel_rule.specs.declared.ground.BodyLit.{BodyLit}
use Rattle.tel_rule.specs.declared.ground.BodyItem.{BodyItem}
use Rattle.tel_rule.specs.declared.ground.BodyItem.TheVariants as items
use Rattle.atom_space.specs.Numbers.{Counts, visible, part, end_at}

-- whether a part has instances at the state t
abbrev pub part_stands : Part → ℕ → Bool
part_stands parts.Initial t = t == 0
part_stands parts.Dynamic t = nat_lt 0 t
part_stands parts.Always t = true
part_stands parts.Final t = true

-- a positive literal that looks one state back stands at no first state
abbrev pub item_stands : ℕ → Bool → BodyItem → Bool
item_stands t positive (items.Before atom) = not positive || nat_lt 0 t
item_stands t positive item = true

abbrev pub literal_stands : ℕ → BodyLit → Bool
literal_stands t literal = item_stands t literal.positive literal.item

abbrev pub stands : ℕ → Instance → Bool
stands t instance = part_stands instance.part t && list_all (literal_stands t) instance.body

-- the literals of an item at a state: none where it looks back from the first state
abbrev pub item_lits : Counts → ℕ → Bool → BodyItem → List Lit
item_lits counts t positive (items.Atom atom) = record { var = visible counts atom t; positive = positive } ∷ []
item_lits counts t positive (items.Before atom) = if nat_lt 0 t then record { var = visible counts atom (t - 1); positive = positive } ∷ [] else []
item_lits counts t positive (items.Node node) = record { var = part counts node t; positive = positive } ∷ []

abbrev pub literal_lits : Counts → ℕ → BodyLit → List Lit
literal_lits counts t literal = item_lits counts t literal.positive literal.item

-- an instance of the final part asks for the end too
abbrev pub part_lits : Counts → ℕ → Part → List Lit
part_lits counts t parts.Final = lit_of (end_at counts t) ∷ []
part_lits counts t other = []

-- the body of an instance at the state t
abbrev pub body_lits : Counts → ℕ → Instance → List Lit
body_lits counts t instance = flat_map (literal_lits counts t) instance.body ++ part_lits counts t instance.part
