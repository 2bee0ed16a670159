-- An instantiated program as contracts see it.
use Rattle.std.specs.Prelude.{◌≡◌, ℕ, Bool, true, ◌&&◌, List, length, nat_lt, slice_index_or, IsTrue, if◌then◌else◌}
use Rattle.std.specs.List.{list_all}
use Rattle.tel_term.specs.declared.terms.Term.{Term}
use Rattle.tel_rule.specs.declared.nodes.Node.{Node}
use Rattle.tel_rule.specs.declared.ground.GroundAtom.{GroundAtom}
use Rattle.tel_rule.specs.declared.ground.Instance.{Instance}
use Rattle.tel_rule.specs.declared.ground.GroundHead.{GroundHead}
use Rattle.tel_rule.specs.declared.ground.GroundHead.TheVariants as heads
use Rattle.tel_rule.specs.declared.ground.BodyLit.{BodyLit}
use Rattle.tel_rule.specs.declared.ground.BodyItem.{BodyItem}
use Rattle.tel_rule.specs.declared.ground.BodyItem.TheVariants as items
use Rattle.tel_rule.specs.declared.ground.Show.{Show}
use Rattle.tel_rule.specs.declared.ground.Show.TheVariants as shows
use Rattle.tel_rule.specs.Rising.{rises, numbers_rise}
use Rattle.tel_rule.specs.Nodes.{are_nodes, guards}
use Rattle.tel_rule.specs.Atoms.{atom_lt, atom_in_range, pairs_of}

pub record Ground : Type 0 where
  pub symbols : List Term
  pub atoms : List GroundAtom
  pub pairs : List (ℕ × ℕ)
  pub nodes : List Node
  pub instances : List Instance
  pub show : Show

abbrev pub ground_of : List Term → List GroundAtom → List (ℕ × ℕ) → List Node → List Instance → Show → Ground
ground_of symbols atoms pairs nodes instances show =
    record { symbols = symbols; atoms = atoms; pairs = pairs; nodes = nodes; instances = instances; show = show }

abbrev pub head_in_range : ℕ → GroundHead → Bool
head_in_range atoms (heads.Normal atom after) = nat_lt atom atoms
head_in_range atoms (heads.Choice atom after) = nat_lt atom atoms
head_in_range atoms heads.None = true

abbrev pub item_in_range : ℕ → ℕ → BodyItem → Bool
item_in_range atoms nodes (items.Atom atom) = nat_lt atom atoms
item_in_range atoms nodes (items.Before atom) = nat_lt atom atoms
item_in_range atoms nodes (items.Node node) = nat_lt node nodes

abbrev pub literal_in_range : ℕ → ℕ → BodyLit → Bool
literal_in_range atoms nodes literal = item_in_range atoms nodes literal.item

abbrev pub instance_in_range : ℕ → ℕ → Instance → Bool
instance_in_range atoms nodes instance = head_in_range atoms instance.head && list_all (literal_in_range atoms nodes) instance.body

-- whether each way from an item down to an arrow passes a Not
abbrev pub item_is_guarded : List Node → BodyItem → Bool
item_is_guarded nodes (items.Atom atom) = true
item_is_guarded nodes (items.Before atom) = true
item_is_guarded nodes (items.Node node) = slice_index_or (guards nodes) node true

-- the same for a positive literal; of a negative one it isn't asked
abbrev pub literal_is_guarded : List Node → BodyLit → Bool
literal_is_guarded nodes literal = if literal.positive then item_is_guarded nodes literal.item else true

abbrev pub body_is_guarded : List Node → GroundHead → List BodyLit → Bool
body_is_guarded nodes heads.None body = true
body_is_guarded nodes head body = list_all (literal_is_guarded nodes) body

-- whether in an instance with a head each way from a positive literal down to an arrow passes a Not
abbrev pub is_guarded : List Node → Instance → Bool
is_guarded nodes instance = body_is_guarded nodes instance.head instance.body

abbrev pub show_in_range : ℕ → Show → Bool
show_in_range atoms shows.All = true
show_in_range atoms (shows.Only shown) = numbers_rise shown && list_all (λ atom. nat_lt atom atoms) shown

-- what each program keeps: its atoms rise and its pairs are theirs, its numbers are in range, children come after their node, arrows are guarded
pub record IsGround (program : Ground) : Type 0 where
  pub named : IsTrue (list_all (atom_in_range program.symbols) program.atoms)
  pub rise : IsTrue (rises (atom_lt program.symbols) program.atoms)
  pub paired : program.pairs ≡ pairs_of program.atoms
  pub nodes : IsTrue (are_nodes (length program.atoms) (length program.nodes) 0 program.nodes)
  pub in_range : IsTrue (list_all (instance_in_range (length program.atoms) (length program.nodes)) program.instances)
  pub guarded : IsTrue (list_all (is_guarded program.nodes) program.instances)
  pub shown : IsTrue (show_in_range (length program.atoms) program.show)
