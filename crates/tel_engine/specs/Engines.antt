-- What contracts see of an engine, and what each engine keeps.
use Rattle.std.specs.Prelude.{◌≡◌, ℕ, ◌+◌, ◌*◌, ◌≤◌, Bool, false, List, []}
use Rattle.tel_rule.specs.Ground.{Ground, IsGround}
use Rattle.atom_space.specs.Numbers.{Space, IsSpace, width}
use Rattle.formula_unfold.specs.Nodes.{counts_of}
use Rattle.search_laws.specs.Origins.{Kept}
use Rattle.cdcl_search.specs.Searches as searches
use Rattle.trace_list.specs.Lengths.{HasLength, HasLeft}
use Rattle.tel_engine.specs.declared.stages.Stage.{Stage}
use Rattle.tel_engine.specs.declared.stages.Stage.TheVariants as stages

-- the program, the greatest length and the length that it is at, the clauses that it holds with the lengths at which they came, and what it may do
-- next
pub record View : Type 0 where
  pub template : Ground
  pub greatest : ℕ
  pub length : ℕ
  pub kept : List Kept
  pub stage : Stage

abbrev pub view_of : Ground → Space → searches.View → ℕ → Stage → View
view_of template space search length stage = record {
  template = template;
  greatest = space.greatest;
  length = length;
  kept = search.kept;
  stage = stage;
}

-- the most variables that all states of the greatest length may have together
abbrev pub most_vars : ℕ
most_vars = 4194304

-- a program and a greatest length for which there are variables
pub record IsSmall (template : Ground) (greatest : ℕ) : Type 0 where
  pub some : 1 ≤ greatest
  pub few : greatest * width (counts_of template) ≤ most_vars

-- what the search has: the length, of which nothing is found yet; or what the lengths up to this one left
abbrev pub IsAt : Ground → ℕ → searches.View → Stage → Type 0
IsAt program n search stages.Extended = HasLength program n search []
IsAt program n search stages.Listed = HasLeft program n search
IsAt program n search stages.Lost = Unit {0}

-- one search over the variables of the program serves all its lengths; it has those of one state more than its length, where want of memory has not
-- left it wide
pub record IsEngine (template : Ground) (space : Space) (search : searches.View) (length : ℕ) (stage : Stage) (wide : Bool) : Type 0 where
  pub ground : IsGround template
  pub counts : space.counts ≡ counts_of template
  pub small : IsSpace space
  pub within : length ≤ space.greatest
  pub at : IsAt template length search stage
  pub few : wide ≡ false → search.vars ≤ (length + 1) * width (counts_of template)
