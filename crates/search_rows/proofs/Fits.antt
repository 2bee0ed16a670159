-- The clauses of a module are such as a search takes.
use Rattle.std.proofs.Common.{◌≡◌, ℕ, ◌-◌, ◌<◌, true, List, sym, subst}
use Rattle.std.specs.List.{list_all}
use Rattle.tel_base.specs.Members.{In}
use Rattle.atom_space.specs.Numbers.{Counts, end_at}
use Rattle.lit_trail.specs.Unassigned.{visible_below}
use Rattle.clause_store.specs.Held.{is_clause}
use Rattle.clause_store.specs.Closure.{Clause}
use Rattle.normal_program.specs.declared.modules.StepModule.{StepModule}
use Rattle.normal_program.specs.ModuleClauses.{clauses_of}
use Rattle.cdcl_search.specs.Searches.{vars_for}
use Rattle.cdcl_search.proofs.ModuleFits.{module_fits, visible_by_end}

pub clauses_fit : (step : StepModule) (clauses : List Clause) → clauses ≡ clauses_of step → list_all (is_clause (vars_for step clauses)) clauses ≡ true
clauses_fit step clauses same = subst (λ (cs : List Clause). list_all (is_clause (vars_for step cs)) cs ≡ true) (sym same) (module_fits step)

-- the variables of a length are below a number that its last end is below
pub visible_fit : (counts : Counts) (n vars : ℕ) → 0 < n → end_at counts (n - 1) < vars → (var : ℕ) → In var (visible_below counts n) → var < vars
visible_fit counts n vars some ending var i = visible_by_end counts n vars some ending var i
