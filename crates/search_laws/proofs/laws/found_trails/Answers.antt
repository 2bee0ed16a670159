use Rattle.search_laws.proofs.FoundTrails.{trail_is_found, trail_is_unstable, closed_makes_true}
use Rattle.search_laws.proofs.Gaps.{shape_has_value}
use Rattle.search_laws.proofs.Bases.{visible_is_base}
use Rattle.search_laws.proofs.NoGaps.{no_gaps}
use Rattle.search_laws.proofs.AllValues.{gaps_are_total}
use Rattle.search_laws.proofs.laws.found_trails.Goals as goal

pub returns-clause-found : goal.returns-clause-found
returns-clause-found c = trail_is_found

pub returns-clause-unstable : goal.returns-clause-unstable
returns-clause-unstable c = trail_is_unstable

pub returns-clause-closed : goal.returns-clause-closed
returns-clause-closed c = closed_makes_true

pub returns-clause-shapes : goal.returns-clause-shapes
returns-clause-shapes c = shape_has_value

pub returns-clause-base : goal.returns-clause-base
returns-clause-base c = visible_is_base

pub returns-clause-gaps : goal.returns-clause-gaps
returns-clause-gaps c = no_gaps

pub returns-clause-total : goal.returns-clause-total
returns-clause-total c = gaps_are_total
