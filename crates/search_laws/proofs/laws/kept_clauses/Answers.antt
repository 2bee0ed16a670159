use Rattle.search_laws.proofs.Ordered.{own, blocks_are_right, learnt_are_right, kept_are_right, modules_and_loops}
use Rattle.search_laws.proofs.Listing.{never_is_right}
use Rattle.search_laws.proofs.laws.kept_clauses.Goals as goal

pub returns-clause-always : goal.returns-clause-always
returns-clause-always c = modules_and_loops

pub returns-clause-learnt : goal.returns-clause-learnt
returns-clause-learnt c = λ lengths n before one S values laid grown stands origin is free. learnt_are_right lengths n laid before one S values grown stands origin is free

pub returns-clause-blocks : goal.returns-clause-blocks
returns-clause-blocks c = λ lengths n before clause decisions S values laid grown stands block. blocks_are_right lengths n laid before clause decisions S values grown stands block

pub returns-clause-later : goal.returns-clause-later
returns-clause-later c = kept_are_right

pub returns-clause-found : goal.returns-clause-found
returns-clause-found c = λ lengths n held decisions S values laid grown stands finds. own lengths n laid held decisions S values grown stands finds.total finds.set

pub returns-clause-never : goal.returns-clause-never
returns-clause-never c = never_is_right
