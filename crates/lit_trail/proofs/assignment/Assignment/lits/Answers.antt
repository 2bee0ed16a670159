use Rattle.std.proofs.Common.{map, reverse, ap, ◌∙◌}
use Rattle.lit_trail.specs.declared.assignment.Entry.{Entry}
use Rattle.lit_trail.specs.Entries.{Assigned}
use Rattle.lit_trail.proofs.TableSteps.{order_of}
use Rattle.lit_trail.proofs.assignment.Assignment.lits.Goals as goal

pub returns : goal.returns
returns c = c.deref.ensures.value ∙ order_of _ _ ∙ ap (λ (v : Assigned). reverse (map (λ (entry : Entry). entry.lit) v.entries)) c.self.view_is
