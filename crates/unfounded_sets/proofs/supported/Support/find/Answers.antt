use Rattle.std.proofs.Common.{◌∙◌, sym}
use Rattle.unfounded_sets.specs.Scanning.{state_of}
use Rattle.unfounded_sets.proofs.Scans.{end_closed, empty_list}
use Rattle.unfounded_sets.proofs.supported.Support.find.Goals as goal

pub returns-clause-closed : goal.returns-clause-closed
returns-clause-closed c =
    end_closed c.args.ground.now c.args.trail.now.entries c.args.bound (state_of c.scanning.self) c.scanning.invariant.served (empty_list c.scanning.self.fresh.items (sym c.scanning.self.fresh.ok.0 ∙ c.in_default.ensures.cases.0))
