-- Lists without doubles, by their members.
use Rattle.std.specs.Prelude.{◌≤◌, List, length}
use Rattle.tel_term.specs.declared.terms.Value.{Value}
use Rattle.tel_base.specs.Members.{In}
use Rattle.join_plans.specs.Once.{IsOnce}

-- a list without doubles is at most as long as any that has its members
abbrev pub FewerMembers : Type 0
FewerMembers = (xs ys : List (List Value)) → IsOnce xs → ((x : List Value) → In x xs → In x ys) → length xs ≤ length ys
