-- A turn of the walk over statements.
use Rattle.std.proofs.Common.{◌≡◌, ℕ, ◌+◌, ◌<◌, List, [], ◌∷◌, ◌++◌, length, take, drop, get_or, sym, ap, ◌∙◌, subst, add-one}
use Rattle.std.proofs.Math.Seq.{drop-cons}
use Rattle.std.proofs.lemmas.List.{take_more, take-append-drop}
use Rattle.tel_base.specs.Members.{In}
use Rattle.tel_base.proofs.Members.{In-get_or}
use Rattle.tel_term.specs.declared.terms.Term.{Term}
use Rattle.tel_term.specs.declared.terms.Value.{Value}
use Rattle.tel_rule.specs.declared.statements.Statement.{Statement}
use Rattle.atom_table.specs.Named.{NamedAtom}
use Rattle.program_instances.specs.Adding.{Gathers, Overflows, GathersAll, OverflowsAll}
use Rattle.program_instances.proofs.Fronts.{front-more, front-over}

module _ {X : Type 0} (things : List X) (i : ℕ) (thing : X) (inside : i < length things) (is : thing ≡ get_or things i thing) where
  next : drop i things ≡ thing ∷ drop (i + 1) things
  next = drop-cons things i thing inside ∙ (λ j. sym is j ∷ drop (sym (add-one i) j) things)

  more : take (i + 1) things ≡ take i things ++ thing ∷ []
  more = take_more things i thing inside ∙ ap (λ (x : X). take i things ++ x ∷ []) (sym is)

  whole : take i things ++ thing ∷ drop (i + 1) things ≡ things
  whole = ap (λ (l : List X). take i things ++ l) (sym next) ∙ take-append-drop i things

  pub there : In thing things
  there = In-get_or things i thing inside (sym is)

module _ (all : List Statement) (symbols : List Term) (statements : List Statement) (i : ℕ) (statement : Statement) (inside : i < length statements) (is : statement ≡ get_or statements i statement)
    (live : List (List (List Value))) (old : List NamedAtom) (room left : ℕ) (front : GathersAll all symbols (take i statements) live old room left) where
  pub statements-more : (one : List (List Value)) (both : List (List (List Value))) (new : List NamedAtom) (rest : ℕ) → both ≡ live ++ one ∷ [] → Gathers all symbols (length statement.vars) statement.kind old new left rest one
      → GathersAll all symbols (take (i + 1) statements) both new room rest
  statements-more one both new rest pushed gathers =
      subst (λ (l : List Statement). GathersAll all symbols l both new room rest) (sym (more statements i statement inside is))
      (subst (λ (l : List (List (List Value))). GathersAll all symbols (take i statements ++ statement ∷ []) l new room rest) (sym pushed)
      (front-more all symbols (take i statements) live statement one old new room left rest front gathers))

  pub statements-over : Overflows all symbols (length statement.vars) statement.kind old left → OverflowsAll all symbols statements room
  statements-over over =
      subst (λ (l : List Statement). OverflowsAll all symbols l room) (whole statements i statement inside is)
      (front-over all symbols (take i statements) (drop (i + 1) statements) live statement old room left front over)
