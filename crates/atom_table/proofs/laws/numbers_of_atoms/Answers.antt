use Rattle.std.proofs.Common.{◌≡◌, ℕ, List, sym, true≢false, Option, Some, None, IsSome}
use Rattle.tel_base.proofs.Members.{In, In-get_or, any_from}
use Rattle.atom_table.specs.Named.{NamedAtom, named_eq, number_of}
use Rattle.atom_table.proofs.Lone.{stands_at, some_from}
use Rattle.atom_table.proofs.PairNumbers.{named_one, named_itself, number_stands, stands_numbered}
use Rattle.atom_table.proofs.laws.numbers_of_atoms.Goals as goal

pub returns-clause-stand : goal.returns-clause-stand
returns-clause-stand c =
    λ symbols atoms numbered sorted atom number. (number_stands symbols atoms numbered atom number sorted, λ h. stands_numbered symbols atoms numbered atom number sorted h.0 h.1)

there_from : (atoms : List NamedAtom) (atom : NamedAtom) (number : Option ℕ) → number_of atoms atom ≡ number → IsSome number → In atom atoms
there_from atoms atom (Some n) is some =
    let at = stands_at (named_eq atom) atoms n atom is in
    In-get_or atoms n atom at.0 (sym (named_one atom _ at.1))
there_from atoms atom None is some = absurd (true≢false (sym some))

pub returns-clause-all : goal.returns-clause-all
returns-clause-all c = λ atoms atom. (λ there. some_from (named_eq atom) atoms (any_from (named_eq atom) atoms atom there (named_itself atom)), λ some. there_from atoms atom (number_of atoms atom) (λ i. number_of atoms atom) some)
