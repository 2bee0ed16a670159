-- The term of a value, told in two ways.
use Rattle.std.proofs.Common.{◌≡◌, List, [], Some}
use Rattle.std.proofs.lemmas.Option.{get_or_from_slice_get}
use Rattle.tel_term.specs.declared.terms.Term.{Term}
use Rattle.tel_term.specs.declared.terms.Term.TheVariants as terms
use Rattle.tel_term.specs.declared.terms.Value.{Value}
use Rattle.tel_term.specs.declared.terms.Value.TheVariants as values
use Rattle.tel_term.specs.Symbols.{term_of}
use Rattle.tel_term.specs.Order.{term_at}

-- a value that stands for a term has it
pub meant : (symbols : List Term) (value : Value) (term : Term) → term_of symbols value ≡ Some term → term_at symbols value ≡ term
meant symbols (values.Num n) term e = cc
meant symbols (values.Sym place) term e = get_or_from_slice_get symbols place term (terms.Name []) e
