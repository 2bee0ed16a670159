-- The expressions of a tuple, with one argument more at its end; and heads.
use Rattle.std.proofs.Common.{◌≡◌, List, [], ◌∷◌, ◌++◌, Option, Some, None, refl, sym, ap, ◌∙◌}
use Rattle.std.specs.Option.{option_map}
use Rattle.tel_term.specs.declared.exprs.Expr.{Expr}
use Rattle.tel_rule.specs.declared.statements.Arg.{Arg}
use Rattle.tel_rule.specs.declared.statements.Arg.TheVariants as args
use Rattle.part_syntax.specs.Grammar.{plain_args}

one_first : (first last : Expr) (o : Option (List Expr)) → option_map (λ (rest : List Expr). first ∷ rest) (option_map (λ (xs : List Expr). xs ++ last ∷ []) o) ≡ option_map (λ (xs : List Expr). xs ++ last ∷ []) (option_map (λ (rest : List Expr). first ∷ rest) o)
one_first first last None = refl
one_first first last (Some xs) = refl

pub plain_last : (front : List Arg) (last : Expr) → plain_args (front ++ args.One last ∷ []) ≡ option_map (λ (xs : List Expr). xs ++ last ∷ []) (plain_args front)
plain_last [] last = refl
plain_last (args.One first ∷ more) last = ap (option_map (λ (rest : List Expr). first ∷ rest)) (plain_last more last) ∙ one_first first last (plain_args more)
plain_last (args.Range first end ∷ more) last = refl

pub plain_range : (front : List Arg) (first last : Expr) → plain_args (front ++ args.Range first last ∷ []) ≡ None
plain_range [] first last = refl
plain_range (args.One start ∷ more) first last = ap (option_map (λ (rest : List Expr). start ∷ rest)) (plain_range more first last)
plain_range (args.Range start end ∷ more) first last = refl

pub range_none : (tuple front : List Arg) (first last : Expr) → tuple ≡ front ++ args.Range first last ∷ [] → None ≡ plain_args tuple
range_none tuple front first last is = sym (ap plain_args is ∙ plain_range front first last)

pub plain_none : (tuple front : List Arg) (last : Expr) → tuple ≡ front ++ args.One last ∷ [] → plain_args front ≡ None → None ≡ plain_args tuple
plain_none tuple front last is none = sym (ap plain_args is ∙ plain_last front last ∙ ap (option_map (λ (xs : List Expr). xs ++ last ∷ [])) none)

pub plain_some : (tuple front : List Arg) (last : Expr) (read all : List Expr) → tuple ≡ front ++ args.One last ∷ [] → plain_args front ≡ Some read → all ≡ read ++ last ∷ [] → Some all ≡ plain_args tuple
plain_some tuple front last read all is some pushed = ap Some pushed ∙ sym (ap plain_args is ∙ plain_last front last ∙ ap (option_map (λ (xs : List Expr). xs ++ last ∷ [])) some)
