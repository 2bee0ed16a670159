-- The things that statements are made of: they are read, with the words that they begin and go on with.
use Rattle.std.proofs.Common.{ℕ, suc, Bool, List, ◌++◌}
use Rattle.tel_term.specs.declared.exprs.Expr.{Expr}
use Rattle.grammar_laws.specs.Steps.{passes, or_also}
use Rattle.grammar_laws.proofs.Lifting.{Lifts}
use Rattle.grammar_laws.proofs.ReadBy.{Read_by}
use Rattle.grammar_laws.proofs.Sets.{LiesIn, or-lies}
use Rattle.grammar_laws.proofs.Described.{Words, begun_set, more_set, begun-lies, more-lies}
use Rattle.formula_syntax.specs.Points.{Word, Known}
use Rattle.formula_syntax.specs.Grammar.{product_op, sum_op, AProductOp, ASumOp, it, signed, atom}
use Rattle.formula_syntax.specs.Reading.{starts_atom}
use Rattle.formula_syntax.proofs.Terminals as formula_words
use Rattle.formula_syntax.proofs.Terminals.{word_code}
use Rattle.formula_syntax.proofs.Families.{starts_value, value_set, value-lies, more_expr, expr-read, expr-lifts, leaf_words, more_sign, sign-read, sign-lifts, expr_words, more_atom, atom-read, atom-lifts, unary_set, unary-lies, more_formula, more_formula_set, more_formula-lies, formula-read, formula-lifts}
use Rattle.part_syntax.specs.Grammar.{relation, Terminal, ARelation, WordOf, Thing, ASign, AnExpr, AnAtomItem, AnAtom, AFormula, APlain, IsThing}
use Rattle.part_syntax.specs.Reading.{goes_on, starts, read_thing}
use Rattle.part_syntax.proofs.WordSets.{word_set, word_in, with_things, more_expr_set, more_expr-lies}
use Rattle.part_syntax.proofs.AtomOrComparison.{more_plain, plain-read, plain-lifts, atom_item-read, atom_item-lifts}

abbrev atom_set : List ℕ
atom_set = begun_set expr_words (atom it)

atom-lies : LiesIn word_code starts_atom atom_set
atom-lies = begun-lies expr_words (atom it)

abbrev more_sign_set : List ℕ
more_sign_set = more_set leaf_words (signed {R = Expr})

abbrev more_atom_set : List ℕ
more_atom_set = more_set expr_words (atom it)

more_atom-lies : LiesIn word_code more_atom more_atom_set
more_atom-lies = more-lies expr_words (atom it)

abbrev goes_on_set : List ℕ
goes_on_set = formula_words.word_set AProductOp ++ (formula_words.word_set ASumOp ++ word_set ARelation)

goes_on-lies : LiesIn word_code goes_on goes_on_set
goes_on-lies =
    or-lies word_code (passes product_op) (or_also (passes sum_op) (passes relation)) (formula_words.word_set AProductOp) (formula_words.word_set ASumOp ++ word_set ARelation) (formula_words.word_in AProductOp)
    (or-lies word_code (passes sum_op) (passes relation) (formula_words.word_set ASumOp) (word_set ARelation) (formula_words.word_in ASumOp) (word_in ARelation))

more_plain-lies : LiesIn word_code more_plain (goes_on_set ++ (more_atom_set ++ more_expr_set))
more_plain-lies = or-lies word_code goes_on (or_also more_atom more_expr) goes_on_set (more_atom_set ++ more_expr_set) goes_on-lies (or-lies word_code more_atom more_expr more_atom_set more_expr_set more_atom-lies more_expr-lies)

abbrev pub more_thing : Thing → Word → Bool
more_thing ASign = more_sign
more_thing AnExpr = more_expr
more_thing AnAtomItem = more_atom
more_thing AnAtom = more_atom
more_thing AFormula = more_formula
more_thing APlain = more_plain

abbrev pub start_set : Thing → List ℕ
start_set ASign = atom_set
start_set AnExpr = value_set
start_set AnAtomItem = atom_set
start_set AnAtom = atom_set
start_set AFormula = unary_set
start_set APlain = atom_set ++ value_set

abbrev pub more_thing_set : Thing → List ℕ
more_thing_set ASign = more_sign_set
more_thing_set AnExpr = more_expr_set
more_thing_set AnAtomItem = more_atom_set
more_thing_set AnAtom = more_atom_set
more_thing_set AFormula = more_formula_set
more_thing_set APlain = goes_on_set ++ (more_atom_set ++ more_expr_set)

pub starts-in : (thing : Thing) → LiesIn word_code (starts thing) (start_set thing)
starts-in ASign = atom-lies
starts-in AnExpr = value-lies
starts-in AnAtomItem = atom-lies
starts-in AnAtom = atom-lies
starts-in AFormula = unary-lies
starts-in APlain = or-lies word_code starts_atom starts_value atom_set value_set atom-lies value-lies

pub more-in : (thing : Thing) → LiesIn word_code (more_thing thing) (more_thing_set thing)
more-in ASign = more-lies leaf_words (signed {R = Expr})
more-in AnExpr = more_expr-lies
more-in AnAtomItem = more_atom-lies
more-in AnAtom = more_atom-lies
more-in AFormula = more_formula-lies
more-in APlain = more_plain-lies

abbrev pub words : Words Word Known Terminal WordOf Thing
words = with_things starts more_thing start_set more_thing_set starts-in more-in

pub thing-read : (n : ℕ) (thing : Thing) → Read_by (IsThing n thing) (read_thing n thing) (starts thing) (more_thing thing)
thing-read n ASign = sign-read
thing-read n AnExpr = expr-read (suc n)
thing-read n AnAtomItem = atom_item-read n
thing-read n AnAtom = atom-read (suc n)
thing-read n AFormula = formula-read (suc n)
thing-read n APlain = plain-read n

pub thing-lifts : (n : ℕ) (thing : Thing) → Lifts (IsThing n thing) (IsThing (suc n) thing) (read_thing n thing) (read_thing (suc n) thing)
thing-lifts n ASign = sign-lifts
thing-lifts n AnExpr = expr-lifts (suc n)
thing-lifts n AnAtomItem = atom_item-lifts n
thing-lifts n AnAtom = atom-lifts (suc n)
thing-lifts n AFormula = formula-lifts (suc n)
thing-lifts n APlain = plain-lifts n
