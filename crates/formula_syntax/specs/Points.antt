-- Words, what is known beside them, and the points of a reading. The theory of grammars is over any words.
use Rattle.std.specs.Prelude.{ℕ, List}
use Rattle.tel_lex.specs.declared.token.Token.{Token}
use Rattle.tel_lex.specs.Tokens.{Lexeme, token_of, tokens_of}
use Rattle.tel_term.specs.declared.terms.Term.{Term}
use Rattle.grammar_laws.specs.Points as any_points
use Rattle.grammar_laws.specs.Shapes as any_shapes
use Rattle.grammar_laws.specs.Steps as any_steps

-- a token, without where its bytes lie
abbrev pub Word : Type 0
Word = Lexeme

-- the names and strings that were seen, and the variables of the statement, each in the order in which they were seen first
pub record Known : Type 0 where
  pub symbols : List Term
  pub vars : List (List ℕ)

-- a point between words, a grammar of things, what a reader gives, and a reader
abbrev pub Point : Type 0
Point = any_points.Point Word Known

abbrev pub Grammar : Type 0 → Type 1
Grammar A = any_shapes.Grammar Word Known A

abbrev pub Read : Type 0 → Type 0
Read A = any_steps.Read Word Known A

abbrev pub Reader : Type 0 → Type 0
Reader A = any_steps.Reader Word Known A

-- the words of tokens, without where their bytes lie
abbrev pub word_of : Token → Word
word_of token = token_of token

abbrev pub words_of : List Token → List Word
words_of tokens = tokens_of tokens
