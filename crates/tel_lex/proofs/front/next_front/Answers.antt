use Rattle.std.proofs.Common.{sym, subst}
use Rattle.tel_lex.specs.Reading.{StandsAt}
use Rattle.tel_lex.proofs.Standing.{front_stands}
use Rattle.tel_lex.proofs.front.next_front.Goals as goal

pub returns : goal.returns
returns c = subst (StandsAt c.args.bytes.now) (sym c.front_of.ensures) (front_stands c.args.bytes.now c.requires.some)
