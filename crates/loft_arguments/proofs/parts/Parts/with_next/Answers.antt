use Rattle.std.proofs.Common.{◌∷◌, sym, ap, ◌∙◌}
use Rattle.std.specs.Prelude.{option_and_then}
use Rattle.loft_arguments.specs.Words.{words_of}
use Rattle.loft_arguments.specs.Parts.{argument_of, parts_of, with_arguments}
use Rattle.loft_arguments.proofs.Gathered.{refused_first, taken_first, after_dashes}
use Rattle.loft_arguments.proofs.parts.Parts.with_next.Goals as goal

pub returns-then-eq-clause-some : goal.returns-then-eq-clause-some
returns-then-eq-clause-some c =
    after_dashes (parts_of c.args.self) c.args.word.now (words_of c.args.words.now) (sym c.eq.ensures ∙ c.if-eq.true) ∙ sym c.in_ok-with_plains.ensures

pub returns-in_err-with_plains-clause-none : goal.returns-in_err-with_plains-clause-none
returns-in_err-with_plains-clause-none c =
    rw c.from_residual.ensures (after_dashes (parts_of c.args.self) c.args.word.now (words_of c.args.words.now) (sym c.eq.ensures ∙ c.if-eq.true) ∙ sym c.in_err-with_plains.ensures)

pub returns-in_err-argument-clause-none : goal.returns-in_err-argument-clause-none
returns-in_err-argument-clause-none c =
    rw c.from_residual-in_err-argument.ensures (ap (option_and_then (with_arguments (parts_of c.args.self))) c.in_err-argument.ensures.none)

pub returns-in_err-with_argument-clause-none : goal.returns-in_err-with_argument-clause-none
returns-in_err-with_argument-clause-none c =
    rw c.from_residual-in_err-with_argument.ensures (refused_first (parts_of c.args.self) (c.args.word.now ∷ words_of c.args.words.now) (words_of c.in_ok-argument.rest.now) (argument_of c.in_ok-argument.argument)
    c.in_ok-argument.ensures.some (sym c.in_err-with_argument.ensures))

pub returns-clause-some : goal.returns-clause-some
returns-clause-some c =
    taken_first (parts_of c.args.self) (c.args.word.now ∷ words_of c.args.words.now) (words_of c.in_ok-argument.rest.now) (argument_of c.in_ok-argument.argument)
    c.in_ok-argument.ensures.some (sym c.in_ok-with_argument.ensures)
