use Rattle.std.proofs.lemmas.Result.{err_from_is_err_and}
use Rattle.dr_dimse.specs.Commands.{SayCommand, IsCommand}
use Rattle.dr_dimse.specs.Reads.{elements}
use Rattle.dr_dimse.proofs.OneCommand.{numbers_of, said_of}
use Rattle.dr_dimse.proofs.Refusals.{refused, no_command}
use Rattle.dr_dimse.proofs.reader.read_command.Goals as goal

pub returns-then-not-are_numbers : goal.returns-then-not-are_numbers
returns-then-not-are_numbers c = λ d h.
    let are = numbers_of (elements c.in_ok-found.found.items) c.args.text.now d c.in_ok-found.ensures h in
    let yes = (rw c.deref.ensures.value at c.are_numbers.ensures).1 are in
    absurd (cc)

pub returns-in_err-command : goal.returns-in_err-command
returns-in_err-command c =
    let p = err_from_is_err_and c.from_residual-in_err-command.result c.from_residual-in_err-command.ensures.1 in
    rw (p.1, p.2) (no_command _ c.args.text.now (refused _ (SayCommand (elements c.in_ok-found.found.items)) (IsCommand c.args.text.now) (λ d h. (d, said_of (elements c.in_ok-found.found.items) c.args.text.now d c.in_ok-found.ensures h))
    (rw c.deref-2.ensures.value at c.in_err-command.ensures)))
