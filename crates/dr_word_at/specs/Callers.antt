-- Requests over a network, each in a connection of its own.
use Rattle.std.specs.Prelude.{IfOk, Ok, Result, true, Bool, Option}
use Rattle.std.specs.declared.io.Error.{Error}
use Rattle.dr_base.specs.Texts.{Text}
use Rattle.dr_run_ask.specs.Calls.{request_of}
use Rattle.dr_run_ask.specs.declared.answer.HttpAnswer.{HttpAnswer}
use Rattle.dr_run_ask.specs.declared.call.HttpCall.{HttpCall}
use Rattle.dr_run_ask.specs.declared.fault.AskFault.{AskFault}

module _ {L : Type 0} (connects : Text → Result L Error → Type 0)
    (sends : L → Text → Bool → L → Type 0) where
  -- An answer comes only to the request that is meant, which was sent over a link that leads to the
  -- address.
  abbrev pub AnswersBy : Text → Option Text → HttpCall → Result HttpAnswer AskFault → Type 0
  AnswersBy at token call came =
      IfOk came (λ _. (link mid : L)
      × connects at (Ok link)
      × sends link (request_of at token call) true mid)
