-- What a run on a question does.
use Rattle.std.specs.Prelude.{◌≡◌, ◌⊎◌, ℕ, List, [], ◌∷◌, Ok}
use Rattle.std.specs.Borrow.{Bor}
use Rattle.std.specs.declared.option.Option.{Option}
use Rattle.std.specs.Io.KnownBytes.{Appends}
use Rattle.dr_base.specs.Texts.{Text}
use Rattle.dr_plan_model.specs.Networks.{Network}
use Rattle.dr_plan.specs.Reading.{Reads}
use Rattle.dr_plan_sound.specs.Certificates.{IsCertificateOf}
use Rattle.dr_plan_sound.specs.Soundness.{IsSound}
use Rattle.dr_plan_sound.specs.declared.certificate.Certificate.{Certificate}
use Rattle.dr_run_open.specs.Answers.{Refuses}
use Rattle.dr_run_open.specs.Sealings.{IsTextOf}
use Rattle.dr_run_open.specs.declared.status.Status.{Status}
use Rattle.dr_run_open.specs.declared.status.Status.TheVariants.{Refused as No, Success}
use Rattle.dr_word_line.specs.declared.words.Question.{Question}
use Rattle.dr_word_line.specs.declared.words.Question.TheVariants.{RouteOfKey, RouteOfFile, Graph}
use Rattle.dr_word_line.specs.declared.words.Question.TheVariants.{Lint, StrictLint, Expect}
use Rattle.dr_word_line.specs.declared.words.Question.TheVariants.{Diff}
use Rattle.dr_cert_lint.specs.Graphs.{IsGraphText}
use Rattle.dr_cert_lint.specs.Findings.{IsLintText}
use Rattle.dr_word_route.specs.Differing.{Compares}
use Rattle.dr_word_route.specs.Expecting.{Expects}
use Rattle.dr_word_route.specs.Keys.{ReadsFileKey, ReadsWords}
use Rattle.dr_word_route.specs.Replies.{IsRouteReply, IsSiteReply, IsTextReply, printed_for}
use Rattle.dr_word_route.specs.Replies.{status_for}
use Rattle.dr_word_route.specs.Unsealing.{AnswersUnsealed}
use Rattle.dr_word_route.specs.declared.reply.Response.{Response}
use Rattle.dr_word_route.specs.declared.reply.Response.TheVariants.{NoLine, Printed, Refused}

-- the reply is printed after what the output held, and the program ends with its status
pub record ReplyIsTold (reply : Response) (old new : Option (List ℕ))
    (status : Status) : Type 0 where
  pub printed : Appends old new (printed_for reply)
  pub ends : status ≡ status_for reply

-- a reply of which `May` says that it may be given is told
abbrev pub Replies : (Response → Type 0) → Option (List ℕ) → Option (List ℕ) → Status → Type 0
Replies May old new status = (reply : Response) × May reply × ReplyIsTold reply old new status

-- the status with which the program ends for a reply that is to say nothing: refused where it says
-- something
abbrev pub strict_status : Response → Status
strict_status (Printed []) = Success
strict_status (Printed (byte ∷ more)) = No
strict_status NoLine = status_for NoLine
strict_status (Refused refusal) = status_for (Refused refusal)

-- a reply of which `May` says that it may be given is told, and is a no where it says something
abbrev pub RepliesStrictly : (Response → Type 0) → Option (List ℕ) → Option (List ℕ) → Status
    → Type 0
RepliesStrictly May old new status =
    (reply : Response) × May reply × Appends old new (printed_for reply)
    × (status ≡ strict_status reply)

-- A run on a question about a sealed plan; a file of the path, of which `Holds` says what bytes it
-- holds, is read only where the node at which its instance would enter is one of the plan.
abbrev pub Responds : (List ℕ → Text → Type 0) → Network → Certificate → Question → Option (List ℕ)
    → Option (List ℕ) → Status → Type 0
Responds Holds plan certificate (RouteOfKey at words) old new status =
    Replies (IsRouteReply plan at.now (ReadsWords words)) old new status
Responds Holds plan certificate (RouteOfFile at path) old new status =
    Replies (IsSiteReply plan at.now) old new status
    ⊎ ((bytes : Text) × Holds path.now bytes
    × Replies (IsRouteReply plan at.now (ReadsFileKey bytes)) old new status)
Responds Holds plan certificate Graph old new status =
    Replies (IsTextReply (IsGraphText plan certificate)) old new status
Responds Holds plan certificate Lint old new status =
    Replies (IsTextReply (IsLintText plan)) old new status
Responds Holds plan certificate StrictLint old new status =
    RepliesStrictly (IsTextReply (IsLintText plan)) old new status
Responds Holds plan certificate (Expect path) old new status =
    (text : Text) × Holds path.now text × Expects plan text old new status
Responds Holds plan certificate (Diff paths) old new status =
    Compares Holds plan paths old new status

-- a run in which the text is that of the certificate of a sound plan: the question is answered
pub record AnswersSealed (Holds : List ℕ → Text → Type 0) (question : Question) (plan : Network)
    (text : Text) (old new : Option (List ℕ)) (status : Status) : Type 0 where
  pub certificate : Certificate
  pub written : IsTextOf text certificate
  pub sound : IsSound plan
  pub own : IsCertificateOf plan certificate
  pub responds : Responds Holds plan certificate question old new status

-- a run for a text that has a plan: another text, which the file of the certificate holds, is
-- refused as its certificate or is it
pub record JudgesAndAnswers (Holds : List ℕ → Text → Type 0) (path : List ℕ) (question : Question)
    (text : Text) (old new : Option (List ℕ)) (status : Status) : Type 0 where
  pub plan : Network
  pub reads : Reads text (Ok plan)
  pub second : Text
  pub held : Holds path second
  pub judged : AnswersUnsealed plan second old new status
      ⊎ AnswersSealed Holds question plan second old new status

-- a run on a question about the plan in the one file, whose certificate is in the other: the first
-- text has no plan, or it goes on to the certificate and the question
abbrev pub AnswersQuestion : (List ℕ → Text → Type 0) → Bor (List ℕ) → Bor (List ℕ) → Question
    → Option (List ℕ) → Option (List ℕ) → Status → Type 0
AnswersQuestion Holds plan certificate question old new status =
    (text : Text) × Holds plan.now text
    × (Refuses text old new status
    ⊎ JudgesAndAnswers Holds certificate.now question text old new status)
