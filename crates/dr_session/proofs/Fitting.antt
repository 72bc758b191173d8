-- What an end is hearing can be answered.
use Rattle.std.proofs.Common.{◌≡◌, ℕ, ◌≤◌, ◌<◌, List, [], ◌++◌, length, Option, Some, None, Result, Ok, Err, sym, ap, subst, inl, inr}
use Rattle.std.specs.Prelude.{IfOk, IfSome, ◌⊎◌}
use Rattle.dr_pdu.specs.declared.pdu.Pdv.{Pdv}
use Rattle.dr_dimse.specs.declared.command.Command.{Command}
use Rattle.dr_dimse.specs.declared.message.Awaited.{Awaited}
use Rattle.dr_dimse.specs.declared.message.Body.{Body}
use Rattle.dr_dimse.specs.declared.message.Body.TheVariants.{Whole}
use Rattle.dr_dimse.specs.declared.message.Message.{Message}
use Rattle.dr_dimse.specs.declared.fault.DimseFault.{DimseFault}
use Rattle.dr_dimse.specs.declared.fault.DimseFault.TheVariants.{OutOfPlace, MixedContext, BadCommand, TooLong, Memory}
use Rattle.dr_dimse.specs.Commands.{IsCommand}
use Rattle.dr_dimse.specs.Taking.{MessageStage, Idle, InCommand, InData, TakesValue, TakesData, EndsCommand, BeginsMessage, kept, text_so_far}
use Rattle.dr_dimse.specs.Written.{CommandFits, FieldFits}
use Rattle.dr_dimse.proofs.FitLemmas.{read_fits}
use Rattle.dr_dimse_scan.specs.declared.heard.HeardMessage.{HeardMessage}
use Rattle.dr_dimse_scan.specs.Stores.{message_of}
use Rattle.std.specs.Prelude.{Bool, true, false, not, ◌%◌, ◌==◌, ◌&&◌, nat_le, if◌then◌else◌}
use Rattle.std.specs.Str.{bytes_eq}
use Rattle.dr_pdu.specs.Written as pdus
use Rattle.dr_pdu.specs.declared.pdu.Pdu.TheVariants as pdu
use Rattle.dr_site.specs.Parts.{Part}
use Rattle.dr_site.specs.Sites.{IsSite}
use Rattle.dr_nego.specs.declared.answering.Answer.{Answer}
use Rattle.dr_nego.specs.declared.answering.Answer.TheVariants.{Accept, Reject, TooSmall}
use Rattle.dr_nego.specs.Agreeing.{AssociateRq}
use Rattle.dr_nego.specs.Answering.{answer, answer_by, refusal, is_stranger}
use Rattle.dr_base.specs.Standard.{application_context}
use Rattle.dr_nego.proofs.Sized.{acceptances_fit}
use Rattle.dr_session.specs.Fits.{StageFits}

-- the command of a message, if there is one, can be written
abbrev pub EndsFit : Option Message → Type 0
EndsFit ended = IfSome ended (λ (m : Message). CommandFits m.command)

data_fits : (s : MessageStage) (p : Pdv) (ended : Option Message) (new : MessageStage) → StageFits s → TakesData s p ended new → StageFits new × EndsFit ended
data_fits Idle p ended new fits h = absurd h
data_fits (InCommand id text) p ended new fits h = absurd h
data_fits (InData id c body) p None new fits h = (subst (λ (t : MessageStage). StageFits t) (sym h.1) fits, tt)
data_fits (InData id c body) p (Some m) new fits h =
    (subst (λ (t : MessageStage). StageFits t) (sym h.2) tt, subst (λ (d : Command). CommandFits d) (sym (ap (λ (x : Message). x.command) h.1)) fits)

begin_fits : (id : ℕ) (c : Command) (ended : Option Message) (new : MessageStage) → CommandFits c → BeginsMessage id c ended new → StageFits new × EndsFit ended
begin_fits id c None new fits h = (subst (λ (t : MessageStage). StageFits t) (sym h.1) fits, tt)
begin_fits id c (Some m) new fits h =
    (subst (λ (t : MessageStage). StageFits t) (sym h.2) tt, subst (λ (d : Command). CommandFits d) (sym (ap (λ (x : Message). x.command) h.1)) fits)

ok_fits : (awaited : Awaited) (s : MessageStage) (p : Pdv) (ended : Option Message) (new : MessageStage) → StageFits s → TakesValue awaited s p (Ok ended) new → StageFits new × EndsFit ended
ok_fits awaited s p ended new fits (inl (place, kind, takes)) = data_fits s p ended new fits takes
ok_fits awaited s p ended new fits (inr (inl (short, last, none, same))) =
    (subst (λ (t : MessageStage). StageFits t) (sym same) tt, subst (λ (e : Option Message). EndsFit e) (sym none) tt)
ok_fits awaited s p ended new fits (inr (inr (text, c, ends, is, waits, begins))) =
    let short : length text ≤ 16384 = subst (λ (t : List ℕ). length t ≤ 16384) (sym ends.2) ends.0.2 in
    begin_fits p.id c ended new (read_fits text c is short) begins

-- one more value
pub takes_fits : (awaited : Awaited) (s : MessageStage) (p : Pdv) (r : Result (Option Message) DimseFault) (new : MessageStage) → StageFits s → TakesValue awaited s p r new
    → StageFits new × IfOk r EndsFit
takes_fits awaited s p (Ok ended) new fits h = ok_fits awaited s p ended new fits h
takes_fits awaited s p (Err OutOfPlace) new fits h = (subst (λ (t : MessageStage). StageFits t) (sym h.0) fits, tt)
takes_fits awaited s p (Err MixedContext) new fits h = (subst (λ (t : MessageStage). StageFits t) (sym h.0) fits, tt)
takes_fits awaited s p (Err BadCommand) new fits h = (subst (λ (t : MessageStage). StageFits t) (sym h.0) fits, tt)
takes_fits awaited s p (Err TooLong) new fits h = (subst (λ (t : MessageStage). StageFits t) (sym h.0) fits, tt)
takes_fits awaited s p (Err Memory) new fits h = (subst (λ (t : MessageStage). StageFits t) (sym h) fits, tt)

-- so can that of a message that comes with its scan
pub heard_fits : (r : Result (Option HeardMessage) DimseFault) → IfOk (message_of r) EndsFit → IfOk r (λ (ended : Option HeardMessage). IfSome ended (λ (h : HeardMessage). CommandFits h.message.command))
heard_fits (Ok None) h = tt
heard_fits (Ok (Some heard)) h = h
heard_fits (Err fault) h = tt

-- ---- answers to a request for an association

-- an answer that accepts can be written
abbrev pub AnswerFits : Answer → Type 0
AnswerFits (Accept ac agreed) = pdus.Fits (pdu.AssociateAc ac)
AnswerFits (Reject outcome source reason) = Unit {0}
AnswerFits TooSmall = Unit {0}

-- what refuses a request doesn't accept it
abbrev RefusesOrNone : Option Answer → Type 0
RefusesOrNone None = Unit {0}
RefusesOrNone (Some a) = AnswerFits a

either_way : (b : Bool) (x y : Option Answer) → RefusesOrNone x → RefusesOrNone y → RefusesOrNone (if b then x else y)
either_way true x y h k = h
either_way false x y h k = k

refusal_fits : (rq : AssociateRq) (site : Part) (others : ℕ) → RefusesOrNone (refusal rq site others)
refusal_fits rq site others =
    either_way (not (bytes_eq rq.application application_context)) _ _ tt
    (either_way (rq.front.version % 2 == 0) _ _ tt
    (either_way (not (bytes_eq rq.front.called site.name)) _ _ tt
    (either_way (is_stranger site.accepts rq.front.calling) _ _ tt
    (either_way (nat_le 256 others) _ _ tt
    (either_way (nat_le 1 rq.max_pdu && nat_le rq.max_pdu 7) _ _ tt tt)))))

answered_by : (rq : AssociateRq) (site : Part) (o : Option Answer) → IsSite site → pdus.Fits (pdu.AssociateRq rq) → RefusesOrNone o → AnswerFits (answer_by o rq site)
answered_by rq site None is fits refuses = acceptances_fit rq site is fits
answered_by rq site (Some a) is fits refuses = refuses

-- what a site's node answers to a request that can be written can be written
pub answer_fits : (rq : AssociateRq) (site : Part) (others : ℕ) → IsSite site → pdus.Fits (pdu.AssociateRq rq) → AnswerFits (answer rq site others)
answer_fits rq site others is fits = answered_by rq site (refusal rq site others) is fits (refusal_fits rq site others)

-- a request that has an id and no status has the field of a request
pub small_field : (field id : ℕ) → FieldFits field (Some id) None → field < 0x8000
small_field field id (inl (cancel, none, n)) = absurd (let e : Some id ≡ None = none in cc)
small_field field id (inr (inl h)) = h.1
small_field field id (inr (inr (large, id_is, (n, is, small)))) = absurd (let e : None ≡ Some n = is in cc)
