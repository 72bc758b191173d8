-- What an input comes to.
use Rattle.std.proofs.Common.{◌≡◌, Bool, true, false, Option, Some, None, Result, Ok, Err, refl, sym, ap, subst, ◌∙◌, inl, inr}
use Rattle.std.specs.Prelude.{IfOk}
use Rattle.std.specs.declared.alloc.AllocError.{AllocError}
use Rattle.dr_ulstate.specs.declared.table.State.{State}
use Rattle.dr_ulstate.specs.declared.table.State.TheVariants.{Sta1, Sta2, Sta3, Sta4, Sta5, Sta6, Sta7, Sta8, Sta9, Sta10, Sta11, Sta12, Sta13}
use Rattle.dr_ulstate.specs.declared.table.Event.TheVariants.{AssociateAcPdu, DataPdu}
use Rattle.dr_ulstate.specs.Table.{action_of}
use Rattle.dr_pdu.specs.declared.pdu.Pdv.{Pdv}
use Rattle.dr_dimse.specs.declared.fault.DimseFault.{DimseFault}
use Rattle.dr_dimse.specs.declared.message.Awaited.{Awaited}
use Rattle.dr_dimse.specs.declared.message.Message.{Message}
use Rattle.dr_dimse.specs.Taking.{Assembling, TakesValue}
use Rattle.dr_dimse_scan.specs.declared.heard.HeardMessage.{HeardMessage}
use Rattle.dr_dimse_scan.specs.Stores.{message_of}
use Rattle.dr_nego.specs.declared.agreed.Agreed.{Agreed}
use Rattle.dr_nego.specs.declared.agreed.Pair.{Pair}
use Rattle.dr_nego.specs.declared.fault.NegoFault.{NegoFault}
use Rattle.dr_nego.specs.Agreeing.{AssociateRq, AssociateAc, pair_at, Concludes}
use Rattle.dr_session.specs.declared.ends.Core.{Core}
use Rattle.dr_session.specs.declared.ends.Input.{Input}
use Rattle.dr_session.specs.declared.ends.Input.TheVariants.{Request, Acceptance, Rejection, Value, NoValue, ReleaseRq, ReleaseRp, Abort, Unknown, Invalid, Ended, Late, AbortAsked, ReleaseAsked, PushAsked}
use Rattle.dr_session.specs.declared.ends.Told.{Told}
use Rattle.dr_session.specs.declared.ends.Told.TheVariants.{Plain, Strange, Agreement}
use Rattle.dr_session.specs.Plays.{TellsTo, TellsValueTo}
use Rattle.dr_session.specs.Reactions.{assembling}
use Rattle.dr_session.specs.Telling.{Looks, Says, TakesData, TellsValue, TellsIn, TellsAcceptance, state_at}

-- ---- a value

pub tells_unagreed : (c : Core) (p : Pdv) → c.agreed ≡ None → TellsValueTo c p Strange c
tells_unagreed c p none = (c.assembly.stage, subst (λ (o : Option Agreed). TellsValue o c p Strange c.assembly.stage) (sym none) (refl, refl), refl)

pub tells_strange : (c : Core) (p : Pdv) (agreed : Agreed) → c.agreed ≡ Some agreed → None ≡ pair_at agreed p.id → TellsValueTo c p Strange c
tells_strange c p agreed some none = (
  c.assembly.stage,
  subst (λ (o : Option Agreed). TellsValue o c p Strange c.assembly.stage) (sym some)
      (subst (λ (o : Option Pair). TellsIn o c p Strange c.assembly.stage) none (refl, refl)),
  refl,
)

pub tells_taken : (c : Core) (p : Pdv) (agreed : Agreed) (x : Pair) (answer : Result (Option Message) DimseFault) (new : Assembling) (told : Told)
    → c.agreed ≡ Some agreed → Some x ≡ pair_at agreed p.id → TakesValue c.assembly.awaited c.assembly.stage p answer new.stage
    → new.awaited ≡ c.assembly.awaited → Says x answer told → TellsValueTo c p told (record c { assembly = new })
tells_taken c p agreed x answer new told some pair takes awaited says = (
  new.stage,
  subst (λ (o : Option Agreed). TellsValue o c p told new.stage) (sym some)
      (subst (λ (o : Option Pair). TellsIn o c p told new.stage) pair (answer, takes, says)),
  ap (λ (w : Awaited). record c { assembly = assembling w new.stage }) awaited,
)

-- by the assembly's answer
pub says_by : (x : Pair) (told : Told) (r answer : Result (Option Message) DimseFault) → r ≡ answer → Says x answer told → Says x r told
says_by x told r answer same h = subst (λ (a : Result (Option Message) DimseFault). Says x a told) (sym same) h

-- ---- where it is looked into

taken_in : (s : State) (c : Core) (p : Pdv) (told : Told) (after : Core) → TakesData s → (h : TellsValueTo c p told after) → Looks (action_of DataPdu s) c (Value p) told h.0
taken_in s c p told after (inl six) h = subst (λ (t : State). Looks (action_of DataPdu t) c (Value p) told h.0) (sym six) h.1
taken_in s c p told after (inr seven) h = subst (λ (t : State). Looks (action_of DataPdu t) c (Value p) told h.0) (sym seven) h.1

pub tells_value : (c : Core) (p : Pdv) (told : Told) (after : Core) → TakesData (state_at c) → TellsValueTo c p told after → TellsTo c (Value p) told after
tells_value c p told after takes h = (h.0, taken_in (state_at c) c p told after takes h, h.2)

not_taken : (s : State) (c : Core) (p : Pdv) → (TakesData s → ⊥) → Looks (action_of DataPdu s) c (Value p) (Plain (Value p)) c.assembly.stage
not_taken Sta1 c p other = (refl, refl)
not_taken Sta2 c p other = (refl, refl)
not_taken Sta3 c p other = (refl, refl)
not_taken Sta4 c p other = (refl, refl)
not_taken Sta5 c p other = (refl, refl)
not_taken Sta6 c p other = absurd (other (inl refl))
not_taken Sta7 c p other = absurd (other (inr refl))
not_taken Sta8 c p other = (refl, refl)
not_taken Sta9 c p other = (refl, refl)
not_taken Sta10 c p other = (refl, refl)
not_taken Sta11 c p other = (refl, refl)
not_taken Sta12 c p other = (refl, refl)
not_taken Sta13 c p other = (refl, refl)

pub tells_untaken : (c : Core) (p : Pdv) → (TakesData (state_at c) → ⊥) → TellsTo c (Value p) (Plain (Value p)) c
tells_untaken c p other = (c.assembly.stage, not_taken (state_at c) c p other, refl)

-- ---- an acceptance

pub tells_acceptance : (c : Core) (ac : AssociateAc) (told : Told) → state_at c ≡ Sta5 → TellsAcceptance c.proposed ac told → TellsTo c (Acceptance ac) told c
tells_acceptance c ac told five h =
    (c.assembly.stage, subst (λ (t : State). Looks (action_of AssociateAcPdu t) c (Acceptance ac) told c.assembly.stage) (sym five) (h, refl), refl)

pub unproposed : (o : Option AssociateRq) (ac : AssociateAc) → o ≡ None → TellsAcceptance o ac (Plain (Acceptance ac))
unproposed o ac none = subst (λ (x : Option AssociateRq). TellsAcceptance x ac (Plain (Acceptance ac))) (sym none) refl

pub concluded : (o : Option AssociateRq) (rq : AssociateRq) (ac : AssociateAc) (answer : Result Agreed NegoFault) → o ≡ Some rq → Concludes rq ac answer → TellsAcceptance o ac (Agreement answer)
concluded o rq ac answer some h = subst (λ (x : Option AssociateRq). TellsAcceptance x ac (Agreement answer)) (sym some) (answer, h, refl)

not_awaited : (s : State) (c : Core) (ac : AssociateAc) → (s ≡ Sta5 → ⊥) → Looks (action_of AssociateAcPdu s) c (Acceptance ac) (Plain (Acceptance ac)) c.assembly.stage
not_awaited Sta1 c ac other = (refl, refl)
not_awaited Sta2 c ac other = (refl, refl)
not_awaited Sta3 c ac other = (refl, refl)
not_awaited Sta4 c ac other = (refl, refl)
not_awaited Sta5 c ac other = absurd (other refl)
not_awaited Sta6 c ac other = (refl, refl)
not_awaited Sta7 c ac other = (refl, refl)
not_awaited Sta8 c ac other = (refl, refl)
not_awaited Sta9 c ac other = (refl, refl)
not_awaited Sta10 c ac other = (refl, refl)
not_awaited Sta11 c ac other = (refl, refl)
not_awaited Sta12 c ac other = (refl, refl)
not_awaited Sta13 c ac other = (refl, refl)

pub tells_unawaited : (c : Core) (ac : AssociateAc) → (state_at c ≡ Sta5 → ⊥) → TellsTo c (Acceptance ac) (Plain (Acceptance ac)) c
tells_unawaited c ac other = (c.assembly.stage, not_awaited (state_at c) c ac other, refl)

-- ---- any other input

pub tells_plain : (c : Core) (i : Input) → ((p : Pdv) → i ≡ Value p → ⊥) → ((ac : AssociateAc) → i ≡ Acceptance ac → ⊥) → TellsTo c i (Plain i) c
tells_plain c (Value p) value acceptance = absurd (value p refl)
tells_plain c (Acceptance ac) value acceptance = absurd (acceptance ac refl)
tells_plain c (Request rq) value acceptance = (c.assembly.stage, (refl, refl), refl)
tells_plain c (Rejection rj) value acceptance = (c.assembly.stage, (refl, refl), refl)
tells_plain c NoValue value acceptance = (c.assembly.stage, (refl, refl), refl)
tells_plain c ReleaseRq value acceptance = (c.assembly.stage, (refl, refl), refl)
tells_plain c ReleaseRp value acceptance = (c.assembly.stage, (refl, refl), refl)
tells_plain c (Abort a) value acceptance = (c.assembly.stage, (refl, refl), refl)
tells_plain c Unknown value acceptance = (c.assembly.stage, (refl, refl), refl)
tells_plain c Invalid value acceptance = (c.assembly.stage, (refl, refl), refl)
tells_plain c Ended value acceptance = (c.assembly.stage, (refl, refl), refl)
tells_plain c Late value acceptance = (c.assembly.stage, (refl, refl), refl)
tells_plain c AbortAsked value acceptance = (c.assembly.stage, (refl, refl), refl)
tells_plain c ReleaseAsked value acceptance = (c.assembly.stage, (refl, refl), refl)
tells_plain c PushAsked value acceptance = (c.assembly.stage, (refl, refl), refl)

-- an input, as its arm has it
pub told_by : (c after : Core) (i j : Input) (told : Told) → i ≡ j → TellsTo c j told after → TellsTo c i told after
told_by c after i j told same h = subst (λ (x : Input). TellsTo c x told after) (sym same) h

-- for what a call answered
pub each_told : (c : Core) (i j : Input) (r : Result (Told × Core) AllocError) → i ≡ j → IfOk r (λ (x : Told × Core). TellsTo c j x.0 x.1) → IfOk r (λ (x : Told × Core). TellsTo c i x.0 x.1)
each_told c i j (Ok x) same h = told_by c x.1 i j x.0 same h
each_told c i j (Err e) same h = tt

pub each_value : (c : Core) (p : Pdv) (r : Result (Told × Core) AllocError) → TakesData (state_at c) → IfOk r (λ (x : Told × Core). TellsValueTo c p x.0 x.1) → IfOk r (λ (x : Told × Core). TellsTo c (Value p) x.0 x.1)
each_value c p (Ok x) takes h = tells_value c p x.0 x.1 takes h
each_value c p (Err e) takes h = tt

pub false_not : (b : Bool) → b ≡ true → b ≡ false → ⊥
false_not b t f = absurd (let k : true ≡ false = sym t ∙ f in cc)

-- an answer of the assembly by its parts
pub by_ok : (r : Result (Option HeardMessage) DimseFault) (a b : Option HeardMessage) → r ≡ Ok a → a ≡ b → message_of r ≡ message_of (Ok b)
by_ok r a b h k = ap message_of (h ∙ ap (λ (x : Option HeardMessage). Ok x) k)

pub by_err : (r : Result (Option HeardMessage) DimseFault) (a b : DimseFault) → r ≡ Err a → a ≡ b → message_of r ≡ Err b
by_err r a b h k = ap message_of (h ∙ ap (λ (x : DimseFault). Err x) k)
