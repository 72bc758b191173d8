-- Sessions of requestors, whole.
use Rattle.std.specs.Prelude.{◌≡◌, ◌⊎◌, ◌≤◌, ℕ, Bool, true, false, List, [], ◌∷◌, Option, Some, None, Result, Ok, Err}
use Rattle.std.proofs.Common.{refl, sym, ap, subst, ◌∙◌, inl, inr}
use Rattle.std.specs.Result.{IsErr, IsErrAnd}
use Rattle.std.proofs.lemmas.Bool.{false≢true}
use Rattle.dr_base.specs.Texts.{Text}
use Rattle.dr_site.specs.Parts.{Part}
use Rattle.dr_pdu.specs.declared.pdu.Pdu.TheVariants as pdu
use Rattle.dr_nego.specs.Agreeing.{AssociateRq}
use Rattle.dr_nego.specs.Fragments.{spellings}
use Rattle.dr_plan_sound.specs.declared.certificate.Hop.{Hop}
use Rattle.dr_nego.specs.Proposing.{IsHopTo, IsProposal, echo_proposal}
use Rattle.dr_nego.specs.declared.fault.NegoFault.{NegoFault}
use Rattle.dr_nego.specs.declared.fault.NegoFault.TheVariants as negofault
use Rattle.dr_session.specs.declared.ends.Ended.{Ended}
use Rattle.dr_session.specs.declared.ends.Heard.{Heard}
use Rattle.dr_session.specs.declared.ends.LinkAction.{LinkAction}
use Rattle.dr_session.specs.declared.echo_desk.EchoDesk.{EchoDesk}
use Rattle.dr_session.specs.declared.echo_desk.Echoed.{Echoed}
use Rattle.dr_session.specs.declared.sessions.SessionFault.{SessionFault}
use Rattle.dr_session.specs.declared.sessions.SessionFault.TheVariants as fault
use Rattle.dr_session.specs.declared.wishes.Kind.TheVariants.{Deliver, EchoOnce}
use Rattle.dr_session.specs.Desks.{DeskCall, DeskAnswer}
use Rattle.dr_session.specs.Ends.{Terminal, OpensTo, begins, requesting, requesting_echo}
use Rattle.dr_session.specs.Links.{Counts, Begins, StartsAs, SessionTo, DeliversAs, EchoStep, EchoSession, EchoesAs, IsLinkFailure, refusal_of}
use Rattle.dr_session.specs.Reactions.{write}
use Rattle.dr_session.proofs.Serving.{no_failure}

module _ {L S : Type 0} (hears : L → Heard → L → Type 0) (sends : L → List ℕ → Bool → L → Type 0) (closes : L → L → Type 0) (step : S → DeskCall → DeskAnswer → S → Type 0)
    (tells : ℕ → Type 0) (site : Part) (dest : Text) where
  pub delivers_unbegun : (r : Result Ended SessionFault) (k : L) (s : S) → ((hop : Hop) × IsHopTo site dest hop) → IsErr r → IsErrAnd r (λ (e : SessionFault). e ≡ fault.Memory) → DeliversAs hears sends closes step tells 0 site dest r k s k s
  delivers_unbegun (Ok e) k s hop no_err gives = absurd (false≢true no_err)
  delivers_unbegun (Err e) k s hop err gives = subst (λ (x : SessionFault). DeliversAs hears sends closes step tells 0 site dest (Err x) k s k s) (sym gives) (inl (hop, refl, refl))

  refused_by : (why : NegoFault) (now : ℕ) (k : L) (s : S) → OpensTo site dest now (Err why) → DeliversAs hears sends closes step tells 0 site dest (Err (refusal_of why)) k s k s
  refused_by negofault.NoHop now k s h = (h, refl, refl)
  refused_by negofault.Memory now k s h = inl (h, refl, refl)
  refused_by negofault.StrangeId now k s h = absurd h
  refused_by negofault.StrangeSyntax now k s h = absurd h
  refused_by negofault.LimitTooSmall now k s h = absurd h

  pub delivers_refused : (copied : Part) (why : NegoFault) (answer : SessionFault) (now : ℕ) (k : L) (s : S) → copied ≡ site → OpensTo copied dest now (Err why) → answer ≡ refusal_of why
      → DeliversAs hears sends closes step tells 0 site dest (Err answer) k s k s
  delivers_refused copied why answer now k s same h is =
      subst (λ (x : SessionFault). DeliversAs hears sends closes step tells 0 site dest (Err x) k s k s) (sym is) (refused_by why now k s (subst (λ (x : Part). OpensTo x dest now (Err why)) same h))

  session_to : (r : Result Ended SessionFault) (terminal : Terminal) (acts : List LinkAction) (now : ℕ) (k l : L) (s t : S) → OpensTo site dest now (Ok (terminal, acts)) → tells now
      → StartsAs hears sends closes step tells 0 Deliver r k acts s terminal l t → SessionTo hears sends closes step tells 0 site dest r k s l t
  session_to r terminal acts now k l s t (hop, rq, proposal, is, written) told h =
      let begun = h (spellings (pdu.AssociateRq rq ∷ [])) written in (
        hop,
        rq,
        now,
        begun.0,
        proposal,
        told,
        subst (λ (x : Terminal). Begins hears sends closes step tells 0 Deliver begun.0 r k (spellings (pdu.AssociateRq rq ∷ [])) s x l t) is begun.1,
      )

  never_no_hop : (sent : Bool) (k l : L) (bytes : List ℕ) (s t : S) (terminal : Terminal) → Begins hears sends closes step tells 0 Deliver sent (Err fault.NoHop) k bytes s terminal l t → ⊥
  never_no_hop true k l bytes s t terminal (m, sent, (xs, asked, mid, served, stops)) = stops
  never_no_hop false k l bytes s t terminal h = h

  delivers_as : (r : Result Ended SessionFault) (k l : L) (s t : S) → SessionTo hears sends closes step tells 0 site dest r k s l t → DeliversAs hears sends closes step tells 0 site dest r k s l t
  delivers_as (Ok e) k l s t h = h
  delivers_as (Err fault.NoHop) k l s t (hop, rq, now, sent, proposal, told, b) = absurd (never_no_hop sent k l _ s t _ b)
  delivers_as (Err fault.Memory) k l s t h = inr h
  delivers_as (Err fault.Read) k l s t h = h
  delivers_as (Err fault.Write) k l s t h = h
  delivers_as (Err fault.TooManyReads) k l s t h = h
  delivers_as (Err fault.Desk) k l s t h = h

  pub delivers_started : (copied : Part) (answer : Result (Terminal × List LinkAction) NegoFault) (r : Result Ended SessionFault) (terminal : Terminal) (acts : List LinkAction) (now : ℕ) (k l : L) (s t : S)
      → copied ≡ site → answer ≡ Ok (terminal, acts) → OpensTo copied dest now answer → tells now → StartsAs hears sends closes step tells 0 Deliver r k acts s terminal l t
      → DeliversAs hears sends closes step tells 0 site dest r k s l t
  delivers_started copied answer r terminal acts now k l s t same is h told started =
      let opens : OpensTo site dest now (Ok (terminal, acts)) =
      subst (λ (x : Result (Terminal × List LinkAction) NegoFault). OpensTo site dest now x) is (subst (λ (x : Part). OpensTo x dest now answer) same h) in
      delivers_as r k l s t (session_to r terminal acts now k l s t opens told started)

pub refusal_counts : (X : Type 0) (answer : SessionFault) (why : NegoFault) (a b : ℕ) → answer ≡ refusal_of why → a ≤ b → Counts (IsLinkFailure {X = X} (Err answer)) a b
refusal_counts X answer why a b is h = no_failure {X = X} (Err answer) a b h (λ f. by_why why (subst (λ (x : SessionFault). IsLinkFailure {X = X} (Err x)) is f))
  where
    by_why : (why : NegoFault) → IsLinkFailure {X = X} (Err (refusal_of why)) → ⊥
    by_why negofault.NoHop f = f
    by_why negofault.Memory f = f
    by_why negofault.StrangeId f = f
    by_why negofault.StrangeSyntax f = f
    by_why negofault.LimitTooSmall f = f

-- ---- echoes

module _ {L : Type 0} (hears : L → Heard → L → Type 0) (sends : L → List ℕ → Bool → L → Type 0) (closes : L → L → Type 0) (tells : ℕ → Type 0) (caller called : Text) where
  pub echoes_unbegun : (r : Result Echoed SessionFault) (k : L) → IsErr r → IsErrAnd r (λ (e : SessionFault). e ≡ fault.Memory) → EchoesAs hears sends closes tells caller called r k k
  echoes_unbegun (Ok e) k no_err gives = absurd (false≢true no_err)
  echoes_unbegun (Err e) k err gives = subst (λ (x : SessionFault). EchoesAs hears sends closes tells caller called (Err x) k k) (sym gives) (inl refl)

  pub echo_session : (r : Result Ended SessionFault) (terminal : Terminal) (acts : List LinkAction) (now : ℕ) (k l : L) (s t : EchoDesk) → terminal ≡ requesting_echo caller called now
      → acts ≡ write (pdu.AssociateRq (echo_proposal caller called) ∷ []) ∷ [] → s ≡ record { status = None } → tells now
      → StartsAs hears sends closes EchoStep tells 0 EchoOnce r k acts s terminal l t → EchoSession hears sends closes tells caller called r k l t
  echo_session r terminal acts now k l s t is written none told h =
      let bytes = spellings (pdu.AssociateRq (echo_proposal caller called) ∷ []) in
      let begun = h (spellings (pdu.AssociateRq (echo_proposal caller called) ∷ [])) written in (
        now,
        begun.0,
        told,
        subst (λ (x : Terminal). Begins hears sends closes EchoStep tells 0 EchoOnce begun.0 r k (spellings (pdu.AssociateRq (echo_proposal caller called) ∷ [])) (record { status = None }) x l t) is
            (subst (λ (y : EchoDesk). Begins hears sends closes EchoStep tells 0 EchoOnce begun.0 r k (spellings (pdu.AssociateRq (echo_proposal caller called) ∷ [])) y terminal l t) none begun.1),
      )

  stopped_by : (why : SessionFault) (k l : L) (t : EchoDesk) → EchoSession hears sends closes tells caller called (Err why) k l t → EchoesAs hears sends closes tells caller called (Err why) k l
  stopped_by fault.Memory k l t h = inr (t, h)
  stopped_by fault.NoHop k l t h = (t, h)
  stopped_by fault.Read k l t h = (t, h)
  stopped_by fault.Write k l t h = (t, h)
  stopped_by fault.TooManyReads k l t h = (t, h)
  stopped_by fault.Desk k l t h = (t, h)

  pub echoes_stopped : (why : SessionFault) (r : Result Echoed SessionFault) (k l : L) (t : EchoDesk) → IsErr r → IsErrAnd r (λ (e : SessionFault). e ≡ why)
      → EchoSession hears sends closes tells caller called (Err why) k l t → EchoesAs hears sends closes tells caller called r k l
  echoes_stopped why (Ok x) k l t no_err gives h = absurd (false≢true no_err)
  echoes_stopped why (Err e) k l t err gives h = subst (λ (x : SessionFault). EchoesAs hears sends closes tells caller called (Err x) k l) (sym gives) (stopped_by why k l t h)
