-- Where each call of a link and of a desk has one answer, a session goes one way.
use Rattle.std.proofs.Common.{◌≡◌, ◌≢◌, ℕ, Bool, true, false, List, [], ◌∷◌, ◌++◌, map, Option, Some, None, Result, Ok, Err, refl, sym, ap, subst, ◌∙◌, inl, inr}
use Rattle.std.specs.Option.{option_map_or}
use Rattle.std.specs.List.{flat_map}
use Rattle.std.specs.declared.alloc.AllocError.{AllocError}
use Rattle.dr_base.specs.Texts.{Text}
use Rattle.dr_base.specs.Syntaxes.{syntax_uid}
use Rattle.dr_base.specs.declared.syntax.Syntax.{Syntax}
use Rattle.dr_ulstate.specs.declared.table.State.TheVariants.{Sta1}
use Rattle.dr_ulstate.specs.declared.table.Action.{Action}
use Rattle.dr_ulstate.specs.declared.table.Action.TheVariants.{Ae1, Ae2, Ae3, Ae4, Ae5, Ae6, Ae7, Ae8, Dt1, Dt2, Ar1, Ar2, Ar3, Ar4, Ar5, Ar6, Ar7, Ar8, Ar9, Ar10, Aa1, Aa2, Aa3, Aa4, Aa5, Aa6, Aa7, Aa8}
use Rattle.dr_ulstate.specs.declared.table.Event.TheVariants.{AssociateAcPdu, DataPdu}
use Rattle.dr_ulstate.specs.Table.{action_of, with_next}
use Rattle.dr_ulstate.specs.Standing.{Standing}
use Rattle.dr_ulstate.specs.Phases.{standing_of, stepped_from, after_cell, state_of}
use Rattle.dr_pdu.specs.declared.pdu.Pdu.{Pdu}
use Rattle.dr_pdu.specs.declared.pdu.Pdv.{Pdv}
use Rattle.dr_pdu.specs.declared.fault.PduFault.{PduFault}
use Rattle.dr_pdu.specs.declared.fault.PduFault.TheVariants as fault
use Rattle.dr_pdu.specs.Grammar.{Shows}
use Rattle.dr_pdu.specs.Feeding.{StartsPdu, Feeding}
use Rattle.dr_pdu.proofs.CutLemmas.{one_longest}
use Rattle.dr_pdu.proofs.FeedLemmas.{excludes}
use Rattle.dr_pdu.proofs.OneAnswer.{one_fault}
use Rattle.dr_dimse.specs.declared.command.Command.{Command}
use Rattle.dr_dimse.specs.declared.command.Command.TheVariants as command
use Rattle.dr_dimse.specs.declared.fault.DimseFault.{DimseFault}
use Rattle.dr_dimse.specs.declared.fault.DimseFault.TheVariants as dimse
use Rattle.dr_dimse.specs.declared.message.Body.{Body}
use Rattle.dr_dimse.specs.declared.message.Body.TheVariants as body
use Rattle.dr_dimse.specs.declared.message.Message.{Message}
use Rattle.dr_dimse.specs.Taking.{MessageStage}
use Rattle.dr_dimse.proofs.OneTake.{one_take}
use Rattle.dr_ledger.specs.declared.content.Job.{Job}
use Rattle.dr_ledger.specs.declared.content.ItemFault.{ItemFault}
use Rattle.dr_ledger.specs.declared.content.ItemFault.TheVariants as items
use Rattle.dr_ledger.specs.Items.{ReadsItem}
use Rattle.dr_ledger.proofs.Reading.{items_are_one}
use Rattle.dr_nego.specs.declared.agreed.Pair.{Pair}
use Rattle.dr_nego.specs.declared.agreed.Agreed.{Agreed}
use Rattle.dr_nego.specs.declared.fault.NegoFault.{NegoFault}
use Rattle.dr_nego.specs.declared.fault.NegoFault.TheVariants as nego
use Rattle.dr_nego.specs.Agreeing.{AssociateRq, AssociateAc, pair_at}
use Rattle.dr_nego.proofs.Concluded.{one_conclusion}
use Rattle.dr_nego.proofs.OneContext.{one_syntax}
use Rattle.dr_session.specs.declared.ends.Core.{Core}
use Rattle.dr_session.specs.declared.ends.Effect.{Effect}
use Rattle.dr_session.specs.declared.ends.Found.{Found}
use Rattle.dr_session.specs.declared.ends.Found.TheVariants.{Read, Unreadable, TooLarge}
use Rattle.dr_session.specs.declared.ends.Heard.{Heard}
use Rattle.dr_session.specs.declared.ends.Heard.TheVariants as heard
use Rattle.dr_session.specs.declared.ends.Input.{Input}
use Rattle.dr_session.specs.declared.ends.Input.TheVariants as input
use Rattle.dr_session.specs.declared.ends.LinkAction.{LinkAction}
use Rattle.dr_session.specs.declared.ends.LinkAction.TheVariants.{Write, Close}
use Rattle.dr_session.specs.declared.ends.Moment.{Moment}
use Rattle.dr_session.specs.declared.ends.Told.{Told}
use Rattle.dr_session.specs.declared.ends.Told.TheVariants.{Store, Agreement}
use Rattle.dr_session.specs.declared.wishes.Kind.{Kind}
use Rattle.dr_session.specs.Desks.{DeskCall, DeskAnswer}
use Rattle.dr_session.specs.Ends.{Terminal, MeetsBy, MeetsIn, Meets, HearsPiece, HearsBytes, HearsOf, LosesBy, LosesIn, CrowdsBy, CrowdsIn, EchoesBy, EchoesIn, is_gone, is_free, idle_in, state_in}
use Rattle.dr_session.specs.Links.{EndDoing, Hears as Heeds, Asks as Wants, Echoes, Place, Does, Performs, Performed, Did, Served, asked_after, IsMoment}
use Rattle.dr_session.specs.Plays.{At, Reacts, Plays, PlaysBytes, IsFault, HearsLast, HearsOn, HearsBy, Hears, inputs_of, input_of, at_moment, with_stage}
use Rattle.dr_session.specs.Reactions.{Reaction, turn, moves, effect}
use Rattle.dr_session.specs.Telling.{Finds, FindsIn, Says, SaysOf, TellsIn, TellsValue, TellsAcceptance, Tells, Looks, action_at}
use Rattle.dr_session.specs.Turns.{Ends, Asks, Fails, Turns}
use Rattle.dr_session.specs.Ways.{AnswersOneWay, HearsOneWay, SendsOneWay, ClosesOneWay, SessionsGoOneWay}

-- ---- what a data set is read as

finds_one : (r : Result Job ItemFault) (f g : Found) → Finds r f → Finds r g → f ≡ g
finds_one (Ok item) f g h k = h ∙ sym k
finds_one (Err items.Data) f g h k = h ∙ sym k
finds_one (Err items.NoUid) f g h k = h ∙ sym k
finds_one (Err items.TooLarge) f g h k = h ∙ sym k
finds_one (Err items.Memory) f g h k = absurd h

no_want : (r : Result Job ItemFault) (f : Found) → Finds r f → r ≢ Err items.Memory
no_want r f h e = subst (λ (z : Result Job ItemFault). Finds z f) e h

found_one : (syntax : Text) (b : Body) (f g : Found) → FindsIn syntax b f → FindsIn syntax b g → f ≡ g
found_one syntax (body.Whole text) f g (inl (s, r, is, reads, finds)) (inl (z, q, other, reads_too, finds_too)) =
    let same_syntax : s ≡ z = one_syntax s z (sym is ∙ other) in
    let same : r ≡ q = items_are_one s text r q (no_want r f finds) (no_want q g finds_too) reads (subst (λ (y : Syntax). ReadsItem y text q) (sym same_syntax) reads_too) in
    finds_one r f g finds (subst (λ (y : Result Job ItemFault). Finds y g) (sym same) finds_too)
found_one syntax (body.Whole text) f g (inl (s, r, is, reads, finds)) (inr (none, e)) = absurd (none s is)
found_one syntax (body.Whole text) f g (inr (none, e)) (inl (s, r, is, reads, finds)) = absurd (none s is)
found_one syntax (body.Whole text) f g (inr (none, e)) (inr (none_too, d)) = e ∙ sym d
found_one syntax body.TooLarge f g h k = h ∙ sym k

-- ---- what a value comes to

says_of_one : (x : Pair) (id : ℕ) (b : Option Body) (c : Command) (t u : Told) → SaysOf x id b c t → SaysOf x id b c u → t ≡ u
says_of_one x id None c t u h k = h ∙ sym k
says_of_one x id (Some b) (command.StoreRq n class instance) t u (f, finds, is) (g, finds_too, other) =
    is ∙ (ap (λ (z : Found). Store id x.class n class instance z) (found_one x.syntax b f g finds finds_too) ∙ sym other)
says_of_one x id (Some b) (command.StoreRsp to status class instance has_data) t u h k = h ∙ sym k
says_of_one x id (Some b) (command.EchoRq n class has_data) t u h k = h ∙ sym k
says_of_one x id (Some b) (command.EchoRsp to status class has_data) t u h k = h ∙ sym k
says_of_one x id (Some b) (command.Other field n status has_data) t u h k = h ∙ sym k

says_one : (x : Pair) (r : Result (Option Message) DimseFault) (t u : Told) → Says x r t → Says x r u → t ≡ u
says_one x (Ok None) t u h k = h ∙ sym k
says_one x (Ok (Some m)) t u h k = says_of_one x m.id m.body m.command t u h k
says_one x (Err dimse.Memory) t u h k = absurd h
says_one x (Err dimse.OutOfPlace) t u h k = h ∙ sym k
says_one x (Err dimse.MixedContext) t u h k = h ∙ sym k
says_one x (Err dimse.BadCommand) t u h k = h ∙ sym k
says_one x (Err dimse.TooLong) t u h k = h ∙ sym k

no_want_here : (x : Pair) (r : Result (Option Message) DimseFault) (t : Told) → Says x r t → r ≢ Err dimse.Memory
no_want_here x r t h e = subst (λ (z : Result (Option Message) DimseFault). Says x z t) e h

tells_in_one : (o : Option Pair) (c : Core) (p : Pdv) (t u : Told) (st su : MessageStage) → TellsIn o c p t st → TellsIn o c p u su → (t ≡ u) × (st ≡ su)
tells_in_one None c p t u st su h k = (h.0 ∙ sym k.0, h.1 ∙ sym k.1)
tells_in_one (Some x) c p t u st su (r, takes, says) (q, takes_too, says_too) =
    let both = one_take c.assembly.awaited c.assembly.stage p r q st su (no_want_here x r t says) (no_want_here x q u says_too) takes takes_too in
    (says_one x r t u says (subst (λ (z : Result (Option Message) DimseFault). Says x z u) (sym both.0) says_too), both.1)

value_one : (o : Option Agreed) (c : Core) (p : Pdv) (t u : Told) (st su : MessageStage) → TellsValue o c p t st → TellsValue o c p u su → (t ≡ u) × (st ≡ su)
value_one None c p t u st su h k = (h.0 ∙ sym k.0, h.1 ∙ sym k.1)
value_one (Some agreed) c p t u st su h k = tells_in_one (pair_at agreed p.id) c p t u st su h k

looks_value : (o : Option Action) (c : Core) (p : Pdv) (t u : Told) (st su : MessageStage) → Looks o c (input.Value p) t st → Looks o c (input.Value p) u su → (t ≡ u) × (st ≡ su)
looks_value None c p t u st su h k = (h.0 ∙ sym k.0, h.1 ∙ sym k.1)
looks_value (Some Ae1) c p t u st su h k = (h.0 ∙ sym k.0, h.1 ∙ sym k.1)
looks_value (Some Ae2) c p t u st su h k = (h.0 ∙ sym k.0, h.1 ∙ sym k.1)
looks_value (Some Ae3) c p t u st su h k = (h.0 ∙ sym k.0, h.1 ∙ sym k.1)
looks_value (Some Ae4) c p t u st su h k = (h.0 ∙ sym k.0, h.1 ∙ sym k.1)
looks_value (Some Ae5) c p t u st su h k = (h.0 ∙ sym k.0, h.1 ∙ sym k.1)
looks_value (Some Ae6) c p t u st su h k = (h.0 ∙ sym k.0, h.1 ∙ sym k.1)
looks_value (Some Ae7) c p t u st su h k = (h.0 ∙ sym k.0, h.1 ∙ sym k.1)
looks_value (Some Ae8) c p t u st su h k = (h.0 ∙ sym k.0, h.1 ∙ sym k.1)
looks_value (Some Dt1) c p t u st su h k = (h.0 ∙ sym k.0, h.1 ∙ sym k.1)
looks_value (Some Dt2) c p t u st su h k = value_one c.agreed c p t u st su h k
looks_value (Some Ar1) c p t u st su h k = (h.0 ∙ sym k.0, h.1 ∙ sym k.1)
looks_value (Some Ar2) c p t u st su h k = (h.0 ∙ sym k.0, h.1 ∙ sym k.1)
looks_value (Some Ar3) c p t u st su h k = (h.0 ∙ sym k.0, h.1 ∙ sym k.1)
looks_value (Some Ar4) c p t u st su h k = (h.0 ∙ sym k.0, h.1 ∙ sym k.1)
looks_value (Some Ar5) c p t u st su h k = (h.0 ∙ sym k.0, h.1 ∙ sym k.1)
looks_value (Some Ar6) c p t u st su h k = value_one c.agreed c p t u st su h k
looks_value (Some Ar7) c p t u st su h k = (h.0 ∙ sym k.0, h.1 ∙ sym k.1)
looks_value (Some Ar8) c p t u st su h k = (h.0 ∙ sym k.0, h.1 ∙ sym k.1)
looks_value (Some Ar9) c p t u st su h k = (h.0 ∙ sym k.0, h.1 ∙ sym k.1)
looks_value (Some Ar10) c p t u st su h k = (h.0 ∙ sym k.0, h.1 ∙ sym k.1)
looks_value (Some Aa1) c p t u st su h k = (h.0 ∙ sym k.0, h.1 ∙ sym k.1)
looks_value (Some Aa2) c p t u st su h k = (h.0 ∙ sym k.0, h.1 ∙ sym k.1)
looks_value (Some Aa3) c p t u st su h k = (h.0 ∙ sym k.0, h.1 ∙ sym k.1)
looks_value (Some Aa4) c p t u st su h k = (h.0 ∙ sym k.0, h.1 ∙ sym k.1)
looks_value (Some Aa5) c p t u st su h k = (h.0 ∙ sym k.0, h.1 ∙ sym k.1)
looks_value (Some Aa6) c p t u st su h k = (h.0 ∙ sym k.0, h.1 ∙ sym k.1)
looks_value (Some Aa7) c p t u st su h k = (h.0 ∙ sym k.0, h.1 ∙ sym k.1)
looks_value (Some Aa8) c p t u st su h k = (h.0 ∙ sym k.0, h.1 ∙ sym k.1)

-- ---- an acceptance; one that found no memory comes to nothing

abbrev lost : Told
lost = Agreement (Err nego.Memory)

acceptance_one : (o : Option AssociateRq) (ac : AssociateAc) (t u : Told) → t ≢ lost → u ≢ lost → TellsAcceptance o ac t → TellsAcceptance o ac u → t ≡ u
acceptance_one None ac t u a b h k = h ∙ sym k
acceptance_one (Some rq) ac t u a b (r, concludes, is) (q, concludes_too, other) =
    let said : Result Agreed NegoFault → Told = λ z. Agreement z in
    let same : r ≡ q = one_conclusion rq ac r q (λ e. a (is ∙ ap said e)) (λ e. b (other ∙ ap said e)) concludes concludes_too in
    is ∙ (ap said same ∙ sym other)

looks_acceptance : (o : Option Action) (c : Core) (ac : AssociateAc) (t u : Told) (st su : MessageStage) → (o ≡ Some Ae3 → (t ≢ lost) × (u ≢ lost))
    → Looks o c (input.Acceptance ac) t st → Looks o c (input.Acceptance ac) u su → (t ≡ u) × (st ≡ su)
looks_acceptance None c ac t u st su live h k = (h.0 ∙ sym k.0, h.1 ∙ sym k.1)
looks_acceptance (Some Ae1) c ac t u st su live h k = (h.0 ∙ sym k.0, h.1 ∙ sym k.1)
looks_acceptance (Some Ae2) c ac t u st su live h k = (h.0 ∙ sym k.0, h.1 ∙ sym k.1)
looks_acceptance (Some Ae3) c ac t u st su live h k = (acceptance_one c.proposed ac t u (live refl).0 (live refl).1 h.0 k.0, h.1 ∙ sym k.1)
looks_acceptance (Some Ae4) c ac t u st su live h k = (h.0 ∙ sym k.0, h.1 ∙ sym k.1)
looks_acceptance (Some Ae5) c ac t u st su live h k = (h.0 ∙ sym k.0, h.1 ∙ sym k.1)
looks_acceptance (Some Ae6) c ac t u st su live h k = (h.0 ∙ sym k.0, h.1 ∙ sym k.1)
looks_acceptance (Some Ae7) c ac t u st su live h k = (h.0 ∙ sym k.0, h.1 ∙ sym k.1)
looks_acceptance (Some Ae8) c ac t u st su live h k = (h.0 ∙ sym k.0, h.1 ∙ sym k.1)
looks_acceptance (Some Dt1) c ac t u st su live h k = (h.0 ∙ sym k.0, h.1 ∙ sym k.1)
looks_acceptance (Some Dt2) c ac t u st su live h k = (h.0 ∙ sym k.0, h.1 ∙ sym k.1)
looks_acceptance (Some Ar1) c ac t u st su live h k = (h.0 ∙ sym k.0, h.1 ∙ sym k.1)
looks_acceptance (Some Ar2) c ac t u st su live h k = (h.0 ∙ sym k.0, h.1 ∙ sym k.1)
looks_acceptance (Some Ar3) c ac t u st su live h k = (h.0 ∙ sym k.0, h.1 ∙ sym k.1)
looks_acceptance (Some Ar4) c ac t u st su live h k = (h.0 ∙ sym k.0, h.1 ∙ sym k.1)
looks_acceptance (Some Ar5) c ac t u st su live h k = (h.0 ∙ sym k.0, h.1 ∙ sym k.1)
looks_acceptance (Some Ar6) c ac t u st su live h k = (h.0 ∙ sym k.0, h.1 ∙ sym k.1)
looks_acceptance (Some Ar7) c ac t u st su live h k = (h.0 ∙ sym k.0, h.1 ∙ sym k.1)
looks_acceptance (Some Ar8) c ac t u st su live h k = (h.0 ∙ sym k.0, h.1 ∙ sym k.1)
looks_acceptance (Some Ar9) c ac t u st su live h k = (h.0 ∙ sym k.0, h.1 ∙ sym k.1)
looks_acceptance (Some Ar10) c ac t u st su live h k = (h.0 ∙ sym k.0, h.1 ∙ sym k.1)
looks_acceptance (Some Aa1) c ac t u st su live h k = (h.0 ∙ sym k.0, h.1 ∙ sym k.1)
looks_acceptance (Some Aa2) c ac t u st su live h k = (h.0 ∙ sym k.0, h.1 ∙ sym k.1)
looks_acceptance (Some Aa3) c ac t u st su live h k = (h.0 ∙ sym k.0, h.1 ∙ sym k.1)
looks_acceptance (Some Aa4) c ac t u st su live h k = (h.0 ∙ sym k.0, h.1 ∙ sym k.1)
looks_acceptance (Some Aa5) c ac t u st su live h k = (h.0 ∙ sym k.0, h.1 ∙ sym k.1)
looks_acceptance (Some Aa6) c ac t u st su live h k = (h.0 ∙ sym k.0, h.1 ∙ sym k.1)
looks_acceptance (Some Aa7) c ac t u st su live h k = (h.0 ∙ sym k.0, h.1 ∙ sym k.1)
looks_acceptance (Some Aa8) c ac t u st su live h k = (h.0 ∙ sym k.0, h.1 ∙ sym k.1)

tells_one : (c : Core) (i : Input) (t u : Told) (st su : MessageStage) → (action_at c (Some AssociateAcPdu) ≡ Some Ae3 → (t ≢ lost) × (u ≢ lost)) → Tells c i t st → Tells c i u su → (t ≡ u) × (st ≡ su)
tells_one c (input.Value p) t u st su live h k = looks_value (action_at c (Some DataPdu)) c p t u st su h k
tells_one c (input.Acceptance ac) t u st su live h k = looks_acceptance (action_at c (Some AssociateAcPdu)) c ac t u st su live h k
tells_one c (input.Request rq) t u st su live h k = (h.0 ∙ sym k.0, h.1 ∙ sym k.1)
tells_one c (input.Rejection rj) t u st su live h k = (h.0 ∙ sym k.0, h.1 ∙ sym k.1)
tells_one c input.NoValue t u st su live h k = (h.0 ∙ sym k.0, h.1 ∙ sym k.1)
tells_one c input.ReleaseRq t u st su live h k = (h.0 ∙ sym k.0, h.1 ∙ sym k.1)
tells_one c input.ReleaseRp t u st su live h k = (h.0 ∙ sym k.0, h.1 ∙ sym k.1)
tells_one c (input.Abort a) t u st su live h k = (h.0 ∙ sym k.0, h.1 ∙ sym k.1)
tells_one c input.Unknown t u st su live h k = (h.0 ∙ sym k.0, h.1 ∙ sym k.1)
tells_one c input.Invalid t u st su live h k = (h.0 ∙ sym k.0, h.1 ∙ sym k.1)
tells_one c input.Ended t u st su live h k = (h.0 ∙ sym k.0, h.1 ∙ sym k.1)
tells_one c input.Late t u st su live h k = (h.0 ∙ sym k.0, h.1 ∙ sym k.1)
tells_one c input.AbortAsked t u st su live h k = (h.0 ∙ sym k.0, h.1 ∙ sym k.1)
tells_one c input.ReleaseAsked t u st su live h k = (h.0 ∙ sym k.0, h.1 ∙ sym k.1)
tells_one c input.PushAsked t u st su live h k = (h.0 ∙ sym k.0, h.1 ∙ sym k.1)

-- ---- turns

module _ {S : Type 0} (step : S → DeskCall → DeskAnswer → S → Type 0) where
  -- an acceptance that found no memory ends no turn of an end that awaits one
  lost_in : (o : Option Action) → o ≡ Some Ae3 → (a : Standing) (at : Moment) (c : Core) (s t : S) (x : Effect) → Turns step (moves (after_cell (with_next o a.requestor true) a at.now c.phase) at lost c) s x t → ⊥
  lost_in o is a at c s t x h = subst (λ (z : Option Action). Turns step (moves (after_cell (with_next z a.requestor true) a at.now c.phase) at lost c) s x t) is h

  lost_at : (o : Option Standing) (at : Moment) (c : Core) (s t : S) (x : Effect) → action_of AssociateAcPdu (option_map_or (λ (a : Standing). a.state) o Sta1) ≡ Some Ae3
      → Turns step (moves (stepped_from o AssociateAcPdu true c.phase at.now) at lost c) s x t → ⊥
  lost_at None at c s t x is h = (let f : ⊥ = cc in f)
  lost_at (Some a) at c s t x is h = lost_in (action_of AssociateAcPdu a.state) is a at c s t x h

  not_lost : (at : Moment) (c : Core) (told : Told) (s t : S) (x : Effect) → Turns step (turn at c told) s x t → action_at c (Some AssociateAcPdu) ≡ Some Ae3 → told ≢ lost
  not_lost at c told s t x h is e = lost_at (standing_of c.phase) at c s t x is (subst (λ (z : Told). Turns step (turn at c z) s x t) e h)

  module _ (one : AnswersOneWay step) where
    turn_one : (y : Reaction) (s t u : S) (x z : Effect) → Turns step y s x t → Turns step y s z u → (x ≡ z) × (t ≡ u)
    turn_one (Ends value) s t u x z (e, same) (d, also) = (e ∙ sym d, same ∙ sym also)
    turn_one Fails s t u x z h k = absurd h
    turn_one (Asks call follow) s t u x z (a, m, did, more) (b, n, did_too, more_too) =
        let both = one s m n call a b did did_too in
        turn_one (follow a) m t u x z more
        (subst (λ (l : S). Turns step (follow a) l z u) (sym both.1) (subst (λ (r : DeskAnswer). Turns step (follow r) n z u) (sym both.0) more_too))

    -- ---- inputs

    reacts_one : (c : Core) (i : At) (s t u : S) (x z : Effect) → Reacts step c i s x t → Reacts step c i s z u → (x ≡ z) × (t ≡ u)
    reacts_one c i s t u x z h k =
        let same = tells_one c i.input h.told k.told h.stage k.stage
        (λ is. (not_lost i.moment (with_stage h.stage c) h.told s t x h.turns is, not_lost i.moment (with_stage k.stage c) k.told s u z k.turns is)) h.tells k.tells in
        turn_one (turn i.moment (with_stage h.stage c) h.told) s t u x z h.turns
        (subst (λ (y : MessageStage). Turns step (turn i.moment (with_stage y c) h.told) s z u) (sym same.1)
        (subst (λ (y : Told). Turns step (turn i.moment (with_stage k.stage c) y) s z u) (sym same.0) k.turns))

    plays_one : (is : List At) (c d e : Core) (s t u : S) (xs ys : List LinkAction) → Plays step c is s xs d t → Plays step c is s ys e u → (xs ≡ ys) × (d ≡ e) × (t ≡ u)
    plays_one [] c d e s t u xs ys (a, b, same) (a_too, b_too, also) = (a ∙ sym a_too, b ∙ sym b_too, same ∙ sym also)
    plays_one (i ∷ is) c d e s t u xs ys (x, m, later, first, more, are) (z, n, later_too, first_too, more_too, are_too) =
        let both = reacts_one c i s m n x z first first_too in
        let rest = plays_one is x.core d e m t u later later_too more
        (subst (λ (l : S). Plays step x.core is l later_too e u) (sym both.1) (subst (λ (y : Effect). Plays step y.core is n later_too e u) (sym both.0) more_too)) in
        (are ∙ (ap (λ (y : Effect). y.acts ++ later) both.0 ∙ (ap (λ (l : List LinkAction). z.acts ++ l) rest.0 ∙ sym are_too)), rest.1, rest.2)

-- ---- bytes

no_more_memory : (f : PduFault) → IsFault f → f ≢ fault.Memory
no_more_memory f is e = subst IsFault e is

no_unit : (b : Bool) (limit : ℕ) (rest : List ℕ) (last : List Input) (kept : List ℕ) → HearsLast b limit rest last kept → (p : Pdu) (after : List ℕ) → StartsPdu limit rest p after → ⊥
no_unit false limit rest last kept h p after starts = excludes limit rest fault.More h.0 (λ e. cc) p after starts
no_unit true limit rest last kept h p after starts = excludes limit rest h.0 h.2 (no_more_memory h.0 h.1) p after starts

-- a text in which more is to come has no fault
never_both : (limit : ℕ) (rest : List ℕ) (f : PduFault) → IsFault f → Shows limit rest fault.More → Shows limit rest f → ⊥
never_both limit rest f is more shows =
    let same : fault.More ≡ f = one_fault limit rest fault.More f (λ e. cc) (no_more_memory f is) more shows in
    subst IsFault (sym same) is

last_one : (b d : Bool) (limit : ℕ) (rest : List ℕ) (xs ys : List Input) (ks ls : List ℕ) → HearsLast b limit rest xs ks → HearsLast d limit rest ys ls → (b ≡ d) × (xs ≡ ys) × (ks ≡ ls)
last_one false false limit rest xs ys ks ls h k = (refl, h.1 ∙ sym k.1, h.2 ∙ sym k.2)
last_one true true limit rest xs ys ks ls h k =
    let same : h.0 ≡ k.0 = one_fault limit rest h.0 k.0 (no_more_memory h.0 h.1) (no_more_memory k.0 k.1) h.2 k.2 in
    (refl, h.3 ∙ (ap (λ (f : PduFault). input_of f ∷ []) same ∙ sym k.3), h.4 ∙ sym k.4)
last_one false true limit rest xs ys ks ls h k = absurd (never_both limit rest k.0 k.1 h.0 k.2)
last_one true false limit rest xs ys ks ls h k = absurd (never_both limit rest h.0 h.1 k.0 h.2)

abbrev feeding : ℕ → Bool → List ℕ → Feeding
feeding limit failed kept = record { limit = limit; failed = failed; kept = kept }

same_feeding : (a b : Feeding) → a.limit ≡ b.limit → a.failed ≡ b.failed → a.kept ≡ b.kept → a ≡ b
same_feeding a b e f g =
    ap (λ (l : ℕ). feeding l a.failed a.kept) e ∙ (ap (λ (t : Bool). feeding b.limit t a.kept) f ∙ ap (λ (l : List ℕ). feeding b.limit b.failed l) g)

hears_on_one : (limit : ℕ) (kept piece : List ℕ) (is js : List Input) (new other : Feeding) → HearsOn limit kept piece is new → HearsOn limit kept piece js other → (is ≡ js) × (new ≡ other)
hears_on_one limit kept piece is js new other h k =
    let both = one_longest limit (kept ++ piece) h.pdus k.pdus h.rest k.rest (h.run, no_unit new.failed limit h.rest h.last new.kept h.stops) (k.run, no_unit other.failed limit k.rest k.last other.kept k.stops) in
    let ends = last_one new.failed other.failed limit h.rest h.last k.last new.kept other.kept h.stops (subst (λ (r : List ℕ). HearsLast other.failed limit r k.last other.kept) (sym both.1) k.stops) in (
      h.are ∙ (ap (λ (ps : List Pdu). flat_map inputs_of ps ++ h.last) both.0 ∙ (ap (λ (l : List Input). flat_map inputs_of k.pdus ++ l) ends.1 ∙ sym k.are)),
      same_feeding new other (h.same ∙ sym k.same) ends.0 ends.2,
    )

hears_one : (b : Bool) (old : Feeding) (piece : List ℕ) (is js : List Input) (new other : Feeding) → HearsBy b old piece is new → HearsBy b old piece js other → (is ≡ js) × (new ≡ other)
hears_one true old piece is js new other h k = (h.0 ∙ sym k.0, h.1 ∙ sym k.1)
hears_one false old piece is js new other h k = hears_on_one old.limit old.kept piece is js new other h k

abbrev terminal : Feeding → Option Core → Terminal
terminal ear core = record { ear = ear; core = core }

same_terminal : (a b : Terminal) → a.ear ≡ b.ear → a.core ≡ b.core → a ≡ b
same_terminal a b e f = ap (λ (x : Feeding). terminal x a.core) e ∙ ap (λ (o : Option Core). terminal b.ear o) f

abbrev listed : Result (List LinkAction) AllocError → List LinkAction
listed (Ok acts) = acts
listed (Err e) = []

same_listed : (a b : List LinkAction) → ◌≡◌ {A = Result (List LinkAction) AllocError} (Ok a) (Ok []) → ◌≡◌ {A = Result (List LinkAction) AllocError} (Ok b) (Ok []) → a ≡ b
same_listed a b h k = ap listed h ∙ sym (ap listed k)

module _ {S : Type 0} (step : S → DeskCall → DeskAnswer → S → Type 0) (one : AnswersOneWay step) where
  bytes_one : (at : Moment) (old : Feeding) (c : Core) (piece : List ℕ) (s t u : S) (new other : Feeding) (x z : Effect) → PlaysBytes step at old c piece s new x t → PlaysBytes step at old c piece s other z u
      → (new ≡ other) × (x ≡ z) × (t ≡ u)
  bytes_one at old c piece s t u new other x z (is, hears, plays) (js, hears_too, plays_too) =
      let both = hears_one old.failed old piece is js new other hears hears_too in
      let all = plays_one step one (map (at_moment at) is) c x.core z.core s t u x.acts z.acts plays
      (subst (λ (l : List Input). Plays step c (map (at_moment at) l) s z.acts z.core u) (sym both.0) plays_too) in
      (both.1, ap (λ (l : List LinkAction). effect l x.core) all.0 ∙ ap (λ (d : Core). effect z.acts d) all.1, all.2)

  -- ---- calls of an end

  meets_by_one : (b : Bool) (at : Moment) (i : Input) (c : Core) (old new other : Terminal) (s t u : S) (xs ys : List LinkAction) → MeetsBy step b at i c old s (Ok xs) new t → MeetsBy step b at i c old s (Ok ys) other u
      → (xs ≡ ys) × (new ≡ other) × (t ≡ u)
  meets_by_one true at i c old new other s t u xs ys h k = (same_listed xs ys h.0 k.0, h.1 ∙ sym k.1, h.2 ∙ sym k.2)
  meets_by_one false at i c old new other s t u xs ys (x, reacts, are, is) (z, reacts_too, are_too, is_too) =
      let both = reacts_one step one c (at_moment at i) s t u x z reacts reacts_too in
      (are ∙ (ap (λ (y : Effect). y.acts) both.0 ∙ sym are_too), is ∙ (ap (λ (y : Effect). terminal old.ear (Some y.core)) both.0 ∙ sym is_too), both.1)

  meets_in_one : (o : Option Core) (at : Moment) (i : Input) (old new other : Terminal) (s t u : S) (xs ys : List LinkAction) → MeetsIn step o at i old s (Ok xs) new t → MeetsIn step o at i old s (Ok ys) other u
      → (xs ≡ ys) × (new ≡ other) × (t ≡ u)
  meets_in_one None at i old new other s t u xs ys h k = (same_listed xs ys h.0 k.0, h.1 ∙ sym k.1, h.2 ∙ sym k.2)
  meets_in_one (Some c) at i old new other s t u xs ys h k = meets_by_one (is_gone (state_of c.phase)) at i c old new other s t u xs ys h k

  piece_one : (b : Bool) (at : Moment) (piece : List ℕ) (c : Core) (old new other : Terminal) (s t u : S) (xs ys : List LinkAction) → HearsPiece step b at piece c old s (Ok xs) new t → HearsPiece step b at piece c old s (Ok ys) other u
      → (xs ≡ ys) × (new ≡ other) × (t ≡ u)
  piece_one true at piece c old new other s t u xs ys h k = (same_listed xs ys h.0 k.0, h.1 ∙ sym k.1, h.2 ∙ sym k.2)
  piece_one false at piece c old new other s t u xs ys (x, plays, are, is) (z, plays_too, are_too, is_too) =
      let all = bytes_one at old.ear c piece s t u new.ear other.ear x z plays plays_too in
      let cored : new.core ≡ other.core = is ∙ (ap (λ (y : Effect). let o : Option Core = Some y.core in o) all.1 ∙ sym is_too) in
      (are ∙ (ap (λ (y : Effect). y.acts) all.1 ∙ sym are_too), same_terminal new other all.0 cored, all.2)

  bytes_in_one : (o : Option Core) (at : Moment) (piece : List ℕ) (old new other : Terminal) (s t u : S) (xs ys : List LinkAction) → HearsBytes step o at piece old s (Ok xs) new t → HearsBytes step o at piece old s (Ok ys) other u
      → (xs ≡ ys) × (new ≡ other) × (t ≡ u)
  bytes_in_one None at piece old new other s t u xs ys h k = (same_listed xs ys h.0 k.0, h.1 ∙ sym k.1, h.2 ∙ sym k.2)
  bytes_in_one (Some c) at piece old new other s t u xs ys h k = piece_one (is_gone (state_of c.phase)) at piece c old new other s t u xs ys h k

  loses_by_one : (b : Bool) (old new other : Terminal) (xs ys : List LinkAction) → LosesBy b old (Ok xs) new → LosesBy b old (Ok ys) other → (xs ≡ ys) × (new ≡ other)
  loses_by_one true old new other xs ys h k = (same_listed xs ys h.0 k.0, h.1 ∙ sym k.1)
  loses_by_one false old new other xs ys h k = absurd h.0

  loses_one : (o : Option Core) (old new other : Terminal) (xs ys : List LinkAction) → LosesIn o old (Ok xs) new → LosesIn o old (Ok ys) other → (xs ≡ ys) × (new ≡ other)
  loses_one None old new other xs ys h k = (same_listed xs ys h.0 k.0, h.1 ∙ sym k.1)
  loses_one (Some c) old new other xs ys h k = loses_by_one (is_gone (state_of c.phase)) old new other xs ys h k

  crowds_by_one : (b : Bool) (c : Core) (old new other : Terminal) (xs ys : List LinkAction) → CrowdsBy b c old (Ok xs) new → CrowdsBy b c old (Ok ys) other → (xs ≡ ys) × (new ≡ other)
  crowds_by_one true c old new other xs ys h k = (same_listed xs ys h.0 k.0, h.1 ∙ sym k.1)
  crowds_by_one false c old new other xs ys h k = (same_listed xs ys h.0 k.0, h.1 ∙ sym k.1)

  crowds_one : (o : Option Core) (old new other : Terminal) (xs ys : List LinkAction) → CrowdsIn o old (Ok xs) new → CrowdsIn o old (Ok ys) other → (xs ≡ ys) × (new ≡ other)
  crowds_one None old new other xs ys h k = (same_listed xs ys h.0 k.0, h.1 ∙ sym k.1)
  crowds_one (Some c) old new other xs ys h k = crowds_by_one (is_gone (state_of c.phase)) c old new other xs ys h k

  hears_of_one : (came : Heard) (at : Moment) (old new other : Terminal) (s t u : S) (xs ys : List LinkAction) → HearsOf step came at old s (Ok xs) new t → HearsOf step came at old s (Ok ys) other u
      → (xs ≡ ys) × (new ≡ other) × (t ≡ u)
  hears_of_one (heard.Bytes piece) at old new other s t u xs ys h k = bytes_in_one old.core at piece old new other s t u xs ys h k
  hears_of_one heard.End at old new other s t u xs ys h k = meets_in_one old.core at input.Ended old new other s t u xs ys h k
  hears_of_one heard.Fault at old new other s t u xs ys h k = meets_in_one old.core at input.Ended old new other s t u xs ys h k
  hears_of_one heard.Late at old new other s t u xs ys h k = meets_in_one old.core at input.Late old new other s t u xs ys h k
  hears_of_one heard.Idle at old new other s t u xs ys h k = meets_in_one old.core at (idle_in (state_in old.core)) old new other s t u xs ys h k
  hears_of_one heard.Crowded at old new other s t u xs ys h k =
      let both = crowds_one old.core old new other xs ys h.1 k.1 in
      (both.0, both.1, h.0 ∙ sym k.0)
  hears_of_one heard.Memory at old new other s t u xs ys h k =
      let both = loses_one old.core old new other xs ys h.1 k.1 in
      (both.0, both.1, h.0 ∙ sym k.0)

echoes_by_one : (b : Bool) (now : ℕ) (c : Core) (old new other : Terminal) (xs ys : List LinkAction) → EchoesBy b now c old (Ok xs) new → EchoesBy b now c old (Ok ys) other → (xs ≡ ys) × (new ≡ other)
echoes_by_one true now c old new other xs ys h k = (h.0 ∙ sym k.0, h.1 ∙ sym k.1)
echoes_by_one false now c old new other xs ys h k = (same_listed xs ys h.0 k.0, h.1 ∙ sym k.1)

echoes_one : (o : Option Core) (now : ℕ) (old new other : Terminal) (xs ys : List LinkAction) → EchoesIn o now old (Ok xs) new → EchoesIn o now old (Ok ys) other → (xs ≡ ys) × (new ≡ other)
echoes_one None now old new other xs ys h k = (same_listed xs ys h.0 k.0, h.1 ∙ sym k.1)
echoes_one (Some c) now old new other xs ys h k = echoes_by_one (is_free c) now c old new other xs ys h k

-- ---- sessions

module _ {L S : Type 0} (hears : L → Heard → L → Type 0) (sends : L → List ℕ → Bool → L → Type 0) (closes : L → L → Type 0) (step : S → DeskCall → DeskAnswer → S → Type 0) (tells : ℕ → Type 0) (others : ℕ)
    (hears_so : HearsOneWay hears) (sends_so : SendsOneWay sends) (closes_so : ClosesOneWay closes) (one : AnswersOneWay step) where
  abbrev placed : L → S → Terminal → Place L S
  placed link port end = record { link = link; port = port; terminal = end }

  same_place : (a b : Place L S) → a.link ≡ b.link → a.port ≡ b.port → a.terminal ≡ b.terminal → a ≡ b
  same_place a b e f g =
      ap (λ (l : L). placed l a.port a.terminal) e ∙ (ap (λ (p : S). placed b.link p a.terminal) f ∙ ap (λ (t : Terminal). placed b.link b.port t) g)

  does_one : (x : EndDoing) (old mid other : Place L S) (xs ys : List LinkAction) → Does hears sends closes step tells others x old (Ok xs) mid → Does hears sends closes step tells others x old (Ok ys) other
      → (xs ≡ ys) × (mid ≡ other)
  does_one (Heeds at came) old mid other xs ys (when, came_so, does) (when_too, came_too, does_too) =
      let all = hears_of_one step one came at old.terminal mid.terminal other.terminal old.port mid.port other.port xs ys does does_too in
      (all.0, same_place mid other (hears_so old.link mid.link other.link came came_so came_too) all.2 all.1)
  does_one (Wants at i) old mid other xs ys (when, linked, does) (when_too, linked_too, does_too) =
      let all = meets_in_one step one old.terminal.core at i old.terminal mid.terminal other.terminal old.port mid.port other.port xs ys does does_too in
      (all.0, same_place mid other (linked ∙ sym linked_too) all.2 all.1)
  does_one (Echoes at) old mid other xs ys (when, linked, ported, does) (when_too, linked_too, ported_too, does_too) =
      let both = echoes_one old.terminal.core at.now old.terminal mid.terminal other.terminal xs ys does does_too in
      (both.0, same_place mid other (linked ∙ sym linked_too) (ported ∙ sym ported_too) both.1)

  performs_one : (xs : List LinkAction) (k l m : L) → Performs sends closes k xs l → Performs sends closes k xs m → l ≡ m
  performs_one [] k l m h g = h ∙ sym g
  performs_one (Write bytes ∷ xs) k l m (n, sent, more) (o, sent_too, more_too) =
      performs_one xs n l m more (subst (λ (z : L). Performs sends closes z xs m) (sym (sends_so k n o bytes sent sent_too)) more_too)
  performs_one (Close ∷ xs) k l m (n, closed, more) (o, closed_too, more_too) =
      performs_one xs n l m more (subst (λ (z : L). Performs sends closes z xs m) (sym (closes_so k n o closed closed_too)) more_too)

  abbrev AllPerformed : Place L S → List LinkAction → Place L S → Type 0
  AllPerformed mid xs new = Performs sends closes mid.link xs new.link × (new.port ≡ mid.port) × (new.terminal ≡ mid.terminal)

  -- but for a fault of the link, the actions were performed
  all_performed : (x : EndDoing) (mid new : Place L S) (xs : List LinkAction) → Performed hears sends closes step tells others x mid xs new → AllPerformed mid xs new
  all_performed (Heeds at (heard.Bytes piece)) mid new xs h = h
  all_performed (Heeds at heard.End) mid new xs h = h
  all_performed (Heeds at heard.Late) mid new xs h = h
  all_performed (Heeds at heard.Idle) mid new xs h = h
  all_performed (Heeds at heard.Crowded) mid new xs h = h
  all_performed (Heeds at heard.Memory) mid new xs h = h
  all_performed (Heeds at heard.Fault) mid new xs h = absurd h
  all_performed (Wants at i) mid new xs h = h
  all_performed (Echoes at) mid new xs h = h

  performed_one : (mid new other : Place L S) (xs : List LinkAction) → AllPerformed mid xs new → AllPerformed mid xs other → new ≡ other
  performed_one mid new other xs h k = same_place new other (performs_one xs mid.link new.link other.link h.0 k.0) (h.1 ∙ sym k.1) (h.2 ∙ sym k.2)

  did_one : (x : EndDoing) (old new other : Place L S) → Did hears sends closes step tells others old x new → Did hears sends closes step tells others old x other → new ≡ other
  did_one x old new other (xs, mid, does, done) (ys, mid_too, does_too, done_too) =
      let both = does_one x old mid mid_too xs ys does does_too in
      performed_one mid new other xs (all_performed x mid new xs done)
      (subst (λ (p : Place L S). AllPerformed p xs other) (sym both.1) (subst (λ (l : List LinkAction). AllPerformed mid_too l other) (sym both.0) (all_performed x mid_too other ys done_too)))

  served_one : (xs : List EndDoing) (kind : Kind) (asked told again : ℕ) (old new other : Place L S)
      → Served hears sends closes step tells others kind asked old xs told new
      → Served hears sends closes step tells others kind asked old xs again other → (told ≡ again) × (new ≡ other)
  served_one [] kind asked told again old new other h k = (h.0 ∙ sym k.0, h.1 ∙ sym k.1)
  served_one (x ∷ xs) kind asked told again old new other (live, wished, (mid, did, more)) (live_too, wished_too, (mid_too, did_too, more_too)) =
      served_one xs kind (asked_after x asked) told again mid new other more
      (subst (λ (p : Place L S). Served hears sends closes step tells others kind (asked_after x asked) p xs again other) (sym (did_one x old mid mid_too did did_too)) more_too)

pub sessions_go_one_way : {L S C : Type 0} (hears : L → Heard → L → Type 0) (sends : L → List ℕ → Bool → L → Type 0) (closes : L → L → Type 0) (step : S → DeskCall → DeskAnswer → S → Type 0) (tells : C → ℕ → Type 0)
    → SessionsGoOneWay hears sends closes step tells
sessions_go_one_way hears sends closes step tells hears_so sends_so closes_so one clock others kind asked told again old new other xs h k =
    served_one hears sends closes step (tells clock) others hears_so sends_so closes_so one xs kind asked told again old new other h k
