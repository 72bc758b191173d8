-- Whatever a desk answers, an end writes spellings of PDUs that can be written.
use Rattle.std.proofs.Common.{◌≡◌, ℕ, Bool, true, false, List, [], ◌∷◌, map, Option, Some, None, Result, Ok, refl, sym, subst}
use Rattle.std.specs.Option.{option_map_or}
use Rattle.std.specs.Str.{bytes_eq}
use Rattle.std.specs.List.{AllByRecursion}
use Rattle.dr_base.specs.Texts.{Text}
use Rattle.dr_pdu.specs.declared.pdu.Pdu.{Pdu}
use Rattle.dr_pdu.specs.declared.pdu.Pdu.TheVariants as pdu
use Rattle.dr_pdu.specs.Written.{Fits}
use Rattle.dr_ulstate.specs.declared.table.State.{State}
use Rattle.dr_ulstate.specs.declared.table.State.TheVariants.{Sta1, Sta2, Sta3, Sta4, Sta5, Sta6, Sta7, Sta8, Sta9, Sta10, Sta11, Sta12, Sta13}
use Rattle.dr_dimse.specs.declared.command.Command.{Command}
use Rattle.dr_dimse.specs.declared.command.Command.TheVariants.{StoreRq, StoreRsp}
use Rattle.dr_dimse.specs.Written.{written}
use Rattle.dr_site.specs.Parts.{Part}
use Rattle.dr_ledger.specs.declared.content.Job.{Job}
use Rattle.dr_ledger.specs.declared.item.Arrived.{Arrived}
use Rattle.dr_ledger.specs.declared.fault.LedgerFault.{LedgerFault}
use Rattle.dr_nego.specs.declared.agreed.Agreed.{Agreed}
use Rattle.dr_nego.specs.declared.answering.Answer.{Answer}
use Rattle.dr_nego.specs.declared.answering.Answer.TheVariants.{Accept}
use Rattle.dr_nego.specs.declared.fragment.FragmentKind.TheVariants as kind
use Rattle.dr_nego.specs.Agreeing.{AssociateRq, AssociateAc, IsTooSmall}
use Rattle.dr_nego.specs.Answering.{answer}
use Rattle.dr_session.specs.declared.ends.Core.{Core}
use Rattle.dr_session.specs.declared.ends.Effect.{Effect}
use Rattle.dr_session.specs.declared.ends.Found.{Found}
use Rattle.dr_session.specs.declared.ends.Found.TheVariants.{Read, Nameless, Unreadable, TooLarge}
use Rattle.dr_session.specs.declared.ends.Input.{Input}
use Rattle.dr_session.specs.declared.ends.Input.TheVariants as input
use Rattle.dr_session.specs.declared.ends.LinkAction.{LinkAction}
use Rattle.dr_session.specs.declared.ends.Moment.{Moment}
use Rattle.dr_session.specs.declared.ends.Told.{Told}
use Rattle.dr_session.specs.Desks.{DeskCall, DeskAnswer, Arrive}
use Rattle.dr_session.specs.Reactions.{Reaction, turn, stores, stored, arrives, brings, is_named, store_pdus, says, arrival, write, event_of}
use Rattle.dr_ledger.specs.Replies.{store_status}
use Rattle.dr_session.specs.Messages.{command_pdus, data_pdus}
use Rattle.dr_session.specs.Turns.{Ends, Asks}
use Rattle.dr_session.specs.Fits.{InputFits}
use Rattle.dr_session.specs.Terms.{Serves, CoreServes, ToldServes}
use Rattle.dr_session.specs.Laws.{IsSpelled, WritesPdus, GivesPdus, AsksPdus, BeginsServing}
use Rattle.dr_session.specs.declared.ends.Heard.{Heard}
use Rattle.dr_session.specs.declared.ends.Heard.TheVariants as heard
use Rattle.dr_session.specs.Ends.{Terminal, is_gone, MeetsIn, MeetsBy, HearsOf, HearsBytes, HearsPiece, LosesBy, LosesIn, CrowdsBy, CrowdsIn, idle_in, state_in}
use Rattle.dr_session.specs.Plays.{At, Reacts, Plays, with_stage, at_moment}
use Rattle.dr_ulstate.specs.Phases.{state_of}
use Rattle.std.specs.declared.alloc.AllocError.{AllocError}
use Rattle.dr_session.proofs.Fitting.{AnswerFits, answer_fits}
use Rattle.dr_session.proofs.Served.{AnswerServes, answer_serves, pieces_fit, joined, limit_serves, told_serves, heard_serves}
use Rattle.dr_session.proofs.Wording.{ends_spelled, either, came, occurring, Spells}

wrote : (pdus : List Pdu) → AllByRecursion Fits pdus → IsSpelled (write pdus)
wrote pdus fit = (pdus, fit, refl)

alone : (p : Pdu) → Fits p → IsSpelled (write (p ∷ []))
alone p fits = wrote (p ∷ []) (fits, tt)

says_fit : (c : Core) (context : ℕ) (command : Command) → Serves c.site c.agreed → IsSpelled (says c context command)
says_fit c context command serves =
    let limit = option_map_or (λ (a : Agreed). a.limit) c.agreed 0 in
    wrote (command_pdus limit context command) (pieces_fit limit context kind.Command (written command) (limit_serves c.agreed serves.1))

said : (c : Core) (context : ℕ) (command : Command) → Serves c.site c.agreed → AllByRecursion IsSpelled (says c context command ∷ []) × Serves c.site c.agreed
said c context command serves = ((says_fit c context command serves, tt), serves)

asks_fit : (agreed : Agreed) (context id : ℕ) (item : Job) → (IsTooSmall agreed.limit → ⊥) → IsSpelled (write (store_pdus agreed context id item))
asks_fit agreed context id item large =
    let command = StoreRq id item.key.class item.uid in
    wrote (store_pdus agreed context id item)
    (joined Fits (command_pdus agreed.limit context command) (data_pdus agreed.limit context item.body)
    (pieces_fit agreed.limit context kind.Command (written command) large) (pieces_fit agreed.limit context kind.DataSet item.body large))

accepts_fit : (rq : AssociateRq) (site : Part) (others : ℕ) (o : Option Agreed) → Fits (pdu.AssociateRq rq) → Serves (Some site) o → (ac : AssociateAc) (agreed : Agreed) → answer rq site others ≡ Accept ac agreed
    → IsSpelled (write (pdu.AssociateAc ac ∷ [])) × Serves (Some site) (Some agreed)
accepts_fit rq site others o fits serves ac agreed is = (
  alone (pdu.AssociateAc ac) (subst (λ (a : Answer). AnswerFits a) is (answer_fits rq site others serves.0 fits)),
  (serves.0, subst (λ (a : Answer). AnswerServes a) is (answer_serves rq site others)),
)

bringing : (c : Core) (context id : ℕ) (class instance : Text) (item : Job) → Serves c.site c.agreed → Spells IsSpelled Serves (brings c context id class instance item)
bringing c context id class instance item serves =
    let follow : Result Arrived LedgerFault → Reaction = λ r. Ends (stored c context id class instance (store_status r)) in
    either IsSpelled Serves (is_named item class instance) (Asks (Arrive c.peer item) (arrival follow)) (Ends (stored c context id class instance 0xA900))
    (λ reply. came IsSpelled Serves follow (λ r. said c context (StoreRsp id (store_status r) class instance false) serves) reply)
    (said c context (StoreRsp id 0xA900 class instance false) serves)

arriving : (c : Core) (context id : ℕ) (class instance : Text) (found : Found) → Serves c.site c.agreed → Spells IsSpelled Serves (arrives c context id class instance found)
arriving c context id class instance TooLarge serves = said c context (StoreRsp id 0xA700 class instance false) serves
arriving c context id class instance Unreadable serves = said c context (StoreRsp id 0xC000 class instance false) serves
arriving c context id class instance Nameless serves = said c context (StoreRsp id 0xA900 class instance false) serves
arriving c context id class instance (Read item) serves = bringing c context id class instance item serves

storing : (c : Core) (context : ℕ) (of : Text) (id : ℕ) (class instance : Text) (found : Found) → Serves c.site c.agreed → Spells IsSpelled Serves (stores c context of id class instance found)
storing c context of id class instance found serves =
    either IsSpelled Serves (bytes_eq class of) (arrives c context id class instance found) (Ends (stored c context id class instance 0x0122))
    (arriving c context id class instance found serves) (said c context (StoreRsp id 0x0122 class instance false) serves)

pub writes_pdus : {S : Type 0} (step : S → DeskCall → DeskAnswer → S → Type 0) → WritesPdus step
writes_pdus step at c told s t x serves fits turns =
    ends_spelled IsSpelled Serves step (turn at c told) s t x
    (occurring IsSpelled Serves (λ (y : Told). ToldServes y) tt (λ p none fit. alone p fit)
    (λ rq site others o fit k ac agreed is. accepts_fit rq site others o fit k ac agreed is) (λ site o agreed large k. (k.0, large))
    (λ site agreed context id item k. asks_fit agreed context id item k.1)
    (λ d context command other k. says_fit d context command k)
    (λ context of id class instance found takes d k. storing d context of id class instance found k) (event_of told at c) at told fits c serves) turns

-- ---- over inputs, and at each call of an end

abbrev InputServes : At → Type 0
InputServes i = InputFits i.input

at_once : (at : Moment) (is : List Input) → AllByRecursion InputFits is → AllByRecursion InputServes (map (at_moment at) is)
at_once at [] h = tt
at_once at (i ∷ is) h = (h.0, at_once at is h.1)

abbrev Wrote : List LinkAction → Core → Type 0
Wrote acts c = AllByRecursion IsSpelled acts × Serves c.site c.agreed

reacted : {S : Type 0} (step : S → DeskCall → DeskAnswer → S → Type 0) (c : Core) (i : At) (s t : S) (x : Effect) → Serves c.site c.agreed → InputFits i.input → Reacts step c i s x t → Wrote x.acts x.core
reacted step c i s t x serves fits one =
    writes_pdus step i.moment (with_stage one.stage c) one.told s t x serves (told_serves c i.input one.told one.stage fits one.tells) one.turns

plays_spelled : {S : Type 0} (step : S → DeskCall → DeskAnswer → S → Type 0) (c d : Core) (is : List At) (s t : S) (done : List LinkAction) → Serves c.site c.agreed → AllByRecursion InputServes is → Plays step c is s done d t → Wrote done d
plays_spelled step c d [] s t done serves fit (none, same, stood) = (
  subst (λ (l : List LinkAction). AllByRecursion IsSpelled l) (sym none) tt,
  subst (λ (e : Core). Serves e.site e.agreed) (sym same) serves,
)
plays_spelled step c d (i ∷ is) s t done serves fit (x, m, later, one, more, are) =
    let first = reacted step c i s m x serves fit.0 one in
    let rest = plays_spelled step x.core d is m t later first.1 fit.1 more in (
      subst (λ (l : List LinkAction). AllByRecursion IsSpelled l) (sym are) (joined IsSpelled x.acts later first.0 rest.0),
      rest.1,
    )

module _ {S : Type 0} (step : S → DeskCall → DeskAnswer → S → Type 0) (at : Moment) (old new : Terminal) (s t : S) (done : List LinkAction) (serves : CoreServes old.core) where
  abbrev Gave : Type 0
  Gave = AllByRecursion IsSpelled done × CoreServes new.core

  spelled_none : (r : Result (List LinkAction) AllocError) → r ≡ Ok done → r ≡ Ok [] → AllByRecursion IsSpelled done
  spelled_none r is none = let none : done ≡ [] = cc in subst (λ (l : List LinkAction). AllByRecursion IsSpelled l) (sym none) tt

  nothing_spelled : (r : Result (List LinkAction) AllocError) → r ≡ Ok done → r ≡ Ok [] → new ≡ old → Gave
  nothing_spelled r is none same = (spelled_none r is none, subst (λ (e : Terminal). CoreServes e.core) (sym same) serves)

  serves_in : (c : Core) → old.core ≡ Some c → Serves c.site c.agreed
  serves_in c is = subst (λ (o : Option Core). CoreServes o) is serves

  meets_by : (over : Bool) (i : Input) (c : Core) → old.core ≡ Some c → InputFits i → MeetsBy step over at i c old s (Ok done) new t → Gave
  meets_by true i c is fits h = nothing_spelled (Ok done) refl h.0 h.1
  meets_by false i c is fits (x, one, are, stands) =
      let both = reacted step c (at_moment at i) s t x (serves_in c is) fits one in (
        subst (λ (l : List LinkAction). AllByRecursion IsSpelled l) (sym are) both.0,
        subst (λ (e : Terminal). CoreServes e.core) (sym stands) both.1,
      )

  meets_in : (o : Option Core) (i : Input) → old.core ≡ o → InputFits i → MeetsIn step o at i old s (Ok done) new t → Gave
  meets_in None i is fits h = nothing_spelled (Ok done) refl h.0 h.1
  meets_in (Some c) i is fits h = meets_by (is_gone (state_of c.phase)) i c is fits h

  hears_by : (over : Bool) (piece : List ℕ) (c : Core) → old.core ≡ Some c → HearsPiece step over at piece c old s (Ok done) new t → Gave
  hears_by true piece c is h = nothing_spelled (Ok done) refl h.0 h.1
  hears_by false piece c is (x, plays, are, stands) =
      let both = plays_spelled step c x.core (map (at_moment at) plays.0) s t x.acts (serves_in c is) (at_once at plays.0 (heard_serves old.ear piece plays.0 new.ear plays.1)) plays.2 in (
        subst (λ (l : List LinkAction). AllByRecursion IsSpelled l) (sym are) both.0,
        subst (λ (o : Option Core). CoreServes o) (sym stands) both.1,
      )

  hears_in : (o : Option Core) (piece : List ℕ) → old.core ≡ o → HearsBytes step o at piece old s (Ok done) new t → Gave
  hears_in None piece is h = nothing_spelled (Ok done) refl h.0 h.1
  hears_in (Some c) piece is h = hears_by (is_gone (state_of c.phase)) piece c is h

  loses_by : (over : Bool) → LosesBy over old (Ok done) new → Gave
  loses_by true h = nothing_spelled (Ok done) refl h.0 h.1
  loses_by false h = absurd h.0

  loses_in : (o : Option Core) → LosesIn o old (Ok done) new → Gave
  loses_in None h = nothing_spelled (Ok done) refl h.0 h.1
  loses_in (Some c) h = loses_by (is_gone (state_of c.phase)) h

  crowds_by : (over : Bool) (c : Core) → old.core ≡ Some c → CrowdsBy over c old (Ok done) new → Gave
  crowds_by true c is h = nothing_spelled (Ok done) refl h.0 h.1
  crowds_by false c is h = (spelled_none (Ok done) refl h.0, subst (λ (e : Terminal). CoreServes e.core) (sym h.1) (serves_in c is))

  crowds_in : (o : Option Core) → old.core ≡ o → CrowdsIn o old (Ok done) new → Gave
  crowds_in None is h = nothing_spelled (Ok done) refl h.0 h.1
  crowds_in (Some c) is h = crowds_by (is_gone (state_of c.phase)) c is h

  silent_fits : (q : State) → InputFits (idle_in q)
  silent_fits Sta1 = tt
  silent_fits Sta2 = tt
  silent_fits Sta3 = tt
  silent_fits Sta4 = tt
  silent_fits Sta5 = tt
  silent_fits Sta6 = tt
  silent_fits Sta7 = tt
  silent_fits Sta8 = tt
  silent_fits Sta9 = tt
  silent_fits Sta10 = tt
  silent_fits Sta11 = tt
  silent_fits Sta12 = tt
  silent_fits Sta13 = tt

  hears_of : (heard : Heard) → HearsOf step heard at old s (Ok done) new t → Gave
  hears_of (heard.Bytes piece) h = hears_in old.core piece refl h
  hears_of heard.End h = meets_in old.core input.Ended refl tt h
  hears_of heard.Late h = meets_in old.core input.Late refl tt h
  hears_of heard.Idle h = meets_in old.core (idle_in (state_in old.core)) refl (silent_fits (state_in old.core)) h
  hears_of heard.Fault h = meets_in old.core input.Ended refl tt h
  hears_of heard.Crowded h = crowds_in old.core refl h.1
  hears_of heard.Memory h = loses_in old.core h.1

pub gives_pdus : {S : Type 0} (step : S → DeskCall → DeskAnswer → S → Type 0) → GivesPdus step
gives_pdus step came at old new s t done serves h = hears_of step at old new s t done serves came h

pub asks_pdus : {S : Type 0} (step : S → DeskCall → DeskAnswer → S → Type 0) → AsksPdus step
asks_pdus step i at old new s t done serves fits h = meets_in step at old new s t done serves old.core i refl fits h

pub begins_serving : BeginsServing
begins_serving site dest rq now is = ((is, tt), (is, tt), (tt, tt))
