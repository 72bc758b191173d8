-- What an end is told can be answered within the other side's limit.
use Rattle.std.proofs.Common.{◌≡◌, ℕ, Bool, true, false, List, [], ◌∷◌, ◌++◌, map, Option, Some, None, Result, Ok, Err, refl, sym, subst, arith}
use Rattle.std.specs.Prelude.{not, ◌&&◌, ◌%◌, ◌==◌, nat_le, if◌then◌else◌}
use Rattle.std.specs.List.{AllByRecursion, flat_map}
use Rattle.std.specs.Option.{option_map_or}
use Rattle.std.specs.Str.{bytes_eq}
use Rattle.std.proofs.lemmas.List.Elements.{recursion_from_All}
use Rattle.dr_pdu.specs.Written.{Fits, MeetsLimit}
use Rattle.dr_pdu.specs.Feeding.{Feeding}
use Rattle.dr_pdu.specs.declared.pdu.Pdu.{Pdu}
use Rattle.dr_pdu.specs.declared.pdu.Pdu.TheVariants as pdu
use Rattle.dr_pdu.specs.declared.pdu.Pdv.{Pdv}
use Rattle.dr_ulstate.specs.declared.table.State.{State}
use Rattle.dr_ulstate.specs.declared.table.State.TheVariants.{Sta1, Sta2, Sta3, Sta4, Sta5, Sta6, Sta7, Sta8, Sta9, Sta10, Sta11, Sta12, Sta13}
use Rattle.dr_ulstate.specs.declared.table.Event.TheVariants.{AssociateAcPdu, DataPdu}
use Rattle.dr_ulstate.specs.Table.{action_of}
use Rattle.dr_dimse.specs.declared.command.Command.{Command}
use Rattle.dr_dimse.specs.declared.command.Command.TheVariants as command
use Rattle.dr_dimse.specs.declared.message.Body.{Body}
use Rattle.dr_dimse.specs.declared.message.Message.{Message}
use Rattle.dr_dimse.specs.declared.fault.DimseFault.{DimseFault}
use Rattle.dr_dimse.specs.declared.fault.DimseFault.TheVariants as dimse
use Rattle.dr_dimse.specs.Taking.{MessageStage}
use Rattle.dr_site.specs.Parts.{Part}
use Rattle.dr_nego.specs.declared.agreed.Agreed.{Agreed}
use Rattle.dr_nego.specs.declared.agreed.Pair.{Pair}
use Rattle.dr_nego.specs.declared.answering.Answer.{Answer}
use Rattle.dr_nego.specs.declared.answering.Answer.TheVariants.{Accept, Reject, TooSmall}
use Rattle.dr_nego.specs.declared.fault.NegoFault.{NegoFault}
use Rattle.dr_nego.specs.declared.fragment.FragmentKind.{FragmentKind}
use Rattle.dr_nego.specs.Agreeing.{AssociateRq, AssociateAc, Concludes, IsTooSmall, pair_at}
use Rattle.dr_base.specs.Standard.{application_context}
use Rattle.dr_nego.specs.Answering.{answer, answer_by, refusal, is_stranger}
use Rattle.dr_nego.specs.Fragments.{fragment_pdus}
use Rattle.dr_nego.proofs.Cutting.{fragments_fit}
use Rattle.dr_nego.proofs.Faults.{too_small_not}
use Rattle.dr_session.specs.declared.ends.Core.{Core}
use Rattle.dr_session.specs.declared.ends.Input.{Input}
use Rattle.dr_session.specs.declared.ends.Input.TheVariants as input
use Rattle.dr_session.specs.declared.ends.Told.{Told}
use Rattle.dr_session.specs.declared.ends.Told.TheVariants.{Plain, Quiet, Fault, Strange, Store, Whole, Agreement}
use Rattle.dr_session.specs.Fits.{InputFits, PduFits}
use Rattle.dr_session.specs.Terms.{LimitServes, ToldServes}
use Rattle.dr_session.specs.Plays.{HearsLast, HearsBy, Hears, inputs_of, input_of}
use Rattle.dr_session.specs.Telling.{Says, SaysOf, TellsIn, TellsValue, TellsAcceptance, Tells, Looks, state_at}
use Rattle.dr_session.proofs.Pieces.{run_fits, fault_fits}

-- ---- fragments

abbrev FitsWithin : ℕ → Pdu → Type 0
FitsWithin limit p = Fits p × MeetsLimit limit p

firsts : (limit : ℕ) (ps : List Pdu) → AllByRecursion (FitsWithin limit) ps → AllByRecursion Fits ps
firsts limit [] h = tt
firsts limit (p ∷ ps) h = (h.0.0, firsts limit ps h.1)

-- the PDUs of a command or a data set can be written
pub pieces_fit : (limit id : ℕ) (kind : FragmentKind) (text : List ℕ) → (IsTooSmall limit → ⊥) → AllByRecursion Fits (fragment_pdus limit id kind text)
pieces_fit limit id kind text large =
    firsts limit (fragment_pdus limit id kind text)
    (recursion_from_All (FitsWithin limit) (fragment_pdus limit id kind text) (fragments_fit limit id kind text large))

pub joined : {X : Type 0} (P : X → Type 0) (xs ys : List X) → AllByRecursion P xs → AllByRecursion P ys → AllByRecursion P (xs ++ ys)
joined P [] ys h k = k
joined P (x ∷ xs) ys h k = (h.0, joined P xs ys h.1 k)

-- where nothing is agreed on there is no limit
pub limit_serves : (o : Option Agreed) → LimitServes o → IsTooSmall (option_map_or (λ (a : Agreed). a.limit) o 0) → ⊥
limit_serves None h small = absurd (omega (arith, small.0))
limit_serves (Some agreed) h small = h small

-- ---- the answer to a request

abbrev pub AnswerServes : Answer → Type 0
AnswerServes (Accept ac agreed) = IsTooSmall agreed.limit → ⊥
AnswerServes (Reject outcome source reason) = Unit {0}
AnswerServes TooSmall = Unit {0}

-- what is refused agrees on nothing; what isn't has such a limit
abbrev RefusedOr : ℕ → Option Answer → Type 0
RefusedOr limit None = IsTooSmall limit → ⊥
RefusedOr limit (Some a) = AnswerServes a

by_test : (limit : ℕ) (b : Bool) (x y : Option Answer) → RefusedOr limit x → (b ≡ false → RefusedOr limit y) → RefusedOr limit (if b then x else y)
by_test limit true x y h k = h
by_test limit false x y h k = k refl

refused_or : (rq : AssociateRq) (site : Part) (others : ℕ) → RefusedOr rq.max_pdu (refusal rq site others)
refused_or rq site others =
    by_test rq.max_pdu (not (bytes_eq rq.application application_context)) _ _ tt
    (λ a. by_test rq.max_pdu (rq.front.version % 2 == 0) _ _ tt
    (λ b. by_test rq.max_pdu (not (bytes_eq rq.front.called site.name)) _ _ tt
    (λ c. by_test rq.max_pdu (is_stranger site.accepts rq.front.calling) _ _ tt
    (λ d. by_test rq.max_pdu (nat_le 256 others) _ _ tt
    (λ e. by_test rq.max_pdu (nat_le 1 rq.max_pdu && nat_le rq.max_pdu 7) _ _ tt
    (λ f. too_small_not rq.max_pdu f))))))

served_by : (rq : AssociateRq) (site : Part) (o : Option Answer) → RefusedOr rq.max_pdu o → AnswerServes (answer_by o rq site)
served_by rq site None h = h
served_by rq site (Some a) h = h

pub answer_serves : (rq : AssociateRq) (site : Part) (others : ℕ) → AnswerServes (answer rq site others)
answer_serves rq site others = served_by rq site (refusal rq site others) (refused_or rq site others)

-- ---- what an input comes to

serves : (told other : Told) → told ≡ other → ToldServes other → ToldServes told
serves told other is h = subst (λ (t : Told). ToldServes t) (sym is) h

says_of : (x : Pair) (id : ℕ) (b : Option Body) (c : Command) (told : Told) → SaysOf x id b c told → ToldServes told
says_of x id None c told h = serves told (Whole id x.class c) h tt
says_of x id (Some b) (command.StoreRq n class instance) told (found, finds, is) = serves told (Store id x.class n class instance found) is tt
says_of x id (Some b) (command.StoreRsp to status class instance has_data) told h = serves told (Whole id x.class (command.StoreRsp to status class instance has_data)) h tt
says_of x id (Some b) (command.EchoRq n class has_data) told h = serves told (Whole id x.class (command.EchoRq n class has_data)) h tt
says_of x id (Some b) (command.EchoRsp to status class has_data) told h = serves told (Whole id x.class (command.EchoRsp to status class has_data)) h tt
says_of x id (Some b) (command.Other field n status has_data) told h = serves told (Whole id x.class (command.Other field n status has_data)) h tt

says : (x : Pair) (r : Result (Option Message) DimseFault) (told : Told) → Says x r told → ToldServes told
says x (Ok None) told h = serves told Quiet h tt
says x (Ok (Some m)) told h = says_of x m.id m.body m.command told h
says x (Err dimse.Memory) told h = absurd h
says x (Err dimse.OutOfPlace) told h = serves told Fault h tt
says x (Err dimse.MixedContext) told h = serves told Fault h tt
says x (Err dimse.BadCommand) told h = serves told Fault h tt
says x (Err dimse.TooLong) told h = serves told Fault h tt

in_context : (o : Option Pair) (c : Core) (p : Pdv) (told : Told) (stage : MessageStage) → TellsIn o c p told stage → ToldServes told
in_context None c p told stage h = serves told Strange h.0 tt
in_context (Some x) c p told stage (r, takes, is) = says x r told is

of_value : (o : Option Agreed) (c : Core) (p : Pdv) (told : Told) (stage : MessageStage) → TellsValue o c p told stage → ToldServes told
of_value None c p told stage h = serves told Strange h.0 tt
of_value (Some agreed) c p told stage h = in_context (pair_at agreed p.id) c p told stage h

concluded : (rq : AssociateRq) (ac : AssociateAc) (a : Result Agreed NegoFault) → Concludes rq ac a → ToldServes (Agreement a)
concluded rq ac (Ok agreed) h = subst (λ (x : Agreed). IsTooSmall x.limit → ⊥) (sym h.3) h.2
concluded rq ac (Err why) h = tt

of_acceptance : (o : Option AssociateRq) (ac : AssociateAc) (told : Told) → TellsAcceptance o ac told → ToldServes told
of_acceptance None ac told h = serves told (Plain (input.Acceptance ac)) h tt
of_acceptance (Some rq) ac told (a, concludes, is) = serves told (Agreement a) is (concluded rq ac a concludes)

-- by the state that a value or an acceptance comes in
value_in : (s : State) (c : Core) (p : Pdv) (told : Told) (stage : MessageStage) → Looks (action_of DataPdu s) c (input.Value p) told stage → ToldServes told
value_in Sta1 c p told stage h = serves told (Plain (input.Value p)) h.0 tt
value_in Sta2 c p told stage h = serves told (Plain (input.Value p)) h.0 tt
value_in Sta3 c p told stage h = serves told (Plain (input.Value p)) h.0 tt
value_in Sta4 c p told stage h = serves told (Plain (input.Value p)) h.0 tt
value_in Sta5 c p told stage h = serves told (Plain (input.Value p)) h.0 tt
value_in Sta6 c p told stage h = of_value c.agreed c p told stage h
value_in Sta7 c p told stage h = of_value c.agreed c p told stage h
value_in Sta8 c p told stage h = serves told (Plain (input.Value p)) h.0 tt
value_in Sta9 c p told stage h = serves told (Plain (input.Value p)) h.0 tt
value_in Sta10 c p told stage h = serves told (Plain (input.Value p)) h.0 tt
value_in Sta11 c p told stage h = serves told (Plain (input.Value p)) h.0 tt
value_in Sta12 c p told stage h = serves told (Plain (input.Value p)) h.0 tt
value_in Sta13 c p told stage h = serves told (Plain (input.Value p)) h.0 tt

acceptance_in : (s : State) (c : Core) (ac : AssociateAc) (told : Told) (stage : MessageStage) → Looks (action_of AssociateAcPdu s) c (input.Acceptance ac) told stage → ToldServes told
acceptance_in Sta1 c ac told stage h = serves told (Plain (input.Acceptance ac)) h.0 tt
acceptance_in Sta2 c ac told stage h = serves told (Plain (input.Acceptance ac)) h.0 tt
acceptance_in Sta3 c ac told stage h = serves told (Plain (input.Acceptance ac)) h.0 tt
acceptance_in Sta4 c ac told stage h = serves told (Plain (input.Acceptance ac)) h.0 tt
acceptance_in Sta5 c ac told stage h = of_acceptance c.proposed ac told h.0
acceptance_in Sta6 c ac told stage h = serves told (Plain (input.Acceptance ac)) h.0 tt
acceptance_in Sta7 c ac told stage h = serves told (Plain (input.Acceptance ac)) h.0 tt
acceptance_in Sta8 c ac told stage h = serves told (Plain (input.Acceptance ac)) h.0 tt
acceptance_in Sta9 c ac told stage h = serves told (Plain (input.Acceptance ac)) h.0 tt
acceptance_in Sta10 c ac told stage h = serves told (Plain (input.Acceptance ac)) h.0 tt
acceptance_in Sta11 c ac told stage h = serves told (Plain (input.Acceptance ac)) h.0 tt
acceptance_in Sta12 c ac told stage h = serves told (Plain (input.Acceptance ac)) h.0 tt
acceptance_in Sta13 c ac told stage h = serves told (Plain (input.Acceptance ac)) h.0 tt

pub told_serves : (c : Core) (i : Input) (told : Told) (stage : MessageStage) → InputFits i → Tells c i told stage → ToldServes told
told_serves c (input.Value p) told stage fits h = value_in (state_at c) c p told stage h
told_serves c (input.Acceptance ac) told stage fits h = acceptance_in (state_at c) c ac told stage h
told_serves c (input.Request rq) told stage fits h = serves told (Plain (input.Request rq)) h.0 fits
told_serves c (input.Rejection rj) told stage fits h = serves told (Plain (input.Rejection rj)) h.0 tt
told_serves c input.NoValue told stage fits h = serves told (Plain input.NoValue) h.0 tt
told_serves c input.ReleaseRq told stage fits h = serves told (Plain input.ReleaseRq) h.0 tt
told_serves c input.ReleaseRp told stage fits h = serves told (Plain input.ReleaseRp) h.0 tt
told_serves c (input.Abort a) told stage fits h = serves told (Plain (input.Abort a)) h.0 tt
told_serves c input.Unknown told stage fits h = serves told (Plain input.Unknown) h.0 tt
told_serves c input.Invalid told stage fits h = serves told (Plain input.Invalid) h.0 tt
told_serves c input.Ended told stage fits h = serves told (Plain input.Ended) h.0 tt
told_serves c input.Late told stage fits h = serves told (Plain input.Late) h.0 tt
told_serves c input.AbortAsked told stage fits h = serves told (Plain input.AbortAsked) h.0 tt
told_serves c input.ReleaseAsked told stage fits h = serves told (Plain input.ReleaseAsked) h.0 tt
told_serves c input.PushAsked told stage fits h = serves told (Plain input.PushAsked) h.0 tt

-- ---- inputs of bytes

values_serve : (ps : List Pdv) → AllByRecursion InputFits (map input.Value ps)
values_serve [] = tt
values_serve (p ∷ ps) = (tt, values_serve ps)

inputs_fit : (p : Pdu) → PduFits p → AllByRecursion InputFits (inputs_of p)
inputs_fit (pdu.AssociateRq rq) fits = (fits, tt)
inputs_fit (pdu.AssociateAc ac) fits = (tt, tt)
inputs_fit (pdu.AssociateRj rj) fits = (tt, tt)
inputs_fit (pdu.Transfer []) fits = (tt, tt)
inputs_fit (pdu.Transfer (p ∷ ps)) fits = (tt, values_serve ps)
inputs_fit pdu.ReleaseRq fits = (tt, tt)
inputs_fit pdu.ReleaseRp fits = (tt, tt)
inputs_fit (pdu.Abort a) fits = (tt, tt)

of_pdus : (ps : List Pdu) → AllByRecursion PduFits ps → AllByRecursion InputFits (flat_map inputs_of ps)
of_pdus [] h = tt
of_pdus (p ∷ ps) h = joined InputFits (inputs_of p) (flat_map inputs_of ps) (inputs_fit p h.0) (of_pdus ps h.1)

last_fits : (failed : Bool) (limit : ℕ) (rest : List ℕ) (last : List Input) (kept : List ℕ) → HearsLast failed limit rest last kept → AllByRecursion InputFits last
last_fits false limit rest last kept (shows, none, same) = subst (λ (is : List Input). AllByRecursion InputFits is) (sym none) tt
last_fits true limit rest last kept (fault, is, shows, one, same) =
    subst (λ (is : List Input). AllByRecursion InputFits is) (sym one) (fault_fits (input_of fault) fault refl, tt)

hears_by : (failed : Bool) (old : Feeding) (piece : List ℕ) (inputs : List Input) (new : Feeding) → HearsBy failed old piece inputs new → AllByRecursion InputFits inputs
hears_by true old piece inputs new h = subst (λ (is : List Input). AllByRecursion InputFits is) (sym h.0) tt
hears_by false old piece inputs new h =
    subst (λ (is : List Input). AllByRecursion InputFits is) (sym h.are)
    (joined InputFits (flat_map inputs_of h.pdus) h.last (of_pdus h.pdus (run_fits old.limit h.pdus (old.kept ++ piece) h.rest h.run)) (last_fits new.failed old.limit h.rest h.last new.kept h.stops))

-- what a piece brings can be answered
pub heard_serves : (old : Feeding) (piece : List ℕ) (inputs : List Input) (new : Feeding) → Hears old piece inputs new → AllByRecursion InputFits inputs
heard_serves old piece inputs new h = hears_by old.failed old piece inputs new h
