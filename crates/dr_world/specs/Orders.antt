-- What is ordered in a world: which steps aren't taken for other makers' products, what these write
-- for what they are told to do, and what a list of orders comes to.
use Rattle.std.specs.Prelude.{◌≡◌, ◌⊎◌, ℕ, List, [], ◌∷◌, ◌++◌, Contains, true, false}
use Rattle.std.specs.Prelude.{Option, None, Some, is_some, map as mapped}
use Rattle.std.specs.FinMap as map
use Rattle.dr_base.specs.Texts.{Text}
use Rattle.dr_base.specs.Syntaxes.{syntax_uid}
use Rattle.dr_dimse.specs.declared.command.Command.TheVariants.{StoreRq, StoreRsp}
use Rattle.dr_ledger.specs.declared.content.Job.{Job}
use Rattle.dr_ledger.specs.declared.ledger.Ledger.{Ghosts}
use Rattle.dr_nego.specs.Agreeing.{context_for}
use Rattle.dr_nego.specs.Fragments.{spellings}
use Rattle.dr_nego.specs.declared.agreed.Agreed.{Agreed}
use Rattle.dr_node.specs.declared.links.LinkSide.{LinkSide}
use Rattle.dr_pdu.specs.declared.pdu.Pdu.{Pdu}
use Rattle.dr_plan_model.specs.Networks.{Network}
use Rattle.dr_plan_sound.specs.declared.certificate.Certificate.{Certificate}
use Rattle.dr_cert.specs.Sealing.{Certified}
use Rattle.dr_site.specs.Sites.{IsCertified}
use Rattle.dr_session.specs.Messages.{command_pdus, data_pdus}
use Rattle.dr_session.specs.Pendings.{agreed_in, asked_in}
use Rattle.dr_session.specs.declared.ends.Pending.{Pending}
use Rattle.dr_world_tie.specs.ByteWorlds.{Acceptor, ByteWorld, Requestor, Side, beginning}
use Rattle.dr_world_script.specs.declared.foreign.Foreign.TheVariants as foreign
use Rattle.dr_world_script.specs.declared.step.Side as steps
use Rattle.dr_world_script.specs.declared.step.Side.TheVariants as side
use Rattle.dr_world_script.specs.declared.step.Step.{Step}
use Rattle.dr_world_script.specs.declared.step.Step.TheVariants.{Submit, Open, Away, Push, Move}
use Rattle.dr_world_script.specs.declared.step.Step.TheVariants.{Abort, Release, Close, Late}
use Rattle.dr_world_script.specs.declared.step.Step.TheVariants.{Restart, Requeue, Drop, Forget}
use Rattle.dr_world_script.specs.declared.step.Step.TheVariants.{Tick, RefuseStore}
use Rattle.dr_world.specs.declared.changing.Change.{Change}
use Rattle.dr_world.specs.declared.deed.Deed.{Deed}
use Rattle.dr_world.specs.declared.deed.Deed.TheVariants as deed
use Rattle.dr_world.specs.declared.order.WorldOrder.{WorldOrder}
use Rattle.dr_world.specs.declared.order.WorldOrder.TheVariants as order
use Rattle.dr_world.specs.declared.order.ForeignRefusal.{ForeignRefusal}
use Rattle.dr_world.specs.declared.order.ForeignRefusal.TheVariants.{NoContext, NoLink, NotAsked}
use Rattle.dr_world.specs.declared.order.ForeignRefusal.TheVariants.{BothForeign, NotForeign}
use Rattle.dr_world.specs.declared.order.RefusedForeign.{RefusedForeign}
use Rattle.dr_world.specs.declared.order.RefusedForeign.TheVariants as refused
use Rattle.dr_world.specs.declared.order.Spoken.{Spoken}
use Rattle.dr_world.specs.declared.order.Spoken.TheVariants.{Refuses, Writes}
use Rattle.dr_world.specs.declared.playing.PlayNotes.{PlayNotes}
use Rattle.dr_world.specs.declared.wires.Wires.{Wires}
use Rattle.dr_world.specs.declared.world.World.{World}
use Rattle.dr_world.specs.Ends.{name_at, named, wire_at}
use Rattle.dr_world.specs.Played.{IsChange, IsRunOf, PlaysAll, PlaysThrough}
use Rattle.dr_world.specs.Runs.{IsReached}
use Rattle.dr_world.specs.Shows.{Contents, IsSeated, Seat, ShowsBytes}
use Rattle.dr_world.specs.Whole.{contents}

-- ---- steps that aren't taken

-- that end of a link is at one of these nodes
abbrev pub IsOthersEnd : List Text → Contents → ℕ → Side → Type 0
IsOthersEnd others c link at =
    (w : Wires) × (c.wires link ≡ Some w) × Contains others (name_at at w)

-- One of these nodes takes the step, or it is taken at its end of a link. That a connection is
-- opened or lost, that a node comes up again, and that time passes, happens to any product.
abbrev pub IsOthers : List Text → Contents → Step → Type 0
IsOthers others c (Submit node item) = Contains others node
IsOthers others c (Away from to) = Contains others from
IsOthers others c (Requeue node uid dest) = Contains others node
IsOthers others c (Drop node uid dest) = Contains others node
IsOthers others c (Forget node uid) = Contains others node
IsOthers others c (RefuseStore node) = Contains others node
IsOthers others c (Push link) = IsOthersEnd others c link Requestor
IsOthers others c (Release link) = IsOthersEnd others c link Requestor
IsOthers others c (Abort link at) = IsOthersEnd others c link (named at)
IsOthers others c (Late link at) = IsOthersEnd others c link (named at)
IsOthers others c (Move link reader most) = IsOthersEnd others c link (named reader)
IsOthers others c (Open from to) = ⊥
IsOthers others c (Close link) = ⊥
IsOthers others c (Restart node) = ⊥
IsOthers others c (Tick ms) = ⊥

-- a deed that isn't done
abbrev pub IsPassedOver : List Text → Contents → Deed → Type 0
IsPassedOver others c (deed.Step step) = IsOthers others c step
IsPassedOver others c (deed.Adopt next) = ⊥
IsPassedOver others c (deed.Bytes link at bytes) = ⊥

-- ---- what is written

-- what a node has agreed on at a link
abbrev pub agreed_of_side : Option LinkSide → Option Agreed
agreed_of_side None = None
agreed_of_side (Some own) = agreed_in own.end.core

abbrev pub agreed_at : ℕ → Option Seat → Option Agreed
agreed_at link None = None
agreed_at link (Some seat) = agreed_of_side (map.get seat.sides link)

-- the request whose response it awaits there
abbrev pub asked_of_side : Option LinkSide → Option Pending
asked_of_side None = None
asked_of_side (Some own) = asked_in own.end.core

abbrev pub asked_at : ℕ → Option Seat → Option Pending
asked_at link None = None
asked_at link (Some seat) = asked_of_side (map.get seat.sides link)

-- the context that was accepted for the item's class and transfer syntax
abbrev pub context_in : Option Agreed → Job → Option ℕ
context_in None item = None
context_in (Some agreed) item =
    context_for agreed item.key.class (syntax_uid item.key.syntax)

-- a store of the item in that context, in PDUs that each node of a plan takes
abbrev pub storing_pdus : ℕ → Job → List Pdu
storing_pdus context item =
    command_pdus 1024 context (StoreRq 1 item.key.class item.uid)
    ++ data_pdus 1024 context item.body

-- a response in that context to a request of that message id
abbrev pub response_pdus : ℕ → ℕ → ℕ → List Pdu
response_pdus context to status = command_pdus 1024 context (StoreRsp to status [] [] false)

-- the response to a request with that status
abbrev pub answer_pdus : Pending → ℕ → List Pdu
answer_pdus asked status = response_pdus asked.context asked.id status

-- what is on its way from a caller that stores an item, or why it doesn't
abbrev pub StoresAs : List Text → Contents → ℕ → Job → Spoken → Type 0
StoresAs others c link item (Writes bytes) =
    (w : Wires) × (context : ℕ)
    × (c.wires link ≡ Some w)
    × Contains others w.caller
    × (Contains others w.receiver → ⊥)
    × (context_in (agreed_at link (c.seats w.receiver)) item ≡ Some context)
    × (bytes ≡ wire_at Acceptor w ++ spellings (storing_pdus context item))
StoresAs others c link item (Refuses NoLink) = c.wires link ≡ None
StoresAs others c link item (Refuses NotForeign) =
    (w : Wires) × (c.wires link ≡ Some w) × (Contains others w.caller → ⊥)
StoresAs others c link item (Refuses BothForeign) =
    (w : Wires)
    × (c.wires link ≡ Some w)
    × Contains others w.caller
    × Contains others w.receiver
StoresAs others c link item (Refuses NoContext) =
    (w : Wires)
    × (c.wires link ≡ Some w)
    × Contains others w.caller
    × (Contains others w.receiver → ⊥)
    × (context_in (agreed_at link (c.seats w.receiver)) item ≡ None)
StoresAs others c link item (Refuses NotAsked) = ⊥

-- what is on its way from a receiver that answers, or why it doesn't
abbrev pub AnswersAs : List Text → Contents → ℕ → ℕ → Spoken → Type 0
AnswersAs others c link status (Writes bytes) =
    (w : Wires) × (asked : Pending)
    × (c.wires link ≡ Some w)
    × Contains others w.receiver
    × (Contains others w.caller → ⊥)
    × (asked_at link (c.seats w.caller) ≡ Some asked)
    × (bytes ≡ wire_at Requestor w ++ spellings (answer_pdus asked status))
AnswersAs others c link status (Refuses NoLink) = c.wires link ≡ None
AnswersAs others c link status (Refuses NotForeign) =
    (w : Wires) × (c.wires link ≡ Some w) × (Contains others w.receiver → ⊥)
AnswersAs others c link status (Refuses BothForeign) =
    (w : Wires)
    × (c.wires link ≡ Some w)
    × Contains others w.receiver
    × Contains others w.caller
AnswersAs others c link status (Refuses NotAsked) =
    (w : Wires)
    × (c.wires link ≡ Some w)
    × Contains others w.receiver
    × (Contains others w.caller → ⊥)
    × (asked_at link (c.seats w.caller) ≡ None)
AnswersAs others c link status (Refuses NoContext) = ⊥

-- ---- orders

-- What is written is one deed, and what is refused is noted.
abbrev pub IsSpoken : (Spoken → Type 0) → ℕ → steps.Side
    → (ForeignRefusal → RefusedForeign)
    → List Deed → List RefusedForeign → Type 0
IsSpoken Is link at note done said =
    ((bytes : List ℕ)
    × Is (Writes bytes)
    × (done ≡ deed.Bytes link at bytes ∷ [])
    × (said ≡ []))
    ⊎ ((why : ForeignRefusal) × Is (Refuses why) × (done ≡ []) × (said ≡ note why ∷ []))

-- What an order comes to where those nodes are other makers' products, in a world with these
-- contents: the deeds that are done for it, what is refused of it, and which nodes are others' from
-- then on. No step is taken for another's node; a name that no node has is refused.
abbrev pub IsMeant : List Text → Contents → WorldOrder → List Deed → List RefusedForeign → List Text
    → Type 0
IsMeant others c (order.Deed done) deeds said after =
    (said ≡ []) × (after ≡ others)
    × (((IsPassedOver others c done → ⊥) × (deeds ≡ done ∷ []))
    ⊎ (IsPassedOver others c done × (deeds ≡ [])))
IsMeant others c (order.Foreign (foreign.Node node)) deeds said after =
    (deeds ≡ [])
    × (((is_some (c.seats node) ≡ true) × (said ≡ []) × (after ≡ others ++ node ∷ []))
    ⊎ ((is_some (c.seats node) ≡ false) × (said ≡ refused.Node node ∷ []) × (after ≡ others)))
IsMeant others c (order.Foreign (foreign.Store link item)) deeds said after =
    (after ≡ others)
    × IsSpoken (StoresAs others c link item) link side.Requestor (refused.Store link) deeds said
IsMeant others c (order.Foreign (foreign.Answer link status)) deeds said after =
    (after ≡ others)
    × IsSpoken (AnswersAs others c link status) link side.Acceptor (refused.Answer link) deeds said

-- one order, from world to world; each change of plan among the deeds comes to what stands for it
pub record IsOrderDone {L : Type 0} {l : Ghosts L} (others : List Text) (old : World L l)
    (one : WorldOrder) (deeds : List Deed) (told : List Change) (said : List RefusedForeign)
    (after : List Text) (new : World L l) : Type 0 where
  pub means : IsMeant others (contents old) one deeds said after
  pub plays : PlaysAll deeds told old new

-- one order more, and what is noted of it behind what was noted
abbrev pub NotesOrder : {L : Type 0} {l : Ghosts L}
    → PlayNotes → World L l → WorldOrder → PlayNotes → World L l → Type 0
NotesOrder before old one after new =
    (deeds : List Deed) × (told : List Change) × (said : List RefusedForeign)
    × (after.changes ≡ before.changes ++ told)
    × (after.refusals ≡ before.refusals ++ said)
    × IsOrderDone before.others old one deeds told said after.others new

-- orders one after the other
abbrev pub AreOrdered : {L : Type 0} {l : Ghosts L}
    → List Text → World L l → List WorldOrder → List Deed → List Change → List RefusedForeign
    → List Text → World L l → Type 0
AreOrdered others old [] deeds changes refusals last new =
    (deeds ≡ []) × (changes ≡ []) × (refusals ≡ []) × (last ≡ others) × (new ≡ old)
AreOrdered {L} {l} others old (one ∷ orders) deeds changes refusals last new =
    (done more : List Deed) × (told later : List Change) × (said rest : List RefusedForeign)
    × (after : List Text) × (mid : World L l)
    × (deeds ≡ done ++ more) × (changes ≡ told ++ later) × (refusals ≡ said ++ rest)
    × IsOrderDone others old one done told said after mid
    × AreOrdered after mid orders more later rest last new

-- just these deeds, with what the changes among them come to, lead from the beginning of the world
-- of bytes to one that stands beside the contents
abbrev pub LeadTo : Network → Certificate → List Deed → List Change → Contents → Type 0
LeadTo first its deeds changes c =
    ∥ ((plan : Network) × (certificate : Certificate)
    × IsSeated plan certificate c.seats
    × ((b : ByteWorld)
    × PlaysThrough first its beginning deeds changes plan certificate b
    × ShowsBytes c b)) ∥₁

-- The same without the ledgers: each order comes to what it means in contents to which the deeds of
-- the orders before it have led.
abbrev pub AreMeant : Network → Certificate → List Deed → List Change → List Text
    → List WorldOrder → List Deed → List Change → List RefusedForeign → List Text → Type 0
AreMeant first its before came others [] deeds changes refusals last =
    (deeds ≡ []) × (changes ≡ []) × (refusals ≡ []) × (last ≡ others)
AreMeant first its before came others (one ∷ orders) deeds changes refusals last =
    (c : Contents) × (done more : List Deed) × (told later : List Change)
    × (said rest : List RefusedForeign) × (after : List Text)
    × (deeds ≡ done ++ more) × (changes ≡ told ++ later) × (refusals ≡ said ++ rest)
    × LeadTo first its before came c
    × IsMeant others c one done said after
    × AreMeant first its (before ++ done) (came ++ told) after orders more later rest last

-- A world that just these orders have made of the plan, which is one with its certificate: the
-- deeds that they come to have.
abbrev pub IsOrderedRun : {L : Type 0} {l : Ghosts L}
    → Network → Certificate → List WorldOrder → List Change → List RefusedForeign → List Text
    → World L l → Type 0
IsOrderedRun {L} {l} plan certificate orders changes refusals others w =
    IsCertified plan certificate
    × ((first : World L l) × (deeds : List Deed)
    × IsReached plan certificate [] first
    × AreOrdered [] first orders deeds changes refusals others w
    × IsRunOf plan certificate deeds changes w)

-- ---- why not all is done

-- a change of plan
abbrev pub IsChangeOrder : WorldOrder → Type 0
IsChangeOrder (order.Deed done) = IsChange done
IsChangeOrder (order.Foreign what) = ⊥

-- one of the orders is
abbrev pub OrdersChange : List WorldOrder → Type 0
OrdersChange orders = (next : Certified) × Contains orders (order.Deed (deed.Adopt next))

-- a store is told to refuse
abbrev pub IsRefusalOrder : WorldOrder → Type 0
IsRefusalOrder (order.Deed (deed.Step (RefuseStore node))) = Unit {0}
IsRefusalOrder one = ⊥

-- by one of the orders it is
abbrev pub OrdersRefusal : List WorldOrder → Type 0
OrdersRefusal orders = (node : Text) × Contains orders (order.Deed (deed.Step (RefuseStore node)))

-- ---- laws

-- Where no other maker's product is named, just what is ordered is done, and nothing is refused.
abbrev pub DeedsAloneAreDone : Type 0
DeedsAloneAreDone =
    (first : Network) (its : Certificate) (before : List Deed) (came : List Change)
    (ordered deeds : List Deed) (changes : List Change) (refusals : List RefusedForeign)
    (last : List Text)
    → AreMeant first its before came [] (mapped order.Deed ordered) deeds changes refusals last
    → (deeds ≡ ordered) × (refusals ≡ []) × (last ≡ [])
