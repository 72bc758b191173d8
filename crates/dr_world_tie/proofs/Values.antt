-- One value of a P-DATA-TF, at an established end.
use Rattle.std.proofs.Common.{◌≡◌, ◌≢◌, ℕ, Bool, true, false, [], Option, Some, None, Result, Ok, Err, refl, sym, ap, subst, ◌∙◌, inl, inr, length, arith}
use Rattle.std.specs.Prelude.{◌&&◌, if◌then◌else◌}
use Rattle.std.specs.Option.{option_map_or}
use Rattle.std.specs.Str.{bytes_eq}
use Rattle.dr_base.specs.Texts.{Text}
use Rattle.dr_base.specs.Syntaxes.{syntax_uid}
use Rattle.dr_base.specs.declared.syntax.Syntax.{Syntax}
use Rattle.dr_base.specs.declared.syntax.Syntax.TheVariants.{Implicit, Explicit}
use Rattle.dr_plan_model.specs.Networks.{Network}
use Rattle.dr_ulstate.specs.declared.table.Action.{Action}
use Rattle.dr_ulstate.specs.declared.table.Action.TheVariants.{Dt2}
use Rattle.dr_ulstate.specs.declared.table.Event.TheVariants.{DataPdu}
use Rattle.dr_ulstate.specs.declared.table.State.{State}
use Rattle.dr_ulstate.specs.declared.table.State.TheVariants.{Sta1, Sta6}
use Rattle.dr_ulstate.specs.Standing.{Standing, moved}
use Rattle.dr_ulstate.specs.Table.{action_of}
use Rattle.dr_ulstate.specs.Phases.{state_of, in_its_phase}
use Rattle.dr_pdu.specs.declared.pdu.Pdv.{Pdv}
use Rattle.dr_dimse.specs.declared.command.Command.TheVariants.{StoreRq}
use Rattle.dr_dimse.specs.declared.message.Message.{Message}
use Rattle.dr_dimse.specs.declared.message.Body.TheVariants as body
use Rattle.dr_dimse.specs.declared.fault.DimseFault.{DimseFault}
use Rattle.dr_dimse.specs.declared.fault.DimseFault.TheVariants as dimse
use Rattle.dr_dimse.specs.Taking.{MessageStage as Taken, TakesValue}
use Rattle.dr_dimse.proofs.OneTake.{one_take}
use Rattle.dr_ledger.specs.declared.content.Job.{Job}
use Rattle.dr_ledger.specs.Items.{IsItem, ReadsItem}
use Rattle.dr_ledger.specs.declared.content.ItemFault.{ItemFault}
use Rattle.dr_ledger.specs.declared.content.ItemFault.TheVariants as items
use Rattle.dr_ledger.proofs.Reading.{items_are_one}
use Rattle.dr_ledger.specs.Replies.{Reply, store_status}
use Rattle.dr_nego.specs.declared.agreed.Agreed.{Agreed}
use Rattle.dr_nego.specs.declared.agreed.Pair.{Pair}
use Rattle.dr_nego.specs.Agreeing.{pair_at}
use Rattle.dr_nego.proofs.OneContext.{same_texts}
use Rattle.dr_session.specs.declared.ends.Core.{Core}
use Rattle.dr_session.specs.declared.ends.Effect.{Effect}
use Rattle.dr_session.specs.declared.ends.Found.{Found}
use Rattle.dr_session.specs.declared.ends.Found.TheVariants.{Read}
use Rattle.dr_session.specs.declared.ends.Input.TheVariants.{Value}
use Rattle.dr_session.specs.declared.ends.Told.{Told}
use Rattle.dr_session.specs.declared.ends.Told.TheVariants.{Quiet, Store}
use Rattle.dr_session.specs.Desks.{DeskCall, DeskAnswer, Arrive, Arrival, Upcoming, First, Settling}
use Rattle.dr_session.specs.declared.ends.Moment.{Moment}
use Rattle.dr_session.specs.Reactions.{turn, stores, arrives, is_named, arrival, stored, effect}
use Rattle.dr_session.specs.Telling.{Looks, TellsValue, TellsIn, Says, Finds, FindsIn}
use Rattle.dr_session.specs.Turns.{Turns, Ends, Asks}
use Rattle.dr_session.specs.Plays.{Reacts, at_moment, with_stage}
use Rattle.dr_world_tie.specs.Desks.{Desk, LedgerStep}
use Rattle.dr_world_tie.specs.Channels.{IsAt}
use Rattle.dr_world_tie.proofs.Leaving.{acts_by}

uids_apart : (s t : Syntax) → syntax_uid s ≡ syntax_uid t → s ≡ t
uids_apart Implicit Implicit e = refl
uids_apart Explicit Explicit e = refl
uids_apart Implicit Explicit e = let l : length (syntax_uid Implicit) ≡ length (syntax_uid Explicit) = ap (λ (t : Text). length t) e in absurd (omega (arith, l))
uids_apart Explicit Implicit e = let l : length (syntax_uid Explicit) ≡ length (syntax_uid Implicit) = ap (λ (t : Text). length t) e in absurd (omega (arith, l))

no_memory : (read : Result Job ItemFault) (f : Found) → Finds read f → read ≢ Err items.Memory
no_memory read f h e = subst (λ (r : Result Job ItemFault). Finds r f) e h

not_memory : (x : Pair) (answer : Result (Option Message) DimseFault) (told : Told) → Says x answer told → answer ≢ Err dimse.Memory
not_memory x answer told says e = subst (λ (r : Result (Option Message) DimseFault). Says x r told) e says

module _ {S : Type 0} (step : S → DeskCall → DeskAnswer → S → Type 0) (moment : Moment) (c : Core) (v : Pdv) (agreed : Agreed) (context : Pair) (requestor : Bool) (at : IsAt c requestor Sta6) (has : c.agreed ≡ Some agreed) (found : pair_at agreed v.id ≡ Some context) (s u : S) (x : Effect)
    (r : Reacts step c (at_moment moment (Value v)) s x u) where
  looked : TellsIn (Some context) c v r.told r.stage
  looked =
      let action : action_of DataPdu (state_of c.phase) ≡ Some Dt2 = ap (λ (t : State). action_of DataPdu t) (ap (λ (o : Option Standing). option_map_or (λ (b : Standing). b.state) o Sta1) at.1 ∙ at.3) in
      let t1 : TellsValue c.agreed c v r.told r.stage = subst (λ (a : Option Action). Looks a c (Value v) r.told r.stage) action r.tells in
      let t2 : TellsIn (pair_at agreed v.id) c v r.told r.stage = subst (λ (o : Option Agreed). TellsValue o c v r.told r.stage) has t1 in
      subst (λ (o : Option Pair). TellsIn o c v r.told r.stage) found t2

  -- what it is told, where it is known what the assembly makes of the value
  pub told_by : (o : Option Message) (next : Taken) → TakesValue c.assembly.awaited c.assembly.stage v (Ok o) next → (told : Told) × Says context (Ok o) told × Turns step (turn moment (with_stage next c) told) s x u
  told_by o next takes =
      let same = one_take c.assembly.awaited c.assembly.stage v looked.0 (Ok o) r.stage next (not_memory context looked.0 r.told looked.2) (λ e. cc) looked.1 takes in
      (r.told, subst (λ (a : Result (Option Message) DimseFault). Says context a r.told) same.0 looked.2, subst (λ (y : Taken). Turns step (turn moment (with_stage y c) r.told) s x u) same.1 r.turns)

  -- the end after data, in the state that it was in
  abbrev pub stays : Taken → Core
  stays next = record (with_stage next c) { phase = in_its_phase (moved at.0 Sta6 moment.now) }

  pub quiet_by : (next : Taken) → TakesValue c.assembly.awaited c.assembly.stage v (Ok None) next → (x ≡ effect [] (stays next)) × (u ≡ s)
  quiet_by next takes =
      let t = told_by None next takes in
      let h : Turns step (turn moment (with_stage next c) Quiet) s x u = subst (λ (y : Told). Turns step (turn moment (with_stage next c) y) s x u) t.1 t.2 in
      acts_by step moment (with_stage next c) Quiet DataPdu requestor Sta6 Dt2 Sta6 s u x at refl refl refl h

-- ---- a store

module _ (plan : Network) (name : Text) (moment : Moment) (c : Core) (v : Pdv) (agreed : Agreed) (context : Pair) (at : IsAt c false Sta6) (has : c.agreed ≡ Some agreed) (found : pair_at agreed v.id ≡ Some context) (s u : Desk) (x : Effect)
    (r : Reacts (LedgerStep plan name) c (at_moment moment (Value v)) s x u) (id : ℕ) (item : Job) (is_item : IsItem item) (of : (context.class ≡ item.key.class) × (context.syntax ≡ syntax_uid item.key.syntax)) where
  abbrev pstep : Desk → DeskCall → DeskAnswer → Desk → Type 0
  pstep = LedgerStep plan name

  found_is : (f : Found) → FindsIn context.syntax (body.Whole item.body) f → f ≡ Read item
  found_is f (inl (t, read, uid, reads, finds)) =
      let same : t ≡ item.key.syntax = uids_apart t item.key.syntax (sym uid ∙ of.1) in
      let is : read ≡ Ok item = items_are_one item.key.syntax item.body read (Ok item) (no_memory read f finds) (λ e. cc)
      (subst (λ (z : Syntax). ReadsItem z item.body read) same reads) (is_item, refl, refl) in
      subst (λ (r : Result Job ItemFault). Finds r f) is finds
  found_is f (inr (none, e)) = absurd (none item.key.syntax of.1)

  named : is_named item item.key.class item.uid ≡ true
  named = ap (λ (b : Bool). b && bytes_eq item.key.class item.key.class) (same_texts item.uid item.uid refl) ∙ same_texts item.key.class item.key.class refl

  by_answer : (core : Core) (n : ℕ) (a : DeskAnswer) (m : Desk) → pstep s (Arrive core.peer item) a m → Turns pstep (arrival (λ reply. Ends (stored core n id item.key.class item.uid (store_status reply))) a) m x u
      → (reply : Reply) × pstep s (Arrive core.peer item) (Arrival reply) u × (x ≡ stored core n id item.key.class item.uid (store_status reply))
  by_answer core n (Arrival reply) m one (e, same) = (reply, subst (λ (d : Desk). pstep s (Arrive core.peer item) (Arrival reply) d) (sym same) one, e)
  by_answer core n (Upcoming d) m one h = absurd h
  by_answer core n (First d) m one h = absurd h
  by_answer core n (Settling a) m one h = absurd h

  -- the instance is brought, and its response written
  pub store_by : (next : Taken) (n : ℕ) → TakesValue c.assembly.awaited c.assembly.stage v (Ok (Some (record { id = n; command = StoreRq id item.key.class item.uid; body = Some (body.Whole item.body) }))) next
      → (reply : Reply) × pstep s (Arrive c.peer item) (Arrival reply) u × (x ≡ stored (record (with_stage next c) { phase = in_its_phase (moved at.0 Sta6 moment.now) }) n id item.key.class item.uid (store_status reply))
  store_by next n takes =
      let t = told_by pstep moment c v agreed context false at has found s u x r (Some (record { id = n; command = StoreRq id item.key.class item.uid; body = Some (body.Whole item.body) })) next takes in
      let core : Core = record (with_stage next c) { phase = in_its_phase (moved at.0 Sta6 moment.now) } in
      let told : Told = Store n context.class id item.key.class item.uid (Read item) in
      let is : t.0 ≡ told = t.1.2 ∙ ap (λ (f : Found). Store n context.class id item.key.class item.uid f) (found_is t.1.0 t.1.1) in
      let h : Turns pstep (turn moment (with_stage next c) told) s x u = subst (λ (y : Told). Turns pstep (turn moment (with_stage next c) y) s x u) is t.2 in
      let a : Turns pstep (stores core n context.class id item.key.class item.uid (Read item)) s x u = acts_by pstep moment (with_stage next c) told DataPdu false Sta6 Dt2 Sta6 s u x at refl refl refl h in
      let b : Turns pstep (arrives core n id item.key.class item.uid (Read item)) s x u =
      subst (λ (y : Bool). Turns pstep (if y then arrives core n id item.key.class item.uid (Read item) else Ends (stored core n id item.key.class item.uid 0x0122)) s x u) (same_texts item.key.class context.class (sym of.0)) a in
      let d : Turns pstep (Asks (Arrive core.peer item) (arrival (λ reply. Ends (stored core n id item.key.class item.uid (store_status reply))))) s x u =
      subst (λ (y : Bool). Turns pstep (if y then Asks (Arrive core.peer item) (arrival (λ reply. Ends (stored core n id item.key.class item.uid (store_status reply)))) else Ends (stored core n id item.key.class item.uid 0xA900)) s x u) named b in
      by_answer core n d.0 d.1 d.2 d.3
