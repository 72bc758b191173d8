-- A C-STORE-RQ is answered by a success only where its instance arrived, and in no other turn.
use Rattle.std.proofs.Common.{◌≡◌, ℕ, ◌<◌, ◌^◌, Bool, true, false, List, [], ◌∷◌, Option, Some, None, Result, Ok, Err, refl, sym, ap, subst, ◌∙◌, inl, inr, arith}
use Rattle.std.specs.Prelude.{if◌then◌else◌}
use Rattle.std.specs.List.{AllByRecursion}
use Rattle.std.specs.Option.{option_map_or}
use Rattle.std.specs.Str.{bytes_eq}
use Rattle.std.proofs.lemmas.Bool.{false≢true}
use Rattle.dr_ulstate.specs.declared.table.State.{State}
use Rattle.dr_ulstate.specs.declared.table.State.TheVariants.{Sta1, Sta2, Sta3, Sta4, Sta5, Sta6, Sta7, Sta8, Sta9, Sta10, Sta11, Sta12, Sta13}
use Rattle.dr_ulstate.specs.declared.table.Event.TheVariants.{DataPdu}
use Rattle.dr_ulstate.specs.declared.phase.Next.{Next}
use Rattle.dr_ulstate.specs.Table.{action_of, with_next}
use Rattle.dr_ulstate.specs.Standing.{Standing, moved}
use Rattle.dr_ulstate.specs.Phases.{standing_of, stepped_from, after_cell, in_its_phase, state_of}
use Rattle.dr_base.specs.Texts.{Text}
use Rattle.dr_ledger.specs.declared.content.Job.{Job}
use Rattle.dr_ledger.specs.declared.item.Arrived.{Arrived}
use Rattle.dr_ledger.specs.declared.fault.LedgerFault.{LedgerFault}
use Rattle.dr_ledger.specs.declared.fault.LedgerFault.TheVariants as fault
use Rattle.dr_pdu.specs.declared.pdu.Pdu.TheVariants as pdu
use Rattle.dr_site.specs.Parts.{Part}
use Rattle.dr_nego.specs.declared.agreed.Agreed.{Agreed}
use Rattle.dr_session.specs.declared.ends.Core.{Core}
use Rattle.dr_session.specs.declared.ends.Effect.{Effect}
use Rattle.dr_session.specs.declared.ends.Found.{Found}
use Rattle.dr_session.specs.declared.ends.Found.TheVariants.{Read, Nameless, Unreadable, TooLarge}
use Rattle.dr_session.specs.declared.ends.LinkAction.{LinkAction}
use Rattle.dr_session.specs.declared.ends.Moment.{Moment}
use Rattle.dr_session.specs.declared.ends.Pending.{Pending}
use Rattle.dr_session.specs.declared.ends.Told.{Told}
use Rattle.dr_session.specs.declared.ends.Told.TheVariants.{Store}
use Rattle.dr_session.specs.Desks.{DeskCall, DeskAnswer, Arrive, Arrival, Upcoming, First, Settling}
use Rattle.dr_session.specs.Laws.{AnswersStore, AnswersNoStore, IsNoMessage, IsStore, StoresAreAnswered, OthersAnswerNoStore}
use Rattle.dr_session.specs.Reactions.{Reaction, arrival, arrives, brings, is_named, stored, stores, turn, moves, event_of, effect, leaves_by, settling, left, desk_failed, aborted, abort_pdu, write, reason_of}
use Rattle.dr_ledger.specs.Replies.{store_status}
use Rattle.dr_ledger.proofs.Replied.{statuses_have_two_bytes, zero_is_success}
use Rattle.dr_session.specs.Telling.{TakesData}
use Rattle.dr_session.proofs.Wording.{ends_spelled, occurring}
use Rattle.dr_session.specs.Turns.{Turns, Ends, Asks}

module _ {S : Type 0} (step : S → DeskCall → DeskAnswer → S → Type 0) (c : Core) (context id : ℕ) (class instance : Text) (s t : S) (x : Effect) where
  refused : (found : Found) (status : ℕ) → (status ≡ 0 → ⊥) → status < 2 ^ 16 → Turns step (Ends (stored c context id class instance status)) s x t → AnswersStore step c context id class instance found s x t
  refused found status other small h = record { status = status; small = small; written = ap (λ (y : Effect). y.acts) h.0; brought = λ e. absurd (other e) }

  by_reply : (item : Job) (m : S) (answer : DeskAnswer) → step s (Arrive c.peer item) answer m
      → Turns step (arrival (λ r. Ends (stored c context id class instance (store_status r))) answer) m x t → AnswersStore step c context id class instance (Read item) s x t
  by_reply item m (Arrival r) did h = record {
    status = store_status r;
    small = statuses_have_two_bytes r;
    written = ap (λ (y : Effect). y.acts) h.0;
    brought = λ e.
        let value = zero_is_success r e in
        let P : Result Arrived LedgerFault → Type 0 = λ q. step s (Arrive c.peer item) (Arrival q) m in
        let Q : S → Type 0 = λ n. step s (Arrive c.peer item) (Arrival (Ok value.0)) n in
        (item, value.0, refl, subst Q (sym h.1) (subst P value.1 did));
  }
  by_reply item m (Upcoming d) did h = absurd h
  by_reply item m (First d) did h = absurd h
  by_reply item m (Settling r) did h = absurd h

  by_name : (item : Job) (b : Bool)
      → Turns step (if b then Asks (Arrive c.peer item) (arrival (λ r. Ends (stored c context id class instance (store_status r)))) else Ends (stored c context id class instance 0xA900)) s x t
      → AnswersStore step c context id class instance (Read item) s x t
  by_name item true (answer, m, did, h) = by_reply item m answer did h
  by_name item false h = refused (Read item) 0xA900 (λ e. omega (arith, e)) (omega arith) h

  by_found : (found : Found) → Turns step (arrives c context id class instance found) s x t → AnswersStore step c context id class instance found s x t
  by_found TooLarge h = refused TooLarge 0xA700 (λ e. omega (arith, e)) (omega arith) h
  by_found Unreadable h = refused Unreadable 0xC000 (λ e. omega (arith, e)) (omega arith) h
  by_found Nameless h = refused Nameless 0xA900 (λ e. omega (arith, e)) (omega arith) h
  by_found (Read item) h = by_name item (is_named item class instance) h

  by_class : (found : Found) (b : Bool) → Turns step (if b then arrives c context id class instance found else Ends (stored c context id class instance 0x0122)) s x t
      → AnswersStore step c context id class instance found s x t
  by_class found true h = by_found found h
  by_class found false h = refused found 0x0122 (λ e. omega (arith, e)) (omega arith) h

pub answers_store : {S : Type 0} (step : S → DeskCall → DeskAnswer → S → Type 0) (c : Core) (context : ℕ) (class_of : Text) (id : ℕ) (class instance : Text) (found : Found) (s t : S) (x : Effect)
    → Turns step (stores c context class_of id class instance found) s x t → AnswersStore step c context id class instance found s x t
answers_store step c context class_of id class instance found s t x h = by_class step c context id class instance s t x found (bytes_eq class class_of) h

-- ---- in a whole turn

-- the states in which the table takes data
abbrev is_data : State → Bool
is_data Sta6 = true
is_data Sta7 = true
is_data s = false

takes_none : (s : State) → is_data s ≡ false → TakesData s → ⊥
takes_none s e (inl six) = false≢true (sym e ∙ ap is_data six)
takes_none s e (inr seven) = false≢true (sym e ∙ ap is_data seven)

module _ {S : Type 0} (step : S → DeskCall → DeskAnswer → S → Type 0) (at : Moment) (c : Core) (context : ℕ) (of : Text) (id : ℕ) (class instance : Text) (found : Found) (s t : S) (x : Effect) where
  abbrev told : Told
  told = Store context of id class instance found

  abbrev Answered : State → Type 0
  Answered q = (TakesData q → AnswersStore step c context id class instance found s x t) × ((TakesData q → ⊥) → AllByRecursion IsNoMessage x.acts)

  answered_in : (phase : Next) → Turns step (stores (record c { phase = phase }) context of id class instance found) s x t → AnswersStore step c context id class instance found s x t
  answered_in phase h =
      let a = answers_store step (record c { phase = phase }) context of id class instance found s t x h in
      record { status = a.status; small = a.small; written = a.written; brought = a.brought }

  settled_acts : (acts : List LinkAction) (d : Core) (m : S) (a : DeskAnswer) → Turns step (settling (Ends (effect acts (left d))) (Ends (effect acts (desk_failed (left d)))) a) m x t → x.acts ≡ acts
  settled_acts acts d m (Settling (Ok value)) h = ap (λ (y : Effect). y.acts) h.0
  settled_acts acts d m (Settling (Err fault.NoLine)) h = ap (λ (y : Effect). y.acts) h.0
  settled_acts acts d m (Settling (Err fault.Conflict)) h = ap (λ (y : Effect). y.acts) h.0
  settled_acts acts d m (Settling (Err fault.Store)) h = ap (λ (y : Effect). y.acts) h.0
  settled_acts acts d m (Settling (Err fault.NotWaiting)) h = ap (λ (y : Effect). y.acts) h.0
  settled_acts acts d m (Settling (Err fault.NotHeld)) h = ap (λ (y : Effect). y.acts) h.0
  settled_acts acts d m (Settling (Err fault.NotOver)) h = ap (λ (y : Effect). y.acts) h.0
  settled_acts acts d m (Settling (Err fault.Memory)) h = absurd h
  settled_acts acts d m (Arrival reply) h = absurd h
  settled_acts acts d m (Upcoming due) h = absurd h
  settled_acts acts d m (First due) h = absurd h

  left_acts : (p : Option Pending) (acts : List LinkAction) (d : Core) → Turns step (leaves_by p at.now acts d) s x t → x.acts ≡ acts
  left_acts None acts d h = ap (λ (y : Effect). y.acts) h.0
  left_acts (Some p) acts d h = settled_acts acts d h.1 h.0 h.3

  -- the end aborts: that PDU alone is written
  aborting : (source reason : ℕ) (p : Option Pending) (d : Core) → Turns step (leaves_by p at.now (write (abort_pdu source reason ∷ []) ∷ []) d) s x t → AllByRecursion IsNoMessage x.acts
  aborting source reason p d h = subst (λ (l : List LinkAction). AllByRecursion IsNoMessage l) (sym (left_acts p (write (abort_pdu source reason ∷ []) ∷ []) d h)) ((abort_pdu source reason, tt, refl), tt)

  resting : (d : Core) → x ≡ effect [] d → AllByRecursion IsNoMessage x.acts
  resting d h = subst (λ (y : Effect). AllByRecursion IsNoMessage y.acts) (sym h) tt

  elsewhere : (q : State) → is_data q ≡ false → AllByRecursion IsNoMessage x.acts → Answered q
  elsewhere q e h = (λ takes. absurd (takes_none q e takes), λ takes. h)

  by_state : (q : State) (a : Standing) (requestor : Bool) → Turns step (moves (after_cell (with_next (action_of DataPdu q) requestor true) a at.now c.phase) at told c) s x t → Answered q
  by_state Sta1 a requestor h = elsewhere Sta1 refl (resting c h.0)
  by_state Sta2 a requestor h = elsewhere Sta2 refl (aborting 0 0 c.pending _ h)
  by_state Sta3 a requestor h = elsewhere Sta3 refl (aborting 2 2 c.pending _ h)
  by_state Sta4 a requestor h = elsewhere Sta4 refl (resting c h.0)
  by_state Sta5 a requestor h = elsewhere Sta5 refl (aborting 2 2 c.pending _ h)
  by_state Sta6 a requestor h = (λ takes. answered_in (in_its_phase (moved a Sta6 at.now)) h, λ never. absurd (never (inl refl)))
  by_state Sta7 a requestor h = (λ takes. answered_in (in_its_phase (moved a Sta7 at.now)) h, λ never. absurd (never (inr refl)))
  by_state Sta8 a requestor h = elsewhere Sta8 refl (aborting 2 2 c.pending _ h)
  by_state Sta9 a requestor h = elsewhere Sta9 refl (aborting 2 2 c.pending _ h)
  by_state Sta10 a requestor h = elsewhere Sta10 refl (aborting 2 2 c.pending _ h)
  by_state Sta11 a requestor h = elsewhere Sta11 refl (aborting 2 2 c.pending _ h)
  by_state Sta12 a requestor h = elsewhere Sta12 refl (aborting 2 2 c.pending _ h)
  by_state Sta13 a requestor h = elsewhere Sta13 refl (resting (record c { phase = in_its_phase (moved a Sta13 at.now) }) h.0)

  by_standing : (o : Option Standing) → Turns step (moves (stepped_from o DataPdu true c.phase at.now) at told c) s x t → Answered (option_map_or (λ (a : Standing). a.state) o Sta1)
  by_standing None h = elsewhere Sta1 refl (resting c h.0)
  by_standing (Some a) h = by_state a.state a a.requestor h

  pub answered : Turns step (turn at c told) s x t → Answered (state_of c.phase)
  answered h = by_standing (standing_of c.phase) h

pub stores_are_answered : {S : Type 0} (step : S → DeskCall → DeskAnswer → S → Type 0) → StoresAreAnswered step
stores_are_answered step at c context of id class instance found s t x h = answered step at c context of id class instance found s t x h

pub others_answer_no_store : {S : Type 0} (step : S → DeskCall → DeskAnswer → S → Type 0) → OthersAnswerNoStore step
others_answer_no_store step at c told s t x other turns =
    let Of : Option Part → Option Agreed → Type 0 = λ site agreed. Unit {0} in
    (ends_spelled AnswersNoStore Of step (turn at c told) s t x
    (occurring AnswersNoStore Of (λ (y : Told). IsStore y → ⊥) tt (λ p alone fits. inl (p, alone, refl))
    (λ rq site open_now o takes k ac agreed is. (inl (pdu.AssociateAc ac, tt, refl), tt)) (λ site o agreed takes k. tt)
    (λ site agreed context id item k. inr (inl (agreed, context, id, item, refl)))
    (λ d context command is_other k. inr (inr (option_map_or (λ (a : Agreed). a.limit) d.agreed 0, context, command, is_other, refl)))
    (λ context of id class instance found takes d k. absurd (takes tt)) (event_of told at c) at told other c tt) turns).0
