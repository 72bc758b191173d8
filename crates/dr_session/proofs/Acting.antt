-- What was done by a reaction was done by one that is equal to it.
use Rattle.std.proofs.Common.{◌≡◌, ℕ, Bool, true, false, [], ◌∷◌, Result, Ok, Err, refl, sym, ap, subst, ◌∙◌}
use Rattle.std.specs.Prelude.{◌&&◌, if◌then◌else◌, Option, Some, None, IfOk, OnErr}
use Rattle.std.specs.declared.alloc.AllocError.{AllocError}
use Rattle.dr_ulstate.specs.declared.table.Action.{Action}
use Rattle.dr_ulstate.specs.declared.table.Event.{Event}
use Rattle.dr_ulstate.specs.declared.table.Event.TheVariants.{DataRequest, ReleaseRequest, AbortRequest, ArtimExpired}
use Rattle.dr_ulstate.specs.declared.phase.Next.{Next}
use Rattle.dr_ulstate.specs.declared.table.State.{State}
use Rattle.dr_ulstate.specs.Table.{cell}
use Rattle.dr_ulstate.specs.Standing.{Standing, moved}
use Rattle.dr_ulstate.specs.Phases.{standing_of, stepped_from, after_cell, in_its_phase, next_stepped, next_expired, next_late, next_sent, may_send, event_of as event_of_incoming, is_acceptable}
use Rattle.dr_base.specs.Syntaxes.{syntax_uid}
use Rattle.dr_ledger.specs.declared.content.Job.{Job}
use Rattle.dr_nego.specs.declared.agreed.Agreed.{Agreed}
use Rattle.dr_nego.specs.Agreeing.{context_for}
use Rattle.dr_session.specs.declared.ends.Core.{Core}
use Rattle.dr_session.specs.declared.ends.LinkAction.{LinkAction}
use Rattle.dr_session.specs.declared.ends.Effect.{Effect}
use Rattle.dr_session.specs.declared.ends.Input.{Input}
use Rattle.dr_session.specs.declared.ends.Input.TheVariants as input
use Rattle.dr_session.specs.declared.ends.Moment.{Moment}
use Rattle.dr_session.specs.declared.ends.Told.{Told}
use Rattle.dr_session.specs.declared.ends.Told.TheVariants.{Plain, Quiet, Fault, Strange, Store, Whole, Agreement}
use Rattle.dr_session.specs.Desks.{DeskCall, DeskAnswer}
use Rattle.dr_session.specs.Fits.{IsHeard, heard_as, IsLooked, told_as}
use Rattle.dr_session.specs.Reactions.{Reaction, turn, occurs, moves, acts, effect, gives, gives_in, leaves, quiet, is_idle, is_free, is_impatient, event_of, is_taken}
use Rattle.dr_session.specs.Changes.{after_step, phased}
use Rattle.dr_session.specs.Breaks.{Broke}
use Rattle.dr_session.specs.Turns.{Ends, Turns}

module _ {S : Type 0} (step : S → DeskCall → DeskAnswer → S → Type 0) where
  pub done_by : (x y : Reaction) (r : Result Effect AllocError) (s t : S) → x ≡ y → IfOk r (λ (e : Effect). Turns step y s e t) → IfOk r (λ (e : Effect). Turns step x s e t)
  done_by x y r s t same h = subst (λ (z : Reaction). IfOk r (λ (e : Effect). Turns step z s e t)) (sym same) h

  pub broke_by : (x y : Reaction) (r : Result Effect AllocError) (s t : S) → x ≡ y → OnErr r (Broke step y s t) → OnErr r (Broke step x s t)
  broke_by x y r s t same h = subst (λ (z : Reaction). OnErr r (Broke step z s t)) (sym same) h

  -- one that ends without a call
  pub done_at : (x : Reaction) (value : Effect) (r : Result Effect AllocError) (s : S) → x ≡ Ends value → IfOk r (λ (e : Effect). e ≡ value) → IfOk r (λ (e : Effect). Turns step x s e s)
  done_at x value (Ok e) s same h = subst (λ (z : Reaction). Turns step z s e s) (sym same) (h, refl)
  done_at x value (Err f) s same h = tt

  -- leaving with one thing done, by the parts that it is made of
  pub left_done : (at : Moment) (r : Result Effect AllocError) (said act : LinkAction) (x y : Core) (s t : S) → said ≡ act → x ≡ y
      → IfOk r (λ (e : Effect). Turns step (leaves at (said ∷ []) x) s e t) → IfOk r (λ (e : Effect). Turns step (leaves at (act ∷ []) y) s e t)
  left_done at r said act x y s t is core h =
      let P : LinkAction → Type 0 = λ a. IfOk r (λ (e : Effect). Turns step (leaves at (a ∷ []) x) s e t) in
      let Q : Core → Type 0 = λ c. IfOk r (λ (e : Effect). Turns step (leaves at (act ∷ []) c) s e t) in
      subst Q core (subst P is h)

  pub left_broke : (at : Moment) (r : Result Effect AllocError) (said act : LinkAction) (x y : Core) (s t : S) → said ≡ act → x ≡ y
      → OnErr r (Broke step (leaves at (said ∷ []) x) s t) → OnErr r (Broke step (leaves at (act ∷ []) y) s t)
  left_broke at r said act x y s t is core h =
      let P : LinkAction → Type 0 = λ a. OnErr r (Broke step (leaves at (a ∷ []) x) s t) in
      let Q : Core → Type 0 = λ c. OnErr r (Broke step (leaves at (act ∷ []) c) s t) in
      subst Q core (subst P is h)

  -- an instance goes over by what was agreed on
  pub given_at : (core : Core) (agreed : Agreed) (context : ℕ) (at : Moment) (job : Job) (r : Result Effect AllocError) (s : S) → core.agreed ≡ Some agreed
      → Some context ≡ context_for agreed job.key.class (syntax_uid job.key.syntax)
      → IfOk r (λ (e : Effect). (a : Agreed) → core.agreed ≡ Some a → gives_in (Some context) a at job core ≡ Ends e)
      → IfOk r (λ (e : Effect). Turns step (gives core.agreed at job core) s e s)
  given_at core agreed context at job (Ok e) s some found h =
      let P : Option ℕ → Type 0 = λ o. gives_in o agreed at job core ≡ Ends e in
      let Q : Option Agreed → Type 0 = λ o. Turns step (gives o at job core) s e s in
      let R : Reaction → Type 0 = λ z. Turns step z s e s in
      subst Q (sym some) (subst R (sym (subst P found (h agreed some))) (refl, refl))
  given_at core agreed context at job (Err f) s some found h = tt

  pub done_as : (x y : Reaction) (r : Result Effect AllocError) (s : S) → x ≡ y → IfOk r (λ (e : Effect). y ≡ Ends e) → IfOk r (λ (e : Effect). Turns step x s e s)
  done_as x y (Ok e) s same h = subst (λ (z : Reaction). Turns step z s e s) (sym (same ∙ h)) (refl, refl)
  done_as x y (Err f) s same h = tt

-- an event that occurs is what the table says
pub met : (at : Moment) (told : Told) (c : Core) (e : Event) (acceptable : Bool) (r : Result (Action × Next) Next) → event_of told at c ≡ Some e → is_taken told at c ≡ acceptable
    → r ≡ next_stepped e acceptable c.phase at.now → turn at c told ≡ moves r at told c
met at told c e acceptable r event taken is =
    ap (λ (o : Option Event). occurs o at told c) event
    ∙ (ap (λ (b : Bool). moves (next_stepped e b c.phase at.now) at told c) taken
    ∙ ap (λ (x : Result (Action × Next) Next). moves x at told c) (sym is))

-- what is no event does nothing
pub unmet : (at : Moment) (told : Told) (c : Core) → event_of told at c ≡ None → turn at c told ≡ quiet c
unmet at told c none = ap (λ (o : Option Event). occurs o at told c) none

-- ---- which event it is

pub expires : (at : Moment) (c : Core) → next_expired c.phase at.now ≡ true → event_of (Plain input.Late) at c ≡ Some ArtimExpired
expires at c h = ap (λ (b : Bool). if b then Some ArtimExpired else if is_impatient c at.now then Some AbortRequest else None) h

pub late_steps : (next : Next) (now : ℕ) → next_expired next now ≡ true → next_late next now ≡ next_stepped ArtimExpired true next now
late_steps next now h = ap (λ (b : Bool). if b then next_stepped ArtimExpired true next now else Err next) h

late_by : (at : Moment) (c : Core) (b : Bool) → next_expired c.phase at.now ≡ false → is_impatient c at.now ≡ b
    → event_of (Plain input.Late) at c ≡ (if b then Some AbortRequest else None)
late_by at c b h k =
    ap (λ (x : Bool). if x then Some ArtimExpired else if is_impatient c at.now then Some AbortRequest else None) h
    ∙ ap (λ (x : Bool). if x then Some AbortRequest else None) k

pub waits_long : (at : Moment) (c : Core) → next_expired c.phase at.now ≡ false → is_impatient c at.now ≡ true → event_of (Plain input.Late) at c ≡ Some AbortRequest
waits_long at c h k = late_by at c true h k

pub waits_on : (at : Moment) (c : Core) → next_expired c.phase at.now ≡ false → is_impatient c at.now ≡ false → event_of (Plain input.Late) at c ≡ None
waits_on at c h k = late_by at c false h k

pub release_is : (at : Moment) (c : Core) (b : Bool) → is_idle c ≡ b → event_of (Plain input.ReleaseAsked) at c ≡ (if b then Some ReleaseRequest else None)
release_is at c b h = ap (λ (x : Bool). if x then Some ReleaseRequest else None) h

pub push_is : (at : Moment) (c : Core) (b : Bool) → is_free c ≡ b → event_of (Plain input.PushAsked) at c ≡ (if b then Some DataRequest else None)
push_is at c b h = ap (λ (x : Bool). if x then Some DataRequest else None) h

second : (a b : Bool) → (a && b) ≡ true → b ≡ true
second true b h = h
second false b h = absurd (let k : false ≡ true = h in cc)

pub push_steps : (c : Core) (now : ℕ) → is_free c ≡ true → next_sent c.phase now ≡ next_stepped DataRequest true c.phase now
push_steps c now h = ap (λ (b : Bool). if b then next_stepped DataRequest true c.phase now else Err c.phase) (second (is_idle c) (may_send c.phase) h)

pub heard_event : (i : Input) (at : Moment) (c : Core) → IsHeard i → event_of (Plain i) at c ≡ Some (event_of_incoming (heard_as i))
heard_event (input.Acceptance ac) at c h = refl
heard_event (input.Rejection rj) at c h = refl
heard_event (input.Value p) at c h = refl
heard_event input.NoValue at c h = refl
heard_event input.ReleaseRq at c h = refl
heard_event input.ReleaseRp at c h = refl
heard_event (input.Abort a) at c h = refl
heard_event input.Unknown at c h = refl
heard_event input.Invalid at c h = refl
heard_event input.Ended at c h = refl
heard_event (input.Request rq) at c h = absurd h
heard_event input.Late at c h = absurd h
heard_event input.AbortAsked at c h = absurd h
heard_event input.ReleaseAsked at c h = absurd h
heard_event input.PushAsked at c h = absurd h

pub heard_taken : (i : Input) (at : Moment) (c : Core) → IsHeard i → is_taken (Plain i) at c ≡ is_acceptable (heard_as i)
heard_taken (input.Acceptance ac) at c h = refl
heard_taken (input.Rejection rj) at c h = refl
heard_taken (input.Value p) at c h = refl
heard_taken input.NoValue at c h = refl
heard_taken input.ReleaseRq at c h = refl
heard_taken input.ReleaseRp at c h = refl
heard_taken (input.Abort a) at c h = refl
heard_taken input.Unknown at c h = refl
heard_taken input.Invalid at c h = refl
heard_taken input.Ended at c h = refl
heard_taken (input.Request rq) at c h = absurd h
heard_taken input.Late at c h = absurd h
heard_taken input.AbortAsked at c h = absurd h
heard_taken input.ReleaseAsked at c h = absurd h
heard_taken input.PushAsked at c h = absurd h

pub looked_event : (told : Told) (at : Moment) (c : Core) → IsLooked told → event_of told at c ≡ Some (event_of_incoming (told_as told))
looked_event (Plain i) at c h = absurd h
looked_event Quiet at c h = refl
looked_event Fault at c h = refl
looked_event Strange at c h = refl
looked_event (Store context of id class instance found) at c h = refl
looked_event (Whole context of command) at c h = refl
looked_event (Agreement answer) at c h = refl

pub looked_taken : (told : Told) (at : Moment) (c : Core) → IsLooked told → is_taken told at c ≡ is_acceptable (told_as told)
looked_taken (Plain i) at c h = absurd h
looked_taken Quiet at c h = refl
looked_taken Fault at c h = refl
looked_taken Strange at c h = refl
looked_taken (Store context of id class instance found) at c h = refl
looked_taken (Whole context of command) at c h = refl
looked_taken (Agreement answer) at c h = refl

pub looked_by : (told : Told) → ((i : Input) → told ≡ Plain i → ⊥) → IsLooked told
looked_by (Plain i) h = absurd (h i refl)
looked_by Quiet h = tt
looked_by Fault h = tt
looked_by Strange h = tt
looked_by (Store context of id class instance found) h = tt
looked_by (Whole context of command) h = tt
looked_by (Agreement answer) h = tt

-- ---- where the table has no cell

cell_stays : (x : Option (Action × State)) (a : Standing) (now : ℕ) (next same : Next) → after_cell x a now next ≡ Err same → same ≡ next
cell_stays None a now next same h = cc
cell_stays (Some x) a now next same h = absurd (let k : Ok (x.0, in_its_phase (moved a x.1 now)) ≡ Err same = h in cc)

stays : (o : Option Standing) (e : Event) (acceptable : Bool) (next same : Next) (now : ℕ) → stepped_from o e acceptable next now ≡ Err same → same ≡ next
stays None e acceptable next same now h = cc
stays (Some a) e acceptable next same now h = cell_stays (cell e a.state a.requestor acceptable) a now next same h

-- a test of a core that is seen is one of the core
pub tested : (f : Core → Bool) (c seen : Core) (b v : Bool) → seen ≡ c → b ≡ f seen → b ≡ v → f c ≡ v
tested f c seen b v same is value = ap f (sym same) ∙ (sym is ∙ value)

pub late_stepped : (at : Moment) (c : Core) → next_expired c.phase at.now ≡ true → after_step c (next_late c.phase at.now) ≡ after_step c (next_stepped ArtimExpired true c.phase at.now)
late_stepped at c h = ap (λ (r : Result (Action × Next) Next). after_step c r) (late_steps c.phase at.now h)

pub data_stepped : (at : Moment) (c : Core) → is_free c ≡ true → after_step c (next_sent c.phase at.now) ≡ after_step c (next_stepped DataRequest true c.phase at.now)
data_stepped at c h = ap (λ (r : Result (Action × Next) Next). after_step c r) (push_steps c at.now h)

-- ---- what a step came to

same_stepped : (x y : Action × Core) (r : Result (Action × Core) Core) → r ≡ Ok x → r ≡ Ok y → x ≡ y
same_stepped x y r h k = cc

same_unstepped : (x y : Core) (r : Result (Action × Core) Core) → r ≡ Err x → r ≡ Err y → x ≡ y
same_unstepped x y r h k = cc

not_both : (x : Action × Core) (y : Core) (r : Result (Action × Core) Core) → r ≡ Ok x → r ≡ Err y → ⊥
not_both x y r h k = absurd (let e : Ok x ≡ Err y = sym h ∙ k in cc)

-- the action of the step, and the end in the phase that follows
stepped_acts : (at : Moment) (told : Told) (c d : Core) (r : Result (Action × Next) Next) (a : Action) → after_step c r ≡ Ok (a, d) → moves r at told c ≡ acts a at told d
stepped_acts at told c d (Ok x) a h = ap (λ (p : Action × Core). acts p.0 at told p.1) (same_stepped (x.0, phased x.1 c) (a, d) (after_step c (Ok x)) refl h)
stepped_acts at told c d (Err same) a h = absurd (not_both (a, d) (phased same c) (after_step c (Err same)) h refl)

-- no step, and the end as it was
unstepped : (c d : Core) (r : Result (Action × Next) Next) → after_step c r ≡ Err d → (same : Next) × (r ≡ Err same) × (phased same c ≡ d)
unstepped c d (Ok x) h = absurd (not_both (x.0, phased x.1 c) d (after_step c (Ok x)) refl h)
unstepped c d (Err same) h = (same, refl, same_unstepped (phased same c) d (after_step c (Err same)) refl h)

module _ {S : Type 0} (step : S → DeskCall → DeskAnswer → S → Type 0) where
  -- it was met, and what its action does was done
  pub done_moved : (at : Moment) (told : Told) (c d : Core) (e : Event) (acceptable : Bool) (r : Result (Action × Core) Core) (a : Action)
      → event_of told at c ≡ Some e → is_taken told at c ≡ acceptable → r ≡ after_step c (next_stepped e acceptable c.phase at.now) → r ≡ Ok (a, d)
      → (result : Result Effect AllocError) (s t : S)
      → IfOk result (λ (x : Effect). Turns step (acts a at told d) s x t) → IfOk result (λ (x : Effect). Turns step (turn at c told) s x t)
  done_moved at told c d e acceptable r a event taken is ok result s t h =
      done_by step (turn at c told) (acts a at told d) result s t
      (met at told c e acceptable (next_stepped e acceptable c.phase at.now) event taken refl ∙ stepped_acts at told c d (next_stepped e acceptable c.phase at.now) a (sym is ∙ ok)) h

  pub broke_moved : (at : Moment) (told : Told) (c d : Core) (e : Event) (acceptable : Bool) (r : Result (Action × Core) Core) (a : Action)
      → event_of told at c ≡ Some e → is_taken told at c ≡ acceptable → r ≡ after_step c (next_stepped e acceptable c.phase at.now) → r ≡ Ok (a, d)
      → (result : Result Effect AllocError) (s t : S)
      → OnErr result (Broke step (acts a at told d) s t) → OnErr result (Broke step (turn at c told) s t)
  broke_moved at told c d e acceptable r a event taken is ok result s t h =
      broke_by step (turn at c told) (acts a at told d) result s t
      (met at told c e acceptable (next_stepped e acceptable c.phase at.now) event taken refl ∙ stepped_acts at told c d (next_stepped e acceptable c.phase at.now) a (sym is ∙ ok)) h

  -- it was met, and nothing was done
  pub done_unmoved : (at : Moment) (told : Told) (c d : Core) (e : Event) (acceptable : Bool) (r : Result (Action × Core) Core)
      → event_of told at c ≡ Some e → is_taken told at c ≡ acceptable → r ≡ after_step c (next_stepped e acceptable c.phase at.now) → r ≡ Err d
      → (x : Effect) (s : S) → x ≡ effect [] d → Turns step (turn at c told) s x s
  done_unmoved at told c d e acceptable r event taken is err x s value =
      let next = next_stepped e acceptable c.phase at.now in
      let found : (same : Next) × (next ≡ Err same) × (phased same c ≡ d) = unstepped c d next (sym is ∙ err) in
      let kept : found.0 ≡ c.phase = stays (standing_of c.phase) e acceptable c.phase found.0 at.now found.1 in
      let none : turn at c told ≡ quiet c = met at told c e acceptable next event taken refl ∙ ap (λ (y : Result (Action × Next) Next). moves y at told c) found.1 in
      done_at step (turn at c told) (effect [] c) (Ok x) s none
      (value ∙ (ap (λ (y : Core). effect [] y) (sym found.2) ∙ ap (λ (n : Next). effect [] (phased n c)) kept))

  -- it was no event, and nothing was done
  pub done_unmet : (at : Moment) (told : Told) (c : Core) → event_of told at c ≡ None → (x : Effect) (s : S) → x ≡ effect [] c → Turns step (turn at c told) s x s
  done_unmet at told c none x s value = done_at step (turn at c told) (effect [] c) (Ok x) s (unmet at told c none) value
