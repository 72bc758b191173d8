-- Want of memory hides no answer of a desk.
use Rattle.std.proofs.Common.{◌≡◌, ℕ, List, [], ◌∷◌, ◌++◌, Result, Ok, Err, refl, sym, ap, subst, inl, inr, ◌∙◌, arith}
use Rattle.std.proofs.lemmas.List.{append-nil}
use Rattle.std.specs.Prelude.{◌⊎◌, Option, Some, None}
use Rattle.dr_base.specs.Texts.{Text}
use Rattle.dr_ledger.specs.declared.content.NextRow.{NextRow}
use Rattle.dr_ledger.specs.declared.fault.LedgerFault.TheVariants as fault
use Rattle.dr_ledger.specs.declared.item.Outcome.{Outcome}
use Rattle.dr_ledger.specs.declared.item.Outcome.TheVariants.{Broken}
use Rattle.dr_session.specs.declared.ends.Core.{Core}
use Rattle.dr_session.specs.declared.ends.Effect.{Effect}
use Rattle.dr_session.specs.declared.ends.Input.{Input}
use Rattle.dr_session.specs.declared.ends.Input.TheVariants.{Request, Acceptance, Rejection, Value, NoValue, ReleaseRq, ReleaseRp, Abort, Unknown, Invalid, Ended, Late, AbortAsked, ReleaseAsked, PushAsked}
use Rattle.dr_session.specs.declared.ends.LinkAction.{LinkAction}
use Rattle.dr_session.specs.declared.ends.LinkAction.TheVariants.{Close}
use Rattle.dr_session.specs.declared.ends.Moment.{Moment}
use Rattle.dr_session.specs.Breaks.{Broke, BrokeBehind, IsUnfound, IsUnread, IsWanting, PushesAreTold, QuietTurnsEnd, RefusalsAreTold, SettlingsAreTold}
use Rattle.dr_session.specs.Desks.{DeskCall, DeskAnswer, Settle, Next as NextFor, Due as DueFor, Arrival, Upcoming, First, Settling}
use Rattle.dr_session.specs.Laws.{IsNoData, IsQuietInput, QuietInputsEnd, QuietPiecesEnd}
use Rattle.dr_session.specs.Plays.{AreSeveral, At, BreaksOff, IsKept, Reacts, with_stage}
use Rattle.dr_session.specs.Reactions.{Reaction, desk_failed, due, effect, job, quiet, refused, row, settling}
use Rattle.dr_session.specs.Turns.{Ends, Turns}

module _ {S : Type 0} (step : S → DeskCall → DeskAnswer → S → Type 0) where
  pub quiet_turns_end : QuietTurnsEnd step
  quiet_turns_end c s t h = h.0

  -- what was called leads to where it was left
  left_there : (call : DeskCall) (answer : DeskAnswer) (s m t : S) → t ≡ m → step s call answer m → step s call answer t
  left_there call answer s m t same did = subst (λ (u : S). step s call answer u) (sym same) did

  -- where it was asked for, it was the desk that wanted memory
  settled_behind : (call : DeskCall) (done lost : Effect) (s m t : S) (answer : DeskAnswer) → step s call answer m → BrokeBehind step answer (settling (Ends done) (Ends lost) answer) m t
      → (a : DeskAnswer) × IsWanting a × step s call a t
  settled_behind call done lost s m t (Settling (Ok value)) did h = absurd h.0
  settled_behind call done lost s m t (Settling (Err fault.NoLine)) did h = absurd h.0
  settled_behind call done lost s m t (Settling (Err fault.Conflict)) did h = absurd h.0
  settled_behind call done lost s m t (Settling (Err fault.Store)) did h = absurd h.0
  settled_behind call done lost s m t (Settling (Err fault.NotWaiting)) did h = absurd h.0
  settled_behind call done lost s m t (Settling (Err fault.NotHeld)) did h = absurd h.0
  settled_behind call done lost s m t (Settling (Err fault.NotOver)) did h = absurd h.0
  settled_behind call done lost s m t (Settling (Err fault.Memory)) did h = (Settling (Err fault.Memory), tt, left_there call (Settling (Err fault.Memory)) s m t h did)
  settled_behind call done lost s m t (Arrival reply) did h = (Arrival reply, tt, left_there call (Arrival reply) s m t h did)
  settled_behind call done lost s m t (Upcoming row) did h = (Upcoming row, tt, left_there call (Upcoming row) s m t h did)
  settled_behind call done lost s m t (First found) did h = (First found, tt, left_there call (First found) s m t h did)

  pub settlings_are_told : SettlingsAreTold step
  settlings_are_told uid dest outcome now done lost s t (inl h) = inl h.1
  settlings_are_told uid dest outcome now done lost s t (inr (answer, m, did, h)) = inr (settled_behind (Settle uid dest outcome now) done lost s m t answer did h)

  pushed : (call : DeskCall) (at : Moment) (c : Core) (s m t : S) (answer : DeskAnswer) → step s call answer m → BrokeBehind step answer (job (due at c) answer) m t
      → (t ≡ s) ⊎ (((row : NextRow) × (n : S) × step s call (Upcoming (Ok (Some row))) n) ⊎ ((a : DeskAnswer) × IsUnread a × step s call a t))
  pushed call at c s m t (Upcoming (Ok (Some row))) did h = inr (inl (row, m, did))
  pushed call at c s m t (Upcoming (Ok None)) did h = absurd h.0
  pushed call at c s m t (Upcoming (Err fault.NoLine)) did h = absurd h.0
  pushed call at c s m t (Upcoming (Err fault.Conflict)) did h = absurd h.0
  pushed call at c s m t (Upcoming (Err fault.Store)) did h = absurd h.0
  pushed call at c s m t (Upcoming (Err fault.NotWaiting)) did h = absurd h.0
  pushed call at c s m t (Upcoming (Err fault.NotHeld)) did h = absurd h.0
  pushed call at c s m t (Upcoming (Err fault.NotOver)) did h = absurd h.0
  pushed call at c s m t (Upcoming (Err fault.Memory)) did h = inr (inr (Upcoming (Err fault.Memory), tt, left_there call (Upcoming (Err fault.Memory)) s m t h did))
  pushed call at c s m t (Arrival reply) did h = inr (inr (Arrival reply, tt, left_there call (Arrival reply) s m t h did))
  pushed call at c s m t (First found) did h = inr (inr (First found, tt, left_there call (First found) s m t h did))
  pushed call at c s m t (Settling settled_so) did h = inr (inr (Settling settled_so, tt, left_there call (Settling settled_so) s m t h did))

  pub pushes_are_told : PushesAreTold step
  pushes_are_told at c s t (inl h) = inl h.1
  pushes_are_told at c s t (inr (answer, m, did, h)) = pushed (NextFor c.peer at.now) at c s m t answer did h

  -- the first row behind a rejection: as it was asked for, or as it was settled
  refused_so : (at : Moment) (c : Core) (s m t : S) (answer : DeskAnswer) → step s (DueFor c.peer at.now) answer m → BrokeBehind step answer (row (refused at c) answer) m t
      → ((a : DeskAnswer) × IsUnfound a × step s (DueFor c.peer at.now) a t)
      ⊎ ((uid : Text) × (n : S) × step s (DueFor c.peer at.now) (First (Ok (Some uid))) n × ((a : DeskAnswer) × IsWanting a × step n (Settle uid c.peer Broken at.now) a t))
  refused_so at c s m t (First (Ok None)) did h = absurd h.0
  refused_so at c s m t (First (Ok (Some uid))) did (answer, n, done, h) =
      inr (uid, m, did, settled_behind (Settle uid c.peer Broken at.now) (effect (Close ∷ []) c) (effect (Close ∷ []) (desk_failed c)) m n t answer done h)
  refused_so at c s m t (First (Err fault.NoLine)) did h = absurd h.0
  refused_so at c s m t (First (Err fault.Conflict)) did h = absurd h.0
  refused_so at c s m t (First (Err fault.Store)) did h = absurd h.0
  refused_so at c s m t (First (Err fault.NotWaiting)) did h = absurd h.0
  refused_so at c s m t (First (Err fault.NotHeld)) did h = absurd h.0
  refused_so at c s m t (First (Err fault.NotOver)) did h = absurd h.0
  refused_so at c s m t (First (Err fault.Memory)) did h = inl (First (Err fault.Memory), tt, left_there (DueFor c.peer at.now) (First (Err fault.Memory)) s m t h did)
  refused_so at c s m t (Arrival reply) did h = inl (Arrival reply, tt, left_there (DueFor c.peer at.now) (Arrival reply) s m t h did)
  refused_so at c s m t (Upcoming found) did h = inl (Upcoming found, tt, left_there (DueFor c.peer at.now) (Upcoming found) s m t h did)
  refused_so at c s m t (Settling settled_so) did h = inl (Settling settled_so, tt, left_there (DueFor c.peer at.now) (Settling settled_so) s m t h did)

  pub refusals_are_told : RefusalsAreTold step
  refusals_are_told at c s t (inl h) = inl h.1
  refusals_are_told at c s t (inr (answer, m, did, h)) = inr (refused_so at c s m t answer did h)

  -- ---- what does nothing

  unkept : (c : Core) (i : Input) → IsNoData c i → IsKept c i → ⊥
  unkept c (Value p) none h = none p refl h
  unkept c (Request x) none h = h
  unkept c (Acceptance x) none h = h
  unkept c (Rejection x) none h = h
  unkept c (Abort x) none h = h
  unkept c NoValue none h = h
  unkept c ReleaseRq none h = h
  unkept c ReleaseRp none h = h
  unkept c Unknown none h = h
  unkept c Invalid none h = h
  unkept c Ended none h = h
  unkept c Late none h = h
  unkept c AbortAsked none h = h
  unkept c ReleaseAsked none h = h
  unkept c PushAsked none h = h

  pub quiet_inputs_end : QuietInputsEnd step
  quiet_inputs_end c i s t still none h = elim h.by [
    | inl kept ↦ unkept c i.input none kept.0
    | inr x ↦ (
        let q = still x.0 x.1 x.2 in
        elim x.3 [
          | inl asked ↦ q.0 asked.0
          | inr broke ↦ (let b : Broke step (quiet (with_stage x.1 c)) s t = subst (λ (r : Reaction). Broke step r s t) q.1 broke in b.0)
        ])
  ]

  -- it writes nothing
  wrote_nothing : (c : Core) (i : At) (s m : S) (x : Effect) → IsQuietInput c i → Reacts step c i s x m → x.acts ≡ []
  wrote_nothing c i s m x still h =
      let q = still h.told h.stage h.tells in
      let b : Turns step (quiet (with_stage h.stage c)) s x m = subst (λ (r : Reaction). Turns step r s x m) q.1 h.turns in
      ap (λ (y : Effect). y.acts) b.0

  pub quiet_pieces_end : QuietPiecesEnd step
  quiet_pieces_end written c i s t few = (λ h. (let several : AreSeveral written = h.0 in omega (arith, few, several)), λ still none h. by_case still none h)
    where
      by_case : IsQuietInput c i → IsNoData c i.input → BreaksOff step written c (i ∷ []) s t → ⊥
      by_case still none (inl h) = (let several : AreSeveral written = h.0 in omega (arith, few, several))
      by_case still none (inr (inl h)) = quiet_inputs_end c i s t still none h
      by_case still none (inr (inr (x, m, reacts, h))) =
          let same : written ++ x.acts ≡ written = ap (λ (l : List LinkAction). written ++ l) (wrote_nothing c i s m x still reacts) ∙ append-nil written in
          let several : AreSeveral written = subst AreSeveral same h.0 in
          omega (arith, few, several)
