-- Where want of memory leaves a turn: something was to be written.
use Rattle.std.proofs.Common.{◌≡◌, ℕ, Bool, true, false, List, [], ◌∷◌, Result, Ok, Err, refl, sym, subst, inl, inr}
use Rattle.std.specs.Prelude.{if◌then◌else◌, Option, Some, None, OnErr}
use Rattle.std.specs.declared.alloc.AllocError.{AllocError}
use Rattle.dr_base.specs.Texts.{Text}
use Rattle.dr_base.specs.Syntaxes.{syntax_uid}
use Rattle.dr_dimse.specs.declared.command.Command.{Command}
use Rattle.dr_ledger.specs.declared.content.Job.{Job}
use Rattle.dr_ledger.specs.declared.content.NextRow.{NextRow}
use Rattle.dr_ledger.specs.declared.content.NextRow.TheVariants.{Whole}
use Rattle.dr_ledger.specs.declared.fault.LedgerFault.TheVariants as fault
use Rattle.dr_nego.specs.declared.agreed.Agreed.{Agreed}
use Rattle.dr_nego.specs.declared.answering.Answer.{Answer}
use Rattle.dr_nego.specs.declared.answering.Answer.TheVariants.{Accept, Reject, TooSmall}
use Rattle.dr_nego.specs.Agreeing.{AssociateRq, context_for}
use Rattle.dr_nego.specs.Answering.{answer}
use Rattle.dr_site.specs.Parts.{Part}
use Rattle.dr_session.specs.declared.ends.Core.{Core}
use Rattle.dr_session.specs.declared.ends.LinkAction.{LinkAction}
use Rattle.dr_session.specs.declared.ends.Effect.{Effect}
use Rattle.dr_session.specs.declared.ends.Moment.{Moment}
use Rattle.dr_session.specs.declared.ends.Pending.{Pending}
use Rattle.dr_session.specs.declared.ends.Told.{Told}
use Rattle.dr_session.specs.declared.ends.Told.TheVariants as told
use Rattle.dr_session.specs.Breaks.{Broke, BrokeBehind, LeavesOff, MayWrite}
use Rattle.dr_session.specs.Desks.{DeskCall, DeskAnswer, Due as DueFor, Settling, Upcoming, First}
use Rattle.dr_session.specs.Reactions.{Reaction, aborts, decides, decides_at, gives, gives_in, gives_nothing, hands_row, hears, is_requestor, leaves_by, pushes, refuses, replied, requested, settles_by, settles_refused, status_for, turn}
use Rattle.dr_session.specs.Turns.{Ends, Asks, Fails, Turns}

-- an end that leaves with something to write
pub leaves_write : (o : Option Pending) (now : ℕ) (a : LinkAction) (c : Core) → MayWrite (leaves_by o now (a ∷ []) c)
leaves_write None now a c = tt
leaves_write (Some p) now a c = (Settling (Ok tt), tt)

pub aborts_write : (at : Moment) (c : Core) → MayWrite (aborts at c)
aborts_write at c = leaves_write _ at.now _ _

pub pushes_write : (at : Moment) (c : Core) → MayWrite (pushes at c)
pushes_write at c = (Upcoming (Err fault.Store), tt)

pub refuses_write : (at : Moment) (c : Core) → MayWrite (refuses at c)
refuses_write at c = (First (Ok None), tt)

settles_write : (p : Pending) (o : Option ℕ) (at : Moment) (c : Core) → MayWrite (settles_by p o at c)
settles_write p (Some status) at c = (Settling (Err fault.Store), tt)
settles_write p None at c = aborts_write at c

pub replies_write : (o : Option Pending) (context : ℕ) (command : Command) (at : Moment) (c : Core) → MayWrite (replied o context command at c)
replies_write (Some p) context command at c = settles_write p (status_for p context command) at c
replies_write None context command at c = aborts_write at c

decides_write : (a : Answer) (at : Moment) (rq : AssociateRq) (c : Core) → MayWrite (decides a at rq c)
decides_write (Accept ac agreed) at rq c = tt
decides_write (Reject result source reason) at rq c = tt
decides_write TooSmall at rq c = aborts_write at c

pub site_writes : (o : Option Part) (site : Part) (at : Moment) (rq : AssociateRq) (c : Core) → o ≡ Some site → MayWrite (decides_at o at rq c)
site_writes o site at rq c is = subst (λ (x : Option Part). MayWrite (decides_at x at rq c)) (sym is) (decides_write (answer rq site at.others) at rq c)

pub writes_by : (x y : Reaction) → x ≡ y → MayWrite y → MayWrite x
writes_by x y same h = subst MayWrite (sym same) h

module _ {S : Type 0} (step : S → DeskCall → DeskAnswer → S → Type 0) where
  broke_before : (x : Reaction) (s : S) → MayWrite x → Broke step x s s
  broke_before (Ends x) s h = (h, refl)
  broke_before (Asks call follow) s h = inl (h, refl)
  broke_before Fails s h = absurd h

  -- before the first call
  pub broke_at : (x : Reaction) (r : Result Effect AllocError) (s : S) → MayWrite x → OnErr r (Broke step x s s)
  broke_at x (Ok e) s h = tt
  broke_at x (Err f) s h = broke_before x s h

  pub broke_where : (x y : Reaction) (r : Result Effect AllocError) (s : S) → x ≡ y → OnErr r (MayWrite y) → OnErr r (Broke step x s s)
  broke_where x y (Ok e) s same h = tt
  broke_where x y (Err f) s same h = broke_before x s (writes_by x y same h)

  -- a request that was answered, at an acceptor
  pub broke_answering : (context : ℕ) (of : Text) (command : Command) (at : Moment) (c : Core) (s : S) → is_requestor c ≡ false → MayWrite (requested c context of command)
      → Broke step (hears (told.Whole context of command) at c) s s
  broke_answering context of command at c s acceptor h =
      let P : Bool → Type 0 = λ b. Broke step (if b then replied c.pending context command at c else requested c context of command) s s in
      subst P (sym acceptor) (broke_before (requested c context of command) s h)

  pub done_answering : (context : ℕ) (of : Text) (command : Command) (at : Moment) (c : Core) (x : Effect) (s : S) → is_requestor c ≡ false → requested c context of command ≡ Ends x
      → Turns step (hears (told.Whole context of command) at c) s x s
  done_answering context of command at c x s acceptor is =
      let P : Bool → Type 0 = λ b. Turns step (if b then replied c.pending context command at c else requested c context of command) s x s in
      let Q : Reaction → Type 0 = λ z. Turns step z s x s in
      subst P (sym acceptor) (subst Q (sym is) (refl, refl))

  -- whatever was answered before
  pub at_answer : (a : DeskAnswer) (x : Reaction) (r : Result Effect AllocError) (s t : S) → OnErr r ((heard : DeskAnswer) → BrokeBehind step heard x s t) → OnErr r (BrokeBehind step a x s t)
  at_answer a x (Ok e) s t h = tt
  at_answer a x (Err f) s t h = h a

  -- the row that was told, of a rejected association
  pub refused_broke : (at : Moment) (core : Core) (uid : Text) (r : Result Effect AllocError) (s m t : S) → step s (DueFor core.peer at.now) (First (Ok (Some uid))) m
      → OnErr r ((heard : DeskAnswer) → BrokeBehind step heard (settles_refused at uid core) m t) → OnErr r (Broke step (refuses at core) s t)
  refused_broke at core uid (Ok e) s m t did h = tt
  refused_broke at core uid (Err f) s m t did h = inr (First (Ok (Some uid)), m, did, h (First (Ok (Some uid))))

  -- the row that was handed out, as its arm has it
  pub handed_by : (at : Moment) (core : Core) (row other : NextRow) (r : Result Effect AllocError) (s t : S) → row ≡ other
      → OnErr r (BrokeBehind step (Upcoming (Ok (Some other))) (hands_row at core other) s t) → OnErr r (BrokeBehind step (Upcoming (Ok (Some row))) (hands_row at core row) s t)
  handed_by at core row other r s t is h = subst (λ (n : NextRow). OnErr r (BrokeBehind step (Upcoming (Ok (Some n))) (hands_row at core n) s t)) (sym is) h

  -- it can't go over
  pub given_nothing : (core : Core) (agreed : Agreed) (at : Moment) (job : Job) (r : Result Effect AllocError) (s t : S) → core.agreed ≡ Some agreed
      → None ≡ context_for agreed job.key.class (syntax_uid job.key.syntax)
      → OnErr r ((heard : DeskAnswer) → BrokeBehind step heard (gives_nothing at job.uid core) s t)
      → OnErr r (BrokeBehind step (Upcoming (Ok (Some (Whole job)))) (gives core.agreed at job core) s t)
  given_nothing core agreed at job r s t some none h =
      let P : Option ℕ → Type 0 = λ o. OnErr r (BrokeBehind step (Upcoming (Ok (Some (Whole job)))) (gives_in o agreed at job core) s t) in
      let Q : Option Agreed → Type 0 = λ o. OnErr r (BrokeBehind step (Upcoming (Ok (Some (Whole job)))) (gives o at job core) s t) in
      subst Q (sym some) (subst P none (at_answer (Upcoming (Ok (Some (Whole job)))) (gives_nothing at job.uid core) r s t h))

  -- what was handed out is to be written
  pub given_broke : (core : Core) (agreed : Agreed) (context : ℕ) (at : Moment) (job : Job) (r : Result Effect AllocError) (s : S) → core.agreed ≡ Some agreed
      → Some context ≡ context_for agreed job.key.class (syntax_uid job.key.syntax)
      → OnErr r (BrokeBehind step (Upcoming (Ok (Some (Whole job)))) (gives core.agreed at job core) s s)
  given_broke core agreed context at job (Err f) s some found =
      let P : Option ℕ → Type 0 = λ o. BrokeBehind step (Upcoming (Ok (Some (Whole job)))) (gives_in o agreed at job core) s s in
      let Q : Option Agreed → Type 0 = λ o. BrokeBehind step (Upcoming (Ok (Some (Whole job)))) (gives o at job core) s s in
      subst Q (sym some) (subst P found (tt, tt, refl))
  given_broke core agreed context at job (Ok e) s some found = tt

  -- one that isn't a request
  pub off_by : (at : Moment) (c : Core) (heard : Told) (r : Result Effect AllocError) (s t : S) → OnErr r (Broke step (turn at c heard) s t) → OnErr r (LeavesOff step at c heard s t)
  off_by at c heard (Ok e) s t h = tt
  off_by at c heard (Err f) s t h = inr h

  pub off_as : (at : Moment) (c : Core) (heard other : Told) (r : Result Effect AllocError) (s t : S) → heard ≡ other → OnErr r (LeavesOff step at c other s t) → OnErr r (LeavesOff step at c heard s t)
  off_as at c heard other r s t same h = subst (λ (x : Told). OnErr r (LeavesOff step at c x s t)) (sym same) h
