-- What is done at one desk is done at another one that follows it, call by call.
use Rattle.std.proofs.Common.{◌≡◌, ◌∙◌, ◌⊎◌, ◌↔◌, ◌≢◌, ◌+◌, ◌-◌, ◌||◌, ℕ, Bool, true, false, cond, arith, List, [], ◌∷◌, ◌++◌, Option, None, Some, Result, Ok, Err, inl, inr, refl, sym, ap, subst}
use Rattle.std.specs.declared.alloc.AllocError.{AllocError}
use Rattle.std.specs.declared.io.Error.{Error}
use Rattle.dr_base.specs.Texts.{Text}
use Rattle.dr_pdu.specs.Feeding.{Feeding}
use Rattle.dr_pdu.specs.declared.pdu.Pdu.TheVariants as pdu
use Rattle.dr_ledger.specs.declared.fault.LedgerFault.{LedgerFault}
use Rattle.dr_session.specs.Breaks.{Broke, BrokeBehind, LeavesOff}
use Rattle.dr_session.specs.declared.ends.Core.{Core}
use Rattle.dr_session.specs.declared.ends.Effect.{Effect}
use Rattle.dr_session.specs.declared.ends.Ended.{Ended}
use Rattle.dr_session.specs.declared.ends.Heard.{Heard}
use Rattle.dr_session.specs.declared.ends.Heard.TheVariants as heard
use Rattle.dr_session.specs.declared.ends.Input.{Input}
use Rattle.dr_session.specs.declared.ends.Input.TheVariants as input
use Rattle.dr_session.specs.declared.ends.LinkAction.{LinkAction}
use Rattle.dr_session.specs.declared.ends.LinkAction.TheVariants.{Write, Close}
use Rattle.dr_session.specs.declared.ends.Moment.{Moment}
use Rattle.dr_session.specs.declared.ends.Told.{Told}
use Rattle.dr_session.specs.declared.sessions.SessionFault.{SessionFault}
use Rattle.dr_session.specs.declared.sessions.SessionFault.TheVariants as fault
use Rattle.dr_session.specs.declared.wishes.Kind.{Kind}
use Rattle.dr_session.specs.declared.wishes.Kind.TheVariants.{Deliver}
use Rattle.dr_session.specs.Desks.{DeskCall, DeskAnswer, Arrive, Next, Due, Settle, Arrival, Upcoming, First, Settling}
use Rattle.dr_session.specs.Ends.{Terminal, MeetsBy, MeetsIn, Meets, HearsPiece, HearsBytes, HearsOf, begins, is_gone, idle_in, requesting, state_in}
use Rattle.dr_session.specs.Links.{EndDoing, Hears, Asks, Echoes, Place, place, Does, Performed, Did, Leaves, Stops as StopsIn, Served, StopsAt, EndsAs, Begins, SessionTo, DeliversAs, IsWished, asked_after, wants}
use Rattle.dr_session.specs.Plays.{At, Reacts, Stops, Plays, BreaksOff, BreaksBytes, with_stage}
use Rattle.dr_session.specs.Reactions.{Reaction, turn as reaction, write}
use Rattle.dr_session.specs.Turns.{Turns, Ends, Asks as AsksFor, Fails}
use Rattle.dr_site.specs.Parts.{Part}
use Rattle.dr_ledger.specs.declared.item.Outcome.TheVariants.{Broken}
use Rattle.dr_desk.specs.Receipts.{LeavesReceipts}
use Rattle.dr_desk.specs.declared.receipt.Receipt.{Receipt}
use Rattle.dr_desk_workers.specs.Passes.{PassStep}
use Rattle.dr_ledger.specs.Bodies.{Bodies}
use Rattle.dr_ledger.specs.Books.{Book, Line}
use Rattle.dr_run_serve.specs.Sendings.{AnsweredCall, ComesBack, IsNotedOf, LooksUp, OnDesk, Records, TellsUid, VisitsAt, VisitsBy, accepted, is_accepted, passes, passes_over}
use Rattle.dr_run_serve.specs.declared.resting.Noted.{Noted}
use Rattle.dr_run_serve.specs.Visits.{Delivers, Finds, Follows as Behind, GivesUp, SendsDue, StaysAway, Visits}
use Rattle.dr_run_serve.specs.declared.visit.Visit.{Visit}
use Rattle.dr_run_serve.specs.declared.visit.Visit.TheVariants as visit

-- the bytes that are written
abbrev bytes_of : LinkAction → List ℕ
bytes_of (Write bytes) = bytes
bytes_of Close = []

module _ {S T : Type 0} (step : S → DeskCall → DeskAnswer → S → Type 0) (shown : T → DeskCall → DeskAnswer → T → Type 0) (Follows : S → T → Type 0)
    (one : (s : S) (call : DeskCall) (answer : DeskAnswer) (t : S) (a : T) → step s call answer t → Follows s a → (b : T) × shown a call answer b × Follows t b) where
  still : (s t : S) (a : T) → t ≡ s → Follows s a → Follows t a
  still s t a e k = subst (λ (x : S). Follows x a) (sym e) k

  turns : (turn : Reaction) (s t : S) (x : Effect) (a : T) → Turns step turn s x t → Follows s a → (b : T) × Turns shown turn a x b × Follows t b
  turns (Ends value) s t x a h k = (a, (h.0, refl), still s t a h.1 k)
  turns (AsksFor call follow) s t x a h k =
      let first = one s call h.0 h.1 a h.2 k in
      let later = turns (follow h.0) h.1 t x first.0 h.3 first.2 in
      (later.0, (h.0, first.0, first.1, later.1), later.2)
  turns Fails s t x a h k = absurd h

  broke_behind : (told : DeskAnswer) (turn : Reaction) (s t : S) (a : T) → BrokeBehind step told turn s t → Follows s a → (b : T) × BrokeBehind shown told turn a b × Follows t b
  broke_behind told (Ends value) s t a h k = (a, (h.0, h.1, refl), still s t a h.2 k)
  broke_behind told (AsksFor call follow) s t a h k =
      let first = one s call h.0 h.1 a h.2 k in
      let later = broke_behind h.0 (follow h.0) h.1 t first.0 h.3 first.2 in
      (later.0, (h.0, first.0, first.1, later.1), later.2)
  broke_behind told Fails s t a h k = (a, refl, still s t a h k)

  broke : (turn : Reaction) (s t : S) (a : T) → Broke step turn s t → Follows s a → (b : T) × Broke shown turn a b × Follows t b
  broke (Ends value) s t a h k = (a, (h.0, refl), still s t a h.1 k)
  broke (AsksFor call follow) s t a (inl h) k = (a, inl (h.0, refl), still s t a h.1 k)
  broke (AsksFor call follow) s t a (inr h) k =
      let first = one s call h.0 h.1 a h.2 k in
      let later = broke_behind h.0 (follow h.0) h.1 t first.0 h.3 first.2 in
      (later.0, inr (h.0, first.0, first.1, later.1), later.2)
  broke Fails s t a h k = (a, refl, still s t a h k)

  left_off : (at : Moment) (c : Core) (told : Told) (s t : S) (a : T) → LeavesOff step at c told s t → Follows s a → (b : T) × LeavesOff shown at c told a b × Follows t b
  left_off at c told s t a (inl h) k = (a, inl (h.0, refl), still s t a h.1 k)
  left_off at c told s t a (inr h) k = let r = broke (reaction at c told) s t a h k in (r.0, inr r.1, r.2)

  reacts : (c : Core) (i : At) (s t : S) (x : Effect) (a : T) → Reacts step c i s x t → Follows s a → (b : T) × Reacts shown c i a x b × Follows t b
  reacts c i s t x a h k = let r = turns _ s t x a h.turns k in (r.0, record { told = h.told; stage = h.stage; tells = h.tells; turns = r.1 }, r.2)

  stops : (c : Core) (i : At) (s t : S) (a : T) → Stops step c i s t → Follows s a → (b : T) × Stops shown c i a b × Follows t b
  stops c i s t a h k = elim h.by [
    | inl e ↦ (a, record { by = inl (e.0, refl) }, still s t a e.1 k)
    | inr x ↦ (let r = left_off i.moment (with_stage x.1 c) x.0 s t a x.3 k in (r.0, record { by = inr (x.0, x.1, x.2, r.1) }, r.2))
  ]

  plays : (c : Core) (is : List At) (s t : S) (acts : List LinkAction) (d : Core) (a : T) → Plays step c is s acts d t → Follows s a → (b : T) × Plays shown c is a acts d b × Follows t b
  plays c [] s t acts d a h k = (a, (h.0, h.1, refl), still s t a h.2 k)
  plays c (i ∷ is) s t acts d a h k =
      let first = reacts c i s h.1 h.0 a h.3 k in
      let later = plays h.0.core is h.1 t h.2 d first.0 h.4 first.2 in
      (later.0, (h.0, first.0, h.2, first.1, later.1, h.5), later.2)

  breaks : (written : List LinkAction) (c : Core) (is : List At) (s t : S) (a : T) → BreaksOff step written c is s t → Follows s a → (b : T) × BreaksOff shown written c is a b × Follows t b
  breaks written c [] s t a h k = (a, (h.0, refl), still s t a h.1 k)
  breaks written c (i ∷ is) s t a (inl h) k = (a, inl (h.0, refl), still s t a h.1 k)
  breaks written c (i ∷ is) s t a (inr (inl h)) k = let r = stops c i s t a h k in (r.0, inr (inl r.1), r.2)
  breaks written c (i ∷ is) s t a (inr (inr h)) k =
      let first = reacts c i s h.1 h.0 a h.2 k in
      let later = breaks (written ++ h.0.acts) h.0.core is h.1 t first.0 h.3 first.2 in
      (later.0, inr (inr (h.0, first.0, first.1, later.1)), later.2)

  breaks_bytes : (at : Moment) (ear : Feeding) (c : Core) (piece : List ℕ) (s t : S) (a : T) → BreaksBytes step at ear c piece s t → Follows s a → (b : T) × BreaksBytes shown at ear c piece a b × Follows t b
  breaks_bytes at ear c piece s t a (works, inl h) k = (a, (works, inl refl), still s t a h k)
  breaks_bytes at ear c piece s t a (works, inr h) k = let r = breaks [] c _ s t a h.5 k in (r.0, (works, inr (h.0, h.1, h.2, h.3, h.4, r.1)), r.2)

  meets_by : (b : Bool) (at : Moment) (i : Input) (c : Core) (old : Terminal) (s t : S) (result : Result (List LinkAction) AllocError) (new : Terminal) (a : T) → MeetsBy step b at i c old s result new t → Follows s a →
      (z : T) × MeetsBy shown b at i c old a result new z × Follows t z
  meets_by true at i c old s t result new a h k = (a, (h.0, h.1, refl), still s t a h.2 k)
  meets_by false at i c old s t (Ok acts) new a h k = let r = reacts c _ s t h.0 a h.1 k in (r.0, (h.0, r.1, h.2, h.3), r.2)
  meets_by false at i c old s t (Err e) new a h k = let r = stops c _ s t a h.0 k in (r.0, (r.1, h.1), r.2)

  meets_in : (o : Option Core) (at : Moment) (i : Input) (old : Terminal) (s t : S) (result : Result (List LinkAction) AllocError) (new : Terminal) (a : T) → MeetsIn step o at i old s result new t → Follows s a →
      (z : T) × MeetsIn shown o at i old a result new z × Follows t z
  meets_in None at i old s t result new a h k = (a, (h.0, h.1, refl), still s t a h.2 k)
  meets_in (Some c) at i old s t result new a h k = meets_by (is_gone (state_in (Some c))) at i c old s t result new a h k

  meets : (at : Moment) (i : Input) (old : Terminal) (s t : S) (result : Result (List LinkAction) AllocError) (new : Terminal) (a : T) → Meets step at i old s result new t → Follows s a →
      (z : T) × Meets shown at i old a result new z × Follows t z
  meets at i old s t result new a h k = meets_in old.core at i old s t result new a h k

  hears_piece : (b : Bool) (at : Moment) (piece : List ℕ) (c : Core) (old : Terminal) (s t : S) (result : Result (List LinkAction) AllocError) (new : Terminal) (a : T) → HearsPiece step b at piece c old s result new t → Follows s a →
      (z : T) × HearsPiece shown b at piece c old a result new z × Follows t z
  hears_piece true at piece c old s t result new a h k = (a, (h.0, h.1, refl), still s t a h.2 k)
  hears_piece false at piece c old s t (Ok acts) new a h k =
      let r = plays c _ s t h.0.acts h.0.core a h.1.2 k in
      (r.0, (h.0, (h.1.0, h.1.1, r.1), h.2, h.3), r.2)
  hears_piece false at piece c old s t (Err e) new a h k = let r = breaks_bytes at old.ear c piece s t a h.0 k in (r.0, (r.1, h.1), r.2)

  hears_bytes : (o : Option Core) (at : Moment) (piece : List ℕ) (old : Terminal) (s t : S) (result : Result (List LinkAction) AllocError) (new : Terminal) (a : T) → HearsBytes step o at piece old s result new t → Follows s a →
      (z : T) × HearsBytes shown o at piece old a result new z × Follows t z
  hears_bytes None at piece old s t result new a h k = (a, (h.0, h.1, refl), still s t a h.2 k)
  hears_bytes (Some c) at piece old s t result new a h k = hears_piece (is_gone (state_in (Some c))) at piece c old s t result new a h k

  hears_of : (what : Heard) (at : Moment) (old : Terminal) (s t : S) (result : Result (List LinkAction) AllocError) (new : Terminal) (a : T) → HearsOf step what at old s result new t → Follows s a →
      (z : T) × HearsOf shown what at old a result new z × Follows t z
  hears_of (heard.Bytes piece) at old s t result new a h k = hears_bytes old.core at piece old s t result new a h k
  hears_of heard.End at old s t result new a h k = meets at input.Ended old s t result new a h k
  hears_of heard.Fault at old s t result new a h k = meets at input.Ended old s t result new a h k
  hears_of heard.Late at old s t result new a h k = meets at input.Late old s t result new a h k
  hears_of heard.Crowded at old s t result new a h k = (a, (refl, h.1), still s t a h.0 k)
  hears_of heard.Idle at old s t result new a h k = meets at (idle_in (state_in old.core)) old s t result new a h k
  hears_of heard.Memory at old s t result new a h k = (a, (refl, h.1), still s t a h.0 k)

  -- ---- over a link

  module _ {L : Type 0} (hears : L → Heard → L → Type 0) (sends : L → List ℕ → Bool → L → Type 0) (closes : L → L → Type 0) (tells : ℕ → Type 0) (others : ℕ) where
    abbrev with_port : Place L S → T → Place L T
    with_port p a = place p.link a p.terminal

    does : (x : EndDoing) (old new : Place L S) (result : Result (List LinkAction) AllocError) (a : T) → Does hears sends closes step tells others x old result new → Follows old.port a →
        (b : T) × Does hears sends closes shown tells others x (with_port old a) result (with_port new b) × Follows new.port b
    does (Hears at came) old new result a h k = let r = hears_of came at old.terminal old.port new.port result new.terminal a h.2 k in (r.0, (h.0, h.1, r.1), r.2)
    does (Asks at input) old new result a h k = let r = meets at input old.terminal old.port new.port result new.terminal a h.2 k in (r.0, (h.0, h.1, r.1), r.2)
    does (Echoes at) old new result a h k = (a, (h.0, h.1, refl, h.3), still old.port new.port a h.2 k)

    performed : (x : EndDoing) (mid new : Place L S) (acts : List LinkAction) (a : T) → Performed hears sends closes step tells others x mid acts new → Follows mid.port a →
        Performed hears sends closes shown tells others x (with_port mid a) acts (with_port new a) × Follows new.port a
    performed (Hears at heard.Fault) mid new acts a h k = absurd h
    performed (Hears at (heard.Bytes piece)) mid new acts a h k = ((h.0, refl, h.2), still mid.port new.port a h.1 k)
    performed (Hears at heard.End) mid new acts a h k = ((h.0, refl, h.2), still mid.port new.port a h.1 k)
    performed (Hears at heard.Late) mid new acts a h k = ((h.0, refl, h.2), still mid.port new.port a h.1 k)
    performed (Hears at heard.Crowded) mid new acts a h k = ((h.0, refl, h.2), still mid.port new.port a h.1 k)
    performed (Hears at heard.Idle) mid new acts a h k = ((h.0, refl, h.2), still mid.port new.port a h.1 k)
    performed (Hears at heard.Memory) mid new acts a h k = ((h.0, refl, h.2), still mid.port new.port a h.1 k)
    performed (Asks at input) mid new acts a h k = ((h.0, refl, h.2), still mid.port new.port a h.1 k)
    performed (Echoes at) mid new acts a h k = ((h.0, refl, h.2), still mid.port new.port a h.1 k)

    did : (x : EndDoing) (old new : Place L S) (a : T) → Did hears sends closes step tells others old x new → Follows old.port a →
        (b : T) × Did hears sends closes shown tells others (with_port old a) x (with_port new b) × Follows new.port b
    did x old new a h k =
        let first = does x old h.1 (Ok h.0) a h.2 k in
        let last = performed x h.1 new h.0 first.0 h.3 first.2 in
        (first.0, (h.0, with_port h.1 first.0, first.1, last.0), last.1)

    leaves : (old : Terminal) (s t : S) (result : Result (List LinkAction) AllocError) (a : T) → Leaves hears sends closes step tells others old s result t → Follows s a →
        (b : T) × Leaves hears sends closes shown tells others old a result b × Follows t b
    leaves old s t result a h k = let r = hears_of heard.Fault h.0 old s t result h.1 a h.3 k in (r.0, (h.0, h.1, h.2, r.1), r.2)

    stops_in : (Is : EndDoing → Type 0) (why : SessionFault) (old : Place L S) (l : L) (t : S) (a : T) → StopsIn hears sends closes step tells others Is why old l t → Follows old.port a →
        (b : T) × StopsIn hears sends closes shown tells others Is why (with_port old a) l b × Follows t b
    stops_in Is fault.Read old l t a h k =
        let r = does (Hears h.0 heard.Fault) old (place l t h.2) (Ok h.1) a h.4 k in
        (r.0, (h.0, h.1, h.2, h.3, r.1), r.2)
    stops_in Is fault.Write old l t a h k =
        let first = does h.0 old h.3 (Ok h.1) a h.5 k in
        let last = leaves h.3.terminal h.3.port t (Ok h.2) first.0 h.7 first.2 in
        (last.0, (h.0, h.1, h.2, with_port h.3 first.0, h.4, first.1, h.6, last.1), last.2)
    stops_in Is fault.Memory old l t a (inl h) k =
        let r = does h.0 old (place l t h.2) (Err h.1) a h.4 k in
        (r.0, inl (h.0, h.1, h.2, h.3, r.1), r.2)
    stops_in Is fault.Memory old l t a (inr h) k =
        let first = does h.0 old h.3 (Ok h.1) a h.5 k in
        let last = leaves h.3.terminal h.3.port t (Err h.2) first.0 h.7 first.2 in
        (last.0, inr (h.0, h.1, h.2, with_port h.3 first.0, h.4, first.1, h.6, last.1), last.2)
    stops_in Is fault.NoHop old l t a h k = absurd h
    stops_in Is fault.TooManyReads old l t a h k = absurd h
    stops_in Is fault.Desk old l t a h k = absurd h

    served : (kind : Kind) (asked told : ℕ) (xs : List EndDoing) (old new : Place L S) (a : T) → Served hears sends closes step tells others kind asked old xs told new → Follows old.port a →
        (b : T) × Served hears sends closes shown tells others kind asked (with_port old a) xs told (with_port new b) × Follows new.port b
    served kind asked told [] old new a h k = (a, (h.0, ap (λ (p : Place L S). with_port p a) h.1), still old.port new.port a (ap (λ (p : Place L S). p.port) h.1) k)
    served kind asked told (x ∷ xs) old new a h k =
        let first = did x old h.2.0 a h.2.1 k in
        let later = served kind (asked_after x asked) told xs h.2.0 new first.0 h.2.2 first.2 in
        (later.0, (h.0, h.1, (with_port h.2.0 first.0, first.1, later.1)), later.2)

    stops_at : (kind : Kind) (why : SessionFault) (asked : ℕ) (old : Place L S) (l : L) (t : S) (a : T) → StopsAt hears sends closes step tells others kind why asked old l t → Follows old.port a →
        (b : T) × StopsAt hears sends closes shown tells others kind why asked (with_port old a) l b × Follows t b
    stops_at kind fault.Memory asked old l t a (inl h) k = (a, inl (h.0, h.1, refl), still old.port t a h.2 k)
    stops_at kind fault.Memory asked old l t a (inr h) k = let r = stops_in (IsWished (wants kind asked old.terminal)) fault.Memory old l t a h k in (r.0, inr r.1, r.2)
    stops_at kind fault.Read asked old l t a h k = stops_in (IsWished (wants kind asked old.terminal)) fault.Read old l t a h k
    stops_at kind fault.Write asked old l t a h k = stops_in (IsWished (wants kind asked old.terminal)) fault.Write old l t a h k
    stops_at kind fault.NoHop asked old l t a h k = absurd h
    stops_at kind fault.TooManyReads asked old l t a h k = absurd h
    stops_at kind fault.Desk asked old l t a h k = absurd h

    ends_as : (kind : Kind) (came : Result Ended SessionFault) (old : Place L S) (l : L) (t : S) (a : T) → EndsAs hears sends closes step tells others kind came old l t → Follows old.port a →
        (b : T) × EndsAs hears sends closes shown tells others kind came (with_port old a) l b × Follows t b
    ends_as kind (Ok ended) old l t a h k = let r = served kind 0 h.1 h.0 old (place l t h.2) a h.3 k in (r.0, (h.0, h.1, h.2, r.1, h.4), r.2)
    ends_as kind (Err fault.Desk) old l t a h k = let r = served kind 0 h.1 h.0 old (place l t h.2) a h.3 k in (r.0, (h.0, h.1, h.2, r.1, h.4), r.2)
    ends_as kind (Err fault.TooManyReads) old l t a h k = let r = served kind 0 h.1 h.0 old (place l t h.2) a h.3 k in (r.0, (h.0, h.1, h.2, r.1, h.4), r.2)
    ends_as kind (Err fault.Memory) old l t a (inl h) k = (a, inl (h.0, refl), still old.port t a h.1 k)
    ends_as kind (Err fault.Memory) old l t a (inr h) k =
        let first = served kind 0 h.1 h.0 old h.2 a h.3 k in
        let last = stops_at kind fault.Memory h.1 h.2 l t first.0 h.4 first.2 in
        (last.0, inr (h.0, h.1, with_port h.2 first.0, first.1, last.1), last.2)
    ends_as kind (Err fault.Read) old l t a h k =
        let first = served kind 0 h.1 h.0 old h.2 a h.3 k in
        let last = stops_at kind fault.Read h.1 h.2 l t first.0 h.4 first.2 in
        (last.0, (h.0, h.1, with_port h.2 first.0, first.1, last.1), last.2)
    ends_as kind (Err fault.Write) old l t a h k =
        let first = served kind 0 h.1 h.0 old h.2 a h.3 k in
        let last = stops_at kind fault.Write h.1 h.2 l t first.0 h.4 first.2 in
        (last.0, (h.0, h.1, with_port h.2 first.0, first.1, last.1), last.2)
    ends_as kind (Err fault.NoHop) old l t a h k =
        let first = served kind 0 h.1 h.0 old h.2 a h.3 k in
        let last = stops_at kind fault.NoHop h.1 h.2 l t first.0 h.4 first.2 in
        (last.0, (h.0, h.1, with_port h.2 first.0, first.1, last.1), last.2)

    begun : (kind : Kind) (sent : Bool) (came : Result Ended SessionFault) (old : L) (bytes : List ℕ) (s : S) (terminal : Terminal) (l : L) (t : S) (a : T) →
        Begins hears sends closes step tells others kind sent came old bytes s terminal l t → Follows s a →
        (b : T) × Begins hears sends closes shown tells others kind sent came old bytes a terminal l b × Follows t b
    begun kind true came old bytes s terminal l t a h k = let r = ends_as kind came (place h.0 s terminal) l t a h.2 k in (r.0, (h.0, h.1, r.1), r.2)
    begun kind false (Err fault.Write) old bytes s terminal l t a h k = let r = leaves terminal s t (Ok h.1.0) a h.1.1 k in (r.0, (h.0, (h.1.0, r.1)), r.2)
    begun kind false (Err fault.Memory) old bytes s terminal l t a h k = let r = leaves terminal s t (Err h.1.0) a h.1.1 k in (r.0, (h.0, (h.1.0, r.1)), r.2)
    begun kind false (Err fault.Read) old bytes s terminal l t a h k = absurd h
    begun kind false (Err fault.NoHop) old bytes s terminal l t a h k = absurd h
    begun kind false (Err fault.TooManyReads) old bytes s terminal l t a h k = absurd h
    begun kind false (Err fault.Desk) old bytes s terminal l t a h k = absurd h
    begun kind false (Ok ended) old bytes s terminal l t a h k = absurd h

    session_to : (site : Part) (dest : Text) (came : Result Ended SessionFault) (old l : L) (s t : S) (a : T) → SessionTo hears sends closes step tells others site dest came old s l t → Follows s a →
        (b : T) × SessionTo hears sends closes shown tells others site dest came old a l b × Follows t b
    session_to site dest came old l s t a h k =
        let r = begun Deliver h.3 came old (bytes_of (write (pdu.AssociateRq h.1 ∷ []))) s (begins site.max_pdu (requesting (Some site) dest h.1 h.2)) l t a h.6 k in
        (r.0, (h.0, h.1, h.2, h.3, h.4, h.5, r.1), r.2)

    pub delivers_as : (site : Part) (dest : Text) (came : Result Ended SessionFault) (old l : L) (s t : S) (a : T) → DeliversAs hears sends closes step tells others site dest came old s l t → Follows s a →
        (b : T) × DeliversAs hears sends closes shown tells others site dest came old a l b × Follows t b
    delivers_as site dest (Ok ended) old l s t a h k = session_to site dest (Ok ended) old l s t a h k
    delivers_as site dest (Err fault.NoHop) old l s t a h k = (a, (h.0, h.1, refl), still s t a h.2 k)
    delivers_as site dest (Err fault.Memory) old l s t a (inl h) k = (a, inl (h.0, h.1, refl), still s t a h.2 k)
    delivers_as site dest (Err fault.Memory) old l s t a (inr h) k = let r = session_to site dest (Err fault.Memory) old l s t a h k in (r.0, inr r.1, r.2)
    delivers_as site dest (Err fault.Read) old l s t a h k = session_to site dest (Err fault.Read) old l s t a h k
    delivers_as site dest (Err fault.Write) old l s t a h k = session_to site dest (Err fault.Write) old l s t a h k
    delivers_as site dest (Err fault.TooManyReads) old l s t a h k = session_to site dest (Err fault.TooManyReads) old l s t a h k
    delivers_as site dest (Err fault.Desk) old l s t a h k = session_to site dest (Err fault.Desk) old l s t a h k

-- ---- visits

module _ {S T L : Type 0} (step : S → DeskCall → DeskAnswer → S → Type 0) (shown : T → DeskCall → DeskAnswer → T → Type 0)
    (finds : S → Text → ℕ → Result (Option Text) LedgerFault → S → Type 0) (looks : T → Text → ℕ → Result (Option Text) LedgerFault → T → Type 0) (Follows : S → T → Type 0) (taken : S → ℕ) (took : T → ℕ)
    (one : (s : S) (call : DeskCall) (answer : DeskAnswer) (t : S) (a : T) → step s call answer t → Follows s a → (b : T) × shown a call answer b × Follows t b)
    (look : (s : S) (dest : Text) (now : ℕ) (found : Result (Option Text) LedgerFault) (t : S) (a : T) → finds s dest now found t → Follows s a → (b : T) × looks a dest now found b × Follows t b)
    (alike : (s t : S) (a b : T) → Follows s a → Follows t b → (taken t ≡ taken s) ↔ (took b ≡ took a))
    (connects : Text → Result L Error → Type 0) (hears : L → Heard → L → Type 0) (sends : L → List ℕ → Bool → L → Type 0) (closes : L → L → Type 0) (tells : ℕ → Type 0) (site : Part) (dest address : Text) where
  gives_up : (uid : Text) (s t : S) (result : Result (Unit {0}) LedgerFault) (a : T) → GivesUp step tells uid dest s result t → Follows s a → (b : T) × GivesUp shown tells uid dest a result b × Follows t b
  gives_up uid s t (Ok done) a h k = let r = one s (Settle uid dest Broken h.0) (Settling h.1) t a h.3 k in (r.0, (h.0, h.1, h.2, r.1, h.4), r.2)
  gives_up uid s t (Err why) a h k = let r = one s (Settle uid dest Broken h.0) (Settling (Err why)) t a h.2 k in (r.0, (h.0, h.1, r.1), r.2)

  stays_away : (uid : Text) (s t : S) (result : Result Visit LedgerFault) (a : T) → StaysAway connects hears sends closes step finds taken tells site dest address uid s result t → Follows s a →
      (b : T) × StaysAway connects hears sends closes shown looks took tells site dest address uid a result b × Follows t b
  stays_away uid s t (Ok (visit.Unreached error)) a h k = let r = gives_up uid s t (Ok tt) a h.1 k in (r.0, (h.0, r.1), r.2)
  stays_away uid s t (Ok visit.Idle) a h k = absurd h
  stays_away uid s t (Ok (visit.Ended ended)) a h k = absurd h
  stays_away uid s t (Ok (visit.Failed why)) a h k = absurd h
  stays_away uid s t (Err why) a h k = let r = gives_up uid s t (Err why) a h.2 k in (r.0, (h.0, h.1, r.1), r.2)

  behind : (uid : Text) (came : Result Ended SessionFault) (s mid t : S) (result : Result Visit LedgerFault) (a b : T) → Behind connects hears sends closes step finds taken tells site dest address uid came s mid result t → Follows s a → Follows mid b →
      (d : T) × Behind connects hears sends closes shown looks took tells site dest address uid came a b result d × Follows t d
  behind uid came s mid t result a b (inl h) k m = (b, inl (λ same. h.0 ((alike s mid a b k m).1 same), refl, h.2), subst (λ (x : S). Follows x b) h.1 m)
  behind uid came s mid t result a b (inr (inl h)) k m = let r = gives_up uid mid t (Ok tt) b h.1 m in (r.0, inr (inl ((alike s mid a b k m).0 h.0, r.1, h.2)), r.2)
  behind uid came s mid t result a b (inr (inr h)) k m = let r = gives_up uid mid t (Err h.0) b h.2 m in (r.0, inr (inr (h.0, (alike s mid a b k m).0 h.1, r.1, h.3)), r.2)

  delivers : (uid : Text) (s t : S) (result : Result Visit LedgerFault) (a : T) → Delivers connects hears sends closes step finds taken tells site dest address uid s result t → Follows s a →
      (b : T) × Delivers connects hears sends closes shown looks took tells site dest address uid a result b × Follows t b
  delivers uid s t result a h k =
      let first = delivers_as step shown Follows one hears sends closes tells 0 site dest h.3 h.0 h.1 s h.2 a h.5 k in
      let last = behind uid h.3 s h.2 t result a first.0 h.6 k first.2 in
      (last.0, (h.0, h.1, first.0, h.3, h.4, first.1, last.1), last.2)

  sends_due : (uid : Text) (s t : S) (result : Result Visit LedgerFault) (a : T) → SendsDue connects hears sends closes step finds taken tells site dest address uid s result t → Follows s a →
      (b : T) × SendsDue connects hears sends closes shown looks took tells site dest address uid a result b × Follows t b
  sends_due uid s t result a (inl h) k = let r = stays_away uid s t result a h k in (r.0, inl r.1, r.2)
  sends_due uid s t result a (inr h) k = let r = delivers uid s t result a h k in (r.0, inr r.1, r.2)

  finds_first : (s t : S) (found : Result (Option Text) LedgerFault) (a : T) → Finds finds tells dest s found t → Follows s a → (b : T) × Finds looks tells dest a found b × Follows t b
  finds_first s t found a h k = let r = look s dest h.0 found t a h.2 k in (r.0, (h.0, h.1, r.1), r.2)

  -- a visit at the one desk is a visit at the other
  pub visits_follow : (s t : S) (result : Result Visit LedgerFault) (a : T) → Visits connects hears sends closes step finds taken tells site dest address s result t → Follows s a →
      (b : T) × Visits connects hears sends closes shown looks took tells site dest address a result b × Follows t b
  visits_follow s t result a (inl h) k = let r = finds_first s t (Ok None) a h.0 k in (r.0, inl (r.1, h.1), r.2)
  visits_follow s t result a (inr (inl h)) k = let r = finds_first s t (Err h.0) a h.1 k in (r.0, inr (inl (h.0, r.1, h.2)), r.2)
  visits_follow s t result a (inr (inr h)) k =
      let first = finds_first s h.1 (Ok (Some h.0)) a h.2 k in
      let r = sends_due h.0 h.1 t result first.0 h.3 first.2 in
      (r.0, inr (inr (h.0, first.0, first.1, r.1)), r.2)

-- ---- the calls that were made, and what was noted

counted : (call : DeskCall) (answer : DeskAnswer) (count now : ℕ) (receipts kept : List Receipt) → PassStep call answer count receipts now kept → now ≡ cond (is_accepted answer) (count + 1) count
counted (Arrive caller item) (Arrival (Ok arrived)) count now receipts kept h = h.0
counted (Arrive caller item) (Arrival (Err why)) count now receipts kept h = h.0
counted (Next dest at) (Upcoming due) count now receipts kept h = h.0
counted (Due dest at) (First found) count now receipts kept h = h.0
counted (Settle uid dest outcome at) (Settling (Ok done)) count now receipts kept h = h.0
counted (Settle uid dest outcome at) (Settling (Err why)) count now receipts kept h = h.0
counted call answer count now receipts kept h = absurd h

one_more : (b : Bool) (begin count now before : ℕ) → now ≡ cond b (count + 1) count → count ≡ begin + before → now ≡ begin + cond b (before + 1) before
one_more true begin count now before e k = omega (arith, e, k)
one_more false begin count now before e k = omega (arith, e, k)

module _ {L K S : Type 0} (site_of : L → Part) (book : L → Book) (bodies : L → Bodies) (stands : L → Type 0) (failed : L → ℕ) (own : Part) (first : List Line)
    (connects : Text → Result K Error → Type 0) (hears : K → Heard → K → Type 0) (sends : K → List ℕ → Bool → K → Type 0) (closes : K → K → Type 0)
    (step : S → DeskCall → DeskAnswer → S → Type 0) (finds : S → Text → ℕ → Result (Option Text) LedgerFault → S → Type 0) (tells : ℕ → Type 0) (site : Part)
    (count_of : S → ℕ) (receipts_of : S → List Receipt) (passed_of : S → Bool) (dest address : Text) (came : Result Visit LedgerFault) (noted : Noted) where
  abbrev Keeps : Type 0
  Keeps = (s : S) (call : DeskCall) (answer : DeskAnswer) (t : S) → step s call answer t →
      PassStep call answer (count_of s) (receipts_of s) (count_of t) (receipts_of t) × (passed_of t ≡ (passes_over call answer || passed_of s)) × OnDesk site_of book bodies stands failed own first call answer

  abbrev Stays : Type 0
  Stays = (s : S) (to : Text) (now : ℕ) (found : Result (Option Text) LedgerFault) (t : S) → finds s to now found t →
      LeavesReceipts (count_of s) (receipts_of s) (count_of t) (receipts_of t) × (passed_of t ≡ passed_of s) × TellsUid site_of book bodies stands failed own first to now found

  -- these calls are what was counted and kept since then
  abbrev Has : S → S → List AnsweredCall → Type 0
  Has port s calls = (count_of s ≡ count_of port + accepted calls) × (passed_of s ≡ passes calls)

  records_one : Keeps → (port s : S) (call : DeskCall) (answer : DeskAnswer) (t : S) (calls : List AnsweredCall) → step s call answer t → Has port s calls →
      (more : List AnsweredCall) × Records site_of book bodies stands failed own first calls call answer more × Has port t more
  records_one keeps port s call answer t calls h k =
      let r = keeps s call answer t h in
      let count : count_of t ≡ count_of port + accepted ((call, answer) ∷ calls) =
      one_more (is_accepted answer) (count_of port) (count_of s) (count_of t) (accepted calls) (counted call answer (count_of s) (count_of t) (receipts_of s) (receipts_of t) r.0) k.0 in
      ((call, answer) ∷ calls, (refl, r.2), (count, r.1 ∙ ap (λ (b : Bool). passes_over call answer || b) k.1))

  looks_up : Stays → (port s : S) (to : Text) (now : ℕ) (found : Result (Option Text) LedgerFault) (t : S) (calls : List AnsweredCall) → finds s to now found t → Has port s calls →
      (more : List AnsweredCall) × LooksUp site_of book bodies stands failed own first calls to now found more × Has port t more
  looks_up stays port s to now found t calls h k = let r = stays s to now found t h in (calls, (refl, r.2), (r.0.0 ∙ k.0, r.1 ∙ k.1))

  -- what is noted of a visit is that of the calls that were made at it
  pub recorded : VisitsAt connects hears sends closes step finds tells site count_of receipts_of passed_of dest address came noted → Keeps → Stays →
      (calls : List AnsweredCall) × VisitsBy site_of book bodies stands failed own first connects hears sends closes tells site dest address came calls × IsNotedOf calls noted
  recorded v keeps stays =
      let begins : Has v.port v.port [] = (omega arith, v.fresh) in
      let r = visits_follow step (Records site_of book bodies stands failed own first) finds (LooksUp site_of book bodies stands failed own first) (Has v.port) count_of accepted
      (λ s call answer t a h k. records_one keeps v.port s call answer t a h k) (λ s to now found t a h k. looks_up stays v.port s to now found t a h k)
      (λ s t a b k m. let first = k.0 in let last = m.0 in (λ same. omega (arith, first, last, same), λ same. omega (arith, first, last, same)))
      connects hears sends closes tells site dest address v.port v.last came [] v.visits begins in
      let count = r.2.0 in
      let settled = v.settled in
      (r.0, r.1, (omega (arith, count, settled), v.passed ∙ r.2.1))

  -- a visit that came to no fault comes back with what was noted of it
  pub comes_well : (Told : LedgerFault → LedgerFault → Type 0) → VisitsAt connects hears sends closes step finds tells site count_of receipts_of passed_of dest address came noted → Keeps → Stays → (told : Visit) → came ≡ Ok told →
      ComesBack (VisitsBy site_of book bodies stands failed own first connects hears sends closes tells site dest address) Told (Ok (told, noted))
  comes_well Told v keeps stays told is =
      let r = recorded v keeps stays in
      (r.0, subst (λ (x : Result Visit LedgerFault). VisitsBy site_of book bodies stands failed own first connects hears sends closes tells site dest address x r.0) is r.1, r.2)

  -- one that came to a fault comes back with what that is told as
  pub comes_badly : (Told : LedgerFault → LedgerFault → Type 0) → VisitsAt connects hears sends closes step finds tells site count_of receipts_of passed_of dest address came noted → Keeps → Stays → (told why : LedgerFault) → came ≡ Err told →
      Told told why → ComesBack (VisitsBy site_of book bodies stands failed own first connects hears sends closes tells site dest address) Told (Err why)
  comes_badly Told v keeps stays told why is shown =
      let r = recorded v keeps stays in
      (r.0, told, subst (λ (x : Result Visit LedgerFault). VisitsBy site_of book bodies stands failed own first connects hears sends closes tells site dest address x r.0) is r.1, shown)
