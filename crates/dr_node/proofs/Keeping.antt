-- Whatever each call of a desk keeps, all that is done at an end keeps.
use Rattle.std.proofs.Common.{◌≡◌, ◌⊎◌, ℕ, Bool, true, false, List, [], ◌∷◌, ◌++◌, map as mapped, Option, None, Some, Result, Ok, Err, inl, inr, refl, sym, ap, subst, ◌∙◌}
use Rattle.std.specs.declared.alloc.AllocError.{AllocError}
use Rattle.dr_pdu.specs.Feeding.{Feeding}
use Rattle.dr_session.specs.declared.ends.Core.{Core}
use Rattle.dr_session.specs.declared.ends.Effect.{Effect}
use Rattle.dr_session.specs.declared.ends.Heard.{Heard}
use Rattle.dr_session.specs.declared.ends.Heard.TheVariants as heard
use Rattle.dr_session.specs.declared.ends.Input.{Input}
use Rattle.dr_session.specs.declared.ends.Input.TheVariants as input
use Rattle.dr_session.specs.declared.ends.LinkAction.{LinkAction}
use Rattle.dr_session.specs.declared.ends.Moment.{Moment}
use Rattle.dr_session.specs.declared.ends.Told.{Told}
use Rattle.dr_session.specs.Desks.{DeskCall, DeskAnswer}
use Rattle.dr_session.specs.Ends.{Terminal, MeetsBy, MeetsIn, Meets, HearsPiece, HearsBytes, HearsOf, is_gone, idle_in, state_in}
use Rattle.dr_session.specs.Plays.{At, Reacts, Stops, Plays, BreaksOff, PlaysBytes, BreaksBytes, at_moment, with_stage}
use Rattle.dr_session.specs.Reactions.{Reaction, turn as reaction}
use Rattle.dr_session.specs.Breaks.{Broke, BrokeBehind, LeavesOff}
use Rattle.dr_session.specs.Turns.{Turn, Turns, Ends, Asks, Fails}
use Rattle.dr_ulstate.specs.Phases.{state_of}
use Rattle.dr_site.specs.Parts.{Part}
use Rattle.dr_ledger.specs.Bodies.{Bodies}
use Rattle.dr_ledger.specs.Books.{Book}
use Rattle.dr_session.specs.declared.desk.LedgerDesk.{LedgerDesk}
use Rattle.dr_node.specs.Desks.{LedgerStep}
use Rattle.dr_node.specs.declared.event.LinkEvent.{LinkEvent}
use Rattle.dr_node.specs.declared.event.LinkEvent.TheVariants as event
use Rattle.dr_node.specs.declared.fault.NodeFault.{NodeFault}
use Rattle.dr_node.specs.declared.fault.NodeFault.TheVariants.{LinkKnown, LinkUnknown, NoHop, Memory}
use Rattle.dr_node.specs.declared.links.LinkSide.{LinkSide}
use Rattle.dr_node.specs.Sides.{Sides, EndDeed, Does, DoesIn, DoesAt, MeetsEvent, Pushes, moment_at}
use Rattle.std.specs.FinMap as map

abbrev pub Acts : Type 0
Acts = Result (List LinkAction) AllocError

module _ {S : Type 0} (step : S → DeskCall → DeskAnswer → S → Type 0) (R : S → S → Type 0) (same : (s : S) → R s s) (more : (s m t : S) → R s m → R m t → R s t)
    (one : (s : S) (call : DeskCall) (answer : DeskAnswer) (t : S) → step s call answer t → R s t) where
  as_it_was : (s t : S) → t ≡ s → R s t
  as_it_was s t e = subst (R s) (sym e) (same s)

  pub turns : (turn : Reaction) (s t : S) (x : Effect) → Turns step turn s x t → R s t
  turns (Ends value) s t x h = as_it_was s t h.1
  turns (Asks call follow) s t x h = more s h.1 t (one s call h.0 h.1 h.2) (turns (follow h.0) h.1 t x h.3)
  turns Fails s t x h = absurd h

  behind : (told : DeskAnswer) (turn : Reaction) (s t : S) → BrokeBehind step told turn s t → R s t
  behind told (Ends value) s t h = as_it_was s t h.2
  behind told (Asks call follow) s t h = more s h.1 t (one s call h.0 h.1 h.2) (behind h.0 (follow h.0) h.1 t h.3)
  behind told Fails s t h = as_it_was s t h

  broke : (turn : Reaction) (s t : S) → Broke step turn s t → R s t
  broke (Ends value) s t h = as_it_was s t h.1
  broke (Asks call follow) s t (inl h) = as_it_was s t h.1
  broke (Asks call follow) s t (inr h) = more s h.1 t (one s call h.0 h.1 h.2) (behind h.0 (follow h.0) h.1 t h.3)
  broke Fails s t h = as_it_was s t h

  left_off : (at : Moment) (c : Core) (told : Told) (s t : S) → LeavesOff step at c told s t → R s t
  left_off at c told s t (inl h) = as_it_was s t h.1
  left_off at c told s t (inr h) = broke (reaction at c told) s t h

  reacts : (c : Core) (i : At) (s t : S) (x : Effect) → Reacts step c i s x t → R s t
  reacts c i s t x h = turns _ s t x h.turns

  stops : (c : Core) (i : At) (s t : S) → Stops step c i s t → R s t
  stops c i s t h = elim h.by [ inl e ↦ as_it_was s t e.1 | inr x ↦ left_off i.moment (with_stage x.1 c) x.0 s t x.3 ]

  plays : (c : Core) (is : List At) (s t : S) (acts : List LinkAction) (d : Core) → Plays step c is s acts d t → R s t
  plays c [] s t acts d h = as_it_was s t h.2
  plays c (i ∷ is) s t acts d h = more s h.1 t (reacts c i s h.1 h.0 h.3) (plays h.0.core is h.1 t h.2 d h.4)

  breaks : (written : List LinkAction) (c : Core) (is : List At) (s t : S) → BreaksOff step written c is s t → R s t
  breaks written c [] s t h = as_it_was s t h.1
  breaks written c (i ∷ is) s t (inl h) = as_it_was s t h.1
  breaks written c (i ∷ is) s t (inr (inl h)) = stops c i s t h
  breaks written c (i ∷ is) s t (inr (inr h)) = more s h.1 t (reacts c i s h.1 h.0 h.2) (breaks (written ++ h.0.acts) h.0.core is h.1 t h.3)

  plays_bytes : (at : Moment) (ear : Feeding) (c : Core) (piece : List ℕ) (s t : S) (new : Feeding) (x : Effect) → PlaysBytes step at ear c piece s new x t → R s t
  plays_bytes at ear c piece s t new x h = plays c _ s t x.acts x.core h.2

  breaks_bytes : (at : Moment) (ear : Feeding) (c : Core) (piece : List ℕ) (s t : S) → BreaksBytes step at ear c piece s t → R s t
  breaks_bytes at ear c piece s t (works, inl h) = as_it_was s t h
  breaks_bytes at ear c piece s t (works, inr h) = breaks [] c _ s t h.5

  meets_by : (b : Bool) (at : Moment) (i : Input) (c : Core) (old : Terminal) (s t : S) (result : Acts) (new : Terminal) → MeetsBy step b at i c old s result new t → R s t
  meets_by true at i c old s t result new h = as_it_was s t h.2
  meets_by false at i c old s t (Ok acts) new h = reacts c _ s t h.0 h.1
  meets_by false at i c old s t (Err e) new h = stops c _ s t h.0

  meets_in : (o : Option Core) (at : Moment) (i : Input) (old : Terminal) (s t : S) (result : Acts) (new : Terminal) → MeetsIn step o at i old s result new t → R s t
  meets_in None at i old s t result new h = as_it_was s t h.2
  meets_in (Some c) at i old s t result new h = meets_by (is_gone (state_of c.phase)) at i c old s t result new h

  pub meets : (at : Moment) (i : Input) (old : Terminal) (s t : S) (result : Acts) (new : Terminal) → Meets step at i old s result new t → R s t
  meets at i old s t result new h = meets_in old.core at i old s t result new h

  hears_piece : (b : Bool) (at : Moment) (piece : List ℕ) (c : Core) (old : Terminal) (s t : S) (result : Acts) (new : Terminal) → HearsPiece step b at piece c old s result new t → R s t
  hears_piece true at piece c old s t result new h = as_it_was s t h.2
  hears_piece false at piece c old s t (Ok acts) new h = plays_bytes at old.ear c piece s t new.ear h.0 h.1
  hears_piece false at piece c old s t (Err e) new h = breaks_bytes at old.ear c piece s t h.0

  hears_bytes : (o : Option Core) (at : Moment) (piece : List ℕ) (old : Terminal) (s t : S) (result : Acts) (new : Terminal) → HearsBytes step o at piece old s result new t → R s t
  hears_bytes None at piece old s t result new h = as_it_was s t h.2
  hears_bytes (Some c) at piece old s t result new h = hears_piece (is_gone (state_of c.phase)) at piece c old s t result new h

  pub hears : (what : Heard) (at : Moment) (old : Terminal) (s t : S) (result : Acts) (new : Terminal) → HearsOf step what at old s result new t → R s t
  hears (heard.Bytes piece) at old s t result new h = hears_bytes old.core at piece old s t result new h
  hears heard.End at old s t result new h = meets at input.Ended old s t result new h
  hears heard.Fault at old s t result new h = meets at input.Ended old s t result new h
  hears heard.Late at old s t result new h = meets at input.Late old s t result new h
  hears heard.Crowded at old s t result new h = as_it_was s t h.0
  hears heard.Idle at old s t result new h = meets at (idle_in (state_in old.core)) old s t result new h
  hears heard.Memory at old s t result new h = as_it_was s t h.0

  events : (what : LinkEvent) (at : Moment) (old : Terminal) (s t : S) (result : Acts) (new : Terminal) → MeetsEvent step what at old s result new t → R s t
  events (event.Heard h) at old s t result new met = hears h at old s t result new met
  events event.Abort at old s t result new met = meets at input.AbortAsked old s t result new met
  events event.Release at old s t result new met = meets at input.ReleaseAsked old s t result new met

  deeds : (does : EndDeed S) → ((at : Moment) (old : Terminal) (s t : S) (result : Acts) (new : Terminal) → does at old s result new t → R s t) →
      (now link : ℕ) (known : Option LinkSide) (old new : Sides) (s t : S) (result : Result (List LinkAction) NodeFault) → DoesIn does now link known old s result new t → R s t
  deeds does each now link None old new s t result h = as_it_was s t h.2
  deeds does each now link (Some side) old new s t (Ok acts) h = each (moment_at link old now) side.end s t (Ok acts) h.0 h.1
  deeds does each now link (Some side) old new s t (Err Memory) h = each (moment_at link old now) side.end s t (Err h.1) h.0 h.2
  deeds does each now link (Some side) old new s t (Err LinkKnown) h = absurd h
  deeds does each now link (Some side) old new s t (Err LinkUnknown) h = absurd h
  deeds does each now link (Some side) old new s t (Err NoHop) h = absurd h

  pub inputs_keep : (what : LinkEvent) (now link : ℕ) (old new : Sides) (s t : S) (result : Result (List LinkAction) NodeFault) → Does (MeetsEvent step what) now link old s result new t → R s t
  inputs_keep what now link old new s t result h = deeds (MeetsEvent step what) (events what) now link (map.get old link) old new s t result h

  pub pushes_keep : (now link : ℕ) (old new : Sides) (s t : S) (result : Result (List LinkAction) NodeFault) → Does (Pushes step) now link old s result new t → R s t
  pushes_keep now link old new s t result h = deeds (Pushes step) (λ at. meets at input.PushAsked) now link (map.get old link) old new s t result h

-- ---- a ledger stays of its site, and its premise goes back to the start

module _ {L : Type 0} (site : L → Part) (book : L → Book) (bodies : L → Bodies) (armed : L → Bool) (trusts stands : L → Type 0) (failed : L → ℕ) where
  pub input_stays : (what : LinkEvent) (now link : ℕ) (old new : Sides) (s t : LedgerDesk L) (result : Result (List LinkAction) NodeFault) →
      Does (MeetsEvent (LedgerStep site book bodies armed trusts stands failed) what) now link old s result new t → site t.ledger ≡ site s.ledger
  input_stays = inputs_keep (LedgerStep site book bodies armed trusts stands failed) (λ s t. site t.ledger ≡ site s.ledger) (λ s. refl) (λ s m t a b. b ∙ a) (λ s call answer t h. h.1)

  pub push_stays : (now link : ℕ) (old new : Sides) (s t : LedgerDesk L) (result : Result (List LinkAction) NodeFault) →
      Does (Pushes (LedgerStep site book bodies armed trusts stands failed)) now link old s result new t → site t.ledger ≡ site s.ledger
  push_stays = pushes_keep (LedgerStep site book bodies armed trusts stands failed) (λ s t. site t.ledger ≡ site s.ledger) (λ s. refl) (λ s m t a b. b ∙ a) (λ s call answer t h. h.1)

  pub input_stood : (what : LinkEvent) (now link : ℕ) (old new : Sides) (s t : LedgerDesk L) (result : Result (List LinkAction) NodeFault) →
      Does (MeetsEvent (LedgerStep site book bodies armed trusts stands failed) what) now link old s result new t → stands t.ledger → stands s.ledger
  input_stood = inputs_keep (LedgerStep site book bodies armed trusts stands failed) (λ s t. stands t.ledger → stands s.ledger) (λ s h. h) (λ s m t a b h. a (b h)) (λ s call answer t h. h.0)

  pub push_stood : (now link : ℕ) (old new : Sides) (s t : LedgerDesk L) (result : Result (List LinkAction) NodeFault) →
      Does (Pushes (LedgerStep site book bodies armed trusts stands failed)) now link old s result new t → stands t.ledger → stands s.ledger
  push_stood = pushes_keep (LedgerStep site book bodies armed trusts stands failed) (λ s t. stands t.ledger → stands s.ledger) (λ s h. h) (λ s m t a b h. a (b h)) (λ s call answer t h. h.0)
