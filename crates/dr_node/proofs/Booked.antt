-- What is done at one desk is done at what it shows, where that holds as it ends.
use Rattle.std.proofs.Common.{◌≡◌, ◌⊎◌, ℕ, Bool, true, false, List, [], ◌∷◌, ◌++◌, map as mapped, Option, None, Some, Result, Ok, Err, inl, inr, refl, sym, ap, subst, ◌∙◌}
use Rattle.std.specs.FinMap as map
use Rattle.dr_pdu.specs.Feeding.{Feeding}
use Rattle.dr_site.specs.Parts.{Part}
use Rattle.dr_ledger.specs.Bodies.{Bodies}
use Rattle.dr_ledger.specs.Books.{Book}
use Rattle.dr_ledger.specs.SiteRoutes.{site_routing}
use Rattle.dr_session.specs.declared.desk.LedgerDesk.{LedgerDesk}
use Rattle.dr_session.specs.declared.ends.Core.{Core}
use Rattle.dr_session.specs.declared.ends.Effect.{Effect}
use Rattle.dr_session.specs.declared.ends.Heard.{Heard}
use Rattle.dr_session.specs.declared.ends.Heard.TheVariants as heard
use Rattle.dr_session.specs.declared.ends.Input.{Input}
use Rattle.dr_session.specs.declared.ends.Input.TheVariants as input
use Rattle.dr_session.specs.declared.ends.LinkAction.{LinkAction}
use Rattle.dr_session.specs.declared.ends.Moment.{Moment}
use Rattle.dr_session.specs.declared.ends.Told.{Told}
use Rattle.dr_session.specs.Desks.{DeskCall, DeskAnswer}
use Rattle.dr_session.specs.Ends.{Terminal, MeetsBy, MeetsIn, Meets, HearsPiece, HearsBytes, HearsOf, is_gone, idle_in, state_in}
use Rattle.dr_session.specs.Ledgers.{Desk, RoutedStep, desk}
use Rattle.dr_session.specs.Plays.{At, Reacts, Stops, Plays, BreaksOff, PlaysBytes, BreaksBytes, at_moment, with_stage}
use Rattle.dr_session.specs.Reactions.{Reaction, turn as reaction}
use Rattle.dr_session.specs.Breaks.{Broke, BrokeBehind, LeavesOff}
use Rattle.dr_session.specs.Turns.{Turn, Turns, Ends, Asks, Fails}
use Rattle.dr_ulstate.specs.Phases.{state_of}
use Rattle.dr_node.specs.declared.event.LinkEvent.{LinkEvent}
use Rattle.dr_node.specs.declared.event.LinkEvent.TheVariants as event
use Rattle.dr_node.specs.declared.fault.NodeFault.{NodeFault}
use Rattle.dr_node.specs.declared.fault.NodeFault.TheVariants.{LinkKnown, LinkUnknown, NoHop, Memory}
use Rattle.dr_node.specs.declared.links.LinkSide.{LinkSide}
use Rattle.dr_node.specs.Desks.{LedgerStep}
use Rattle.dr_node.specs.Laws.{desk_of}
use Rattle.dr_node.specs.Sides.{Sides, EndDeed, Does, DoesIn, DoesAt, MeetsEvent, Pushes, moment_at}
use Rattle.dr_node.proofs.Keeping.{Acts}

module _ {S T : Type 0} (step : S → DeskCall → DeskAnswer → S → Type 0) (shown : T → DeskCall → DeskAnswer → T → Type 0) (shows : S → T) (Holds : S → Type 0)
    (back : (s : S) (call : DeskCall) (answer : DeskAnswer) (t : S) → step s call answer t → Holds t → Holds s)
    (one : (s : S) (call : DeskCall) (answer : DeskAnswer) (t : S) → step s call answer t → Holds t → shown (shows s) call answer (shows t)) where
  still : (s t : S) → t ≡ s → Holds t → Holds s
  still s t e h = subst Holds e h

  turns : (turn : Reaction) (s t : S) (x : Effect) → Turns step turn s x t → Holds t → Holds s × Turns shown turn (shows s) x (shows t)
  turns (Ends value) s t x h k = (still s t h.1 k, (h.0, ap shows h.1))
  turns (Asks call follow) s t x h k =
      let later = turns (follow h.0) h.1 t x h.3 k in
      (back s call h.0 h.1 h.2 later.0, (h.0, shows h.1, one s call h.0 h.1 h.2 later.0, later.1))
  turns Fails s t x h k = absurd h

  behind : (told : DeskAnswer) (turn : Reaction) (s t : S) → BrokeBehind step told turn s t → Holds t → Holds s × BrokeBehind shown told turn (shows s) (shows t)
  behind told (Ends value) s t h k = (still s t h.2 k, (h.0, h.1, ap shows h.2))
  behind told (Asks call follow) s t h k =
      let later = behind h.0 (follow h.0) h.1 t h.3 k in
      (back s call h.0 h.1 h.2 later.0, (h.0, shows h.1, one s call h.0 h.1 h.2 later.0, later.1))
  behind told Fails s t h k = (still s t h k, ap shows h)

  broke : (turn : Reaction) (s t : S) → Broke step turn s t → Holds t → Holds s × Broke shown turn (shows s) (shows t)
  broke (Ends value) s t h k = (still s t h.1 k, (h.0, ap shows h.1))
  broke (Asks call follow) s t (inl h) k = (still s t h.1 k, inl (h.0, ap shows h.1))
  broke (Asks call follow) s t (inr h) k =
      let later = behind h.0 (follow h.0) h.1 t h.3 k in
      (back s call h.0 h.1 h.2 later.0, inr (h.0, shows h.1, one s call h.0 h.1 h.2 later.0, later.1))
  broke Fails s t h k = (still s t h k, ap shows h)

  left_off : (at : Moment) (c : Core) (told : Told) (s t : S) → LeavesOff step at c told s t → Holds t → Holds s × LeavesOff shown at c told (shows s) (shows t)
  left_off at c told s t (inl h) k = (still s t h.1 k, inl (h.0, ap shows h.1))
  left_off at c told s t (inr h) k = let r = broke (reaction at c told) s t h k in (r.0, inr r.1)

  reacts : (c : Core) (i : At) (s t : S) (x : Effect) → Reacts step c i s x t → Holds t → Holds s × Reacts shown c i (shows s) x (shows t)
  reacts c i s t x h k = let r = turns _ s t x h.turns k in (r.0, record { told = h.told; stage = h.stage; tells = h.tells; turns = r.1 })

  stops : (c : Core) (i : At) (s t : S) → Stops step c i s t → Holds t → Holds s × Stops shown c i (shows s) (shows t)
  stops c i s t h k = elim h.by [
    | inl e ↦ (still s t e.1 k, record { by = inl (e.0, ap shows e.1) })
    | inr x ↦ (let r = left_off i.moment (with_stage x.1 c) x.0 s t x.3 k in (r.0, record { by = inr (x.0, x.1, x.2, r.1) }))
  ]

  plays : (c : Core) (is : List At) (s t : S) (acts : List LinkAction) (d : Core) → Plays step c is s acts d t → Holds t → Holds s × Plays shown c is (shows s) acts d (shows t)
  plays c [] s t acts d h k = (still s t h.2 k, (h.0, h.1, ap shows h.2))
  plays c (i ∷ is) s t acts d h k =
      let later = plays h.0.core is h.1 t h.2 d h.4 k in
      let first = reacts c i s h.1 h.0 h.3 later.0 in
      (first.0, (h.0, shows h.1, h.2, first.1, later.1, h.5))

  breaks : (written : List LinkAction) (c : Core) (is : List At) (s t : S) → BreaksOff step written c is s t → Holds t → Holds s × BreaksOff shown written c is (shows s) (shows t)
  breaks written c [] s t h k = (still s t h.1 k, (h.0, ap shows h.1))
  breaks written c (i ∷ is) s t (inl h) k = (still s t h.1 k, inl (h.0, ap shows h.1))
  breaks written c (i ∷ is) s t (inr (inl h)) k = let r = stops c i s t h k in (r.0, inr (inl r.1))
  breaks written c (i ∷ is) s t (inr (inr h)) k =
      let later = breaks (written ++ h.0.acts) h.0.core is h.1 t h.3 k in
      let first = reacts c i s h.1 h.0 h.2 later.0 in
      (first.0, inr (inr (h.0, shows h.1, first.1, later.1)))

  breaks_bytes : (at : Moment) (ear : Feeding) (c : Core) (piece : List ℕ) (s t : S) → BreaksBytes step at ear c piece s t → Holds t → BreaksBytes shown at ear c piece (shows s) (shows t)
  breaks_bytes at ear c piece s t (works, inl h) k = (works, inl (ap shows h))
  breaks_bytes at ear c piece s t (works, inr h) k = (works, inr (h.0, h.1, h.2, h.3, h.4, (breaks [] c _ s t h.5 k).1))

  meets_by : (b : Bool) (at : Moment) (i : Input) (c : Core) (old : Terminal) (s t : S) (result : Acts) (new : Terminal) → MeetsBy step b at i c old s result new t → Holds t →
      MeetsBy shown b at i c old (shows s) result new (shows t)
  meets_by true at i c old s t result new h k = (h.0, h.1, ap shows h.2)
  meets_by false at i c old s t (Ok acts) new h k = (h.0, (reacts c _ s t h.0 h.1 k).1, h.2, h.3)
  meets_by false at i c old s t (Err e) new h k = ((stops c _ s t h.0 k).1, h.1)

  meets_in : (o : Option Core) (at : Moment) (i : Input) (old : Terminal) (s t : S) (result : Acts) (new : Terminal) → MeetsIn step o at i old s result new t → Holds t →
      MeetsIn shown o at i old (shows s) result new (shows t)
  meets_in None at i old s t result new h k = (h.0, h.1, ap shows h.2)
  meets_in (Some c) at i old s t result new h k = meets_by (is_gone (state_of c.phase)) at i c old s t result new h k

  meets : (at : Moment) (i : Input) (old : Terminal) (s t : S) (result : Acts) (new : Terminal) → Meets step at i old s result new t → Holds t → Meets shown at i old (shows s) result new (shows t)
  meets at i old s t result new h k = meets_in old.core at i old s t result new h k

  hears_piece : (b : Bool) (at : Moment) (piece : List ℕ) (c : Core) (old : Terminal) (s t : S) (result : Acts) (new : Terminal) → HearsPiece step b at piece c old s result new t → Holds t →
      HearsPiece shown b at piece c old (shows s) result new (shows t)
  hears_piece true at piece c old s t result new h k = (h.0, h.1, ap shows h.2)
  hears_piece false at piece c old s t (Ok acts) new h k = (h.0, (h.1.0, h.1.1, (plays c _ s t h.0.acts h.0.core h.1.2 k).1), h.2, h.3)
  hears_piece false at piece c old s t (Err e) new h k = (breaks_bytes at old.ear c piece s t h.0 k, h.1)

  hears_bytes : (o : Option Core) (at : Moment) (piece : List ℕ) (old : Terminal) (s t : S) (result : Acts) (new : Terminal) → HearsBytes step o at piece old s result new t → Holds t →
      HearsBytes shown o at piece old (shows s) result new (shows t)
  hears_bytes None at piece old s t result new h k = (h.0, h.1, ap shows h.2)
  hears_bytes (Some c) at piece old s t result new h k = hears_piece (is_gone (state_of c.phase)) at piece c old s t result new h k

  hears : (what : Heard) (at : Moment) (old : Terminal) (s t : S) (result : Acts) (new : Terminal) → HearsOf step what at old s result new t → Holds t → HearsOf shown what at old (shows s) result new (shows t)
  hears (heard.Bytes piece) at old s t result new h k = hears_bytes old.core at piece old s t result new h k
  hears heard.End at old s t result new h k = meets at input.Ended old s t result new h k
  hears heard.Fault at old s t result new h k = meets at input.Ended old s t result new h k
  hears heard.Late at old s t result new h k = meets at input.Late old s t result new h k
  hears heard.Crowded at old s t result new h k = (ap shows h.0, h.1)
  hears heard.Idle at old s t result new h k = meets at (idle_in (state_in old.core)) old s t result new h k
  hears heard.Memory at old s t result new h k = (ap shows h.0, h.1)

  events : (what : LinkEvent) (at : Moment) (old : Terminal) (s t : S) (result : Acts) (new : Terminal) → MeetsEvent step what at old s result new t → Holds t → MeetsEvent shown what at old (shows s) result new (shows t)
  events (event.Heard h) at old s t result new met k = hears h at old s t result new met k
  events event.Abort at old s t result new met k = meets at input.AbortAsked old s t result new met k
  events event.Release at old s t result new met k = meets at input.ReleaseAsked old s t result new met k

  deeds : (does : EndDeed S) (also : EndDeed T) →
      ((at : Moment) (old : Terminal) (s t : S) (result : Acts) (new : Terminal) → does at old s result new t → Holds t → also at old (shows s) result new (shows t)) →
      (now link : ℕ) (known : Option LinkSide) (old new : Sides) (s t : S) (result : Result (List LinkAction) NodeFault) → DoesIn does now link known old s result new t → Holds t →
      DoesIn also now link known old (shows s) result new (shows t)
  deeds does also each now link None old new s t result h k = (h.0, h.1, ap shows h.2)
  deeds does also each now link (Some side) old new s t (Ok acts) h k = (h.0, each (moment_at link old now) side.end s t (Ok acts) h.0 h.1 k, h.2)
  deeds does also each now link (Some side) old new s t (Err Memory) h k = (h.0, h.1, each (moment_at link old now) side.end s t (Err h.1) h.0 h.2 k, h.3)
  deeds does also each now link (Some side) old new s t (Err LinkKnown) h k = absurd h
  deeds does also each now link (Some side) old new s t (Err LinkUnknown) h k = absurd h
  deeds does also each now link (Some side) old new s t (Err NoHop) h k = absurd h

  pub inputs_show : (what : LinkEvent) (now link : ℕ) (old new : Sides) (s t : S) (result : Result (List LinkAction) NodeFault) → Does (MeetsEvent step what) now link old s result new t → Holds t →
      Does (MeetsEvent shown what) now link old (shows s) result new (shows t)
  inputs_show what now link old new s t result h k = deeds (MeetsEvent step what) (MeetsEvent shown what) (events what) now link (map.get old link) old new s t result h k

  pub pushes_show : (now link : ℕ) (old new : Sides) (s t : S) (result : Result (List LinkAction) NodeFault) → Does (Pushes step) now link old s result new t → Holds t →
      Does (Pushes shown) now link old (shows s) result new (shows t)
  pushes_show now link old new s t result h k = deeds (Pushes step) (Pushes shown) (λ at. meets at input.PushAsked) now link (map.get old link) old new s t result h k

-- ---- a ledger and its book

module _ {L : Type 0} (site : L → Part) (book : L → Book) (bodies : L → Bodies) (armed : L → Bool) (trusts stands : L → Type 0) (failed : L → ℕ) (part : Part) where
  abbrev OfPart : LedgerDesk L → Type 0
  OfPart d = stands d.ledger × (site d.ledger ≡ part)

  back : (s : LedgerDesk L) (call : DeskCall) (answer : DeskAnswer) (t : LedgerDesk L) → LedgerStep site book bodies armed trusts stands failed s call answer t → OfPart t → OfPart s
  back s call answer t h k = (h.0 k.0, sym h.1 ∙ k.1)

  one : (s : LedgerDesk L) (call : DeskCall) (answer : DeskAnswer) (t : LedgerDesk L) → LedgerStep site book bodies armed trusts stands failed s call answer t → OfPart t →
      RoutedStep (site_routing part) (desk_of book armed s) call answer (desk_of book armed t)
  one s call answer t h k =
      let P : Part → Type 0 = λ p. RoutedStep (site_routing p) (desk_of book armed s) call answer (desk_of book armed t) in
      subst P (sym h.1 ∙ k.1) (h.2 k.0)

  pub input_booked : (what : LinkEvent) (now link : ℕ) (old new : Sides) (s t : LedgerDesk L) (result : Result (List LinkAction) NodeFault) →
      Does (MeetsEvent (LedgerStep site book bodies armed trusts stands failed) what) now link old s result new t → stands t.ledger × (site t.ledger ≡ part) →
      Does (MeetsEvent (RoutedStep (site_routing part)) what) now link old (desk_of book armed s) result new (desk_of book armed t)
  input_booked = inputs_show (LedgerStep site book bodies armed trusts stands failed) (RoutedStep (site_routing part)) (desk_of book armed) (λ d. stands d.ledger × (site d.ledger ≡ part)) back one

  pub push_booked : (now link : ℕ) (old new : Sides) (s t : LedgerDesk L) (result : Result (List LinkAction) NodeFault) →
      Does (Pushes (LedgerStep site book bodies armed trusts stands failed)) now link old s result new t → stands t.ledger × (site t.ledger ≡ part) →
      Does (Pushes (RoutedStep (site_routing part))) now link old (desk_of book armed s) result new (desk_of book armed t)
  push_booked = pushes_show (LedgerStep site book bodies armed trusts stands failed) (RoutedStep (site_routing part)) (desk_of book armed) (λ d. stands d.ledger × (site d.ledger ≡ part)) back one
