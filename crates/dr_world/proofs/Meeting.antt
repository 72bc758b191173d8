-- What an end of a node does is done at that end in the world of bytes.
use Rattle.std.proofs.Common.{◌≡◌, ℕ, ◌+◌, Bool, true, false, List, [], ◌∷◌, Option, None, Some, Ok, refl, sym, ap, subst, ◌∙◌, inl, inr, ◌⊎◌}
use Rattle.std.specs.Prelude.{◌&&◌, ◌||◌, is_some, length}
use Rattle.std.specs.Option.{option_map_or}
use Rattle.std.specs.FinMap as map
use Rattle.dr_base.specs.Texts.{Text}
use Rattle.dr_plan_model.specs.Networks.{Network}
use Rattle.dr_plan_sound.specs.declared.certificate.Certificate.{Certificate}
use Rattle.dr_site.specs.Sites.{IsCertified}
use Rattle.dr_ulstate.specs.declared.table.State.{State}
use Rattle.dr_ulstate.specs.declared.table.State.TheVariants.{Sta1, Sta2, Sta3, Sta4, Sta5, Sta6, Sta7, Sta8, Sta9, Sta10, Sta11, Sta12, Sta13}
use Rattle.dr_ulstate.specs.declared.table.Event.{Event as UpperEvent}
use Rattle.dr_ulstate.specs.declared.table.Event.TheVariants.{AbortRequest, ReleaseRequest}
use Rattle.dr_ulstate.specs.Table.{action_of}
use Rattle.dr_ulstate.specs.Standing.{Standing, has_expired, runs_artim}
use Rattle.dr_ulstate.specs.Phases.{standing_of, state_of}
use Rattle.dr_pdu.specs.Feeding.{Feeding}
use Rattle.dr_ledger.specs.SiteRoutes.{site_routing}
use Rattle.dr_session.specs.declared.ends.Core.{Core}
use Rattle.dr_session.specs.declared.ends.Effect.{Effect}
use Rattle.dr_session.specs.declared.ends.Input.{Input}
use Rattle.dr_session.specs.declared.ends.Input.TheVariants.{Late, AbortAsked, ReleaseAsked}
use Rattle.dr_session.specs.declared.ends.LinkAction.{LinkAction}
use Rattle.dr_session.specs.declared.ends.Moment.{Moment}
use Rattle.dr_session.specs.Desks.{DeskCall, DeskAnswer}
use Rattle.dr_session.specs.Ends.{Terminal as End, MeetsBy, Meets, HearsPiece, HearsBytes, is_gone}
use Rattle.dr_session.specs.Ledgers.{Desk, RoutedStep}
use Rattle.dr_session.specs.Plays.{At, Reacts, Plays, PlaysBytes, at_moment}
use Rattle.dr_session.specs.Reactions.{Reaction, effect, is_idle, is_impatient}
use Rattle.dr_session.specs.Turns.{Turns, Ends, Asks, Fails}
use Rattle.dr_node.specs.declared.links.LinkSide.{LinkSide}
use Rattle.dr_node.specs.Sides.{moment_at, with_end}
use Rattle.dr_world_tie.specs.Desks.{LedgerStep}
use Rattle.dr_world_tie.specs.Channels.{LiveTerminal}
use Rattle.dr_world_tie.specs.ByteWorlds.{ByteWorld, IsMoment, has_cell, acts_late}
use Rattle.dr_world_tie.proofs.Sites.{site_steps}
use Rattle.dr_world.specs.Shows.{Contents, Seat, ShowsBytes, IsSeated, side_of}
use Rattle.dr_world.proofs.Counted.{others_are_counted}
use Rattle.dr_world.proofs.AtNodes.{desk_there}
use Rattle.dr_world.proofs.Noted.{WritesIf, abort_writes, release_writes, late_writes}

-- ---- one port's calls as another's

module _ {S : Type 0} (step shown : S → DeskCall → DeskAnswer → S → Type 0) (one : (s : S) (call : DeskCall) (answer : DeskAnswer) (t : S) → step s call answer t → shown s call answer t) where
  turns_as : (turn : Reaction) (s t : S) (x : Effect) → Turns step turn s x t → Turns shown turn s x t
  turns_as (Ends value) s t x h = h
  turns_as (Asks call follow) s t x h = (h.0, h.1, one s call h.0 h.1 h.2, turns_as (follow h.0) h.1 t x h.3)
  turns_as Fails s t x h = absurd h

  reacts_as : (c : Core) (i : At) (s t : S) (x : Effect) → Reacts step c i s x t → Reacts shown c i s x t
  reacts_as c i s t x h = record { told = h.told; stage = h.stage; tells = h.tells; turns = turns_as _ s t x h.turns }

  plays_as : (c : Core) (is : List At) (s t : S) (acts : List LinkAction) (d : Core) → Plays step c is s acts d t → Plays shown c is s acts d t
  plays_as c [] s t acts d h = h
  plays_as c (i ∷ is) s t acts d h = (h.0, h.1, h.2, reacts_as c i s h.1 h.0 h.3, plays_as h.0.core is h.1 t h.2 d h.4, h.5)

  bytes_as : (at : Moment) (ear : Feeding) (c : Core) (piece : List ℕ) (s : S) (new : Feeding) (x : Effect) (t : S) → PlaysBytes step at ear c piece s new x t → PlaysBytes shown at ear c piece s new x t
  bytes_as at ear c piece s new x t h = (h.0, h.1, plays_as c _ s t x.acts x.core h.2)

-- ---- one end, by itself

gone_is : (q : State) → is_gone q ≡ true → q ≡ Sta1
gone_is Sta1 h = refl
gone_is Sta2 h = (let f : ⊥ = cc in absurd f)
gone_is Sta3 h = (let f : ⊥ = cc in absurd f)
gone_is Sta4 h = (let f : ⊥ = cc in absurd f)
gone_is Sta5 h = (let f : ⊥ = cc in absurd f)
gone_is Sta6 h = (let f : ⊥ = cc in absurd f)
gone_is Sta7 h = (let f : ⊥ = cc in absurd f)
gone_is Sta8 h = (let f : ⊥ = cc in absurd f)
gone_is Sta9 h = (let f : ⊥ = cc in absurd f)
gone_is Sta10 h = (let f : ⊥ = cc in absurd f)
gone_is Sta11 h = (let f : ⊥ = cc in absurd f)
gone_is Sta12 h = (let f : ⊥ = cc in absurd f)
gone_is Sta13 h = (let f : ⊥ = cc in absurd f)

-- an end does as its reaction says, or is over and does nothing
abbrev pub Happened : {S : Type 0} → (S → DeskCall → DeskAnswer → S → Type 0) → Core → Moment → Input → S → Effect → S → Type 0
Happened step c at i s x t = Reacts step c (at_moment at i) s x t ⊎ ((state_of c.phase ≡ Sta1) × (x ≡ effect [] c) × (t ≡ s))

abbrev after : Feeding → Core → End
after ear c = record { ear = ear; core = Some c }

module _ {S : Type 0} (step : S → DeskCall → DeskAnswer → S → Type 0) (at : Moment) (c : Core) (ear : Feeding) (s : S) (acts : List LinkAction) (end : End) (t : S) where
  met_by : (i : Input) (b : Bool) → is_gone (state_of c.phase) ≡ b → MeetsBy step b at i c (after ear c) s (Ok acts) end t → (x : Effect) × Happened step c at i s x t × (acts ≡ x.acts) × (end ≡ after ear x.core)
  met_by i true gone (none, same, still) = (effect [] c, inr (gone_is (state_of c.phase) gone, refl, still), (let e : acts ≡ [] = cc in e), same)
  met_by i false on (x, r, a, e) = (x, inl r, a, e)

  pub met : (i : Input) → Meets step at i (after ear c) s (Ok acts) end t → (x : Effect) × Happened step c at i s x t × (acts ≡ x.acts) × (end ≡ after ear x.core)
  met i h = met_by i (is_gone (state_of c.phase)) refl h

  heard_by : (piece : List ℕ) (b : Bool) → b ≡ false → HearsPiece step b at piece c (after ear c) s (Ok acts) end t → (x : Effect) × PlaysBytes step at ear c piece s end.ear x t × (acts ≡ x.acts) × (end ≡ after end.ear x.core)
  heard_by piece true on h = (let f : ⊥ = cc in absurd f)
  heard_by piece false on (x, r, a, e) = (x, r, a, ap (λ (o : Option Core). (let z : End = record { ear = end.ear; core = o } in z)) e)

  pub heard : (piece : List ℕ) → is_gone (state_of c.phase) ≡ false → HearsBytes step (Some c) at piece (after ear c) s (Ok acts) end t → (x : Effect) × PlaysBytes step at ear c piece s end.ear x t × (acts ≡ x.acts) × (end ≡ after end.ear x.core)
  heard piece on h = heard_by piece (is_gone (state_of c.phase)) on h

-- ---- what is noted

no_cell : (e : UpperEvent) (c : Core) → is_some (action_of e Sta1) ≡ false → state_of c.phase ≡ Sta1 → has_cell e c ≡ false
no_cell e c none gone = ap (λ (q : State). is_some (action_of e q)) gone ∙ none

never : (b : Bool) → (b && false) ≡ false
never true = refl
never false = refl

not_expired : (o : Option Standing) (now : ℕ) → option_map_or (λ (a : Standing). a.state) o Sta1 ≡ Sta1 → option_map_or (λ (a : Standing). has_expired a now) o false ≡ false
not_expired None now h = refl
not_expired (Some a) now h = ap (λ (q : State). runs_artim q && Rattle.std.specs.Prelude.nat_le (a.since + 30000) now) h

module _ {S : Type 0} (step : S → DeskCall → DeskAnswer → S → Type 0) (at : Moment) (c : Core) (s t : S) (x : Effect) where
  rested : (b : Bool) → b ≡ false → (x ≡ effect [] c) × (t ≡ s) → WritesIf step at c t x b s
  rested b e h = (let P : Bool → Type 0 = λ v. WritesIf step at c t x v s in subst P (sym e) h)

  pub abort_noted : Happened step c at AbortAsked s x t → WritesIf step at c t x (has_cell AbortRequest c) s
  abort_noted (inl r) = abort_writes step at c t x s r
  abort_noted (inr (gone, same, still)) = rested (has_cell AbortRequest c) (no_cell AbortRequest c refl gone) (same, still)

  pub release_noted : Happened step c at ReleaseAsked s x t → WritesIf step at c t x (is_idle c && has_cell ReleaseRequest c) s
  release_noted (inl r) = release_writes step at c t x s r
  release_noted (inr (gone, same, still)) = rested (is_idle c && has_cell ReleaseRequest c) (ap (λ (b : Bool). is_idle c && b) (no_cell ReleaseRequest c refl gone) ∙ never (is_idle c)) (same, still)

  pub late_noted : Happened step c at Late s x t → WritesIf step at c t x (acts_late c at.now) s
  late_noted (inl r) = late_writes step at c t x s r
  late_noted (inr (gone, same, still)) =
      rested (acts_late c at.now) (ap (λ (b : Bool). b || (is_impatient c at.now && has_cell AbortRequest c)) (not_expired (standing_of c.phase) at.now gone)
      ∙ (ap (λ (b : Bool). is_impatient c at.now && b) (no_cell AbortRequest c refl gone) ∙ never (is_impatient c at.now))) (same, still)

-- ---- an end of a node

module _ (plan : Network) (certificate : Certificate) (certified : IsCertified plan certificate) (c : Contents) (b : ByteWorld) (seated : IsSeated plan certificate c.seats) (s : ShowsBytes c b) (number : ℕ) (name : Text) (seat : Seat)
    (is : c.seats name ≡ Some seat) where
  pub is_moment : IsMoment b number name (moment_at number seat.sides c.now)
  is_moment = (let o = others_are_counted c b s number name seat is in (sym s.time, (o.0, o.1, o.2)))

  to_plan : (d : Desk) (call : DeskCall) (answer : DeskAnswer) (t : Desk) → RoutedStep (site_routing seat.site) d call answer t → LedgerStep plan name d call answer t
  to_plan d call answer t h =
      let e = seated.each name seat is in
      let P : Text → Type 0 = λ n. LedgerStep plan n d call answer t in
      subst P e.0 (site_steps plan certificate seat.site certified e.1 d t call answer h)

  at_desk : b.desks name ≡ seat.desk
  at_desk = desk_there c b s name seat is

  module _ (accepted : Bool) (end : LiveTerminal) (own : LinkSide) (has : map.get seat.sides number ≡ Some own) (had : map.get seat.sides number ≡ Some (side_of accepted end)) (acts : List LinkAction) (new : End) (t : Desk) where
    own_is : own ≡ side_of accepted end
    own_is = (let e : Some own ≡ Some (side_of accepted end) = sym has ∙ had in cc)

    happened_as : (x : Effect) (i : Input) → Happened (RoutedStep (site_routing seat.site)) end.core (moment_at number seat.sides c.now) i seat.desk x t → Happened (LedgerStep plan name) end.core (moment_at number seat.sides c.now) i (b.desks name) x t
    happened_as x i h = (let P : Desk → Type 0 = λ d. Happened (LedgerStep plan name) end.core (moment_at number seat.sides c.now) i d x t in subst P (sym at_desk) (by_case h))
      where
        by_case : Happened (RoutedStep (site_routing seat.site)) end.core (moment_at number seat.sides c.now) i seat.desk x t → Happened (LedgerStep plan name) end.core (moment_at number seat.sides c.now) i seat.desk x t
        by_case (inl r) = inl (reacts_as (RoutedStep (site_routing seat.site)) (LedgerStep plan name) to_plan end.core _ seat.desk t x r)
        by_case (inr o) = inr o

    pub happens : (i : Input) → Meets (RoutedStep (site_routing seat.site)) (moment_at number seat.sides c.now) i own.end seat.desk (Ok acts) new t
        → (x : Effect) × Happened (LedgerStep plan name) end.core (moment_at number seat.sides c.now) i (b.desks name) x t × (acts ≡ x.acts) × (with_end own new ≡ side_of accepted (record { core = x.core; ear = end.ear }))
    happens i h =
        let P : LinkSide → Type 0 = λ o. Meets (RoutedStep (site_routing seat.site)) (moment_at number seat.sides c.now) i o.end seat.desk (Ok acts) new t in
        let m = met (RoutedStep (site_routing seat.site)) (moment_at number seat.sides c.now) end.core end.ear seat.desk acts new t i (subst P own_is h) in
        (m.0, happened_as m.0 i m.1, m.2, ap (λ (o : LinkSide). with_end o new) own_is ∙ ap (λ (z : End). with_end (side_of accepted end) z) m.3)

    pub hears : (piece : List ℕ) → is_gone (state_of end.core.phase) ≡ false → HearsBytes (RoutedStep (site_routing seat.site)) own.end.core (moment_at number seat.sides c.now) piece own.end seat.desk (Ok acts) new t
        → (x : Effect) × PlaysBytes (LedgerStep plan name) (moment_at number seat.sides c.now) end.ear end.core piece (b.desks name) new.ear x t × (acts ≡ x.acts) × (with_end own new ≡ side_of accepted (record { core = x.core; ear = new.ear }))
    hears piece on h =
        let P : LinkSide → Type 0 = λ o. HearsBytes (RoutedStep (site_routing seat.site)) o.end.core (moment_at number seat.sides c.now) piece o.end seat.desk (Ok acts) new t in
        let m = heard (RoutedStep (site_routing seat.site)) (moment_at number seat.sides c.now) end.core end.ear seat.desk acts new t piece on (subst P own_is h) in
        let planned : PlaysBytes (LedgerStep plan name) (moment_at number seat.sides c.now) end.ear end.core piece seat.desk new.ear m.0 t =
        bytes_as (RoutedStep (site_routing seat.site)) (LedgerStep plan name) to_plan (moment_at number seat.sides c.now) end.ear end.core piece seat.desk new.ear m.0 t m.1 in
        let Q : Desk → Type 0 = λ d. PlaysBytes (LedgerStep plan name) (moment_at number seat.sides c.now) end.ear end.core piece d new.ear m.0 t in
        (m.0, subst Q (sym at_desk) planned, m.2, ap (λ (o : LinkSide). with_end o new) own_is ∙ ap (λ (z : End). with_end (side_of accepted end) z) m.3)
