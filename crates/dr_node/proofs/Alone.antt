-- What a call leaves as it was.
use Rattle.std.proofs.Common.{◌≡◌, ◌≢◌, ℕ, Bool, true, false, cond, List, [], ◌∷◌, Option, None, Some, Result, Ok, Err, refl, sym, ap, subst, ◌∙◌}
use Rattle.std.specs.Ordering.{nat_cmp, eq_by_cmp}
use Rattle.std.specs.Cmp.{nat_cmp_total, eq_by_cmp_equiv}
use Rattle.std.specs.declared.alloc.AllocError.{AllocError}
use Rattle.std.specs.FinMap as map
use Rattle.std.proofs.lemmas.Map.Views.{tells_apart}
use Rattle.dr_ulstate.specs.Phases.{state_of}
use Rattle.dr_site.specs.Parts.{Part}
use Rattle.dr_session.specs.declared.ends.Core.{Core}
use Rattle.dr_session.specs.declared.ends.Heard.{Heard}
use Rattle.dr_session.specs.declared.ends.Heard.TheVariants as heard
use Rattle.dr_session.specs.declared.ends.Input.{Input}
use Rattle.dr_session.specs.declared.ends.Input.TheVariants as input
use Rattle.dr_session.specs.declared.ends.LinkAction.{LinkAction}
use Rattle.dr_session.specs.declared.ends.Moment.{Moment}
use Rattle.dr_session.specs.Desks.{DeskCall, DeskAnswer}
use Rattle.dr_session.specs.Ends.{Terminal, MeetsBy, MeetsIn, HearsPiece, HearsBytes, LosesBy, LosesIn, CrowdsBy, CrowdsIn, IsEndOver, is_gone, idle_in, state_in}
use Rattle.dr_node.specs.declared.event.LinkEvent.{LinkEvent}
use Rattle.dr_node.specs.declared.event.LinkEvent.TheVariants as event
use Rattle.dr_node.specs.declared.fault.NodeFault.{NodeFault}
use Rattle.dr_node.specs.declared.fault.NodeFault.TheVariants.{LinkKnown, LinkUnknown, NoHop, Memory}
use Rattle.dr_node.specs.declared.links.LinkSide.{LinkSide}
use Rattle.dr_node.specs.Laws.{IsAcceptedWhereFree, KnownIsRefused, OnlyAt, OverDoesNothing, UnknownIsRefused}
use Rattle.dr_node.specs.Sides.{Sides, EndDeed, Does, DoesIn, DoesAt, AcceptsIn, MeetsEvent, accepts_at, moment_at, with_end}
use Rattle.dr_node.proofs.Keeping.{Acts}

-- ---- other links

elsewhere : (b : Bool) (x o : Option LinkSide) → (b ≡ true → ⊥) → cond b x o ≡ o
elsewhere true x o apart = absurd (apart refl)
elsewhere false x o apart = refl

pub put_elsewhere : (old : Sides) (link : ℕ) (side : LinkSide) → OnlyAt link old (map.insert old link side)
put_elsewhere old link side other apart =
    map.get-insert nat_cmp_total old link side other ∙ elsewhere (eq_by_cmp nat_cmp other link) (Some side) (map.get old other) (λ e. apart (tells_apart map.nat_cmp-IsAntisymmetric other link e))

pub taken_elsewhere : (old : Sides) (link : ℕ) → OnlyAt link old (map.remove old link)
taken_elsewhere old link other apart =
    map.get-remove nat_cmp_total old link other ∙ elsewhere (eq_by_cmp nat_cmp other link) None (map.get old other) (λ e. apart (tells_apart map.nat_cmp-IsAntisymmetric other link e))

pub put_here : (old : Sides) (link : ℕ) (side : LinkSide) → map.get (map.insert old link side) link ≡ Some side
put_here old link side = map.get-insert nat_cmp_total old link side link ∙ ap (λ b. cond b (Some side) (map.get old link)) ((eq_by_cmp_equiv nat_cmp_total).refl link)

pub only_there : {S : Type 0} (does : EndDeed S) (now link : ℕ) (known : Option LinkSide) (old new : Sides) (s t : S) (result : Result (List LinkAction) NodeFault) → DoesIn does now link known old s result new t → OnlyAt link old new
only_there does now link None old new s t result h = let P : Sides → Type 0 = OnlyAt link old in subst P (sym h.1) (λ other apart. refl)
only_there does now link (Some side) old new s t (Ok acts) h = let P : Sides → Type 0 = OnlyAt link old in subst P (sym h.2) (put_elsewhere old link (with_end side h.0))
only_there does now link (Some side) old new s t (Err Memory) h = let P : Sides → Type 0 = OnlyAt link old in subst P (sym h.3) (taken_elsewhere old link)
only_there does now link (Some side) old new s t (Err LinkKnown) h = absurd h
only_there does now link (Some side) old new s t (Err LinkUnknown) h = absurd h
only_there does now link (Some side) old new s t (Err NoHop) h = absurd h

-- ---- acceptances

pub free : IsAcceptedWhereFree
free site link now old none =
    let new = map.insert old link (accepts_at site now) in
    let P : Option LinkSide → Type 0 = λ o. AcceptsIn o site link now old (Ok tt) new in
    (new, subst P (sym none) refl, put_here old link (accepts_at site now), put_elsewhere old link (accepts_at site now))

refused : (site : Part) (link now : ℕ) (old new : Sides) (side : LinkSide) (result : Result (Unit {0}) NodeFault) → AcceptsIn (Some side) site link now old result new → (result ≡ Err LinkKnown) × (new ≡ old)
refused site link now old new side (Ok done) h = absurd h
refused site link now old new side (Err LinkKnown) h = (refl, h)
refused site link now old new side (Err LinkUnknown) h = absurd h
refused site link now old new side (Err NoHop) h = absurd h
refused site link now old new side (Err Memory) h = absurd h

pub known : KnownIsRefused
known site link now old new side result there h =
    let P : Option LinkSide → Type 0 = λ o. AcceptsIn o site link now old result new in
    refused site link now old new side result (subst P there h)

-- ---- links that are unknown or over

module _ {S : Type 0} (step : S → DeskCall → DeskAnswer → S → Type 0) where
  pub unknown : UnknownIsRefused step
  unknown what now link old s none =
      let P : Option LinkSide → Type 0 = λ o. DoesIn (MeetsEvent step what) now link o old s (Err LinkUnknown) old s in
      subst P (sym none) (refl, refl, refl)

  abbrev Rests : Acts → Terminal → Terminal → S → S → Type 0
  Rests result old new s t = (result ≡ Ok []) × (new ≡ old) × (t ≡ s)

  meets_over : (o : Option Core) (at : Moment) (i : Input) (old new : Terminal) (s t : S) (result : Acts) → IsEndOver o → MeetsIn step o at i old s result new t → (result ≡ Ok []) × (new ≡ old) × (t ≡ s)
  meets_over None at i old new s t result over h = h
  meets_over (Some c) at i old new s t result over h = let P : Bool → Type 0 = λ b. MeetsBy step b at i c old s result new t in subst P over h

  hears_over : (o : Option Core) (at : Moment) (piece : List ℕ) (old new : Terminal) (s t : S) (result : Acts) → IsEndOver o → HearsBytes step o at piece old s result new t → (result ≡ Ok []) × (new ≡ old) × (t ≡ s)
  hears_over None at piece old new s t result over h = h
  hears_over (Some c) at piece old new s t result over h = let P : Bool → Type 0 = λ b. HearsPiece step b at piece c old s result new t in subst P over h

  loses_over : (o : Option Core) (old new : Terminal) (result : Acts) → IsEndOver o → LosesIn o old result new → (result ≡ Ok []) × (new ≡ old)
  loses_over None old new result over h = h
  loses_over (Some c) old new result over h = let P : Bool → Type 0 = λ b. LosesBy b old result new in subst P over h

  crowds_over : (o : Option Core) (old new : Terminal) (result : Acts) → IsEndOver o → CrowdsIn o old result new → (result ≡ Ok []) × (new ≡ old)
  crowds_over None old new result over h = h
  crowds_over (Some c) old new result over h = let P : Bool → Type 0 = λ b. CrowdsBy b c old result new in subst P over h

  event_over : (what : LinkEvent) (at : Moment) (old new : Terminal) (s t : S) (result : Acts) → IsEndOver old.core → MeetsEvent step what at old s result new t →
      (result ≡ Ok []) × (new ≡ old) × (t ≡ s)
  event_over (event.Heard (heard.Bytes piece)) at old new s t result over h = hears_over old.core at piece old new s t result over h
  event_over (event.Heard heard.End) at old new s t result over h = meets_over old.core at input.Ended old new s t result over h
  event_over (event.Heard heard.Fault) at old new s t result over h = meets_over old.core at input.Ended old new s t result over h
  event_over (event.Heard heard.Late) at old new s t result over h = meets_over old.core at input.Late old new s t result over h
  event_over (event.Heard heard.Crowded) at old new s t result over h = let still = crowds_over old.core old new result over h.1 in (still.0, still.1, h.0)
  event_over (event.Heard heard.Idle) at old new s t result over h = meets_over old.core at (idle_in (state_in old.core)) old new s t result over h
  event_over (event.Heard heard.Memory) at old new s t result over h = let still = loses_over old.core old new result over h.1 in (still.0, still.1, h.0)
  event_over event.Abort at old new s t result over h = meets_over old.core at input.AbortAsked old new s t result over h
  event_over event.Release at old new s t result over h = meets_over old.core at input.ReleaseAsked old new s t result over h

  acts_of : Acts → List LinkAction
  acts_of (Ok acts) = acts
  acts_of (Err e) = []

  over_at : (what : LinkEvent) (now link : ℕ) (side : LinkSide) (old new : Sides) (s t : S) (result : Result (List LinkAction) NodeFault) → IsEndOver side.end.core →
      DoesAt (MeetsEvent step what) now link side old s result new t → (result ≡ Ok []) × (t ≡ s) × (map.get new link ≡ Some side)
  unfolding acts_of
  over_at what now link side old new s t (Ok acts) over h =
      let rests = event_over what (moment_at link old now) side.end h.0 s t (Ok acts) over h.1 in
      let P : Sides → Type 0 = λ m. map.get m link ≡ Some side in
      (ap (λ (l : List LinkAction). Ok l) (ap acts_of rests.0), rests.2, subst P (sym h.2) (put_here old link (with_end side h.0) ∙ ap (λ e. Some (with_end side e)) rests.1))
  over_at what now link side old new s t (Err Memory) over h =
      let rests = event_over what (moment_at link old now) side.end h.0 s t (Err h.1) over h.2 in
      let broken = rests.0 in absurd (let none : ⊥ = cc in none)
  over_at what now link side old new s t (Err LinkKnown) over h = absurd h
  over_at what now link side old new s t (Err LinkUnknown) over h = absurd h
  over_at what now link side old new s t (Err NoHop) over h = absurd h

  pub over : OverDoesNothing step
  over what now link old new s t side result there is_over h =
      let P : Option LinkSide → Type 0 = λ o. DoesIn (MeetsEvent step what) now link o old s result new t in
      over_at what now link side old new s t result is_over (subst P there h)
