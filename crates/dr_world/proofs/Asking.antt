-- What was done at an end of a link is that step of the world of bytes.
use Rattle.std.proofs.Common.{◌≡◌, ◌≢◌, ℕ, ◌++◌, Bool, true, false, List, [], ◌∷◌, drop, Option, None, Some, Result, Ok, refl, sym, ap, subst, ◌∙◌, inl, inr, ◌⊎◌}
use Rattle.std.specs.Prelude.{◌&&◌, if◌then◌else◌}
use Rattle.std.specs.Ordering.{nat_cmp, eq_by_cmp}
use Rattle.std.specs.FinMap as map
use Rattle.std.proofs.lemmas.List.{append-nil}
use Rattle.std.specs.declared.alloc.AllocError.{AllocError}
use Rattle.dr_base.specs.Texts.{Text}
use Rattle.dr_plan_model.specs.Networks.{Network}
use Rattle.dr_plan_sound.specs.declared.certificate.Certificate.{Certificate}
use Rattle.dr_site.specs.Parts.{Part}
use Rattle.dr_site.specs.Sites.{IsCertified}
use Rattle.dr_pdu.specs.Feeding.{Feeding}
use Rattle.dr_ledger.proofs.Maps.{texts, same_or_not, ties_itself, get_new, get_other}
use Rattle.dr_ledger.specs.SiteRoutes.{site_routing}
use Rattle.dr_session.specs.declared.ends.Core.{Core}
use Rattle.dr_session.specs.declared.ends.Effect.{Effect}
use Rattle.dr_session.specs.declared.ends.Input.{Input}
use Rattle.dr_session.specs.declared.ends.Input.TheVariants as input
use Rattle.dr_session.specs.declared.ends.LinkAction.{LinkAction}
use Rattle.dr_session.specs.declared.ends.Moment.{Moment}
use Rattle.dr_session.specs.Ends.{Terminal as End, Meets as EndMeets}
use Rattle.dr_session.specs.Ledgers.{Desk, RoutedStep}
use Rattle.dr_session.specs.Plays.{Reacts, at_moment}
use Rattle.dr_session.specs.Reactions.{effect, is_free, is_idle, occurs, moves}
use Rattle.dr_node.specs.declared.links.LinkSide.{LinkSide as NodeSide}
use Rattle.dr_node.specs.Sides.{moment_at, with_end}
use Rattle.dr_world_model.proofs.Lookups.{numbers}
use Rattle.dr_world_model.specs.Worlds.{same_text}
use Rattle.dr_world_tie.specs.Desks.{LedgerStep}
use Rattle.dr_world_tie.specs.Channels.{LiveTerminal, Channel, bytes_of}
use Rattle.dr_world_tie.specs.Ties.{caller_did, receiver_did, caller_read, receiver_read, with_desk}
use Rattle.dr_world_tie.specs.ByteWorlds.{ByteWorld, Push, Abort, Release, Late, Side, Requestor, Acceptor, StepNote, Done, Skipped, DoesIf, LinkStep, CallerMeets, PushesIf, PushNote, Meets, IsMoment, caller_of, receiver_of, core_at, with_done, has_cell, acts_late}
use Rattle.std.specs.Option.{option_map_or}
use Rattle.dr_ulstate.specs.declared.table.Event.TheVariants.{AbortRequest, ReleaseRequest, DataRequest}
use Rattle.dr_ulstate.specs.declared.table.State.{State}
use Rattle.dr_ulstate.specs.declared.table.State.TheVariants.{Sta1}
use Rattle.dr_ulstate.specs.Table.{action_of, with_next}
use Rattle.dr_ulstate.specs.Standing.{Standing}
use Rattle.dr_ulstate.specs.Phases.{standing_of, state_of, stepped_from, after_cell}
use Rattle.dr_session.specs.declared.ends.Told.TheVariants.{Plain}
use Rattle.dr_session.specs.Desks.{DeskCall, DeskAnswer}
use Rattle.dr_session.specs.Turns.{Turns}
use Rattle.dr_world.specs.declared.wires.Wires.{Wires}
use Rattle.dr_world.specs.Shows.{Contents, Seat, Seats, ShowsBytes, IsSeated, Becomes, HasSide, IsLinked, side_of, with_end_done}
use Rattle.dr_world.specs.Ends.{IsDoneAtEnd, name_at, note_by}
use Rattle.dr_world.proofs.Counted.{linked_there}
use Rattle.dr_world.proofs.AtNodes.{one_seat}
use Rattle.dr_world.proofs.Doing.{caller_done, receiver_done, still_seated}
use Rattle.dr_world.proofs.Meeting.{Happened, happens, is_moment, abort_noted, release_noted, late_noted}
use Rattle.dr_world.proofs.Noted.{WritesIf, push_rests}
use Rattle.dr_world_tie.proofs.Sited.{reacts_keep}

-- ---- the two sides

abbrev pub end_of : Side → Channel → LiveTerminal
end_of Requestor k = k.caller
end_of Acceptor k = k.receiver

abbrev pub node_of : Side → Channel → Text
node_of Requestor k = caller_of k
node_of Acceptor k = receiver_of k

abbrev pub accepts : Side → Bool
accepts Requestor = false
accepts Acceptor = true

abbrev pub read_at : Side → Channel → ℕ → Feeding → Effect → Channel
read_at Requestor k n ear x = caller_read k n ear x
read_at Acceptor k n ear x = receiver_read k n ear x

abbrev pub did_at : Side → Channel → Effect → Channel
did_at Requestor k x = caller_did k x
did_at Acceptor k x = receiver_did k x

abbrev pub wire_of : Side → Channel → List ℕ
wire_of Requestor k = k.to_caller
wire_of Acceptor k = k.to_receiver

pub named_so : (seats : Seats) (number : ℕ) (w : Wires) (k : Channel) → IsLinked seats number w k → (side : Side) → node_of side k ≡ name_at side w
named_so seats number w k l Requestor = l.caller
named_so seats number w k l Acceptor = l.receiver

sided : (seats : Seats) (number : ℕ) (w : Wires) (k : Channel) → IsLinked seats number w k → (side : Side) → HasSide seats (name_at side w) number (side_of (accepts side) (end_of side k))
sided seats number w k l Requestor = l.at_caller
sided seats number w k l Acceptor = l.at_receiver

core_is : (side : Side) (k : Channel) → (end_of side k).core ≡ core_at k side
core_is Requestor k = refl
core_is Acceptor k = refl

-- ---- shown alike

-- where the desk and the channel are as they were, nothing has changed
pub nothing_done : (c : Contents) (b : ByteWorld) (name : Text) (t : Desk) (number : ℕ) (l : Channel) → t ≡ b.desks name → map.get b.links number ≡ Some l → ShowsBytes c (with_done b name t number l) → ShowsBytes c b
nothing_done c b name t number l same has s = record {
  time = s.time;
  opened = s.opened;
  desks = λ q. sym (by_name q (same_or_not texts q name)) ∙ s.desks q;
  links = λ n. (let P : Option Channel → Type 0 = λ o. Rattle.dr_world.specs.Shows.LinkedAt c.seats n (c.wires n) o in subst P (by_number n (same_or_not numbers n number)) (s.links n));
  sides = s.sides;
  fresh = s.fresh;
}
  where
    by_name : (q : Text) → (q ≡ name) ⊎ (same_text q name ≡ false) → with_desk b.desks name t q ≡ b.desks q
    by_name q (inl e) = ap (λ (x : Bool). if x then t else b.desks q) (ap (λ (z : Text). same_text z name) e ∙ ties_itself texts name) ∙ (same ∙ ap b.desks (sym e))
    by_name q (inr apart) = ap (λ (x : Bool). if x then t else b.desks q) apart

    by_number : (n : ℕ) → (n ≡ number) ⊎ (eq_by_cmp nat_cmp n number ≡ false) → map.get (map.insert b.links number l) n ≡ map.get b.links n
    by_number n (inl e) = ap (map.get (map.insert b.links number l)) e ∙ (get_new numbers b.links number l ∙ (sym has ∙ ap (map.get b.links) (sym e)))
    by_number n (inr apart) = get_other numbers b.links number l n apart

did_nothing : (side : Side) (k : Channel) → did_at side k (effect [] (core_at k side)) ≡ k
did_nothing Requestor k = ap (λ (z : List ℕ). (let l : Channel = record { caller = k.caller; receiver = k.receiver; to_caller = k.to_caller; to_receiver = z } in l)) (append-nil k.to_receiver)
did_nothing Acceptor k = ap (λ (z : List ℕ). (let l : Channel = record { caller = k.caller; receiver = k.receiver; to_caller = z; to_receiver = k.to_receiver } in l)) (append-nil k.to_caller)

-- ---- what was done

abbrev Does : Type 1
Does = Part → Moment → End → Desk → Result (List LinkAction) AllocError → End → Desk → Type 0

module _ (plan : Network) (certificate : Certificate) (certified : IsCertified plan certificate) (c : Contents) (b : ByteWorld) (seated : IsSeated plan certificate c.seats) (s : ShowsBytes c b) (does : Part → Moment → End → Desk → Result (List LinkAction) AllocError → End → Desk → Type 0)
    (taken number : ℕ) (acts : List LinkAction) (new : Contents) where
  -- the link's channel and its side at the node
  pub record Found (side : Side) (d : IsDoneAtEnd does taken c number side acts new) : Type 0 where
    pub k : Channel
    pub has : map.get b.links number ≡ Some k
    pub linked : IsLinked c.seats number d.wires k
    pub had : map.get d.seat.sides number ≡ Some (side_of (accepts side) (end_of side k))

  pub found : (side : Side) (d : IsDoneAtEnd does taken c number side acts new) → Found side d
  found side d =
      let l = linked_there c b s number d.wires d.wired in
      let there = sided c.seats number d.wires l.0 l.2 side in
      record {
        k = l.0;
        has = l.1;
        linked = l.2;
        had = subst (λ (y : Seat). map.get y.sides number ≡ Some (side_of (accepts side) (end_of side l.0))) (one_seat (c.seats (name_at side d.wires)) there.0 d.seat there.1 d.seated) there.2;
      }

  pub seated_after : (side : Side) (d : IsDoneAtEnd does taken c number side acts new) → IsSeated plan certificate new.seats
  seated_after side d =
      let P : Contents → Type 0 = λ z. IsSeated plan certificate z.seats in
      subst P (sym d.is) (still_seated plan certificate c.seats (name_at side d.wires) d.seat (Rattle.dr_world.specs.Shows.with_side d.seat number (with_end d.own d.end) d.desk) d.seated refl seated)

  pub shown : (side : Side) (d : IsDoneAtEnd does taken c number side acts new) (f : Found side d) (x : Effect) (ear : Feeding) → x.core.site ≡ (end_of side f.k).core.site → acts ≡ x.acts
      → with_end d.own d.end ≡ side_of (accepts side) (record { core = x.core; ear = ear }) → ShowsBytes new (with_done b (name_at side d.wires) d.desk number (read_at side f.k taken ear x))
  shown Requestor d f x ear site acts_are own =
      let r = caller_done c b s number d.wires d.after f.k d.wired f.linked d.written.caller d.written.receiver d.seat ear x d.desk (drop taken f.k.to_caller) d.seated f.had site
      (d.written.own ∙ ap (drop taken) (sym f.linked.to_caller)) (d.written.other ∙ ap (λ (a : List LinkAction). d.wires.to_receiver.items ++ bytes_of a) acts_are) in
      let P : NodeSide → Type 0 = λ o. ShowsBytes (with_end_done c d.wires.caller d.seat number o d.desk d.after) (with_done b d.wires.caller d.desk number (caller_read f.k taken ear x)) in
      let Q : Contents → Type 0 = λ z. ShowsBytes z (with_done b d.wires.caller d.desk number (caller_read f.k taken ear x)) in
      subst Q (sym d.is) (subst P (sym own) r)
  shown Acceptor d f x ear site acts_are own =
      let r = receiver_done c b s number d.wires d.after f.k d.wired f.linked d.written.caller d.written.receiver d.seat ear x d.desk (drop taken f.k.to_receiver) d.seated f.had site
      (d.written.own ∙ ap (drop taken) (sym f.linked.to_receiver)) (d.written.other ∙ ap (λ (a : List LinkAction). d.wires.to_caller.items ++ bytes_of a) acts_are) in
      let P : NodeSide → Type 0 = λ o. ShowsBytes (with_end_done c d.wires.receiver d.seat number o d.desk d.after) (with_done b d.wires.receiver d.desk number (receiver_read f.k taken ear x)) in
      let Q : Contents → Type 0 = λ z. ShowsBytes z (with_done b d.wires.receiver d.desk number (receiver_read f.k taken ear x)) in
      subst Q (sym d.is) (subst P (sym own) r)

-- ---- an input other than bytes

-- at that end of a link that is there this happened
pub record MetAt (plan : Network) (b : ByteWorld) (number : ℕ) (side : Side) (i : Input) (acts : List LinkAction) (new : Contents) : Type 0 where
  pub k : Channel
  pub has : map.get b.links number ≡ Some k
  pub at : Moment
  pub x : Effect
  pub t : Desk
  pub moment : IsMoment b number (node_of side k) at
  pub happened : Happened (LedgerStep plan (node_of side k)) (core_at k side) at i (b.desks (node_of side k)) x t
  pub acts_are : acts ≡ x.acts
  pub shows : ShowsBytes new (with_done b (node_of side k) t number (did_at side k x))

pub kept_by : (plan : Network) (name : Text) (core : Core) (at : Moment) (i : Input) (d : Desk) (x : Effect) (t : Desk) → Happened (LedgerStep plan name) core at i d x t → x.core.site ≡ core.site
kept_by plan name core at i d x t (inl r) = reacts_keep (LedgerStep plan name) core (at_moment at i) d x t r
kept_by plan name core at i d x t (inr (gone, same, still)) = ap (λ (y : Effect). y.core.site) same

module _ (plan : Network) (certificate : Certificate) (certified : IsCertified plan certificate) (c : Contents) (b : ByteWorld) (seated : IsSeated plan certificate c.seats) (s : ShowsBytes c b) (does : Part → Moment → End → Desk → Result (List LinkAction) AllocError → End → Desk → Type 0)
    (number : ℕ) (acts : List LinkAction) (new : Contents) (i : Input)
    (meets : (site : Part) (at : Moment) (o : End) (d : Desk) (r : Result (List LinkAction) AllocError) (e : End) (t : Desk) → does site at o d r e t → EndMeets (RoutedStep (site_routing site)) at i o d r e t) where
  by_side : (side : Side) (d : IsDoneAtEnd does 0 c number side acts new) (f : Found plan certificate certified c b seated s does 0 number acts new side d) (x : Effect) →
      Happened (LedgerStep plan (name_at side d.wires)) (end_of side f.k).core (moment_at number d.seat.sides c.now) i (b.desks (name_at side d.wires)) x d.desk → acts ≡ x.acts →
      with_end d.own d.end ≡ side_of (accepts side) (record { core = x.core; ear = (end_of side f.k).ear }) → ShowsBytes new (with_done b (name_at side d.wires) d.desk number (did_at side f.k x))
  by_side Requestor d f x h a own = shown plan certificate certified c b seated s does 0 number acts new Requestor d f x f.k.caller.ear (kept_by plan d.wires.caller f.k.caller.core _ i _ x d.desk h) a own
  by_side Acceptor d f x h a own = shown plan certificate certified c b seated s does 0 number acts new Acceptor d f x f.k.receiver.ear (kept_by plan d.wires.receiver f.k.receiver.core _ i _ x d.desk h) a own

  pub met_at : (side : Side) → IsDoneAtEnd does 0 c number side acts new → MetAt plan b number side i acts new
  met_at side d =
      let f = found plan certificate certified c b seated s does 0 number acts new side d in
      let name = name_at side d.wires in
      let at = moment_at number d.seat.sides c.now in
      let h = happens plan certificate certified c b seated s number name d.seat d.seated (accepts side) (end_of side f.k) d.own d.has f.had acts d.end d.desk i (meets d.seat.site at d.own.end d.seat.desk (Ok acts) d.end d.desk d.does_it) in
      let same : name ≡ node_of side f.k = sym (named_so c.seats number d.wires f.k f.linked side) in
      let M : Text → Type 0 = λ n. IsMoment b number n at in
      let H : Text → Type 0 = λ n. Happened (LedgerStep plan n) (end_of side f.k).core at i (b.desks n) h.0 d.desk in
      let K : Core → Type 0 = λ e. Happened (LedgerStep plan (node_of side f.k)) e at i (b.desks (node_of side f.k)) h.0 d.desk in
      let S : Text → Type 0 = λ n. ShowsBytes new (with_done b n d.desk number (did_at side f.k h.0)) in
      record {
        k = f.k;
        has = f.has;
        at = at;
        x = h.0;
        t = d.desk;
        moment = subst M same (is_moment plan certificate certified c b seated s number name d.seat d.seated);
        happened = subst K (core_is side f.k) (subst H same h.1);
        acts_are = h.2;
        shows = subst S same (by_side side d f h.0 h.1 h.2 h.3);
      }

-- an end that is over does nothing at a push
module _ {S : Type 0} (step : S → DeskCall → DeskAnswer → S → Type 0) (at : Moment) (c : Core) (s : S) where
  by_standing : (o : Option Standing) → option_map_or (λ (a : Standing). a.state) o Sta1 ≡ Sta1 → Turns step (moves (stepped_from o DataRequest true c.phase at.now) at (Plain input.PushAsked) c) s (effect [] c) s
  by_standing None gone = (refl, refl)
  by_standing (Some a) gone =
      let P : State → Type 0 = λ q. Turns step (moves (after_cell (with_next (action_of DataRequest q) a.requestor true) a at.now c.phase) at (Plain input.PushAsked) c) s (effect [] c) s in
      subst P (sym gone) (refl, refl)

  by_free : (b : Bool) → state_of c.phase ≡ Sta1 → Turns step (occurs (if b then Some DataRequest else None) at (Plain input.PushAsked) c) s (effect [] c) s
  by_free true gone = by_standing (standing_of c.phase) gone
  by_free false gone = (refl, refl)

  over_pushed : state_of c.phase ≡ Sta1 → Reacts step c (at_moment at input.PushAsked) s (effect [] c) s
  over_pushed gone = record { told = Plain input.PushAsked; stage = c.assembly.stage; tells = (refl, refl); turns = by_free (is_free c) gone }

-- ---- steps

some_not : (x : LinkAction) (xs acts : List LinkAction) → acts ≡ x ∷ xs → acts ≢ []
some_not x xs acts e f = (let g : x ∷ xs ≡ [] = sym e ∙ f in let h : ⊥ = cc in h)

noted_done : (acts : List LinkAction) → acts ≢ [] → note_by acts ≡ Done
noted_done [] h = absurd (h refl)
noted_done (x ∷ xs) h = refl

module _ (plan : Network) (certificate : Certificate) (b : ByteWorld) (number : ℕ) (acts : List LinkAction) (new : Contents) where
  meets_at : (side : Side) (i : Input) (m : MetAt plan b number side i acts new) → Reacts (LedgerStep plan (node_of side m.k)) (core_at m.k side) (at_moment m.at i) (b.desks (node_of side m.k)) m.x m.t
      → Meets plan b number m.k side i (with_done b (node_of side m.k) m.t number (did_at side m.k m.x))
  meets_at Requestor i m r = (m.at, m.x, m.t, m.moment, r, refl)
  meets_at Acceptor i m r = (m.at, m.x, m.t, m.moment, r, refl)

  -- where nothing was written it is skipped, and else it was done
  abbrev Result_at : (side : Side) (i : Input) (m : MetAt plan b number side i acts new) → Bool → Type 0
  Result_at side i m go = (after : ByteWorld) × DoesIf go b (note_by acts) after (Meets plan b number m.k side i after) × ShowsBytes new after

  unchanged : (side : Side) (i : Input) (m : MetAt plan b number side i acts new) → (m.x ≡ effect [] (core_at m.k side)) × (m.t ≡ b.desks (node_of side m.k)) → (note_by acts ≡ Skipped) × ShowsBytes new b
  unchanged side i m h = (
    ap note_by (m.acts_are ∙ ap (λ (y : Effect). y.acts) h.0),
    nothing_done new b (node_of side m.k) m.t number (did_at side m.k m.x) h.1 (m.has ∙ ap Some (sym (ap (did_at side m.k) h.0 ∙ did_nothing side m.k))) m.shows,
  )

  reacted : (side : Side) (i : Input) (m : MetAt plan b number side i acts new) → m.x.acts ≢ [] → Happened (LedgerStep plan (node_of side m.k)) (core_at m.k side) m.at i (b.desks (node_of side m.k)) m.x m.t →
      Reacts (LedgerStep plan (node_of side m.k)) (core_at m.k side) (at_moment m.at i) (b.desks (node_of side m.k)) m.x m.t
  reacted side i m some (inl r) = r
  reacted side i m some (inr o) = absurd (some (ap (λ (y : Effect). y.acts) o.1))

  decided : (side : Side) (i : Input) (m : MetAt plan b number side i acts new) (go : Bool) → WritesIf (LedgerStep plan (node_of side m.k)) m.at (core_at m.k side) m.t m.x go (b.desks (node_of side m.k)) → Result_at side i m go
  decided side i m true w =
      (with_done b (node_of side m.k) m.t number (did_at side m.k m.x), (noted_done acts (λ e. w (sym m.acts_are ∙ e)), meets_at side i m (reacted side i m w m.happened)), m.shows)
  decided side i m false w = (let u = unchanged side i m w in (b, (u.0, refl), u.1))

  at_link : (k : Channel) (note : StepNote) (What : ByteWorld → Channel → Type 0) → map.get b.links number ≡ Some k → (after : ByteWorld) → What after k → LinkStep (map.get b.links number) b note after (What after)
  at_link k note What has after h = (let P : Option Channel → Type 0 = λ o. LinkStep o b note after (What after) in subst P (sym has) h)

  pub aborted : (side : Side) → MetAt plan b number side input.AbortAsked acts new → Becomes plan certificate b (Abort number side) (note_by acts) new
  aborted side m =
      let r = decided side input.AbortAsked m (has_cell AbortRequest (core_at m.k side)) (abort_noted (LedgerStep plan (node_of side m.k)) m.at (core_at m.k side) (b.desks (node_of side m.k)) m.t m.x m.happened) in
      (r.0, at_link m.k (note_by acts) (λ after k. DoesIf (has_cell AbortRequest (core_at k side)) b (note_by acts) after (Meets plan b number k side input.AbortAsked after)) m.has r.0 r.1, r.2)

  pub released : MetAt plan b number Requestor input.ReleaseAsked acts new → Becomes plan certificate b (Release number) (note_by acts) new
  released m =
      let r = decided Requestor input.ReleaseAsked m (is_idle m.k.caller.core && has_cell ReleaseRequest m.k.caller.core) (release_noted (LedgerStep plan (caller_of m.k)) m.at m.k.caller.core (b.desks (caller_of m.k)) m.t m.x m.happened) in
      (r.0, at_link m.k (note_by acts) (λ after k. DoesIf (is_idle k.caller.core && has_cell ReleaseRequest k.caller.core) b (note_by acts) after (CallerMeets plan b number k input.ReleaseAsked after)) m.has r.0 r.1, r.2)

  pub delayed : (side : Side) → MetAt plan b number side input.Late acts new → Becomes plan certificate b (Late number side) (note_by acts) new
  delayed side m =
      let W : ℕ → Type 0 = λ n. WritesIf (LedgerStep plan (node_of side m.k)) m.at (core_at m.k side) m.t m.x (acts_late (core_at m.k side) n) (b.desks (node_of side m.k)) in
      let r = decided side input.Late m (acts_late (core_at m.k side) b.time) (subst W m.moment.0 (late_noted (LedgerStep plan (node_of side m.k)) m.at (core_at m.k side) (b.desks (node_of side m.k)) m.t m.x m.happened)) in
      (r.0, at_link m.k (note_by acts) (λ after k. DoesIf (acts_late (core_at k side) b.time) b (note_by acts) after (Meets plan b number k side input.Late after)) m.has r.0 r.1, r.2)

  -- ---- a push

  pushes_if : (m : MetAt plan b number Requestor input.PushAsked acts new) (go : Bool) → is_free m.k.caller.core ≡ go → (after : ByteWorld) × PushesIf go plan b number m.k (note_by acts) after × ShowsBytes new after
  pushes_if m false e = (let u = unchanged Requestor input.PushAsked m (rested m.happened) in (b, (u.0, refl), u.1))
    where
      rested : Happened (LedgerStep plan (caller_of m.k)) m.k.caller.core m.at input.PushAsked (b.desks (caller_of m.k)) m.x m.t → (m.x ≡ effect [] m.k.caller.core) × (m.t ≡ b.desks (caller_of m.k))
      rested (inl r) = push_rests (LedgerStep plan (caller_of m.k)) m.at m.k.caller.core m.t m.x (b.desks (caller_of m.k)) e r
      rested (inr o) = (o.1, o.2)
  pushes_if m true e =
      (with_done b (caller_of m.k) m.t number (caller_did m.k m.x), (m.at, m.x, m.t, m.moment, push_noted acts m.x m.acts_are, pushed_by m.happened, refl), m.shows)
    where
      push_noted : (all : List LinkAction) (x : Effect) → all ≡ x.acts → PushNote (note_by all) x
      push_noted [] x e = inr (refl, sym e)
      push_noted (a ∷ more) x e = inl (refl, some_not a more x.acts (sym e))

      pushed_by : Happened (LedgerStep plan (caller_of m.k)) m.k.caller.core m.at input.PushAsked (b.desks (caller_of m.k)) m.x m.t
          → Reacts (LedgerStep plan (caller_of m.k)) m.k.caller.core (at_moment m.at input.PushAsked) (b.desks (caller_of m.k)) m.x m.t
      pushed_by (inl r) = r
      pushed_by (inr (gone, same, still)) =
          let P : Effect → Type 0 = λ y. Reacts (LedgerStep plan (caller_of m.k)) m.k.caller.core (at_moment m.at input.PushAsked) (b.desks (caller_of m.k)) y m.t in
          let Q : Desk → Type 0 = λ d. Reacts (LedgerStep plan (caller_of m.k)) m.k.caller.core (at_moment m.at input.PushAsked) (b.desks (caller_of m.k)) (effect [] m.k.caller.core) d in
          subst P (sym same) (subst Q (sym still) (over_pushed (LedgerStep plan (caller_of m.k)) m.at m.k.caller.core (b.desks (caller_of m.k)) gone))

  pub pushed : MetAt plan b number Requestor input.PushAsked acts new → Becomes plan certificate b (Push number) (note_by acts) new
  pushed m =
      let r = pushes_if m (is_free m.k.caller.core) refl in
      (r.0, at_link m.k (note_by acts) (λ after k. PushesIf (is_free k.caller.core) plan b number k (note_by acts) after) m.has r.0 r.1, r.2)
