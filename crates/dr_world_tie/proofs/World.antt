-- A whole world of bytes: each step of it, and runs of steps.
use Rattle.std.proofs.Common.{map as mapped}
use Rattle.std.proofs.Common.{◌≡◌, ℕ, ◌+◌, ◌^◌, Bool, true, false, List, [], ◌∷◌, ◌++◌, append_assoc, Option, Some, None, refl, sym, ap, subst, ◌∙◌, inl, inr, ◌⊎◌, arith}
use Rattle.std.proofs.Math.Logic.{∥∥₁_map, ∥∥₁_elim, ∥∥₁_prop}
use Rattle.std.specs.Prelude.{min, not, ◌&&◌, if◌then◌else◌, Result, Ok, Err}
use Rattle.std.proofs.lemmas.List.{append-nil}
use Rattle.std.specs.FinMap as map_of
use Rattle.std.specs.Ordering.{nat_cmp, eq_by_cmp}
use Rattle.dr_base.specs.Texts.{Text}
use Rattle.dr_plan_model.specs.Networks.{Network}
use Rattle.dr_plan_sound.specs.declared.certificate.Certificate.{Certificate}
use Rattle.dr_site.specs.Sites.{IsCertified}
use Rattle.dr_site.proofs.ContextsAsPlanned.{hop_to, pairs_as_planned}
use Rattle.dr_nego.proofs.Sized.{proposals_fit}
use Rattle.dr_ulstate.specs.declared.table.State.TheVariants.{Sta2, Sta5}
use Rattle.dr_ulstate.specs.Standing.{standing}
use Rattle.dr_ledger.specs.declared.fault.LedgerFault.{LedgerFault}
use Rattle.dr_ledger.specs.declared.fault.LedgerFault.TheVariants as fault
use Rattle.dr_ledger.specs.declared.item.Outcome.TheVariants.{Broken}
use Rattle.dr_ledger.specs.Items.{instance_of}
use Rattle.dr_ledger.specs.Replies.{Dues, Reads}
use Rattle.dr_ledger.proofs.Maps.{get_new, get_other, same_or_not, texts, ties_itself}
use Rattle.dr_world_model.proofs.Lookups.{numbers}
use Rattle.dr_world_model.proofs.FromSafety.{safe_headline, start_safe}
use Rattle.dr_world_model.proofs.Safety.{IsSafe, WorldGrows}
use Rattle.dr_world_model.proofs.EventsKept.{step_kept}
use Rattle.dr_world_model.specs.Worlds.{World, Link, same_text, start}
use Rattle.dr_world_model.specs.Calls.{Answer}
use Rattle.dr_world_model.specs.Steps.{IsLink, IsHop, asked, new_link, passed}
use Rattle.dr_world_model.specs.Events.{Event, HasNode, Step, Take, Ask}
use Rattle.dr_world_model.specs.Events as event
use Rattle.dr_world_model.specs.Runs.{Occurs, Runs}
use Rattle.dr_world_model.specs.Theorem.{Lasts}
use Rattle.dr_session.specs.Desks.{Settle, Settling}
use Rattle.dr_session.specs.Reactions.{is_free}
use Rattle.dr_session.specs.Ledgers.{desk}
use Rattle.dr_world_tie.specs.Desks.{Desk, LedgerStep}
use Rattle.dr_world_tie.specs.Channels.{Channel, ShowsLink}
use Rattle.dr_world_tie.specs.Ties.{IsDeskOf, IsOpened, with_desk}
use Rattle.dr_world_tie.specs.Closing.{IsEnded, closed}
use Rattle.dr_world_tie.specs.ByteWorlds.{ByteWorld, beginning, WorldStep, Submit, Open, Away, Push, Move, Abort, Release, Close, Late, Restart, Requeue, Drop, Forget, Tick, Refuse, StepNote, DoesIf, LinkStep, SettlesDue, Steps, Opens, Closes, is_over, caller_of, receiver_of, with_done, with_call, opened_between}
use Rattle.dr_world_tie.specs.Shown.{ComesAbout, ShowsWorld, ShowsAt, Comes, WorldStepsAreEvents, RunsOf, RunsKeepTheHeadline, WhatIsKeptStaysKept}
use Rattle.dr_world_tie.specs.Nodes.{GivesUpAt}
use Rattle.dr_world_tie.proofs.Others.{shown_link}
use Rattle.dr_site.proofs.Assembled.{is_site}
use Rattle.dr_world_tie.proofs.Restarted.{restarted}
use Rattle.dr_world_tie.proofs.Restarting.{desks_after}
use Rattle.dr_world_tie.proofs.Opening.{opens_are_asks}
use Rattle.dr_world_tie.proofs.Nodes.{submitting_takes, requeueing_is_requeue, staying_away_is_stay_away}
use Rattle.dr_world_tie.proofs.Nodes.{forgetting_is_forget, giving_up_is_drop, refusing_is_refuse}
use Rattle.dr_world_tie.proofs.Pendings.{some_is_pending, none_is_pending}
use Rattle.dr_world_tie.proofs.Closing.{closing_is_close}
use Rattle.dr_world_tie.proofs.Shown.{Result_of, after, at_node, skips, moved, pushed, released, aborted, delayed}

module _ (plan : Network) (certificate : Certificate) (certified : IsCertified plan certificate) (b new : ByteWorld) (w : World) (note : StepNote) (s : ShowsWorld plan certificate b w) where
  abbrev Res : WorldStep → Type 0
  Res step = ∥ Result_of plan certificate b step note w new ∥₁

  at_link : (step : WorldStep) (number : ℕ) (What : Channel → Type 0) → ((k : Channel) (link : Link) → map_of.get b.links number ≡ Some k → IsLink w number link → ShowsLink plan certificate k link → What k → Res step)
      → (o : Option Channel) → map_of.get b.links number ≡ o → LinkStep o b note new What → Res step
  at_link step number What f None e h = ∣ skips plan certificate step b new w note s h ∣₁
  at_link step number What f (Some k) e h = (let l = shown_link plan certificate b w number k s e in f k l.0 e l.1 l.2 h)

  closes : (number : ℕ) (k : Channel) (link : Link) → IsLink w number link → ShowsLink plan certificate k link → Closes plan b number k new → Result_of plan certificate b (Close number) note w new
  closes number k link here shows (early, late, x, y, t, u, early_is, late_is, r, c, is) =
      let to : receiver_of k ≡ link.receiver = shows.to.1 in
      let from : caller_of k ≡ link.caller = shows.from.1 in
      let r1 : IsEnded (LedgerStep plan link.receiver) k.receiver.core early (b.desks link.receiver) y u = subst (λ (n : Text). IsEnded (LedgerStep plan n) k.receiver.core early (b.desks n) y u) to r in
      let mid : Text → Desk = with_desk b.desks (receiver_of k) u in
      let ends = Rattle.dr_world_tie.proofs.Closing.receiver_ends plan certificate w number link k (b.desks link.caller) (b.desks link.receiver) here (s.desks link.caller) (s.desks link.receiver) shows early (early_is ∙ sym s.time) y u r1 in
      let still : (name : Text) → IsDeskOf w name (mid name) = desks_after w w number (receiver_of k) b.desks u s.desks
      (subst (λ (d : Desk). IsDeskOf w (receiver_of k) d) (sym (ends.same ∙ ap b.desks (sym to))) (s.desks (receiver_of k)))
      (record { books = λ other apart. refl; links = λ other apart. refl; armed = λ other apart. refl; rest = (refl, refl, refl) }) in
      let c1 : IsEnded (LedgerStep plan link.caller) k.caller.core late (mid link.caller) x t = subst (λ (n : Text). IsEnded (LedgerStep plan n) k.caller.core late (mid n) x t) from c in
      let h = closing_is_close plan certificate w number link k (mid link.caller) (b.desks link.receiver) here (still link.caller) (s.desks link.receiver) shows late early (late_is ∙ sym s.time) (early_is ∙ sym s.time) x y t u c1 r1 in
      let mid_world : ByteWorld = with_call b (receiver_of k) u in
      let shown : ShowsWorld plan certificate mid_world w = record { time = s.time; opened = s.opened; desks = still; links = s.links } in
      let result : ShowsWorld plan certificate (with_done mid_world link.caller t number (closed k x y)) h.1.1.after = after plan certificate mid_world w number (event.Close number h.1.0) link.caller t (closed k x y) shown h.1.1 in
      let named : ShowsWorld plan certificate (with_done mid_world (caller_of k) t number (closed k x y)) h.1.1.after =
      subst (λ (n : Text). ShowsWorld plan certificate (with_done mid_world n t number (closed k x y)) h.1.1.after) (sym from) result in
      (h.1.1.after, inr (event.Close number h.1.0, refl, h.1.1.step), subst (λ (z : ByteWorld). ShowsWorld plan certificate z h.1.1.after) (sym is) named)

  close_if : (number : ℕ) (k : Channel) (link : Link) → IsLink w number link → ShowsLink plan certificate k link → (go : Bool) → DoesIf go b note new (Closes plan b number k new) → Res (Close number)
  close_if number k link here shows true h = ∣ closes number k link here shows h.1 ∣₁
  close_if number k link here shows false h = ∣ skips plan certificate (Close number) b new w note s h ∣₁

  -- ---- staying away

  -- a desk that is put where it was
  still_there : (name other : Text) → b.desks other ≡ with_desk b.desks name (b.desks name) other
  still_there name other = elim (same_or_not texts other name) [
    | inl same ↦ ap b.desks same ∙ sym (ap (λ (x : Bool). if x then b.desks name else b.desks other) (ap (λ (n : Text). same_text n name) same ∙ ties_itself texts name))
    | inr apart ↦ sym (ap (λ (x : Bool). if x then b.desks name else b.desks other) apart)
  ]

  uncalled : (name : Text) (v : World) → ShowsWorld plan certificate (with_call b name (b.desks name)) v → ShowsWorld plan certificate b v
  uncalled name v h = record {
    time = h.time;
    opened = h.opened;
    desks = λ other. subst (λ (d : Desk). IsDeskOf v other d) (sym (still_there name other)) (h.desks other);
    links = h.links;
  }

  settled_due : (from to uid : Text) (answer : Answer) (t : Desk) → HasNode plan from → LedgerStep plan from (b.desks from) (Settle uid to Broken b.time) (Settling answer) t →
      (v : World) × Comes plan b (Away from to) note w v × ShowsWorld plan certificate (with_call b from t) v
  settled_due from to uid answer t is_node call =
      let now = subst (λ (time : ℕ). LedgerStep plan from (b.desks from) (Settle uid to Broken time) (Settling answer) t) (sym s.time) call in
      let h = staying_away_is_stay_away plan w from uid to (b.desks from) t answer is_node (s.desks from) now in
      let it : Event = event.StayAway from uid to answer in
      (h.after, inr (it, (refl, refl), h.step), at_node plan certificate b w it from t s h)

  -- a ledger that can't tell what is due: as one that can't write
  untold : (from to : Text) (answer : Answer) → HasNode plan from → LedgerStep plan from (b.desks from) (Settle [] to Broken b.time) (Settling answer) (b.desks from) → new ≡ b →
      Result_of plan certificate b (Away from to) note w new
  untold from to answer is_node call is =
      let d = settled_due from to [] answer (b.desks from) is_node call in
      (d.0, d.1, subst (λ (z : ByteWorld). ShowsWorld plan certificate z d.0) (sym is) (uncalled from d.0 d.2))

  stayed : (from to : Text) → HasNode plan from → (due : Result (Option Text) LedgerFault) → Reads due (Dues (b.desks from).book to b.time) → SettlesDue plan b from to due note new →
      Result_of plan certificate b (Away from to) note w new
  stayed from to is_node (Ok None) told h = skips plan certificate (Away from to) b new w note s h
  stayed from to is_node (Ok (Some uid)) told (answer, t, call, noted, is) =
      let d = settled_due from to uid answer t is_node call in
      (d.0, d.1, subst (λ (z : ByteWorld). ShowsWorld plan certificate z d.0) (sym is) d.2)
  stayed from to is_node (Err fault.Store) told h = untold from to (Err fault.Store) is_node (refl, inl refl) h.1
  stayed from to is_node (Err fault.Memory) told h = untold from to (Err fault.Memory) is_node (refl, refl) h.1
  stayed from to is_node (Err fault.NoLine) told h = absurd told
  stayed from to is_node (Err fault.Conflict) told h = absurd told
  stayed from to is_node (Err fault.NotWaiting) told h = absurd told
  stayed from to is_node (Err fault.NotHeld) told h = absurd told
  stayed from to is_node (Err fault.NotOver) told h = absurd told

  -- ---- opening

  opens : (from to : Text) → Opens plan certificate b from to new → Result_of plan certificate b (Open from to) note w new
  opens from to (caller, receiver, rq, hop, is_from, named_from, is_to, named_to, hop_is, proposal, is) =
      let k : Channel = opened_between caller receiver rq b.time in
      let site = is_site plan certificate caller certified is_from in
      let over = (pairs_as_planned plan certificate caller certified is_from to hop.class hop.syntax).0 (hop, (hop_to caller to hop).1 hop_is, refl, refl) in
      let goes : IsHop plan from to = subst (λ (n : Text). IsHop plan n to) named_from (over.0, over.2) in
      let dest : receiver.name ≡ to = named_to in
      let opened : IsOpened plan certificate from to k = record {
        from = (is_from, named_from, refl, refl);
        to = (is_to, named_to, refl, refl);
        peer = dest;
        asking = ((standing Sta5 true b.time, refl, refl, refl), refl, refl, refl, refl, (rq, refl, proposal), refl);
        last = omega arith;
        listening = ((standing Sta2 false b.time, refl, refl, refl), refl, refl, refl, refl);
        ears = (refl, refl);
        rq = rq;
        proposed = refl;
        fits = proposals_fit caller to hop rq site hop_is proposal;
        wires = (refl, refl);
      } in
      let a = opens_are_asks plan certificate w from to k goes opened in
      let world : ByteWorld = record { time = b.time; desks = b.desks; links = map_of.insert b.links (b.opened + 1) k; opened = b.opened + 1 } in
      let shown : ShowsWorld plan certificate world (asked w from to) = record {
        time = s.time;
        opened = ap (λ (n : ℕ). n + 1) s.opened;
        desks = s.desks;
        links = λ other. (let P : ℕ → Type 0 = λ n. ShowsAt plan certificate (map_of.get (map_of.insert b.links n k) other) (map_of.get (map_of.insert w.links (w.opened + 1) (new_link from to)) other) in
            subst P (ap (λ (n : ℕ). n + 1) s.opened) (by_number other (same_or_not numbers other (w.opened + 1)) k a.3));
      } in
      (asked w from to, inr (Ask from to, (refl, refl), (goes, refl)), subst (λ (z : ByteWorld). ShowsWorld plan certificate z (asked w from to)) (sym is) shown)
    where
      by_number : (other : ℕ) → (other ≡ w.opened + 1) ⊎ (eq_by_cmp nat_cmp other (w.opened + 1) ≡ false) → (k : Channel) → ShowsLink plan certificate k (new_link from to)
          → ShowsAt plan certificate (map_of.get (map_of.insert b.links (w.opened + 1) k) other) (map_of.get (map_of.insert w.links (w.opened + 1) (new_link from to)) other)
      by_number other (inl same) k shows =
          let P : ℕ → Type 0 = λ n. ShowsAt plan certificate (map_of.get (map_of.insert b.links (w.opened + 1) k) n) (map_of.get (map_of.insert w.links (w.opened + 1) (new_link from to)) n) in
          subst P (sym same) (subst (λ (o : Option Channel). ShowsAt plan certificate o (map_of.get (map_of.insert w.links (w.opened + 1) (new_link from to)) (w.opened + 1))) (sym (get_new numbers b.links (w.opened + 1) k))
          (subst (λ (o : Option Link). ShowsAt plan certificate (Some k) o) (sym (get_new numbers w.links (w.opened + 1) (new_link from to))) shows))
      by_number other (inr apart) k shows =
          subst (λ (o : Option Channel). ShowsAt plan certificate o (map_of.get (map_of.insert w.links (w.opened + 1) (new_link from to)) other)) (sym (get_other numbers b.links (w.opened + 1) k other apart))
          (subst (λ (o : Option Link). ShowsAt plan certificate (map_of.get b.links other) o) (sym (get_other numbers w.links (w.opened + 1) (new_link from to) other apart)) (s.links other))

  pub each : (step : WorldStep) → Steps plan certificate b step note new → Res step
  each (Push link) h = at_link (Push link) link _ (λ k l has here shows d. pushed plan certificate certified b w s link l k has here shows note new (is_free k.caller.core) refl d) (map_of.get b.links link) refl h
  each (Move link side n) h = at_link (Move link side n) link _ (λ k l has here shows d. moved plan certificate certified b w s link l k has here shows side n note new d) (map_of.get b.links link) refl h
  each (Abort link side) h = at_link (Abort link side) link _ (λ k l has here shows d. aborted plan certificate certified b w s link l k has here shows side note new d) (map_of.get b.links link) refl h
  each (Release link) h = at_link (Release link) link _ (λ k l has here shows d. released plan certificate certified b w s link l k has here shows note new d) (map_of.get b.links link) refl h
  each (Late link side) h = at_link (Late link side) link _ (λ k l has here shows d. delayed plan certificate certified b w s link l k has here shows side note new d) (map_of.get b.links link) refl h
  each (Close link) h = at_link (Close link) link _ (λ k l has here shows d. close_if link k l here shows (not (is_over k.caller.core && is_over k.receiver.core)) d) (map_of.get b.links link) refl h
  each (Open from to) (inl h) = ∣ opens from to h.1 ∣₁
  each (Open from to) (inr h) = ∣ skips plan certificate (Open from to) b new w note s h.1 ∣₁
  each (Submit node item) (inr h) = ∣ skips plan certificate (Submit node item) b new w note s h.1 ∣₁
  each (Submit node item) (inl (is_node, (reply, t, call, noted, is))) =
      let h = submitting_takes plan w node item (b.desks node) t reply is_node (s.desks node) call in
      ∣ (h.after, inr (Take node (instance_of item) reply, (refl, refl), h.step), subst (λ (z : ByteWorld). ShowsWorld plan certificate z h.after) (sym is) (at_node plan certificate b w (Take node (instance_of item) reply) node t s h)) ∣₁
  each (Away from to) (inr h) = ∣ skips plan certificate (Away from to) b new w note s h.1 ∣₁
  each (Away from to) (inl (is_node, (due, told, done))) = ∣ stayed from to is_node due told done ∣₁
  each (Requeue node uid dest) (inr h) = ∣ skips plan certificate (Requeue node uid dest) b new w note s h.1 ∣₁
  each (Requeue node uid dest) (inl (is_node, (answer, t, call, noted, is))) =
      let h = requeueing_is_requeue plan w node uid dest (b.desks node) t answer is_node (s.desks node) call in
      ∣ (h.after, inr (event.Requeue node uid dest answer, (refl, refl, refl), h.step), subst (λ (z : ByteWorld). ShowsWorld plan certificate z h.after) (sym is) (at_node plan certificate b w (event.Requeue node uid dest answer) node t s h)) ∣₁
  each (Drop node uid dest) (inr h) = ∣ skips plan certificate (Drop node uid dest) b new w note s h.1 ∣₁
  each (Drop node uid dest) (inl (is_node, (answer, t, call, noted, is))) =
      let now = subst (λ (time : ℕ). GivesUpAt (b.desks node) uid dest time answer t) (sym s.time) call in
      let h = giving_up_is_drop plan w node uid dest (b.desks node) t answer is_node (s.desks node) now in
      let it : Event = event.Drop node uid dest answer in
      ∣ (h.after, inr (it, (refl, refl, refl), h.step), subst (λ (z : ByteWorld). ShowsWorld plan certificate z h.after) (sym is) (at_node plan certificate b w it node t s h)) ∣₁
  each (Forget node uid) (inr h) = ∣ skips plan certificate (Forget node uid) b new w note s h.1 ∣₁
  each (Forget node uid) (inl (is_node, inl (under_way, noted, is))) =
      let silent = some_is_pending plan certificate b w s node uid under_way in
      let shown = subst (λ (z : ByteWorld). ShowsWorld plan certificate z w) (sym is) s in
      ∣ (w, inl (refl, inr silent), shown) ∣₁
  each (Forget node uid) (inl (is_node, inr (none, (answer, t, call, noted, is)))) =
      let free = none_is_pending plan certificate b w s node uid none in
      let old = b.desks node in
      let h = forgetting_is_forget plan w node uid old t answer is_node free (s.desks node) call in
      let it : Event = event.Forget node uid answer in
      let shown = at_node plan certificate b w it node t s h in
      let now = subst (λ (z : ByteWorld). ShowsWorld plan certificate z h.after) (sym is) shown in
      ∣ (h.after, inr (it, (refl, refl), h.step), now) ∣₁
  each (Refuse node) (inr h) = ∣ skips plan certificate (Refuse node) b new w note s h.1 ∣₁
  each (Refuse node) (inl (is_node, (noted, is))) =
      let h = refusing_is_refuse plan w node (b.desks node) is_node (s.desks node) in
      ∣ (h.after, inr (event.Refuse node, refl, h.step), subst (λ (z : ByteWorld). ShowsWorld plan certificate z h.after) (sym is) (at_node plan certificate b w (event.Refuse node) node (desk (b.desks node).book true) s h)) ∣₁
  each (Tick ms) (noted, is) =
      ∣ (
        passed w ms,
        inr (event.Tick ms, refl, refl),
        subst (λ (z : ByteWorld). ShowsWorld plan certificate z (passed w ms)) (sym is)
            (record { time = ap (λ (n : ℕ). min (n + ms) (2 ^ 62)) s.time; opened = s.opened; desks = s.desks; links = s.links }),
      ) ∣₁
  each (Restart node) (inr h) = ∣ skips plan certificate (Restart node) b new w note s h.1 ∣₁
  each (Restart node) (inl (is_node, (noted, h))) = (let r = restarted plan certificate b node w s new h in ∣ (r.0, inr (event.Restart node r.1, refl, r.2), r.3) ∣₁)

pub world_steps : WorldStepsAreEvents
world_steps plan certificate certified b new w step note s h = each plan certificate certified b new w note s step h

-- ---- runs

-- a world beside the bytes, to which events lead, and of which the four claims hold
abbrev IsGood : Network → Certificate → ByteWorld → Type 0
IsGood plan certificate b = (w : World) × ShowsWorld plan certificate b w × IsSafe plan w × ComesAbout plan w

-- one event behind others
runs_more : (plan : Network) (events : List Event) (e : Event) (a w v : World) →
    Runs plan a (mapped Occurs events) plan w → Step plan w e v → Runs plan a (mapped Occurs (events ++ e ∷ [])) plan v
runs_more plan [] e a w v h s = (v, subst (λ (z : World). Step plan z e v) h.1 s, (refl, refl))
runs_more plan (x ∷ xs) e a w v h s = (h.0, h.1, runs_more plan xs e h.0 w v h.2 s)

comes_on : (plan : Network) (b : ByteWorld) (step : WorldStep) (note : StepNote) (w v : World) →
    ComesAbout plan w → Comes plan b step note w v → ComesAbout plan v
comes_on plan b step note w v by (inl same) = subst (λ (z : World). ComesAbout plan z) (sym same.0) by
comes_on plan b step note w v by (inr (e, named, h)) = (by.0 ++ e ∷ [], runs_more plan by.0 e start w v by.1 h)

come_safe : (plan : Network) (certificate : Certificate) → IsCertified plan certificate → (b : ByteWorld) (step : WorldStep) (note : StepNote) (w v : World) → IsSafe plan w → Comes plan b step note w v → IsSafe plan v
come_safe plan certificate certified b step note w v safe (inl same) = subst (λ (z : World). IsSafe plan z) (sym same.0) safe
come_safe plan certificate certified b step note w v safe (inr (e, named, h)) = (step_kept plan certified.sound e w v safe h).safe

run_good : (plan : Network) (certificate : Certificate) → IsCertified plan certificate → (steps : List WorldStep) (b new : ByteWorld) → ∥ IsGood plan certificate b ∥₁ → RunsOf plan certificate b steps new → ∥ IsGood plan certificate new ∥₁
run_good plan certificate certified [] b new good h = subst (λ (z : ByteWorld). ∥ IsGood plan certificate z ∥₁) (sym h) good
run_good plan certificate certified (step ∷ steps) b new good (note, mid, h, rest) =
    run_good plan certificate certified steps mid new (∥∥₁_elim good ∥∥₁_prop (λ g.
    ∥∥₁_map (world_steps plan certificate certified b mid g.0 step note g.1 h) (λ r. (
      r.0,
      r.2,
      come_safe plan certificate certified b step note g.0 r.0 g.2 r.1,
      comes_on plan b step note g.0 r.0 g.3 r.1,
    )))) rest

-- ---- what lasts

lasts_grown : (old new : World) → WorldGrows old new → Lasts old new
lasts_grown old new g = record { items = λ name. (g.books name).items; kept = λ name. (g.books name).kept; journal = λ name. (g.books name).lines }

lasts_same : (w : World) → Lasts w w
lasts_same w = record { items = λ name uid item k h. h; kept = λ name uid h. h; journal = λ name. ([], sym (append-nil (w.books name).lines)) }

lasts_on : (a b c : World) → Lasts a b → Lasts b c → Lasts a c
lasts_on a b c f g = record {
  items = λ name uid item k h. g.items name uid item (f.kept name uid k) (f.items name uid item k h);
  kept = λ name uid h. g.kept name uid (f.kept name uid h);
  journal = λ name.
      let x = f.journal name in
      let y = g.journal name in
      (x.0 ++ y.0, y.1 ∙ (ap (λ l. l ++ y.0) x.1 ∙ append_assoc (a.books name).lines x.0 y.0));
}

come_lasting : (plan : Network) (certificate : Certificate) → IsCertified plan certificate → (b : ByteWorld) (step : WorldStep) (note : StepNote) (w v : World) → IsSafe plan w → Comes plan b step note w v → Lasts w v
come_lasting plan certificate certified b step note w v safe (inl same) = subst (λ (z : World). Lasts w z) (sym same.0) (lasts_same w)
come_lasting plan certificate certified b step note w v safe (inr (e, named, h)) = lasts_grown w v (step_kept plan certified.sound e w v safe h).grows

-- a world beside the bytes, and one from which it came
abbrev Lasting : Network → Certificate → World → ByteWorld → Type 0
Lasting plan certificate v c = (w : World) × ShowsWorld plan certificate c w × IsSafe plan w × Lasts v w

run_lasting : (plan : Network) (certificate : Certificate) → IsCertified plan certificate → (v : World) (steps : List WorldStep) (b new : ByteWorld) → ∥ Lasting plan certificate v b ∥₁ → RunsOf plan certificate b steps new
    → ∥ Lasting plan certificate v new ∥₁
run_lasting plan certificate certified v [] b new good h = subst (λ (z : ByteWorld). ∥ Lasting plan certificate v z ∥₁) (sym h) good
run_lasting plan certificate certified v (step ∷ steps) b new good (note, mid, h, rest) =
    run_lasting plan certificate certified v steps mid new (∥∥₁_elim good ∥∥₁_prop (λ g.
    ∥∥₁_map (world_steps plan certificate certified b mid g.0 step note g.1 h) (λ r. (
      r.0,
      r.2,
      come_safe plan certificate certified b step note g.0 r.0 g.2 r.1,
      lasts_on v g.0 r.0 g.3 (come_lasting plan certificate certified b step note g.0 r.0 g.2 r.1),
    )))) rest

pub beside_beginning : (plan : Network) (certificate : Certificate) → ShowsWorld plan certificate beginning start
beside_beginning plan certificate = record {
  time = refl;
  opened = refl;
  desks = λ name. (refl, sym (Rattle.std.specs.FinSet.contains-empty Rattle.dr_base.specs.Texts.text_cmp name));
  links = λ number. subst (λ (o : Option Channel). ShowsAt plan certificate o (map_of.get start.links number)) (sym (map_of.get-empty nat_cmp number))
      (subst (λ (o : Option Link). ShowsAt plan certificate None o) (sym (map_of.get-empty nat_cmp number)) tt);
}

first_good : (plan : Network) (certificate : Certificate) → IsGood plan certificate beginning
first_good plan certificate = (start, beside_beginning plan certificate, start_safe plan, ([], (refl, refl)))

pub runs_keep : RunsKeepTheHeadline
runs_keep plan certificate certified steps b h =
    ∥∥₁_map (run_good plan certificate certified steps beginning b ∣ first_good plan certificate ∣₁ h) (λ g. (g.0, g.1, g.3, safe_headline plan g.0 certified.sound g.2))

pub kept_stays : WhatIsKeptStaysKept
kept_stays plan certificate certified steps more b c h k =
    ∥∥₁_elim (run_good plan certificate certified steps beginning b ∣ first_good plan certificate ∣₁ h) ∥∥₁_prop (λ g.
    ∥∥₁_map (run_lasting plan certificate certified g.0 more b c ∣ (g.0, g.1, g.2, lasts_same g.0) ∣₁ k) (λ z. (g.0, z.0, g.1, z.1, z.3)))
