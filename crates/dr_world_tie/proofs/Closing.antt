-- A link that is closed at both ends, and what an end that is off does to its link.
use Rattle.std.proofs.Common.{◌≡◌, ◌≢◌, ℕ, ◌<◌, ◌^◌, Bool, true, false, List, [], ◌∷◌, ◌++◌, map, take, drop, Option, Some, None, refl, sym, ap, subst, ◌∙◌, append_assoc, inl, inr}
use Rattle.std.specs.List.{AllByRecursion}
use Rattle.std.specs.FinMap as map_of
use Rattle.std.specs.Option.{option_map_or}
use Rattle.std.proofs.lemmas.Bool.{false≢true, cases_Bool}
use Rattle.dr_plan_model.specs.Networks.{Network}
use Rattle.dr_plan_sound.specs.declared.certificate.Certificate.{Certificate}
use Rattle.dr_site.specs.Parts.{Part, IsPartOf}
use Rattle.dr_ulstate.specs.declared.table.State.{State}
use Rattle.dr_ulstate.specs.declared.table.State.TheVariants.{Sta1, Sta2, Sta5, Sta6}
use Rattle.dr_ulstate.specs.Table.{state_number}
use Rattle.dr_ulstate.specs.Standing.{Standing}
use Rattle.dr_ulstate.specs.Phases.{state_of}
use Rattle.dr_pdu.specs.Feeding.{Feeding}
use Rattle.dr_pdu.specs.Written.{Fits, MeetsLimit}
use Rattle.dr_nego.specs.Fragments.{spellings}
use Rattle.dr_ledger.proofs.Maps.{get_new}
use Rattle.dr_world_model.proofs.Lookups.{numbers}
use Rattle.dr_world_model.specs.Worlds.{World, Link, Gone, with_link, without_caller, without_receiver, at_stage}
use Rattle.dr_world_model.specs.Calls.{Answer}
use Rattle.dr_world_model.specs.Steps.{IsLink, Leaves, ReceiverDrops}
use Rattle.dr_world_model.specs.Events.{BreakCaller, BreakReceiver}
use Rattle.dr_session.specs.declared.ends.Core.{Core}
use Rattle.dr_session.specs.declared.ends.Effect.{Effect}
use Rattle.dr_session.specs.declared.ends.Input.{Input}
use Rattle.dr_session.specs.declared.ends.Input.TheVariants.{Ended}
use Rattle.dr_session.specs.declared.ends.LinkAction.{LinkAction}
use Rattle.dr_session.specs.declared.ends.LinkAction.TheVariants as action
use Rattle.dr_session.specs.declared.ends.Moment.{Moment}
use Rattle.dr_session.specs.Desks.{DeskCall, DeskAnswer}
use Rattle.dr_session.specs.Reactions.{effect}
use Rattle.dr_session.specs.Plays.{At, at_moment, Plays, HearsBy}
use Rattle.dr_world_tie.specs.Desks.{Desk, LedgerStep}
use Rattle.dr_world_tie.specs.Channels.{Channel, Carries, ShowsLink, ToReceiver, ToCaller, IsCaller, IsReceiver, IsOff, IsAt, IsControl, IsSideOf, AgreesOn, bytes_of, site_of, site_in}
use Rattle.dr_world_tie.specs.Ties.{IsDeskOf, OnlyHere, Happens, caller_as, receiver_as, caller_did, receiver_did, StaysOff, OffCallerIsNoEvent, OffReceiverIsNoEvent}
use Rattle.dr_world_tie.specs.Closing.{IsEnded, ClosingIsClose}
use Rattle.dr_world_tie.proofs.Leaving.{all_append, spellings_append, carries_more, only_link, receiver_leaves, receiver_at as receiver_stands}
use Rattle.dr_world_tie.proofs.CallerLeaving.{caller_leaves, caller_at as caller_stands, still_coming, carries_map}
use Rattle.dr_world_tie.proofs.Off.{off_stays_off}

-- ---- what is written

pub bytes_append : (xs ys : List LinkAction) → bytes_of (xs ++ ys) ≡ bytes_of xs ++ bytes_of ys
bytes_append [] ys = refl
bytes_append (action.Write bytes ∷ xs) ys = ap (λ (l : List ℕ). bytes ++ l) (bytes_append xs ys) ∙ sym (append_assoc bytes (bytes_of xs) (bytes_of ys))
bytes_append (action.Close ∷ xs) ys = bytes_append xs ys

-- ---- many inputs of an end that is off

module _ {S : Type 0} (step : S → DeskCall → DeskAnswer → S → Type 0) where
  stays_many : (is : List At) (c : Core) (requestor : Bool) → IsOff c requestor → (s u : S) (x : Effect) → Plays step c is s x.acts x.core u → (u ≡ s) × StaysOff c requestor x
  stays_many [] c requestor off s u x (none, same, port) =
      (port, subst (λ (y : Effect). StaysOff c requestor y) (sym (ap (λ (l : List LinkAction). effect l x.core) none ∙ ap (λ (d : Core). effect [] d) same)) (off, refl, refl, refl, ([], refl, tt, λ limit. tt)))
  stays_many (i ∷ is) c requestor off s u x (y, m, later, r, rest, acts) =
      let one = off_stays_off step c requestor off i s m y r in
      let z : Effect = effect later x.core in
      let more = stays_many is y.core requestor one.1.0 m u z rest in
      let w : StaysOff c requestor (effect (y.acts ++ later) x.core) = (
        more.1.0,
        more.1.1 ∙ one.1.1,
        more.1.2 ∙ one.1.2,
        more.1.3 ∙ one.1.3,
        (
          one.1.4.0 ++ more.1.4.0,
          bytes_append y.acts later ∙ (ap (λ (l : List ℕ). l ++ bytes_of later) one.1.4.1 ∙ (ap (λ (l : List ℕ). spellings one.1.4.0 ++ l) more.1.4.1 ∙ sym (spellings_append one.1.4.0 more.1.4.0))),
          all_append IsControl one.1.4.0 more.1.4.0 one.1.4.2 more.1.4.2,
          λ limit. all_append (λ p. Fits p × MeetsLimit limit p) one.1.4.0 more.1.4.0 (one.1.4.3 limit) (more.1.4.3 limit),
        ),
      ) in
      (more.0 ∙ one.0, subst (λ (l : List LinkAction). StaysOff c requestor (effect l x.core)) (sym acts) w)

hears_limit : (failed : Bool) (old new : Feeding) (piece : List ℕ) (inputs : List Input) → HearsBy failed old piece inputs new → new.limit ≡ old.limit
hears_limit true old new piece inputs h = ap (λ (f : Feeding). f.limit) h.1
hears_limit false old new piece inputs h = h.same

-- ---- its channel is the same link

module _ (plan : Network) (certificate : Certificate) (link : Link) (k : Channel) (shows : ShowsLink plan certificate k link) where
  pub off_caller_shown : link.caller_connected ≡ false → (ear : Feeding) (wire : List ℕ) → ear.limit ≡ k.caller.ear.limit → (x : Effect) → StaysOff k.caller.core true x → ShowsLink plan certificate (caller_as k wire ear x) link
  off_caller_shown off ear wire limit x (is_off, site, peer, proposed, (pdus, bytes, control, fits)) = record {
    hop = shows.hop;
    from = subst (λ (p : Option Part). IsPartOf plan certificate (site_in p) × ((site_in p).name ≡ link.caller) × (ear.limit ≡ (site_in p).max_pdu) × (p ≡ Some (site_in p))) (sym site) (shows.from.0, shows.from.1, limit ∙ shows.from.2, shows.from.3);
    to = shows.to;
    peer = peer ∙ shows.peer;
    caller_agrees = λ o. absurd (false≢true (sym off ∙ o));
    receiver_agrees = λ o. (let A : Option Part → Type 0 = λ p. AgreesOn (site_in p) (site_of k.receiver.core) (site_in p).max_pdu k.receiver.core in subst A (sym site) (shows.receiver_agrees o));
    caller = subst (λ (b : Bool). IsCaller b link.stage link.receiver x.core) (sym off) is_off;
    receiver = shows.receiver;
    to_receiver = λ o. subst (λ (b : Bool). Carries k.receiver (k.to_receiver ++ bytes_of x.acts) (ToReceiver link.stage link.receiver x.core k.receiver.core) b) (sym off)
        (subst (λ (l : List ℕ). Carries k.receiver (k.to_receiver ++ l) (ToReceiver link.stage link.receiver x.core k.receiver.core) false) (sym bytes)
        (carries_map k.receiver (k.to_receiver ++ spellings pdus) (ToReceiver link.stage link.receiver k.caller.core k.receiver.core) (ToReceiver link.stage link.receiver x.core k.receiver.core) false
        (λ l h. still_coming link.stage link.receiver k.caller.core x.core k.receiver.core l proposed site is_off.0 h)
        (carries_more k.receiver k.to_receiver (ToReceiver link.stage link.receiver k.caller.core k.receiver.core) link.caller_connected (shows.to_receiver o) pdus control (fits k.receiver.ear.limit))));
    to_caller = λ o. absurd (false≢true (sym off ∙ o));
  }

  pub off_receiver_shown : link.receiver_connected ≡ false → (ear : Feeding) (wire : List ℕ) → ear.limit ≡ k.receiver.ear.limit → (x : Effect) → StaysOff k.receiver.core false x → ShowsLink plan certificate (receiver_as k wire ear x) link
  off_receiver_shown off ear wire limit x (is_off, site, peer, proposed, (pdus, bytes, control, fits)) = record {
    hop = shows.hop;
    from = shows.from;
    to = subst (λ (p : Option Part). IsPartOf plan certificate (site_in p) × ((site_in p).name ≡ link.receiver) × (ear.limit ≡ (site_in p).max_pdu) × (p ≡ Some (site_in p))) (sym site) (shows.to.0, shows.to.1, limit ∙ shows.to.2, shows.to.3);
    peer = shows.peer;
    caller_agrees = λ o. (let A : Option Part → Type 0 = λ p. AgreesOn (site_of k.caller.core) (site_in p) (site_in p).max_pdu k.caller.core × (k.caller.core.last < 2 ^ 16) in subst A (sym site) (shows.caller_agrees o));
    receiver_agrees = λ o. absurd (false≢true (sym off ∙ o));
    caller = shows.caller;
    receiver = subst (λ (b : Bool). IsReceiver b link.stage link.caller x.core) (sym off) is_off;
    to_receiver = λ o. absurd (false≢true (sym off ∙ o));
    to_caller = λ o. subst (λ (b : Bool). Carries k.caller (k.to_caller ++ bytes_of x.acts) (ToCaller link.stage (site_of x.core) k.caller.core) b) (sym off)
        (subst (λ (p : Option Part). Carries k.caller (k.to_caller ++ bytes_of x.acts) (ToCaller link.stage (site_in p) k.caller.core) false) (sym site)
        (subst (λ (l : List ℕ). Carries k.caller (k.to_caller ++ l) (ToCaller link.stage (site_of k.receiver.core) k.caller.core) false) (sym bytes)
        (carries_more k.caller k.to_caller (ToCaller link.stage (site_of k.receiver.core) k.caller.core) link.receiver_connected (shows.to_caller o) pdus control (fits k.caller.ear.limit))));
  }

  pub caller_off : link.caller_connected ≡ false → IsOff k.caller.core true
  caller_off off = subst (λ (b : Bool). IsCaller b link.stage link.receiver k.caller.core) off shows.caller

  pub receiver_off : link.receiver_connected ≡ false → IsOff k.receiver.core false
  receiver_off off = subst (λ (b : Bool). IsReceiver b link.stage link.caller k.receiver.core) off shows.receiver

pub off_caller_is_no_event : {S : Type 0} (step : S → DeskCall → DeskAnswer → S → Type 0) → OffCallerIsNoEvent step
off_caller_is_no_event step plan certificate link k shows off s u x = (
  λ i r. (let h = off_stays_off step k.caller.core true (caller_off plan certificate link k shows off) i s u x r in (h.0, off_caller_shown plan certificate link k shows off k.caller.ear k.to_caller refl x h.1)),
  λ moment n new plays. (
      let h = stays_many step (map (at_moment moment) plays.0) k.caller.core true (caller_off plan certificate link k shows off) s u x plays.2 in
      (h.0, off_caller_shown plan certificate link k shows off new (drop n k.to_caller) (hears_limit k.caller.ear.failed k.caller.ear new (take n k.to_caller) plays.0 plays.1) x h.1)),
)

pub off_receiver_is_no_event : {S : Type 0} (step : S → DeskCall → DeskAnswer → S → Type 0) → OffReceiverIsNoEvent step
off_receiver_is_no_event step plan certificate link k shows off s u x = (
  λ i r. (let h = off_stays_off step k.receiver.core false (receiver_off plan certificate link k shows off) i s u x r in (h.0, off_receiver_shown plan certificate link k shows off k.receiver.ear k.to_receiver refl x h.1)),
  λ moment n new plays. (
      let h = stays_many step (map (at_moment moment) plays.0) k.receiver.core false (receiver_off plan certificate link k shows off) s u x plays.2 in
      (h.0, off_receiver_shown plan certificate link k shows off new (drop n k.to_receiver) (hears_limit k.receiver.ear.failed k.receiver.ear new (take n k.to_receiver) plays.0 plays.1) x h.1)),
)

-- ---- closing

same_link : (a b : Link) → Some a ≡ Some b → a ≡ b
same_link a b e = cc

pub same_world_link : (w : World) (number : ℕ) (a b : Link) → IsLink w number a → IsLink w number b → a ≡ b
same_world_link w number a b ha hb = same_link a b (sym ha ∙ hb)

-- after a caller left, its link
left_link : (plan : Network) (certificate : Certificate) (w : World) (number : ℕ) (answer : Option Answer) (name : _) (t : Desk) (k : Channel) (link : Link) → IsLink w number link
    → (h : Happens plan certificate w number (BreakCaller number answer) name t k) → (h.link ≡ without_caller link) × Leaves w number answer h.after
left_link plan certificate w number answer name t k link here h =
    let l : Leaves w number answer h.after = h.step in
    let there : IsLink h.after number (without_caller l.link) = subst (λ (v : World). IsLink v number (without_caller l.link)) (sym l.is) (get_new numbers l.mid.links number (without_caller l.link)) in
    (same_world_link h.after number h.link (without_caller l.link) h.here there ∙ ap without_caller (same_world_link w number l.link link l.at here), l)

dropped_link : (plan : Network) (certificate : Certificate) (w : World) (number : ℕ) (name : _) (t : Desk) (k : Channel) (link : Link) → IsLink w number link
    → (h : Happens plan certificate w number (BreakReceiver number) name t k) → (h.link ≡ without_receiver link) × ReceiverDrops w number h.after
dropped_link plan certificate w number name t k link here h =
    let l : ReceiverDrops w number h.after = h.step in
    let there : IsLink h.after number (without_receiver l.link) = subst (λ (v : World). IsLink v number (without_receiver l.link)) (sym l.is) (get_new numbers w.links number (without_receiver l.link)) in
    (same_world_link h.after number h.link (without_receiver l.link) h.here there ∙ ap without_receiver (same_world_link w number l.link link l.at here), l)

not_gone : (c : Core) (requestor : Bool) (state : State) → IsAt c requestor state → (state_number state ≢ 1) → state_of c.phase ≡ Sta1 → ⊥
not_gone c requestor state at apart e =
    let s : state_of c.phase ≡ state = ap (λ (o : Option Standing). option_map_or (λ (b : Standing). b.state) o Sta1) at.1 ∙ at.3 in
    apart (ap state_number (sym s ∙ e))

module _ (plan : Network) (certificate : Certificate) (w : World) (number : ℕ) (link : Link) (k : Channel) (s r : Desk) (here : IsLink w number link) (caller_desk : IsDeskOf w link.caller s) (receiver_desk : IsDeskOf w link.receiver r)
    (shows : ShowsLink plan certificate k link) where
  -- the caller leaves where it is on
  pub record CallerEnds (x : Effect) (t : Desk) : Type 0 where
    pub answer : Option Answer
    pub mid : World
    pub left : Rattle.dr_world_model.specs.Steps.LeavesIfOn w number link answer mid
    pub desk_is : IsDeskOf mid link.caller t
    pub only : OnlyHere w mid number link.caller
    pub side : IsSideOf plan certificate link.caller x.core k.caller.ear
    pub peer : x.core.peer ≡ link.receiver
    pub off : IsOff x.core true

  same_desk : (t : Desk) → t ≡ s → IsDeskOf w link.caller t
  same_desk t e = subst (λ (d : Desk). IsDeskOf w link.caller d) (sym e) caller_desk

  off_still : link.caller_connected ≡ false → (x : Effect) (t : Desk) → t ≡ s → ShowsLink plan certificate (caller_did k x) link → CallerEnds x t
  off_still off x t e shown = record {
    answer = None;
    mid = w;
    left = inr (off, refl, refl);
    desk_is = same_desk t e;
    only = record { books = λ other apart. refl; links = λ other apart. refl; armed = λ other apart. refl; rest = (refl, refl, refl) };
    side = shown.from;
    peer = shown.peer;
    off = subst (λ (b : Bool). IsCaller b link.stage link.receiver x.core) off shown.caller;
  }

  pub caller_ends : (moment : Moment) → moment.now ≡ w.time → (x : Effect) (t : Desk) → IsEnded (LedgerStep plan link.caller) k.caller.core moment s x t → CallerEnds x t
  caller_ends moment time x t ended = elim (cases_Bool link.caller_connected) [
    | inl on ↦ by_on on ended
    | inr off ↦ by_off off ended
  ]
    where
      by_on : link.caller_connected ≡ true → IsEnded (LedgerStep plan link.caller) k.caller.core moment s x t → CallerEnds x t
      by_on on (inl reacts) =
          let a = caller_leaves plan certificate w number link k s here caller_desk shows on moment time Ended (inl refl) x t reacts in
          let l = left_link plan certificate w number a.0 link.caller t (caller_did k x) link here a.1 in
          let shown : ShowsLink plan certificate (caller_did k x) (without_caller link) = subst (λ (y : Link). ShowsLink plan certificate (caller_did k x) y) l.0 a.1.shows in
          record {
            answer = a.0;
            mid = a.1.after;
            left = inl l.1;
            desk_is = a.1.desk;
            only = a.1.only;
            side = shown.from;
            peer = shown.peer;
            off = shown.caller;
          }
      by_on on (inr (gone, e, same)) = elim (caller_stands plan certificate w number link k s here caller_desk shows on k.caller.ear k.to_caller refl x t).0 [
        | inl at ↦ absurd (not_gone k.caller.core true Sta5 at (λ e. cc) gone)
        | inr at ↦ absurd (not_gone k.caller.core true Sta6 at (λ e. cc) gone)
      ]

      by_off : link.caller_connected ≡ false → IsEnded (LedgerStep plan link.caller) k.caller.core moment s x t → CallerEnds x t
      by_off off (inl reacts) = (let h = (off_caller_is_no_event (LedgerStep plan link.caller) plan certificate link k shows off s t x).0 (at_moment moment Ended) reacts in off_still off x t h.0 h.1)
      by_off off (inr (gone, e, same)) = off_still off x t same (off_caller_shown plan certificate link k shows off k.caller.ear k.to_caller refl x
          (subst (λ (y : Effect). StaysOff k.caller.core true y) (sym e) (caller_off plan certificate link k shows off, refl, refl, refl, ([], refl, tt, λ limit. tt))))

  -- the receiver is off, and its node as it was
  pub record ReceiverEnds (y : Effect) (u : Desk) : Type 0 where
    pub same : u ≡ r
    pub side : IsSideOf plan certificate link.receiver y.core k.receiver.ear
    pub off : IsOff y.core false

  receiver_still : link.receiver_connected ≡ false → (y : Effect) (u : Desk) → u ≡ r → ShowsLink plan certificate (receiver_did k y) link → ReceiverEnds y u
  receiver_still off y u e shown = record { same = e; side = shown.to; off = subst (λ (b : Bool). IsReceiver b link.stage link.caller y.core) off shown.receiver }

  desk_eq : (a b : Desk) → a.book ≡ b.book → a.armed ≡ b.armed → a ≡ b
  desk_eq a b e f = ap (λ (z : _). let d : Desk = record { book = z; armed = a.armed } in d) e ∙ ap (λ (z : Bool). let d : Desk = record { book = b.book; armed = z } in d) f

  pub receiver_ends : (moment : Moment) → moment.now ≡ w.time → (y : Effect) (u : Desk) → IsEnded (LedgerStep plan link.receiver) k.receiver.core moment r y u → ReceiverEnds y u
  receiver_ends moment time y u ended = elim (cases_Bool link.receiver_connected) [
    | inl on ↦ by_on on ended
    | inr off ↦ by_off off ended
  ]
    where
      by_on : link.receiver_connected ≡ true → IsEnded (LedgerStep plan link.receiver) k.receiver.core moment r y u → ReceiverEnds y u
      by_on on (inl reacts) =
          let a = receiver_leaves plan certificate w number link k r here receiver_desk shows on moment time Ended (inl refl) (λ e. cc e) y u reacts in
          let l = dropped_link plan certificate w number link.receiver u (receiver_did k y) link here a in
          let shown : ShowsLink plan certificate (receiver_did k y) (without_receiver link) = subst (λ (z : Link). ShowsLink plan certificate (receiver_did k y) z) l.0 a.shows in
          let books : a.after.books link.receiver ≡ w.books link.receiver = ap (λ (v : World). v.books link.receiver) l.1.is in
          let armed : Rattle.std.specs.FinSet.contains a.after.armed link.receiver ≡ Rattle.std.specs.FinSet.contains w.armed link.receiver = ap (λ (v : World). Rattle.std.specs.FinSet.contains v.armed link.receiver) l.1.is in
          record {
            same = desk_eq u r (a.desk.0 ∙ (books ∙ sym receiver_desk.0)) (a.desk.1 ∙ (armed ∙ sym receiver_desk.1));
            side = shown.to;
            off = shown.receiver;
          }
      by_on on (inr (gone, e, same)) = elim (receiver_stands plan certificate w number link k r here receiver_desk shows on moment k.receiver.ear k.to_receiver refl y u).1 [
        | inl at ↦ absurd (not_gone k.receiver.core false Sta2 at.0 (λ e. cc) gone)
        | inr at ↦ absurd (not_gone k.receiver.core false Sta6 at (λ e. cc) gone)
      ]

      by_off : link.receiver_connected ≡ false → IsEnded (LedgerStep plan link.receiver) k.receiver.core moment r y u → ReceiverEnds y u
      by_off off (inl reacts) = (let h = (off_receiver_is_no_event (LedgerStep plan link.receiver) plan certificate link k shows off r u y).0 (at_moment moment Ended) reacts in receiver_still off y u h.0 h.1)
      by_off off (inr (gone, e, same)) = receiver_still off y u same (off_receiver_shown plan certificate link k shows off k.receiver.ear k.to_receiver refl y
          (subst (λ (z : Effect). StaysOff k.receiver.core false z) (sym e) (receiver_off plan certificate link k shows off, refl, refl, refl, ([], refl, tt, λ limit. tt))))

pub closing_is_close : ClosingIsClose
closing_is_close plan certificate w number link k s r here caller_desk receiver_desk shows moment later time later_time x y t u caller_ended receiver_ended =
    let a = caller_ends plan certificate w number link k s r here caller_desk receiver_desk shows moment time x t caller_ended in
    let b = receiver_ends plan certificate w number link k s r here caller_desk receiver_desk shows later later_time y u receiver_ended in
    let gone : Link = at_stage (without_receiver (without_caller link)) Gone in (
      b.same,
      (
        a.answer,
        record {
          after = with_link a.mid number gone;
          link = gone;
          step = record { link = link; at = here; mid = a.mid; left = a.left; is = refl };
          here = get_new numbers a.mid.links number gone;
          desk = a.desk_is;
          only = record {
            books = a.only.books;
            links = λ other apart. (only_link a.mid number gone link.caller).links other apart ∙ a.only.links other apart;
            armed = a.only.armed;
            rest = a.only.rest;
          };
          shows = record {
            hop = shows.hop;
            from = a.side;
            to = b.side;
            peer = a.peer;
            caller_agrees = λ o. absurd (false≢true o);
            receiver_agrees = λ o. absurd (false≢true o);
            caller = a.off;
            receiver = b.off;
            to_receiver = λ o. absurd (false≢true o);
            to_caller = λ o. absurd (false≢true o);
          };
        },
      ),
    )
