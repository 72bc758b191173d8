-- Who is counted as another association, in both worlds.
use Rattle.std.proofs.Common.{◌≡◌, ℕ, Bool, true, false, List, [], ◌∷◌, Option, Some, None, refl, sym, ap, subst, ◌∙◌, inl, inr, arith}
use Rattle.std.specs.Prelude.{AllPairs}
use Rattle.std.specs.Ordering.{nat_cmp}
use Rattle.std.specs.declared.cmp.Ordering.TheVariants.{Less}
use Rattle.std.specs.List.Sorted.{IsStrictlySortedBy}
use Rattle.std.specs.Option.{option_map_or}
use Rattle.std.specs.FinMap as map_of
use Rattle.std.proofs.lemmas.Bool.{false≢true}
use Rattle.std.proofs.lemmas.List.Kept.{AllPairs-cons}
use Rattle.std.proofs.lemmas.List.Elements.{All-from_recursion}
use Rattle.dr_base.specs.Texts.{Text}
use Rattle.dr_plan_model.specs.Networks.{Network}
use Rattle.dr_plan_sound.specs.declared.certificate.Certificate.{Certificate}
use Rattle.dr_cert_hops.proofs.Rows.{same_sorted}
use Rattle.dr_ulstate.specs.declared.table.State.{State}
use Rattle.dr_ulstate.specs.declared.table.State.TheVariants.{Sta1, Sta2, Sta6, Sta13}
use Rattle.dr_ulstate.specs.Standing.{Standing}
use Rattle.dr_ulstate.specs.Phases.{state_of}
use Rattle.dr_session.specs.declared.ends.Core.{Core}
use Rattle.dr_world_model.specs.Worlds.{World, Link, Stage, Asking, Answering, Rejecting, Open, Storing, Replying, Gone}
use Rattle.dr_world_model.specs.Steps.{IsLink, others_of}
use Rattle.dr_world_model.specs.Pinning.{IsAccepted, answering, opened, storing, replying}
use Rattle.dr_world_model.proofs.Counted.{others_are_counted}
use Rattle.dr_world_model.proofs.Lookups.{numbers}
use Rattle.dr_world_tie.specs.Channels.{Channel, ShowsLink, IsReceiver, IsAt}
use Rattle.dr_world_tie.specs.ByteWorlds.{ByteWorld, AreOthers, is_open}
use Rattle.dr_world_tie.specs.Shown.{ShowsWorld, ShowsAt}

pub state_is : (c : Core) (requestor : Bool) (state : State) → IsAt c requestor state → state_of c.phase ≡ state
state_is c requestor state at = ap (λ (o : Option Standing). option_map_or (λ (b : Standing). b.state) o Sta1) at.1 ∙ at.3

-- a link and its channel
pub shown_link : (plan : Network) (certificate : Certificate) (b : ByteWorld) (w : World) (number : ℕ) (k : Channel) → ShowsWorld plan certificate b w → map_of.get b.links number ≡ Some k
    → (link : Link) × IsLink w number link × ShowsLink plan certificate k link
shown_link plan certificate b w number k s has =
    by_get (map_of.get w.links number) refl (subst (λ (o : Option Channel). ShowsAt plan certificate o (map_of.get w.links number)) has (s.links number))
  where
    by_get : (o : Option Link) → map_of.get w.links number ≡ o → ShowsAt plan certificate (Some k) (map_of.get w.links number) → (link : Link) × IsLink w number link × ShowsLink plan certificate k link
    by_get (Some link) e h = (link, e, subst (λ (o : Option Link). ShowsAt plan certificate (Some k) o) e h)
    by_get None e h = absurd (subst (λ (o : Option Link). ShowsAt plan certificate (Some k) o) e h)

pub shown_channel : (plan : Network) (certificate : Certificate) (b : ByteWorld) (w : World) (number : ℕ) (link : Link) → ShowsWorld plan certificate b w → IsLink w number link
    → (k : Channel) × (map_of.get b.links number ≡ Some k) × ShowsLink plan certificate k link
shown_channel plan certificate b w number link s here =
    by_get (map_of.get b.links number) refl (subst (λ (o : Option Link). ShowsAt plan certificate (map_of.get b.links number) o) here (s.links number))
  where
    by_get : (o : Option Channel) → map_of.get b.links number ≡ o → ShowsAt plan certificate (map_of.get b.links number) (Some link) → (k : Channel) × (map_of.get b.links number ≡ Some k) × ShowsLink plan certificate k link
    by_get (Some k) e h = (k, e, subst (λ (o : Option Channel). ShowsAt plan certificate o (Some link)) e h)
    by_get None e h = absurd (subst (λ (o : Option Channel). ShowsAt plan certificate o (Some link)) e h)

not_open : (c : Core) (state : State) → state_of c.phase ≡ state → is_open state ≡ false → is_open (state_of c.phase) ≡ true → ⊥
not_open c state e f h = false≢true (sym f ∙ (sym (ap is_open e) ∙ h))

-- an open end is one of an accepted association
pub accepted_there : (on : Bool) (stage : Stage) (caller : Text) (c : Core) → IsReceiver on stage caller c → is_open (state_of c.phase) ≡ true → (on ≡ true) × IsAccepted stage
accepted_there true Asking caller c h open_it = absurd (not_open c Sta2 (state_is c false Sta2 h.0) refl open_it)
accepted_there true (Answering accepted) caller c h open_it = (refl, answering accepted)
accepted_there true (Open accepted) caller c h open_it = (refl, opened accepted)
accepted_there true (Storing accepted item) caller c h open_it = (refl, storing accepted item)
accepted_there true (Replying accepted item status) caller c h open_it = (refl, replying accepted item status)
accepted_there true Rejecting caller c h open_it = absurd h
accepted_there true Gone caller c h open_it = absurd h
accepted_there false stage caller c (free, inl none) open_it = absurd (not_open c Sta1 (ap (λ (o : Option Standing). option_map_or (λ (b : Standing). b.state) o Sta1) none) refl open_it)
accepted_there false stage caller c (free, inr (inl (side, at, awaits, none))) open_it = absurd (false≢true side)
accepted_there false stage caller c (free, inr (inr at)) open_it = absurd (not_open c Sta13 (state_is c false Sta13 at) refl open_it)

pub open_there : (stage : Stage) (caller : Text) (c : Core) → IsReceiver true stage caller c → IsAccepted stage → is_open (state_of c.phase) ≡ true
open_there stage caller c h (answering accepted) = ap is_open (state_is c false Sta6 h.0.0.0)
open_there stage caller c h (opened accepted) = ap is_open (state_is c false Sta6 h.0.0.0)
open_there stage caller c h (storing accepted item) = ap is_open (state_is c false Sta6 h.0.0)
open_there stage caller c h (replying accepted item status) = ap is_open (state_is c false Sta6 h.0.0.0)

pub as_pairs : (xs : List ℕ) → IsStrictlySortedBy nat_cmp xs → AllPairs (λ p q. nat_cmp p q ≡ Less) xs
unfolding IsStrictlySortedBy
as_pairs [] h = λ i j d before inside. absurd (omega (arith, inside))
as_pairs (x ∷ xs) h = AllPairs-cons (λ p q. nat_cmp p q ≡ Less) x xs (All-from_recursion (λ (y : ℕ). nat_cmp x y ≡ Less) xs h.0) (as_pairs xs h.1)

pub same_others : (plan : Network) (certificate : Certificate) (b : ByteWorld) (w : World) (number : ℕ) (name : Text) (xs : List ℕ) → ShowsWorld plan certificate b w → AreOthers b number name xs → xs ≡ others_of w number name
same_others plan certificate b w number name xs s there =
    let counted = others_are_counted w number name in
    same_sorted nat_cmp numbers.total xs (others_of w number name) (as_pairs xs there.0) (as_pairs (others_of w number name) counted.0) (λ other. (
      λ among. (
          let t = (there.1 other).0 among in
          let l = shown_link plan certificate b w other t.1.0 s t.1.1 in
          let a = accepted_there l.0.receiver_connected l.0.stage l.0.caller t.1.0.receiver.core l.2.receiver t.1.3 in
          (counted.1 other).1 (t.0, (l.0, l.1, sym l.2.to.1 ∙ t.1.2, a.0, a.1))),
      λ among. (
          let c = (counted.1 other).0 among in
          let k = shown_channel plan certificate b w other c.1.0 s c.1.1 in
          let r = subst (λ (z : Bool). IsReceiver z c.1.0.stage c.1.0.caller k.0.receiver.core) c.1.3 k.2.receiver in
          (there.1 other).1 (c.0, (k.0, k.1, k.2.to.1 ∙ c.1.2, open_there c.1.0.stage c.1.0.caller k.0.receiver.core r c.1.4))),
    ))
