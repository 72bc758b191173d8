-- What is pending at a link's caller, in both worlds.
use Rattle.std.proofs.Common.{◌≡◌, Bool, true, false, Option, Some, None}
use Rattle.std.proofs.Common.{refl, sym, ap, subst, ◌∙◌}
use Rattle.dr_base.specs.Texts.{Text}
use Rattle.dr_plan_model.specs.Networks.{Network}
use Rattle.dr_plan_sound.specs.declared.certificate.Certificate.{Certificate}
use Rattle.dr_ledger.specs.declared.item.Instance.{Instance}
use Rattle.dr_session.specs.declared.ends.Core.{Core}
use Rattle.dr_session.specs.declared.ends.Pending.{Pending}
use Rattle.dr_session.specs.Pendings.{pending_of}
use Rattle.dr_world_model.specs.Worlds.{World, Stage, Asking, Answering, Rejecting, Open, Storing}
use Rattle.dr_world_model.specs.Worlds.{Replying, Gone}
use Rattle.dr_world_model.specs.Steps.{NoneIsPending, pending}
use Rattle.dr_world_tie.specs.Channels.{IsCaller}
use Rattle.dr_world_tie.specs.ByteWorlds.{ByteWorld, IsUnderWay}
use Rattle.dr_world_tie.specs.Shown.{ShowsWorld, SomeIsPending}
use Rattle.dr_world_tie.proofs.Others.{shown_link, shown_channel}

-- a caller that is on has an item of the uid pending
abbrev PendsThere : Bool → Stage → Text → Type 0
PendsThere on stage uid =
    (item : Instance) × (on ≡ true) × (pending stage ≡ Some item) × (item.uid ≡ uid)

impossible : {A : Type 0} (x : A) → ◌≡◌ {A = Option A} None (Some x) → ⊥
impossible x e = let f : ⊥ = cc in f

one_of : {A : Type 0} (x y : A) → ◌≡◌ {A = Option A} (Some x) (Some y) → x ≡ y
one_of x y e = cc

nothing : (c : Core) (uid : Text) → c.pending ≡ None → pending_of c.pending ≡ Some uid → ⊥
nothing c uid none has = impossible uid (sym (ap pending_of none) ∙ has)

this_one : (c : Core) (uid : Text) (p : Pending) → c.pending ≡ Some p →
    pending_of c.pending ≡ Some uid → p.uid ≡ uid
this_one c uid p is has = one_of p.uid uid (sym (ap pending_of is) ∙ has)

-- what an end has pending its link has
pends_there : (on : Bool) (stage : Stage) (receiver : Text) (c : Core) (uid : Text) →
    IsCaller on stage receiver c → pending_of c.pending ≡ Some uid → PendsThere on stage uid
pends_there false stage receiver c uid h has = absurd (nothing c uid h.0 has)
pends_there true Asking receiver c uid h has = absurd (nothing c uid h.1 has)
pends_there true (Answering accepted) receiver c uid h has = absurd (nothing c uid h.1 has)
pends_there true Rejecting receiver c uid h has = absurd (nothing c uid h.1 has)
pends_there true (Open accepted) receiver c uid h has = absurd (nothing c uid h.1 has)
pends_there true (Storing accepted item) receiver c uid h has =
    (item, refl, refl, this_one c uid _ h.1.2 has)
pends_there true (Replying accepted item status) receiver c uid h has =
    (item, refl, refl, this_one c uid _ h.1.2 has)
pends_there true Gone receiver c uid h has = absurd h

-- and what its link has an end has
pub pends_here : (stage : Stage) (receiver : Text) (c : Core) (item : Instance) →
    IsCaller true stage receiver c → pending stage ≡ Some item → pending_of c.pending ≡ Some item.uid
pends_here Asking receiver c item h is = absurd (impossible item is)
pends_here (Answering accepted) receiver c item h is = absurd (impossible item is)
pends_here Rejecting receiver c item h is = absurd (impossible item is)
pends_here (Open accepted) receiver c item h is = absurd (impossible item is)
pends_here (Storing accepted other) receiver c item h is =
    ap pending_of h.1.2 ∙ ap (λ (i : Instance). Some i.uid) (one_of other item is)
pends_here (Replying accepted other status) receiver c item h is =
    ap pending_of h.1.2 ∙ ap (λ (i : Instance). Some i.uid) (one_of other item is)
pends_here Gone receiver c item h is = absurd h

module _ (plan : Network) (certificate : Certificate) (b : ByteWorld) (w : World)
    (s : ShowsWorld plan certificate b w) where
  pub some_is_pending : (name uid : Text) → IsUnderWay b name uid → SomeIsPending w name uid
  some_is_pending name uid (number, (k, has, called, pends)) =
      let l = shown_link plan certificate b w number k s has in
      let link = l.0 in
      let on = link.caller_connected in
      let p = pends_there on link.stage link.receiver k.caller.core uid l.2.caller pends in
      (number, link, p.0, l.1, sym l.2.from.1 ∙ called, p.1, p.2, p.3)

  pub none_is_pending : (name uid : Text) → (IsUnderWay b name uid → ⊥) → NoneIsPending w name uid
  none_is_pending name uid none number link item here called on is same =
      let k = shown_channel plan certificate b w number link s here in
      let c : IsCaller true link.stage link.receiver k.0.caller.core =
      subst (λ (z : Bool). IsCaller z link.stage link.receiver k.0.caller.core) on k.2.caller in
      let pends = pends_here link.stage link.receiver k.0.caller.core item c is ∙ ap Some same in
      none (number, (k.0, k.1, k.2.from.1 ∙ called, pends))
