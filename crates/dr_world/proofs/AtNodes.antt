-- What is done at a node alone, and what passes with time.
use Rattle.std.proofs.Common.{◌≡◌, ℕ, ◌+◌, ◌^◌, Bool, true, false, cond, Option, None, Some, refl, sym, ap, subst, ◌∙◌, inl, inr}
use Rattle.std.specs.Prelude.{min, if◌then◌else◌}
use Rattle.std.specs.FinMap as map
use Rattle.dr_base.specs.Texts.{Text}
use Rattle.dr_plan_model.specs.Networks.{Network}
use Rattle.dr_plan_sound.specs.declared.certificate.Certificate.{Certificate}
use Rattle.dr_site.specs.Parts.{Part, IsPartOf}
use Rattle.dr_route.specs.Routes.{local}
use Rattle.dr_ledger.proofs.Maps.{texts, same_or_not, ties_itself}
use Rattle.dr_session.specs.Desks.{Arrive, Arrival}
use Rattle.dr_session.specs.Ledgers.{Desk, desk}
use Rattle.dr_node.specs.declared.links.LinkSide.{LinkSide}
use Rattle.dr_world_model.specs.Worlds.{same_text}
use Rattle.dr_world_model.specs.Events.{HasNode}
use Rattle.dr_world_tie.specs.Channels.{Channel}
use Rattle.dr_world_tie.specs.Desks.{LedgerStep}
use Rattle.dr_world_tie.specs.Nodes.{RequeuesAt, GivesUpAt}
use Rattle.dr_world_tie.specs.ByteWorlds.{ByteWorld, Submit, Open, Away, Push, Move, Abort, Release, Close}
use Rattle.dr_world_tie.specs.ByteWorlds.{Late, Restart, Requeue, Drop, Forget, Tick, Refuse, with_call}
use Rattle.dr_world_tie.proofs.Sites.{site_steps}
use Rattle.dr_world.specs.declared.wires.Wires.{Wires}
use Rattle.dr_world.specs.Shows.{Contents, Seat, Seats, ShowsBytes, IsSeated, HasSide, LinkedAt, desk_at, with_seat, with_desk_of}
use Rattle.dr_world.specs.Laws.{TickIsShown, StrangerIsSkipped, SubmitIsShown, RequeueIsShown, DropIsShown, RefuseIsShown, with_seats}

pub ticks : TickIsShown
ticks plan certificate c b s ms = (
  record { time = min (b.time + ms) (2 ^ 62); desks = b.desks; links = b.links; opened = b.opened },
  (refl, refl),
  record { time = ap (λ (n : ℕ). min (n + ms) (2 ^ 62)) s.time; opened = s.opened; desks = s.desks; links = s.links; sides = s.sides; fresh = s.fresh },
)

-- ---- sides that stay

-- the sides that the one nodes have the others have
abbrev pub AllSides : Seats → Seats → Type 0
AllSides old new = (name : Text) (number : ℕ) (side : LinkSide) → HasSide old name number side → HasSide new name number side

pub linked_as : (old new : Seats) → AllSides old new → (number : ℕ) (o : Option Wires) (k : Option Channel) → LinkedAt old number o k → LinkedAt new number o k
linked_as old new all number None None h = h
linked_as old new all number (Some w) None h = h
linked_as old new all number None (Some k) h = h
linked_as old new all number (Some w) (Some k) h = record {
  caller = h.caller;
  receiver = h.receiver;
  apart = h.apart;
  at_caller = all w.caller number _ h.at_caller;
  at_receiver = all w.receiver number _ h.at_receiver;
  to_caller = h.to_caller;
  to_receiver = h.to_receiver;
}

pub one_seat : (o : Option Seat) (x y : Seat) → o ≡ Some x → o ≡ Some y → x ≡ y
one_seat o x y e f = let g : Some x ≡ Some y = sym e ∙ f in cc

module _ (seats : Seats) (name : Text) (seat : Seat) (is : seats name ≡ Some seat) (t : Desk) where
  abbrev new : Seats
  new = with_seat seats name (with_desk_of seat t)

  here : with_seat seats name (with_desk_of seat t) name ≡ Some (with_desk_of seat t)
  here = ap (λ (x : Bool). cond x (Some (with_desk_of seat t)) (seats name)) (ties_itself texts name)

  there : (other : Text) → same_text other name ≡ false → with_seat seats name (with_desk_of seat t) other ≡ seats other
  there other apart = ap (λ (x : Bool). cond x (Some (with_desk_of seat t)) (seats other)) apart

  pub kept : AllSides seats (with_seat seats name (with_desk_of seat t))
  kept other number side h = elim (same_or_not texts other name) [
    | inl same ↦ subst (λ (n : Text). HasSide (with_seat seats name (with_desk_of seat t)) n number side) (sym same)
        (with_desk_of seat t, here, subst (λ (x : Seat). map.get x.sides number ≡ Some side) (one_seat (seats name) h.0 seat (subst (λ (n : Text). seats n ≡ Some h.0) same h.1) is) h.2)
    | inr apart ↦ (h.0, there other apart ∙ h.1, h.2)
  ]

  pub had : AllSides (with_seat seats name (with_desk_of seat t)) seats
  had other number side h = elim (same_or_not texts other name) [
    | inl same ↦ subst (λ (n : Text). HasSide seats n number side) (sym same) (
      seat,
      is,
      subst (λ (x : Seat). map.get x.sides number ≡ Some side)
          (one_seat (with_seat seats name (with_desk_of seat t) name) h.0 (with_desk_of seat t) (subst (λ (n : Text). with_seat seats name (with_desk_of seat t) n ≡ Some h.0) same h.1) here) h.2,
    )
    | inr apart ↦ (h.0, sym (there other apart) ∙ h.1, h.2)
  ]

  desks_too : (desks : Text → Desk) → ((other : Text) → desks other ≡ desk_at (seats other)) → (other : Text) (x : Bool) →
      (if x then t else desks other) ≡ desk_at (cond x (Some (with_desk_of seat t)) (seats other))
  desks_too desks all other true = refl
  desks_too desks all other false = all other

pub called : (c : Contents) (b : ByteWorld) → ShowsBytes c b → (name : Text) (seat : Seat) → c.seats name ≡ Some seat → (t : Desk) → ShowsBytes (with_seats c name (with_desk_of seat t)) (with_call b name t)
called c b s name seat is t = record {
  time = s.time;
  opened = s.opened;
  desks = λ other. desks_too c.seats name seat is t b.desks s.desks other (same_text other name);
  links = λ number. linked_as c.seats (with_seat c.seats name (with_desk_of seat t)) (kept c.seats name seat is t) number (c.wires number) (map.get b.links number) (s.links number);
  sides = λ other number side h. s.sides other number side (had c.seats name seat is t other number side h);
  fresh = λ other number side h. s.fresh other number side (had c.seats name seat is t other number side h);
}

-- ---- nodes

pub has_node : (plan : Network) (certificate : Certificate) (part : Part) → IsPartOf plan certificate part → HasNode plan part.name
has_node plan certificate part p = (p.node.0, p.node.1.0)

pub node_named : (plan : Network) (certificate : Certificate) (c : Contents) → IsSeated plan certificate c.seats → (name : Text) (seat : Seat) → c.seats name ≡ Some seat → HasNode plan name
node_named plan certificate c seated name seat is =
    let e = seated.each name seat is in subst (λ (n : Text). HasNode plan n) e.0 (has_node plan certificate seat.site e.1)

no_node : (plan : Network) (certificate : Certificate) (c : Contents) → IsSeated plan certificate c.seats → (name : Text) → c.seats name ≡ None → HasNode plan name → ⊥
no_node plan certificate c seated name none has = let found = seated.all name has in let e : None ≡ Some found.0 = sym none ∙ found.1 in let x : ⊥ = cc in x

pub strangers : StrangerIsSkipped
strangers plan certificate c b seated s name none (Submit node item) same = (b, inr (λ has. no_node plan certificate c seated name none (subst (λ (n : Text). HasNode plan n) same has), (refl, refl)), s)
strangers plan certificate c b seated s name none (Restart node) same = (b, inr (λ has. no_node plan certificate c seated name none (subst (λ (n : Text). HasNode plan n) same has), (refl, refl)), s)
strangers plan certificate c b seated s name none (Away node to) same = (b, inr (λ has. no_node plan certificate c seated name none (subst (λ (n : Text). HasNode plan n) same has), (refl, refl)), s)
strangers plan certificate c b seated s name none (Requeue node uid dest) same = (b, inr (λ has. no_node plan certificate c seated name none (subst (λ (n : Text). HasNode plan n) same has), (refl, refl)), s)
strangers plan certificate c b seated s name none (Drop node uid dest) same = (b, inr (λ has. no_node plan certificate c seated name none (subst (λ (n : Text). HasNode plan n) same has), (refl, refl)), s)
strangers plan certificate c b seated s name none (Forget node uid) same =
    let P : Text → Type 0 = λ n. HasNode plan n in
    let no = no_node plan certificate c seated name none in
    (b, inr (λ has. no (subst P same has), (refl, refl)), s)
strangers plan certificate c b seated s name none (Refuse node) same = (b, inr (λ has. no_node plan certificate c seated name none (subst (λ (n : Text). HasNode plan n) same has), (refl, refl)), s)
strangers plan certificate c b seated s name none (Open from to) h = absurd h
strangers plan certificate c b seated s name none (Push link) h = absurd h
strangers plan certificate c b seated s name none (Move link reader n) h = absurd h
strangers plan certificate c b seated s name none (Abort link side) h = absurd h
strangers plan certificate c b seated s name none (Release link) h = absurd h
strangers plan certificate c b seated s name none (Close link) h = absurd h
strangers plan certificate c b seated s name none (Late link side) h = absurd h
strangers plan certificate c b seated s name none (Tick ms) h = absurd h

-- the desk of a node, in the world of bytes
pub desk_there : (c : Contents) (b : ByteWorld) → ShowsBytes c b → (name : Text) (seat : Seat) → c.seats name ≡ Some seat → b.desks name ≡ seat.desk
desk_there c b s name seat is = s.desks name ∙ ap desk_at is

pub submits : SubmitIsShown
submits plan certificate certified c b seated s name seat is item reply t h =
    let e = seated.each name seat is in
    let here : LedgerStep plan seat.site.name seat.desk (Arrive local item) (Arrival reply) t = site_steps plan certificate seat.site certified e.1 seat.desk t (Arrive local item) (Arrival reply) h in
    let named : LedgerStep plan name seat.desk (Arrive local item) (Arrival reply) t = subst (λ (n : Text). LedgerStep plan n seat.desk (Arrive local item) (Arrival reply) t) e.0 here in
    let at_desk : LedgerStep plan name (b.desks name) (Arrive local item) (Arrival reply) t = subst (λ (d : Desk). LedgerStep plan name d (Arrive local item) (Arrival reply) t) (sym (desk_there c b s name seat is)) named in
    (with_call b name t, inl (node_named plan certificate c seated name seat is, (reply, t, at_desk, refl, refl)), called c b s name seat is t)

pub requeues : RequeueIsShown
requeues plan certificate c b seated s name seat is uid dest answer t h arms =
    let here : RequeuesAt seat.desk uid dest answer t = (h, arms) in
    let at_desk : RequeuesAt (b.desks name) uid dest answer t = subst (λ (d : Desk). RequeuesAt d uid dest answer t) (sym (desk_there c b s name seat is)) here in
    (with_call b name t, inl (node_named plan certificate c seated name seat is, (answer, t, at_desk, refl, refl)), called c b s name seat is t)

pub drops : DropIsShown
drops plan certificate c b seated s name seat is uid dest answer t h arms =
    let here : GivesUpAt seat.desk uid dest c.now answer t = (h, arms) in
    let timed : GivesUpAt seat.desk uid dest b.time answer t = subst (λ (now : ℕ). GivesUpAt seat.desk uid dest now answer t) (sym s.time) here in
    let at_desk : GivesUpAt (b.desks name) uid dest b.time answer t = subst (λ (d : Desk). GivesUpAt d uid dest b.time answer t) (sym (desk_there c b s name seat is)) timed in
    (with_call b name t, inl (node_named plan certificate c seated name seat is, (answer, t, at_desk, refl, refl)), called c b s name seat is t)

pub refuses : RefuseIsShown
refuses plan certificate c b seated s name seat is =
    let t : Desk = desk seat.desk.book true in (
      with_call b name t,
      inl (node_named plan certificate c seated name seat is, (refl, ap (λ (d : Desk). with_call b name (desk d.book true)) (sym (desk_there c b s name seat is)))),
      called c b s name seat is t,
    )
