-- A link that is opened, in both worlds.
use Rattle.std.proofs.Common.{◌≡◌, ◌≢◌, ℕ, ◌+◌, ◌<◌, Bool, true, false, cond, List, [], ◌∷◌, Contains, Option, None, Some, refl, sym, ap, subst, ◌∙◌, inl, inr, ◌⊎◌, arith}
use Rattle.std.proofs.lemmas.List.Elements.{All-contains}
use Rattle.std.specs.Ordering.{nat_cmp, eq_by_cmp}
use Rattle.std.specs.FinMap as map
use Rattle.dr_base.specs.Texts.{Text}
use Rattle.dr_route.specs.declared.key.Key.{Key}
use Rattle.dr_route.specs.declared.rule.Rule.{Rule}
use Rattle.dr_route.specs.Routes.{SendsBy}
use Rattle.dr_plan_model.specs.Networks.{Network}
use Rattle.dr_plan_model.specs.Plans.{IsWellFormed}
use Rattle.dr_plan_model.specs.Formed.{IsWellFormedNode, IsWellFormedFlow, IsRuleOf, IsKnownName}
use Rattle.dr_plan_model.specs.Walks.{Sends}
use Rattle.dr_plan_model.proofs.Gathered.{Contains-here, Contains-there}
use Rattle.dr_plan_sound.specs.declared.certificate.Certificate.{Certificate}
use Rattle.dr_plan_sound.specs.declared.certificate.Hop.{Hop}
use Rattle.dr_site.specs.Parts.{Part, IsPartOf}
use Rattle.dr_site.specs.Sites.{IsCertified}
use Rattle.dr_site.proofs.ContextsAsPlanned.{hop_to, pairs_as_planned}
use Rattle.dr_nego.specs.Proposing.{IsHopTo}
use Rattle.dr_ledger.proofs.Maps.{texts, same_or_not, ties_itself, get_new, get_other}
use Rattle.dr_session.specs.Ledgers.{Desk}
use Rattle.dr_node.specs.declared.links.LinkSide.{LinkSide}
use Rattle.dr_node.specs.Sides.{is_taken, accepts_at}
use Rattle.dr_world_model.proofs.Lookups.{numbers}
use Rattle.dr_world_model.specs.Worlds.{same_text}
use Rattle.dr_world_tie.specs.Channels.{Channel}
use Rattle.dr_world_tie.specs.ByteWorlds.{ByteWorld, Open, Done, opened_between}
use Rattle.dr_world.specs.declared.wires.Wires.{Wires}
use Rattle.dr_world.specs.Shows.{Contents, Seat, Seats, ShowsBytes, IsSeated, Becomes, HasSide, IsLinked, LinkedAt, IsOfLink, desk_at, with_seat, with_side, with_wires}
use Rattle.dr_world.specs.Opened.{IsLinkOpened, with_opened, asks_at}
use Rattle.dr_world.proofs.AtNodes.{one_seat}
use Rattle.dr_world.proofs.Doing.{seat_here, seat_there, apart_texts, still_seated}

-- ---- a node sends nothing to itself

sent_by : (rules : List Rule) (caller : Text) (key : Key) (to : Text) → SendsBy rules caller key to → (rule : Rule) × Contains rules rule × Contains rule.to to
sent_by [] caller key to h = absurd h
sent_by (rule ∷ rules) caller key to (inl h) = (rule, Contains-here rule rules, h.1)
sent_by (rule ∷ rules) caller key to (inr h) = (let r = sent_by rules caller key to h in (r.0, Contains-there rule rules r.0 r.1, r.2))

sends_elsewhere : (plan : Network) → IsWellFormed plan → (name caller : Text) (key : Key) (to : Text) → Sends plan name caller key to → name ≢ to
sends_elsewhere plan formed name caller key to (inl (local, (flow, among, at, goes, fits))) e =
    let f : IsWellFormedFlow plan.nodes flow = All-contains (IsWellFormedFlow plan.nodes) plan.flows flow formed.each_flow among in
    f.apart (at ∙ (e ∙ sym goes))
sends_elsewhere plan formed name caller key to (inr (node, (among, named), by)) e =
    let n : IsWellFormedNode plan.nodes node = All-contains (IsWellFormedNode plan.nodes) plan.nodes node formed.each_node among in
    let r = sent_by node.rules caller key to by in
    let rule : IsRuleOf plan.nodes node.name r.0 = All-contains (IsRuleOf plan.nodes node.name) node.rules r.0 n.rules r.1 in
    let apart : IsKnownName plan.nodes to × (to ≢ node.name) = All-contains (λ target. IsKnownName plan.nodes target × (target ≢ node.name)) r.0.to to rule.to r.2 in
    apart.1 (sym e ∙ sym named)

-- a hop of a site goes to another node
pub hops_elsewhere : (plan : Network) (certificate : Certificate) → IsCertified plan certificate → (site : Part) → IsPartOf plan certificate site → (dest : Text) (hop : Hop) → IsHopTo site dest hop → site.name ≢ dest
hops_elsewhere plan certificate certified site is dest hop goes =
    let over = (pairs_as_planned plan certificate site certified is dest hop.class hop.syntax).0 (hop, (hop_to site dest hop).1 goes, refl, refl) in
    sends_elsewhere plan certified.formed site.name over.2.0 over.0 dest over.2.2

-- ---- one side more at a node

module _ (seats : Seats) (name : Text) (seat : Seat) (is : seats name ≡ Some seat) (number : ℕ) (side : LinkSide) (t : Desk) where
  side_here : HasSide (with_seat seats name (with_side seat number side t)) name number side
  side_here = (with_side seat number side t, seat_here seats name (with_side seat number side t), get_new numbers seat.sides number side)

  side_kept : (other : Text) (n : ℕ) (x : LinkSide) → (same_text other name ≡ false) ⊎ (eq_by_cmp nat_cmp n number ≡ false) → HasSide seats other n x → HasSide (with_seat seats name (with_side seat number side t)) other n x
  side_kept other n x (inl apart) h = (h.0, seat_there seats name (with_side seat number side t) other apart ∙ h.1, h.2)
  side_kept other n x (inr apart) h = elim (same_or_not texts other name) [
    | inl same ↦
        let one : h.0 ≡ seat = one_seat (seats name) h.0 seat (subst (λ (q : Text). seats q ≡ Some h.0) same h.1) is in
        let got : map.get seat.sides n ≡ Some x = subst (λ (y : Seat). map.get y.sides n ≡ Some x) one h.2 in
        let P : Text → Type 0 = λ q. HasSide (with_seat seats name (with_side seat number side t)) q n x in
        subst P (sym same) (with_side seat number side t, seat_here seats name (with_side seat number side t), get_other numbers seat.sides number side n apart ∙ got)
    | inr away ↦ (h.0, seat_there seats name (with_side seat number side t) other away ∙ h.1, h.2)
  ]

  side_had : (other : Text) (n : ℕ) (x : LinkSide) → (same_text other name ≡ false) ⊎ (eq_by_cmp nat_cmp n number ≡ false) → HasSide (with_seat seats name (with_side seat number side t)) other n x → HasSide seats other n x
  side_had other n x (inl apart) h = (h.0, sym (seat_there seats name (with_side seat number side t) other apart) ∙ h.1, h.2)
  side_had other n x (inr apart) h = elim (same_or_not texts other name) [
    | inl same ↦
        let P : Text → Type 0 = λ q. with_seat seats name (with_side seat number side t) q ≡ Some h.0 in
        let one : h.0 ≡ with_side seat number side t = one_seat (with_seat seats name (with_side seat number side t) name) h.0 (with_side seat number side t) (subst P same h.1) (seat_here seats name (with_side seat number side t)) in
        let got : map.get (map.insert seat.sides number side) n ≡ Some x = subst (λ (y : Seat). map.get y.sides n ≡ Some x) one h.2 in
        let Q : Text → Type 0 = λ q. HasSide seats q n x in
        subst Q (sym same) (seat, is, sym (get_other numbers seat.sides number side n apart) ∙ got)
    | inr away ↦ (h.0, sym (seat_there seats name (with_side seat number side t) other away) ∙ h.1, h.2)
  ]

-- ---- the worlds

module _ (c : Contents) (b : ByteWorld) (s : ShowsBytes c b) (from to : Text) (away : from ≢ to) (near far : Seat) (is_near : c.seats from ≡ Some near) (is_far : c.seats to ≡ Some far) (mine theirs : LinkSide) (w : Wires) (k : Channel)
    (caller : w.caller ≡ from) (receiver : w.receiver ≡ to) where
  abbrev number : ℕ
  number = c.opened + 1

  abbrev mid : Seats
  mid = with_seat c.seats from (with_side near (c.opened + 1) mine near.desk)

  abbrev after : Contents
  after = with_opened c from near mine to far theirs w

  far_mid : with_seat c.seats from (with_side near (c.opened + 1) mine near.desk) to ≡ Some far
  far_mid = seat_there c.seats from (with_side near (c.opened + 1) mine near.desk) to (apart_texts to from (λ e. away (sym e))) ∙ is_far

  kept : (q : Text) (n : ℕ) (x : LinkSide) → eq_by_cmp nat_cmp n (c.opened + 1) ≡ false → HasSide c.seats q n x → HasSide (with_opened c from near mine to far theirs w).seats q n x
  kept q n x apart h = side_kept mid to far far_mid (c.opened + 1) theirs far.desk q n x (inr apart) (side_kept c.seats from near is_near (c.opened + 1) mine near.desk q n x (inr apart) h)

  had : (q : Text) (n : ℕ) (x : LinkSide) → eq_by_cmp nat_cmp n (c.opened + 1) ≡ false → HasSide (with_opened c from near mine to far theirs w).seats q n x → HasSide c.seats q n x
  had q n x apart h = side_had c.seats from near is_near (c.opened + 1) mine near.desk q n x (inr apart) (side_had mid to far far_mid (c.opened + 1) theirs far.desk q n x (inr apart) h)

  wires_here : with_wires c.wires (c.opened + 1) w (c.opened + 1) ≡ Some w
  wires_here = ap (λ (x : Bool). cond x (Some w) (c.wires (c.opened + 1))) (ties_itself numbers (c.opened + 1))

  wires_there : (n : ℕ) → eq_by_cmp nat_cmp n (c.opened + 1) ≡ false → with_wires c.wires (c.opened + 1) w n ≡ c.wires n
  wires_there n apart = ap (λ (x : Bool). cond x (Some w) (c.wires n)) apart

  linked_same : (n : ℕ) → eq_by_cmp nat_cmp n (c.opened + 1) ≡ false → (o : Option Wires) (m : Option Channel) → LinkedAt c.seats n o m → LinkedAt (with_opened c from near mine to far theirs w).seats n o m
  linked_same n apart None None h = h
  linked_same n apart (Some u) None h = h
  linked_same n apart None (Some m) h = h
  linked_same n apart (Some u) (Some m) h = record {
    caller = h.caller;
    receiver = h.receiver;
    apart = h.apart;
    at_caller = kept u.caller n _ apart h.at_caller;
    at_receiver = kept u.receiver n _ apart h.at_receiver;
    to_caller = h.to_caller;
    to_receiver = h.to_receiver;
  }

  linked_at : IsLinked (with_opened c from near mine to far theirs w).seats (c.opened + 1) w k → (n : ℕ) → (n ≡ c.opened + 1) ⊎ (eq_by_cmp nat_cmp n (c.opened + 1) ≡ false)
      → LinkedAt (with_opened c from near mine to far theirs w).seats n (with_wires c.wires (c.opened + 1) w n) (map.get (map.insert b.links (c.opened + 1) k) n)
  linked_at linked n (inl same) =
      let P : ℕ → Type 0 = λ m. LinkedAt (with_opened c from near mine to far theirs w).seats m (with_wires c.wires (c.opened + 1) w m) (map.get (map.insert b.links (c.opened + 1) k) m) in
      let Q : Option Wires → Type 0 = λ o. LinkedAt (with_opened c from near mine to far theirs w).seats (c.opened + 1) o (map.get (map.insert b.links (c.opened + 1) k) (c.opened + 1)) in
      let R : Option Channel → Type 0 = λ o. LinkedAt (with_opened c from near mine to far theirs w).seats (c.opened + 1) (Some w) o in
      subst P (sym same) (subst Q (sym wires_here) (subst R (sym (get_new numbers b.links (c.opened + 1) k)) linked))
  linked_at linked n (inr apart) =
      let Q : Option Wires → Type 0 = λ o. LinkedAt (with_opened c from near mine to far theirs w).seats n o (map.get (map.insert b.links (c.opened + 1) k) n) in
      let R : Option Channel → Type 0 = λ o. LinkedAt (with_opened c from near mine to far theirs w).seats n (c.wires n) o in
      subst Q (sym (wires_there n apart)) (subst R (sym (get_other numbers b.links (c.opened + 1) k n apart)) (linked_same n apart (c.wires n) (map.get b.links n) (s.links n)))

  of_link : (q : Text) (n : ℕ) → eq_by_cmp nat_cmp n (c.opened + 1) ≡ false → IsOfLink c.wires q n → IsOfLink (with_wires c.wires (c.opened + 1) w) q n
  of_link q n apart (u, has, which) = (u, wires_there n apart ∙ has, which)

  of_new : (q : Text) (n : ℕ) → n ≡ c.opened + 1 → (q ≡ from) ⊎ (q ≡ to) → IsOfLink (with_wires c.wires (c.opened + 1) w) q n
  of_new q n same which = (let P : ℕ → Type 0 = λ m. IsOfLink (with_wires c.wires (c.opened + 1) w) q m in subst P (sym same) (w, wires_here, by_end which))
    where
      by_end : (q ≡ from) ⊎ (q ≡ to) → (q ≡ w.caller) ⊎ (q ≡ w.receiver)
      by_end (inl e) = inl (e ∙ sym caller)
      by_end (inr e) = inr (e ∙ sym receiver)

  -- elsewhere no side has the new number
  none_yet : (q : Text) (n : ℕ) (x : LinkSide) → n ≡ c.opened + 1 → HasSide c.seats q n x → ⊥
  none_yet q n x same h = s.fresh q n x h (subst (λ (m : ℕ). c.opened < m) (sym same) (omega arith))

  side_stands : (q : Text) (n : ℕ) (x : LinkSide) → HasSide (with_opened c from near mine to far theirs w).seats q n x → IsOfLink (with_wires c.wires (c.opened + 1) w) q n ⊎ (is_taken x ≡ false)
  side_stands q n x h = elim (same_or_not numbers n (c.opened + 1)) [
    | inl same ↦ elim (same_or_not texts q to) [
      | inl at_to ↦ inl (of_new q n same (inr at_to))
      | inr off_to ↦ elim (same_or_not texts q from) [
        | inl at_from ↦ inl (of_new q n same (inl at_from))
        | inr off_from ↦ absurd (none_yet q n x same (side_had c.seats from near is_near (c.opened + 1) mine near.desk q n x (inl off_from) (side_had mid to far far_mid (c.opened + 1) theirs far.desk q n x (inl off_to) h)))
      ]
    ]
    | inr apart ↦ elim (s.sides q n x (had q n x apart h)) [ inl l ↦ inl (of_link q n apart l) | inr free ↦ inr free ]
  ]

  still_fresh : (q : Text) (n : ℕ) (x : LinkSide) → HasSide (with_opened c from near mine to far theirs w).seats q n x → c.opened + 1 < n → ⊥
  still_fresh q n x h less = elim (same_or_not numbers n (c.opened + 1)) [
    | inl same ↦ (let l : c.opened + 1 < c.opened + 1 = subst (λ (m : ℕ). c.opened + 1 < m) same less in omega arith)
    | inr apart ↦ s.fresh q n x (had q n x apart h) (omega arith)
  ]

  desk_mid : (q : Text) (x : Bool) → (same_text q from ≡ x) → desk_at (cond x (Some (with_side near (c.opened + 1) mine near.desk)) (c.seats q)) ≡ desk_at (c.seats q)
  desk_mid q true e = (let at : q ≡ from = Rattle.std.proofs.lemmas.Map.Views.tells_apart texts.exact q from e in sym (ap desk_at (ap c.seats at ∙ is_near)))
  desk_mid q false e = refl

  desk_far : (q : Text) (x : Bool) → (same_text q to ≡ x) → desk_at (cond x (Some (with_side far (c.opened + 1) theirs far.desk)) (mid q)) ≡ desk_at (mid q)
  desk_far q true e = (let at : q ≡ to = Rattle.std.proofs.lemmas.Map.Views.tells_apart texts.exact q to e in sym (ap desk_at (ap mid at ∙ far_mid)))
  desk_far q false e = refl

  pub opened_shows : IsLinked (with_opened c from near mine to far theirs w).seats (c.opened + 1) w k → ShowsBytes (with_opened c from near mine to far theirs w) (record { time = b.time; desks = b.desks; links = map.insert b.links (c.opened + 1) k; opened = c.opened + 1 })
  opened_shows linked = record {
    time = s.time;
    opened = refl;
    desks = λ q. s.desks q ∙ (sym (desk_mid q (same_text q from) refl) ∙ sym (desk_far q (same_text q to) refl));
    links = λ n. linked_at linked n (same_or_not numbers n (c.opened + 1));
    sides = side_stands;
    fresh = still_fresh;
  }

  pub near_side : HasSide (with_opened c from near mine to far theirs w).seats from (c.opened + 1) mine
  near_side = side_kept mid to far far_mid (c.opened + 1) theirs far.desk from (c.opened + 1) mine (inl (apart_texts from to away)) (side_here c.seats from near is_near (c.opened + 1) mine near.desk)

  pub far_side : HasSide (with_opened c from near mine to far theirs w).seats to (c.opened + 1) theirs
  far_side = side_here mid to far far_mid (c.opened + 1) theirs far.desk

-- ---- the step

module _ (plan : Network) (certificate : Certificate) (certified : IsCertified plan certificate) (c : Contents) (b : ByteWorld) (seated : IsSeated plan certificate c.seats) (s : ShowsBytes c b) (from to : Text) (new : Contents) (o : IsLinkOpened from to c new) where
  away : from ≢ to
  away = (let e = seated.each from o.near o.is_near in λ same. hops_elsewhere plan certificate certified o.near.site e.1 to o.hop o.goes (e.0 ∙ same))

  abbrev channel : Channel
  channel = opened_between o.near.site o.far.site o.rq b.time

  linked : IsLinked (with_opened c from o.near (asks_at o.near.site to o.rq c.now) to o.far (accepts_at o.far.site c.now) o.wires).seats (c.opened + 1) o.wires channel
  linked =
      let near_is = seated.each from o.near o.is_near in
      let far_is = seated.each to o.far o.is_far in
      let near_there = near_side c b s from to away o.near o.far o.is_near o.is_far (asks_at o.near.site to o.rq c.now) (accepts_at o.far.site c.now) o.wires channel o.caller o.receiver in
      let far_there = far_side c b s from to away o.near o.far o.is_near o.is_far (asks_at o.near.site to o.rq c.now) (accepts_at o.far.site c.now) o.wires channel o.caller o.receiver in
      let N : Text → ℕ → Text → Type 0 = λ q now dest. HasSide (with_opened c from o.near (asks_at o.near.site to o.rq c.now) to o.far (accepts_at o.far.site c.now) o.wires).seats q (c.opened + 1) (asks_at o.near.site dest o.rq now) in
      let F : Text → ℕ → Type 0 = λ q now. HasSide (with_opened c from o.near (asks_at o.near.site to o.rq c.now) to o.far (accepts_at o.far.site c.now) o.wires).seats q (c.opened + 1) (accepts_at o.far.site now) in
      record {
        caller = near_is.0 ∙ sym o.caller;
        receiver = far_is.0 ∙ sym o.receiver;
        apart = λ e. away (sym o.caller ∙ (e ∙ o.receiver));
        at_caller = subst (λ (q : Text). N q b.time o.far.site.name) (sym o.caller) (subst (λ (m : ℕ). N from m o.far.site.name) (sym s.time) (subst (λ (d : Text). N from c.now d) (sym far_is.0) near_there));
        at_receiver = subst (λ (q : Text). F q b.time) (sym o.receiver) (subst (λ (m : ℕ). F to m) (sym s.time) far_there);
        to_caller = sym o.to_caller;
        to_receiver = sym o.to_receiver;
      }

  pub opened_becomes : Becomes plan certificate b (Open from to) Done new
  opened_becomes =
      let near_is = seated.each from o.near o.is_near in
      let far_is = seated.each to o.far o.is_far in
      let shown = opened_shows c b s from to away o.near o.far o.is_near o.is_far (asks_at o.near.site to o.rq c.now) (accepts_at o.far.site c.now) o.wires channel o.caller o.receiver linked in
      let P : Contents → Type 0 = λ z. ShowsBytes z (record { time = b.time; desks = b.desks; links = map.insert b.links (c.opened + 1) channel; opened = c.opened + 1 }) in (
        record { time = b.time; desks = b.desks; links = map.insert b.links (c.opened + 1) channel; opened = c.opened + 1 },
        inl (
          refl,
          (
            o.near.site,
            o.far.site,
            o.rq,
            o.hop,
            near_is.1,
            near_is.0,
            far_is.1,
            far_is.0,
            o.goes,
            o.proposal,
            ap (λ (m : ℕ). (let z : ByteWorld = record { time = b.time; desks = b.desks; links = map.insert b.links m channel; opened = m } in z)) (ap (λ (n : ℕ). n + 1) (sym s.opened)),
          ),
        ),
        subst P (sym o.is) shown,
      )

  pub opened_seated : IsSeated plan certificate new.seats
  opened_seated =
      let P : Contents → Type 0 = λ z. IsSeated plan certificate z.seats in
      let middle = with_seat c.seats from (with_side o.near (c.opened + 1) (asks_at o.near.site to o.rq c.now) o.near.desk) in
      subst P (sym o.is) (still_seated plan certificate middle to o.far (with_side o.far (c.opened + 1) (accepts_at o.far.site c.now) o.far.desk)
      (far_mid c b s from to away o.near o.far o.is_near o.is_far (asks_at o.near.site to o.rq c.now) (accepts_at o.far.site c.now) o.wires channel o.caller o.receiver) refl
      (still_seated plan certificate c.seats from o.near (with_side o.near (c.opened + 1) (asks_at o.near.site to o.rq c.now) o.near.desk) o.is_near refl seated))
