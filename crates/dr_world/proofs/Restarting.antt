-- A node that came up again, in both worlds.
use Rattle.std.proofs.Common.{◌≡◌, Decides, ℕ, ◌+◌, ◌<◌, ◌≤◌, Bool, true, false, cond, List, [], ◌∷◌, ◌++◌, length, take, filter, Option, None, Some, refl, sym, ap, subst, ◌∙◌, inl, inr, ◌⊎◌}
use Rattle.std.specs.Prelude.{◌||◌, ◌↔◌, not, Contains, is_some}
use Rattle.std.specs.Option.{option_map, IsSome}
use Rattle.std.specs.Ordering.{nat_cmp, eq_by_cmp}
use Rattle.std.specs.Cmp.{eq_by_cmp_equiv}
use Rattle.std.specs.List.Sorted.{IsStrictlySortedBy}
use Rattle.std.specs.FinMap as map
use Rattle.std.specs.BTreeMap as tree
use Rattle.std.specs.BTreeMap.{BTreeMap, is_at}
use Rattle.std.proofs.lemmas.List.{append-nil, take_all}
use Rattle.std.proofs.lemmas.List.Elements.{Contains-push, Contains-push_cases, Contains-append_left}
use Rattle.std.proofs.lemmas.List.Kept.{IsStrictlySortedBy-filter}
use Rattle.std.proofs.lemmas.Map.Views.{tells_apart, Contains-keys_from_lookup}
use Rattle.dr_cert_hops.proofs.Rows.{filter_has}
use Rattle.dr_plan_model.proofs.Gathered.{nothing_in_nil}
use Rattle.dr_base.specs.Texts.{Text, text_cmp}
use Rattle.dr_plan_model.specs.Networks.{Network}
use Rattle.dr_plan_sound.specs.declared.certificate.Certificate.{Certificate}
use Rattle.dr_site.specs.Sites.{IsCertified}
use Rattle.dr_ulstate.specs.declared.table.State.{State}
use Rattle.dr_ledger.specs.declared.ledger.Ledger.{Ghosts}
use Rattle.dr_ledger.proofs.Maps.{texts, same_or_not, ties_itself, cases_of}
use Rattle.dr_session.specs.declared.desk.LedgerDesk.{LedgerDesk}
use Rattle.dr_session.specs.declared.ends.Heard.TheVariants as heard
use Rattle.dr_session.specs.Ledgers.{desk}
use Rattle.dr_node.specs.declared.event.LinkEvent.{LinkEvent}
use Rattle.dr_node.specs.declared.event.LinkEvent.TheVariants as event
use Rattle.dr_node.specs.declared.links.LinkSide.{LinkSide}
use Rattle.dr_node.specs.declared.node.Node.{Node}
use Rattle.dr_node.specs.Sides.{is_standing, is_taken}
use Rattle.dr_world_model.proofs.Lookups.{numbers}
use Rattle.dr_world_model.specs.Worlds.{same_text}
use Rattle.dr_world_tie.specs.Channels.{Channel}
use Rattle.dr_world_tie.specs.ByteWorlds.{Side as WorldSide, ByteWorld, AreLinksOf, Done, Restart, is_there, caller_of, receiver_of}
use Rattle.dr_world_tie.proofs.Others.{as_pairs}
use Rattle.dr_world.specs.declared.steps.StepNote.{StepNote}
use Rattle.dr_world.specs.declared.steps.StepNote.TheVariants as note
use Rattle.dr_world.specs.declared.wires.Wires.{Wires}
use Rattle.dr_world.specs.declared.world.World.{World}
use Rattle.dr_world.specs.Shows.{Contents, Seat, Seats, ShowsBytes, IsSeated, Becomes, HasSide, IsOfLink, LinkedAt, desk_at, side_of, with_seat}
use Rattle.dr_world.specs.Nodes.{AllStandIn, HasSides, event_at, seat_of, seats_of}
use Rattle.dr_world.specs.Restarted.{AllFarHear, AreForgotten, AreLinksAt, ComesUp, ComesUpIn, FarHears, FarHearsIn, far_of, is_end}
use Rattle.dr_world.specs.Whole.{AllStand, Meets, MeetsIn, StepsTo, contents}
use Rattle.dr_world.proofs.AtNodes.{node_named, one_seat, strangers}
use Rattle.dr_world.proofs.Counted.{linked_there}
use Rattle.dr_world.proofs.Doing.{still_seated}
use Rattle.dr_world.proofs.FarEnds.{AllFar, AllFarDone, FarDone, all_far}

-- the test of two names tells whether they are one
pub same_told : (name other : Text) → Decides (same_text name other) (name ≡ other)
same_told name other = (tells_apart texts.exact name other, λ e. subst (λ (t : Text). same_text name t ≡ true) e (ties_itself texts name))

-- its sides are gone
abbrev pub emptied : Seat → Seat
emptied seat = record { site = seat.site; sides = map.empty; desk = seat.desk }

same_there : (seats : Seats) (n : ℕ) (node : Text) (o : Option Wires) (k : Option Channel) → LinkedAt seats n o k → is_there node k ≡ is_end node o
same_there seats n node None None h = refl
same_there seats n node (Some w) (Some k) h = λ i. same_text (h.caller i) node || same_text (h.receiver i) node
same_there seats n node None (Some k) h = absurd h
same_there seats n node (Some w) None h = absurd h

neither : (a b : Bool) → (a || b) ≡ false → (a ≡ false) × (b ≡ false)
neither true b h = (let f : ⊥ = cc in absurd f)
neither false b h = (refl, h)

module _ (plan : Network) (certificate : Certificate) (certified : IsCertified plan certificate) (node : Text) (c mid new : Contents) (b : ByteWorld) (seated : IsSeated plan certificate c.seats) (s : ShowsBytes c b) (all : List ℕ)
    (rises : IsStrictlySortedBy nat_cmp all) (are : (n : ℕ) → Contains all n ↔ (is_end node (c.wires n) ≡ true)) (g : AllFar plan certificate certified node b b all mid) (seat : Seat) (is : mid.seats node ≡ Some seat)
    (now : new.now ≡ mid.now) (opened : new.opened ≡ mid.opened) (seats : (q : Text) → new.seats q ≡ with_seat mid.seats node (emptied seat) q)
    (gone : (n : ℕ) → Contains all n → new.wires n ≡ None) (kept : (n : ℕ) → (Contains all n → ⊥) → new.wires n ≡ mid.wires n) where
  there_is : (n : ℕ) → is_there node (map.get b.links n) ≡ is_end node (c.wires n)
  there_is n = same_there c.seats n node (c.wires n) (map.get b.links n) (s.links n)

  are_links : AreLinksOf b node all
  are_links = (rises, λ n. (λ among. there_is n ∙ (are n).0 among, λ e. (are n).1 (sym (there_is n) ∙ e)))

  abbrev stays : ℕ → Bool
  stays n = not (is_there node (map.get b.links n))

  abbrev result : ByteWorld
  result = record { time = b.time; desks = g.after.desks; links = map.retain_keys b.links stays; opened = b.opened }

  left : (n : ℕ) → map.get result.links n ≡ cond (stays n) (map.get b.links n) None
  left n = map.get-retain_keys b.links stays n (λ x e. ap stays (sym (numbers.exact n x e)))

  -- ---- seats

  at_node : new.seats node ≡ Some (emptied seat)
  at_node = seats node ∙ ap (λ (x : Bool). cond x (Some (emptied seat)) (mid.seats node)) (ties_itself texts node)

  elsewhere : (q : Text) → same_text q node ≡ false → new.seats q ≡ mid.seats q
  elsewhere q apart = seats q ∙ ap (λ (x : Bool). cond x (Some (emptied seat)) (mid.seats q)) apart

  no_side : (n : ℕ) (x : LinkSide) → HasSide new.seats node n x → ⊥
  no_side n x h =
      let one : h.0 ≡ emptied seat = one_seat (new.seats node) h.0 (emptied seat) h.1 at_node in
      let got : map.get (emptied seat).sides n ≡ Some x = subst (λ (y : Seat). map.get y.sides n ≡ Some x) one h.2 in
      let both : None ≡ Some x = sym (map.get-empty nat_cmp n) ∙ got in
      let f : ⊥ = cc in
      f

  -- a side that is there now is another node's, which had it
  had : (q : Text) (n : ℕ) (x : LinkSide) → HasSide new.seats q n x → (same_text q node ≡ false) × HasSide mid.seats q n x
  had q n x h = elim (same_or_not texts q node) [
    | inl same ↦ (let P : Text → Type 0 = λ z. HasSide new.seats z n x in absurd (no_side n x (subst P same h)))
    | inr apart ↦ (apart, (h.0, sym (elsewhere q apart) ∙ h.1, h.2))
  ]

  still : (q : Text) (n : ℕ) (x : LinkSide) → same_text q node ≡ false → HasSide mid.seats q n x → HasSide new.seats q n x
  still q n x apart h = (h.0, elsewhere q apart ∙ h.1, h.2)

  -- ---- links

  linked_still : (n : ℕ) (o : Option Wires) (k : Option Channel) → LinkedAt mid.seats n o k → is_there node k ≡ false → LinkedAt new.seats n o k
  linked_still n None None h e = h
  linked_still n None (Some k) h e = absurd h
  linked_still n (Some w) None h e = absurd h
  linked_still n (Some w) (Some k) h e =
      let away = neither (same_text (caller_of k) node) (same_text (receiver_of k) node) e in
      record {
        caller = h.caller;
        receiver = h.receiver;
        apart = h.apart;
        at_caller = still w.caller n _ (ap (λ (q : Text). same_text q node) (sym h.caller) ∙ away.0) h.at_caller;
        at_receiver = still w.receiver n _ (ap (λ (q : Text). same_text q node) (sym h.receiver) ∙ away.1) h.at_receiver;
        to_caller = h.to_caller;
        to_receiver = h.to_receiver;
      }

  out_of : (n : ℕ) → is_there node (map.get b.links n) ≡ false → Contains all n → ⊥
  out_of n away among = (let e : true ≡ false = sym (there_is n ∙ (are n).0 among) ∙ away in let f : ⊥ = cc in f)

  linked : (n : ℕ) → LinkedAt new.seats n (new.wires n) (map.get result.links n)
  linked n = elim (cases_of (is_there node (map.get b.links n))) [
    | inl here ↦
        let none : map.get result.links n ≡ None = left n ∙ ap (λ (x : Bool). cond (not x) (map.get b.links n) None) here in
        let wires : new.wires n ≡ None = gone n ((are n).1 (sym (there_is n) ∙ here)) in
        let W : Option Wires → Type 0 = λ o. LinkedAt new.seats n o (map.get result.links n) in
        let K : Option Channel → Type 0 = λ k. LinkedAt new.seats n None k in
        subst W (sym wires) (subst K (sym none) tt)
    | inr away ↦
        let out : Contains all n → ⊥ = out_of n away in
        let link : map.get result.links n ≡ map.get g.after.links n = left n ∙ (ap (λ (x : Bool). cond (not x) (map.get b.links n) None) away ∙ sym (g.others n out)) in
        let W : Option Wires → Type 0 = λ o. LinkedAt new.seats n o (map.get result.links n) in
        let K : Option Channel → Type 0 = λ k. LinkedAt new.seats n (mid.wires n) k in
        subst W (sym (kept n out)) (subst K (sym link) (linked_still n (mid.wires n) (map.get g.after.links n) (g.shows.links n) (ap (is_there node) (g.others n out) ∙ away)))
  ]

  -- ---- desks

  desk_kept : (q : Text) (x : Bool) → same_text q node ≡ x → desk_at (mid.seats q) ≡ desk_at (cond x (Some (emptied seat)) (mid.seats q))
  desk_kept q true e = (let same : q ≡ node = tells_apart texts.exact q node e in ap desk_at (ap mid.seats same ∙ is))
  desk_kept q false e = refl

  -- ---- sides

  one_side : (q : Text) (n : ℕ) (x y : LinkSide) → HasSide mid.seats q n x → HasSide mid.seats q n y → x ≡ y
  one_side q n x y h k =
      let seats_same : h.0 ≡ k.0 = one_seat (mid.seats q) h.0 k.0 h.1 k.1 in
      let got : map.get k.0.sides n ≡ Some x = subst (λ (z : Seat). map.get z.sides n ≡ Some x) seats_same h.2 in
      let both : Some x ≡ Some y = sym got ∙ k.2 in
      cc

  -- the far side of a link that is lost is over
  lost_side : (q : Text) (n : ℕ) (x : LinkSide) → HasSide mid.seats q n x → same_text q node ≡ false → Contains all n → IsOfLink mid.wires q n → is_taken x ≡ false
  lost_side q n x h apart among (w, wired, which) =
      let l = linked_there mid g.after g.shows n w wired in
      elim which [
        | inl at_caller ↦
            let P : Text → Type 0 = λ z. HasSide mid.seats z n x in
            ap is_taken (one_side w.caller n x (side_of false l.0.caller) (subst P at_caller h) l.2.at_caller)
        | inr at_receiver ↦
            let P : Text → Type 0 = λ z. HasSide mid.seats z n x in
            let away : same_text (receiver_of l.0) node ≡ false = ap (λ (z : Text). same_text z node) (l.2.receiver ∙ sym at_receiver) ∙ apart in
            ap is_taken (one_side w.receiver n x (side_of true l.0.receiver) (subst P at_receiver h) l.2.at_receiver) ∙ ap (λ (q : State). is_standing q) (g.over n among l.0 l.1 away)
      ]

  sides : (q : Text) (n : ℕ) (x : LinkSide) → HasSide new.seats q n x → IsOfLink new.wires q n ⊎ (is_taken x ≡ false)
  sides q n x h =
      let was = had q n x h in
      elim (g.shows.sides q n x was.1) [
        | inr free ↦ inr free
        | inl of ↦ elim (cases_of (is_there node (map.get b.links n))) [
          | inl here ↦ inr (lost_side q n x was.1 was.0 ((are n).1 (sym (there_is n) ∙ here)) of)
          | inr away ↦ inl (of.0, kept n (out_of n away) ∙ of.1, of.2)
        ]
      ]

  shown : ShowsBytes new result
  shown = record {
    time = sym g.time ∙ (g.shows.time ∙ sym now);
    opened = sym g.opened ∙ (g.shows.opened ∙ sym opened);
    desks = λ q. g.shows.desks q ∙ (desk_kept q (same_text q node) refl ∙ ap desk_at (sym (seats q)));
    links = linked;
    sides = sides;
    fresh = λ q n x h less. g.shows.fresh q n x (had q n x h).1 (subst (λ (m : ℕ). m < n) opened less);
  }

  pub came_up : Becomes plan certificate b (Restart node) Done new
  came_up = (result, inl (node_named plan certificate mid g.seated node seat is, (refl, (all, g.after.desks, are_links, g.ends, refl))), shown)

  pub up_seated : IsSeated plan certificate new.seats
  up_seated =
      let P : Seats → Type 0 = λ z. IsSeated plan certificate z in
      let same : new.seats ≡ with_seat mid.seats node (emptied seat) = λ i. λ q. seats q i in
      subst P (sym same) (still_seated plan certificate mid.seats node seat (emptied seat) is refl g.seated)

-- ---- as the calls have it

module _ {L : Type 0} {l : Ghosts L} (node : Text) where
  same_stood : (old new : World L l) → new.nodes ≡ old.nodes → AllStand new → AllStand old
  same_stood old new same all = (let P : BTreeMap Text (Node L l) → Type 0 = λ m. AllStandIn m in subst P same all)

  met_stood : (old new : World L l) (said : StepNote) (n : ℕ) (w : Wires) (o : Option Wires) → MeetsIn (event_at (event.Heard heard.End)) o n (far_of node w) old said new → AllStand new → AllStand old
  met_stood old new said n w None h = same_stood old new h.2
  met_stood old new said n w (Some v) h = h.0

  heard_stood : (old new : World L l) (n : ℕ) (o : Option Wires) → FarHearsIn o node n old new → AllStand new → AllStand old
  heard_stood old new n None same all = (let P : World L l → Type 0 = λ z. AllStand z in subst P same all)
  heard_stood old new n (Some w) h all = met_stood old new h.0 n w (tree.get nat_cmp old.wires n) h.1 all

  pub all_heard_stood : (all : List ℕ) (old new : World L l) → AllFarHear node all old new → AllStand new → AllStand old
  all_heard_stood [] old new same all = (let P : World L l → Type 0 = λ z. AllStand z in subst P same all)
  all_heard_stood (n ∷ ns) old new (mid, one, more) all = heard_stood old mid n (tree.get nat_cmp old.wires n) one (all_heard_stood ns mid new more all)

  heard_done : (old new : World L l) (n : ℕ) (o : Option Wires) → tree.get nat_cmp old.wires n ≡ o → FarHearsIn o node n old new → AllStand new → FarDone node o (contents old) n (contents new)
  heard_done old new n None none same all = ap (λ (z : World L l). contents z) same
  heard_done old new n (Some w) wired (said, meets) all =
      let P : Option Wires → Type 0 = λ o. MeetsIn (event_at (event.Heard heard.End)) o n (far_of node w) old said new in
      let m = (subst P wired meets).1 all in
      (m.0, m.2)

  pub all_heard_done : (all : List ℕ) (old new : World L l) → AllFarHear node all old new → AllStand new → AllFarDone node (contents old) all (contents new)
  all_heard_done [] old new same all = ap (λ (z : World L l). contents z) same
  all_heard_done (n ∷ ns) old new (mid, one, more) all =
      (contents mid, heard_done old mid n (tree.get nat_cmp old.wires n) refl one (all_heard_stood ns mid new more all), all_heard_done ns mid new more all)

  -- ---- the node itself

  module _ (old new : BTreeMap Text (Node L l)) where
    up_stood_in : (o : Option (Node L l)) → tree.get text_cmp old node ≡ o → ComesUpIn o node old new → AllStandIn new → AllStandIn old
    up_stood_in None none same all = (let P : BTreeMap Text (Node L l) → Type 0 = λ m. AllStandIn m in subst P same all)
    up_stood_in (Some n) has h all = λ q m at. elim (same_or_not texts q node) [
      | inl same ↦
          let e : Some n ≡ Some m = sym has ∙ (ap (tree.get text_cmp old) (sym same) ∙ at) in
          let one : n ≡ m = cc in
          let here : tree.get text_cmp new node ≡ Some h.after = h.at node ∙ ap (λ (x : Bool). cond x (Some h.after) (tree.get text_cmp old node)) (ties_itself texts node) in
          let D : LedgerDesk L → Type 0 = λ d. l.stands d.ledger in
          let N : Node L l → Type 0 = λ z. l.stands z.desk.ledger in
          subst N one (subst D h.desk (all node h.after here))
      | inr apart ↦ all q m (h.at q ∙ (ap (λ (x : Bool). cond x (Some h.after) (tree.get text_cmp old q)) apart ∙ at))
    ]

    up_seats_in : (n : Node L l) → HasSides node n map.empty old new → (q : Text) → seats_of new q ≡ with_seat (seats_of old) node (emptied (seat_of n)) q
    up_seats_in n h q = ap (option_map seat_of) (h.at q) ∙ by_name (same_text q node)
      where
        by_name : (x : Bool) → option_map seat_of (cond x (Some h.after) (tree.get text_cmp old q)) ≡ cond x (Some (emptied (seat_of n))) (seats_of old q)
        by_name true = ap Some (λ i. record { site = l.site (h.desk i).ledger; sides = h.links i; desk = desk (l.book (h.desk i).ledger) (l.armed (h.desk i).ledger) })
        by_name false = refl

  -- the node of a seat
  seat_node : (m : BTreeMap Text (Node L l)) (seat : Seat) (o : Option (Node L l)) → tree.get text_cmp m node ≡ o → seats_of m node ≡ Some seat → (n : Node L l) × (tree.get text_cmp m node ≡ Some n)
  seat_node m seat None none h = (let e : None ≡ Some seat = sym (ap (option_map seat_of) none) ∙ h in let f : ⊥ = cc in absurd f)
  seat_node m seat (Some n) has h = (n, has)

  module _ (old mid new : World L l) (all : List ℕ) (links : AreLinksAt node old.wires all) (far : AllFarHear node all old mid) (wires : AreForgotten all mid.wires new.wires) (nodes : ComesUp node mid.nodes new.nodes) (time : new.time ≡ mid.time)
      (opened : new.opened ≡ mid.opened) (n : Node L l) (has : tree.get text_cmp old.nodes node ≡ Some n) where
    up_stood : AllStand new → AllStand mid
    up_stood all = up_stood_in mid.nodes new.nodes (tree.get text_cmp mid.nodes node) refl nodes all

    pub restarts : StepsTo (Restart node) old note.Done new
    restarts = (
      (λ stand. all_heard_stood all old mid far (up_stood stand)),
      λ plan certificate certified b seated s stand.
          let done = all_heard_done all old mid far (up_stood stand) in
          let g = all_far plan certificate certified node all (contents old) (contents mid) b b done seated s refl (λ m among. refl) (as_pairs all links.0) in
          let seat = g.seated.all node (node_named plan certificate (contents old) seated node (seat_of n) (ap (option_map seat_of) has)) in
          let it = seat_node mid.nodes seat.0 (tree.get text_cmp mid.nodes node) refl seat.1 in
          let U : Option (Node L l) → Type 0 = λ o. ComesUpIn o node mid.nodes new.nodes in
          let sides = subst U it.1 nodes in
          let seats = up_seats_in mid.nodes new.nodes it.0 sides in
          let is : (contents mid).seats node ≡ Some (seat_of it.0) = ap (option_map seat_of) it.1 in (
            up_seated plan certificate certified node (contents old) (contents mid) (contents new) b seated s all links.0 links.1 g (seat_of it.0) is (λ i. (time i).passed) opened seats wires.0 wires.1,
            ∣ came_up plan certificate certified node (contents old) (contents mid) (contents new) b seated s all links.0 links.1 g (seat_of it.0) is (λ i. (time i).passed) opened seats wires.0 wires.1 ∣₁,
          ),
    )

-- a name that no node has
pub no_node : {L : Type 0} {l : Ghosts L} (w : World L l) (node : Text) → tree.get text_cmp w.nodes node ≡ None → StepsTo (Restart node) w note.Skipped w
no_node w node none = (
  (λ all. all),
  λ plan certificate certified b seated s all. (seated, ∣ strangers plan certificate (contents w) b seated s node (ap (option_map seat_of) none) (Restart node) refl ∣₁),
)

-- as the calls have it
module _ {L : Type 0} {l : Ghosts L} (node : Text) where
  is_there_now : (o : Option (Node L l)) → is_some o ≡ true → (n : Node L l) × (o ≡ Some n)
  is_there_now None e = (let f : ⊥ = cc in absurd f)
  is_there_now (Some n) e = (n, refl)

  is_nowhere : (o : Option (Node L l)) → is_some o ≡ false → o ≡ None
  is_nowhere None e = refl
  is_nowhere (Some n) e = (let f : ⊥ = cc in absurd f)

  pub restarts_as : (old mid : World L l) (nodes : BTreeMap Text (Node L l)) (wires : BTreeMap ℕ Wires) (all heard forgotten : List ℕ) → heard ≡ all → forgotten ≡ all → is_some (tree.get text_cmp old.nodes node) ≡ true → AreLinksAt node old.wires all
      → AllFarHear node heard old mid → AreForgotten forgotten mid.wires wires → ComesUp node mid.nodes nodes
      → StepsTo (Restart node) old note.Done (record { alloc = mid.alloc; time = mid.time; opened = mid.opened; nodes = nodes; wires = wires; lost = mid.lost })
  restarts_as old mid nodes wires all heard forgotten e f some links far gone up =
      let there = is_there_now (tree.get text_cmp old.nodes node) some in
      let H : List ℕ → Type 0 = λ ns. AllFarHear node ns old mid in
      let G : List ℕ → Type 0 = λ ns. AreForgotten ns mid.wires wires in
      restarts node old mid (record { alloc = mid.alloc; time = mid.time; opened = mid.opened; nodes = nodes; wires = wires; lost = mid.lost }) all links (subst H e far) (subst G f gone) up refl refl there.0 there.1

  pub nowhere : (w : World L l) → is_some (tree.get text_cmp w.nodes node) ≡ false → StepsTo (Restart node) w note.Skipped w
  nowhere w none = no_node w node (is_nowhere (tree.get text_cmp w.nodes node) none)

  -- ---- one far end after the other

  pub unheard : (w : World L l) (link : ℕ) → None ≡ tree.get nat_cmp w.wires link → FarHears node link w w
  unheard w link none = (let P : Option Wires → Type 0 = λ o. FarHearsIn o node link w w in subst P none refl)

  pub heard_there : (old new : World L l) (link : ℕ) (w : Wires) (side : WorldSide) (said : StepNote) (e : LinkEvent) → Some w ≡ tree.get nat_cmp old.wires link → side ≡ far_of node w → e ≡ event.Heard heard.End → Meets (event_at e) link side old said new → FarHears node link old new
  heard_there old new link w side said e has far is meets =
      let P : Option Wires → Type 0 = λ o. FarHearsIn o node link old new in
      let S : WorldSide → Type 0 = λ z. Meets (event_at e) link z old said new in
      let E : LinkEvent → Type 0 = λ z. Meets (event_at z) link (far_of node w) old said new in
      subst P has (said, subst E is (subst S far meets))

  heard_more : (all : List ℕ) (n : ℕ) (a b c : World L l) → AllFarHear node all a b → FarHears node n b c → AllFarHear node (all ++ n ∷ []) a c
  heard_more [] n a b c same h = (let P : World L l → Type 0 = λ z. FarHears node n z c in (c, subst P same h, refl))
  heard_more (m ∷ ms) n a b c (mid, one, more) h = (mid, one, heard_more ms n mid b c more h)

  pub heard_next : (links : List ℕ) (i n : ℕ) (a b c : World L l) → AllFarHear node (take i links) a b → FarHears node n b c → take i links ++ n ∷ [] ≡ take (i + 1) links → AllFarHear node (take (i + 1) links) a c
  heard_next links i n a b c h one listed =
      let P : List ℕ → Type 0 = λ ns. AllFarHear node ns a c in
      subst P listed (heard_more (take i links) n a b c h one)

  pub heard_all : (links : List ℕ) (i : ℕ) (a b : World L l) → length links ≤ i → AllFarHear node (take i links) a b → AllFarHear node links a b
  heard_all links i a b all h = (let P : List ℕ → Type 0 = λ ns. AllFarHear node ns a b in subst P (take_all i links all) h)

-- ---- wires that go

pub none_forgotten : (wires : BTreeMap ℕ Wires) → AreForgotten [] wires wires
none_forgotten wires = ((λ n among. absurd (nothing_in_nil n among)), λ n out. refl)

pub forgotten_more : (links : List ℕ) (i link : ℕ) (first old new : BTreeMap ℕ Wires) → AreForgotten (take i links) first old → ((q : ℕ) → tree.get nat_cmp new q ≡ cond (is_at (nat_cmp link) q) None (tree.get nat_cmp old q)) → take i links ++ link ∷ [] ≡ take (i + 1) links
    → AreForgotten (take (i + 1) links) first new
forgotten_more links i link first old new h updates listed =
    let P : List ℕ → Type 0 = λ ns. AreForgotten ns first new in
    let at : (q : ℕ) → tree.get nat_cmp new q ≡ cond (eq_by_cmp nat_cmp q link) None (tree.get nat_cmp old q) = λ q. updates q ∙ ap (λ (b : Bool). cond b None (tree.get nat_cmp old q)) ((eq_by_cmp_equiv numbers.total).symm link q) in
    let here : (q : ℕ) → q ≡ link → tree.get nat_cmp new q ≡ None = λ q same. at q ∙ ap (λ (b : Bool). cond b None (tree.get nat_cmp old q)) (ap (λ (z : ℕ). eq_by_cmp nat_cmp z link) same ∙ ties_itself numbers link) in
    let there : (q : ℕ) → eq_by_cmp nat_cmp q link ≡ false → tree.get nat_cmp new q ≡ tree.get nat_cmp old q = λ q apart. at q ∙ ap (λ (b : Bool). cond b None (tree.get nat_cmp old q)) apart in
    subst P listed (
      (λ q among. elim (same_or_not numbers q link) [
        | inl same ↦ here q same
        | inr apart ↦ elim (Contains-push_cases (take i links) link q among) [
          | inl before ↦ there q apart ∙ h.0 q before
          | inr last ↦ here q (sym last)
        ]
      ]),
      λ q out. elim (same_or_not numbers q link) [
        | inl same ↦ (let C : ℕ → Type 0 = λ z. Contains (take i links ++ link ∷ []) z in absurd (out (subst C (sym same) (Contains-push (take i links) link))))
        | inr apart ↦ there q apart ∙ h.1 q (λ before. out (Contains-append_left (take i links) (link ∷ []) q before))
      ],
    )

pub all_forgotten : (links : List ℕ) (i : ℕ) (first new : BTreeMap ℕ Wires) → length links ≤ i → AreForgotten (take i links) first new → AreForgotten links first new
all_forgotten links i first new all h = (let P : List ℕ → Type 0 = λ ns. AreForgotten ns first new in subst P (take_all i links all) h)

-- ---- the numbers of links

named_there : (node : Text) (o : Option Wires) → is_end node o ≡ true → IsSome o
named_there node None e = (let f : ⊥ = cc in absurd f)
named_there node (Some w) e = refl

pub links_are : (node : Text) (wires : BTreeMap ℕ Wires) → tree.IsOrdered nat_cmp wires → AreLinksAt node wires (filter (λ n. is_end node (tree.get nat_cmp wires n)) (tree.keys wires))
links_are node wires ordered = (
  IsStrictlySortedBy-filter nat_cmp (λ n. is_end node (tree.get nat_cmp wires n)) (tree.keys wires) ordered,
  λ n. (
    λ among. ((filter_has (λ m. is_end node (tree.get nat_cmp wires m)) (tree.keys wires) n).0 among).1,
    λ e. (filter_has (λ m. is_end node (tree.get nat_cmp wires m)) (tree.keys wires) n).1
        (Contains-keys_from_lookup {eq = eq_by_cmp nat_cmp} (λ x y t. tells_apart numbers.exact x y t) n wires.entries (named_there node (tree.get nat_cmp wires n) e), e),
  ),
)

-- ---- the node itself, as the call has it

pub comes_up : {L : Type 0} {l : Ghosts L} (old new : BTreeMap Text (Node L l)) (name : Text) (n after : Node L l) → Some n ≡ tree.get text_cmp old name → ((q : Text) → tree.get text_cmp new q ≡ cond (is_at (text_cmp name) q) (Some after) (tree.get text_cmp old q))
    → after.links ≡ map.empty → after.desk ≡ n.desk → ComesUp name old new
comes_up {L} {l} old new name n after has updates links desk =
    let P : Option (Node L l) → Type 0 = λ o. ComesUpIn o name old new in
    subst P has (record { was = sym has; after = after; links = links; desk = desk; at = λ q. updates q ∙ ap (λ (b : Bool). cond b (Some after) (tree.get text_cmp old q)) ((eq_by_cmp_equiv texts.total).symm name q) })

pub links_found : (node : Text) (wires : BTreeMap ℕ Wires) (found rest : List ℕ) → tree.IsOrdered nat_cmp wires → rest ≡ [] → found ++ filter (λ n. is_end node (tree.get nat_cmp wires n)) rest ≡ filter (λ n. is_end node (tree.get nat_cmp wires n)) (tree.keys wires) → AreLinksAt node wires found
links_found node wires found rest ordered none all =
    let same : found ≡ filter (λ n. is_end node (tree.get nat_cmp wires n)) (tree.keys wires) = sym (append-nil found) ∙ (ap (λ (r : List ℕ). found ++ filter (λ n. is_end node (tree.get nat_cmp wires n)) r) (sym none) ∙ all) in
    let P : List ℕ → Type 0 = λ ns. AreLinksAt node wires ns in
    subst P (sym same) (links_are node wires ordered)
