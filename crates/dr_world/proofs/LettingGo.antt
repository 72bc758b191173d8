-- An instance that a node is to forget: whether it is under way from there, in both worlds.
use Rattle.std.proofs.Common.{◌≡◌, ℕ, Bool, true, false, Option, None, Some, IsSome}
use Rattle.std.proofs.Common.{refl, sym, ap, subst, ◌∙◌, inl, inr}
use Rattle.std.specs.Prelude.{◌&&◌}
use Rattle.std.specs.Ordering.{nat_cmp, eq_by_cmp}
use Rattle.std.specs.FinMap as map
use Rattle.std.specs.BTreeMap as tree
use Rattle.std.specs.BTreeMap.{BTreeMap}
use Rattle.std.proofs.lemmas.Bool.{false≢true, and_parts}
use Rattle.std.proofs.lemmas.List.Folds.{Any-from_list_any, list_any_at}
use Rattle.std.proofs.lemmas.Map.Views.{tells_apart, Contains-keys_from_lookup}
use Rattle.dr_base.specs.Texts.{Text}
use Rattle.dr_ledger.specs.declared.ledger.Ledger.{Ghosts}
use Rattle.dr_ledger.proofs.Maps.{texts, ties_itself, cases_of}
use Rattle.dr_node.specs.declared.node.Node.{Node}
use Rattle.dr_session.specs.Pendings.{pending_of}
use Rattle.dr_session.specs.Ledgers.{Desk}
use Rattle.dr_world_model.specs.Worlds.{same_text}
use Rattle.dr_world_model.proofs.Lookups.{numbers}
use Rattle.dr_world_tie.specs.Channels.{Channel}
use Rattle.dr_world_tie.specs.Nodes.{ForgetsAt}
use Rattle.dr_world_tie.specs.ByteWorlds.{ByteWorld, IsUnderWay, PendsAt, caller_of, with_call}
use Rattle.dr_world.specs.declared.wires.Wires.{Wires}
use Rattle.dr_world.specs.Forgotten.{is_uid, is_under_way, pending_at, pending_of_side}
use Rattle.dr_world.specs.Forgotten.{pends, pends_here, pends_over}
use Rattle.dr_world.specs.Nodes.{seats_of}
use Rattle.dr_world.specs.Laws.{ForgetIsShown, UnderWayStays}
use Rattle.dr_world.specs.Shows.{Contents, Seat, ShowsBytes, IsLinked, LinkedAt}
use Rattle.dr_world.proofs.AtNodes.{called, desk_there, node_named}

this_uid : (uid : Text) (o : Option Text) → is_uid uid o ≡ true → o ≡ Some uid
this_uid uid None h = absurd (false≢true h)
this_uid uid (Some other) h = ap Some (tells_apart texts.exact other uid h)

module _ (c : Contents) (b : ByteWorld) (s : ShowsBytes c b) (name uid : Text) (number : ℕ) where
  -- what the node has pending at a link that it asked for is what the link's caller has
  pending_is : (w : Wires) (k : Channel) → IsLinked c.seats number w k → w.caller ≡ name →
      pending_at number (c.seats name) ≡ pending_of k.caller.core.pending
  pending_is w k h same =
      let here : c.seats name ≡ Some h.at_caller.0 = ap c.seats (sym same) ∙ h.at_caller.1 in
      ap (pending_at number) here ∙ ap pending_of_side h.at_caller.2

  abbrev there : Option Text
  there = pending_at number (c.seats name)

  pends_in : (o : Option Wires) (l : Option Channel) → map.get b.links number ≡ l →
      LinkedAt c.seats number o l → pends_over name uid there o ≡ true → PendsAt b name uid number
  pends_in None l f h p = absurd (false≢true p)
  pends_in (Some w) None f h p = absurd h
  pends_in (Some w) (Some k) f h p =
      let both = and_parts (same_text w.caller name) (is_uid uid there) p in
      let same = tells_apart texts.exact w.caller name both.0 in
      let has = this_uid uid there both.1 in
      (k, f, h.caller ∙ same, sym (pending_is w k h same) ∙ has)

  pub pends_there : pends c.seats c.wires name uid number ≡ true → PendsAt b name uid number
  pends_there p = pends_in (c.wires number) (map.get b.links number) refl (s.links number) p

  pended_in : (o : Option Wires) (k : Channel) → LinkedAt c.seats number o (Some k) →
      caller_of k ≡ name → pending_of k.caller.core.pending ≡ Some uid →
      pends_over name uid there o ≡ true
  pended_in None k h called_by has = absurd h
  pended_in (Some w) k h called_by has =
      let same : w.caller ≡ name = sym h.caller ∙ called_by in
      let here : same_text w.caller name ≡ true =
      ap (λ (n : Text). same_text n name) same ∙ ties_itself texts name in
      let this : is_uid uid there ≡ true =
      ap (is_uid uid) (pending_is w k h same ∙ has) ∙ ties_itself texts uid in
      ap (λ (x : Bool). x && is_uid uid there) here ∙ this

  pub pended : PendsAt b name uid number → pends c.seats c.wires name uid number ≡ true
  pended (k, f, called_by, has) =
      let P : Option Channel → Type 0 = λ l. LinkedAt c.seats number (c.wires number) l in
      pended_in (c.wires number) k (subst P f (s.links number)) called_by has

  seat_in : (seat : Option Seat) (w : Option Wires) →
      pends_over name uid (pending_at number seat) w ≡ true → (it : Seat) × (seat ≡ Some it)
  seat_in seat None h = absurd (false≢true h)
  seat_in None (Some w) h = absurd (false≢true (and_parts (same_text w.caller name) false h).1)
  seat_in (Some it) (Some w) h = (it, refl)

  pub seat_there : pends c.seats c.wires name uid number ≡ true →
      (it : Seat) × (c.seats name ≡ Some it)
  seat_there p = seat_in (c.seats name) (c.wires number) p

pub under_way_stays : UnderWayStays
under_way_stays plan certificate c b seated s name uid number p =
    let it = seat_there c b s name uid number p in
    let node = node_named plan certificate c seated name it.0 it.1 in
    (b, inl (node, inl ((number, pends_there c b s name uid number p), refl, refl)), s)

pub forgets : ForgetIsShown
forgets plan certificate c b seated s name seat is uid answer t none h arms =
    let node = node_named plan certificate c seated name seat is in
    let here : ForgetsAt seat.desk uid answer t = (h, arms) in
    let at_desk : ForgetsAt (b.desks name) uid answer t =
    subst (λ (d : Desk). ForgetsAt d uid answer t) (sym (desk_there c b s name seat is)) here in
    let free : IsUnderWay b name uid → ⊥ = λ u.
    false≢true (sym (none u.0) ∙ pended c b s name uid u.0 u.1) in
    let shown = called c b s name seat is t in
    (with_call b name t, inl (node, inr (free, (answer, t, at_desk, refl, refl))), shown)

-- ---- as the call has it

wires_there : (name uid : Text) (pending : Option Text) (o : Option Wires) →
    pends_over name uid pending o ≡ true → IsSome o
wires_there name uid pending None h = absurd (false≢true h)
wires_there name uid pending (Some w) h = refl

module _ {L : Type 0} {l : Ghosts L} (nodes : BTreeMap Text (Node L l)) (wires : BTreeMap ℕ Wires) where
  found : (name uid : Text) (number : ℕ) → pends_here nodes wires name uid number ≡ true →
      is_under_way nodes wires name uid ≡ true
  found name uid number is =
      let o = tree.get nat_cmp wires number in
      let pending = pending_at number (seats_of nodes name) in
      let there : IsSome o = wires_there name uid pending o is in
      let exact : (x y : ℕ) → eq_by_cmp nat_cmp x y ≡ true → x ≡ y = tells_apart numbers.exact in
      let among = Contains-keys_from_lookup {eq = eq_by_cmp nat_cmp} exact number wires.entries there in
      let here = pends_here nodes wires name uid in
      list_any_at here (tree.keys wires) among.0 number among.1 (ap here among.2 ∙ is)

  pub none_over : (name uid : Text) → is_under_way nodes wires name uid ≡ false →
      (number : ℕ) → pends_here nodes wires name uid number ≡ false
  none_over name uid none number = elim (cases_of (pends_here nodes wires name uid number)) [
    | inl is ↦ absurd (false≢true (sym none ∙ found name uid number is))
    | inr lacks ↦ lacks
  ]

  pub some_over : (name uid : Text) → is_under_way nodes wires name uid ≡ true →
      (number : ℕ) × (pends_here nodes wires name uid number ≡ true)
  some_over name uid some =
      let at = Any-from_list_any (pends_here nodes wires name uid) (tree.keys wires) some in
      (at.1, at.4)
