-- A call of one of several nodes, as they are seen.
use Rattle.std.proofs.Common.{◌≡◌, ℕ, Bool, true, false, cond, List, Option, None, Some, IsSome, Result, Ok, Err, refl, sym, ap, subst, ◌∙◌, inl, inr}
use Rattle.std.specs.Prelude.{IfOk}
use Rattle.std.proofs.lemmas.Map.Views.{tells_apart}
use Rattle.dr_plan_sound.specs.declared.certificate.Hop.{Hop}
use Rattle.std.specs.Option.{option_map}
use Rattle.std.specs.Cmp.{eq_by_cmp_equiv}
use Rattle.std.specs.BTreeMap as tree
use Rattle.std.specs.BTreeMap.{BTreeMap, is_at}
use Rattle.dr_base.specs.Texts.{Text, text_cmp}
use Rattle.dr_site.specs.Parts.{Part, IsHopTo}
use Rattle.dr_ledger.specs.declared.ledger.Ledger.{Ghosts}
use Rattle.dr_ledger.proofs.Maps.{texts, same_or_not, ties_itself}
use Rattle.dr_session.specs.declared.ends.LinkAction.{LinkAction}
use Rattle.dr_session.specs.Ledgers.{desk}
use Rattle.dr_node.specs.declared.event.LinkEvent.{LinkEvent}
use Rattle.dr_node.specs.declared.fault.NodeFault.{NodeFault}
use Rattle.dr_node.specs.declared.node.Node.{Node}
use Rattle.dr_node.specs.Desks.{LedgerStep}
use Rattle.dr_node.specs.Sides.{AcceptsLink, Does, MeetsEvent, Opens, Pushes}
use Rattle.dr_node.proofs.Booked.{input_booked, push_booked}
use Rattle.dr_node.proofs.Keeping.{input_stays, push_stays, input_stood, push_stood}
use Rattle.dr_world_model.specs.Worlds.{same_text}
use Rattle.dr_world.specs.Shows.{Seat, with_seat}
use Rattle.dr_world.specs.Nodes.{AcceptsAt, AllStandIn, HasSides, IsDoneAt, OpensAt, event_at, push_at, seat_of, seats_of}

module _ {L : Type 0} {l : Ghosts L} (old new : BTreeMap Text (Node L l)) (name : Text) (n after : Node L l) (has : Some n ≡ tree.get text_cmp old name)
    (updates : (q : Text) → tree.get text_cmp new q ≡ cond (is_at (text_cmp name) q) (Some after) (tree.get text_cmp old q)) where
  now_at : (q : Text) → tree.get text_cmp new q ≡ cond (same_text q name) (Some after) (tree.get text_cmp old q)
  now_at q = updates q ∙ ap (λ (b : Bool). cond b (Some after) (tree.get text_cmp old q)) ((eq_by_cmp_equiv texts.total).symm name q)

  pub now_here : tree.get text_cmp new name ≡ Some after
  now_here = now_at name ∙ ap (λ (b : Bool). cond b (Some after) (tree.get text_cmp old name)) (ties_itself texts name)

  now_there : (q : Text) → same_text q name ≡ false → tree.get text_cmp new q ≡ tree.get text_cmp old q
  now_there q apart = now_at q ∙ ap (λ (b : Bool). cond b (Some after) (tree.get text_cmp old q)) apart

  one_node : (q : Text) (m : Node L l) → q ≡ name → tree.get text_cmp old q ≡ Some m → n ≡ m
  one_node q m same is = let e : Some n ≡ Some m = has ∙ (ap (tree.get text_cmp old) (sym same) ∙ is) in cc

  pub all_stood : (l.stands after.desk.ledger → l.stands n.desk.ledger) → AllStandIn new → AllStandIn old
  all_stood stood all q m is = elim (same_or_not texts q name) [
    | inl same ↦ subst (λ (x : Node L l). l.stands x.desk.ledger) (one_node q m same is) (stood (all name after now_here))
    | inr apart ↦ all q m (now_there q apart ∙ is)
  ]

  abbrev seat_now : Seat
  seat_now = record { site = l.site n.desk.ledger; sides = after.links; desk = desk (l.book after.desk.ledger) (l.armed after.desk.ledger) }

  by_name : l.site after.desk.ledger ≡ l.site n.desk.ledger → (q : Text) (b : Bool) → option_map seat_of (cond b (Some after) (tree.get text_cmp old q))
      ≡ cond b (Some (let s : Seat = record { site = l.site n.desk.ledger; sides = after.links; desk = desk (l.book after.desk.ledger) (l.armed after.desk.ledger) } in s)) (option_map seat_of (tree.get text_cmp old q))
  by_name site q true = ap Some (λ i. record { site = site i; sides = after.links; desk = desk (l.book after.desk.ledger) (l.armed after.desk.ledger) })
  by_name site q false = refl

  pub seats_are : l.site after.desk.ledger ≡ l.site n.desk.ledger → (q : Text) → seats_of new q ≡ with_seat (seats_of old) name (record { site = l.site n.desk.ledger; sides = after.links; desk = desk (l.book after.desk.ledger) (l.armed after.desk.ledger) }) q
  seats_are site q = ap (option_map seat_of) (now_at q) ∙ by_name site q (same_text q name)

  module _ (link now : ℕ) where
    met_there_of : (event : LinkEvent) (acts : List LinkAction) → Does (MeetsEvent (LedgerStep l.site l.book l.bodies l.armed l.trusts l.stands l.failed) event) now link n.links n.desk (Ok acts) after.links after.desk → IsDoneAt (event_at event) name link now old acts new
    met_there_of event acts h =
        let site = input_stays l.site l.book l.bodies l.armed l.trusts l.stands l.failed event now link n.links after.links n.desk after.desk (Ok acts) h in (
          n,
          sym has,
          all_stood (input_stood l.site l.book l.bodies l.armed l.trusts l.stands l.failed event now link n.links after.links n.desk after.desk (Ok acts) h),
          λ all. (
            after.links,
            desk (l.book after.desk.ledger) (l.armed after.desk.ledger),
            input_booked l.site l.book l.bodies l.armed l.trusts l.stands l.failed (l.site n.desk.ledger) event now link n.links after.links n.desk after.desk (Ok acts) h (all name after now_here, site),
            seats_are site,
          ),
        )

    pushed_there_of : (acts : List LinkAction) → Does (Pushes (LedgerStep l.site l.book l.bodies l.armed l.trusts l.stands l.failed)) now link n.links n.desk (Ok acts) after.links after.desk → IsDoneAt push_at name link now old acts new
    pushed_there_of acts h =
        let site = push_stays l.site l.book l.bodies l.armed l.trusts l.stands l.failed now link n.links after.links n.desk after.desk (Ok acts) h in (
          n,
          sym has,
          all_stood (push_stood l.site l.book l.bodies l.armed l.trusts l.stands l.failed now link n.links after.links n.desk after.desk (Ok acts) h),
          λ all. (
            after.links,
            desk (l.book after.desk.ledger) (l.armed after.desk.ledger),
            push_booked l.site l.book l.bodies l.armed l.trusts l.stands l.failed (l.site n.desk.ledger) now link n.links after.links n.desk after.desk (Ok acts) h (all name after now_here, site),
            seats_are site,
          ),
        )

    pub met_result : (event : LinkEvent) (r : Result (List LinkAction) NodeFault) → Does (MeetsEvent (LedgerStep l.site l.book l.bodies l.armed l.trusts l.stands l.failed) event) now link n.links n.desk r after.links after.desk
        → IfOk r (λ all. IsDoneAt (event_at event) name link now old all new)
    met_result event (Ok all) h = met_there_of event all h
    met_result event (Err why) h = tt

    pub pushed_result : (r : Result (List LinkAction) NodeFault) → Does (Pushes (LedgerStep l.site l.book l.bodies l.armed l.trusts l.stands l.failed)) now link n.links n.desk r after.links after.desk → IfOk r (λ all. IsDoneAt push_at name link now old all new)
    pushed_result (Ok all) h = pushed_there_of all h
    pushed_result (Err why) h = tt

pub there : {A : Type 0} (o : Option A) (x : A) → Some x ≡ o → IsSome o
there o x is = subst IsSome is refl

-- ---- links that are asked for and accepted

module _ {L : Type 0} {l : Ghosts L} (old new : BTreeMap Text (Node L l)) (name : Text) (n after : Node L l) (has : Some n ≡ tree.get text_cmp old name)
    (updates : (q : Text) → tree.get text_cmp new q ≡ cond (is_at (text_cmp name) q) (Some after) (tree.get text_cmp old q)) where
  sides_there : after.desk ≡ n.desk → HasSides name n after.links old new
  sides_there desk = record { was = sym has; after = after; links = refl; desk = desk; at = now_at old new name n after has updates }

  pub opened_there : (dest : Text) (link now : ℕ) (acts : List LinkAction) (site : Part) → site ≡ n.site → ((hop : Hop) × IsHopTo site dest hop) → Opens n.site dest link now n.links (Ok acts) after.links → after.desk ≡ n.desk → OpensAt name dest link now old (Some acts) new
  opened_there dest link now acts site same found opens desk =
      let P : Part → Type 0 = λ part. (hop : Hop) × IsHopTo part dest hop in
      (n, after.links, subst P same found, opens, sides_there desk)

  pub accepted_there : (link now : ℕ) → AcceptsLink n.site link now n.links (Ok tt) after.links → after.desk ≡ n.desk → AcceptsAt name link now old new
  accepted_there link now accepts desk = (n, after.links, accepts, sides_there desk)

pub without_hop_there : {L : Type 0} {l : Ghosts L} (old new : BTreeMap Text (Node L l)) (name : Text) (n : Node L l) (has : Some n ≡ tree.get text_cmp old name) → ((q : Text) → tree.get text_cmp new q ≡ cond (is_at (text_cmp name) q) (Some n) (tree.get text_cmp old q))
    → (dest : Text) (link now : ℕ) (site : Part) → site ≡ n.site → ((hop : Hop) → IsHopTo site dest hop → ⊥) → OpensAt name dest link now old None new
without_hop_there {L} {l} old new name n has updates dest link now site same none = (
  λ m is hop goes.
      let e : Some n ≡ Some m = has ∙ is in
      let it : n ≡ m = cc in
      let P : Part → Type 0 = λ part. IsHopTo part dest hop in
      none hop (subst P (ap (λ (z : Node L l). z.site) (sym it) ∙ sym same) goes),
  λ q. updates q ∙ (ap (λ (b : Bool). cond b (Some n) (tree.get text_cmp old q)) ((eq_by_cmp_equiv texts.total).symm name q) ∙ by_name q (same_text q name) refl),
)
  where
    by_name : (q : Text) (x : Bool) → same_text q name ≡ x → cond x (Some n) (tree.get text_cmp old q) ≡ tree.get text_cmp old q
    by_name q true e = (let at : q ≡ name = tells_apart texts.exact q name e in has ∙ ap (tree.get text_cmp old) (sym at))
    by_name q false e = refl
