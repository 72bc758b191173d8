-- A link that is opened.
use Rattle.std.specs.Prelude.{◌≡◌, ℕ, ◌+◌, false, [], ◌∷◌, Some}
use Rattle.dr_base.specs.Texts.{Text}
use Rattle.dr_plan_sound.specs.declared.certificate.Hop.{Hop}
use Rattle.dr_pdu.specs.declared.pdu.Pdu.TheVariants as pdu
use Rattle.dr_nego.specs.Agreeing.{AssociateRq}
use Rattle.dr_nego.specs.Fragments.{spellings}
use Rattle.dr_nego.specs.Proposing.{IsProposal, IsHopTo}
use Rattle.dr_session.specs.Ends.{begins, requesting}
use Rattle.dr_site.specs.Parts.{Part}
use Rattle.dr_node.specs.declared.links.LinkSide.{LinkSide}
use Rattle.dr_node.specs.Sides.{accepts_at}
use Rattle.dr_world.specs.declared.wires.Wires.{Wires}
use Rattle.dr_world.specs.Shows.{Contents, Seat, with_seat, with_side, with_wires}

-- one link more, under the next number: a side at each of two nodes, and its wires
abbrev pub with_opened : Contents → Text → Seat → LinkSide → Text → Seat → LinkSide → Wires
    → Contents
with_opened c from near mine to far theirs w = record {
  now = c.now;
  opened = c.opened + 1;
  seats = with_seat (with_seat c.seats from (with_side near (c.opened + 1) mine near.desk)) to
      (with_side far (c.opened + 1) theirs far.desk);
  wires = with_wires c.wires (c.opened + 1) w;
}

-- the requestor's side, which has asked for the association
abbrev pub asks_at : Part → Text → AssociateRq → ℕ → LinkSide
asks_at site dest rq now =
    record { end = begins site.max_pdu (requesting (Some site) dest rq now); accepted = false }

-- A link was opened between two nodes, over a hop of the first one's site: its request is on the
-- wire, and nothing else.
pub record IsLinkOpened (from to : Text) (old new : Contents) : Type 0 where
  pub near : Seat
  pub far : Seat
  pub is_near : old.seats from ≡ Some near
  pub is_far : old.seats to ≡ Some far
  pub rq : AssociateRq
  pub proposal : IsProposal near.site to rq
  pub hop : Hop
  pub goes : IsHopTo near.site to hop
  pub wires : Wires
  pub caller : wires.caller ≡ from
  pub receiver : wires.receiver ≡ to
  pub to_caller : wires.to_caller.items ≡ []
  pub to_receiver : wires.to_receiver.items ≡ spellings (pdu.AssociateRq rq ∷ [])
  pub is : new
      ≡ with_opened old from near (asks_at near.site to rq old.now) to far
      (accepts_at far.site old.now) wires
