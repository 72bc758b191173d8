-- What another maker's product writes at an end of a link.
use Rattle.std.specs.Prelude.{◌≡◌, ℕ, List, [], ◌∷◌, Option, None, Some}
use Rattle.std.specs.Ordering.{nat_cmp}
use Rattle.std.specs.FinMap as map
use Rattle.std.specs.BTreeMap as tree
use Rattle.dr_ledger.specs.declared.ledger.Ledger.{Ghosts}
use Rattle.dr_world_tie.specs.Channels.{Channel}
use Rattle.dr_world_tie.specs.ByteWorlds.{ByteWorld, Side, Requestor, Acceptor}
use Rattle.dr_world.specs.declared.deed.Deed.{Deed}
use Rattle.dr_world.specs.declared.deed.Deed.TheVariants as deed
use Rattle.dr_world.specs.declared.steps.StepNote.{StepNote}
use Rattle.dr_world.specs.declared.steps.StepNote.TheVariants.{Done, Skipped}
use Rattle.dr_world.specs.declared.wires.Wires.{Wires}
use Rattle.dr_world.specs.declared.world.World.{World}
use Rattle.dr_world.specs.Ends.{opposite, wire_at}
use Rattle.dr_world.specs.Shows.{Contents, with_wires}
use Rattle.dr_world.specs.Whole.{contents}

-- ---- in the world of bytes

-- what is on its way from that side is these bytes, and nothing else
abbrev pub with_written : Side → List ℕ → Channel → Channel
with_written Requestor bytes k = record {
  caller = k.caller;
  receiver = k.receiver;
  to_caller = k.to_caller;
  to_receiver = bytes;
}
with_written Acceptor bytes k = record {
  caller = k.caller;
  receiver = k.receiver;
  to_caller = bytes;
  to_receiver = k.to_receiver;
}

abbrev pub WritesIn : Option Channel → ByteWorld → ℕ → Side → List ℕ → ByteWorld → Type 0
WritesIn None b link side bytes new = new ≡ b
WritesIn (Some k) b link side bytes new = new
    ≡ record {
      time = b.time;
      desks = b.desks;
      links = map.insert b.links link (with_written side bytes k);
      opened = b.opened;
    }

-- Another product writes at that end of a link: just these bytes are on their way from there. No
-- end, no desk and no other wire changes; and nothing does where there is no link of that number.
abbrev pub Writes : ByteWorld → ℕ → Side → List ℕ → ByteWorld → Type 0
Writes b link side bytes new = WritesIn (map.get b.links link) b link side bytes new

-- ---- of code

-- what is on its way from that side is these bytes
pub record AreRewritten (side : Side) (bytes : List ℕ) (w v : Wires) : Type 0 where
  pub caller : v.caller ≡ w.caller
  pub receiver : v.receiver ≡ w.receiver
  pub own : wire_at side v ≡ wire_at side w
  pub other : wire_at (opposite side) v ≡ bytes

abbrev pub with_wires_at : Contents → ℕ → Wires → Contents
with_wires_at c number w = record {
  now = c.now;
  opened = c.opened;
  seats = c.seats;
  wires = with_wires c.wires number w;
}

abbrev pub WritesAtIn : {L : Type 0} {l : Ghosts L}
    → Option Wires → ℕ → Side → List ℕ → World L l → StepNote → World L l → Type 0
WritesAtIn None link side bytes old note new =
    (note ≡ Skipped) × (new.nodes ≡ old.nodes) × (contents new ≡ contents old)
WritesAtIn (Some w) link side bytes old note new =
    (note ≡ Done) × (new.nodes ≡ old.nodes)
    × ((v : Wires) × AreRewritten side bytes w v
    × (contents new ≡ with_wires_at (contents old) link v))

-- The same of a world: one wire of the link is another, and nothing else; or there is no link of
-- that number.
abbrev pub WritesAt : {L : Type 0} {l : Ghosts L}
    → ℕ → Side → List ℕ → World L l → StepNote → World L l → Type 0
WritesAt link side bytes old note new =
    WritesAtIn (tree.get nat_cmp old.wires link) link side bytes old note new

-- ---- deeds

-- in none of these another product writes
abbrev pub NoneWrites : List Deed → Type 0
NoneWrites [] = Unit {0}
NoneWrites (deed.Step step ∷ deeds) = NoneWrites deeds
NoneWrites (deed.Adopt next ∷ deeds) = NoneWrites deeds
NoneWrites (deed.Bytes link side bytes ∷ deeds) = ⊥
