-- A Move of bytes: what it finds to do, and what it does.
use Rattle.std.specs.Prelude.{◌≡◌, ◌≢◌, ◌⊎◌, ℕ, ◌+◌, ◌<◌, ◌≤◌, ◌∷◌, ◌++◌, nat_le, true, false, List}
use Rattle.std.specs.Prelude.{[], get_or, length, take, drop, Option, Some, None}
use Rattle.std.specs.Int.{from_be_bytes, w32}
use Rattle.std.specs.Ordering.{nat_cmp}
use Rattle.std.specs.FinMap as map
use Rattle.std.specs.BTreeMap as tree
use Rattle.std.specs.BTreeMap.{BTreeMap}
use Rattle.dr_base.specs.Texts.{Text, text_cmp}
use Rattle.dr_ledger.specs.declared.ledger.Ledger.{Ghosts}
use Rattle.dr_pdu.specs.declared.pdu.Pdu.{Pdu}
use Rattle.dr_pdu.specs.Written.{Fits, written}
use Rattle.dr_session.specs.declared.ends.Heard.TheVariants as heard
use Rattle.dr_session.specs.declared.ends.LinkAction.{LinkAction}
use Rattle.dr_node.specs.declared.event.LinkEvent.TheVariants as event
use Rattle.dr_node.specs.declared.links.LinkSide.{LinkSide as NodeSide}
use Rattle.dr_node.specs.declared.node.Node.{Node}
use Rattle.dr_world_tie.specs.Channels.{LiveTerminal}
use Rattle.dr_world_tie.specs.ByteWorlds.{Side, IsMoved}
use Rattle.dr_world.specs.declared.fronts.MoveDue.{MoveDue}
use Rattle.dr_world.specs.declared.fronts.MoveDue.TheVariants as due
use Rattle.dr_world.specs.declared.steps.StepNote.{StepNote}
use Rattle.dr_world.specs.declared.steps.StepNote.TheVariants.{Done, Skipped}
use Rattle.dr_world.specs.declared.wires.Wires.{Wires}
use Rattle.dr_world.specs.declared.world.World.{World}
use Rattle.dr_world.specs.Ends.{IsDoneAtEnd, name_at, wire_at, opposite}
use Rattle.dr_world.specs.Nodes.{event_at, over_at}
use Rattle.dr_world.specs.Whole.{AllStand, contents}

-- ---- the PDU at the front

-- that many bytes has the PDU with which the text begins, if it begins with one
abbrev pub TellsLength : List ℕ → ℕ → Type 0
TellsLength text n =
    (p : Pdu) (more : List ℕ) → text ≡ written p ++ more → Fits p → n ≡ length (written p)

-- the length that the field of the PDU at the front tells, with the six bytes up to it (PS3.8
-- 9.3.1)
abbrev pub told_length : List ℕ → ℕ
told_length text =
    from_be_bytes w32
    (get_or text 2 0 ∷ get_or text 3 0 ∷ get_or text 4 0 ∷ get_or text 5 0 ∷ [])
    + 6

-- So many bytes of a wire are those up to the last one that is told of, or all, where that one
-- isn't on the wire.
abbrev pub IsUpTo : ℕ → ℕ → ℕ → ℕ → Type 0
IsUpTo told kept wire n =
    ((kept < told) × (told ≤ kept + wire) × (kept + n ≡ told))
    ⊎ (((told ≤ kept) ⊎ (kept + wire < told)) × (n ≡ wire))

-- the lesser of two numbers
abbrev pub IsFewer : ℕ → ℕ → ℕ → Type 0
IsFewer n left m = ((n < left) × (m ≡ n)) ⊎ ((left ≤ n) × (m ≡ left))

-- So many bytes of a wire belong to the PDU whose front is kept, where its rest is on the wire; and
-- some do, where there are some.
abbrev pub IsLeftOf : List ℕ → List ℕ → ℕ → Type 0
IsLeftOf kept wire n =
    (n ≤ length wire) × (wire ≢ [] → 0 < n)
    × ((p : Pdu) (left more : List ℕ)
    → kept ++ left ≡ written p → left ≢ [] → wire ≡ left ++ more → Fits p → n ≡ length left)

-- So many of at most n bytes of a wire may come to a reader that keeps these; and some do, where
-- there are some.
abbrev pub IsMovable : List ℕ → List ℕ → ℕ → ℕ → Type 0
IsMovable kept wire n m =
    (m ≤ length wire)
    × (wire ≢ [] → 0 < n → 0 < m)
    × ((t : LiveTerminal) → t.ear.kept ≡ kept → IsMoved t wire n m)

-- ---- what is due

-- what an end keeps of what it heard
abbrev pub kept_of : Option NodeSide → List ℕ
kept_of None = []
kept_of (Some side) = side.end.ear.kept

abbrev pub kept_at : {L : Type 0} {l : Ghosts L} → ℕ → Option (Node L l) → List ℕ
kept_at link None = []
kept_at link (Some n) = kept_of (map.get n.links link)

-- What a Move of at most n bytes finds to do at a link: nothing, where no byte is asked for, the
-- reader is over, or its wire is empty and the writer isn't over; the connection's end, where the
-- wire is empty and the writer is over; else bytes.
abbrev pub IsDueAt : {L : Type 0} {l : Ghosts L}
    → BTreeMap Text (Node L l) → ℕ → Side → ℕ → Wires → MoveDue → Type 0
IsDueAt nodes link side n w due.Nothing =
    (n ≡ 0)
    ⊎ ((over_at link (tree.get text_cmp nodes (name_at side w)) ≡ true)
    ⊎ ((wire_at side w ≡ [])
    × (over_at link (tree.get text_cmp nodes (name_at (opposite side) w)) ≡ false)))
IsDueAt nodes link side n w due.End =
    (nat_le 1 n ≡ true)
    × (over_at link (tree.get text_cmp nodes (name_at side w)) ≡ false)
    × (wire_at side w ≡ [])
    × (over_at link (tree.get text_cmp nodes (name_at (opposite side) w)) ≡ true)
IsDueAt nodes link side n w (due.Bytes m) =
    (nat_le 1 n ≡ true)
    × (over_at link (tree.get text_cmp nodes (name_at side w)) ≡ false)
    × (wire_at side w ≢ [])
    × IsMovable (kept_at link (tree.get text_cmp nodes (name_at side w))) (wire_at side w) n m

abbrev pub IsMoveDue : {L : Type 0} {l : Ghosts L}
    → Option Wires → BTreeMap Text (Node L l) → ℕ → Side → ℕ → MoveDue → Type 0
IsMoveDue None nodes link side n what = what ≡ due.Nothing
IsMoveDue (Some w) nodes link side n what = IsDueAt nodes link side n w what

-- ---- what is done

-- the first m bytes are off a side's wire
pub record AreTaken (side : Side) (m : ℕ) (w v : Wires) : Type 0 where
  pub caller : v.caller ≡ w.caller
  pub receiver : v.receiver ≡ w.receiver
  pub own : wire_at side v ≡ drop m (wire_at side w)
  pub other : wire_at (opposite side) v ≡ wire_at (opposite side) w

-- Nothing is done where there is no link of that number. Else the first m bytes of the side's wire
-- came to its end.
abbrev pub HearsIn : {L : Type 0} {l : Ghosts L}
    → Option Wires → ℕ → Side → ℕ → World L l → StepNote → World L l → Type 0
HearsIn None link side m old note new =
    (note ≡ Skipped) × (contents new ≡ contents old) × (new.nodes ≡ old.nodes)
HearsIn (Some w) link side m old note new =
    (note ≡ Done)
    × (AllStand new → AllStand old)
    × (AllStand new
    → (acts : List LinkAction)
    × IsDoneAtEnd (event_at (event.Heard (heard.Bytes (take m (wire_at side w))))) m (contents old)
    link side acts (contents new))

abbrev pub Hears : {L : Type 0} {l : Ghosts L}
    → ℕ → Side → ℕ → World L l → StepNote → World L l → Type 0
Hears link side m old note new = HearsIn (tree.get nat_cmp old.wires link) link side m old note new
