-- A node that has come up again, and the links that are lost so.
use Rattle.std.specs.Prelude.{◌≡◌, ◌↔◌, ◌||◌, ℕ, Bool, true, false, List, [], ◌∷◌, Contains}
use Rattle.std.specs.Prelude.{Option, Some, None}
use Rattle.std.specs.Ordering.{nat_cmp}
use Rattle.std.specs.FinMap as map
use Rattle.std.specs.BTreeMap as tree
use Rattle.std.specs.BTreeMap.{BTreeMap}
use Rattle.std.specs.List.Sorted.{IsStrictlySortedBy}
use Rattle.dr_base.specs.Texts.{Text, text_cmp}
use Rattle.dr_ledger.specs.declared.ledger.Ledger.{Ghosts}
use Rattle.dr_node.specs.declared.node.Node.{Node}
use Rattle.dr_session.specs.declared.ends.Heard.TheVariants as heard
use Rattle.dr_node.specs.declared.event.LinkEvent.TheVariants as event
use Rattle.dr_world_model.specs.Worlds.{same_text}
use Rattle.dr_world_tie.specs.ByteWorlds.{Side, Requestor, Acceptor}
use Rattle.dr_world.specs.declared.steps.StepNote.{StepNote}
use Rattle.dr_world.specs.declared.wires.Wires.{Wires}
use Rattle.dr_world.specs.declared.world.World.{World}
use Rattle.dr_world.specs.Nodes.{HasSides, event_at}
use Rattle.dr_world.specs.Whole.{Meets}

-- the node is an end of the link
abbrev pub is_end : Text → Option Wires → Bool
is_end node None = false
is_end node (Some w) = same_text w.caller node || same_text w.receiver node

-- the numbers of the node's links, each once and rising
abbrev pub AreLinksAt : Text → BTreeMap ℕ Wires → List ℕ → Type 0
AreLinksAt node wires numbers =
    IsStrictlySortedBy nat_cmp numbers
    × ((number : ℕ)
    → Contains numbers number ↔ (is_end node (tree.get nat_cmp wires number) ≡ true))

-- the side of a link that isn't the node's: the requestor's where the node was called
abbrev pub far_by : Bool → Side
far_by true = Requestor
far_by false = Acceptor

abbrev pub far_of : Text → Wires → Side
far_of node w = far_by (same_text w.receiver node)

-- the far end of a link hears that its connection has ended; nothing happens where there is no link
-- of that number
abbrev pub FarHearsIn : {L : Type 0} {l : Ghosts L}
    → Option Wires → Text → ℕ → World L l → World L l → Type 0
FarHearsIn None node link old new = new ≡ old
FarHearsIn (Some w) node link old new =
    (note : StepNote) × Meets (event_at (event.Heard heard.End)) link (far_of node w) old note new

abbrev pub FarHears : {L : Type 0} {l : Ghosts L} → Text → ℕ → World L l → World L l → Type 0
FarHears node link old new = FarHearsIn (tree.get nat_cmp old.wires link) node link old new

-- one link after the other
abbrev pub AllFarHear : {L : Type 0} {l : Ghosts L} → Text → List ℕ → World L l → World L l → Type 0
AllFarHear node [] old new = new ≡ old
AllFarHear {L} {l} node (link ∷ more) old new =
    (mid : World L l) × FarHears node link old mid × AllFarHear node more mid new

-- the wires of these links are gone, and all others are as they were
abbrev pub AreForgotten : List ℕ → BTreeMap ℕ Wires → BTreeMap ℕ Wires → Type 0
AreForgotten numbers old new =
    ((number : ℕ) → Contains numbers number → tree.get nat_cmp new number ≡ None)
    × ((number : ℕ)
    → (Contains numbers number → ⊥)
    → tree.get nat_cmp new number ≡ tree.get nat_cmp old number)

-- the node of that name has no link any more, and its ledger as it was; where no node has it,
-- nothing has changed
abbrev pub ComesUpIn : {L : Type 0} {l : Ghosts L}
    → Option (Node L l) → Text → BTreeMap Text (Node L l) → BTreeMap Text (Node L l) → Type 0
ComesUpIn None name old new = new ≡ old
ComesUpIn (Some n) name old new = HasSides name n map.empty old new

abbrev pub ComesUp : {L : Type 0} {l : Ghosts L}
    → Text → BTreeMap Text (Node L l) → BTreeMap Text (Node L l) → Type 0
ComesUp name old new = ComesUpIn (tree.get text_cmp old name) name old new
