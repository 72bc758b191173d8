-- What a table of devices stands for: a plan of format 3 to begin with.
use Rattle.std.specs.Prelude.{Bool, true, false, cond, List, [], ◌∷◌, ◌++◌, codes, flat_map}
use Rattle.std.specs.Prelude.{Option, Some, None}
use Rattle.dr_base.specs.Texts.{Text}
use Rattle.dr_word_import.specs.declared.device.Device.{Device}
use Rattle.dr_word_import.specs.declared.device.Role.{Role}
use Rattle.dr_word_import.specs.declared.device.Role.TheVariants as role
use Rattle.dr_word_import.specs.declared.device.Usual.{Usual}
use Rattle.dr_word_import.specs.declared.device.Usual.TheVariants as usual

-- ---- roles

-- a device that sends
abbrev pub is_scanner : Role → Bool
is_scanner role.Scanner = true
is_scanner role.Keeper = false
is_scanner role.Router = false

-- a device that keeps what it is sent: an archive or a workstation
abbrev pub is_keeper : Role → Bool
is_keeper role.Scanner = false
is_keeper role.Keeper = true
is_keeper role.Router = false

-- our gate
abbrev pub is_router : Role → Bool
is_router role.Scanner = false
is_router role.Keeper = false
is_router role.Router = true

-- ---- classes

-- the word for what devices of the modality send
abbrev pub set_of : Usual → Text
set_of usual.Ct = codes "@ct"
set_of usual.Mr = codes "@mr"
set_of usual.Us = codes "@us"
set_of usual.Xa = codes "@xa"
set_of usual.Mg = codes "@mg"
set_of usual.Images = codes "@all-images"

-- ---- words of a plan

-- a word between quotes
abbrev pub quoted : Text → Text
quoted word = (34 ∷ word) ++ (34 ∷ [])

-- a word with a comma behind it
abbrev pub item_of : Text → Text
item_of word = quoted word ++ codes ", "

-- a line
abbrev pub line : Text → Text
line text = text ++ (10 ∷ [])

-- both transfer syntaxes
abbrev pub syntaxes : Text
syntaxes = line (codes "syntax = [\"ExplicitVRLittleEndian\", \"ImplicitVRLittleEndian\"]")

-- ---- tables of a plan

-- where a device listens: at its address, or nowhere where it only calls
abbrev pub place_of : Option Text → Text
place_of None = line (codes "listens = false")
place_of (Some address) = line (codes "address = " ++ quoted address)

-- the table of a node, where it listens
abbrev pub node_table : Device → Text
node_table it =
    (10 ∷ []) ++ line (codes "[[node]]") ++ line (codes "name = " ++ quoted it.name)
    ++ place_of it.address

-- a row by which a node accepts from the device what such a device sends
abbrev pub accept_table : Text → Usual → Text
accept_table name sends =
    line (codes "[[node.accept]]") ++ line (codes "from = [" ++ quoted name ++ codes "]")
    ++ line (codes "class = " ++ quoted (set_of sends)) ++ syntaxes

-- what the gate accepts of a device
abbrev pub accept_at_gate : Device → Text
accept_at_gate it = cond (is_scanner it.role) (accept_table it.name it.sends) []

-- what a keeper accepts from the gate of what a device sends
abbrev pub accept_behind : Text → Device → Text
accept_behind gate it = cond (is_scanner it.role) (accept_table gate it.sends) []

-- a keeper among targets
abbrev pub target_item : Device → Text
target_item it = cond (is_keeper it.role) (item_of it.name) []

-- the rule of the gate: what comes goes to each keeper
abbrev pub gate_rule : List Device → Text
gate_rule all =
    line (codes "[[node.rule]]")
    ++ line (codes "to = [" ++ flat_map target_item all ++ codes "]")

-- the rule of a keeper
abbrev pub keeper_rule : Text
keeper_rule = line (codes "[[node.rule]]") ++ line (codes "keep = true")

-- what a device does with what comes, by its role
abbrev pub rows_of : List Device → Text → Device → Text
rows_of all gate it =
    cond (is_router it.role) (flat_map accept_at_gate all ++ gate_rule all)
    (cond (is_keeper it.role) (flat_map (accept_behind gate) all ++ keeper_rule) [])

abbrev pub device_tables : List Device → Text → Device → Text
device_tables all gate it = node_table it ++ rows_of all gate it

-- where a flow begins and goes to
abbrev pub flow_head : Text → Device → Text
flow_head gate it =
    (10 ∷ []) ++ line (codes "[[flow]]") ++ line (codes "at = " ++ quoted it.name)
    ++ line (codes "to = " ++ quoted gate)

-- what is in it, of any modality and station
abbrev pub flow_tail : Usual → Text
flow_tail sends =
    line (codes "class = [" ++ quoted (set_of sends) ++ codes "]") ++ syntaxes
    ++ line (codes "modality = \"*\"") ++ line (codes "station = \"*\"")

-- the flow of a device that sends: all that such a device sends, to the gate
abbrev pub flow_table : Text → Device → Text
flow_table gate it = cond (is_scanner it.role) (flow_head gate it ++ flow_tail it.sends) []

-- the plan of these devices, with the gate of this name: all nodes in their order, then the flows
abbrev pub plan_of : List Device → Text → Text
plan_of all gate =
    line (codes "format = 3") ++ flat_map (device_tables all gate) all
    ++ flat_map (flow_table gate) all
