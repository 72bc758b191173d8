-- The hops to nodes, one after another.
use Rattle.std.proofs.Common.{◌≡◌, ℕ, ◌+◌, ◌<◌, ◌∙◌, ap, List, [], ◌∷◌, ◌++◌, true, false, None, Some, take, length, get_or}
use Rattle.std.specs.Prelude.{if◌then◌else◌}
use Rattle.std.proofs.lemmas.List.{append-nil, take_more}
use Rattle.std.proofs.lemmas.Grind.{flat_map-append}
use Rattle.dr_base.specs.Texts.{Text}
use Rattle.dr_plan_model.specs.Listening.{address_of}
use Rattle.dr_plan_model.specs.declared.plan.Node.{Node}
use Rattle.dr_site.specs.Parts.{Part}
use Rattle.dr_run_open.specs.Hops.{is_reached, first_look, hop_by, hop_at, hops_from}

pub one_more : (site : Part) (nodes : List Node) (i : ℕ) (node : Node) → i < length nodes → node ≡ get_or nodes i node →
    hops_from site (take (i + 1) nodes) ≡ hops_from site (take i nodes) ++ hop_at site node
one_more site nodes i node lt at =
    let e = take_more nodes i node lt in
    let more : take (i + 1) nodes ≡ take i nodes ++ node ∷ [] = rw (← at) at e in
    let nil : hop_at site node ++ [] ≡ hop_at site node = append-nil (hop_at site node) in
    ap (λ ns. hops_from site ns) more ∙ (flat_map-append (hop_at site) (take i nodes) (node ∷ []) ∙ ap (λ hs. hops_from site (take i nodes) ++ hs) nil)

-- a node without an address is no hop's
pub no_address : (site : Part) (node : Node) → address_of node.listens ≡ None → hop_at site node ≡ []
no_address site node none = ap (hop_by site node.name) none

-- nor is one that the site doesn't reach
pub not_reached : (site : Part) (node : Node) (address : Text) → address_of node.listens ≡ Some address → is_reached site node.name ≡ false → hop_at site node ≡ []
not_reached site node address at never = ap (hop_by site node.name) at ∙ (λ i. if never i then first_look node.name address ∷ [] else [])

pub reached : (site : Part) (node : Node) (address : Text) → address_of node.listens ≡ Some address → is_reached site node.name ≡ true → hop_at site node ≡ first_look node.name address ∷ []
reached site node address at yes_so = ap (hop_by site node.name) at ∙ (λ i. if yes_so i then first_look node.name address ∷ [] else [])
