-- What a site says of a key that a caller brings to its node.
use Rattle.std.specs.Prelude.{◌≡◌, ◌⊎◌, ◌↔◌, Contains}
use Rattle.dr_base.specs.Texts.{Text}
use Rattle.dr_route.specs.Routes.{local, SendsBy, KeepsBy}
use Rattle.dr_route.specs.Cells.{InCell}
use Rattle.dr_route.specs.declared.key.Key.{Key}
use Rattle.dr_plan_model.specs.Networks.{Network}
use Rattle.dr_plan_model.specs.Walks.{FlowsAmong, Sends, Keeps, IsReached}
use Rattle.dr_plan_sound.specs.declared.certificate.Line.{Line}
use Rattle.dr_plan_sound.specs.declared.certificate.Certificate.{Certificate}
use Rattle.dr_site.specs.Parts.{Part, IsPartOf}
use Rattle.dr_site.specs.Sites.{IsCertified}

-- the site has a line for the caller and the key's cell
abbrev pub HasLineFor : Part → Text → Key → Type 0
HasLineFor part caller key =
    (line : Line) × Contains part.lines line
    × (line.stop.caller ≡ caller)
    × (line.stop.node ≡ part.name)
    × InCell part.literals line.stop.cell key

-- the site sends the key on to that node: by a flow of its own where it entered there, or by a rule
abbrev pub SendsFrom : Part → Text → Key → Text → Type 0
SendsFrom part caller key to =
    ((caller ≡ local) × FlowsAmong part.flows part.name key to) ⊎ SendsBy part.rules caller key to

-- the site keeps the key
abbrev pub KeepsAt : Part → Text → Key → Type 0
KeepsAt part caller key = KeepsBy part.rules caller key

-- a site has a line just where a key comes to its node from the caller
abbrev pub LinesAreAsPlanned : Type 0
LinesAreAsPlanned =
    (plan : Network) (certificate : Certificate) (part : Part)
    → IsCertified plan certificate
    → IsPartOf plan certificate part
    → (caller : Text) (key : Key)
    → HasLineFor part caller key ↔ IsReached plan key caller part.name

-- a site sends a key where its node does by the plan
abbrev pub SendsAsPlanned : Type 0
SendsAsPlanned =
    (plan : Network) (certificate : Certificate) (part : Part)
    → IsPartOf plan certificate part
    → (caller : Text) (key : Key) (to : Text)
    → SendsFrom part caller key to ↔ Sends plan part.name caller key to

-- a site keeps a key where its node does by the plan
abbrev pub KeepsAsPlanned : Type 0
KeepsAsPlanned =
    (plan : Network) (certificate : Certificate) (part : Part)
    → IsPartOf plan certificate part
    → (caller : Text) (key : Key)
    → KeepsAt part caller key ↔ Keeps plan part.name caller key
