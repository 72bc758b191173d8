-- Hops that aren't among others.
use Rattle.std.specs.Prelude.{◌≡◌, List, Contains, Option, None, Some}
use Rattle.dr_base.specs.Texts.{Text}
use Rattle.dr_route.specs.Routes.{local}
use Rattle.dr_world_audit.specs.declared.hop.AuditHop.{AuditHop as Held}

-- the hop is to one of ours, and didn't come there
abbrev pub IsUnanswered : List Text → List Held → Held → Type 0
IsUnanswered ours came hop = Contains ours hop.to × (Contains came hop → ⊥)

-- the hop came from one of ours, and wasn't to go on there
abbrev pub IsUnsent : List Text → List Held → Held → Type 0
IsUnsent ours sent hop =
    Contains ours hop.from × (hop.from ≡ local → ⊥) × (Contains sent hop → ⊥)

-- the one is a done hop that is unanswered; or there is none
abbrev pub FirstUnanswered : List Text → List Held → List Held → Option Held → Type 0
FirstUnanswered ours done came (Some hop) = Contains done hop × IsUnanswered ours came hop
FirstUnanswered ours done came None =
    (hop : Held) → Contains done hop → IsUnanswered ours came hop → ⊥

-- the one is a hop that came and is unsent; or there is none
abbrev pub FirstUnsent : List Text → List Held → List Held → Option Held → Type 0
FirstUnsent ours came sent (Some hop) = Contains came hop × IsUnsent ours sent hop
FirstUnsent ours came sent None =
    (hop : Held) → Contains came hop → IsUnsent ours sent hop → ⊥
