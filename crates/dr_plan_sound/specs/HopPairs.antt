-- The pairs that go over a hop, as lines show them, and their numbers.
use Rattle.std.specs.Prelude.{◌≡◌, ◌≢◌, ℕ, ◌+◌, ◌*◌, ◌≤◌, ◌↔◌, List, AllPairs, All, Contains, Some}
use Rattle.std.specs.Prelude.{slice_get, length}
use Rattle.std.specs.declared.cmp.Ordering.{Ordering}
use Rattle.std.specs.declared.cmp.Ordering.TheVariants.{Less}
use Rattle.std.specs.Ordering.{ordering_then}
use Rattle.dr_base.specs.Texts.{Text, text_cmp}
use Rattle.dr_base.specs.declared.syntax.Syntax.{Syntax}
use Rattle.dr_route.specs.Routes.{local}
use Rattle.dr_plan_sound.specs.declared.certificate.Stop.{Stop}
use Rattle.dr_plan_sound.specs.declared.certificate.Line.{Line}
use Rattle.dr_plan_sound.specs.declared.certificate.Hop.{Hop}
use Rattle.dr_plan_sound.specs.Certificates.{pair_cmp}

-- some line's stop is reached over the hop, for keys of that class and transfer syntax
abbrev pub OverHop : List Line → Text → Text → Text × Syntax → Type 0
OverHop lines from to pair =
    (stop : Stop) × (rank : ℕ)
    × Contains lines (record { stop = stop; rank = rank })
    × (stop.caller ≡ from) × (stop.node ≡ to) × (from ≢ local)
    × (pair ≡ (stop.cell.class, stop.cell.syntax))

-- the pairs over the hop, in byte order of class and then transfer syntax, each once
pub record AreOverHop (lines : List Line) (from to : Text)
    (all : List (Text × Syntax)) : Type 0 where
  pub ordered : AllPairs (λ p q. pair_cmp p q ≡ Less) all
  pub each : (pair : Text × Syntax) → Contains all pair ↔ OverHop lines from to pair

-- the hop's pair has its number there: 1, 3, 5 and so on
abbrev pub HasNumber : List Line → Hop → Type 0
HasNumber lines hop =
    (all : List (Text × Syntax))
    × (k : ℕ)
    × AreOverHop lines hop.from hop.to all
    × (slice_get all k ≡ Some (hop.class, hop.syntax))
    × (hop.id ≡ 2 * k + 1)

-- Exactly the numbered pairs of all hops, each once, and over no hop more than 128.
pub record AreNumbered (lines : List Line) (hops : List Hop) : Type 0 where
  pub each : (hop : Hop) → Contains hops hop ↔ HasNumber lines hop
  pub apart : AllPairs (λ a b. a ≢ b) hops
  pub few : (from to : Text)
      → (all : List (Text × Syntax)) × AreOverHop lines from to all × (length all ≤ 128)

-- the lines show more pairs over the hop than it can carry: 129 of them
abbrev pub AreTooMany : List Line → Text → Text → Type 0
AreTooMany lines from to =
    (apart : List (Text × Syntax))
    × AllPairs (λ p q. p ≢ q) apart
    × All (OverHop lines from to) apart
    × (length apart ≡ 129)

-- byte order of hops as pairs of titles: by the sender, and then by the receiver
abbrev pub hop_cmp : Text × Text → Text × Text → Ordering
hop_cmp a b = ordering_then (text_cmp a.0 b.0) (text_cmp a.1 b.1)

-- the hop is the first, in byte order, over which the lines show too many pairs
abbrev pub IsFirstTooMany : List Line → Text → Text → Type 0
IsFirstTooMany lines from to =
    AreTooMany lines from to
    × ((a b : Text) → AreTooMany lines a b → hop_cmp (a, b) (from, to) ≢ Less)
