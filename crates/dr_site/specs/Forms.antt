-- The form of what a site holds: names, classes and presentation contexts that an association can
-- carry.
use Rattle.std.specs.Prelude.{◌≡◌, ◌≢◌, ℕ, ◌+◌, ◌*◌, ◌<◌, ◌≤◌, [], length, All, AllPairs}
use Rattle.dr_base.specs.Texts.{Text}
use Rattle.dr_route.specs.declared.accept.AcceptRow.{AcceptRow}
use Rattle.dr_plan_model.specs.Formed.{IsName, IsClass, IsMaxPdu}
use Rattle.dr_plan_sound.specs.declared.certificate.Hop.{Hop}
use Rattle.dr_site.specs.Parts.{Part, hops_to}
use Rattle.dr_site.specs.Sites.{IsSite}

-- a hop of the site: it begins at the site's node and ends at a node, and its id is odd, 1 to 255
-- (PS3.8 7.1.1.13)
pub record IsFormedHop (part : Part) (hop : Hop) : Type 0 where
  pub «from» : hop.from ≡ part.name
  pub «to» : IsName hop.to
  pub class : IsClass hop.class
  pub id : (k : ℕ) × (k < 128) × (hop.id ≡ 2 * k + 1)

-- a row that a node of a plan may have
pub record IsFormedRow (row : AcceptRow) : Type 0 where
  pub class : IsClass row.class
  pub some : row.syntaxes ≢ []
  pub apart : AllPairs (λ a b. a ≢ b) row.syntaxes

-- Names are names of nodes (1 to 16 printable bytes without a space at either end), classes are
-- UIDs. The hops to one node have different ids, the lower ones first, so there are at most 128 of
-- them.
pub record IsFormed (part : Part) : Type 0 where
  pub name : IsName part.name
  pub max_pdu : IsMaxPdu part.max_pdu
  pub accepts : All IsFormedRow part.accepts
  pub hops : All (IsFormedHop part) part.hops
  pub rising : (dest : Text) → AllPairs (λ (a b : Hop). a.id < b.id) (hops_to part dest)
  pub few : (dest : Text) → length (hops_to part dest) ≤ 128

-- each site has names, classes and contexts that an association can carry
abbrev pub SitesAreFormed : Type 0
SitesAreFormed = (part : Part) → IsSite part → IsFormed part
