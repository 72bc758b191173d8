-- What is found on the way: pairs of a node and of one to which it sends, and nodes that keep.
use Rattle.std.specs.Prelude.{◌≡◌, ◌⊎◌, ◌↔◌, ◌++◌, ◌∷◌, List, [], Contains}
use Rattle.std.specs.BTreeSet.{BTreeSet}
use Rattle.dr_base.specs.Texts.{Text}
use Rattle.dr_route.specs.Names.{HasName}
use Rattle.dr_route.specs.Routes.{local}
use Rattle.dr_route.specs.declared.key.Key.{Key}
use Rattle.dr_plan_model.specs.Networks.{Network}
use Rattle.dr_plan_model.specs.Walks.{Sends, Keeps, IsDestination}
use Rattle.dr_plan_sound.specs.declared.certificate.Hop.{Hop}
use Rattle.dr_cert_trace.specs.Traces.{GoesOnTo}

-- the set has the pair
abbrev pub HasPair : BTreeSet (Text × Text) → Text × Text → Type 0
HasPair pairs pair = Contains pairs.keys pair

-- it is known that the key comes to the place: it is where it enters, or a pair that was found
abbrev pub IsKnownPlace : BTreeSet (Text × Text) → Text → Text × Text → Type 0
IsKnownPlace pairs site place = (place ≡ (local, site)) ⊎ HasPair pairs place

-- the pairs of a node and of those others are there too, and no more
abbrev pub AddsPairs : BTreeSet (Text × Text) → BTreeSet (Text × Text) → Text → (Text → Type 0)
    → Type 0
AddsPairs old new from To =
    (pair : Text × Text) → HasPair new pair ↔ (HasPair old pair ⊎ ((pair.0 ≡ from) × To pair.1))

-- from that place the key goes on to these, and the node keeps it or not
pub record FindsOnward (plan : Network) (key : Key) (place : Text × Text)
    (old new : BTreeSet (Text × Text)) (kept now_kept : BTreeSet Text) : Type 0 where
  pub pairs : AddsPairs old new place.1 (λ to. Sends plan place.1 place.0 key to)
  pub keeps : (name : Text)
      → HasName now_kept name
      ↔ (HasName kept name ⊎ ((name ≡ place.1) × Keeps plan place.1 place.0 key))

-- where it isn't known that the key comes there, nothing is found; else all that is done there
abbrev pub PassesPlace : Network → Text → Key → Text × Text → BTreeSet (Text × Text)
    → BTreeSet (Text × Text) → BTreeSet Text → BTreeSet Text → Type 0
PassesPlace plan site key place old new kept now_kept =
    ((IsKnownPlace old site place → ⊥) × (new.keys ≡ old.keys) × (now_kept.keys ≡ kept.keys))
    ⊎ (IsKnownPlace old site place × FindsOnward plan key place old new kept now_kept)

-- exactly the hops of the key's walks, and exactly the nodes that keep it
pub record AreFound (plan : Network) (site : Text) (key : Key) (pairs : BTreeSet (Text × Text))
    (keeps : BTreeSet Text) : Type 0 where
  pub goes : (from to : Text) → HasPair pairs (from, to) ↔ GoesOnTo plan site key from to
  pub ends : (dest : Text) → HasName keeps dest ↔ IsDestination plan local site key dest

-- the key goes over the hop in this context, where the pairs are those on which it goes
abbrev pub Carries : Key → BTreeSet (Text × Text) → Hop → Type 0
Carries key pairs hop =
    (hop.class ≡ key.class) × (hop.syntax ≡ key.syntax) × HasPair pairs (hop.from, hop.to)

-- one more, if that is so; else the same
abbrev pub AddsIf : {X : Type 0} → Type 0 → X → List X → List X → Type 0
AddsIf P x old new = (P × (new ≡ old ++ x ∷ [])) ⊎ ((P → ⊥) × (new ≡ old))
