-- Whether a site has a hop to a node.
use Rattle.std.proofs.Common.{◌≡◌, inl, inr, Bool, true, false, ◌||◌, List, [], ◌∷◌, Contains, refl, sym, ap, subst, ◌∙◌}
use Rattle.std.specs.Prelude.{MatchBool}
use Rattle.std.specs.List.{list_any}
use Rattle.std.specs.Str.{bytes_eq}
use Rattle.std.proofs.lemmas.Slice.Eq.{bytes_eq-Decides}
use Rattle.dr_plan_model.proofs.Gathered.{nothing_in_nil, Contains-cons_cases, Contains-here, Contains-there}
use Rattle.dr_base.specs.Texts.{Text}
use Rattle.dr_plan_sound.specs.declared.certificate.Hop.{Hop}
use Rattle.dr_site.specs.Parts.{Part, IsHopTo, ends_at}

pub hop_found : (dest : Text) (hops : List Hop) → true ≡ list_any (ends_at dest) hops → (hop : Hop) × Contains hops hop × (hop.to ≡ dest)
hop_found dest [] h = absurd (let e : ⊥ = cc in e)
hop_found dest (hop ∷ hops) h = by_case (bytes_eq hop.to dest) refl h (hop_found dest hops)
  where
    by_case : (b : Bool) → bytes_eq hop.to dest ≡ b → true ≡ (b || list_any (ends_at dest) hops) → (true ≡ list_any (ends_at dest) hops → (found : Hop) × Contains hops found × (found.to ≡ dest)) →
        (found : Hop) × Contains (hop ∷ hops) found × (found.to ≡ dest)
    by_case true is h later = (hop, Contains-here hop hops, (bytes_eq-Decides hop.to dest).0 is)
    by_case false is h later = let found = later h in (found.0, Contains-there hop hops found.0 found.1, found.2)

pub no_hop_found : (dest : Text) (hops : List Hop) → false ≡ list_any (ends_at dest) hops → (hop : Hop) → Contains hops hop → hop.to ≡ dest → ⊥
no_hop_found dest [] h hop c e = nothing_in_nil hop c
no_hop_found dest (first ∷ hops) h hop c e = by_case (bytes_eq first.to dest) refl h (no_hop_found dest hops)
  where
    by_case : (b : Bool) → bytes_eq first.to dest ≡ b → false ≡ (b || list_any (ends_at dest) hops) → (false ≡ list_any (ends_at dest) hops → (hop : Hop) → Contains hops hop → hop.to ≡ dest → ⊥) → ⊥
    by_case true is h later = let e : ⊥ = cc in e
    by_case false is h later = elim (Contains-cons_cases first hops hop c) [
      | inl same ↦ (let found : true ≡ false = sym ((bytes_eq-Decides first.to dest).1 (ap (λ (x : Hop). x.to) same ∙ e)) ∙ is in let none : ⊥ = cc in none)
      | inr there ↦ later h hop there e
    ]

pub has_hop : (part : Part) (dest : Text) (hops : List Hop) (b : Bool) → hops ≡ part.hops → b ≡ list_any (ends_at dest) hops
    → MatchBool b ((hop : Hop) × IsHopTo part dest hop) ((hop : Hop) → IsHopTo part dest hop → ⊥)
has_hop part dest hops true same h = let f = hop_found dest part.hops (subst (λ (hs : List Hop). true ≡ list_any (ends_at dest) hs) same h) in (f.0, (f.1, f.2))
has_hop part dest hops false same h = λ hop there. no_hop_found dest part.hops (subst (λ (hs : List Hop). false ≡ list_any (ends_at dest) hs) same h) hop there.0 there.1
