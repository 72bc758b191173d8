-- A site's hops and accept rows say what its plan says.
use Rattle.std.proofs.Common.{◌≡◌, ◌+◌, ◌*◌, refl, sym, subst, List, length, Contains}
use Rattle.std.specs.Prelude.{◌↔◌, filter}
use Rattle.std.proofs.lemmas.List.Sorted.{Contains-permutation, IsPermutation-sym}
use Rattle.std.proofs.lemmas.Option.{slice_get_within, get_or_from_slice_get, slice_get_read}
use Rattle.std.proofs.lemmas.Slice.Eq.{bytes_eq-Decides}
use Rattle.dr_base.specs.Texts.{Text}
use Rattle.dr_base.specs.declared.syntax.Syntax.{Syntax}
use Rattle.dr_route.specs.Routes.{AcceptsBy}
use Rattle.dr_route.specs.declared.accept.AcceptRow.{AcceptRow}
use Rattle.dr_plan_model.specs.declared.plan.Node.{Node}
use Rattle.dr_plan_model.specs.Networks.{Network}
use Rattle.dr_plan_model.specs.Walks.{GoesOver}
use Rattle.dr_plan_sound.specs.declared.certificate.Hop.{Hop}
use Rattle.dr_plan_sound.specs.declared.certificate.Certificate.{Certificate}
use Rattle.dr_plan_sound.specs.Certificates.{HasHop}
use Rattle.dr_plan_sound.proofs.PairLists.{hops_have_lists}
use Rattle.dr_site.specs.Parts.{Part, IsPartOf, begins_at, ends_at, hops_to}
use Rattle.dr_site.specs.Sites.{IsCertified}
use Rattle.dr_site.specs.Contexts.{PairsAreAsPlanned, AcceptsAsPlanned}
use Rattle.dr_site.proofs.AsPlanned.{kept_by, keeps_by, same_name}

-- a site's hops are those of the certificate that begin at its node
pub own_hop : (plan : Network) (certificate : Certificate) (part : Part) → IsPartOf plan certificate part → (hop : Hop) →
    Contains part.hops hop ↔ (Contains certificate.hops hop × (hop.from ≡ part.name))
own_hop plan certificate part is hop =
    let own = filter (begins_at part.name) certificate.hops in (
      λ h.
          let k = kept_by (begins_at part.name) certificate.hops hop (Contains-permutation part.hops own hop (IsPermutation-sym own part.hops is.hops.same) h) in
          (k.0, (bytes_eq-Decides hop.from part.name).0 k.1),
      λ h. Contains-permutation own part.hops hop is.hops.same (keeps_by (begins_at part.name) certificate.hops hop h.0 (same_name hop.from part.name h.1)),
    )

-- those to a node are those that end there
pub hop_to : (part : Part) (dest : Text) (hop : Hop) → Contains (hops_to part dest) hop ↔ (Contains part.hops hop × (hop.to ≡ dest))
hop_to part dest hop = (
  λ h. (let k = kept_by (ends_at dest) part.hops hop h in (k.0, (bytes_eq-Decides hop.to dest).0 k.1)),
  λ h. keeps_by (ends_at dest) part.hops hop h.0 (same_name hop.to dest h.1),
)

-- a hop of the site is a numbered pair of its plan
pub site_hop : (plan : Network) (certificate : Certificate) (part : Part) → IsCertified plan certificate → IsPartOf plan certificate part → (hop : Hop) → Contains part.hops hop →
    HasHop plan hop × (hop.from ≡ part.name)
site_hop plan certificate part sealed is hop h =
    let own = (own_hop plan certificate part is hop).0 h in
    ((sealed.certified.hops hop).0 own.0, own.1)

-- its pair goes over the hop
pub hop_goes : (plan : Network) (hop : Hop) → HasHop plan hop → GoesOver plan hop.from hop.to (hop.class, hop.syntax)
hop_goes plan hop h =
    let pair : Text × Syntax = (hop.class, hop.syntax) in
    (h.2.each pair).0 (h.1, slice_get_within h.0 h.1 pair h.3, get_or_from_slice_get h.0 h.1 pair pair h.3)

pub pairs_as_planned : PairsAreAsPlanned
pairs_as_planned plan certificate part sealed is dest class syntax = (
  λ h.
      let hop = h.0 in
      let at = (hop_to part dest hop).0 h.1 in
      let own = site_hop plan certificate part sealed is hop at.0 in
      let goes = hop_goes plan hop own.0 in
      let P : Text → Type 0 = λ f. GoesOver plan f hop.to (hop.class, hop.syntax) in
      let Q : Text → Type 0 = λ t. GoesOver plan part.name t (hop.class, hop.syntax) in
      let R : Text → Type 0 = λ c. GoesOver plan part.name dest (c, hop.syntax) in
      let S : Syntax → Type 0 = λ s. GoesOver plan part.name dest (class, s) in
      subst S h.3 (subst R h.2 (subst Q at.1 (subst P own.1 goes))),
  λ goes.
      let all = hops_have_lists plan certificate sealed.formed sealed.sound sealed.certified part.name dest in
      let pair : Text × Syntax = (class, syntax) in
      let at : Contains all.0 pair = (all.1.each pair).1 goes in
      let hop : Hop = record { «from» = part.name; «to» = dest; id = 2 * at.0 + 1; class = class; syntax = syntax } in
      let has : HasHop plan hop = (all.0, at.0, all.1, slice_get_read all.0 (length all.0) at.0 pair refl at.1 (sym at.2), refl) in
      let own = (own_hop plan certificate part is hop).1 ((sealed.certified.hops hop).1 has, refl) in
      (hop, (hop_to part dest hop).1 (own, refl), refl, refl),
)

pub accepts_as_planned : AcceptsAsPlanned
accepts_as_planned plan certificate part is caller class syntax =
    let P : List AcceptRow → Type 0 = λ rows. AcceptsBy rows caller class syntax in
    let N : Node → Type 0 = λ n. AcceptsBy n.accepts caller class syntax in (
      λ h. (is.node.0, is.node.1.0, subst P is.node.4 h),
      λ h. subst P (sym is.node.4) (subst N (is.node.1.1 h.0 h.1) h.2),
    )
