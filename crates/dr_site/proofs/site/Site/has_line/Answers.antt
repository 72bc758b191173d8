use Rattle.std.proofs.Common.{◌≡◌, ◌∙◌, ap, refl, sym, subst}
use Rattle.std.proofs.lemmas.Bool.{false≢true}
use Rattle.dr_site.specs.Parts.{Part}
use Rattle.dr_site.specs.Routing.{HasLineFor}
use Rattle.dr_site.proofs.Looking.{found_by, not_found_by}
use Rattle.dr_site.proofs.Shown.{shown}
use Rattle.dr_site.proofs.site.Site.has_line.Goals as goal

pub returns-in_default : goal.returns-in_default
returns-in_default c = (
  λ never. absurd (false≢true never),
  λ has.
      let P : Part → Type 0 = λ p. HasLineFor p c.args.caller.now c.args.key.now in
      let part = shown c.as_ref-parts.result.now in
      let same : part ≡ c.args.self.now = ap shown c.as_ref-parts.ensures ∙ c.self.view_is in
      absurd (not_found_by part c.args.caller.now c.args.key.now _ c.cell_of.ensures _ _ c.as_slice.ensures.value c.new-stop.ensures
      c.in_default.ensures (subst P (sym same) has)),
)

pub returns : goal.returns
returns c = (
  λ always.
      let P : Part → Type 0 = λ p. HasLineFor p c.args.caller.now c.args.key.now in
      let part = shown c.as_ref-parts.result.now in
      let same : part ≡ c.args.self.now = ap shown c.as_ref-parts.ensures ∙ c.self.view_is in
      subst P same (found_by part c.args.caller.now c.args.key.now _ c.cell_of.ensures _ _ c.as_slice.ensures.value c.new-stop.ensures
      _ c.in-Some.ensures),
  λ has. refl,
)
