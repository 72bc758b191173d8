-- The stop of a caller and a key, and the line that is found there.
use Rattle.std.proofs.Common.{◌≡◌, ℕ, sym, ◌∙◌, ap, subst, List, Contains}
use Rattle.std.proofs.lemmas.Option.{slice_get_within, get_or_from_slice_get}
use Rattle.dr_base.specs.Texts.{Text}
use Rattle.dr_route.specs.Cells.{InCell}
use Rattle.dr_route.specs.declared.key.Key.{Key}
use Rattle.dr_route.specs.declared.cell.OwnedCell.{OwnedCell}
use Rattle.dr_route.proofs.Agreement.{one_cell}
use Rattle.dr_plan_sound.specs.declared.certificate.Stop.{Stop}
use Rattle.dr_plan_sound.specs.declared.certificate.Line.{Line}
use Rattle.dr_cert.specs.Indexing.{HasNoLine, StandsAt}
use Rattle.dr_site.specs.Parts.{Part}
use Rattle.dr_site.specs.Routing.{HasLineFor}

abbrev stop_at : Text → Text → OwnedCell → Stop
stop_at caller node cell = record { caller = caller; node = node; cell = cell }

module _ (part : Part) (caller : Text) (key : Key) (cell : OwnedCell) (lies : InCell part.literals cell key) where
  pub found : (place : ℕ) → StandsAt part.lines (stop_at caller part.name cell) place → HasLineFor part caller key
  found place at =
      let line = at.0 in
      let P : OwnedCell → Type 0 = λ c. InCell part.literals c key in (
        line,
        (place, slice_get_within part.lines place line at.1, get_or_from_slice_get part.lines place line line at.1),
        ap (λ (s : Stop). s.caller) at.2,
        ap (λ (s : Stop). s.node) at.2,
        subst P (sym (ap (λ (s : Stop). s.cell) at.2)) lies,
      )

  pub not_found : HasNoLine part.lines (stop_at caller part.name cell) → HasLineFor part caller key → ⊥
  not_found none has =
      let line = has.0 in
      let same : line.stop ≡ stop_at caller part.name cell =
      ap (λ (c : Text). stop_at c line.stop.node line.stop.cell) has.2
      ∙ (ap (λ (n : Text). stop_at caller n line.stop.cell) has.3 ∙ ap (λ (c : OwnedCell). stop_at caller part.name c) (one_cell part.literals key line.stop.cell cell has.4 lies)) in
      let P : Stop → Type 0 = λ s. Contains part.lines (record { stop = s; rank = line.rank }) in
      none (line.rank, subst P same has.1)

-- the same of lines and of a stop that are equal to these
pub found_by : (part : Part) (caller : Text) (key : Key) (cell : OwnedCell) → InCell part.literals cell key → (lines : List Line) (stop : Stop) → lines ≡ part.lines →
    stop ≡ stop_at caller part.name cell → (place : ℕ) → StandsAt lines stop place → HasLineFor part caller key
found_by part caller key cell lies lines stop same_lines same_stop place at =
    let P : List Line → Type 0 = λ ls. StandsAt ls stop place in
    let Q : Stop → Type 0 = λ s. StandsAt part.lines s place in
    found part caller key cell lies place (subst Q same_stop (subst P same_lines at))

pub not_found_by : (part : Part) (caller : Text) (key : Key) (cell : OwnedCell) → InCell part.literals cell key → (lines : List Line) (stop : Stop) → lines ≡ part.lines →
    stop ≡ stop_at caller part.name cell → HasNoLine lines stop → HasLineFor part caller key → ⊥
not_found_by part caller key cell lies lines stop same_lines same_stop none =
    let P : List Line → Type 0 = λ ls. HasNoLine ls stop in
    let Q : Stop → Type 0 = λ s. HasNoLine part.lines s in
    not_found part caller key cell lies (subst Q same_stop (subst P same_lines none))
