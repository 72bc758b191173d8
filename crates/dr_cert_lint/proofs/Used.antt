-- What lines say of the use of a node's parts.
use Rattle.std.proofs.Common.{◌≡◌, ℕ, refl, sym, subst, ◌∙◌, List, Contains}
use Rattle.dr_base.specs.Texts.{Text}
use Rattle.dr_base.specs.declared.syntax.Syntax.{Syntax}
use Rattle.dr_route.specs.Laws.{key_of}
use Rattle.dr_route.specs.Routes.{Takes}
use Rattle.dr_route.specs.declared.cell.OwnedCell.{OwnedCell}
use Rattle.dr_route.specs.declared.key.Key.{Key}
use Rattle.dr_route.proofs.Agreement.{holds_agrees, keeps_agree}
use Rattle.dr_plan_model.specs.Networks.{Network}
use Rattle.dr_plan_model.specs.Plans.{IsWellFormed, LiesIn, literals_of}
use Rattle.dr_plan_model.specs.Walks.{IsReached}
use Rattle.dr_plan_model.proofs.WalksAlike.{cell_has_a_key}
use Rattle.dr_plan_sound.specs.declared.certificate.Certificate.{Certificate}
use Rattle.dr_plan_sound.specs.declared.certificate.Line.{Line}
use Rattle.dr_plan_sound.specs.Certificates.{HasLine, IsCertificateOf}
use Rattle.dr_plan_sound.specs.Ranked.{line_at}
use Rattle.dr_plan_sound.specs.Soundness.{IsSound}
use Rattle.dr_plan_sound.proofs.RankedLines.{some_cell}
use Rattle.dr_plan_sound.proofs.Ranks.{sound_has_rank}
use Rattle.dr_plan_entries.proofs.Entries.{cell_that_lies}
use Rattle.dr_cert_lint.specs.Uses.{IsKnownPart, IsUsed, ServesLine, Uses}
use Rattle.dr_cert_lint.specs.declared.uses.PartInUse.{PartInUse}
use Rattle.dr_cert_lint.specs.declared.uses.PartInUse.TheVariants.{Whole, Row, Rule, Kept}

-- a part is of use for keys of one cell alike
uses_alike : (plan : Network) (cell : OwnedCell) (k l : Key) → LiesIn plan cell k → LiesIn plan cell l → (part : PartInUse) → IsKnownPart plan part → (caller : Text) → Uses part caller k → Uses part caller l
uses_alike plan cell k l a b Whole known caller h = tt
uses_alike plan cell k l a b (Row row) known caller h =
    let C : Text → Type 0 = λ c. Takes row.now caller c k.syntax in
    let S : Syntax → Type 0 = λ s. Takes row.now caller l.class s in
    (h.0, subst S (sym a.syntax ∙ b.syntax) (subst C (sym a.class ∙ b.class) h.1))
uses_alike plan cell k l a b (Rule rule) known caller h = holds_agrees (literals_of plan) cell k l a b rule.now known caller h
uses_alike plan cell k l a b (Kept rules) known caller h = keeps_agree (literals_of plan) cell k l a b rules.now known caller h

module _ (plan : Network) (certificate : Certificate) (formed : IsWellFormed plan) (sound : IsSound plan) (own : IsCertificateOf plan certificate) (name : Text) (part : PartInUse) (known : IsKnownPart plan part) where
  -- a line shows that the part is used
  pub used_by_line : (line : Line) → Contains certificate.lines line → ServesLine name part line → IsUsed plan name part
  used_by_line line among serves =
      let cell = line.stop.cell in
      let has : HasLine plan line = (own.lines line).0 among in
      let back : LiesIn plan cell (key_of cell) = cell_has_a_key plan formed cell (cell_that_lies plan cell has.0 has.1) in
      let P : Text → Type 0 = λ n. IsReached plan has.0 line.stop.caller n in
      (has.0, line.stop.caller, subst P serves.0 has.2, uses_alike plan cell (key_of cell) has.0 back has.1 part known line.stop.caller serves.1)

  -- where it is used, some line shows it
  pub line_that_uses : IsUsed plan name part → (line : Line) × Contains certificate.lines line × ServesLine name part line
  line_that_uses used =
      let key = used.0 in
      let caller = used.1 in
      let cell = some_cell plan key in
      let rank = sound_has_rank plan sound key caller name used.2 in
      let line : Line = line_at caller name cell.0 rank.0 in
      let back : LiesIn plan cell.0 (key_of cell.0) = cell_has_a_key plan formed cell.0 (cell_that_lies plan cell.0 key cell.1) in
      (line, (own.lines line).1 (key, cell.1, used.2, rank.1), (refl, uses_alike plan cell.0 key (key_of cell.0) cell.1 back part known caller used.3))
