-- A walker visits an entry.
use Rattle.std.proofs.Common.{◌≡◌, ℕ, sym, ◌∙◌, subst, List, get_or, Bool, Some, true, false}
use Rattle.std.specs.Prelude.{slice_get, All}
use Rattle.std.proofs.lemmas.Bool.{false≢true}
use Rattle.std.proofs.lemmas.Option.{slice_get_within, get_or_from_slice_get}
use Rattle.dr_base.specs.Texts.{Text}
use Rattle.dr_route.specs.Routes.{local}
use Rattle.dr_route.specs.declared.cell.OwnedCell.{OwnedCell}
use Rattle.dr_plan_sound.specs.declared.certificate.Stop.{Stop}
use Rattle.dr_plan_sound.specs.declared.certificate.Line.{Line}
use Rattle.dr_plan_entries.specs.Visiting.{VisitorGoesOn, IsThis}
use Rattle.dr_cert.specs.Walking.{IsWalking, IsMarked, HasVisited, ShowsMissing, AfterMark}
use Rattle.dr_cert.specs.declared.walker.Walker.{Walker}
use Rattle.dr_cert.proofs.Following.{marked_still}
use Rattle.dr_cert.proofs.Walked.{missing_before}

abbrev pub entry_stop : Text → Text → OwnedCell → Stop
entry_stop caller site cell = record { caller = caller; node = site; cell = cell }

pub visited : (old new : Walker) (site : Text) (cell : OwnedCell) (place : ℕ) → AfterMark old new (entry_stop local site cell) (Some place) →
    VisitorGoesOn (λ (w : Walker). w.plan.now) IsWalking HasVisited ShowsMissing (IsThis site cell) old new
visited old new site cell place after =
    let L : List Line → Type 0 = λ ls. IsMarked ls new.reached.items (entry_stop local site cell) in
    let here : HasVisited new site cell = subst L (sym after.1.lines) (place, after.2, after.3) in
    record {
      same_plan = after.1.plan;
      is_ready = after.0;
      shown = λ missing s c shows. (shows.0 ∙ after.1.lines, λ real. missing_before old new after.1 (shows.1 real));
      kept = λ s c before. (let K : List Line → Type 0 = λ ls. IsMarked ls new.reached.items (entry_stop local s c) in subst K (sym after.1.lines) (marked_still old.lines.now old new (entry_stop local s c) after.1 before));
      wanted = λ s c this.
          (let P : Text → Type 0 = λ x. HasVisited new x c in
          let Q : OwnedCell → Type 0 = λ x. HasVisited new site x in
          subst P (sym this.0) (subst Q (sym this.1) here));
    }

-- nothing is marked in the beginning
pub none_marked : (marks : List Bool) (place : ℕ) → All (λ mark. mark ≡ false) marks → slice_get marks place ≡ Some true → ⊥
none_marked marks place none at =
    let off : get_or marks place true ≡ false = none place true (slice_get_within marks place true at) in
    false≢true (sym off ∙ get_or_from_slice_get marks place true true at)
