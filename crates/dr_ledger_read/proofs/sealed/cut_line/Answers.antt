use Rattle.std.proofs.Common.{Bor, List, Some, subst, ℕ}
use Rattle.dr_ledger_read.specs.Cutting.{IsCut, Same}
use Rattle.dr_ledger_read.specs.Places.{IsKind}
use Rattle.dr_ledger_read.specs.declared.kind.CallKind.{CallKind}
use Rattle.dr_ledger_read.specs.declared.kind.CallKind.TheVariants as kind
use Rattle.dr_ledger_read.specs.declared.places.LinePlaces.TheVariants as stands
use Rattle.dr_ledger_read.proofs.Said.{adoption_cut, line_cut, no_line_kind}
use Rattle.dr_ledger_read.proofs.sealed.cut_line.Goals as goal

-- that kind was cut off
abbrev IsFound : List ℕ → Bor (List ℕ) → CallKind → Type 0
IsFound text behind k = IsCut CallKind CallKind Same (IsKind text) (k, behind)

pub returns-in_err-kind : goal.returns-in_err-kind
returns-in_err-kind c = rw c.from_residual.ensures (no_line_kind c.args.text.now c.in_err-kind.ensures)

pub returns-in-Arrival : goal.returns-in-Arrival
returns-in-Arrival c = line_cut c.args.text.now kind.Arrival c.in_ok-kind.behind (subst (IsFound c.args.text.now c.in_ok-kind.behind) c.in-Arrival.is c.in_ok-kind.ensures) c.cut_arrival.result c.cut_arrival.ensures

pub returns-in-Repeat : goal.returns-in-Repeat
returns-in-Repeat c = line_cut c.args.text.now kind.Repeat c.in_ok-kind.behind (subst (IsFound c.args.text.now c.in_ok-kind.behind) c.in-Repeat.is c.in_ok-kind.ensures) c.cut_repeat.result c.cut_repeat.ensures

pub returns-in-Settling : goal.returns-in-Settling
returns-in-Settling c = line_cut c.args.text.now kind.Settling c.in_ok-kind.behind (subst (IsFound c.args.text.now c.in_ok-kind.behind) c.in-Settling.is c.in_ok-kind.ensures) c.cut_settling.result c.cut_settling.ensures

pub returns-in-Requeuing : goal.returns-in-Requeuing
returns-in-Requeuing c = line_cut c.args.text.now kind.Requeuing c.in_ok-kind.behind (subst (IsFound c.args.text.now c.in_ok-kind.behind) c.in-Requeuing.is c.in_ok-kind.ensures) c.cut_requeuing.result c.cut_requeuing.ensures

pub returns-in-Dropping : goal.returns-in-Dropping
returns-in-Dropping c = line_cut c.args.text.now kind.Dropping c.in_ok-kind.behind (subst (IsFound c.args.text.now c.in_ok-kind.behind) c.in-Dropping.is c.in_ok-kind.ensures) c.cut_dropping.result c.cut_dropping.ensures

pub returns-in-Forgetting : goal.returns-in-Forgetting
returns-in-Forgetting c = line_cut c.args.text.now kind.Forgetting c.in_ok-kind.behind (subst (IsFound c.args.text.now c.in_ok-kind.behind) c.in-Forgetting.is c.in_ok-kind.ensures) c.cut_forgetting.result c.cut_forgetting.ensures

pub returns-in-Adoption : goal.returns-in-Adoption
returns-in-Adoption c =
    line_cut c.args.text.now kind.Adoption c.in_ok-kind.behind (subst (IsFound c.args.text.now c.in_ok-kind.behind) c.in-Adoption.is c.in_ok-kind.ensures) (Some (stands.Adoption, c.in_ok-kind.behind))
    (adoption_cut c.in_ok-kind.behind)
