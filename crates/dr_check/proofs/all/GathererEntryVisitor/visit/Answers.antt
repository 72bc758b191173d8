use Rattle.std.proofs.Common.{refl, sym, ◌∙◌, subst, inl, List}
use Rattle.dr_base.specs.Texts.{Text}
use Rattle.dr_route.specs.Laws.{key_of}
use Rattle.dr_route.specs.declared.cell.OwnedCell.{OwnedCell}
use Rattle.dr_plan_model.specs.Networks.{Network}
use Rattle.dr_plan_model.specs.Plans.{IsWellFormed}
use Rattle.dr_plan_model.specs.Laws.{IsCellOf}
use Rattle.dr_plan_model.specs.Walks.{IsEntry}
use Rattle.dr_plan_model.proofs.WalksAlike.{cell_has_a_key}
use Rattle.dr_plan_entries.specs.Visiting.{VisitorGoesOn, IsThis}
use Rattle.dr_check.specs.declared.checker.Checker.{Checker}
use Rattle.dr_check.specs.declared.checker.Stopped.{Stopped}
use Rattle.dr_check.specs.declared.checker.Stopped.TheVariants as stopped
use Rattle.dr_check.specs.declared.fault.Fault.{Fault}
use Rattle.dr_check.specs.Checking.{CheckerIsReady, HasVisited, ShowsStopped}
use Rattle.dr_check.specs.Stopping.{IsStoppedAt}
use Rattle.dr_check.specs.AllFaults.{IsAtEntry, IsToldAtEntry, IsCovered}
use Rattle.dr_check.proofs.Entered.{visited_is_harmless}
use Rattle.dr_check.proofs.Told.{told_more, covered_more, covers_this}
use Rattle.dr_check.proofs.all.GathererEntryVisitor.visit.Goals as goal

pub visit-requires-clause-cell : goal.visit-requires-clause-cell
visit-requires-clause-cell c =
    let C : Network → Type 0 = λ plan. IsCellOf plan c.args.cell.now in
    subst C (sym c.in_ok-checker.ensures.plan) c.requires.cell

pub visit-requires-clause-entry : goal.visit-requires-clause-entry
visit-requires-clause-entry c =
    let E : Network → Type 0 = λ plan. IsEntry plan c.args.site.now (key_of c.args.cell.now) in
    subst E (sym c.in_ok-checker.ensures.plan) c.requires.entry

pub returns-in-None : goal.returns-in-None
returns-in-None c =
    let plan : Network = c.args.self.now.plan.now in
    let start : Checker = c.in_ok-checker.checker in
    let end : Checker = c.visit.new.self in
    let went : VisitorGoesOn
    (λ (v : Checker). v.plan.now) CheckerIsReady HasVisited ShowsStopped
    (IsThis c.args.site.now c.args.cell.now) start end = rw c.in-None.is at c.in_ok-visit.ensures in
    let harmless = visited_is_harmless plan end (went.same_plan ∙ c.in_ok-checker.ensures.plan)
    went.is_ready c.args.site.now c.args.cell.now c.requires.cell
    (went.wanted c.args.site.now c.args.cell.now (refl, refl)) in
    let G : Text → OwnedCell → Type 0 = λ s x. IsCovered plan c.args.self.now.faults s x in
    let here : G c.args.site.now c.args.cell.now = inl harmless in
    let S : Text → Type 0 = λ s. G s c.args.cell.now in
    record {
      same_plan = refl;
      is_ready = c.requires.ready;
      shown = λ finding s x h. h;
      kept = λ s x h. h;
      wanted = λ s x this.
          (let T : OwnedCell → Type 0 = λ y. G s y in
          subst T (sym this.1) (subst S (sym this.0) here));
    }

pub returns-in-Some-Fault : goal.returns-in-Some-Fault
returns-in-Some-Fault c =
    let plan : Network = c.args.self.now.plan.now in
    let site : Text = c.args.site.now in
    let cell : OwnedCell = c.args.cell.now in
    let fault : Fault = c.in-Some-Fault.fault in
    let start : Checker = c.in_ok-checker.checker in
    let W : Stopped → Type 0 = λ w. IsStoppedAt start.plan.now w site cell in
    let I : Network → Type 0 = λ p. IsStoppedAt p (stopped.Fault fault) site cell in
    let shown : W c.in-Some-Fault.field-0 = rw c.in-Some-Fault.is at c.in_ok-visit.ensures in
    let at : I plan =
    subst I c.in_ok-checker.ensures.plan (subst W c.in-Some-Fault.field-0-is shown) in
    let formed : IsWellFormed plan =
    subst (λ (p : Network). IsWellFormed p) c.in_ok-checker.ensures.plan c.in_ok-checker.ensures.ready.formed in
    let entered : IsAtEntry plan fault = record {
      site = site;
      cell = cell;
      entry = (key_of cell, cell_has_a_key plan formed cell c.requires.cell, c.requires.entry);
      on = at.2;
    } in
    let this : IsToldAtEntry plan fault = (at.0, at.1, entered) in
    let old : List Fault = c.args.self.now.faults in
    let more : List Fault = c.push.new.self in
    let grown = c.in_ok-push-in-Some-Fault.ensures.ok in
    let G : Text → OwnedCell → Type 0 = λ s x. IsCovered plan more s x in
    let here : G site cell = covers_this plan old more fault grown site cell at.2 in
    let S : Text → Type 0 = λ s. G s cell in
    record {
      same_plan = refl;
      is_ready = told_more plan old more fault grown c.requires.ready this;
      shown = λ finding s x h. h;
      kept = λ s x h. covered_more plan old more fault grown s x h;
      wanted = λ s x this.
          (let T : OwnedCell → Type 0 = λ y. G s y in
          subst T (sym this.1) (subst S (sym this.0) here));
    }
