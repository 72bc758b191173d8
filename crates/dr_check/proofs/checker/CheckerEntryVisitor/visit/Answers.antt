use Rattle.std.proofs.Common.{◌≡◌, refl, sym, ◌∙◌, ap, subst, List, [], ◌∷◌, ◌++◌, Contains}
use Rattle.dr_base.specs.Texts.{Text}
use Rattle.dr_route.specs.Routes.{local}
use Rattle.dr_route.specs.Laws.{key_of}
use Rattle.dr_route.specs.declared.key.Key.{Key}
use Rattle.dr_route.specs.declared.cell.OwnedCell.{OwnedCell}
use Rattle.dr_plan_sound.specs.Ranked.{line_at}
use Rattle.dr_plan_model.specs.Networks.{Network}
use Rattle.dr_check.specs.Searching.{IsSearchedThrough, IsTrail, IsFirstEnd, GoesOnFrom}
use Rattle.dr_check.specs.Stopping.{IsStoppedAt}
use Rattle.dr_check.proofs.Trails.{trail_begins}
use Rattle.dr_check.proofs.Steps.{any_cell}
use Rattle.dr_check.proofs.checker.CheckerEntryVisitor.visit.Goals as goal

pub reach-requires-clause-searching : goal.reach-requires-clause-searching
reach-requires-clause-searching c = c.requires.ready.searching c.args.cell.now

pub reach-requires-clause-trail : goal.reach-requires-clause-trail
reach-requires-clause-trail c =
    let begins = trail_begins c.args.self.now.plan.now (key_of c.args.cell.now) c.args.site.now c.requires.entry in
    let K : Key → Type 0 = λ k. IsTrail c.args.self.now.plan.now k (c.args.site.now ∷ []) local c.args.site.now in
    let P : List Text → Type 0 = λ ns. IsTrail c.args.self.now.plan.now c.in_ok-key.key (ns ++ c.args.site.now ∷ []) local c.args.site.now in
    let L : Text → Type 0 = λ caller. IsTrail c.args.self.now.plan.now c.in_ok-key.key (c.args.self.now.search.path.items ++ c.args.site.now ∷ []) caller c.args.site.now in
    subst L (sym c.requires.ready.local_caller) (subst P (sym c.requires.ready.no_walk) (subst K (sym c.in_ok-key.ensures) begins))

pub reach-requires-clause-alone : goal.reach-requires-clause-alone
reach-requires-clause-alone c = c.requires.ready.no_walk

pub returns-in-Rank : goal.returns-in-Rank
returns-in-Rank c =
    let done : IsSearchedThrough c.args.self.now.plan.now c.args.cell.now c.args.self.now.local c.args.site.now c.in-Rank.field-0 c.args.self.now.search c.reach.new.search =
    rw c.in-Rank.is at c.in_ok-reach.ensures in
    let no_walk : c.reach.new.search.path.items ≡ [] = done.path ∙ c.requires.ready.no_walk in
    record {
      same_plan = refl;
      is_ready = record {
        formed = c.requires.ready.formed;
        local_caller = c.requires.ready.local_caller;
        no_walk = no_walk;
        searching = λ cell. any_cell c.args.self.now.plan.now c.args.cell.now cell c.reach.new.search no_walk done.searching;
      };
      shown = λ finding s c h. h;
      kept = λ site cell before. (before.0, done.later.lines _ before.1);
      wanted = λ site cell this.
          let P : Text → Type 0 = λ caller. Contains c.reach.new.search.lines.items (line_at caller c.args.site.now c.args.cell.now c.in-Rank.field-0) in
          let Q : Text → Type 0 = λ s. Contains c.reach.new.search.lines.items (line_at local s cell c.in-Rank.field-0) in
          let R : OwnedCell → Type 0 = λ x. Contains c.reach.new.search.lines.items (line_at local c.args.site.now x c.in-Rank.field-0) in
          (c.in-Rank.field-0, subst Q (sym this.0) (subst R (sym this.1) (subst P c.requires.ready.local_caller (done.searching.marked _ c.in-Rank.field-0 done.rank))));
    }

pub returns : goal.returns
returns c =
    let plan : Network = c.args.self.now.plan.now in
    let site : Text = c.args.site.now in
    let T : List Text → Type 0 = λ walk. IsFirstEnd plan c.args.cell.now walk c.in-End.end in
    let ended : T c.reach.new.search.path.items × GoesOnFrom c.args.self.now.search site c.reach.new.search = rw c.in-End.is at c.in_ok-reach.ensures in
    let same : c.replace-walk.result.items ≡ c.reach.new.search.path.items = ap (λ v. v.items) c.replace-walk.ensures.value in
    let begins : c.replace-walk.result.items ≡ site ∷ ended.1.0 = same ∙ (ended.1.1 ∙ ap (λ (ns : List Text). ns ++ site ∷ ended.1.0) c.requires.ready.no_walk) in
    let P : OwnedCell → Type 0 = λ x. IsFirstEnd plan x c.replace-walk.result.items c.in-End.end in
    let Q : OwnedCell → Type 0 = λ x. IsStoppedAt plan c.stopped_by.result site x in
    subst Q c.in_ok-copy_cell-in-End.ensures (c.stopped_by.ensures plan site ended.1.0 begins
    (subst P (sym c.in_ok-copy_cell-in-End.ensures) (subst T (sym same) ended.0)))
