use Rattle.std.proofs.Common.{◌≡◌, ◌∙◌, refl, sym, ap, subst, List, [], ◌∷◌, ◌++◌, Contains, reverse}
use Rattle.dr_base.specs.Texts.{Text}
use Rattle.dr_route.specs.declared.key.Key.{Key}
use Rattle.dr_check.specs.declared.search.Search.{Search}
use Rattle.dr_check.specs.declared.search.Frame.{Frame}
use Rattle.dr_plan_model.specs.Networks.{Network}
use Rattle.dr_plan_model.proofs.Gathered.{nothing_in_nil}
use Rattle.dr_route.specs.Routes.{local}
use Rattle.dr_route.specs.declared.cell.OwnedCell.{OwnedCell}
use Rattle.dr_check.specs.Searching.{IsTrail, IsNew, IsEnd, IsFirstEnd, IsFirstYet, IsAllOpen, WasTested, pairs_from}
use Rattle.dr_check.specs.Stacks.{IsTop, IsStack, Enters}
use Rattle.dr_check.proofs.Named.{first_alone, first_end}
use Rattle.dr_check.proofs.Stacked.{new_top, after_steps}
use Rattle.dr_check.proofs.search.reach.Goals as goal

-- a search that stands on no walk begins with the first one
all_open : (cell : OwnedCell) (s : Search) → s.path.items ≡ [] → IsAllOpen cell s
all_open cell s none = λ a b among. let P : List Text → Type 0 = λ ns. Contains (pairs_from local ns) (a, b) in absurd (nothing_in_nil (a, b) (subst P none among))

first_from : (plan : Network) (cell : OwnedCell) (s : Search) (node : Text) → s.path.items ≡ [] → IsFirstYet plan cell (s.path.items ++ node ∷ [])
first_from plan cell s node none = let P : List Text → Type 0 = λ ns. IsFirstYet plan cell (ns ++ node ∷ []) in subst P (sym none) (first_alone plan cell node)

pub returns-in-End : goal.returns-in-End
returns-in-End c =
    let s : Search = c.args.search.now in
    let caller : Text = c.args.caller.now in
    let node : Text = c.args.node.now in
    let K : Key → Type 0 = λ k. IsTrail c.args.plan.now k (s.path.items ++ node ∷ []) caller node in
    let ended : IsEnd c.args.plan.now c.args.cell.now (s.path.items ++ node ∷ []) c.in-End.end × WasTested c.args.plan.now c.args.cell.now caller node s c.in-End.end =
    rw c.in-End.is at c.in_ok-rank.ensures in
    let pushed : c.push.new.self.items ≡ s.path.items ++ node ∷ [] =
    c.in_ok-push-in-End.ensures.items ∙ ap (λ (n : Text). s.path.items ++ n ∷ []) c.in_ok-clone-in-End.ensures in
    let N : List Text → Type 0 = λ ns. IsFirstEnd c.args.plan.now c.args.cell.now ns c.in-End.end in (
      subst N (sym pushed) (first_end c.args.plan.now c.requires.formed c.args.cell.now c.requires.cell s caller node (subst K c.requires.key c.requires.trail)
          (all_open c.args.cell.now s c.requires.alone) (first_from c.args.plan.now c.args.cell.now s node c.requires.alone) c.in-End.end ended.0 ended.1),
      ([], pushed),
    )

pub search-init : goal.search-init
search-init c =
    let s : Search = c.args.search.now in
    let new : Search = c.begin.new.search in
    let caller : Text = c.args.caller.now in
    let node : Text = c.args.node.now in
    let K : Key → Type 0 = λ k. IsTrail c.args.plan.now k (s.path.items ++ node ∷ []) caller node in
    let fresh : IsNew c.args.plan.now c.args.cell.now caller node c.in-New.stop c.in-New.targets s = rw c.in-New.is at c.in_ok-rank.ensures in
    let both = new_top c.args.plan.now c.args.cell.now c.requires.cell s new caller node c.in-New.stop c.in-New.targets c.requires.searching
    (subst K c.requires.key c.requires.trail) fresh c.in_ok-top-in-New.ensures.search
    c.requires.formed (all_open c.args.cell.now s c.requires.alone) (first_from c.args.plan.now c.args.cell.now s node c.requires.alone) in
    let mk : Text → Text → Frame = λ a b. record { caller = a; node = b; targets = c.in-New.targets; searched = 0; rank = 0 } in
    let is : c.in_ok-top-in-New.top ≡ mk caller node =
    c.in_ok-top-in-New.ensures.frame in
    let P : Frame → Type 0 = λ f. IsTop c.args.plan.now c.args.cell.now f new in
    let Q : Frame → Type 0 = λ f. IsStack c.args.plan.now c.args.cell.now s caller node [] f new in
    let L : List Frame → Type 0 = λ fs. IsStack c.args.plan.now c.args.cell.now s caller node (reverse fs) c.in_ok-top-in-New.top new in
    record {
      top = subst P (sym is) both.1;
      stack = subst L (sym c.new-below.ensures.items) (subst Q (sym is) (refl, refl, both.0));
    }

pub returns-in-Some : goal.returns-in-Some
returns-in-Some c =
    after_steps c.args.plan.now c.args.cell.now c.search.search c.step.new.search c.args.search.now c.search.top c.step.new.top c.search.below.items c.step.new.below.items
    c.args.caller.now c.args.node.now c.in-Some.found (rw c.in-Some.is at c.in_ok-found.ensures) c.search.invariant.stack
