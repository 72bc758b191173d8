use Rattle.std.proofs.Common.{◌≡◌, ◌≢◌, ◌+◌, ◌≤◌, refl, sym, ◌∙◌, ap, subst, List, [], ◌∷◌, ◌++◌, length, reverse, arith, length-append}
use Rattle.std.specs.BTreeMap.{btree_map_len}
use Rattle.std.proofs.lemmas.List.{reverse-append}
use Rattle.dr_base.specs.Texts.{Text}
use Rattle.dr_route.specs.Laws.{key_of}
use Rattle.dr_plan_sound.specs.declared.certificate.Stop.{Stop}
use Rattle.dr_plan_sound.specs.Ranked.{SendsOn}
use Rattle.dr_check.specs.declared.search.Search.{Search}
use Rattle.dr_check.specs.declared.search.Frame.{Frame}
use Rattle.dr_check.specs.Searching.{IsNew, IsSearchedThrough, IsFirstEnd, IsFirstYet}
use Rattle.dr_check.specs.Stacks.{IsTop, IsStack, IsSameFrame, Enters, stop_of_frame}
use Rattle.dr_check.proofs.Trails.{trail_goes_on}
use Rattle.dr_check.proofs.Stacked.{new_top, top_finished, top_resumed, stack_resumed, same_stack, begins_pushed, stack_begins}
use Rattle.dr_check.proofs.search.step.Goals as goal

nothing_there : {X : Type 0} (xs : List X) → length xs ≡ 0 → xs ≡ []
nothing_there [] e = refl
nothing_there (x ∷ xs) e = absurd (omega (arith, e))

pub returns-in_ok-push-in-New : goal.returns-in_ok-push-in-New
returns-in_ok-push-in-New c =
    let s : Search = c.args.search.now in
    let new : Search = c.enter.new.search in
    let f : Frame = c.go_on.new.frame in
    let node : Text = c.in-New.node in
    let found : IsSameFrame c.args.top.now f × IsTop c.args.plan.now c.args.cell.now f s
    × IsNew c.args.plan.now c.args.cell.now f.node node c.in-New.stop c.in-New.targets s
    × SendsOn c.args.plan.now (stop_of_frame c.args.cell.now f) node
    × IsFirstYet c.args.plan.now c.args.cell.now (s.path.items ++ node ∷ []) = rw c.in-New.is at c.in_ok-node.ensures in
    let trail = trail_goes_on c.args.plan.now (key_of c.args.cell.now) s.path.items f.caller f.node node found.1.trail found.3 in
    let both = new_top c.args.plan.now c.args.cell.now c.requires.cell s new f.node node c.in-New.stop c.in-New.targets found.1.searching trail found.2
    c.in_ok-next-in-New.ensures.search c.requires.formed found.1.opened found.4 in
    let fresh : Frame = record { caller = f.node; node = node; targets = c.in-New.targets; searched = 0; rank = 0 } in
    let is_fresh : c.replace.new.dest ≡ fresh =
    c.replace.ensures.after ∙ (c.in_ok-next-in-New.ensures.frame
    ∙ ap (λ (a : Text). let g : Frame = record { caller = a; node = node; targets = c.in-New.targets; searched = 0; rank = 0 } in g) c.in_ok-caller-in-New.ensures) in
    let pushed : c.push-in-New.new.self.items ≡ c.args.below.now.items ++ f ∷ [] =
    c.in_ok-push-in-New.ensures.items ∙ ap (λ (g : Frame). c.args.below.now.items ++ g ∷ []) c.replace.ensures.value in
    let stacked : reverse c.push-in-New.new.self.items ≡ f ∷ reverse c.args.below.now.items =
    ap (λ (fs : List Frame). reverse fs) pushed ∙ reverse-append c.args.below.now.items (f ∷ []) in
    let longer : length c.push-in-New.new.self.items ≡ length c.args.below.now.items + 1 =
    ap (λ (fs : List Frame). length fs) pushed ∙ simp length-append (omega arith) in
    let E : Stop → Type 0 = λ x. Enters s new node x in
    let put = subst E found.2.same c.in_ok-next-in-New.ensures.search in
    let grown : btree_map_len new.marks ≡ btree_map_len s.marks + 1 = put.grown found.2.fresh in
    let small : btree_map_len s.marks ≢ 65536 = found.2.small in
    let within : btree_map_len s.marks ≤ 65536 = found.1.searching.within in (
      omega (arith, longer, grown, small, within),
      λ start caller from stack.
          let T : Frame → Type 0 = λ g. IsTop c.args.plan.now c.args.cell.now g new
          × IsStack c.args.plan.now c.args.cell.now start caller from (f ∷ reverse c.args.below.now.items) g new in
          let L : List Frame → Type 0 = λ fs. IsTop c.args.plan.now c.args.cell.now c.replace.new.dest new
          × IsStack c.args.plan.now c.args.cell.now start caller from fs c.replace.new.dest new in
          subst L (sym stacked) (subst T (sym is_fresh) (
            both.1,
            (s, both.0, found.1, same_stack c.args.plan.now c.args.cell.now start caller from (reverse c.args.below.now.items) c.args.top.now f s found.0 stack),
          )),
    )

pub returns-in-Some : goal.returns-in-Some
returns-in-Some c =
    let s : Search = c.args.search.now in
    let new : Search = c.leave.new.search in
    let f : Frame = c.go_on.new.frame in
    let g : Frame = c.in-Some.frame in
    let found : IsSameFrame c.args.top.now f × IsTop c.args.plan.now c.args.cell.now f s × (f.searched ≡ length f.targets) =
    rw c.in-Nothing.is at c.in_ok-node.ensures in
    let popped : c.args.below.now.items ≡ c.pop.new.self.items ++ g ∷ [] = c.in-Some.ensures.items in
    let stacked : reverse c.args.below.now.items ≡ g ∷ reverse c.pop.new.self.items =
    ap (λ (fs : List Frame). reverse fs) popped ∙ reverse-append c.pop.new.self.items (g ∷ []) in
    let longer : length c.args.below.now.items ≡ length c.pop.new.self.items + 1 =
    ap (λ (fs : List Frame). length fs) popped ∙ simp length-append (omega arith) in
    let same_size : btree_map_len new.marks ≡ btree_map_len s.marks = c.in_ok-leave-in-Nothing.ensures.same_size found.1.here in (
      omega (arith, longer, same_size),
      λ start caller from stack.
          let L : List Frame → Type 0 = λ fs. IsStack c.args.plan.now c.args.cell.now start caller from fs c.args.top.now s in
          let here = same_stack c.args.plan.now c.args.cell.now start caller from (g ∷ reverse c.pop.new.self.items) c.args.top.now f s found.0 (subst L stacked stack) in
          let done = top_finished c.args.plan.now c.args.cell.now f here.0 s new found.1 found.2 here.1 c.in_ok-leave-in-Nothing.ensures in (
            top_resumed c.args.plan.now c.args.cell.now g here.0 new f.caller f.node f.rank here.2 done,
            stack_resumed c.args.plan.now c.args.cell.now start caller from (reverse c.pop.new.self.items) g here.0 new f.caller f.node f.rank here.3 done,
          ),
    )

pub returns-in-None : goal.returns-in-None
returns-in-None c = λ start caller from stack.
    let s : Search = c.args.search.now in
    let new : Search = c.leave.new.search in
    let f : Frame = c.go_on.new.frame in
    let found : IsSameFrame c.args.top.now f × IsTop c.args.plan.now c.args.cell.now f s × (f.searched ≡ length f.targets) =
    rw c.in-Nothing.is at c.in_ok-node.ensures in
    let none : c.args.below.now.items ≡ [] = nothing_there c.args.below.now.items (sym c.args.below.now.ok.0 ∙ c.in-None.ensures.cases.0) in
    let L : List Frame → Type 0 = λ fs. IsStack c.args.plan.now c.args.cell.now start caller from (reverse fs) c.args.top.now s in
    let here = same_stack c.args.plan.now c.args.cell.now start caller from [] c.args.top.now f s found.0 (subst L none stack) in
    let done = top_finished c.args.plan.now c.args.cell.now f start s new found.1 found.2 here.2 c.in_ok-leave-in-Nothing.ensures in
    let P : Text → Type 0 = λ a. IsSearchedThrough c.args.plan.now c.args.cell.now a f.node f.rank start new in
    let Q : Text → Type 0 = λ b. IsSearchedThrough c.args.plan.now c.args.cell.now caller b f.rank start new in
    subst Q here.1 (subst P here.0 done)

pub returns-in_ok-push-in-End : goal.returns-in_ok-push-in-End
returns-in_ok-push-in-End c =
    let ended : IsFirstEnd c.args.plan.now c.args.cell.now (c.args.search.now.path.items ++ c.in-End.node ∷ []) c.in-End.end = rw c.in-End.is at c.in_ok-node.ensures in
    let P : List Text → Type 0 = λ ns. IsFirstEnd c.args.plan.now c.args.cell.now ns c.in-End.end in (
      subst P (sym c.in_ok-push-in-End.ensures.items) ended,
      λ start caller from stack. begins_pushed start c.args.search.now _ from c.in-End.node
          (stack_begins c.args.plan.now c.args.cell.now start caller from (reverse c.args.below.now.items) c.args.top.now c.args.search.now stack) c.in_ok-push-in-End.ensures.items,
    )
