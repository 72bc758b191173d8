use Rattle.std.proofs.Common.{◌≡◌, ℕ, ◌+◌, ◌<◌, ◌≤◌, sym, ◌∙◌, subst, List, [], ◌∷◌, ◌++◌, length, Contains, Some, get_or, arith}
use Rattle.std.specs.BTreeMap.{btree_map_len}
use Rattle.std.proofs.lemmas.List.{get_or_default}
use Rattle.std.proofs.lemmas.List.Elements.{Contains-get_or}
use Rattle.dr_base.specs.Texts.{Text}
use Rattle.dr_route.specs.Laws.{key_of}
use Rattle.dr_route.specs.declared.key.Key.{Key}
use Rattle.dr_plan_sound.specs.Ranked.{SendsOn}
use Rattle.dr_check.specs.declared.search.Mark.TheVariants.{Finished}
use Rattle.dr_check.specs.Searching.{IsTrail, IsTaken, IsNew, IsEnd, IsFirstEnd, IsFirstYet, WasTested, mark_at, stop_at}
use Rattle.dr_check.specs.Stacks.{IsTop}
use Rattle.dr_check.proofs.Named.{first_behind, first_end}
use Rattle.dr_check.proofs.Trails.{trail_goes_on}
use Rattle.dr_check.proofs.Stacked.{target_counts}
use Rattle.dr_check.proofs.search.go_on.Goals as goal

-- the target at the place is one of them
target_at : (items targets : List Text) (i n : ℕ) (node : Text) → items ≡ targets → n ≡ length targets → i < n → node ≡ get_or items i node →
    (i < length targets) × (get_or targets i [] ≡ node) × Contains targets node
target_at items targets i n node same len below at =
    let P : List Text → Type 0 = λ ns. node ≡ get_or ns i node in
    let here : node ≡ get_or targets i node = subst P same at in
    let less : i < length targets = omega (arith, len, below) in
    let Q : Text → Type 0 = λ t. Contains targets t in
    (less, sym (here ∙ get_or_default targets i node [] less), subst Q (sym here) (Contains-get_or targets i node less))

pub look-requires-clause-trail : goal.look-requires-clause-trail
look-requires-clause-trail c =
    let f = c.loop-frame.frame in
    let node : Text = c.index-as_slice-frame.result in
    let top = c.loop-frame.invariant.top in
    let at = target_at c.as_slice.result.now f.targets f.searched c.len.result node c.as_slice.ensures c.len.ensures c.loop-frame-test.true c.index-as_slice-frame.is in
    let onward = trail_goes_on c.args.plan.now (key_of c.args.cell.now) c.args.search.now.path.items f.caller f.node node top.trail ((top.named node).0 at.2) in
    let K : Key → Type 0 = λ k. IsTrail c.args.plan.now k (c.args.search.now.path.items ++ node ∷ []) f.node node in
    subst K (sym c.requires.key) onward

pub overflow_add-rank : goal.overflow_add-rank
overflow_add-rank c =
    let found : (mark_at c.args.search.now.marks (stop_at c.loop-frame.frame.node c.index-as_slice-frame.result c.args.cell.now) ≡ Some (Finished c.in-Finished.rank))
    × IsTaken c.args.plan.now c.args.cell.now c.loop-frame.frame.node c.index-as_slice-frame.result = rw c.in-Finished.is at c.in_ok-rank.ensures in
    let searching = c.loop-frame.invariant.top.searching in
    let counted : c.in-Finished.rank < length c.args.search.now.lines.items = searching.counted _ c.in-Finished.rank (searching.marked _ c.in-Finished.rank found.0) in
    let room : length c.args.search.now.lines.items + length c.args.search.now.path.items ≤ btree_map_len c.args.search.now.marks = searching.room in
    let within : btree_map_len c.args.search.now.marks ≤ 65536 = searching.within in
    omega arith

pub loop-frame-preserved : goal.loop-frame-preserved
loop-frame-preserved c =
    let f = c.loop-frame.frame in
    let node : Text = c.index-as_slice-frame.result in
    let at = target_at c.as_slice.result.now f.targets f.searched c.len.result node c.as_slice.ensures c.len.ensures c.loop-frame-test.true c.index-as_slice-frame.is in
    let found : (mark_at c.args.search.now.marks (stop_at f.node node c.args.cell.now) ≡ Some (Finished c.in-Finished.rank)) × IsTaken c.args.plan.now c.args.cell.now f.node node =
    rw c.in-Finished.is at c.in_ok-rank.ensures in
    let R : ℕ → Type 0 = λ r. IsTop c.args.plan.now c.args.cell.now
    (record { caller = f.caller; node = f.node; targets = f.targets; searched = f.searched + 1; rank = r }) c.args.search.now in
    record {
      same = record { caller = c.loop-frame.invariant.same.caller; node = c.loop-frame.invariant.same.node };
      top = subst R (sym c.max-frame.ensures)
          (target_counts c.args.plan.now c.requires.formed c.args.cell.now f c.args.search.now node c.in-Finished.rank c.loop-frame.invariant.top at.0 at.1 found.0 found.1);
    }

pub returns-in-End : goal.returns-in-End
returns-in-End c =
    let f = c.loop-frame.frame in
    let node : Text = c.index-as_slice-frame.result in
    let top = c.loop-frame.invariant.top in
    let at = target_at c.as_slice.result.now f.targets f.searched c.len.result node c.as_slice.ensures c.len.ensures c.loop-frame-test.true c.index-as_slice-frame.is in
    let ended : IsEnd c.args.plan.now c.args.cell.now (c.args.search.now.path.items ++ node ∷ []) c.in-End.end
    × WasTested c.args.plan.now c.args.cell.now f.node node c.args.search.now c.in-End.end = rw c.in-End.is at c.in_ok-rank.ensures in
    let onward = trail_goes_on c.args.plan.now (key_of c.args.cell.now) c.args.search.now.path.items f.caller f.node node top.trail ((top.named node).0 at.2) in
    let N : Text → Type 0 = λ n. IsFirstEnd c.args.plan.now c.args.cell.now (c.args.search.now.path.items ++ n ∷ []) c.in-End.end in
    subst N (sym c.in_ok-node-in-End.ensures) (first_end c.args.plan.now c.requires.formed c.args.cell.now c.requires.cell c.args.search.now f.node node onward top.opened
    (first_behind c.args.plan.now c.args.cell.now f c.args.search.now node top at.0 at.1) c.in-End.end ended.0 ended.1)

pub returns-in-New : goal.returns-in-New
returns-in-New c =
    let f = c.loop-frame.frame in
    let node : Text = c.index-as_slice-frame.result in
    let top = c.loop-frame.invariant.top in
    let at = target_at c.as_slice.result.now f.targets f.searched c.len.result node c.as_slice.ensures c.len.ensures c.loop-frame-test.true c.index-as_slice-frame.is in
    let fresh : IsNew c.args.plan.now c.args.cell.now f.node node c.in-New.stop c.in-New.targets c.args.search.now = rw c.in-New.is at c.in_ok-rank.ensures in
    let N : Text → Type 0 = λ n. IsNew c.args.plan.now c.args.cell.now f.node n c.in-New.stop c.in-New.targets c.args.search.now in
    let S : Text → Type 0 = λ n. SendsOn c.args.plan.now (stop_at f.caller f.node c.args.cell.now) n in
    let F : Text → Type 0 = λ n. IsFirstYet c.args.plan.now c.args.cell.now (c.args.search.now.path.items ++ n ∷ []) in (
      record { caller = c.loop-frame.invariant.same.caller; node = c.loop-frame.invariant.same.node },
      top,
      subst N (sym c.in_ok-node-in-New.ensures) fresh,
      subst S (sym c.in_ok-node-in-New.ensures) ((top.named node).0 at.2),
      subst F (sym c.in_ok-node-in-New.ensures) (first_behind c.args.plan.now c.args.cell.now f c.args.search.now node top at.0 at.1),
    )
