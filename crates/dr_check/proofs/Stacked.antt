-- The stack of a search, step by step.
use Rattle.std.proofs.Common.{◌≡◌, ℕ, ◌+◌, ◌<◌, max, inl, inr, refl, sym, ◌∙◌, ap, subst, List, [], ◌∷◌, ◌++◌, length, Contains, Some, get_or, reverse, arith}
use Rattle.std.proofs.lemmas.List.{append_assoc}
use Rattle.std.proofs.lemmas.List.Elements.{Contains-push_cases}
use Rattle.dr_base.specs.Texts.{Text}
use Rattle.dr_route.specs.Routes.{local}
use Rattle.dr_route.specs.Laws.{key_of}
use Rattle.dr_route.specs.declared.cell.OwnedCell.{OwnedCell}
use Rattle.dr_plan_model.specs.Networks.{Network}
use Rattle.dr_plan_model.specs.Plans.{IsWellFormed}
use Rattle.dr_plan_model.specs.Laws.{IsCellOf}
use Rattle.dr_plan_sound.specs.declared.certificate.Stop.{Stop}
use Rattle.dr_plan_sound.proofs.Hopping.{reached_not_local}
use Rattle.dr_check.specs.declared.search.Search.{Search}
use Rattle.dr_check.specs.declared.search.Frame.{Frame}
use Rattle.dr_check.specs.declared.search.WalkFound.{WalkFound}
use Rattle.dr_check.specs.declared.search.WalkFound.TheVariants as found
use Rattle.dr_check.specs.declared.search.Mark.TheVariants.{Open, Finished}
use Rattle.dr_check.specs.Searching.{IsSearching, IsTrail, IsInside, IsSearchedThrough, IsNew, IsRankedBy, IsTaken, IsFirstYet, EndsWell, IsAllOpen, GoesOnFrom, AfterReach, mark_at, stop_at, pairs_from}
use Rattle.dr_check.specs.Stacks.{IsTop, IsStack, IsSameFrame, Enters, LeavesStop, Steps, stop_of_frame}
use Rattle.dr_check.proofs.Marking.{marking}
use Rattle.dr_check.proofs.Named.{stop_ends_well}
use Rattle.dr_check.proofs.Trails.{trail_pairs, trail_reaches}
use Rattle.dr_check.proofs.Steps.{entered, finished, popped, ranked_more, ranked_later, inside_later}

-- ---- a stop is entered
pub new_top : (plan : Network) (cell : OwnedCell) → IsCellOf plan cell → (s new : Search) (caller node : Text) (stop : Stop) (targets : List Text) →
    IsSearching plan cell s → IsTrail plan (key_of cell) (s.path.items ++ node ∷ []) caller node → IsNew plan cell caller node stop targets s → Enters s new node stop →
    IsWellFormed plan → IsAllOpen cell s → IsFirstYet plan cell (s.path.items ++ node ∷ []) → IsInside plan cell caller node s new × IsTop plan cell (record { caller = caller; node = node; targets = targets; searched = 0; rank = 0 }) new
new_top plan cell is s new caller node stop targets searching trail fresh enters formed opened first =
    let E : Stop → Type 0 = λ x. Enters s new node x in
    let put = subst E fresh.same enters in
    let inside = entered plan cell is s new caller node searching trail fresh.fresh fresh.small put.path put.lines (put.grown fresh.fresh) (marking put.put) in
    let T : List Text → Type 0 = λ ns. IsTrail plan (key_of cell) ns caller node in
    let F : List Text → Type 0 = λ ns. IsFirstYet plan cell ns in
    let W : List Text → Type 0 = λ ns. EndsWell plan cell ns in
    let pairs : pairs_from local new.path.items ≡ pairs_from local s.path.items ++ (caller, node) ∷ [] =
    ap (λ (ns : List Text). pairs_from local ns) put.path ∙ trail_pairs plan (key_of cell) s.path.items caller node trail in (
      inside,
      record {
        searching = inside.searching;
        trail = subst T (sym put.path) trail;
        here = inside.here;
        opened = λ a b among.
            let Q : List (Text × Text) → Type 0 = λ ps. Contains ps (a, b) in
            elim (Contains-push_cases (pairs_from local s.path.items) (caller, node) (a, b) (subst Q pairs among)) [
              | inl before ↦ inside.later.marks (stop_at a b cell) Open (opened a b before)
              | inr same ↦
                  let M : Text × Text → Type 0 = λ p. mark_at new.marks (stop_at p.0 p.1 cell) ≡ Some Open in
                  subst M same inside.here
            ];
        first = subst F (sym put.path) first;
        well = subst W (sym put.path) (stop_ends_well plan formed cell s caller node trail opened fresh.taken fresh.fresh fresh.goes_on);
        named = fresh.named;
        ordered = fresh.ordered;
        goes_on = fresh.goes_on;
        taken = fresh.taken;
        searched = omega arith;
        ranked = record { lower = λ k h. absurd (omega arith); next = inl refl };
      },
    )

-- ---- a target was finished before
pub target_counts : (plan : Network) → IsWellFormed plan → (cell : OwnedCell) (f : Frame) (s : Search) (to : Text) (r : ℕ) → IsTop plan cell f s → f.searched < length f.targets →
    get_or f.targets f.searched [] ≡ to → mark_at s.marks (stop_at f.node to cell) ≡ Some (Finished r) → IsTaken plan cell f.node to →
    IsTop plan cell (record { caller = f.caller; node = f.node; targets = f.targets; searched = f.searched + 1; rank = max f.rank (r + 1) }) s
target_counts plan formed cell f s to r top below at marked taken =
    let other = reached_not_local plan formed (key_of cell) f.caller f.node (trail_reaches plan (key_of cell) s.path.items f.caller f.node top.trail) in
    let P : Text → Type 0 = λ n. (mark_at s.marks (stop_at f.node n cell) ≡ Some (Finished r)) × IsTaken plan cell f.node n in
    let here = subst P (sym at) (marked, taken) in
    record {
      searching = top.searching;
      trail = top.trail;
      here = top.here;
      opened = top.opened;
      first = top.first;
      well = top.well;
      named = top.named;
      ordered = top.ordered;
      goes_on = top.goes_on;
      taken = top.taken;
      searched = omega (arith, below);
      ranked = ranked_more plan cell f.node s.lines.items f.targets f.searched f.rank r other top.ranked (top.searching.marked _ r here.0) here.1;
    }

-- ---- all targets have been searched
pub top_finished : (plan : Network) (cell : OwnedCell) (f : Frame) (start s new : Search) → IsTop plan cell f s → f.searched ≡ length f.targets →
    IsInside plan cell f.caller f.node start s → LeavesStop s new (stop_of_frame cell f) f.rank → IsSearchedThrough plan cell f.caller f.node f.rank start new
top_finished plan cell f start s new top all inside leaves =
    let T : List Text → Type 0 = λ ns. IsTrail plan (key_of cell) ns f.caller f.node in
    let R : ℕ → Type 0 = λ n. IsRankedBy plan cell f.node s.lines.items f.targets n f.rank in
    let more = inside.more in
    let within = inside.searching.within in
    let fresh : IsNew plan cell f.caller f.node (stop_of_frame cell f) f.targets start = record {
      same = refl;
      fresh = inside.fresh;
      small = λ full. omega (arith, more, within, full);
      named = top.named;
      ordered = top.ordered;
      goes_on = top.goes_on;
      taken = top.taken;
    } in
    finished plan cell start s new f.caller f.node (stop_of_frame cell f) f.targets f.rank (subst T inside.path top.trail) inside fresh (subst R all top.ranked)
    (popped f.node start.path.items s.path.items new.path.items (length s.path.items) inside.path refl leaves.path) leaves.lines (leaves.same_size top.here) (marking leaves.put)

-- ---- the search goes on at the frame below
pub top_resumed : (plan : Network) (cell : OwnedCell) (g : Frame) (old new : Search) (from to : Text) (r : ℕ) → IsTop plan cell g old → IsSearchedThrough plan cell from to r old new →
    IsTop plan cell g new
top_resumed plan cell g old new from to r top done =
    let T : List Text → Type 0 = λ ns. IsTrail plan (key_of cell) ns g.caller g.node in
    let F : List Text → Type 0 = λ ns. IsFirstYet plan cell ns in
    let W : List Text → Type 0 = λ ns. EndsWell plan cell ns in
    record {
      searching = done.searching;
      trail = subst T (sym done.path) top.trail;
      here = done.later.marks _ Open top.here;
      opened = λ a b among.
          let Q : List Text → Type 0 = λ ns. Contains (pairs_from local ns) (a, b) in
          done.later.marks (stop_at a b cell) Open (top.opened a b (subst Q done.path among));
      first = subst F (sym done.path) top.first;
      well = subst W (sym done.path) top.well;
      named = top.named;
      ordered = top.ordered;
      goes_on = top.goes_on;
      taken = top.taken;
      searched = top.searched;
      ranked = ranked_later plan cell g.node old.lines.items new.lines.items g.targets g.searched g.rank done.later.lines top.ranked;
    }

pub stack_resumed : (plan : Network) (cell : OwnedCell) (start : Search) (caller node : Text) (below : List Frame) (g : Frame) (old new : Search) (from to : Text) (r : ℕ) →
    IsStack plan cell start caller node below g old → IsSearchedThrough plan cell from to r old new → IsStack plan cell start caller node below g new
stack_resumed plan cell start caller node [] g old new from to r stack done =
    (stack.0, stack.1, inside_later plan cell g.caller g.node start old new from to r stack.2 done)
stack_resumed plan cell start caller node (h ∷ below) g old new from to r stack done =
    (stack.0, inside_later plan cell g.caller g.node stack.0 old new from to r stack.1 done, stack.2, stack.3)

-- ---- a frame of the same stop
same_inside : (plan : Network) (cell : OwnedCell) (f g : Frame) (start s : Search) → IsSameFrame f g → IsInside plan cell f.caller f.node start s → IsInside plan cell g.caller g.node start s
same_inside plan cell f g start s same inside =
    let P : Text → Type 0 = λ a. IsInside plan cell a f.node start s in
    let Q : Text → Type 0 = λ b. IsInside plan cell g.caller b start s in
    subst Q (sym same.node) (subst P (sym same.caller) inside)

pub same_stack : (plan : Network) (cell : OwnedCell) (start : Search) (caller node : Text) (below : List Frame) (f g : Frame) (s : Search) → IsSameFrame f g →
    IsStack plan cell start caller node below f s → IsStack plan cell start caller node below g s
same_stack plan cell start caller node [] f g s same stack = (same.caller ∙ stack.0, same.node ∙ stack.1, same_inside plan cell f g start s same stack.2)
same_stack plan cell start caller node (h ∷ below) f g s same stack = (stack.0, same_inside plan cell f g stack.0 s same stack.1, stack.2, stack.3)

-- ---- the walk begins where the search began
pub begins_pushed : (start s : Search) (path : List Text) (node to : Text) → GoesOnFrom start node s → path ≡ s.path.items ++ to ∷ [] → (rest : List Text) × (path ≡ start.path.items ++ node ∷ rest)
begins_pushed start s path node to begins pushed =
    (begins.0 ++ to ∷ [], pushed ∙ (ap (λ (ns : List Text). ns ++ to ∷ []) begins.1 ∙ append_assoc start.path.items (node ∷ begins.0) (to ∷ [])))

pub stack_begins : (plan : Network) (cell : OwnedCell) (start : Search) (caller node : Text) (below : List Frame) (f : Frame) (s : Search) → IsStack plan cell start caller node below f s → GoesOnFrom start node s
stack_begins plan cell start caller node [] f s stack = ([], stack.2.path ∙ ap (λ (n : Text). start.path.items ++ n ∷ []) stack.1)
stack_begins plan cell start caller node (g ∷ below) f s stack =
    begins_pushed start stack.0 s.path.items node f.node (stack_begins plan cell start caller node below g stack.0 stack.3) stack.1.path

-- what the last step of a search comes to, the whole search does
pub after_steps : (plan : Network) (cell : OwnedCell) (old new start : Search) (f g : Frame) (below after : List Frame) (caller node : Text) (answer : WalkFound) →
    Steps plan cell old f below new g after (Some answer) → IsStack plan cell start caller node (reverse below) f old → AfterReach plan cell caller node start new answer
after_steps plan cell old new start f g below after caller node (found.Rank r) steps stack = steps start caller node stack
after_steps plan cell old new start f g below after caller node (found.End e) steps stack = (steps.0, steps.1 start caller node stack)
