-- Entries that have been visited show no fault.
use Rattle.std.proofs.Common.{◌≡◌, ℕ, ◌∙◌, sym, subst, List, Contains}
use Rattle.dr_base.specs.Texts.{Text}
use Rattle.dr_route.specs.Routes.{local}
use Rattle.dr_route.specs.Laws.{key_of}
use Rattle.dr_route.specs.declared.cell.OwnedCell.{OwnedCell}
use Rattle.dr_plan_model.specs.Networks.{Network}
use Rattle.dr_plan_model.specs.Plans.{IsWellFormed}
use Rattle.dr_plan_model.specs.Laws.{IsCellOf}
use Rattle.dr_plan_model.proofs.WalksAlike.{walk_alike, cell_has_a_key}
use Rattle.dr_plan_sound.specs.declared.certificate.Stop.{Stop}
use Rattle.dr_plan_sound.specs.declared.certificate.Line.{Line}
use Rattle.dr_plan_sound.specs.Ranked.{line_at, IsRanked, AreRanked}
use Rattle.dr_plan_entries.specs.Visiting.{FindsAt, IsEntryCell}
use Rattle.dr_plan_entries.proofs.Entries.{cell_that_lies}
use Rattle.dr_check.specs.declared.checker.Checker.{Checker}
use Rattle.dr_check.specs.declared.checker.Stopped.{Stopped}
use Rattle.dr_check.specs.Checking.{CheckerIsReady, HasVisited, ShowsStopped}
use Rattle.dr_check.specs.Firsts.{IsHarmlessEntry, IsFirstEntry}
use Rattle.dr_check.proofs.Firsts.{harmless_from}
use Rattle.dr_check.proofs.Marking.{finished_same}
use Rattle.dr_check.proofs.Named.{harmless_alike}

-- an entry that has a line, among lines that are right, shows no fault
harmless_entry : (plan : Network) → IsWellFormed plan → (lines : List Line) → ((stop : Stop) (r : ℕ) → Contains lines (record { stop = stop; rank = r }) → IsRanked plan lines stop r) →
    ((stop : Stop) (r s : ℕ) → Contains lines (record { stop = stop; rank = r }) → Contains lines (record { stop = stop; rank = s }) → r ≡ s) →
    (site : Text) (cell : OwnedCell) → IsCellOf plan cell → (rank : ℕ) → Contains lines (line_at local site cell rank) → IsHarmlessEntry plan site cell
harmless_entry plan formed lines ranked one site cell is rank has = λ key lies over walk.
    let own = walk_alike plan cell key (key_of cell) lies (cell_has_a_key plan formed cell is) local site over walk in
    harmless_alike plan formed cell is key lies site over (harmless_from plan cell lines ranked one site over rank has own)

-- where the lines of a plan are right, no entry shows a fault
pub no_entry_shows : (plan : Network) → IsWellFormed plan → (lines : List Line) → AreRanked plan lines → (site : Text) (cell : OwnedCell) → IsEntryCell plan site cell → IsHarmlessEntry plan site cell
no_entry_shows plan formed lines all site cell entry =
    let line = all.entries entry.0 cell site entry.1 entry.2 in
    harmless_entry plan formed lines all.each all.one site cell (cell_that_lies plan cell entry.0 entry.1) line.0 line.1

-- an entry that a checker has visited shows no fault
pub visited_is_harmless : (plan : Network) (c : Checker) → c.plan.now ≡ plan → CheckerIsReady c → (site : Text) (cell : OwnedCell) → IsCellOf plan cell → HasVisited c site cell →
    IsHarmlessEntry plan site cell
visited_is_harmless plan c same ready site cell is visited =
    let C : Network → Type 0 = λ p. IsCellOf p cell in
    let H : Network → Type 0 = λ p. IsHarmlessEntry p site cell in
    let searching = ready.searching cell in
    subst H same (harmless_entry c.plan.now ready.formed c.search.lines.items searching.ranked
    (λ stop r q a b. finished_same (searching.listed stop r a) (searching.listed stop q b))
    site cell (subst C (sym same) is) visited.0 visited.1)

-- where a checker stops, the entries before have been visited
pub stops_first : (plan : Network) (start : Checker) (stopped : Stopped) → start.plan.now ≡ plan →
    (at : FindsAt (λ (v : Checker). v.plan.now) CheckerIsReady HasVisited ShowsStopped (IsEntryCell plan) start stopped) → IsFirstEntry plan at.site at.cell
stops_first plan start stopped same at = λ s c entry before.
    let there : Checker = at.there in
    let here : there.plan.now ≡ plan = at.earlier.same_plan ∙ same in
    visited_is_harmless plan there here at.earlier.is_ready s c (cell_that_lies plan c entry.0 entry.1) (at.earlier.wanted s c (entry, before))
