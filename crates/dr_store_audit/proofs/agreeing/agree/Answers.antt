use Rattle.std.proofs.Common.{◌∙◌, subst, sym, true≢false}
use Rattle.dr_base.specs.Texts.{text_cmp}
use Rattle.dr_ledger_history.specs.Contents.{content}
use Rattle.dr_ledger_history.specs.Trees.{as_map, as_set}
use Rattle.dr_store_audit.specs.Found.{HoldTogether}
use Rattle.dr_store_audit.specs.Journal.{CountUp}
use Rattle.dr_store_audit.proofs.Found.{agreed}
use Rattle.dr_store_audit.proofs.Passing.{goals_by_line, in_order, is_a_journal, just_the_needed, lines_before, one_order, refused, told_is_listed}
use Rattle.dr_store_audit.proofs.agreeing.agree.Goals as goal
use Rattle.dr_store_audit.proofs.agreeing.agree.Goals.{then-not-are_before-via-then-not-are_before, then-not-are_before-via-else-not-are_before+then-not-count_up}

pub returns : goal.returns
returns c = λ db past begun under are.
    agreed past c.args.next c.args.site.now db c.args.lists.now.keys.now c.args.lists.now.prints.now c.args.lists.now.arrivals.now c.args.lists.now.kept.now c.args.lists.now.rows.now c.args.lists.now.notes.now c.args.lists.now.goals.now are (as_map text_cmp c.in-Ok.items) c.in-Ok.ensures
    (content c.in-Ok-tell.history.parts) (c.in-Ok-tell.ensures past begun.told under) (c.has_just.ensures.has c.if-not-has_just.false) (as_set text_cmp c.in-Ok-needed.uids) c.in-Ok-needed.ensures (c.are_whole.ensures.0 c.if-not-are_whole.false)
    (c.are_before.ensures.0 c.if-not-are_before.false) (subst (λ first. CountUp first c.args.lists.now.notes.now) begun.next (c.count_up.ensures.0 c.if-not-count_up.false))

pub returns-then-not-are_by_line : goal.returns-then-not-are_by_line
returns-then-not-are_by_line c = λ db past begun under are held.
    absurd (true≢false (sym (c.are_by_line.ensures.1 (goals_by_line past c.args.next c.args.site.now db c.args.lists.now.keys.now c.args.lists.now.prints.now c.args.lists.now.arrivals.now c.args.lists.now.kept.now c.args.lists.now.rows.now c.args.lists.now.notes.now c.args.lists.now.goals.now are held)) ∙ c.if-not-are_by_line.true))

pub returns-in-Err : goal.returns-in-Err
returns-in-Err c = λ db past begun under are.
    refused c.in-Err.fault (HoldTogether past c.args.next c.args.site.now db c.args.lists.now.notes.now) (λ other held. c.in-Err.ensures other (one_order past c.args.next c.args.site.now db c.args.lists.now.keys.now c.args.lists.now.prints.now c.args.lists.now.arrivals.now c.args.lists.now.kept.now c.args.lists.now.rows.now c.args.lists.now.notes.now c.args.lists.now.goals.now are held))

pub returns-in-Err-tell : goal.returns-in-Err-tell
returns-in-Err-tell c = λ db past begun under are.
    refused c.in-Err-tell.fault (HoldTogether past c.args.next c.args.site.now db c.args.lists.now.notes.now) (λ other held. is_a_journal past c.args.next c.args.site.now db c.args.lists.now.keys.now c.args.lists.now.prints.now c.args.lists.now.arrivals.now c.args.lists.now.kept.now c.args.lists.now.rows.now c.args.lists.now.notes.now c.args.lists.now.goals.now are held (c.in-Err-tell.ensures past begun.told under other))

pub returns-then-not-has_just : goal.returns-then-not-has_just
returns-then-not-has_just c = λ db past begun under are held.
    absurd (true≢false (sym (c.has_just.ensures.says (in_order past c.args.next c.args.site.now db c.args.lists.now.keys.now c.args.lists.now.prints.now c.args.lists.now.arrivals.now c.args.lists.now.kept.now c.args.lists.now.rows.now c.args.lists.now.notes.now c.args.lists.now.goals.now are held) (told_is_listed past c.args.next c.args.site.now db c.args.lists.now.keys.now c.args.lists.now.prints.now c.args.lists.now.arrivals.now c.args.lists.now.kept.now c.args.lists.now.rows.now c.args.lists.now.notes.now c.args.lists.now.goals.now are held (as_map text_cmp c.in-Ok.items) (content c.in-Ok-tell.history.parts) c.in-Ok.ensures (c.in-Ok-tell.ensures past begun.told under))) ∙ c.if-not-has_just.true))

pub returns-then-not-are_whole : goal.returns-then-not-are_whole
returns-then-not-are_whole c = λ db past begun under are held.
    absurd (true≢false (sym (c.are_whole.ensures.1 (just_the_needed past c.args.next c.args.site.now db c.args.lists.now.keys.now c.args.lists.now.prints.now c.args.lists.now.arrivals.now c.args.lists.now.kept.now c.args.lists.now.rows.now c.args.lists.now.notes.now c.args.lists.now.goals.now are held (as_set text_cmp c.in-Ok-needed.uids) c.in-Ok-needed.ensures)) ∙ c.if-not-are_whole.true))

pub returns-then-not-are_before : goal.returns-then-not-are_before
returns-then-not-are_before c = λ db past begun under are held. elim c.then-not-are_before.branch [
  | then-not-are_before-via-then-not-are_before w ↦ absurd (true≢false (sym (c.are_before.ensures.1 (lines_before past c.args.next c.args.site.now db c.args.lists.now.keys.now c.args.lists.now.prints.now c.args.lists.now.arrivals.now c.args.lists.now.kept.now c.args.lists.now.rows.now c.args.lists.now.notes.now c.args.lists.now.goals.now are held)) ∙ w.if-not-are_before.true))
  | then-not-are_before-via-else-not-are_before+then-not-count_up w ↦ absurd (true≢false (sym (w.count_up.ensures.1 (subst (λ first. CountUp first c.args.lists.now.notes.now) (sym begun.next) held.numbered)) ∙ w.if-not-count_up.true))
]
