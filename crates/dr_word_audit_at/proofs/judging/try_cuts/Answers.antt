use Rattle.std.proofs.Common.{◌∙◌, Bool, List, ap, subst, sym, ℕ}
use Rattle.dr_world_audit.specs.Sites.{Audits}
use Rattle.dr_world_audit.specs.declared.audit.NodeJournal.{NodeJournal}
use Rattle.dr_word_audit_at.specs.Cuts.{MovesFor, cuts}
use Rattle.dr_word_audit_at.proofs.judging.try_cuts.Goals as goal

pub returns-then-is_moved : goal.returns-then-is_moved
returns-then-is_moved c =
    let plan = c.args.sealed.now.plan in
    let old = c.args.counts.now.items in
    let new = c.further.new.counts.items in
    let read = c.args.read.items in
    let verdict = c.in_ok-verdict.verdict in
    let back = c.in_ok-read.ensures ∙ c.in_ok-cut.ensures.whole in
    let cut = c.in_ok-cut.ensures.cut ∙ ap (λ (ns : List ℕ). cuts ns read) c.as_slice.ensures.value in
    let audited = subst (λ (nodes : List NodeJournal). Audits plan nodes verdict) (c.as_slice-2.ensures.value ∙ cut) c.in_ok-verdict.ensures in
    let moves = subst (λ (nodes : List NodeJournal). MovesFor nodes verdict old new c.in_ok-is_moved.is_moved) (c.as_slice-3.ensures.value ∙ back) c.in_ok-is_moved.ensures in
    (back, (verdict, audited, subst (λ (b : Bool). MovesFor read verdict old new b) c.if-is_moved.true moves))

pub returns : goal.returns
returns c =
    let plan = c.args.sealed.now.plan in
    let old = c.args.counts.now.items in
    let new = c.further.new.counts.items in
    let read = c.args.read.items in
    let verdict = c.in_ok-verdict.verdict in
    let back = c.in_ok-read.ensures ∙ c.in_ok-cut.ensures.whole in
    let cut = c.in_ok-cut.ensures.cut ∙ ap (λ (ns : List ℕ). cuts ns read) c.as_slice.ensures.value in
    let audited = subst (λ (nodes : List NodeJournal). Audits plan nodes verdict) (c.as_slice-2.ensures.value ∙ cut) c.in_ok-verdict.ensures in
    let moves = subst (λ (nodes : List NodeJournal). MovesFor nodes verdict old new c.in_ok-is_moved.is_moved) (c.as_slice-3.ensures.value ∙ back) c.in_ok-is_moved.ensures in
    let stays = subst (λ (b : Bool). MovesFor read verdict old new b) c.if-is_moved.false moves in
    let again = c.in_ok-cut-2.ensures.cut ∙ (λ i. cuts ((c.as_slice-4.ensures.value ∙ stays.0) i) (back i)) in
    (again, subst (λ (nodes : List NodeJournal). Audits plan nodes verdict) (sym again) audited, stays)
