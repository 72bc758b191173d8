use Rattle.std.proofs.Common.{◌∙◌, List, ap, refl, subst, true}
use Rattle.dr_world_audit.specs.Sites.{Audits}
use Rattle.dr_world_audit.specs.declared.audit.NodeJournal.{NodeJournal}
use Rattle.dr_word_audit_at.specs.declared.judging.Round.{Round}
use Rattle.dr_word_audit_at.specs.Cuts.{IsFinal, IsRound, MovesFor, cuts}
use Rattle.dr_word_audit_at.proofs.Reached.{by_move, by_verdict, reached_later, reached_long, reached_on}
use Rattle.dr_word_audit_at.proofs.judging.judge.Goals as goal

pub loop-round-init : goal.loop-round-init
loop-round-init c =
    let plan = c.args.sealed.now.plan in
    let reached = rw (c.as_slice.ensures.value, c.as_slice-2.ensures.value) at (c.in_ok-counts.ensures plan) in
    (reached, reached_long plan c.args.read.items c.args.first.items c.in_ok-counts.counts.items reached ∙ c.requires, refl)

pub loop-round-preserved : goal.loop-round-preserved
loop-round-preserved c =
    let plan = c.args.sealed.now.plan in
    let read = c.args.read.items in
    let first = c.args.first.items in
    let old = c.loop-round.counts.items in
    let new = c.try_cuts.new.counts.items in
    let left = c.loop-round.left.items in
    let same = c.loop-round.invariant.2 in
    let round = subst (λ (r : Round). IsRound plan left old new r) c.in-Moved.is c.in_ok-judged.ensures in
    let came = round.1.0 in
    let audited = subst (λ (nodes : List NodeJournal). Audits plan (cuts old nodes) came) same round.1.1 in
    let moves = subst (λ (nodes : List NodeJournal). MovesFor nodes came old new true) same round.1.2 in
    let reached = reached_on plan read first old new c.loop-round.invariant.0 (by_move plan read old new (by_verdict plan read came old new audited moves)) in
    (reached, reached_long plan read first new reached ∙ c.requires, round.0 ∙ same)

pub returns-in-Over : goal.returns-in-Over
returns-in-Over c =
    let plan = c.args.sealed.now.plan in
    let old = c.loop-round.counts.items in
    let left = c.loop-round.left.items in
    let same = c.loop-round.invariant.2 in
    let verdict = c.in-Over.judged.verdict in
    let round = subst (λ (r : Round). IsRound plan left old c.try_cuts.new.counts.items r) c.in-Over.is c.in_ok-judged.ensures in
    record {
      at = old;
      later = reached_later plan c.args.read.items c.args.first.items old c.loop-round.invariant.0;
      reached = c.loop-round.invariant.0;
      cut = round.0 ∙ ap (λ (nodes : List NodeJournal). cuts old nodes) same;
      audited = round.1;
      final = subst (λ (nodes : List NodeJournal). IsFinal old nodes verdict) same round.2.1;
    }
