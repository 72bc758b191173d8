use Rattle.std.proofs.Common.{◌≡◌, ◌≢◌, ◌∙◌, sym, ap, subst, arith, length, drop, List, ℕ}
use Rattle.std.proofs.lemmas.Bool.{eqb-false}
use Rattle.std.proofs.lemmas.List.{take_rest}
use Rattle.dr_base.proofs.RunLemmas.{run_more}
use Rattle.dr_base.specs.Runs.{Run}
use Rattle.dr_pdu.specs.declared.pdu.Pdu.{Pdu}
use Rattle.dr_pdu.specs.Grammar.{Shows}
use Rattle.dr_pdu.specs.Feeding.{StartsPdu}
use Rattle.dr_pdu.proofs.FeedLemmas.{next, excludes}
use Rattle.dr_pdu.proofs.feeder.gather.Goals as goal

pub loop-pdu-preserved : goal.loop-pdu-preserved
loop-pdu-preserved c =
    let n = next c.args.limit c.args.text.now c.loop-pdu.used c.in-Ok.pdu c.in-Ok.len c.loop-pdu.invariant.0 c.in-Ok.ensures in
    (n.within, rw c.in_ok-push-in-Ok.ensures.items (run_more (StartsPdu c.args.limit) c.loop-pdu.pdus.items c.in-Ok.pdu c.args.text.now _ _ c.loop-pdu.invariant.1 n.starts))

pub returns-in_default : goal.returns-in_default
returns-in_default c =
    let rest = drop c.loop-pdu.used c.args.text.now in
    let shows : Shows c.args.limit rest c.in-Err.fault = subst (λ (t : List ℕ). Shows c.args.limit t c.in-Err.fault) (take_rest c.args.text.now c.loop-pdu.used) c.in-Err.ensures in
    let some : c.loop-pdu.pdus.len ≢ 0 = eqb-false _ _ (sym c.is_empty.ensures ∙ c.if-is_empty.false) in (
      c.loop-pdu.invariant.0,
      (subst (λ (ps : List Pdu). Run (StartsPdu c.args.limit) ps c.args.text.now rest) (sym c.from_vec-in_default.ensures) c.loop-pdu.invariant.1, excludes c.args.limit rest c.in-Err.fault shows c.in_default.not-Memory),
      λ e. let none : length c.loop-pdu.pdus.items ≡ 0 = ap (λ (ps : List Pdu). length ps) (sym c.from_vec-in_default.ensures ∙ e) in absurd (omega (arith, none, some, c.loop-pdu.pdus.ok)),
    )
