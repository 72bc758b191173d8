use Rattle.std.proofs.Common.{◌≡◌, ◌+◌, ◌∷◌, [], inl, inr, refl, sym, ◌∙◌, arith, drop}
use Rattle.std.proofs.lemmas.List.{drop_more, drop_all}
use Rattle.std.proofs.lemmas.Bool.{false≢true}
use Rattle.dr_route.specs.Routes.{Holds}
use Rattle.dr_route.proofs.NameSets.{counted_in, passed_over}
use Rattle.dr_route.proofs.routing.targets.Goals as goal
use Rattle.dr_route.proofs.routing.targets.Goals.{then-holds+in_ok-add_names+then-rule, then-holds+in_ok-add_names+else-rule, else-holds}

pub loop-rule-preserved : goal.loop-rule-preserved
loop-rule-preserved c =
    let split : drop c.loop-rule.rule-index c.args.rules.now ≡ c.rule-item.result ∷ drop (c.loop-rule.rule-index + 1) c.args.rules.now =
    (let e = drop_more c.args.rules.now c.loop-rule.rule-index c.rule-item.result c.loop-rule-test.true in rw (← c.rule-item.is) at e) in
    let keep = rw split at c.loop-rule.invariant.keep in
    elim c.if-holds.branch [
      | then-holds+in_ok-add_names+then-rule w ↦
          let held = w.if-holds.ensures.0 refl in
          record {
            to = λ m. rw w.to-is (counted_in held (rw w.as_slice.ensures at (w.in_ok-add_names.ensures m)) (rw split at (c.loop-rule.invariant.to m)));
            keep = rw w.keep-is (counted_in held (λ _. inr w.if-rule.true, λ _. refl) keep);
          }
      | then-holds+in_ok-add_names+else-rule w ↦
          let held = w.if-holds.ensures.0 refl in
          record {
            to = λ m. rw w.to-is (counted_in held (rw w.as_slice.ensures at (w.in_ok-add_names.ensures m)) (rw split at (c.loop-rule.invariant.to m)));
            keep = rw w.keep-is (counted_in held (λ k. inl k, λ x. elim x [ inl k ↦ k | inr kept ↦ absurd (false≢true (sym w.if-rule.false ∙ kept)) ]) keep);
          }
      | else-holds w ↦
          let fails = λ (h : Holds c.rule-item.result c.args.caller.now c.args.key.now). false≢true (w.if-holds.ensures.1 h) in
          record {
            to = λ m. rw w.to-is (passed_over fails (rw split at (c.loop-rule.invariant.to m)));
            keep = rw w.keep-is (passed_over fails keep);
          }
    ]

pub returns-clause-to : goal.returns-clause-to
returns-clause-to c = λ name.
    let none : drop c.loop-rule.rule-index c.args.rules.now ≡ [] = drop_all c.loop-rule.rule-index c.args.rules.now (omega arith) in
    let so_far = rw none at (c.loop-rule.invariant.to name) in
    let same = c.in_ok-to.ensures.same name in
    (λ h. so_far.0 (inl (same.0 h)), λ h. elim (so_far.1 h) [ inl x ↦ same.1 x | inr never ↦ absurd never ])
