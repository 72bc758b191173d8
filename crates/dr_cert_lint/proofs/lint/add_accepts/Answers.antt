use Rattle.std.proofs.Common.{◌≡◌, ◌+◌, ◌<◌, ◌∙◌, refl, sym, ap, subst, ℕ, List, ◌++◌, length, get_or, take, arith}
use Rattle.std.proofs.lemmas.List.{take_all}
use Rattle.dr_route.specs.declared.accept.AcceptRow.{AcceptRow}
use Rattle.dr_cert_lint.specs.Findings.{IsAcceptText}
use Rattle.dr_cert_lint.proofs.Numbered.{all_added, none_added, one_added}
use Rattle.dr_cert_lint.proofs.lint.add_accepts.Goals as goal

pub loop-row-init : goal.loop-row-init
loop-row-init c = (refl, none_added (IsAcceptText c.args.sealed.now.plan c.args.node.now) c.args.out.now.items)

pub loop-row-preserved : goal.loop-row-preserved
loop-row-preserved c =
    let all = c.args.node.now.accepts in
    let same : c.as_slice-row-items.result.now ≡ all = c.as_slice-row-items.ensures in
    let lt : c.loop-row.row-index < length all = subst (λ (xs : List AcceptRow). c.loop-row.row-index < length xs) same c.loop-row-test.true in
    let at : c.row-item.result ≡ get_or all c.loop-row.row-index c.row-item.result = subst (λ (xs : List AcceptRow). c.row-item.result ≡ get_or xs c.loop-row.row-index c.row-item.result) same c.row-item.is in
    let number : c.loop-row.number + 1 ≡ c.loop-row.row-index + 1 = ap (λ (n : ℕ). n + 1) c.loop-row.invariant.0 in
    let row = c.in_ok-add_accept.ensures in (
      number,
      one_added (IsAcceptText c.args.sealed.now.plan c.args.node.now) all c.loop-row.row-index c.row-item.result c.args.out.now.items c.loop-row.out.items c.add_accept.new.out.items lt at c.loop-row.invariant.1
          (row.0, subst (λ (n : ℕ). (IsAcceptText c.args.sealed.now.plan c.args.node.now) n c.row-item.result row.0) number row.1, row.2),
    )

pub returns : goal.returns
returns c =
    let xs = c.args.node.now.accepts in
    let same : c.as_slice-row-items.result.now ≡ xs = c.as_slice-row-items.ensures in
    let long : length c.as_slice-row-items.result.now ≡ length xs = ap length same in
    let all : take c.loop-row.row-index xs ≡ xs = take_all _ _ (omega arith) in
    all_added (IsAcceptText c.args.sealed.now.plan c.args.node.now) xs c.loop-row.row-index c.args.out.now.items c.loop-row.out.items all c.loop-row.invariant.1
