use Rattle.std.proofs.Common.{◌≡◌, ◌<◌, cond, false, subst, sym}
use Rattle.std.specs.BTreeMap.{is_at}
use Rattle.std.specs.BTreeSet as sorted
use Rattle.dr_base.specs.Texts.{Text}
use Rattle.dr_ledger.specs.Pairs.{Pair, pair_cmp}
use Rattle.dr_ledger_history.specs.Leaving.{IsCallerFrom}
use Rattle.dr_ledger_history.proofs.Leaving.{HavePassed, all_have_passed, fewer_left, left_from, one_more_passes}
use Rattle.dr_ledger_history.proofs.letting.let_callers_go.Goals as goal

pub returns-in_default : goal.returns-in_default
returns-in_default c =
    all_have_passed c.args.uid.now c.callers.from c.args.arrivals.now c.callers.arrivals c.callers.invariant
    (subst (IsCallerFrom c.callers.from c.callers.arrivals) c.in_default.is c.in_ok-caller.ensures)

pub callers-smaller : goal.callers-smaller
callers-smaller c =
    let m = c.callers.arrivals in
    let n = c.remove.new.self in
    let is = subst (IsCallerFrom c.callers.from m) c.in-Some.is c.in_ok-caller.ensures in
    let P : Text → Type 0 = λ t. left_from t n < left_from c.callers.from m in
    subst P (sym c.in_ok-from.ensures)
    (fewer_left c.callers.from c.in-Some.caller m n _ is c.remove.ensures.keys)

pub callers-preserved : goal.callers-preserved
callers-preserved c =
    let m = c.callers.arrivals in
    let n = c.remove.new.self in
    let is = subst (IsCallerFrom c.callers.from m) c.in-Some.is c.in_ok-caller.ensures in
    let P : Text → Type 0 = λ u. (q : Pair) → sorted.contains pair_cmp n q
    ≡ cond (is_at (pair_cmp (c.in-Some.caller, u)) q) false (sorted.contains pair_cmp m q) in
    let gone = subst P c.in_ok-clone.ensures c.remove.ensures.updates.0 in
    let Q : Text → Type 0 = λ t. HavePassed c.args.uid.now t c.args.arrivals.now n in
    subst Q (sym c.in_ok-from.ensures)
    (one_more_passes c.args.uid.now c.callers.from c.in-Some.caller c.args.arrivals.now m n
    c.callers.invariant is gone)
