use Rattle.std.proofs.Common.{◌+◌, ◌<◌, ◌≤◌, arith, drop, get_or, length, subst, sym, take}
use Rattle.dr_word_adopt.specs.Changings.{IsChanged, IsKept, MayChange}
use Rattle.dr_word_adopt.specs.declared.standing.Standing.{Standing}
use Rattle.dr_word_adopt.proofs.Stepping.{each_all, each_more, left_more, now_cut, same_here, was_cut}
use Rattle.dr_word_adopt.proofs.changing.change_all.Goals as goal

pub change-requires : goal.change-requires
change-requires g c =
    let xs = c.args.all.now in
    let ys = c.loop-standing.all in
    let i = c.loop-standing.standing-index in
    let d = c.standing-item.result in
    let long = c.loop-standing.auto.all in
    let lt : i < length ys = omega (arith, long, c.loop-standing-test.true) in
    let left = c.loop-standing.invariant.1 in
    subst (MayChange g.L.Ledger.site g.L.Ledger.book g.L.Ledger.stands c.args.next.now) (sym (same_here (IsChanged g.L.Ledger.site g.L.Ledger.book g.L.Ledger.stands c.args.next.now) xs ys i d long lt left)) (c.requires i d c.loop-standing-test.true)

pub loop-standing-preserved : goal.loop-standing-preserved
loop-standing-preserved g c =
    let xs = c.args.all.now in
    let ys = c.loop-standing.all in
    let i = c.loop-standing.standing-index in
    let d = c.standing-item.result in
    let long = c.loop-standing.auto.all in
    let lt : i < length ys = omega (arith, long, c.loop-standing-test.true) in
    let left = c.loop-standing.invariant.1 in
    let one = subst (λ (s : Standing g.row.L.Denot). IsChanged g.L.Ledger.site g.L.Ledger.book g.L.Ledger.stands c.args.next.now s c.change.new.standing) (same_here (IsChanged g.L.Ledger.site g.L.Ledger.book g.L.Ledger.stands c.args.next.now) xs ys i d long lt left) c.in-Ok.ensures in (
      each_more (IsChanged g.L.Ledger.site g.L.Ledger.book g.L.Ledger.stands c.args.next.now) xs ys i d long lt left c.change.new.standing c.loop-standing.invariant.0 one,
      left_more (IsChanged g.L.Ledger.site g.L.Ledger.book g.L.Ledger.stands c.args.next.now) xs ys i d long lt left c.change.new.standing,
    )

pub returns : goal.returns
returns g c =
    let high : length c.loop-standing.all ≤ c.loop-standing.standing-index = omega (arith, c.loop-standing.auto.all, c.loop-standing-test.false) in
    each_all (IsChanged g.L.Ledger.site g.L.Ledger.book g.L.Ledger.stands c.args.next.now) c.args.all.now c.loop-standing.all c.loop-standing.standing-index c.loop-standing-test.false high c.loop-standing.invariant.0

pub returns-in-Err : goal.returns-in-Err
returns-in-Err g c =
    let xs = c.args.all.now in
    let ys = c.loop-standing.all in
    let i = c.loop-standing.standing-index in
    let d = c.standing-item.result in
    let long = c.loop-standing.auto.all in
    let lt : i < length ys = omega (arith, long, c.loop-standing-test.true) in
    let left = c.loop-standing.invariant.1 in (
      c.refused_at.ensures,
      record {
        done = take i xs;
        changed = take i ys;
        one = get_or xs i d;
        left = c.change.new.standing;
        later = drop (i + 1) xs;
        was = was_cut (IsChanged g.L.Ledger.site g.L.Ledger.book g.L.Ledger.stands c.args.next.now) xs ys i d long lt left;
        is = now_cut (IsChanged g.L.Ledger.site g.L.Ledger.book g.L.Ledger.stands c.args.next.now) xs ys i d long lt left c.change.new.standing;
        first = c.loop-standing.invariant.0;
        kept = subst (λ (s : Standing g.row.L.Denot). IsKept g.L.Ledger.site g.L.Ledger.book g.L.Ledger.stands c.args.next.now s c.change.new.standing) (same_here (IsChanged g.L.Ledger.site g.L.Ledger.book g.L.Ledger.stands c.args.next.now) xs ys i d long lt left) c.in-Err.ensures;
      },
    )
