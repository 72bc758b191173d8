use Rattle.std.proofs.Common.{List, ℕ, ap, arith, length}
use Rattle.dr_ledger_balance.proofs.Bodies.{none_of, none_so_far, one_more, piece_of}
use Rattle.dr_ledger_balance.proofs.lists.cut_all.Goals as goal

pub loop-pieces-init : goal.loop-pieces-init
loop-pieces-init g c = none_so_far g.S.Spelled.fits g.S.Spelled.spelled c.args.text.now c.new-pieces.result c.new-pieces.ensures

pub loop-pieces-preserved : goal.loop-pieces-preserved
loop-pieces-preserved g c =
    one_more g.S.Spelled.fits g.S.Spelled.spelled c.args.text.now c.loop-pieces.pieces c.push.new.self c.in-Some.piece c.loop-pieces.rest.now c.in-Some.later.now c.loop-pieces.invariant
    (piece_of g.S.Spelled.fits g.S.Spelled.spelled c.loop-pieces.rest.now c.in_ok-piece.field-0 c.in-Some.piece c.in-Some.later c.in_ok-piece.ensures c.in-Some.is) c.in_ok-push.ensures.ok

pub loop-pieces-smaller : goal.loop-pieces-smaller
loop-pieces-smaller g c =
    let is = piece_of g.S.Spelled.fits g.S.Spelled.spelled c.loop-pieces.rest.now c.in_ok-piece.field-0 c.in-Some.piece c.in-Some.later c.in_ok-piece.ensures c.in-Some.is in
    let l = c.requires c.in-Some.piece c.in-Some.later.now in
    let e = ap (λ (t : List ℕ). length t) is.1 in
    omega (arith, l, e)

pub returns : goal.returns
returns g c = record {
  fit = c.loop-pieces.invariant.0;
  is = c.loop-pieces.invariant.1;
  ends = none_of g.S.Spelled.fits g.S.Spelled.spelled c.loop-pieces.rest.now c.in_ok-piece.field-0 c.in_ok-piece.ensures c.in_default.is;
}
