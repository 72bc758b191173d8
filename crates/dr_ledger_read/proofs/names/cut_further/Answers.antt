use Rattle.std.proofs.Common.{◌++◌, ◌∷◌, [], ℕ, List, ap, arith, length, refl}
use Rattle.std.proofs.lemmas.List.Elements.{All-nil, All-push}
use Rattle.dr_ledger_read.specs.Pieces.{AreBytes}
use Rattle.dr_ledger_read.proofs.Listed.{behind_name, further_cut, no_further, one_name_more, unbracketed}
use Rattle.dr_ledger_read.proofs.names.cut_further.Goals as goal

pub loop-behind-init : goal.loop-behind-init
loop-behind-init c = ([], All-nil AreBytes, refl)

pub returns-in_err-later : goal.returns-in_err-later
returns-in_err-later c =
    let (names, bytes, read) = c.loop-behind.invariant in
    rw c.from_residual.ensures (no_further c.args.text.now c.loop-behind.rest.now names bytes read c.in-Some.behind.now c.in-Some.ensures c.in_err-later.ensures)

pub loop-behind-preserved : goal.loop-behind-preserved
loop-behind-preserved c =
    let (names, bytes, read) = c.loop-behind.invariant in
    let name = c.in_ok-later.ensures.value in
    let is = c.in_ok-later.ensures.is in (
      names ++ name ∷ [],
      All-push AreBytes names name bytes is.0,
      one_name_more c.args.text.now c.loop-behind.rest.now names bytes read c.in-Some.behind.now c.in_ok-later.later.now name c.in-Some.ensures is.1,
    )

pub loop-behind-smaller : goal.loop-behind-smaller
loop-behind-smaller c =
    let first = ap (λ (l : List ℕ). length l) c.in-Some.ensures in
    let more = behind_name c.in-Some.behind.now c.in_ok-later.later.now c.in_ok-later.ensures.value c.in_ok-later.ensures.is.1 in
    omega (arith, first, more)

pub returns-in_err-behind : goal.returns-in_err-behind
returns-in_err-behind c =
    let (names, bytes, read) = c.loop-behind.invariant in
    rw c.from_residual-in_err-behind.ensures (unbracketed c.args.text.now c.loop-behind.rest.now names bytes read c.in_default.ensures c.in_err-behind.ensures)

pub returns : goal.returns
returns c =
    let (names, bytes, read) = c.loop-behind.invariant in
    further_cut c.args.text.now c.loop-behind.rest.now names bytes read c.in_default.ensures c.args.text c.in_ok-behind.behind refl c.in_ok-behind.ensures
