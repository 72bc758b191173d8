use Rattle.std.proofs.Common.{refl, ◌∙◌, ◌++◌, ◌∷◌, [], flat_map}
use Rattle.std.proofs.lemmas.List.Elements.{All-nil, All-push}
use Rattle.dr_base_quoted.specs.Quoting.{IsByte, quoted_byte}
use Rattle.dr_ledger_read.proofs.Between.{more_read, quoted_cut, quoted_then, shorter, unended}
use Rattle.dr_ledger_read.proofs.quoted.cut_quoted.Goals as goal

pub returns-in_err-place : goal.returns-in_err-place
returns-in_err-place c = rw c.from_residual.ensures (λ v rest is. c.in_err-place.ensures (flat_map quoted_byte v ++ 34 ∷ rest) (is.1 ∙ quoted_then v rest))

pub loop-later-init : goal.loop-later-init
loop-later-init c = ([], All-nil IsByte, refl)

pub loop-later-preserved : goal.loop-later-preserved
loop-later-preserved c =
    let (text, bytes, read) = c.loop-later.invariant in
    let byte = c.in-Some.ensures.value in
    let is = c.in-Some.ensures.is in
    (text ++ byte ∷ [], All-push IsByte text byte bytes is.0, more_read c.in_ok-place.place.now text c.loop-later.rest.now c.in-Some.later.now byte read is.1)

pub loop-later-smaller : goal.loop-later-smaller
loop-later-smaller c = shorter c.loop-later.rest.now c.in-Some.later.now c.in-Some.ensures.value c.in-Some.ensures.is.1

pub returns-in_err-behind : goal.returns-in_err-behind
returns-in_err-behind c =
    let (text, bytes, read) = c.loop-later.invariant in
    rw c.from_residual-in_err-behind.ensures
    (unended c.args.text.now c.in_ok-place.place c.in_ok-place.ensures text c.loop-later.rest.now bytes read c.in_default.ensures c.in_err-behind.ensures)

pub returns : goal.returns
returns c =
    let (text, bytes, read) = c.loop-later.invariant in
    quoted_cut c.args.text.now c.in_ok-place.place c.in_ok-place.ensures text c.loop-later.rest.now bytes read c.in_default.ensures c.in_ok-behind.behind c.in_ok-behind.ensures
