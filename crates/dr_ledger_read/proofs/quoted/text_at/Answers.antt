use Rattle.std.proofs.Common.{◌≡◌, ◌∙◌, ◌++◌, ℕ, List, ap, subst, sym, flat_map}
use Rattle.dr_base_quoted.specs.Quoting.{quoted_byte}
use Rattle.dr_ledger_read.specs.Pieces.{IsQuotedByte}
use Rattle.dr_ledger_read.proofs.Between.{found_is, held_there, more_read, shorter}
use Rattle.dr_ledger_read.proofs.quoted.text_at.Goals as goal

pub loop-byte-init : goal.loop-byte-init
loop-byte-init c = ap (λ (l : List ℕ). flat_map quoted_byte l ++ c.args.place.now) (sym c.new-bytes.ensures.items)

pub loop-byte-preserved : goal.loop-byte-preserved
loop-byte-preserved c =
    let is = found_is ℕ (IsQuotedByte c.loop-byte.rest.now) c.in-Some.byte c.in-Some.later c.in-Some.ensures in
    subst (λ (l : List ℕ). c.args.place.now ≡ flat_map quoted_byte l ++ c.in-Some.later.now) (sym c.in_ok-push.ensures.items)
    (more_read c.args.place.now c.loop-byte.bytes.items c.loop-byte.rest.now c.in-Some.later.now c.in-Some.byte c.loop-byte.invariant is.1)

pub loop-byte-smaller : goal.loop-byte-smaller
loop-byte-smaller c = shorter c.loop-byte.rest.now c.in-Some.later.now c.in-Some.ensures.value c.in-Some.ensures.is.1

pub returns : goal.returns
returns c = λ value holds. c.from_vec.ensures ∙ held_there c.args.place.now c.loop-byte.bytes.items c.loop-byte.rest.now c.loop-byte.invariant c.in_default.ensures value holds
