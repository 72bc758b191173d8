use Rattle.std.proofs.Common.{ap, get_or, sym, ◌∙◌, ◌++◌, List, ℕ, arith, ◌<◌}
use Rattle.dr_base_quoted.specs.Quoting.{is_plain}
use Rattle.dr_ledger_read.proofs.Bytes.{byte_cut, no_byte, plain_is}
use Rattle.dr_ledger_read.proofs.quoted.cut_byte.Goals as goal

pub returns-in_err-first : goal.returns-in_err-first
returns-in_err-first c = rw c.from_residual.ensures (no_byte c.args.text.now c.in_err-first.ensures.cases)

pub returns-then-is_plain : goal.returns-then-is_plain
returns-then-is_plain c =
    let first = c.in_ok-first.first.now in
    let rest = c.in_ok-first.rest.now in
    let is = c.in_ok-first.ensures.cases.0 in
    let small : first < 256 = omega (arith, c.type_inv.text 0, ap (λ (l : List ℕ). get_or l 0 0) is) in
    byte_cut c.args.text.now first c.in_ok-first.rest small (is ∙ ap (λ (l : List ℕ). l ++ rest) (sym (plain_is first (sym c.is_plain.ensures ∙ c.if-is_plain.true))))

pub cut_behind-requires : goal.cut_behind-requires
cut_behind-requires c = ap (λ (l : List ℕ). is_plain (get_or l 0 0)) c.in_ok-first.ensures.cases.0 ∙ sym c.is_plain.ensures ∙ c.if-is_plain.false

pub returns : goal.returns
returns c = c.cut_behind.ensures
