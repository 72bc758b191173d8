use Rattle.std.proofs.Common.{arith}
use Rattle.dr_ledger_balance.proofs.Ending.{as_long, ends_so, no_feed, no_word, too_few}
use Rattle.dr_ledger_balance.proofs.sealing.split_seal.Goals as goal

pub returns-then-bytes-lt-SEAL : goal.returns-then-bytes-lt-SEAL
returns-then-bytes-lt-SEAL c = too_few c.args.bytes.now c.if-bytes-lt-SEAL.true

pub split_at-requires : goal.split_at-requires
split_at-requires c = omega arith

pub returns-in_err-behind : goal.returns-in_err-behind
returns-in_err-behind c =
    let b = c.split_at.result.0.now in
    let l = c.split_at.result.1.now in
    let long = as_long c.args.bytes.now b l c.split_at.ensures.by_index.0 c.split_at.ensures.front_len (omega (arith, c.if-bytes-lt-SEAL.false)) in
    rw c.from_residual.ensures (no_word c.args.bytes.now b l c.split_at.ensures.by_index.0 long c.in_err-behind.ensures)

pub returns-in_err-digits : goal.returns-in_err-digits
returns-in_err-digits c =
    let b = c.split_at.result.0.now in
    let l = c.split_at.result.1.now in
    let long = as_long c.args.bytes.now b l c.split_at.ensures.by_index.0 c.split_at.ensures.front_len (omega (arith, c.if-bytes-lt-SEAL.false)) in
    rw c.from_residual-in_err-digits.ensures (no_feed c.args.bytes.now b l c.split_at.ensures.by_index.0 long c.in_ok-behind.behind.now c.in_ok-behind.ensures c.in_err-digits.ensures)

pub returns : goal.returns
returns c =
    let b = c.split_at.result.0.now in
    let l = c.split_at.result.1.now in
    let long = as_long c.args.bytes.now b l c.split_at.ensures.by_index.0 c.split_at.ensures.front_len (omega (arith, c.if-bytes-lt-SEAL.false)) in
    ends_so c.args.bytes.now b l c.split_at.ensures.by_index.0 long c.in_ok-behind.behind.now c.in_ok-behind.ensures c.in_ok-digits.digits.now c.in_ok-digits.ensures
