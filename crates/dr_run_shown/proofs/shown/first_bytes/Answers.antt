use Rattle.std.proofs.Common.{sym, arith, length-take-le}
use Rattle.dr_run_shown.proofs.shown.first_bytes.Goals as goal

pub slice_bounds-result-end : goal.slice_bounds-result-end
slice_bounds-result-end c = sym (length-take-le 128 c.args.bytes.now (omega arith))
