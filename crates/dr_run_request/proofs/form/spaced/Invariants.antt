use Rattle.std.proofs.Common.{◌≡◌, take}
use Rattle.std.proofs.Common.{map as mapped}
use Rattle.form_urlencoded.specs.Form.{plus_to_space}
use Rattle.dr_run_request.proofs.form.spaced.Given as goal

abbrev pub invariant-loop-byte : goal.invariant-loop-byte
invariant-loop-byte l = l.bytes.items ≡ mapped plus_to_space (take l.byte-index l.raw)
