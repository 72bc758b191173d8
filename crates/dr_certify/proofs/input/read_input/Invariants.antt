use Rattle.std.proofs.Common.{◌<◌, vec_len}
use Rattle.dr_certify.specs.Inputs.{TakesBytes}
use Rattle.dr_certify.proofs.input.read_input.Given as goal

abbrev pub invariant-loop : goal.invariant-loop
invariant-loop g l = record {
  room : 0 < vec_len l.piece;
  taken : TakesBytes (g.R.Read.remaining l.initial.input) (g.R.Read.remaining l.input) l.initial.text.items l.text.items;
}
