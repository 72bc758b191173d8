use Rattle.std.proofs.Common.{take, Contains}
use Rattle.dr_base.specs.Texts.{Text}
use Rattle.dr_plan_entries.proofs.RowLemmas.{AreGathered}
use Rattle.dr_plan_entries.proofs.rows.names_in.Given as goal

abbrev pub invariant-loop-place : goal.invariant-loop-place
invariant-loop-place l = record {
  gathered : AreGathered l.side l.flows l.among (take l.place-index l.among) l.names.keys;
  last : (t : Text) → Contains l.last t → Contains l.names.keys t;
}
