use Rattle.std.proofs.Common.{map}
use Rattle.toml.specs.View.{table_view}
use Rattle.dr_plan_text.specs.Fields.{HasOnly}
use Rattle.dr_plan_text.proofs.Keys.{AreKnown}
use Rattle.dr_plan_text.proofs.form.has_only.Given as goal

abbrev pub invariant-loop-key : goal.invariant-loop-key
invariant-loop-key l = record {
  enough : AreKnown (map (λ k. k.now) l.known) l.key-iterator → HasOnly (map (λ k. k.now) l.known) (table_view l.table);
  needed : HasOnly (map (λ k. k.now) l.known) (table_view l.table) → AreKnown (map (λ k. k.now) l.known) l.key-iterator;
}
