use Rattle.std.proofs.Common.{subst, sym, take, ◌+◌, List}
use Rattle.serde_json.specs.View.{items_view}
use Rattle.dr_base.specs.Texts.{Text}
use Rattle.dr_word_audit_at.specs.Saying.{AreNames}
use Rattle.dr_word_audit_at.proofs.Spelled.{one_named}
use Rattle.dr_word_audit_at.proofs.told.names_in.Goals as goal

pub loop-value-preserved : goal.loop-value-preserved
loop-value-preserved c =
    let list = c.args.list.now in
    let i = c.loop-value.value-index in
    subst (λ (names : List Text). AreNames (items_view (take (i + 1) list)) names) (sym c.in_ok-push.ensures.ok)
    (one_named list i c.value-item.result c.loop-value.names c.in_ok-name.name c.loop-value-test.true c.value-item.is c.loop-value.invariant c.in_ok-name.ensures)
