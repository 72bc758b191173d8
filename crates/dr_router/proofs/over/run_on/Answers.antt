use denote.Exit.{yes}
use denote.Param.Send.{param_send, arg_send}
use Rattle.dr_store_past.proofs.none.NoPast.TheSendSync.{the_send as past_sends}
use Rattle.dr_store.proofs.ledger.SqlLedger.TheSendSync.{the_send as ledger_sends}
use Rattle.dr_router.proofs.Sends.{shelf_sends}
use Rattle.dr_router.proofs.over.run_on.Goals as goal

pub run_over-requires-send-O-Ledger : goal.run_over-requires-send-O-Ledger
run_over-requires-send-O-Ledger g c κs within =
    param_send 10 _ (arg_send _ yes _
    (ledger_sends _ _ _ _ _ _ c.type_bounds.send-D-Store shelf_sends past_sends))
