-- Laws of orders that are given over the control connection.
use Rattle.std.specs.Prelude.{◌≡◌, ℕ, List, Ok}
use Rattle.dr_base.specs.Texts.{Text}
use Rattle.dr_desk.specs.Receipts.{LeavesReceipts, Notes}
use Rattle.dr_desk.specs.declared.receipt.Call.TheVariants.{Requeuing, Dropping, Forgetting}
use Rattle.dr_desk.specs.declared.receipt.Receipt.{Receipt}
use Rattle.dr_desk.specs.declared.receipt.Reply.TheVariants.{Done}
use Rattle.dr_ledger.specs.Books.{Book, Line, Row}
use Rattle.dr_run_control.specs.Consoles.{AgainEach, Goes, Tells}
use Rattle.dr_run_open.specs.declared.hops.NextHop.{NextHop}
use Rattle.dr_run_request.specs.Orders.{IsAsked}
use Rattle.dr_run_request.specs.declared.order.Order.{Order}
use Rattle.dr_run_request.specs.declared.order.Order.TheVariants as order
use Rattle.dr_run_request.specs.declared.route.Route.{Route}
use Rattle.dr_site.specs.Parts.{Part}

module _ {L : Type 0} (site_of : L → Part) (book : L → Book) (stands : L → Type 0)
    (failed : L → ℕ) (own : Part) (first : List Line) where
  -- the order was done, and the pass has its receipt
  abbrev pub Does : Order → ℕ → List Receipt → ℕ → List Receipt → Type 0
  Does (order.Requeue row) count receipts now kept =
      Notes (Requeuing row.uid row.dest) Done count receipts now kept
  Does (order.RequeueAll dest) count receipts now kept =
      (rows : List Row)
      × AgainEach site_of book stands failed own first dest rows (count, receipts) (Ok tt)
      (now, kept)
  Does (order.GiveUp row) count receipts now kept =
      (moment : ℕ) × Notes (Dropping row.uid row.dest moment) Done count receipts now kept
  Does (order.Forget uid) count receipts now kept =
      Notes (Forgetting uid) Done count receipts now kept
  Does (order.Visit dest) count receipts now kept = LeavesReceipts count receipts now kept

  -- where the answer says that an order was done, it was, and it is the one that the form gives
  abbrev pub DoneWasDone : Type 0
  DoneWasDone =
      (hops : List NextHop) (asked : Route) (form text : Text)
      (status count now : ℕ) (receipts kept : List Receipt)
      → Tells site_of book stands failed own first hops asked form status text
      count receipts now kept
      → status ≡ 200
      → (one : Order) × IsAsked one asked form × Goes hops one × Does one count receipts now kept

  -- where it says another thing, none was, but where many rows were meant
  abbrev pub ElseNothing : Type 0
  ElseNothing =
      (hops : List NextHop) (asked : Route) (form text : Text)
      (status count now : ℕ) (receipts kept : List Receipt)
      → ((dest : Text) → IsAsked (order.RequeueAll dest) asked form → ⊥)
      → Tells site_of book stands failed own first hops asked form status text
      count receipts now kept
      → (status ≡ 200 → ⊥)
      → LeavesReceipts count receipts now kept
