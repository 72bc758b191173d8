use Rattle.std.proofs.Common.{ℕ, ◌≤◌}
use Rattle.sqlite.specs.Effect.{Database}
use Rattle.sqlite.specs.Held.{state}
use Rattle.dr_store_schema.specs.Books.{AreBelow}
use Rattle.dr_store_reads.proofs.Outcomes.{refused}
use Rattle.dr_store_open.specs.declared.listed.Journal.{Journal}
use Rattle.dr_store_open.specs.declared.listed.Moves.{Moves}
use Rattle.dr_store_open.specs.declared.listed.Stock.{Stock}
use Rattle.dr_store_open.specs.declared.listed.WholeLists.{WholeLists}
use Rattle.dr_store_open.specs.Listed.{AreWholeListsOf, IsJournalOf, IsMovesOf, IsStockOf}
use Rattle.dr_store_open.proofs.Chains.{of_ledger, then_failed, two_asked}
use Rattle.dr_store_open.proofs.listed.list_all.Goals as goal

abbrev StockIn : Database → Stock → Type 0
StockIn db stock = IsStockOf db.trees stock

abbrev MovesIn : Database → Moves → Type 0
MovesIn db moves = IsMovesOf db.trees moves

abbrev JournalIn : Database → Journal → Type 0
JournalIn db journal = IsJournalOf db.trees journal

abbrev Numbers : Database → ℕ → Type 0
Numbers db n = (1 ≤ n) × AreBelow n (db.trees 11)

abbrev Two : Stock → Moves → Database → Unit {0} → Type 0
Two stock moves db done = StockIn db stock × MovesIn db moves

abbrev Three : Stock → Moves → Journal → Database → Unit {0} → Type 0
Three stock moves journal db done = StockIn db stock × MovesIn db moves × JournalIn db journal

pub returns-in_err-stock : goal.returns-in_err-stock
returns-in_err-stock g c =
    record { asked = refused c.from_residual.ensures (λ has. has) c.in_err-stock.ensures.asked }

pub returns-in_err-moves : goal.returns-in_err-moves
returns-in_err-moves g c =
    let old = state g.S.Store c.args.conn.now in
    let mid = state g.S.Store c.list_stock.new.conn in
    let new = state g.S.Store c.list_moves.new.conn in
    record {
      asked = refused c.from_residual-in_err-moves.ensures (λ has. has)
          (then_failed old mid new c.in_ok-stock.stock StockIn MovesIn c.in_ok-stock.ensures.asked c.in_err-moves.ensures.asked);
    }

pub returns-in_err-journal : goal.returns-in_err-journal
returns-in_err-journal g c =
    let old = state g.S.Store c.args.conn.now in
    let one = state g.S.Store c.list_stock.new.conn in
    let two = state g.S.Store c.list_moves.new.conn in
    let new = state g.S.Store c.list_journal.new.conn in
    let stock = c.in_ok-stock.stock in
    let moves = c.in_ok-moves.moves in
    record {
      asked = refused c.from_residual-in_err-journal.ensures (λ has. has)
          (then_failed old two new tt (Two stock moves) JournalIn
          (two_asked old one two stock moves tt StockIn MovesIn (Two stock moves) (λ db a b. (a, b)) c.in_ok-stock.ensures.asked c.in_ok-moves.ensures.asked)
          c.in_err-journal.ensures.asked);
    }

pub returns-in_err-_next : goal.returns-in_err-_next
returns-in_err-_next g c =
    let old = state g.S.Store c.args.conn.now in
    let one = state g.S.Store c.list_stock.new.conn in
    let two = state g.S.Store c.list_moves.new.conn in
    let three = state g.S.Store c.list_journal.new.conn in
    let new = state g.S.Store c.next_number.new.conn in
    let stock = c.in_ok-stock.stock in
    let moves = c.in_ok-moves.moves in
    let journal = c.in_ok-journal.journal in
    record {
      asked = refused c.from_residual-in_err-_next.ensures (λ has. has)
          (then_failed old three new tt (Three stock moves journal) Numbers
          (two_asked old two three tt journal tt (Two stock moves) JournalIn (Three stock moves journal) (λ db a b. (a.0, a.1, b))
          (two_asked old one two stock moves tt StockIn MovesIn (Two stock moves) (λ db a b. (a, b)) c.in_ok-stock.ensures.asked c.in_ok-moves.ensures.asked)
          c.in_ok-journal.ensures.asked)
          (of_ledger three new _ _ c.in_err-_next.ensures.asked));
    }

pub returns : goal.returns
returns g c =
    let old = state g.S.Store c.args.conn.now in
    let one = state g.S.Store c.list_stock.new.conn in
    let two = state g.S.Store c.list_moves.new.conn in
    let three = state g.S.Store c.list_journal.new.conn in
    let new = state g.S.Store c.next_number.new.conn in
    let stock = c.in_ok-stock.stock in
    let moves = c.in_ok-moves.moves in
    let journal = c.in_ok-journal.journal in
    let n = c.in_ok-_next._next in
    let all : WholeLists = record { stock = stock; moves = moves; journal = journal } in
    record {
      asked = two_asked old three new tt n all (Three stock moves journal) Numbers (λ db lists. AreWholeListsOf db.trees lists)
          (λ db a b. record { stock = a.0; moves = a.1; journal = a.2; numbers = (n, b.1) })
          (two_asked old two three tt journal tt (Two stock moves) JournalIn (Three stock moves journal) (λ db a b. (a.0, a.1, b))
          (two_asked old one two stock moves tt StockIn MovesIn (Two stock moves) (λ db a b. (a, b)) c.in_ok-stock.ensures.asked c.in_ok-moves.ensures.asked)
          c.in_ok-journal.ensures.asked)
          (of_ledger three new _ _ c.in_ok-_next.ensures.asked);
    }
