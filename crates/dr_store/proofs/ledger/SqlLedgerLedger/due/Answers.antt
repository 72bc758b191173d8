use Rattle.std.proofs.Common.{◌≡◌, ◌≤◌, ℕ, Bool, List, Option, refl, arith}
use Rattle.sqlite.specs.Held.{state}
use Rattle.sqlite.specs.Tree.{Trees}
use Rattle.dr_base.specs.Texts.{Text}
use Rattle.dr_ledger.specs.Replies.{Dues}
use Rattle.dr_store_schema.specs.Books.{book_of}
use Rattle.dr_store.proofs.Shown.{dues}
use Rattle.dr_store.proofs.Writes.{looked_books, looked_kept, looked_lasting, looked_reads, looked_safe}
use Rattle.dr_store.proofs.ledger.SqlLedgerLedger.due.Goals as goal

pub invariant_of-self : goal.invariant_of-self
invariant_of-self g c =
    let n = c.args.self.now.next in
    let part = c.args.self.now.site in
    let dest = c.args.dest.now in
    let now = c.args.now in
    let r = c.due_row-answer.result in
    let old = state g.S.Store c.args.self.now.conn in
    let new = state g.S.Store c.due_row-answer.new.conn in
    let Shows : Trees → Option Text → Type 0 = λ base. Dues (book_of base) dest now in
    record {
      idle = c.due_row-answer.ensures.idle c.args.self.now.idle;
      kept = λ clean. looked_kept n part r old new Shows (c.args.self.now.kept clean) (c.due_row-answer.ensures.looked n part);
    }

-- by hand: the search loses itself in what the trait asks
pub returns : goal.returns
returns g c =
    let n = c.args.self.now.next in
    let part = c.args.self.now.site in
    let dest = c.args.dest.now in
    let now = c.args.now in
    let r = c.due_row-answer.result in
    let old = state g.S.Store c.args.self.now.conn in
    let new = state g.S.Store c.due_row-answer.new.conn in
    let Shows : Trees → Option Text → Type 0 = λ base. Dues (book_of base) dest now in
    let kept = c.args.self.now.kept in
    let looked = (c.due_row-answer.ensures.looked n part) in
    record {
      reply = λ safe. looked_reads n part r old new Shows (kept safe.1) looked (dues (book_of old.committed.trees) dest now) safe.0;
      same = λ safe. looked_books n part r old new Shows (kept safe.1) looked g.P.LedgerPast.all_lines (g.B.Shelf.read_of c.args.self.now.shelf) safe.0;
      counts = c.counted-self.ensures.counts;
      armed = refl;
      stood = λ safe. (looked_safe n part r old new Shows (kept safe.1) looked safe.0, safe.1);
      lasts = looked_lasting n part r old new Shows (g.B.Shelf.is_clean c.args.self.now.shelf × g.P.LedgerPast.is_clean c.args.self.now.past) kept looked;
      site = refl;
    }
