use Rattle.std.proofs.Common.{◌≡◌, ◌≤◌, ℕ, Bool, List, Option, refl, arith}
use Rattle.sqlite.specs.Held.{state}
use Rattle.sqlite.specs.Tree.{Trees}
use Rattle.dr_base.specs.Texts.{Text}
use Rattle.dr_ledger.specs.Replies.{AreKept}
use Rattle.dr_store_schema.specs.Books.{book_of}
use Rattle.dr_store.proofs.Shown.{are_kept}
use Rattle.dr_store.proofs.Writes.{looked_books, looked_kept, looked_lasting, looked_reads, looked_safe}
use Rattle.dr_store.proofs.ledger.SqlLedgerLedger.kept.Goals as goal

pub invariant_of-self : goal.invariant_of-self
invariant_of-self g c =
    let n = c.args.self.now.next in
    let part = c.args.self.now.site in
    let r = c.list_kept-answer.result in
    let old = state g.S.Store c.args.self.now.conn in
    let new = state g.S.Store c.list_kept-answer.new.conn in
    let Shows : Trees → List (Text × ℕ) → Type 0 = λ base. AreKept (book_of base) in
    record {
      idle = c.list_kept-answer.ensures.idle c.args.self.now.idle;
      kept = λ clean. looked_kept n part r old new Shows (c.args.self.now.kept clean) (c.list_kept-answer.ensures.looked n part);
    }

-- by hand: the search loses itself in what the trait asks
pub returns : goal.returns
returns g c =
    let n = c.args.self.now.next in
    let part = c.args.self.now.site in
    let r = c.list_kept-answer.result in
    let old = state g.S.Store c.args.self.now.conn in
    let new = state g.S.Store c.list_kept-answer.new.conn in
    let Shows : Trees → List (Text × ℕ) → Type 0 = λ base. AreKept (book_of base) in
    let kept = c.args.self.now.kept in
    let looked = (c.list_kept-answer.ensures.looked n part) in
    record {
      reply = λ safe. looked_reads n part r old new Shows (kept safe.1) looked (are_kept (book_of old.committed.trees)) safe.0;
      same = λ safe. looked_books n part r old new Shows (kept safe.1) looked g.P.LedgerPast.all_lines (g.B.Shelf.read_of c.args.self.now.shelf) safe.0;
      counts = c.counted-self.ensures.counts;
      armed = refl;
      stood = λ safe. (looked_safe n part r old new Shows (kept safe.1) looked safe.0, safe.1);
      lasts = looked_lasting n part r old new Shows (g.B.Shelf.is_clean c.args.self.now.shelf × g.P.LedgerPast.is_clean c.args.self.now.past) kept looked;
      site = refl;
    }
