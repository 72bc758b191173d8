use Rattle.std.proofs.Common.{◌≡◌, ℕ, List, Option, Some, refl}
use Rattle.sqlite.specs.Held.{state}
use Rattle.sqlite.specs.Tree.{Trees}
use Rattle.std.specs.FinMap as map
use Rattle.dr_store_schema.specs.Books.{rows_of}
use Rattle.dr_ledger_views.specs.Views.{IsLeast, dues}
use Rattle.dr_store.proofs.Shown.{is_least}
use Rattle.dr_store_calls.proofs.Calls.{asked_looked}
use Rattle.dr_store.proofs.Writes.{looked_books, looked_kept, looked_lasting, looked_reads, looked_safe}
use Rattle.dr_store.proofs.ledger.SqlLedgerViews.first_due.Goals as goal

pub invariant_of-self : goal.invariant_of-self
invariant_of-self g c =
    let n = c.args.self.now.next in
    let part = c.args.self.now.site in
    let dest = c.args.dest.now in
    let r = c.first_moment-answer.result in
    let old = state g.S.Store c.args.self.now.conn in
    let new = state g.S.Store c.first_moment-answer.new.conn in
    let Shows : Trees → Option ℕ → Type 0 = λ base. IsLeast (dues (map.entries (rows_of base)) dest) in
    let looked = asked_looked n part r old new Shows c.first_moment-answer.ensures.asked in
    record {
      idle = c.first_moment-answer.ensures.asked.idle c.args.self.now.idle;
      kept = λ clean. looked_kept n part r old new Shows (c.args.self.now.kept clean) looked;
    }

-- by hand: the search loses itself in what the trait asks
pub returns : goal.returns
returns g c =
    let n = c.args.self.now.next in
    let part = c.args.self.now.site in
    let dest = c.args.dest.now in
    let r = c.first_moment-answer.result in
    let old = state g.S.Store c.args.self.now.conn in
    let new = state g.S.Store c.first_moment-answer.new.conn in
    let Shows : Trees → Option ℕ → Type 0 = λ base. IsLeast (dues (map.entries (rows_of base)) dest) in
    let looked = asked_looked n part r old new Shows c.first_moment-answer.ensures.asked in
    let kept = c.args.self.now.kept in
    record {
      reply = λ safe. looked_reads n part r old new Shows (kept safe.1) looked (λ due. is_least (dues (map.entries (rows_of old.committed.trees)) dest) due) safe.0;
      same = λ safe. looked_books n part r old new Shows (kept safe.1) looked g.P.LedgerPast.all_lines (g.B.Shelf.read_of c.args.self.now.shelf) safe.0;
      counts = c.counted-self.ensures.counts;
      armed = refl;
      stood = λ safe. (looked_safe n part r old new Shows (kept safe.1) looked safe.0, safe.1);
      lasts = looked_lasting n part r old new Shows (g.B.Shelf.is_clean c.args.self.now.shelf × g.P.LedgerPast.is_clean c.args.self.now.past) kept looked;
      site = refl;
    }
