use Rattle.std.proofs.Common.{◌≡◌, ◌++◌, ℕ, List, map as mapped, refl, sym, subst}
use Rattle.std.specs.Coded.{coded_list, coded×, coded_ℕ}
use Rattle.sqlite.specs.Held.{state}
use Rattle.sqlite.specs.Tree.{Trees}
use Rattle.dr_ledger.specs.Books.{Line}
use Rattle.dr_ledger_history.specs.Lines.{line_of}
use Rattle.dr_ledger_history.specs.declared.line.JournalLine.{JournalLine}
use Rattle.dr_ledger_views.specs.Numbers.{AreBehind, counted, last_of}
use Rattle.dr_store_sealed.specs.declared.seal.Seal.{Seal}
use Rattle.dr_store_past.specs.Lines.{past_in}
use Rattle.dr_store_schema.specs.Books.{lines_of as own_lines}
use Rattle.dr_store_calls.specs.Calling.{IsSafe}
use Rattle.dr_store.specs.Owning.{KeepsOwn}
use Rattle.dr_store.specs.Pasts.{AreBothWithin, whole_book}
use Rattle.dr_store.specs.Standing.{past_kept}
use Rattle.dr_store.proofs.Numbered.{as_many, both_behind}
use Rattle.dr_store.proofs.Sets.{coded_line}
use Rattle.dr_store.proofs.Stable.{by_code}
use Rattle.dr_store.proofs.Writes.{looked_books, looked_kept, looked_lasting_by, looked_safe, looked_says}
use Rattle.dr_store.proofs.ledger.SqlLedgerViews.lines_behind.Goals as goal

pub invariant_of-self : goal.invariant_of-self
invariant_of-self g c =
    let n = c.args.self.now.next in
    let part = c.args.self.now.site in
    let all = g.P.LedgerPast.all_lines in
    let seal = g.P.LedgerPast.reach c.args.self.now.past in
    let past = past_in all seal in
    let r = c.tell_behind-answer.result in
    let old = state g.S.Store c.args.self.now.conn in
    let new = state g.S.Store c.tell_behind-answer.new.conn in
    let Shows : Trees → List JournalLine → Type 0 = λ base all. g.P.LedgerPast.is_clean c.tell_behind-answer.new.past → AreBothWithin past seal.count c.args.after (last_of c.args.after c.args.limit) base (mapped line_of all) in
    let looked = c.tell_behind-answer.ensures.looked n part in
    let Was : Type 0 = g.B.Shelf.is_clean c.args.self.now.shelf × g.P.LedgerPast.is_clean c.args.self.now.past in
    let Is : Type 0 = g.B.Shelf.is_clean c.args.self.now.shelf × g.P.LedgerPast.is_clean c.tell_behind-answer.new.past in
    let clean : Is → Was = λ is. (is.0, c.tell_behind-answer.ensures.clean is.1) in
    let Uses = g.B.Shelf.uses c.args.self.now.shelf in
    let Apart = g.B.Shelf.apart (g.B.Shelf.named c.args.self.now.shelf) in
    record {
      idle = c.tell_behind-answer.ensures.idle c.args.self.now.idle;
      kept = λ is. subst (λ (s : Seal). IsSafe new → ∥ KeepsOwn (past_in all s) Uses Apart n part new ∥₁) (sym c.tell_behind-answer.ensures.reach) (looked_kept n part r old new Shows (c.args.self.now.kept (clean is)) looked);
    }

-- by hand: the search loses itself in what the trait asks
pub returns : goal.returns
returns g c =
    let n = c.args.self.now.next in
    let part = c.args.self.now.site in
    let all = g.P.LedgerPast.all_lines in
    let seal = g.P.LedgerPast.reach c.args.self.now.past in
    let past = past_in all seal in
    let r = c.tell_behind-answer.result in
    let old = state g.S.Store c.args.self.now.conn in
    let new = state g.S.Store c.tell_behind-answer.new.conn in
    let Shows : Trees → List JournalLine → Type 0 = λ base all. g.P.LedgerPast.is_clean c.tell_behind-answer.new.past → AreBothWithin past seal.count c.args.after (last_of c.args.after c.args.limit) base (mapped line_of all) in
    let looked = c.tell_behind-answer.ensures.looked n part in
    let Was : Type 0 = g.B.Shelf.is_clean c.args.self.now.shelf × g.P.LedgerPast.is_clean c.args.self.now.past in
    let Is : Type 0 = g.B.Shelf.is_clean c.args.self.now.shelf × g.P.LedgerPast.is_clean c.tell_behind-answer.new.past in
    let clean : Is → Was = λ is. (is.0, c.tell_behind-answer.ensures.clean is.1) in
    let base = old.committed.trees in
    let kept = c.args.self.now.kept in
    record {
      reply = λ safe.
          looked_says n part r old new Shows (kept (clean safe.1)) looked (λ lines. AreBehind c.args.after c.args.limit (counted 0 (whole_book all base).lines) (mapped line_of lines))
          (λ k lines shown. subst (λ (p : List Line). AreBehind c.args.after c.args.limit (counted 0 (p ++ own_lines base)) (mapped line_of lines)) (sym (past_kept all seal n part base k.kept.ledger))
          (both_behind past seal.count n part base c.args.after c.args.limit (mapped line_of lines) k.kept.ledger (as_many seal.count all (g.P.LedgerPast.reached c.args.self.now.past (clean safe.1).1)) (shown safe.1.1)))
          (λ lines. by_code (coded_list (coded× coded_ℕ coded_line)) _ _) safe.0;
      numbered = refl;
      same = λ safe. looked_books n part r old new Shows (kept (clean safe.1)) looked all (g.B.Shelf.read_of c.args.self.now.shelf) safe.0;
      counts = c.counted-self.ensures.counts;
      armed = refl;
      stood = λ safe. (looked_safe n part r old new Shows (kept (clean safe.1)) looked safe.0, clean safe.1);
      lasts = looked_lasting_by n part r old new Shows Was Is clean kept looked;
      site = refl;
    }
