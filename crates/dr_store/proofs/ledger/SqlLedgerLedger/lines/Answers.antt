use Rattle.std.proofs.Common.{◌≡◌, ◌++◌, List, map as mapped, refl, sym, ap, subst, ◌∙◌}
use Rattle.std.specs.Coded.{coded_list}
use Rattle.sqlite.specs.Held.{state}
use Rattle.sqlite.specs.Tree.{Trees}
use Rattle.dr_ledger.specs.declared.item.Entry.{Entry}
use Rattle.dr_ledger.specs.Books.{Line}
use Rattle.dr_ledger.specs.Replies.{entry_of}
use Rattle.dr_store_sealed.specs.declared.seal.Seal.{Seal}
use Rattle.dr_store_past.specs.Lines.{past_in}
use Rattle.dr_store_schema.specs.Books.{lines_of as own_lines}
use Rattle.dr_store_calls.specs.Calling.{IsSafe}
use Rattle.dr_store.specs.Owning.{KeepsOwn}
use Rattle.dr_store.specs.Pasts.{whole_book}
use Rattle.dr_store.specs.Standing.{past_kept}
use Rattle.dr_store.proofs.Sets.{coded_entry}
use Rattle.dr_store.proofs.Stable.{by_code}
use Rattle.dr_store.proofs.Writes.{looked_books, looked_kept, looked_lasting_by, looked_safe, looked_says}
use Rattle.dr_store.proofs.ledger.SqlLedgerLedger.lines.Goals as goal

pub invariant_of-self : goal.invariant_of-self
invariant_of-self g c =
    let n = c.args.self.now.next in
    let part = c.args.self.now.site in
    let all = g.P.LedgerPast.all_lines in
    let seal = g.P.LedgerPast.reach c.args.self.now.past in
    let past = past_in all seal in
    let r = c.list_lines-answer.result in
    let old = state g.S.Store c.args.self.now.conn in
    let new = state g.S.Store c.list_lines-answer.new.conn in
    let Shows : Trees → List Entry → Type 0 = λ base all. g.P.LedgerPast.is_clean c.list_lines-answer.new.past → all ≡ mapped entry_of (past ++ own_lines base) in
    let looked = c.list_lines-answer.ensures.looked n part in
    let Was : Type 0 = g.B.Shelf.is_clean c.args.self.now.shelf × g.P.LedgerPast.is_clean c.args.self.now.past in
    let Is : Type 0 = g.B.Shelf.is_clean c.args.self.now.shelf × g.P.LedgerPast.is_clean c.list_lines-answer.new.past in
    let clean : Is → Was = λ is. (is.0, c.list_lines-answer.ensures.clean is.1) in
    let Uses = g.B.Shelf.uses c.args.self.now.shelf in
    let Apart = g.B.Shelf.apart (g.B.Shelf.named c.args.self.now.shelf) in
    record {
      idle = c.list_lines-answer.ensures.idle c.args.self.now.idle;
      kept = λ is. subst (λ (s : Seal). IsSafe new → ∥ KeepsOwn (past_in all s) Uses Apart n part new ∥₁) (sym c.list_lines-answer.ensures.reach) (looked_kept n part r old new Shows (c.args.self.now.kept (clean is)) looked);
    }

-- by hand: the search loses itself in what the trait asks
pub returns : goal.returns
returns g c =
    let n = c.args.self.now.next in
    let part = c.args.self.now.site in
    let all = g.P.LedgerPast.all_lines in
    let seal = g.P.LedgerPast.reach c.args.self.now.past in
    let past = past_in all seal in
    let r = c.list_lines-answer.result in
    let old = state g.S.Store c.args.self.now.conn in
    let new = state g.S.Store c.list_lines-answer.new.conn in
    let Shows : Trees → List Entry → Type 0 = λ base all. g.P.LedgerPast.is_clean c.list_lines-answer.new.past → all ≡ mapped entry_of (past ++ own_lines base) in
    let looked = c.list_lines-answer.ensures.looked n part in
    let Was : Type 0 = g.B.Shelf.is_clean c.args.self.now.shelf × g.P.LedgerPast.is_clean c.args.self.now.past in
    let Is : Type 0 = g.B.Shelf.is_clean c.args.self.now.shelf × g.P.LedgerPast.is_clean c.list_lines-answer.new.past in
    let clean : Is → Was = λ is. (is.0, c.list_lines-answer.ensures.clean is.1) in
    let base = old.committed.trees in
    let kept = c.args.self.now.kept in
    record {
      reply = λ safe.
          looked_says n part r old new Shows (kept (clean safe.1)) looked (λ entries. entries ≡ mapped entry_of (whole_book all base).lines)
          (λ k entries shown. shown safe.1.1 ∙ ap (λ (p : List Line). mapped entry_of (p ++ own_lines base)) (sym (past_kept all seal n part base k.kept.ledger)))
          (λ entries. by_code (coded_list coded_entry) _ _) safe.0;
      same = λ safe. looked_books n part r old new Shows (kept (clean safe.1)) looked all (g.B.Shelf.read_of c.args.self.now.shelf) safe.0;
      counts = c.counted-self.ensures.counts;
      armed = refl;
      stood = λ safe. (looked_safe n part r old new Shows (kept (clean safe.1)) looked safe.0, clean safe.1);
      lasts = looked_lasting_by n part r old new Shows Was Is clean kept looked;
      site = refl;
    }
