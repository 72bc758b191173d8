use Rattle.std.proofs.Common.{◌≡◌, ◌≤◌, ℕ, Bool, List, Option, Result, Vec, Global, refl, subst}
use Rattle.std.specs.Coded.{coded_list, coded×}
use Rattle.std.specs.FinMap as map
use Rattle.sqlite.specs.Held.{state}
use Rattle.sqlite.specs.Tree.{Trees}
use Rattle.dr_base.specs.Texts.{Text}
use Rattle.dr_route.specs.declared.key.Key.{Key}
use Rattle.dr_ledger.specs.declared.fault.LedgerFault.{LedgerFault}
use Rattle.dr_ledger.specs.declared.item.Progress.{Progress}
use Rattle.dr_ledger.specs.Pairs.{Pair}
use Rattle.dr_store_schema.specs.Books.{rows_of}
use Rattle.dr_store_lists.specs.Lists.{keys_of}
use Rattle.dr_store.specs.Listing.{UnfitsOf}
use Rattle.dr_store.proofs.Sets.{coded_key, coded_pair, coded_progress, coded_text}
use Rattle.dr_store.proofs.Stable.{both, by_code}
use Rattle.dr_store.proofs.Unfit.{answers, lasting}
use Rattle.dr_store.proofs.Writes.{looked_books, looked_kept, looked_lasting, looked_reads, looked_safe}
use Rattle.dr_store.proofs.ledger.SqlLedgerLedger.unfit.Goals as goal

pub invariant_of-self : goal.invariant_of-self
invariant_of-self g c =
    let n = c.args.self.now.next in
    let part = c.args.self.now.site in
    let r = c.list_rows_and_keys-listed.result in
    let old = state g.S.Store c.args.self.now.conn in
    let new = state g.S.Store c.list_rows_and_keys-listed.new.conn in
    let Shows : Trees → Vec (Pair × Progress) Global × Vec (Text × Key) Global → Type 0 = λ base both. (both.0.items ≡ map.entries (rows_of base)) × (both.1.items ≡ map.entries (keys_of base)) in
    let looked = c.list_rows_and_keys-listed.ensures.looked n part in
    let kept = c.args.self.now.kept in
    record { idle = c.list_rows_and_keys-listed.ensures.idle c.args.self.now.idle; kept = λ clean. looked_kept n part r old new Shows (kept clean) looked }

-- by hand: the search loses itself in what the trait asks
pub returns : goal.returns
returns g c =
    let n = c.args.self.now.next in
    let part = c.args.self.now.site in
    let r = c.list_rows_and_keys-listed.result in
    let old = state g.S.Store c.args.self.now.conn in
    let new = state g.S.Store c.list_rows_and_keys-listed.new.conn in
    let Shows : Trees → Vec (Pair × Progress) Global × Vec (Text × Key) Global → Type 0 = λ base both. (both.0.items ≡ map.entries (rows_of base)) × (both.1.items ≡ map.entries (keys_of base)) in
    let looked = c.list_rows_and_keys-listed.ensures.looked n part in
    let kept = c.args.self.now.kept in
    let Rows : Vec (Pair × Progress) Global × Vec (Text × Key) Global → List (Pair × Progress) = λ both. both.0.items in
    let Keys : Vec (Pair × Progress) Global × Vec (Text × Key) Global → List (Text × Key) = λ both. both.1.items in
    let plan = c.args.next.now.plan in
    let answer = c.first_unfit-answer.result in
    let P : Text → Type 0 = λ name. UnfitsOf Rows Keys plan name r answer in
    let told : UnfitsOf Rows Keys plan part.name r answer = subst P c.name.ensures c.first_unfit-answer.ensures in
    let lasts = looked_lasting n part r old new Shows (g.B.Shelf.is_clean c.args.self.now.shelf × g.P.LedgerPast.is_clean c.args.self.now.past) kept looked in
    record {
      reply = λ safe. answers Rows Keys plan part.name old.committed.trees r answer told (looked_reads n part r old new Shows (kept safe.1) looked (λ l. both (by_code (coded_list (coded× coded_pair coded_progress)) _ _) (by_code (coded_list (coded× coded_text coded_key)) _ _)) safe.0);
      same = λ safe. looked_books n part r old new Shows (kept safe.1) looked g.P.LedgerPast.all_lines (g.B.Shelf.read_of c.args.self.now.shelf) safe.0;
      counts = c.counted-self.ensures.counts;
      armed = refl;
      stood = λ safe. (looked_safe n part r old new Shows (kept safe.1) looked safe.0, safe.1);
      lasts = record { trusted = lasts.trusted; lasts = lasting Rows Keys plan part.name old.committed.trees r answer _ told lasts.lasts };
      site = refl;
    }
