use Rattle.std.proofs.Common.{◌≡◌, Err, None, Ok, Option, Some, ap, sym, subst}
use Rattle.sqlite.specs.Effect.{Database}
use Rattle.sqlite.specs.Held.{state}
use Rattle.dr_store_open.specs.declared.finding.FoundTables.{FoundTables}
use Rattle.dr_store_open.specs.Faults.{IsOfData}
use Rattle.dr_store_open.specs.Opening.{AreOf, IsLedgerOpened}
use Rattle.dr_store_open.proofs.Opens.{found_kept, found_own, whole_failed, whole_found, whole_none}
use Rattle.dr_store_open.proofs.opening.find_ledger.Goals as goal

pub open_found-requires-clause-ready : goal.open_found-requires-clause-ready
open_found-requires-clause-ready g c clean =
    let old = state g.S.Store c.args.conn.now in
    let mid = state g.S.Store c.find.new.conn in
    let If : Option FoundTables → Type 0 = λ o. IsLedgerOpened c.args.site.now (Ok o) old mid in
    let f : IsLedgerOpened c.args.site.now (Ok (Some c.in-Ok-Some.found)) old mid = subst If c.in-Ok-Some.field-0-is c.in-Ok-Some.ensures in
    (f.kept clean).kept.ready

pub open_found-requires-clause-are : goal.open_found-requires-clause-are
open_found-requires-clause-are g c clean =
    let old = state g.S.Store c.args.conn.now in
    let mid = state g.S.Store c.find.new.conn in
    let If : Option FoundTables → Type 0 = λ o. IsLedgerOpened c.args.site.now (Ok o) old mid in
    let f : IsLedgerOpened c.args.site.now (Ok (Some c.in-Ok-Some.found)) old mid = subst If c.in-Ok-Some.field-0-is c.in-Ok-Some.ensures in
    subst (λ (d : Database). AreOf c.args.site.now d.trees c.in-Ok-Some.found) (sym (f.kept clean).kept.ready.settled) (f.are clean)

pub returns-in-Ok-Some-clause-whole : goal.returns-in-Ok-Some-clause-whole
returns-in-Ok-Some-clause-whole g c =
    let old = state g.S.Store c.args.conn.now in
    let mid = state g.S.Store c.find.new.conn in
    let new = state g.S.Store c.open_found.new.conn in
    let If : Option FoundTables → Type 0 = λ o. IsLedgerOpened c.args.site.now (Ok o) old mid in
    let f : IsLedgerOpened c.args.site.now (Ok (Some c.in-Ok-Some.found)) old mid = subst If c.in-Ok-Some.field-0-is c.in-Ok-Some.ensures in
    let it = c.open_found.ensures in
    whole_found c.args.site.now old mid new c.in-Ok-Some.found c.open_found.result f it.ready it.next it.placed it.own it.why

pub returns-in-Ok-Some-clause-kept : goal.returns-in-Ok-Some-clause-kept
returns-in-Ok-Some-clause-kept g c =
    let old = state g.S.Store c.args.conn.now in
    let mid = state g.S.Store c.find.new.conn in
    let new = state g.S.Store c.open_found.new.conn in
    let If : Option FoundTables → Type 0 = λ o. IsLedgerOpened c.args.site.now (Ok o) old mid in
    let f : IsLedgerOpened c.args.site.now (Ok (Some c.in-Ok-Some.found)) old mid = subst If c.in-Ok-Some.field-0-is c.in-Ok-Some.ensures in
    let it = c.open_found.ensures in
    found_kept c.args.site.now old new c.open_found.result (whole_found c.args.site.now old mid new c.in-Ok-Some.found c.open_found.result f it.ready it.next it.placed it.own it.why)

pub returns-in-Ok-Some-clause-own : goal.returns-in-Ok-Some-clause-own
returns-in-Ok-Some-clause-own g c =
    let old = state g.S.Store c.args.conn.now in
    let mid = state g.S.Store c.find.new.conn in
    let new = state g.S.Store c.open_found.new.conn in
    let If : Option FoundTables → Type 0 = λ o. IsLedgerOpened c.args.site.now (Ok o) old mid in
    let f : IsLedgerOpened c.args.site.now (Ok (Some c.in-Ok-Some.found)) old mid = subst If c.in-Ok-Some.field-0-is c.in-Ok-Some.ensures in
    let it = c.open_found.ensures in
    found_own c.args.site.now old new c.open_found.result (whole_found c.args.site.now old mid new c.in-Ok-Some.found c.open_found.result f it.ready it.next it.placed it.own it.why)

pub returns-in-Ok-Some-clause-idle : goal.returns-in-Ok-Some-clause-idle
returns-in-Ok-Some-clause-idle g c = c.open_found.ensures.ready.looks.idle (c.in-Ok-Some.ensures.looks.idle c.requires)

pub returns-in-Ok-None-clause-idle : goal.returns-in-Ok-None-clause-idle
returns-in-Ok-None-clause-idle g c = c.in-Ok-None.ensures.looks.idle c.requires

pub returns-in-Err-clause-idle : goal.returns-in-Err-clause-idle
returns-in-Err-clause-idle g c = c.in-Err.ensures.looks.idle c.requires

pub returns-in-Ok-None-clause-whole : goal.returns-in-Ok-None-clause-whole
returns-in-Ok-None-clause-whole g c =
    let old = state g.S.Store c.args.conn.now in
    let new = state g.S.Store c.find.new.conn in
    let If : Option FoundTables → Type 0 = λ o. IsLedgerOpened c.args.site.now (Ok o) old new in
    whole_none c.args.site.now old new (subst If c.in-Ok-None.field-0-is c.in-Ok-None.ensures)

pub returns-in-Err-clause-whole : goal.returns-in-Err-clause-whole
returns-in-Err-clause-whole g c =
    whole_failed c.args.site.now (state g.S.Store c.args.conn.now) (state g.S.Store c.find.new.conn) c.in-Err.fault c.opening_fault.result c.in-Err.ensures c.opening_fault.ensures.other c.opening_fault.ensures.of_data

pub returns-in-Err-clause-there : goal.returns-in-Err-clause-there
returns-in-Err-clause-there g c = λ e. c.opening_fault.ensures.of_data (subst IsOfData (sym e) tt)
