use Rattle.std.proofs.Common.{inr, sym, ◌∙◌}
use Rattle.sqlite.specs.Held.{state}
use Rattle.dr_store_audit.specs.Older.{IsOlder}
use Rattle.dr_store_audit.proofs.Less.{no_older_is_new}
use Rattle.dr_store_open.specs.Opening.{MayMake, StaysAsFound}
use Rattle.dr_store_open.specs.Renewing.{KeepsRows}
use Rattle.dr_store_open.proofs.Answered.{if_older}
use Rattle.dr_store_open.proofs.Filling.{leaves_more}
use Rattle.dr_store_open.proofs.Wholly.{left_still, stays_still}
use Rattle.dr_store_open.proofs.renewing.renew_older.Goals as goal

pub returns-in-Some-clause-found : goal.returns-in-Some-clause-found
returns-in-Some-clause-found g c =
    let older : IsOlder (state g.S.Store c.args.conn.now).now.schema = (c.in-Some.lacks, sym c.schema.ensures.value ∙ c.in-Some.ensures) in
    if_older (StaysAsFound (state g.S.Store c.args.conn.now) (state g.S.Store c.bring_over.new.conn)) c.bring_over.result older

pub returns-in-Some-clause-kept : goal.returns-in-Some-clause-kept
returns-in-Some-clause-kept g c clean older named = c.bring_over.ensures.kept clean

pub returns-in-None-clause-found : goal.returns-in-None-clause-found
returns-in-None-clause-found g c = λ no. stays_still (state g.S.Store c.args.conn.now)

pub returns-in-None-clause-leaves : goal.returns-in-None-clause-leaves
returns-in-None-clause-leaves g c clean = left_still (state g.S.Store c.args.conn.now)

pub returns-in-None-clause-kept : goal.returns-in-None-clause-kept
returns-in-None-clause-kept g c clean older named = absurd (no_older_is_new (state g.S.Store c.args.conn.now).now.schema older named)

pub returns-in-Some-clause-file : goal.returns-in-Some-clause-file
returns-in-Some-clause-file g c clean =
    let old = state g.S.Store c.args.conn.now in
    let new = state g.S.Store c.bring_over.new.conn in
    let older : IsOlder old.now.schema = (c.in-Some.lacks, sym c.schema.ensures.value ∙ c.in-Some.ensures) in
    record {
      crash = leaves_more old new (KeepsRows old.now) (MayMake c.args.site.now old.now) (λ d kept. inr (older, kept)) (c.bring_over.ensures.crash clean);
      stays = λ blank other is_open. absurd (other older);
    }

pub returns-in-Some-clause-ours : goal.returns-in-Some-clause-ours
returns-in-Some-clause-ours g c named =
    let older : IsOlder (state g.S.Store c.args.conn.now).now.schema = (c.in-Some.lacks, sym c.schema.ensures.value ∙ c.in-Some.ensures) in
    absurd (no_older_is_new (state g.S.Store c.args.conn.now).now.schema older named)
