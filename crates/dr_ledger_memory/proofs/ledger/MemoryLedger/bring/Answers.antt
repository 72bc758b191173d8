use Rattle.std.specs.Prelude.{◌↔◌, IsTrue}
use Rattle.std.proofs.Common.{◌∙◌, Contains, List, ap, subst}
use Rattle.dr_base.specs.Texts.{Text}
use Rattle.dr_route.specs.declared.key.Key.{Key}
use Rattle.dr_site.specs.Routing.{KeepsAt, SendsFrom}
use Rattle.dr_ledger_memory.specs.Bringings.{IsFor}
use Rattle.dr_ledger_memory.specs.Changes.{at}
use Rattle.dr_ledger_memory.specs.Entries.{OwnRow, rows_in}
use Rattle.dr_ledger_memory.proofs.Content.{same_content}
use Rattle.dr_ledger_memory.proofs.Ledgers.{bring_kept, taken, takes}
use Rattle.dr_ledger_memory.proofs.Trees.{either_way}
use Rattle.dr_ledger_memory.proofs.Kept.{bodies_of, journal_of}
use Rattle.dr_ledger_memory.proofs.ledger.MemoryLedger.bring.Goals as goal

pub invariant_of-self-2 : goal.invariant_of-self-2
invariant_of-self-2 c =
    let l = c.args.self.now in
    let e = c.try_bring.ensures in
    let q = c.try_bring.new.self in
    let t = c.in_ok-targets.ensures in
    let targets = c.in_ok-targets.targets in
    let new = c.in_ok-new.new in
    let K : Key → Type 0 = λ k. (to : Text) → Contains targets.to to ↔ SendsFrom l.site c.args.caller.now k to in
    let M : Key → Type 0 = λ k. IsTrue targets.keep ↔ KeepsAt l.site c.args.caller.now k in
    let P : List OwnRow → Type 0 = λ rows. IsFor c.args.caller.now c.args.item targets rows new in
    let f : IsFor c.args.caller.now c.args.item targets (rows_in (at l.parts.held c.args.item.uid)) new = subst P (c.rows_held-rows.ensures.rows ∙ ap (λ u. rows_in (at l.parts.held u)) c.uid.ensures) c.in_ok-new.ensures in
    let order = e.ordered l.ordered in
    let sound = bring_kept l.site l.parts q l.ordered (e.ordered l.ordered) c.args.caller.now c.args.item targets new (subst K c.key.ensures t.to) t.ordered (subst M c.key.ensures t.keep) f c.requires.admitted c.requires.first
    (either_way c.try_bring.result e.ok e.err) e.covers l.sound in
    record { ordered = order; sound = sound; journalled = journal_of l.site q sound; bodied = bodies_of l.site q order sound }

pub returns-in-Ok-clause-reply : goal.returns-in-Ok-clause-reply
returns-in-Ok-clause-reply c =
    let l = c.args.self.now in
    let e = c.in-Ok.ensures in
    let t = c.in_ok-targets.ensures in
    let targets = c.in_ok-targets.targets in
    let new = c.in_ok-new.new in
    let K : Key → Type 0 = λ k. (to : Text) → Contains targets.to to ↔ SendsFrom l.site c.args.caller.now k to in
    let M : Key → Type 0 = λ k. IsTrue targets.keep ↔ KeepsAt l.site c.args.caller.now k in
    let P : List OwnRow → Type 0 = λ rows. IsFor c.args.caller.now c.args.item targets rows new in
    taken l.site l.parts c.try_bring.new.self l.ordered (e.ordered l.ordered) c.args.caller.now c.args.item targets new (subst K c.key.ensures t.to) t.ordered (subst M c.key.ensures t.keep) (subst P (c.rows_held-rows.ensures.rows ∙ ap (λ u. rows_in (at l.parts.held u)) c.uid.ensures) c.in_ok-new.ensures)
    c.requires.admitted c.requires.first e.ok

pub returns-in-Ok-clause-bodies : goal.returns-in-Ok-clause-bodies
returns-in-Ok-clause-bodies c =
    let l = c.args.self.now in
    let e = c.in-Ok.ensures in
    let t = c.in_ok-targets.ensures in
    let targets = c.in_ok-targets.targets in
    let new = c.in_ok-new.new in
    let K : Key → Type 0 = λ k. (to : Text) → Contains targets.to to ↔ SendsFrom l.site c.args.caller.now k to in
    let M : Key → Type 0 = λ k. IsTrue targets.keep ↔ KeepsAt l.site c.args.caller.now k in
    let P : List OwnRow → Type 0 = λ rows. IsFor c.args.caller.now c.args.item targets rows new in
    takes l.site l.parts c.try_bring.new.self l.ordered (e.ordered l.ordered) c.args.caller.now c.args.item targets new (subst K c.key.ensures t.to) t.ordered (subst M c.key.ensures t.keep) (subst P (c.rows_held-rows.ensures.rows ∙ ap (λ u. rows_in (at l.parts.held u)) c.uid.ensures) c.in_ok-new.ensures)
    c.requires.admitted c.requires.first e.ok

pub returns-in-Err-clause-reply : goal.returns-in-Err-clause-reply
returns-in-Err-clause-reply c = (c.requires.admitted.line, same_content c.args.self.now.parts c.try_bring.new.self c.in-Err.ensures.err)
