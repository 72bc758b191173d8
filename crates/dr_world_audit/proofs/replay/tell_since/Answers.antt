use Rattle.std.proofs.Common.{◌≡◌, ◌+◌, ◌∙◌, ◌++◌, ◌∷◌, [], ap, drop, sym, take, subst}
use Rattle.std.specs.Prelude.{map as mapped, List, Err}
use Rattle.std.proofs.lemmas.List.{map_more}
use Rattle.dr_base.specs.Texts.{Text}
use Rattle.dr_ledger.specs.Books.{Line}
use Rattle.dr_ledger.specs.SiteRoutes.{site_routing}
use Rattle.dr_ledger_history.specs.declared.line.JournalLine.{JournalLine}
use Rattle.dr_ledger_history.specs.Contents.{book_of, content}
use Rattle.dr_ledger_history.specs.Lines.{line_of}
use Rattle.dr_ledger_history.specs.Told.{IsToldSince, TellsSince}
use Rattle.dr_world_audit.specs.Hops.{Notes}
use Rattle.dr_world_audit.specs.Replays.{NotesAll}
use Rattle.dr_world_journals.specs.Hops.{came_by, done_by, went_by}
use Rattle.dr_world_audit.proofs.Replaying.{begins, noted_on, since_ends}
use Rattle.dr_world_audit.proofs.replay.tell_since.Goals as goal

pub returns-in-Err : goal.returns-in-Err
returns-in-Err c =
    let lines = c.args.lines.now in
    let i = c.loop-line.line-index in
    let line = c.line-item.result in
    let told = mapped line_of (take i lines) in
    let e = map_more line_of lines i line c.loop-line-test.true in
    let more : mapped line_of (take (i + 1) lines) ≡ told ++ line_of line ∷ [] = rw (← c.line-item.is) at e in
    let rest = mapped line_of (drop (i + 1) lines) in
    λ past begun.
    let P : JournalLine → Type 0 = λ l. TellsSince (site_routing c.args.site.now) past told (line_of l) (Err c.in-Err.fault) in
    since_ends c.args.site.now c.in-Err.fault past told rest (mapped line_of lines) (line_of line) c.args.trail.now c.note.new.trail (begins lines (i + 1) ∙ ap (λ ls. ls ++ rest) more)
    (subst P c.in_ok-copy_line.ensures (c.in-Err.ensures past told (c.loop-line.invariant past begun).0))

pub loop-line-preserved : goal.loop-line-preserved
loop-line-preserved c =
    let lines = c.args.lines.now in
    let site = c.args.site.now in
    let i = c.loop-line.line-index in
    let line = c.line-item.result in
    let told = mapped line_of (take i lines) in
    let e = map_more line_of lines i line c.loop-line-test.true in
    let more : mapped line_of (take (i + 1) lines) ≡ told ++ line_of line ∷ [] = rw (← c.line-item.is) at e in
    λ past begun.
    let inv = c.loop-line.invariant past begun in
    let routing = site_routing site in
    let before = book_of (content c.loop-line.history.parts) in
    let R : Text → Type 0 = λ n. Notes c.loop-line.trail (came_by n (line_of line)) (went_by routing n (line_of line)) (done_by n before (line_of line)) c.note.new.trail in
    let noted = subst R (sym c.requires) c.in_ok-note.ensures in
    let P : JournalLine → Type 0 = λ l. IsToldSince (site_routing site) past (told ++ line_of l ∷ []) (content c.in-Ok.next.parts) in
    let Q : List Line → Type 0 = λ ls. IsToldSince (site_routing site) past ls (content c.in-Ok.next.parts) × NotesAll site past ls c.args.trail.now c.note.new.trail in
    subst Q (sym more) (
      subst P c.in_ok-copy_line.ensures (c.in-Ok.ensures past told inv.0),
      noted_on site past told (line_of line) (content c.loop-line.history.parts) c.args.trail.now c.loop-line.trail c.note.new.trail inv.0 inv.1 noted,
    )
