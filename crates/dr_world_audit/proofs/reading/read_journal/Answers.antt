use Rattle.std.proofs.Common.{◌≡◌, ◌∙◌, ◌++◌, ap, refl, sym, subst, take, Err}
use Rattle.std.specs.Prelude.{map as mapped}
use Rattle.dr_base.specs.Texts.{Text}
use Rattle.dr_ledger.specs.Histories.{IsBeforeAdoption}
use Rattle.dr_ledger_history.specs.Contents.{book_of, content}
use Rattle.dr_ledger_history.specs.Lines.{line_of}
use Rattle.dr_world_journals.specs.Hops.{goals}
use Rattle.dr_world_journals.specs.Journals.{until_adoption}
use Rattle.dr_world_audit.specs.declared.fault.JournalFault.{JournalFault}
use Rattle.dr_world_audit.specs.declared.trail.Trail.{Trail}
use Rattle.dr_world_audit.specs.Readings.{Reads}
use Rattle.dr_world_audit.specs.Standing.{Stands}
use Rattle.dr_world_audit.proofs.ReadAll.{begun, past_fails, read_all, since_fails, stand_fails}
use Rattle.dr_world_audit.proofs.Replaying.{mapped_append}
use Rattle.dr_world_audit.proofs.Stood.{AllStand}
use Rattle.dr_world_audit.proofs.reading.read_journal.Goals as goal

pub returns-in-Err : goal.returns-in-Err
returns-in-Err c =
    let plan = c.args.sealed.now.plan in
    let site = c.args.site.now in
    let lines = mapped line_of c.args.lines.now in
    let past = mapped line_of c.split_at.result.0.now in
    let since = mapped line_of c.split_at.result.1.now in
    let all : lines ≡ past ++ since = ap (mapped line_of) c.split_at.ensures.by_index.0 ∙ mapped_append line_of c.split_at.result.0.now c.split_at.result.1.now in
    let front : past ≡ mapped line_of (take c.count_past.result c.args.lines.now) = ap (mapped line_of) c.split_at.ensures.front in
    let until : until_adoption lines ≡ past = sym (front ∙ c.count_past.ensures.past) in
    let before : IsBeforeAdoption past = subst IsBeforeAdoption (sym front) c.count_past.ensures.over in
    let old = c.args.trail.now in
    let P : JournalFault → Type 0 = λ f. Reads plan site lines old old (Err f) in
    subst P (sym c.of_history.ensures) (past_fails plan site lines past since all until before c.in-Err.fault old old c.in-Err.ensures)

pub returns-in-Err-stand_all : goal.returns-in-Err-stand_all
returns-in-Err-stand_all c =
    let plan = c.args.sealed.now.plan in
    let site = c.args.site.now in
    let lines = mapped line_of c.args.lines.now in
    let past = mapped line_of c.split_at.result.0.now in
    let since = mapped line_of c.split_at.result.1.now in
    let all : lines ≡ past ++ since = ap (mapped line_of) c.split_at.ensures.by_index.0 ∙ mapped_append line_of c.split_at.result.0.now c.split_at.result.1.now in
    let front : past ≡ mapped line_of (take c.count_past.result c.args.lines.now) = ap (mapped line_of) c.split_at.ensures.front in
    let until : until_adoption lines ≡ past = sym (front ∙ c.count_past.ensures.past) in
    let before : IsBeforeAdoption past = subst IsBeforeAdoption (sym front) c.count_past.ensures.over in
    let old = c.args.trail.now in
    let told = content c.in-Ok.told.parts in
    let mid : Trail = record { came = old.came; sent = c.stand_all.new.sent; done = old.done } in
    let S : Text → Type 0 = λ n. Stands plan n (book_of told) (goals past) old.sent.items c.stand_all.new.sent.items (Err c.in-Err-stand_all.fault) in
    stand_fails plan site lines past since all until before told c.in-Err-stand_all.fault c.stand_all.new.sent.items old mid c.in-Ok.ensures (subst S (sym c.requires) c.in-Err-stand_all.ensures)

pub returns-in-Ok-tell_since : goal.returns-in-Ok-tell_since
returns-in-Ok-tell_since c =
    let plan = c.args.sealed.now.plan in
    let site = c.args.site.now in
    let lines = mapped line_of c.args.lines.now in
    let past = mapped line_of c.split_at.result.0.now in
    let since = mapped line_of c.split_at.result.1.now in
    let all : lines ≡ past ++ since = ap (mapped line_of) c.split_at.ensures.by_index.0 ∙ mapped_append line_of c.split_at.result.0.now c.split_at.result.1.now in
    let front : past ≡ mapped line_of (take c.count_past.result c.args.lines.now) = ap (mapped line_of) c.split_at.ensures.front in
    let until : until_adoption lines ≡ past = sym (front ∙ c.count_past.ensures.past) in
    let before : IsBeforeAdoption past = subst IsBeforeAdoption (sym front) c.count_past.ensures.over in
    let old = c.args.trail.now in
    let told = content c.in-Ok.told.parts in
    let mid : Trail = record { came = old.came; sent = c.stand_all.new.sent; done = old.done } in
    let S : Text → Type 0 = λ n. AllStand plan n (book_of told) (goals past) old.sent.items c.stand_all.new.sent.items in
    let both = c.in-Ok-tell_since.ensures past (begun plan site lines past since all until before told c.in-Ok.ensures) in
    read_all plan site lines past since all until before told (content c.in-Ok-tell_since._all.parts) old mid c.tell_since.new.trail c.in-Ok.ensures (subst S (sym c.requires) c.in-Ok-stand_all.ensures) refl refl both.0 both.1

pub returns : goal.returns
returns c =
    let plan = c.args.sealed.now.plan in
    let site = c.args.site.now in
    let lines = mapped line_of c.args.lines.now in
    let past = mapped line_of c.split_at.result.0.now in
    let since = mapped line_of c.split_at.result.1.now in
    let all : lines ≡ past ++ since = ap (mapped line_of) c.split_at.ensures.by_index.0 ∙ mapped_append line_of c.split_at.result.0.now c.split_at.result.1.now in
    let front : past ≡ mapped line_of (take c.count_past.result c.args.lines.now) = ap (mapped line_of) c.split_at.ensures.front in
    let until : until_adoption lines ≡ past = sym (front ∙ c.count_past.ensures.past) in
    let before : IsBeforeAdoption past = subst IsBeforeAdoption (sym front) c.count_past.ensures.over in
    let old = c.args.trail.now in
    let told = content c.in-Ok.told.parts in
    let mid : Trail = record { came = old.came; sent = c.stand_all.new.sent; done = old.done } in
    let P : JournalFault → Type 0 = λ f. Reads plan site lines old c.tell_since.new.trail (Err f) in
    subst P (sym c.of_history-in-Err-tell_since.ensures) (since_fails plan site lines past since all until before c.in-Err-tell_since.fault old mid c.tell_since.new.trail
    (c.in-Err-tell_since.ensures past (begun plan site lines past since all until before told c.in-Ok.ensures)))
