use Rattle.std.proofs.Common.{◌≡◌, ◌∙◌, ◌++◌, List, take, sym, ap}
use Rattle.std.specs.Prelude.{map as mapped}
use Rattle.dr_ledger.specs.Books.{Line}
use Rattle.dr_ledger_history.specs.Lines.{line_of}
use Rattle.dr_world_audit.proofs.Replaying.{mapped_append}
use Rattle.dr_word_audit.proofs.Counted.{since_left}
use Rattle.dr_word_audit.proofs.counting.since_of.Goals as goal

pub returns : goal.returns
returns c =
    let past = c.split_at.result.0.now in
    let since = c.split_at.result.1.now in
    let all = ap (mapped line_of) c.split_at.ensures.by_index.0 ∙ mapped_append line_of past since in
    since_left (mapped line_of c.args.lines.now) (mapped line_of past) (mapped line_of since) (sym all)
    (ap (mapped line_of) c.split_at.ensures.front ∙ c.count_past.ensures.past)
