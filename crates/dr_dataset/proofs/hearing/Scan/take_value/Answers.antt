use Rattle.std.proofs.Common.{◌<◌, sym, ap, ◌∙◌, arith, List, ℕ, ◌++◌, drop, length}
use Rattle.std.proofs.lemmas.List.{take-append-drop}
use Rattle.dr_dataset.proofs.HearLemmas.{takes_value, some_taken, some_length}
use Rattle.dr_dataset.proofs.hearing.Scan.take_value.Goals as goal

pub returns : goal.returns
returns c =
    let piece = c.args.piece.now in
    let s = c.split_at.ensures in
    let count = c.min-count.ensures in
    let some : 0 < length piece = some_length piece c.requires.some in (
      c.split_at.result.0.now,
      sym (take-append-drop c.min-count.result piece) ∙ ap (λ (x : List ℕ). x ++ drop c.min-count.result piece) (sym s.front) ∙ ap (λ (x : List ℕ). c.split_at.result.0.now ++ x) (sym s.back),
      some_taken c.split_at.result.0.now c.min-count.result s.front_len (omega (arith, count, some, c.requires.awaited)),
      takes_value c.args.self.now c.args.tag c.args.missing c.min-count.result c.split_at.result.0.now c.keep_more.new.value c.keeps-is_kept.result c.keeps-is_kept.ensures (omega (arith, count)) s.front_len c.keep_more.ensures,
    )
