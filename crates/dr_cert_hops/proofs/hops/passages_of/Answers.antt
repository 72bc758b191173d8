use Rattle.std.proofs.Common.{◌≡◌, ℕ, ◌+◌, refl, sym, ◌∙◌, ap, subst, List, [], ◌∷◌, ◌++◌, take, Contains, arith}
use Rattle.std.proofs.lemmas.List.{take_more, take_all}
use Rattle.dr_plan_sound.specs.declared.certificate.Line.{Line}
use Rattle.dr_cert_hops.specs.declared.hops.Passage.{Passage}
use Rattle.dr_cert_hops.specs.Numbering.{IsPassage, passage_cmp}
use Rattle.std.specs.BTreeSet.{Updates}
use Rattle.dr_cert_hops.proofs.Keys.{passage_added}
use Rattle.dr_cert_hops.proofs.Counting.{line_added, line_passed_over}
use Rattle.std.proofs.lemmas.Bool.{false≢true}
use Rattle.dr_cert_hops.specs.Numbering.{shown_passage}
use Rattle.std.proofs.Common.{true}
use Rattle.dr_cert_hops.proofs.hops.passages_of.Goals as goal
use Rattle.dr_cert_hops.proofs.hops.passages_of.Goals.{then-not-is_local+in_ok-passage_of+in_ok-insert, else-not-is_local}

pub loop-line-preserved : goal.loop-line-preserved
loop-line-preserved c =
    let e = take_more c.args.lines.now c.loop-line.line-index c.line-item.result c.loop-line-test.true in
    let more : take (c.loop-line.line-index + 1) c.args.lines.now ≡ take c.loop-line.line-index c.args.lines.now ++ c.line-item.result ∷ [] = rw (← c.line-item.is) at e in
    elim c.if-not-is_local.branch [
      | then-not-is_local+in_ok-passage_of+in_ok-insert w ↦ λ p. rw (w.passages-is, more)
          (line_added (take c.loop-line.line-index c.args.lines.now) c.line-item.result c.loop-line.passages.keys w.insert.new.self.keys
          (λ same. false≢true (w.if-not-is_local.ensures.1 same)) c.loop-line.invariant
          (passage_added c.loop-line.passages w.insert.new.self (shown_passage c.line-item.result)
          (let P : Passage → Type 0 = λ k. Updates passage_cmp c.loop-line.passages w.insert.new.self k true in subst P w.in_ok-passage_of.ensures w.in_ok-insert.ensures.updates)) p)
      | else-not-is_local w ↦ λ p. rw (w.passages-is, more)
          (line_passed_over (take c.loop-line.line-index c.args.lines.now) c.line-item.result c.loop-line.passages.keys (w.if-not-is_local.ensures.0 refl) c.loop-line.invariant p)
    ]

pub returns : goal.returns
returns c =
    let all : take c.loop-line.line-index c.args.lines.now ≡ c.args.lines.now = take_all c.loop-line.line-index c.args.lines.now (omega arith) in
    record {
      each = λ p.
          let P : List Line → Type 0 = λ ls. IsPassage ls p in
          let inv = c.loop-line.invariant p in
          let same = c.in_ok-listed.ensures.same p in
          (λ h. subst P all (inv.0 (same.0 h)), λ h. same.1 (inv.1 (subst P (sym all) h)));
      ordered = c.in_ok-listed.ensures.ordered;
    }
