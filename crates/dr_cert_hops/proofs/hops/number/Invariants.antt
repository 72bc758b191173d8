use Rattle.std.proofs.Common.{◌≡◌, ℕ, ◌≤◌, ◌++◌, [], take, drop}
use Rattle.dr_base.specs.Texts.{Text}
use Rattle.dr_cert_hops.specs.declared.hops.Passage.{Passage}
use Rattle.dr_cert_hops.specs.Numbering.{counted, count_over, numbered_after}
use Rattle.dr_cert_hops.proofs.hops.number.Given as goal

abbrev pub invariant-loop-passage : goal.invariant-loop-passage
invariant-loop-passage l = record {
  counts : (p : Passage) → counted l.counts p ≡ count_over p.from p.to (take l.passage-index l.passages);
  hops : l.hops.items ++ numbered_after (take l.passage-index l.passages) (drop l.passage-index l.passages) ≡ numbered_after [] l.passages;
  few : (a b : Text) → count_over a b (take l.passage-index l.passages) ≤ 128;
}
