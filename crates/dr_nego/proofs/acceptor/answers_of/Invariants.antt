use Rattle.std.proofs.Common.{◌≡◌, map, take}
use Rattle.dr_nego.specs.Answering.{answer_of, pairs_of}
use Rattle.dr_nego.proofs.acceptor.answers_of.Given as goal

abbrev pub invariant-loop-proposal : goal.invariant-loop-proposal
invariant-loop-proposal l = record {
  answers : l.answers ≡ map (answer_of l.rows l.caller) (take l.proposal-index l.proposals);
  pairs : l.pairs ≡ pairs_of l.rows l.caller (take l.proposal-index l.proposals);
}
