use Rattle.std.proofs.Common.{◌≡◌, ◌++◌, take, flat_map}
use Rattle.dr_word_json.specs.Documents.{part_of}
use Rattle.dr_word_json.proofs.document.put_bytes.Given as goal

abbrev pub invariant-loop-byte : goal.invariant-loop-byte
invariant-loop-byte l = l.out.items ≡ l.initial.out.items ++ flat_map part_of (take l.byte-index l.bytes)
