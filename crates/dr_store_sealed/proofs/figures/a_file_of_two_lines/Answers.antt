use Rattle.std.proofs.Common.{◌≡◌, ◌∷◌, [], ◌++◌, codes, length, replicate, arith}
use Rattle.std.proofs.lemmas.List.{length-append}
use Rattle.dr_store_sealed.specs.Lines.{bytes_of, entry_of, next_chain}
use Rattle.dr_store_sealed.specs.Seals.{first_seal}
use Rattle.dr_store_sealed.proofs.LawLemmas.{entry_size}
use Rattle.dr_store_sealed.proofs.SealLemmas.{offset_in_first}
use Rattle.dr_store_sealed.proofs.figures.a_file_of_two_lines.Goals as goal

size : length (bytes_of (replicate 32 0) (codes "a" ∷ codes "bc" ∷ [])) ≡ 135
size =
    let first = replicate 32 0 in
    let second = next_chain first (codes "a") in
    omega (
      arith,
      entry_size first (codes "a"),
      entry_size second (codes "bc"),
      length-append (entry_of first (codes "a")) (entry_of second (codes "bc") ++ []),
      length-append (entry_of second (codes "bc")) [],
    )

pub returns-clause-size : goal.returns-clause-size
returns-clause-size c = size

pub returns-clause-offset : goal.returns-clause-offset
returns-clause-offset c = offset_in_first (codes "a") (codes "bc") (omega (arith, entry_size first_seal.chain (codes "a")))
    (omega (arith, entry_size first_seal.chain (codes "a"), entry_size (next_chain first_seal.chain (codes "a")) (codes "bc")))
