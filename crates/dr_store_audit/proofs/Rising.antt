-- Goals in the order of their lines are found to be.
use Rattle.std.proofs.Common.{◌≡◌, ◌+◌, Bool, true, false, leb, List, refl, sym, ◌∙◌, arith, true≢false}
use Rattle.std.proofs.Common.{[], le-leb}
use Rattle.std.specs.List.{IsAllAdjacentAnswer}
use Rattle.dr_store_lists.specs.Lists.{Goal}
use Rattle.dr_store_audit.specs.Goals.{AreByLine}

pub said_of_all : (goals : List Goal) (said : Bool) → IsAllAdjacentAnswer (λ (x y : Goal) b. b ≡ leb x.0 y.0) goals said → AreByLine goals → said ≡ true
said_of_all goals true answer by_line = refl
said_of_all goals false answer by_line =
    let d : Goal = (0, []) in
    let le = by_line answer.0 (answer.0 + 1) d (omega arith) answer.1 in
    absurd (true≢false (sym (le-leb _ _ le) ∙ sym (answer.2 d)))
