use Rattle.std.proofs.Common.{◌≡◌, drop, take}
use Rattle.dr_word_adopt.specs.Changings.{IsChanged}
use Rattle.dr_base.specs.Lists.{Each}
use Rattle.dr_word_adopt.proofs.changing.change_all.Given as goal

-- those so far are changed, and all others weren't touched
abbrev pub invariant-loop-standing : goal.invariant-loop-standing
invariant-loop-standing g l = Each (IsChanged g.L.Ledger.site g.L.Ledger.book g.L.Ledger.stands l.next) (take l.standing-index l.fn.all) (take l.standing-index l.all)
    × (drop l.standing-index l.all ≡ drop l.standing-index l.fn.all)
