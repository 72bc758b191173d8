use Rattle.std.proofs.Common.{◌≡◌, All, List, length, refl, rules, subst, sym}
use Rattle.dr_word_adopt.specs.Changings.{IsChanged, MayChange, OnlyFirstAreChanged}
use Rattle.dr_base.specs.Lists.{Each}
use Rattle.dr_word_adopt.specs.declared.standing.Standing.{Standing}
use Rattle.dr_word_adopt.proofs.Stepping.{back}
use Rattle.dr_word_adopt.proofs.adopting.make_change.Goals as goal

pub change_all-requires : goal.change_all-requires
change_all-requires g c = subst (λ (zs : List (Standing g.row.L.Denot)). All (MayChange g.L.Ledger.site g.L.Ledger.book g.L.Ledger.stands c.args.next.now) zs) (sym c.as_mut_slice.ensures.value) c.requires

pub returns-in-Ok : goal.returns-in-Ok
returns-in-Ok g c =
    let same : length c.change_all.new.all ≡ length c.args.all.now.items = search rules in
    let long : length c.args.all.now.items ≡ c.args.all.now.len = search rules in (
      refl,
      subst (λ (zs : List (Standing g.row.L.Denot)). Each (IsChanged g.L.Ledger.site g.L.Ledger.book g.L.Ledger.stands c.args.next.now) c.args.all.now.items zs) (sym (back c.args.all.now.items c.change_all.new.all c.args.all.now.len same long))
          (subst (λ (zs : List (Standing g.row.L.Denot)). Each (IsChanged g.L.Ledger.site g.L.Ledger.book g.L.Ledger.stands c.args.next.now) zs c.change_all.new.all) c.as_mut_slice.ensures.value c.in-Ok.ensures),
    )

pub returns-in-Err : goal.returns-in-Err
returns-in-Err g c =
    let same : length c.change_all.new.all ≡ length c.args.all.now.items = search rules in
    let long : length c.args.all.now.items ≡ c.args.all.now.len = search rules in (
      c.in-Err.ensures.0,
      subst (λ (zs : List (Standing g.row.L.Denot)). OnlyFirstAreChanged g.L.Ledger.site g.L.Ledger.book g.L.Ledger.stands c.args.next.now c.args.all.now.items zs) (sym (back c.args.all.now.items c.change_all.new.all c.args.all.now.len same long))
          (subst (λ (zs : List (Standing g.row.L.Denot)). OnlyFirstAreChanged g.L.Ledger.site g.L.Ledger.book g.L.Ledger.stands c.args.next.now zs c.change_all.new.all) c.as_mut_slice.ensures.value c.in-Err.ensures.1),
    )
