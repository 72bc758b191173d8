-- What is said of the text that was read is said of what the input held.
use Rattle.std.proofs.Common.{◌≡◌, subst, ℕ, List, IfSome, Some, None}
use Rattle.std.specs.declared.option.Option.{Option}
use Rattle.dr_base.specs.Texts.{Text}
use Rattle.dr_certify.specs.Certified.{HasNoCertificate, Prints}

pub moved : (held : Option (List ℕ)) (text : Text) → IfSome held (λ bytes. text ≡ bytes) → HasNoCertificate text → IfSome held HasNoCertificate
moved None text same none = tt
moved (Some bytes) text same none = subst HasNoCertificate same none

-- and so is what is printed for it
pub printed : (held : Option (List ℕ)) (text : Text) (old new : Option (List ℕ)) → IfSome held (λ bytes. text ≡ bytes) → Prints text old new → IfSome held (λ bytes. Prints bytes old new)
printed None text old new same prints = tt
printed (Some bytes) text old new same prints =
    let P : Text → Type 0 = λ t. Prints t old new in
    subst P same prints
