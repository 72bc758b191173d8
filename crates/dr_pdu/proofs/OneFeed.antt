-- A feeder has one answer to a piece, but for want of memory.
use Rattle.std.proofs.Common.{◌≡◌, ◌≢◌, ◌⊎◌, ℕ, List, [], ◌∷◌, ◌++◌, Bool, true, false, refl, sym, ap, subst, ◌∙◌, inl, inr, Result, Ok, Err}
use Rattle.dr_pdu.specs.declared.pdu.Pdu.{Pdu}
use Rattle.dr_pdu.specs.declared.fault.PduFault.{PduFault}
use Rattle.dr_pdu.specs.declared.fault.PduFault.TheVariants.{More, UnknownType, TooLong, BadItem, BadContextId, Memory, Failed}
use Rattle.dr_pdu.specs.Grammar.{Shows}
use Rattle.dr_pdu.specs.Feeding.{Units, Feeding, Feeds}
use Rattle.dr_pdu.proofs.CutLemmas.{one_longest}
use Rattle.dr_pdu.proofs.FeedLemmas.{excludes}
use Rattle.dr_pdu.proofs.OneAnswer.{one_fault}

abbrev Answer : Type 0
Answer = Result (List Pdu) PduFault

abbrev feeding : ℕ → Bool → List ℕ → Feeding
feeding limit failed kept = record { limit = limit; failed = failed; kept = kept }

-- what a feeder that hasn't failed answers
abbrev Gives : Feeding → List ℕ → Answer → Feeding → Type 0
Gives old text r new =
    ((pdus : List Pdu) × (r ≡ Ok pdus) × Units old.limit text pdus new.kept × (pdus ≡ [] → Shows old.limit new.kept More) × (new ≡ feeding old.limit false new.kept))
    ⊎ ((fault : PduFault) × (r ≡ Err fault) × (fault ≢ More) × (fault ≢ Memory) × Shows old.limit text fault × (new ≡ feeding old.limit true []))

gives : (old : Feeding) (piece : List ℕ) (r : Answer) (new : Feeding) → old.failed ≡ false → r ≢ Err Memory → Feeds old piece r new → Gives old (old.kept ++ piece) r new
gives old piece (Ok pdus) new ok other (e, units, more, failed, limit) =
    inl (pdus, refl, units, more, ap (λ (b : Bool). feeding new.limit b new.kept) failed ∙ ap (λ (l : ℕ). feeding l false new.kept) limit)
gives old piece (Err More) new ok other h = absurd h
gives old piece (Err Memory) new ok other h = absurd (other refl)
gives old piece (Err Failed) new ok other h = let e : false ≡ true = sym ok ∙ h.0 in absurd (cc)
gives old piece (Err UnknownType) new ok other h = inr (UnknownType, refl, (λ e. cc), (λ e. cc), h.1, h.2)
gives old piece (Err TooLong) new ok other h = inr (TooLong, refl, (λ e. cc), (λ e. cc), h.1, h.2)
gives old piece (Err BadItem) new ok other h = inr (BadItem, refl, (λ e. cc), (λ e. cc), h.1, h.2)
gives old piece (Err BadContextId) new ok other h = inr (BadContextId, refl, (λ e. cc), (λ e. cc), h.1, h.2)

-- where PDUs come out, or more is awaited, no fault stands in front
no_fault : (limit : ℕ) (text rest : List ℕ) (pdus : List Pdu) (fault : PduFault) → Units limit text pdus rest → (pdus ≡ [] → Shows limit rest More) → fault ≢ More → fault ≢ Memory → Shows limit text fault → ⊥
no_fault limit text rest [] fault units more a b shows =
    let here : Shows limit text More = subst (λ (t : List ℕ). Shows limit t More) (sym units.0) (more refl) in
    a (one_fault limit text fault More b (λ e. cc) shows here)
no_fault limit text rest (p ∷ ps) fault units more a b shows = excludes limit text fault shows b p units.0.0 units.0.1

both : (old : Feeding) (text : List ℕ) (r s : Answer) (new new' : Feeding) → Gives old text r new → Gives old text s new' → (r ≡ s) × (new ≡ new')
both old text r s new new' (inl (ps, e, units, more, is)) (inl (qs, e', units', more', is')) =
    let same = one_longest old.limit text ps qs new.kept new'.kept units units' in
    (e ∙ ap (λ (xs : List Pdu). let a : Answer = Ok xs in a) same.0 ∙ sym e', is ∙ ap (λ (k : List ℕ). feeding old.limit false k) same.1 ∙ sym is')
both old text r s new new' (inl (ps, e, units, more, is)) (inr (f, e', a, b, shows, is')) = absurd (no_fault old.limit text new.kept ps f units more a b shows)
both old text r s new new' (inr (f, e, a, b, shows, is)) (inl (qs, e', units', more', is')) = absurd (no_fault old.limit text new'.kept qs f units' more' a b shows)
both old text r s new new' (inr (f, e, a, b, shows, is)) (inr (g, e', a', b', shows', is')) =
    (e ∙ ap (λ (x : PduFault). let y : Answer = Err x in y) (one_fault old.limit text f g b b' shows shows') ∙ sym e', is ∙ sym is')

-- a feeder that has failed answers so
failed_gives : (old : Feeding) (piece : List ℕ) (r : Answer) (new : Feeding) → old.failed ≡ true → Feeds old piece r new → (r ≡ Err Failed) × (new ≡ old)
failed_gives old piece (Err Failed) new f h = (refl, h.1)
failed_gives old piece (Err More) new f h = absurd h
failed_gives old piece (Ok pdus) new f h = let e : true ≡ false = sym f ∙ h.0 in absurd (cc)
failed_gives old piece (Err Memory) new f h = let e : true ≡ false = sym f ∙ h.0 in absurd (cc)
failed_gives old piece (Err UnknownType) new f h = let e : true ≡ false = sym f ∙ h.0 in absurd (cc)
failed_gives old piece (Err TooLong) new f h = let e : true ≡ false = sym f ∙ h.0 in absurd (cc)
failed_gives old piece (Err BadItem) new f h = let e : true ≡ false = sym f ∙ h.0 in absurd (cc)
failed_gives old piece (Err BadContextId) new f h = let e : true ≡ false = sym f ∙ h.0 in absurd (cc)

pub one_feed : (old : Feeding) (piece : List ℕ) (r s : Answer) (new new' : Feeding) → r ≢ Err Memory → s ≢ Err Memory → Feeds old piece r new → Feeds old piece s new' → (r ≡ s) × (new ≡ new')
one_feed old piece r s new new' a b h h' = by_failed old.failed refl
  where
    by_failed : (t : Bool) → old.failed ≡ t → (r ≡ s) × (new ≡ new')
    by_failed true t =
        let one = failed_gives old piece r new t h in
        let two = failed_gives old piece s new' t h' in
        (one.0 ∙ sym two.0, one.1 ∙ sym two.1)
    by_failed false t = both old (old.kept ++ piece) r s new new' (gives old piece r new t a h) (gives old piece s new' t b h')
