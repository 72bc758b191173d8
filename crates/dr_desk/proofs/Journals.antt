-- What the journal of a shared desk says when the sharing ends.
use Rattle.std.proofs.Common.{◌≡◌, ◌+◌, ◌≤◌, ℕ, List, All, refl, sym, ap, ◌∙◌, subst, take, length, arith}
use Rattle.std.proofs.Common.{map as mapped}
use Rattle.std.specs.List.{AllByRecursion, flat_map}
use Rattle.std.proofs.lemmas.List.{length-take, take_all}
use Rattle.dr_ledger.specs.declared.fault.LedgerFault.{LedgerFault}
use Rattle.dr_ledger.specs.declared.fault.LedgerFault.TheVariants as ledger
use Rattle.dr_ledger.specs.declared.item.Entry.{Entry}
use Rattle.dr_ledger.specs.Books.{Book, Line}
use Rattle.dr_ledger.specs.Histories.{IsJournalled}
use Rattle.dr_ledger.specs.Replies.{entry_of}
use Rattle.dr_ledger.specs.SiteRoutes.{site_routing}
use Rattle.dr_site.specs.Parts.{Part}
use Rattle.dr_desk.specs.declared.closing.AgreeFault.{AgreeFault}
use Rattle.dr_desk.specs.declared.closing.AgreeFault.TheVariants as agree
use Rattle.dr_desk.specs.declared.closing.CloseFault.{CloseFault}
use Rattle.dr_desk.specs.declared.closing.CloseFault.TheVariants as fault
use Rattle.dr_desk.specs.declared.closing.ReceiptMismatch.TheVariants.{Beginning, OtherLine, Falling, Twice}
use Rattle.dr_desk.specs.declared.receipt.Receipt.{Receipt}
use Rattle.dr_desk.specs.Agreeing.{AreApart, Fails, IsOfLine, Rises, numbers, unread_by}
use Rattle.dr_desk.specs.Paging.{Differs, unagreed_by}
use Rattle.dr_desk.specs.Growing.{BeginWith, Grows}

pub grows_by : (first : List Line) (before : ℕ) (old new : Book) (n : ℕ) → new ≡ old → Grows first before old.lines n → Grows first before new.lines n
grows_by first before old new n e g = let P : Book → Type 0 = λ b. Grows first before b.lines n in subst P (sym e) g

pub journalled_by : (site other : Part) (b : Book) → other ≡ site → ∥ IsJournalled (site_routing other) b ∥₁ → ∥ IsJournalled (site_routing site) b ∥₁
journalled_by site other b e j = let P : Part → Type 0 = λ s. ∥ IsJournalled (site_routing s) b ∥₁ in subst P e j

pub of_lines_by : {X : Type 0} (f : X → List Receipt) (xs ys : List X) (a b : List Entry) → xs ≡ ys → a ≡ b → AllByRecursion (λ x. All (IsOfLine a) (f x)) xs → AllByRecursion (λ x. All (IsOfLine b) (f x)) ys
of_lines_by {X} f xs ys a b same e h =
    let P : List X → List Entry → Type 0 = λ zs ls. AllByRecursion (λ x. All (IsOfLine ls) (f x)) zs in subst (λ zs. P zs b) same (subst (P xs) e h)

pub rise_by : {X : Type 0} (f : X → List Receipt) (xs ys : List X) → xs ≡ ys
    → AllByRecursion (λ x. Rises (f x)) xs → AllByRecursion (λ x. Rises (f x)) ys
rise_by {X} f xs ys same h =
    let P : List X → Type 0 = λ zs. AllByRecursion (λ x. Rises (f x)) zs in subst P same h

pub apart_by : {X : Type 0} (f : X → List Receipt) (xs ys : List X) → xs ≡ ys
    → AreApart (flat_map (λ x. numbers (f x)) xs) → AreApart (flat_map (λ x. numbers (f x)) ys)
apart_by {X} f xs ys same h =
    let P : List X → Type 0 = λ zs. AreApart (flat_map (λ x. numbers (f x)) zs) in subst P same h

pub unread_shows : (why : LedgerFault) (A B C D : Type 0) → Fails (unread_by why) A B C D
unread_shows ledger.Memory A B C D = tt
unread_shows ledger.Store A B C D = tt
unread_shows ledger.NoLine A B C D = tt
unread_shows ledger.Conflict A B C D = tt
unread_shows ledger.NotWaiting A B C D = tt
unread_shows ledger.NotHeld A B C D = tt
unread_shows ledger.NotOver A B C D = tt

pub unread_fails : (why : LedgerFault) (is : CloseFault) (A B C D : Type 0) → is ≡ unread_by why → Fails is A B C D
unread_fails why is A B C D e = let P : CloseFault → Type 0 = λ f. Fails f A B C D in subst P (sym e) (unread_shows why A B C D)

-- what fails of the lines and passes that were read fails of those that there are
pub fails_by : {X : Type 0} (f : X → List Receipt) (why : CloseFault) (A B : Type 0) (xs ys : List X) (a b : List Entry) → xs ≡ ys → a ≡ b → (B → A) →
    Fails why A (AllByRecursion (λ x. All (IsOfLine a) (f x)) xs) (AllByRecursion (λ x. Rises (f x)) xs) (AreApart (flat_map (λ x. numbers (f x)) xs)) →
    Fails why B (AllByRecursion (λ x. All (IsOfLine b) (f x)) ys) (AllByRecursion (λ x. Rises (f x)) ys) (AreApart (flat_map (λ x. numbers (f x)) ys))
fails_by {X} f why A B xs ys a b same read begins h =
    let P : List X → List Entry → Type 0 = λ zs ls. Fails why B (AllByRecursion (λ x. All (IsOfLine ls) (f x)) zs) (AllByRecursion (λ x. Rises (f x)) zs) (AreApart (flat_map (λ x. numbers (f x)) zs)) in
    subst (λ zs. P zs b) same (subst (P xs) read (begun _ _ _ why h))
  where
    begun : (O C D : Type 0) (w : CloseFault) → Fails w A O C D → Fails w B O C D
    begun O C D (fault.Receipt Beginning) n = λ b. n (begins b)
    begun O C D (fault.Receipt OtherLine) n = n
    begun O C D (fault.Receipt Falling) n = n
    begun O C D (fault.Receipt Twice) n = n
    begun O C D fault.Store n = tt
    begun O C D fault.Memory n = tt

-- why a sharing doesn't end, as it is told of receipts that weren't found to agree
pub ends_by : {X : Type 0} (f : X → List Receipt) (why : AgreeFault) (is : CloseFault) (A B : Type 0) (xs ys : List X) (a : List Entry) → is ≡ unagreed_by why → xs ≡ ys → (B → A) →
    Differs why A (AllByRecursion (λ x. All (IsOfLine a) (f x)) xs) (AllByRecursion (λ x. Rises (f x)) xs) (AreApart (flat_map (λ x. numbers (f x)) xs)) →
    Fails is B (AllByRecursion (λ x. All (IsOfLine a) (f x)) ys) (AllByRecursion (λ x. Rises (f x)) ys) (AreApart (flat_map (λ x. numbers (f x)) ys))
ends_by {X} f (agree.Read why) is A B xs ys a told same begins h = unread_fails why is _ _ _ _ told
ends_by {X} f (agree.Close why) is A B xs ys a told same begins h =
    let P : CloseFault → Type 0 = λ w. Fails w B (AllByRecursion (λ x. All (IsOfLine a) (f x)) ys) (AllByRecursion (λ x. Rises (f x)) ys) (AreApart (flat_map (λ x. numbers (f x)) ys)) in
    subst P (sym told) (fails_by f why A B xs ys a a same refl begins h)

-- where the journal begins with the first lines, it has no fewer
pub no_fewer : (first ls : List Line) (before : ℕ) → before ≡ length first → BeginWith first ls → before ≤ length ls
no_fewer first ls before k h =
    let some : length (take (length first) ls) ≡ length first = ap length h in
    let least = length-take (length first) ls in omega (arith, k, some, least)

pub at_most : (first : List Line) (before : ℕ) (ls : List Line) (n total sum : ℕ) → Grows first before ls n → before + total ≡ n → sum ≤ total → length first + sum ≤ length ls
at_most first before ls n total sum g t less =
    let k : before ≡ length first = g.1 in
    let l : length ls ≡ n = g.2 in omega arith

pub just : (first : List Line) (before : ℕ) (ls : List Line) (n total sum : ℕ) → Grows first before ls n → before + total ≡ n → sum ≡ total → length first + sum ≡ length ls
just first before ls n total sum g t same =
    let k : before ≡ length first = g.1 in
    let l : length ls ≡ n = g.2 in omega arith

-- the journal of a desk that is being shared
pub starts : (first : List Line) (old new : Book) (n : ℕ) → first ≡ old.lines → new ≡ old → n ≡ length old.lines → Grows first n new.lines n
starts first old new n f e l =
    let here : new.lines ≡ first = ap (λ (b : Book). b.lines) e ∙ sym f in
    let long : n ≡ length first = l ∙ ap length (sym f) in
    (ap (take (length first)) here ∙ take_all (length first) first (omega arith), long, ap length here ∙ sym long)
