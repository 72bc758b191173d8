-- Receipts that are compared with a journal by pages of its lines.
use Rattle.std.proofs.Common.{◌≡◌, ◌⊎◌, inl, inr, ℕ, zero, suc, ◌+◌, ◌-◌, ◌<◌, ◌≤◌, ◌++◌, List, [], ◌∷◌, All, Contains, Option, None, Some, length, take, drop, slice_get, map as mapped, refl, sym, ap, subst, ◌∙◌, ⊎_elim, arith}
use Rattle.std.specs.List.{AllByRecursion, flat_map}
use Rattle.std.proofs.lemmas.List.Elements.{All-push, Contains-append_cases, Contains-append_left, Contains-push, Contains-push_cases}
use Rattle.std.proofs.lemmas.Option.{same_Some}
use Rattle.dr_ledger.specs.declared.item.Entry.{Entry}
use Rattle.dr_ledger.specs.Books.{Book, Line}
use Rattle.dr_ledger.specs.Replies.{entry_of}
use Rattle.dr_ledger_history.specs.Lines.{line_of}
use Rattle.dr_ledger_history.specs.declared.line.JournalLine.{JournalLine}
use Rattle.dr_ledger_views.specs.Numbers.{AreBehind, HaveNumbers, last_of}
use Rattle.dr_ledger_views.proofs.Numbered.{are_next}
use Rattle.dr_desk.specs.declared.closing.AgreeFault.{AgreeFault}
use Rattle.dr_desk.specs.declared.closing.AgreeFault.TheVariants as agree
use Rattle.dr_desk.specs.declared.closing.CloseFault.{CloseFault}
use Rattle.dr_desk.specs.declared.closing.CloseFault.TheVariants as close
use Rattle.dr_desk.specs.declared.closing.ReceiptMismatch.TheVariants.{OtherLine}
use Rattle.dr_desk.specs.declared.receipt.Receipt.{Receipt}
use Rattle.dr_desk.specs.Agreeing.{Fails, IsOfLine, numbers}
use Rattle.dr_desk.specs.Paging.{AgreesWith, Differs, IsLeastFrom, IsOfLineWithin}
use Rattle.dr_desk.specs.Receipts.{Records}

-- ---- what stands at a place of a list

module _ {X : Type 0} where
  within : (xs : List X) (i : ℕ) (x : X) → slice_get xs i ≡ Some x → i < length xs
  within [] i x at = let f : ⊥ = cc in absurd f
  within (y ∷ xs) zero x at = omega arith
  within (y ∷ xs) (suc i) x at = let it = within xs i x at in omega (arith, it)

  there : (xs : List X) (i : ℕ) → i < length xs → (x : X) × (slice_get xs i ≡ Some x)
  there [] i below = absurd (omega (arith, below))
  there (x ∷ xs) zero below = (x, refl)
  there (x ∷ xs) (suc i) below = there xs i (omega (arith, below))

  of_taken : (n i : ℕ) (xs : List X) (x : X) → slice_get (take n xs) i ≡ Some x → slice_get xs i ≡ Some x
  of_taken zero i xs x at = let f : ⊥ = cc in absurd f
  of_taken (suc n) i [] x at = at
  of_taken (suc n) zero (y ∷ xs) x at = at
  of_taken (suc n) (suc i) (y ∷ xs) x at = of_taken n i xs x at

  of_dropped : (a i j : ℕ) (xs : List X) → j ≡ a + i → slice_get (drop a xs) i ≡ slice_get xs j
  of_dropped zero i j xs is = let same : i ≡ j = omega (arith, is) in ap (λ (k : ℕ). slice_get xs k) same
  of_dropped (suc a) i j [] is = refl
  of_dropped (suc a) i zero (x ∷ xs) is = absurd (omega (arith, is))
  of_dropped (suc a) i (suc j) (x ∷ xs) is = of_dropped a i j xs (omega (arith, is))

  of_mapped : {Y : Type 0} (f : X → Y) (xs : List X) (i : ℕ) (x : X) → slice_get xs i ≡ Some x → slice_get (mapped f xs) i ≡ Some (f x)
  of_mapped f [] i x at = let g : ⊥ = cc in absurd g
  of_mapped f (y ∷ xs) zero x at = ap (λ z. Some (f z)) (same_Some y x at)
  of_mapped f (y ∷ xs) (suc i) x at = of_mapped f xs i x at

-- ---- a page of the journal

module _ (lines : List Line) (all : List (ℕ × Line)) (after limit : ℕ) (page : List JournalLine) (have : HaveNumbers lines all) (behind : AreBehind after limit all (mapped line_of page)) where
  page_line : (i j : ℕ) (line : JournalLine) → j ≡ after + i → slice_get page i ≡ Some line → slice_get (mapped entry_of lines) j ≡ Some (entry_of (line_of line))
  page_line i j line is at =
      let n = last_of after limit - after in
      let next : mapped line_of page ≡ take n (drop after lines) = are_next lines all after limit (mapped line_of page) have behind in
      let here : slice_get (take n (drop after lines)) i ≡ Some (line_of line) = ap (λ (ls : List Line). slice_get ls i) (sym next) ∙ of_mapped line_of page i line at in
      of_mapped entry_of lines j (line_of line) (sym (of_dropped after i j lines is) ∙ of_taken n i (drop after lines) (line_of line) here)

  agrees : (r : Receipt) → IsOfLine (mapped entry_of lines) r → AgreesWith after page r
  agrees r of line above at =
      let is = page_line (r.number - after - 1) (r.number - 1) line (omega (arith, above)) at in
      let same : of.line ≡ entry_of (line_of line) = same_Some of.line (entry_of (line_of line)) (sym of.stands ∙ is) in
      subst (λ (e : Entry). Records e r.call r.reply) same of.records

  is_of : (r : Receipt) → AgreesWith after page r → after < r.number → r.number ≤ after + length page → IsOfLine (mapped entry_of lines) r
  is_of r with_page above below =
      let i = r.number - after - 1 in
      let found = there page i (omega (arith, above, below)) in
      record {
        line = entry_of (line_of found.0);
        counted = omega (arith, above);
        stands = page_line i (r.number - 1) found.0 (omega (arith, above)) found.1;
        records = with_page found.0 above found.1;
      }

-- ---- the receipts of all passes

side : (n from : ℕ) → (n < from) ⊎ (from ≤ n)
side n zero = inr (omega arith)
side zero (suc from) = inl (omega arith)
side (suc n) (suc from) = ⊎_elim (λ below. inl (omega (arith, below))) (λ above. inr (omega (arith, above))) (side n from)

module _ {X : Type 0} (receipts : X → List Receipt) where
  each : (P Q : Receipt → Type 0) → ((r : Receipt) → P r → Q r) → (xs : List X) → AllByRecursion (λ x. All P (receipts x)) xs → AllByRecursion (λ x. All Q (receipts x)) xs
  each P Q go [] h = tt
  each P Q go (x ∷ xs) h = (λ k d below. go _ (h.0 k d below), each P Q go xs h.1)

  both : (P Q R : Receipt → Type 0) → ((r : Receipt) → P r → Q r → R r) → (xs : List X) → AllByRecursion (λ x. All P (receipts x)) xs → AllByRecursion (λ x. All Q (receipts x)) xs → AllByRecursion (λ x. All R (receipts x)) xs
  both P Q R go [] h k = tt
  both P Q R go (x ∷ xs) h k = (λ i d below. go _ (h.0 i d below) (k.0 i d below), both P Q R go xs h.1 k.1)

  -- the page's lines are those of the journal: so receipts of these agree with it
  pub all_agree : (lines : List Line) (all : List (ℕ × Line)) (after limit : ℕ) (page : List JournalLine) → HaveNumbers lines all → AreBehind after limit all (mapped line_of page)
      → (xs : List X) → AllByRecursion (λ x. All (IsOfLine (mapped entry_of lines)) (receipts x)) xs → AllByRecursion (λ x. All (AgreesWith after page) (receipts x)) xs
  all_agree lines all after limit page have behind xs of =
      each (IsOfLine (mapped entry_of lines)) (AgreesWith after page) (agrees lines all after limit page have behind) xs of

  -- the same of the journal as it is behind the reading, and of the page as it was compared
  pub page_agrees : (old new : Book) (all : List (ℕ × Line)) (after limit : ℕ) (page shown : List JournalLine) (xs : List X)
      → new ≡ old → HaveNumbers old.lines all → AreBehind after limit all (mapped line_of page) → shown ≡ page
      → AllByRecursion (λ x. All (IsOfLine (mapped entry_of new.lines)) (receipts x)) xs → AllByRecursion (λ x. All (AgreesWith after shown) (receipts x)) xs
  page_agrees old new all after limit page shown xs same have behind is of =
      subst (λ (ls : List JournalLine). AllByRecursion (λ x. All (AgreesWith after ls) (receipts x)) xs) (sym is)
      (all_agree old.lines all after limit page have behind xs
      (subst (λ (b : Book). AllByRecursion (λ x. All (IsOfLine (mapped entry_of b.lines)) (receipts x)) xs) same of))

  -- and those that agree with it are of the lines that it has
  pub all_within : (lines : List Line) (all : List (ℕ × Line)) (next from limit : ℕ) (page : List JournalLine) → 1 ≤ next → from ≡ next + length page → HaveNumbers lines all → AreBehind (next - 1) limit all (mapped line_of page)
      → (xs : List X) → AllByRecursion (λ x. All (AgreesWith (next - 1) page) (receipts x)) xs → AllByRecursion (λ x. All (IsOfLineWithin next from (mapped entry_of lines)) (receipts x)) xs
  all_within lines all next from limit page one is have behind xs agree =
      each (AgreesWith (next - 1) page) (IsOfLineWithin next from (mapped entry_of lines)) (λ r with_page low high. is_of lines all (next - 1) limit page have behind r with_page (omega (arith, one, low)) (omega (arith, one, is, high))) xs agree

  pub page_within : (old new : Book) (all : List (ℕ × Line)) (next from limit : ℕ) (page shown whole : List JournalLine) (xs : List X)
      → new ≡ old → 1 ≤ next → from ≡ next + length whole → HaveNumbers old.lines all → AreBehind (next - 1) limit all (mapped line_of page) → shown ≡ page → whole ≡ page
      → AllByRecursion (λ x. All (AgreesWith (next - 1) shown) (receipts x)) xs → AllByRecursion (λ x. All (IsOfLineWithin next from (mapped entry_of new.lines)) (receipts x)) xs
  page_within old new all next from limit page shown whole xs same one is have behind seen so agree =
      subst (λ (b : Book). AllByRecursion (λ x. All (IsOfLineWithin next from (mapped entry_of b.lines)) (receipts x)) xs) (sym same)
      (all_within old.lines all next from limit page one (is ∙ ap (λ (ls : List JournalLine). next + length ls) so) have behind xs
      (subst (λ (ls : List JournalLine). AllByRecursion (λ x. All (AgreesWith (next - 1) ls) (receipts x)) xs) seen agree))

  spread_one : (P : ℕ → Type 0) (rs : List Receipt) (ns : List ℕ) → All P (numbers rs ++ ns) → All (λ (r : Receipt). P r.number) rs × All P ns
  spread_one P [] ns h = ((λ k d below. absurd (omega (arith, below))), h)
  spread_one P (r ∷ rs) ns h =
      let rest = spread_one P rs ns (λ k d below. h (suc k) d (omega (arith, below))) in
      (first rest.0, rest.1)
    where
      first : All (λ (s : Receipt). P s.number) rs → All (λ (s : Receipt). P s.number) (r ∷ rs)
      first more zero d below = h 0 0 (omega arith)
      first more (suc k) d below = more k d (omega (arith, below))

  -- what holds of all numbers holds of each receipt's
  spread : (P : ℕ → Type 0) (xs : List X) → All P (flat_map (λ x. numbers (receipts x)) xs) → AllByRecursion (λ x. All (λ (r : Receipt). P r.number) (receipts x)) xs
  spread P [] h = tt
  spread P (x ∷ xs) h =
      let parts = spread_one P (receipts x) (flat_map (λ y. numbers (receipts y)) xs) h in
      (parts.0, spread P xs parts.1)

  pub begins : (lines : List Entry) (xs : List X) → AllByRecursion (λ x. All (IsOfLineWithin 0 0 lines) (receipts x)) xs
  begins lines [] = tt
  begins lines (x ∷ xs) = (λ k d below low high. absurd (omega (arith, high)), begins lines xs)

  -- no number lies between those that were compared and those of the page
  pub goes_on : (lines : List Entry) (from next behind : ℕ) (xs : List X) → All (λ n. from ≤ n → next ≤ n) (flat_map (λ x. numbers (receipts x)) xs)
      → AllByRecursion (λ x. All (IsOfLineWithin 0 from lines) (receipts x)) xs → AllByRecursion (λ x. All (IsOfLineWithin next behind lines) (receipts x)) xs
      → AllByRecursion (λ x. All (IsOfLineWithin 0 behind lines) (receipts x)) xs
  goes_on lines from next behind xs least so_far here =
      let Step : ℕ → Type 0 = λ n. from ≤ n → next ≤ n in
      let Had : Receipt → Type 0 = IsOfLineWithin 0 from lines in
      let Has : Receipt → Type 0 = IsOfLineWithin next behind lines in
      let Parts : Receipt → Type 0 = λ r. Had r × Has r in
      both (λ r. Step r.number) Parts (IsOfLineWithin 0 behind lines) (λ r step parts low high. one r step parts.0 parts.1 high (side r.number from)) xs (spread Step xs least)
      (both Had Has Parts (λ r a b. (a, b)) xs so_far here)
    where
      one : (r : Receipt) → (from ≤ r.number → next ≤ r.number) → IsOfLineWithin 0 from lines r → IsOfLineWithin next behind lines r → r.number < behind → (r.number < from) ⊎ (from ≤ r.number) → IsOfLine lines r
      one r step a b high (inl lower) = a (omega arith) lower
      one r step a b high (inr higher) = b (step higher) high

  pub ends : (lines : List Entry) (from : ℕ) (xs : List X) → All (λ n. n < from) (flat_map (λ x. numbers (receipts x)) xs)
      → AllByRecursion (λ x. All (IsOfLineWithin 0 from lines) (receipts x)) xs → AllByRecursion (λ x. All (IsOfLine lines) (receipts x)) xs
  ends lines from xs below so_far =
      let Below : ℕ → Type 0 = λ n. n < from in
      both (λ r. Below r.number) (IsOfLineWithin 0 from lines) (IsOfLine lines) (λ r low of. of (omega arith) low) xs (spread Below xs below) so_far

  counted_one : (lines : List Entry) (rs : List Receipt) → All (IsOfLine lines) rs → (n : ℕ) → Contains (numbers rs) n → (1 ≤ n) × (n ≤ length lines)
  counted_one lines [] of n h = absurd (omega (arith, h.1))
  counted_one lines (r ∷ rs) of n (zero, below, is) =
      let own = of 0 r (omega arith) in
      let number : r.number ≡ n = is in
      let fits = within lines (r.number - 1) own.line own.stands in
      (omega (arith, own.counted, number), omega (arith, own.counted, number, fits))
  counted_one lines (r ∷ rs) of n (suc k, below, is) = counted_one lines rs (λ j d lt. of (suc j) d (omega (arith, lt))) n (k, omega (arith, below), is)

  -- receipts of lines have the numbers of lines
  pub counted : (lines : List Entry) (xs : List X) → AllByRecursion (λ x. All (IsOfLine lines) (receipts x)) xs → (n : ℕ) → Contains (flat_map (λ x. numbers (receipts x)) xs) n → (1 ≤ n) × (n ≤ length lines)
  counted lines [] of n h = absurd (omega (arith, h.1))
  counted lines (x ∷ xs) of n h =
      ⊎_elim (λ own. counted_one lines (receipts x) of.0 n own) (λ other. counted lines xs of.1 n other)
      (Contains-append_cases (numbers (receipts x)) (flat_map (λ y. numbers (receipts y)) xs) n h)

-- ---- the least number

abbrev NoLess : ℕ → ℕ → ℕ → Type 0
NoLess from least n = from ≤ n → least ≤ n

pub passed_over : (from number : ℕ) (all : List ℕ) (o : Option ℕ) → number < from → IsLeastFrom from all o → IsLeastFrom from (all ++ number ∷ []) o
passed_over from number all None low h = All-push (λ n. n < from) all number h low
passed_over from number all (Some n) low h = (h.0, Contains-append_left all (number ∷ []) n h.1, All-push (NoLess from n) all number h.2 (λ high. absurd (omega (arith, low, high))))

pub first_one : (from number : ℕ) (all : List ℕ) → from ≤ number → IsLeastFrom from all None → IsLeastFrom from (all ++ number ∷ []) (Some number)
first_one from number all high h = (high, Contains-push all number, All-push (NoLess from number) all number (λ k d below low. absurd (let it = h k d below in omega (arith, it, low))) (λ low. omega arith))

pub less_one : (from number other : ℕ) (all : List ℕ) → from ≤ number → number < other → IsLeastFrom from all (Some other) → IsLeastFrom from (all ++ number ∷ []) (Some number)
less_one from number other all high less h = (high, Contains-push all number, All-push (NoLess from number) all number (λ k d below low. let it = h.2 k d below low in omega (arith, it, less)) (λ low. omega arith))

pub no_less : (from number other : ℕ) (all : List ℕ) → other ≤ number → IsLeastFrom from all (Some other) → IsLeastFrom from (all ++ number ∷ []) (Some other)
no_less from number other all less h = (h.0, Contains-append_left all (number ∷ []) other h.1, All-push (NoLess from other) all number h.2 (λ low. less))

-- ---- what is said of a comparison that fails

pub other_line : (why : AgreeFault) (Begins Of Rise Apart : Type 0) → why ≡ agree.Close (close.Receipt OtherLine) → (Of → ⊥) → Differs why Begins Of Rise Apart
other_line why Begins Of Rise Apart is none = let P : AgreeFault → Type 0 = λ w. Differs w Begins Of Rise Apart in subst P (sym is) none

pub fails_of : (w : AgreeFault) (why : CloseFault) (Begins Of Rise Apart : Type 0) → w ≡ agree.Close why → Differs w Begins Of Rise Apart → Fails why Begins Of Rise Apart
fails_of w why Begins Of Rise Apart is h = let P : AgreeFault → Type 0 = λ x. Differs x Begins Of Rise Apart in subst P is h
