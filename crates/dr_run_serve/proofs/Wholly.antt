-- Pages of one journal are its lines, from the first one on.
use Rattle.std.proofs.Common.{◌≡◌, ◌∙◌, ap, sym, subst, refl, arith, inl, inr, ℕ, ◌<◌, ◌+◌, ◌^◌, ◌++◌, List, [], ◌∷◌, Bool, true, false, length, take, drop, Result, Ok, Err}
use Rattle.std.proofs.Math.Nat.{min-eq_left}
use Rattle.std.proofs.lemmas.List.{append-nil, append_assoc, length-append, take-append-drop}
use Rattle.dr_ledger.specs.declared.fault.LedgerFault.{LedgerFault}
use Rattle.dr_ledger_history.specs.declared.line.JournalLine.{JournalLine}
use Rattle.dr_run_answer.specs.Journals.{next_number}
use Rattle.dr_run_serve.specs.Laws.{BeginningsAreRead, TellsOf, TheWholeIsRead}
use Rattle.dr_run_serve.specs.Pasts.{ArePages, ReadsOn, counted_from, joined}

counted_is : (n : ℕ) (xs : List JournalLine) → n + length xs < 2 ^ 63 → counted_from n xs ≡ n + length xs
counted_is n [] small = omega arith
counted_is n (x ∷ xs) small =
    let next : next_number n ≡ n + 1 = min-eq_left (omega (arith, small)) in
    let more : n + 1 + length xs < 2 ^ 63 = omega (arith, small) in
    ap (λ m. counted_from m xs) next ∙ counted_is (n + 1) xs more ∙ omega arith

behind : (front rest : List JournalLine) → drop (length front) (front ++ rest) ≡ rest
behind [] rest = refl
behind (x ∷ xs) rest = behind xs rest

module _ (lines : List JournalLine) (small : length lines < 2 ^ 63) where
  short : (front rest : List JournalLine) → lines ≡ front ++ rest → length front < 2 ^ 63
  short front rest is = let count : length lines ≡ length front + length rest = ap length is ∙ length-append front rest in omega (arith, count, small)

  -- what is told behind some first lines are the next ones
  told_next : (front rest page : List JournalLine) → lines ≡ front ++ rest → page ≡ take 256 (drop (length front) lines) → page ≡ take 256 rest
  told_next front rest page is told =
      told ∙ ap (λ (ls : List JournalLine). take 256 (drop (length front) ls)) is ∙ ap (λ (ls : List JournalLine). take 256 ls) (behind front rest)

  with_page : (front rest page : List JournalLine) → lines ≡ front ++ rest → page ≡ take 256 rest → lines ≡ front ++ page ++ drop 256 rest
  with_page front rest page is told =
      let whole : rest ≡ page ++ drop 256 rest = sym (take-append-drop 256 rest) ∙ ap (λ (ls : List JournalLine). ls ++ drop 256 rest) (sym told) in
      is ∙ ap (λ (ls : List JournalLine). front ++ ls) whole ∙ sym (append_assoc front page (drop 256 rest))

  counted_at : (front page rest : List JournalLine) → lines ≡ front ++ page ++ rest → counted_from (length front) page ≡ length (front ++ page)
  counted_at front page rest is =
      let e : length (front ++ page) ≡ length front + length page = length-append front page in
      let few : length (front ++ page) < 2 ^ 63 = short (front ++ page) rest is in
      counted_is (length front) page (subst (λ n. n < 2 ^ 63) e few) ∙ sym e

  pages_are : (front rest : List JournalLine) (pages : List (List JournalLine)) → lines ≡ front ++ rest → ArePages (TellsOf lines) (length front) pages
      → (more : List JournalLine) × (lines ≡ front ++ joined pages ++ more) × (counted_from (length front) (joined pages) ≡ length (front ++ joined pages))
  pages_are front rest [] is h =
      let e : front ++ [] ≡ front = append-nil front in
      (rest, is ∙ ap (λ (ls : List JournalLine). ls ++ rest) (sym e), ap length (sym e))
  pages_are front rest (page ∷ pages) is h =
      let told : page ≡ take 256 rest = told_next front rest page is h.0.1 in
      let split : lines ≡ front ++ page ++ drop 256 rest = with_page front rest page is told in
      let count : counted_from (length front) page ≡ length (front ++ page) = counted_at front page (drop 256 rest) split in
      let later = pages_are (front ++ page) (drop 256 rest) pages split (subst (λ n. ArePages (TellsOf lines) n pages) count h.1) in
      let e : front ++ page ++ joined pages ≡ front ++ joined (page ∷ pages) = append_assoc front page (joined pages) in
      let all : lines ≡ front ++ joined (page ∷ pages) ++ later.0 = later.1 ∙ ap (λ (ls : List JournalLine). ls ++ later.0) e in
      (later.0, all, counted_at front (joined (page ∷ pages)) later.0 all)

  pages_of : (pages : List (List JournalLine)) → ArePages (TellsOf lines) 0 pages
      → (more : List JournalLine) × (lines ≡ joined pages ++ more) × (counted_from 0 (joined pages) ≡ length (joined pages))
  pages_of pages h = pages_are [] lines pages refl h

  -- what a page begins with that is told behind them
  next_begins : (front rest some later : List JournalLine) → lines ≡ front ++ rest → some ++ later ≡ take 256 (drop (length front) lines) → (more : List JournalLine) × (lines ≡ front ++ some ++ more)
  next_begins front rest some later is told =
      let page = some ++ later in
      let split : lines ≡ front ++ page ++ drop 256 rest = with_page front rest page is (told_next front rest page is told) in
      (later ++ drop 256 rest, split ∙ append_assoc front page (drop 256 rest) ∙ ap (λ (ls : List JournalLine). front ++ ls) (append_assoc some later (drop 256 rest)) ∙ sym (append_assoc front some (later ++ drop 256 rest)))

  none_more : (front rest last more : List JournalLine) → lines ≡ front ++ rest → more ≡ front ++ last → last ≡ [] → lines ≡ more ++ rest
  none_more front rest last more is are none =
      let e : more ≡ front = are ∙ ap (λ (ls : List JournalLine). front ++ ls) none ∙ append-nil front in
      is ∙ ap (λ (ls : List JournalLine). ls ++ rest) (sym e)

  begins : (result : Result Bool LedgerFault) (more : List JournalLine) → ReadsOn (TellsOf lines) 0 result more → (rest : List JournalLine) × (lines ≡ more ++ rest)
  begins (Ok true) more h = let p = pages_of h.0 h.2 in (p.0, none_more (joined h.0) p.0 h.1 more p.1 h.4 h.5.0)
  begins (Ok false) more h = let p = pages_of h.0 h.2 in (p.0, none_more (joined h.0) p.0 h.1 more p.1 h.4 h.5.0)
  begins (Err why) more h =
      let p = pages_of h.0 h.2 in
      elim h.5 [
        | inl none ↦ (p.0, none_more (joined h.0) p.0 h.1 more p.1 h.4 none.0)
        | inr some ↦
            let next = next_begins (joined h.0) p.0 h.1 some.0 p.1 (subst (λ n. TellsOf lines n (Ok (h.1 ++ some.0))) p.2 some.2) in
            (next.0, next.1 ∙ ap (λ (ls : List JournalLine). ls ++ next.0) (sym h.4))
      ]

  nothing_left : (rest : List JournalLine) → [] ≡ take 256 rest → rest ≡ []
  nothing_left [] e = refl
  nothing_left (x ∷ xs) e = absurd (let short : 0 ≡ length (take 256 (x ∷ xs)) = ap length e in omega (arith, short))

  whole : (more : List JournalLine) → ReadsOn (TellsOf lines) 0 (Ok true) more → more ≡ lines
  whole more h =
      let p = pages_of h.0 h.2 in
      let last : [] ≡ take 256 p.0 = told_next (joined h.0) p.0 [] p.1 (subst (λ n. TellsOf lines n (Ok [])) p.2 h.5.1) in
      let is : lines ≡ more ++ p.0 = none_more (joined h.0) p.0 h.1 more p.1 h.4 h.5.0 in
      sym (is ∙ ap (λ (ls : List JournalLine). more ++ ls) (nothing_left p.0 last) ∙ append-nil more)

pub beginnings_are_read : BeginningsAreRead
beginnings_are_read lines more result small h = begins lines small result more h

pub the_whole_is_read : TheWholeIsRead
the_whole_is_read lines more small h = whole lines small more h
