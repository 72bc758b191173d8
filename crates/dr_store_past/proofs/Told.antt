-- Texts of lines in a row, and what they say.
use Rattle.std.proofs.Common.{◌≡◌, ◌+◌, ◌^◌, ◌<◌, ◌≤◌, ℕ, zero, suc, List, [], ◌∷◌, ◌++◌, length, take, drop}
use Rattle.std.proofs.Common.{All, None, Option, slice_index_or, refl, sym, ◌∙◌, ap, subst, arith, length-take, map as mapped}
use Rattle.std.proofs.lemmas.List.{append_assoc, get_or_default, map-append, take-map, take_all, take_more}
use Rattle.std.proofs.lemmas.List.Elements.{All-head, All-tail, All-cons, All-nil, All-push}
use Rattle.dr_ledger.specs.declared.item.Instance.{Instance}
use Rattle.dr_ledger.specs.Books.{Line}
use Rattle.dr_ledger_history.specs.declared.line.JournalLine.{JournalLine}
use Rattle.dr_ledger_history.specs.declared.line.JournalLine.TheVariants as told
use Rattle.dr_ledger_history.specs.Lines.{line_of, lines_of}
use Rattle.dr_ledger_text.specs.Laws.{FitsInstance, FitsLine, IsSealable, TextsAreOfOneLine}
use Rattle.dr_ledger_text.specs.Lines.{sealed_text}
use Rattle.dr_ledger_read.specs.Reading.{IsTextOf}
use Rattle.dr_ledger_read.specs.Held.{IsHeldItem, IsHeldLine}
use Rattle.dr_ledger_read.specs.Laws.{ATextIsReadInOneWay}
use Rattle.dr_store_sealed.specs.declared.fault.SealFault.TheVariants as fault
use Rattle.dr_store_past.specs.declared.fault.PastFault.{PastFault}
use Rattle.dr_store_past.specs.declared.fault.PastFault.TheVariants as reason
use Rattle.dr_store_past.specs.declared.lines.PastLine.{PastLine}
use Rattle.dr_store_past.specs.Counted.{texts_size}
use Rattle.dr_store_past.specs.Lines.{FitsPast, IsHeldPast, all_said, said_by, texts_behind}
use Rattle.dr_store_past.specs.Paging.{IsWhyNoLine, IsWhyNoPage}

pub texts_more : (n : ℕ) (xs ys : List PastLine) → texts_behind n (xs ++ ys) ≡ texts_behind n xs ++ texts_behind (n + length xs) ys
texts_more n [] ys = ap (λ k. texts_behind k ys) (let e : n ≡ n + 0 = omega arith in e)
texts_more n (x ∷ xs) ys =
    let place : n + 1 + length xs ≡ n + suc (length xs) = omega arith in
    ap (λ t. sealed_text (n + 1) x.line x.moment ∷ t)
    (texts_more (n + 1) xs ys ∙ ap (λ k. texts_behind (n + 1) xs ++ texts_behind k ys) place)

pub texts_take : (n k : ℕ) (xs : List PastLine) → take k (texts_behind n xs) ≡ texts_behind n (take k xs)
texts_take n zero xs = refl
texts_take n (suc k) [] = refl
texts_take n (suc k) (x ∷ xs) = ap (λ t. sealed_text (n + 1) x.line x.moment ∷ t) (texts_take (n + 1) k xs)

pub texts_drop : (n k : ℕ) (xs : List PastLine) → drop k (texts_behind n xs) ≡ texts_behind (n + k) (drop k xs)
texts_drop n zero xs = ap (λ i. texts_behind i xs) (let e : n ≡ n + 0 = omega arith in e)
texts_drop n (suc k) [] = refl
texts_drop n (suc k) (x ∷ xs) =
    texts_drop (n + 1) k xs ∙ ap (λ i. texts_behind i (drop k xs)) (let e : n + 1 + k ≡ n + suc k = omega arith in e)

-- the first text, and the others
first_text : (t u : List ℕ) (ts us : List (List ℕ)) → t ∷ ts ≡ u ∷ us → t ≡ u
first_text t u ts us same = ap (λ (l : List (List ℕ)). slice_index_or l 0 []) same

other_texts : (t u : List ℕ) (ts us : List (List ℕ)) → t ∷ ts ≡ u ∷ us → ts ≡ us
other_texts t u ts us same = ap (λ (l : List (List ℕ)). drop 1 l) same

none_is_some : {P : Type 0} (t : List ℕ) (ts : List (List ℕ)) → [] ≡ t ∷ ts → P
none_is_some t ts same = absurd (let e : 0 ≡ suc (length ts) = ap (λ (l : List (List ℕ)). length l) same in omega (arith, e))

-- texts are of one list of lines
pub same_texts : TextsAreOfOneLine → (n : ℕ) (xs ys : List PastLine) → All FitsPast xs → All FitsPast ys → n + length xs < 2 ^ 64
    → texts_behind n xs ≡ texts_behind n ys → all_said xs ≡ all_said ys
same_texts law n [] [] fit fit' low same = refl
same_texts law n [] (y ∷ ys) fit fit' low same =
    none_is_some (sealed_text (n + 1) y.line y.moment) (texts_behind (n + 1) ys) same
same_texts law n (x ∷ xs) [] fit fit' low same =
    none_is_some (sealed_text (n + 1) x.line x.moment) (texts_behind (n + 1) xs) (sym same)
same_texts law n (x ∷ xs) (y ∷ ys) fit fit' low same =
    let tx = sealed_text (n + 1) x.line x.moment in
    let ty = sealed_text (n + 1) y.line y.moment in
    let f = All-head FitsPast x xs fit in
    let g = All-head FitsPast y ys fit' in
    let a : IsSealable (n + 1) x.line x.moment = record { number = omega (arith, low); said = f.0; written = f.1 } in
    let b : IsSealable (n + 1) y.line y.moment = record { number = omega (arith, low); said = g.0; written = g.1 } in
    let one = law (n + 1) (n + 1) x.line y.line x.moment y.moment a b
    (first_text tx ty (texts_behind (n + 1) xs) (texts_behind (n + 1) ys) same) in
    let rest = same_texts law (n + 1) xs ys (All-tail FitsPast x xs fit) (All-tail FitsPast y ys fit') (omega (arith, low))
    (other_texts tx ty (texts_behind (n + 1) xs) (texts_behind (n + 1) ys) same) in
    ap (λ l. line_of l ∷ all_said xs) one.lines ∙ ap (λ ls. line_of y.line ∷ ls) rest

-- a line as the program holds it fits
item_fits : (item : Instance) → IsHeldItem item → FitsInstance item
item_fits item held = (held.size, held.digest.bytes)

line_fits : (line : JournalLine) → IsHeldLine line → FitsLine line
line_fits (told.Arrival caller item to keep) held = item_fits item held.1
line_fits (told.Repeat caller item) held = item_fits item held.1
line_fits (told.Settling uid dest outcome now) held = (held.2, held.3)
line_fits (told.Requeuing uid dest) held = tt
line_fits (told.Dropping uid dest now) held = held.2
line_fits (told.Forgetting uid) held = tt
line_fits told.Adoption held = tt

held_fits : (x : PastLine) → IsHeldPast x → FitsPast x
held_fits x held = (line_fits x.line held.0, held.1)

pub all_fit : (xs : List PastLine) → All IsHeldPast xs → All FitsPast xs
all_fit [] held = All-nil FitsPast
all_fit (x ∷ xs) held =
    All-cons FitsPast x xs (held_fits x (All-head IsHeldPast x xs held)) (all_fit xs (All-tail IsHeldPast x xs held))

-- what the first of some lines say, and the others
pub said_take : (k : ℕ) (xs : List PastLine) → all_said (take k xs) ≡ take k (all_said xs)
said_take k xs = sym (take-map said_by k xs)

pub said_drop : (k : ℕ) (xs : List PastLine) → all_said (drop k xs) ≡ drop k (all_said xs)
said_drop zero xs = refl
said_drop (suc k) [] = refl
said_drop (suc k) (x ∷ xs) = said_drop k xs

-- one text more
pub texts_pushed : (after i last : ℕ) (lines : List PastLine) (line : PastLine) (texts new : List (List ℕ)) (text : List ℕ)
    → last ≡ after + i → texts ≡ texts_behind after (take i lines) → All FitsPast (take i lines)
    → i < length lines → line ≡ slice_index_or lines i line
    → text ≡ sealed_text (last + 1) line.line line.moment → FitsPast line → new ≡ texts ++ text ∷ []
    → (last + 1 ≡ after + (i + 1)) × (new ≡ texts_behind after (take (i + 1) lines)) × All FitsPast (take (i + 1) lines)
texts_pushed after i last lines line texts new text at were fit low item is fits pushed =
    let more : take i lines ++ line ∷ [] ≡ take (i + 1) lines =
    ap (λ x. take i lines ++ x ∷ []) item ∙ sym (take_more lines i line low) in
    let size = length-take i lines in
    let place : last ≡ after + length (take i lines) = omega (arith, at, size, low) in
    let added : texts_behind (after + length (take i lines)) (line ∷ []) ≡ text ∷ [] =
    ap (λ k. sealed_text (k + 1) line.line line.moment ∷ []) (sym place) ∙ ap (λ t. t ∷ []) (sym is) in (
      (let e : last + 1 ≡ after + (i + 1) = omega (arith, at) in e),
      pushed ∙ ap (λ ts. ts ++ text ∷ []) were ∙ ap (λ ts. texts_behind after (take i lines) ++ ts) (sym added)
          ∙ sym (texts_more after (take i lines) (line ∷ [])) ∙ ap (texts_behind after) more,
      subst (All FitsPast) more (All-push FitsPast (take i lines) line fit fits),
    )

pub all_texts : (after i : ℕ) (lines : List PastLine) (texts : List (List ℕ)) → length lines ≤ i → texts ≡ texts_behind after (take i lines)
    → texts ≡ texts_behind after lines
all_texts after i lines texts over were = were ∙ ap (texts_behind after) (take_all i lines over)

pub all_fitting : (i : ℕ) (lines : List PastLine) → length lines ≤ i → All FitsPast (take i lines) → All FitsPast lines
all_fitting i lines over fit = subst (All FitsPast) (take_all i lines over) fit

-- the text of one of the lines
text_at : (n i : ℕ) (lines : List PastLine) (line : PastLine) (d : List ℕ) → i < length lines → line ≡ slice_index_or lines i line
    → slice_index_or (texts_behind n lines) i d ≡ sealed_text (n + i + 1) line.line line.moment
text_at n i [] line d low item = absurd (omega (arith, low))
text_at n zero (x ∷ xs) line d low item =
    ap (λ k. sealed_text (k + 1) x.line x.moment) (let e : n ≡ n + 0 = omega arith in e)
    ∙ ap (λ (l : PastLine). sealed_text (n + 0 + 1) l.line l.moment) (sym item)
text_at n (suc i) (x ∷ xs) line d low item =
    text_at (n + 1) i xs line d (omega (arith, low)) item
    ∙ ap (λ k. sealed_text (k + 1) line.line line.moment) (let e : n + 1 + i ≡ n + suc i = omega arith in e)

-- one line more is told
pub said_pushed : (n i : ℕ) (lines : List PastLine) (texts : List (List ℕ)) (text d : List ℕ) (found : List Line) (old new : List JournalLine) (line : JournalLine)
    → All IsHeldPast lines → n + length lines < 2 ^ 64 → texts ≡ texts_behind n lines
    → i < length texts → text ≡ slice_index_or texts i d
    → lines_of old ≡ found ++ all_said (take i lines)
    → new ≡ old ++ line ∷ []
    → ((m : ℕ) (it : PastLine) → IsTextOf text m it.line it.moment → line ≡ it.line)
    → lines_of new ≡ found ++ all_said (take (i + 1) lines)
said_pushed n i lines texts text d found old new line held low are within item was pushed read =
    let size = ap (λ (ts : List (List ℕ)). length ts) are ∙ texts_size n lines in
    let less : i < length lines = omega (arith, within, size) in
    let blank : PastLine = record { line = told.Adoption; moment = None } in
    let it = slice_index_or lines i blank in
    let same : it ≡ slice_index_or lines i it = get_or_default lines i blank it less in
    let is : text ≡ sealed_text (n + i + 1) it.line it.moment =
    item ∙ ap (λ ts. slice_index_or ts i d) are ∙ text_at n i lines it d less same in
    let there : IsTextOf text (n + i + 1) it.line it.moment =
    (let h = held i blank less in record { number = omega (arith, low, less); held = h.0; written = h.1; is = is }) in
    let said : line ≡ it.line = read (n + i + 1) it there in
    let more : take i lines ++ it ∷ [] ≡ take (i + 1) lines = sym (take_more lines i blank less) in
    ap (mapped line_of) pushed ∙ map-append line_of old (line ∷ [])
    ∙ ap (λ ls. ls ++ line_of line ∷ []) was
    ∙ append_assoc found (all_said (take i lines)) (line_of line ∷ [])
    ∙ ap (λ ls. found ++ ls)
    (ap (λ l. all_said (take i lines) ++ line_of l ∷ []) said
    ∙ sym (map-append said_by (take i lines) (it ∷ []))
    ∙ ap all_said more)

-- the text of no line stands among the texts of lines
pub never_told : (n i : ℕ) (lines : List PastLine) (texts : List (List ℕ)) (text d : List ℕ)
    → All IsHeldPast lines → n + length lines < 2 ^ 64 → texts ≡ texts_behind n lines
    → i < length texts → text ≡ slice_index_or texts i d
    → ((m : ℕ) (it : PastLine) → IsTextOf text m it.line it.moment → ⊥) → ⊥
never_told n i lines texts text d held low are within item none =
    let size = ap (λ (ts : List (List ℕ)). length ts) are ∙ texts_size n lines in
    let less : i < length lines = omega (arith, within, size) in
    let blank : PastLine = record { line = told.Adoption; moment = None } in
    let it = slice_index_or lines i blank in
    let same : it ≡ slice_index_or lines i it = get_or_default lines i blank it less in
    let is : text ≡ sealed_text (n + i + 1) it.line it.moment =
    item ∙ ap (λ ts. slice_index_or ts i d) are ∙ text_at n i lines it d less same in
    let h = held i blank less in
    none (n + i + 1) it (record { number = omega (arith, low, less); held = h.0; written = h.1; is = is })

pub line_refused : (i : ℕ) (texts : List (List ℕ)) (text d : List ℕ) → i < length texts → text ≡ slice_index_or texts i d
    → (why : PastFault) → IsWhyNoLine text why → IsWhyNoPage texts why
line_refused i texts text d within item (reason.File fault) h = absurd h
line_refused i texts text d within item (reason.Sealed (fault.Io error)) h = absurd h
line_refused i texts text d within item (reason.Sealed fault.Memory) h = tt
line_refused i texts text d within item (reason.Sealed fault.Unusable) h = absurd h
line_refused i texts text d within item (reason.Sealed fault.Short) h = absurd h
line_refused i texts text d within item (reason.Sealed fault.OtherChain) h = absurd h
line_refused i texts text d within item (reason.Sealed fault.Broken) h = absurd h
line_refused i texts text d within item (reason.Sealed fault.Unfit) h = absurd h
line_refused i texts text d within item (reason.Sealed fault.Full) h = absurd h
line_refused i texts text d within item (reason.Sealed fault.Uncounted) h = absurd h
line_refused i texts text d within item reason.Later h = absurd h
line_refused i texts text d within item reason.Nowhere h = absurd h
line_refused i texts text d within item reason.NoLine h =
    λ m lines held low are. never_told m i lines texts text d held low are within item h

-- a text is of one line
pub one_line : ATextIsReadInOneWay → (text : List ℕ) (n : ℕ) (line : JournalLine) (moment : Option ℕ) → IsTextOf text n line moment
    → (m : ℕ) (it : PastLine) → IsTextOf text m it.line it.moment → line ≡ it.line
one_line law text n line moment is m it other = (law text n m line it.line moment it.moment is other).lines

pub said_all : (n i : ℕ) (lines : List PastLine) (texts : List (List ℕ)) → length texts ≤ i → texts ≡ texts_behind n lines
    → (found new : List Line) → new ≡ found ++ all_said (take i lines) → new ≡ found ++ all_said lines
said_all n i lines texts over are found new was =
    let size = ap (λ (ts : List (List ℕ)). length ts) are ∙ texts_size n lines in
    was ∙ ap (λ ls. found ++ all_said ls) (take_all i lines (omega (arith, over, size)))
