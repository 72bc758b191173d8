-- A line read at its places.
use Rattle.std.proofs.Common.{◌≡◌, ◌≢◌, ◌∙◌, ◌<◌, ◌^◌, ◌&&◌, ℕ, Bool, true, List, [], ◌∷◌, ◌++◌, Option, None, Some, Result, Ok, Err, Bor, IfOk, All, refl, sym, ap, subst, arith, length, nat_lt, codes, decimal}
use Rattle.std.specs.Fmt.{digits}
use Rattle.std.specs.Str.Parse.{AllDigits, digits_value}
use Rattle.std.proofs.lemmas.Bool.{and_parts, ltb-true}
use Rattle.std.proofs.lemmas.Fmt.{decimal_is_IsNumeral}
use Rattle.std.proofs.lemmas.List.Elements.{All-cons, All-nil}
use Rattle.dr_base.specs.Texts.{Text}
use Rattle.dr_base_quoted.specs.Quoting.{IsByte}
use Rattle.dr_ledger.specs.declared.item.Instance.{Instance}
use Rattle.dr_ledger.specs.declared.item.Outcome.{Outcome}
use Rattle.dr_ledger_history.specs.declared.line.JournalLine.{JournalLine}
use Rattle.dr_ledger_history.specs.declared.line.JournalLine.TheVariants as told
use Rattle.dr_ledger_text.specs.Laws.{AreSame, TextsAreOfOneLine, TextsAreOneLine, tried}
use Rattle.dr_ledger_text.specs.Lines.{sealed_text}
use Rattle.dr_ledger_text.proofs.Pieces.{behind_same}
use Rattle.dr_ledger_read.specs.Behind.{ended, line_then, sealed_then}
use Rattle.dr_ledger_read.specs.Held.{IsHeldLine}
use Rattle.dr_ledger_read.specs.Laws.{Gave}
use Rattle.dr_ledger_read.specs.Pieces.{AreBytes, Holds}
use Rattle.dr_ledger_read.specs.Places.{HoldsNames, ShowsItem, ShowsLine}
use Rattle.dr_ledger_read.specs.Reading.{IsFound, IsOfNoLine, IsOfSomeLine, IsTextOf, Reads}
use Rattle.dr_ledger_read.specs.declared.places.ItemPlaces.{ItemPlaces}
use Rattle.dr_ledger_read.specs.declared.places.LinePlaces.{LinePlaces}
use Rattle.dr_ledger_read.specs.declared.places.LinePlaces.TheVariants as stands
use Rattle.dr_ledger_read.specs.declared.places.SealedPlaces.{SealedPlaces}
use Rattle.dr_ledger_read.specs.declared.reading.SealedLine.{SealedLine}
use Rattle.dr_ledger_read.proofs.Counts.{same_digits}
use Rattle.dr_ledger_read.proofs.Instances.{comma}
use Rattle.dr_ledger_read.proofs.Whole.{number_there, sealable, sealed_is}

-- what is made at places is each line that they show
abbrev pub IsShown : LinePlaces → JournalLine → Type 0
IsShown places made = (line : JournalLine) → ShowsLine places line → made ≡ line

of_arrival : (caller : Bor Text) (item : ItemPlaces) (to : Bor Text) (keep : Bool) (made : JournalLine)
    → ((c : Text) (i : Instance) (t : List Text) → Holds caller.now c → ShowsItem item i → HoldsNames to.now t → made ≡ told.Arrival c i t keep) → IsShown (stands.Arrival caller item to keep) made
of_arrival caller item to keep made h (told.Arrival c i t k) shows = h c i t shows.0 shows.1 shows.2 ∙ ap (λ (b : Bool). told.Arrival c i t b) shows.3
of_arrival caller item to keep made h line shows = absurd shows

of_repeat : (caller : Bor Text) (item : ItemPlaces) (made : JournalLine) → ((c : Text) (i : Instance) → Holds caller.now c → ShowsItem item i → made ≡ told.Repeat c i) → IsShown (stands.Repeat caller item) made
of_repeat caller item made h (told.Repeat c i) shows = h c i shows.0 shows.1
of_repeat caller item made h line shows = absurd shows

of_settling : (uid dest : Bor Text) (came : Outcome) (now : ℕ) (made : JournalLine) → ((u d : Text) → Holds uid.now u → Holds dest.now d → made ≡ told.Settling u d came now) → IsShown (stands.Settling uid dest came now) made
of_settling uid dest came now made h (told.Settling u d o n) shows = h u d shows.0 shows.1 ∙ ap (λ (x : Outcome). told.Settling u d x now) shows.2 ∙ ap (λ (k : ℕ). told.Settling u d o k) shows.3
of_settling uid dest came now made h line shows = absurd shows

of_requeuing : (uid dest : Bor Text) (made : JournalLine) → ((u d : Text) → Holds uid.now u → Holds dest.now d → made ≡ told.Requeuing u d) → IsShown (stands.Requeuing uid dest) made
of_requeuing uid dest made h (told.Requeuing u d) shows = h u d shows.0 shows.1
of_requeuing uid dest made h line shows = absurd shows

of_dropping : (uid dest : Bor Text) (now : ℕ) (made : JournalLine) → ((u d : Text) → Holds uid.now u → Holds dest.now d → made ≡ told.Dropping u d now) → IsShown (stands.Dropping uid dest now) made
of_dropping uid dest now made h (told.Dropping u d n) shows = h u d shows.0 shows.1 ∙ ap (λ (k : ℕ). told.Dropping u d k) shows.2
of_dropping uid dest now made h line shows = absurd shows

of_forgetting : (uid : Bor Text) (made : JournalLine) → ((u : Text) → Holds uid.now u → made ≡ told.Forgetting u) → IsShown (stands.Forgetting uid) made
of_forgetting uid made h (told.Forgetting u) shows = h u shows
of_forgetting uid made h line shows = absurd shows

of_adoption : IsShown stands.Adoption told.Adoption
of_adoption told.Adoption shows = refl
of_adoption line shows = absurd shows

-- ---- the same of what may lack memory, where the places are known by their case

pub arrival_shown : {E : Type 0} (r : Result JournalLine E) {caller : Bor Text} {item : ItemPlaces} {to : Bor Text} {keep : Bool} (places : LinePlaces) → places ≡ stands.Arrival caller item to keep
    → IfOk r (λ made. (c : Text) (i : Instance) (t : List Text) → Holds caller.now c → ShowsItem item i → HoldsNames to.now t → made ≡ told.Arrival c i t keep) → IfOk r (IsShown places)
arrival_shown (Ok made) {caller} {item} {to} {keep} places is h = subst (λ (p : LinePlaces). IsShown p made) (sym is) (of_arrival caller item to keep made h)
arrival_shown (Err e) places is h = h

pub repeat_shown : {E : Type 0} (r : Result JournalLine E) {caller : Bor Text} {item : ItemPlaces} (places : LinePlaces) → places ≡ stands.Repeat caller item
    → IfOk r (λ made. (c : Text) (i : Instance) → Holds caller.now c → ShowsItem item i → made ≡ told.Repeat c i) → IfOk r (IsShown places)
repeat_shown (Ok made) {caller} {item} places is h = subst (λ (p : LinePlaces). IsShown p made) (sym is) (of_repeat caller item made h)
repeat_shown (Err e) places is h = h

pub settling_shown : {E : Type 0} (r : Result JournalLine E) {uid dest : Bor Text} {came : Outcome} {now : ℕ} (places : LinePlaces) → places ≡ stands.Settling uid dest came now
    → IfOk r (λ made. (u d : Text) → Holds uid.now u → Holds dest.now d → made ≡ told.Settling u d came now) → IfOk r (IsShown places)
settling_shown (Ok made) {uid} {dest} {came} {now} places is h = subst (λ (p : LinePlaces). IsShown p made) (sym is) (of_settling uid dest came now made h)
settling_shown (Err e) places is h = h

pub requeuing_shown : {E : Type 0} (r : Result JournalLine E) {uid dest : Bor Text} (places : LinePlaces) → places ≡ stands.Requeuing uid dest
    → IfOk r (λ made. (u d : Text) → Holds uid.now u → Holds dest.now d → made ≡ told.Requeuing u d) → IfOk r (IsShown places)
requeuing_shown (Ok made) {uid} {dest} places is h = subst (λ (p : LinePlaces). IsShown p made) (sym is) (of_requeuing uid dest made h)
requeuing_shown (Err e) places is h = h

pub dropping_shown : {E : Type 0} (r : Result JournalLine E) {uid dest : Bor Text} {now : ℕ} (places : LinePlaces) → places ≡ stands.Dropping uid dest now
    → IfOk r (λ made. (u d : Text) → Holds uid.now u → Holds dest.now d → made ≡ told.Dropping u d now) → IfOk r (IsShown places)
dropping_shown (Ok made) {uid} {dest} {now} places is h = subst (λ (p : LinePlaces). IsShown p made) (sym is) (of_dropping uid dest now made h)
dropping_shown (Err e) places is h = h

pub forgetting_shown : {E : Type 0} (r : Result JournalLine E) {uid : Bor Text} (places : LinePlaces) → places ≡ stands.Forgetting uid
    → IfOk r (λ made. (u : Text) → Holds uid.now u → made ≡ told.Forgetting u) → IfOk r (IsShown places)
forgetting_shown (Ok made) {uid} places is h = subst (λ (p : LinePlaces). IsShown p made) (sym is) (of_forgetting uid made h)
forgetting_shown (Err e) places is h = h

pub adoption_shown : (places : LinePlaces) → places ≡ stands.Adoption → IsShown places told.Adoption
adoption_shown places is = subst (λ (p : LinePlaces). IsShown p told.Adoption) (sym is) of_adoption

-- ---- a line with its number and its moment

pub read_there : (text : Text) (places : SealedPlaces) (made : JournalLine) → IsFound text places → IsShown places.line made → IsTextOf text places.number made places.moment
read_there text places made (line, shows, is) shown = subst (λ (l : JournalLine). IsTextOf text places.number l places.moment) (sym (shown line shows)) is

pub some_line : (text : Text) (places : SealedPlaces) → IsFound text places → IsOfSomeLine text
some_line text places (line, shows, is) = (places.number, line, places.moment, is)

-- ---- laws

pub in_one_way : TextsAreOfOneLine → (text : Text) (n m : ℕ) (line other : JournalLine) (moment since : Option ℕ) → IsTextOf text n line moment → IsTextOf text m other since → AreSame n m line other moment since
in_one_way law text n m line other moment since p q = law n m line other moment since (sealable text n line moment p) (sealable text m other since q) (sym p.is ∙ q.is)

abbrev line_of : ℕ → JournalLine → Option ℕ → SealedLine
line_of n line moment = record { number = n; line = line; moment = moment }

pub gave : {E : Type 0} → TextsAreOfOneLine → (line : SealedLine) (answer : Result (Option SealedLine) E) → IsTextOf (sealed_text line.number line.line line.moment) line.number line.line line.moment
    → Reads (sealed_text line.number line.line line.moment) answer → Gave line answer
gave law line (Ok (Some read)) is h =
    let one = in_one_way law (sealed_text line.number line.line line.moment) read.number line.number read.line line.line read.moment line.moment h is in
    let e : line_of read.number read.line read.moment ≡ line_of line.number line.line line.moment =
    ap (λ (n : ℕ). line_of n read.line read.moment) one.numbers ∙ ap (λ (l : JournalLine). line_of line.number l read.moment) one.lines
    ∙ ap (λ (m : Option ℕ). line_of line.number line.line m) one.moments in
    e
gave law line (Ok None) is h = h line.number line.line line.moment is
gave law line (Err lack) is h = tt

-- ---- texts that are written out

abbrev pub all_small : List ℕ → Bool
all_small [] = true
all_small (c ∷ cs) = nat_lt c 256 && all_small cs

pub small_bytes : (xs : List ℕ) → all_small xs ≡ true → AreBytes xs
small_bytes [] e = All-nil IsByte
small_bytes (c ∷ cs) e = let both = and_parts (nat_lt c 256) (all_small cs) e in All-cons IsByte c cs (ltb-true c 256 both.0) (small_bytes cs both.1)

pub tried_is_held : IsHeldLine tried
tried_is_held = (small_bytes (codes "1.2") refl, small_bytes (codes "ARCH") refl, omega arith, omega arith)

pub never_empty : IsOfNoLine []
never_empty n line moment is = let f : 0 ≡ length (sealed_then n line moment) = ap (λ (t : Text). length t) (is.is ∙ sealed_is n line moment) in omega (arith, f)

-- a line with what ends it is none: its last byte is 10
pub never_ended : TextsAreOneLine → IsOfNoLine (codes "{\"line\":9,\"kind\":\"adoption\"}\n")
never_ended law n line moment is =
    let none : All (λ (byte : ℕ). byte ≢ 10) (codes "{\"line\":9,\"kind\":\"adoption\"}\n") = subst (λ (t : Text). All (λ (byte : ℕ). byte ≢ 10) t) (sym is.is) (law n line moment (sealable _ n line moment is)) in
    none 28 0 (omega arith) refl

-- no number begins with 0
pub never_padded : IsOfNoLine (codes "{\"line\":09,\"kind\":\"adoption\"}")
unfolding digits
never_padded n line moment is =
    let rest = line_then line (ended moment) in
    let there = number_there _ n line moment is in
    let e : codes "09" ++ codes ",\"kind\":\"adoption\"}" ≡ decimal n ++ rest = behind_same (codes "{\"line\":") (codes "09,\"kind\":\"adoption\"}") (decimal n ++ rest) there.2 in
    let numeral = decimal_is_IsNumeral n is.number in
    let two : AllDigits 10 (codes "09") = (omega arith, (omega arith, tt)) in
    let same = (same_digits (codes "09") (decimal n) (codes ",\"kind\":\"adoption\"}") rest two numeral.0.1 (comma (codes ",\"kind\":\"adoption\"}") refl) there.1 e).0 in
    let nine : n ≡ 9 = sym numeral.1 ∙ ap (digits_value 10) (sym same) in
    let f : 2 ≡ 1 = ap (λ (t : Text). length t) same ∙ ap (λ (m : ℕ). length (decimal m)) nine in
    omega (arith, f)
