-- Which line tells what stands at a place.
use Rattle.std.proofs.Common.{◌≡◌, ℕ, ◌+◌, ◌<◌, ◌≤◌, true, false, List, [], ◌∷◌, ◌++◌, Bor, length, map, take, drop, get_or, sym, ap, subst, ◌∙◌, arith, length-append}
use Rattle.std.specs.Prelude.{filter, not}
use Rattle.std.specs.List.{AllZip}
use Rattle.std.proofs.lemmas.List.{take_all, take-append-drop, drop_more, length-map, length-take-le, map-append}
use Rattle.dr_base.specs.Texts.{Text}
use Rattle.dr_cert_text.specs.Cuts.{cuts}
use Rattle.dr_world_script.specs.declared.act.Act.{Act}
use Rattle.dr_world_script.specs.Laws.{LinesAreInOrder}
use Rattle.dr_world_script.specs.Scripts.{IsLineAt, Tells, is_skipped, told_lines}
use Rattle.dr_world_script.proofs.Telling.{here, one_further, skipped_cut, told_among, told_cut}

-- how many of the lines aren't skipped
abbrev pub counted : List Text → ℕ
counted lines = length (filter (λ line. not (is_skipped line)) lines)

pub skipped_more : (lines : List (Bor (List ℕ))) (i : ℕ) (d : Bor (List ℕ)) → i < length lines → is_skipped (get_or lines i d).now ≡ true
    → counted (map (λ l. l.now) (take (i + 1) lines)) ≡ counted (map (λ l. l.now) (take i lines))
skipped_more lines i d lt skipped = ap counted (one_further lines i d lt) ∙ ap (λ (ls : List Text). length ls) (skipped_cut (map here (take i lines)) (get_or lines i d).now skipped)

pub told_more : (lines : List (Bor (List ℕ))) (i : ℕ) (d : Bor (List ℕ)) → i < length lines → is_skipped (get_or lines i d).now ≡ false
    → counted (map (λ l. l.now) (take (i + 1) lines)) ≡ counted (map (λ l. l.now) (take i lines)) + 1
told_more lines i d lt told =
    ap counted (one_further lines i d lt) ∙ ap (λ (ls : List Text). length ls) (told_cut (map here (take i lines)) (get_or lines i d).now told)
    ∙ length-append (filter (λ line. not (is_skipped line)) (map here (take i lines))) ((get_or lines i d).now ∷ [])

-- the line at which the counting ends
pub found_at : (text : Text) (place : ℕ) (lines : List (Bor (List ℕ))) (i : ℕ) (d : Bor (List ℕ)) → map (λ l. l.now) lines ≡ cuts 10 text → i < length lines → is_skipped (get_or lines i d).now ≡ false
    → counted (map (λ l. l.now) (take i lines)) ≡ place → IsLineAt text place (i + 1)
found_at text place lines i d cut lt told count =
    let whole : lines ≡ take i lines ++ get_or lines i d ∷ drop (i + 1) lines = sym (take-append-drop i lines) ∙ ap (λ ls. take i lines ++ ls) (drop_more lines i d lt) in
    let parts = ap (map here) whole ∙ map-append here (take i lines) (get_or lines i d ∷ drop (i + 1) lines) in
    let many : length (map here (take i lines)) ≡ i = length-map (take i lines) here ∙ length-take-le i lines (omega arith) in
    (map here (take i lines), (get_or lines i d).now, map here (drop (i + 1) lines), sym cut ∙ parts, ap (λ n. n + 1) (sym many), told, count)

-- no line is left
pub none_left : (text : Text) (lines : List (Bor (List ℕ))) (i : ℕ) → map (λ l. l.now) lines ≡ cuts 10 text → length lines ≤ i → counted (map (λ l. l.now) (take i lines)) ≡ length (told_lines text)
none_left text lines i cut all = ap (λ ls. counted (map here ls)) (take_all i lines all) ∙ ap counted cut

-- ---- what stands at a place is told by its line

zip_at : (some before : List Text) (line : Text) (later : List Text) (acts : List Act) (a : Act) (more : List Act) → AllZip Tells (some ++ line ∷ later) (acts ++ a ∷ more) → length some ≡ length acts → Tells line a
zip_at [] before line later [] a more h e = h.0
zip_at [] before line later (b ∷ acts) a more h e = absurd (omega (arith, e))
zip_at (x ∷ some) before line later [] a more h e = absurd (omega (arith, e))
zip_at (x ∷ some) before line later (b ∷ acts) a more h e = zip_at some before line later acts a more h.1 (omega (arith, e))

pub lines_in_order : LinesAreInOrder
lines_in_order text acts more a n script (before, line, later, cut, many, told, count) =
    let P : List Text → Type 0 = λ ls. AllZip Tells ls (acts ++ a ∷ more) in
    let among = ap (filter (λ l. not (is_skipped l))) cut ∙ told_among before later line told in
    (before, line, later, cut, many, told, zip_at (filter (λ l. not (is_skipped l)) before) before line (filter (λ l. not (is_skipped l)) later) acts a more (subst P among script) count)
