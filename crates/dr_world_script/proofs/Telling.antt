-- A script read line by line.
use Rattle.std.proofs.Common.{◌≡◌, ◌⊎◌, ℕ, Bool, true, false, List, [], ◌∷◌, ◌++◌, ◌+◌, ◌<◌, Bor, length, map, take, drop, get_or, refl, sym, ap, subst, ◌∙◌, inl, inr, arith}
use Rattle.std.specs.Prelude.{All, filter, not}
use Rattle.std.specs.List.{AllZip}
use Rattle.std.proofs.lemmas.List.Elements.{All-push, filter-append}
use Rattle.std.proofs.lemmas.List.{map_push, take_more, drop_more, take-append-drop}
use Rattle.std.proofs.lemmas.List.{append-nil, length-take-le, length-map, map-append}
use Rattle.dr_cert_text.specs.Cuts.{cuts}
use Rattle.dr_base.specs.Texts.{Text}
use Rattle.dr_world_script.specs.declared.act.Act.{Act}
use Rattle.dr_world_script.specs.Scripts.{IsFirstWrong, Tells, is_skipped}

-- the lines so far are those of the acts so far, but for lines that are skipped
pub record SoFar (lines : List Text) (steps : List Act) : Type 0 where
  pub told : AllZip Tells (filter (λ line. not (is_skipped line)) lines) steps
  pub each : All (λ line. (is_skipped line ≡ true) ⊎ ((step : Act) × Tells line step)) lines

pub nothing : SoFar [] []
nothing = record { told = tt; each = λ k d lt. absurd (omega arith) }

zip_push : (xs : List Text) (ys : List Act) (x : Text) (y : Act) → AllZip Tells xs ys → Tells x y → AllZip Tells (xs ++ x ∷ []) (ys ++ y ∷ [])
zip_push [] [] x y a b = (b, tt)
zip_push [] (z ∷ ys) x y a b = absurd a
zip_push (w ∷ xs) [] x y a b = absurd a
zip_push (w ∷ xs) (z ∷ ys) x y a b = (a.0, zip_push xs ys x y a.1 b)

told_line : Text → Bool
told_line line = not (is_skipped line)

left_out : (line : Text) → is_skipped line ≡ true → filter told_line (line ∷ []) ≡ []
unfolding told_line
left_out line skipped = rw (skipped) refl

taken_in : (line : Text) → is_skipped line ≡ false → filter told_line (line ∷ []) ≡ line ∷ []
unfolding told_line
taken_in line told = rw (told) refl

none_more : (ys : List Act) (xs : List Text) → AllZip Tells xs ys → AllZip Tells (xs ++ []) ys
none_more ys [] a = a
none_more [] (x ∷ xs) a = absurd a
none_more (y ∷ ys) (x ∷ xs) a = (a.0, none_more ys xs a.1)

-- the lines that are told, with one more line
pub skipped_cut : (lines : List Text) (line : Text) → is_skipped line ≡ true → filter (λ l. not (is_skipped l)) (lines ++ line ∷ []) ≡ filter (λ l. not (is_skipped l)) lines
unfolding told_line
skipped_cut lines line skipped = filter-append told_line lines (line ∷ []) ∙ ap (λ ls. filter told_line lines ++ ls) (left_out line skipped) ∙ append-nil (filter told_line lines)

pub told_cut : (lines : List Text) (line : Text) → is_skipped line ≡ false → filter (λ l. not (is_skipped l)) (lines ++ line ∷ []) ≡ filter (λ l. not (is_skipped l)) lines ++ line ∷ []
unfolding told_line
told_cut lines line told = filter-append told_line lines (line ∷ []) ∙ ap (λ ls. filter told_line lines ++ ls) (taken_in line told)

-- with more on both sides
pub told_among : (before later : List Text) (line : Text) → is_skipped line ≡ false → filter (λ l. not (is_skipped l)) (before ++ line ∷ later) ≡ filter (λ l. not (is_skipped l)) before ++ line ∷ filter (λ l. not (is_skipped l)) later
unfolding told_line
told_among before later line told =
    let one : filter told_line (line ∷ later) ≡ line ∷ filter told_line later = rw (told) refl in
    filter-append told_line before (line ∷ later) ∙ ap (λ ls. filter told_line before ++ ls) one

pub skip_one : (lines : List Text) (steps : List Act) (line : Text) → SoFar lines steps → is_skipped line ≡ true → SoFar (lines ++ line ∷ []) steps
unfolding told_line
skip_one lines steps line s skipped =
    let P : List Text → Type 0 = λ ls. AllZip Tells ls steps in
    let cut = filter-append told_line lines (line ∷ []) ∙ ap (λ ls. filter told_line lines ++ ls) (left_out line skipped) in
    record {
      told = subst P (sym cut) (none_more steps (filter told_line lines) s.told);
      each = All-push (λ l. (is_skipped l ≡ true) ⊎ ((step : Act) × Tells l step)) lines line s.each (inl skipped);
    }

pub tell_one : (lines : List Text) (steps : List Act) (line : Text) (step : Act) → SoFar lines steps → is_skipped line ≡ false → Tells line step → SoFar (lines ++ line ∷ []) (steps ++ step ∷ [])
unfolding told_line
tell_one lines steps line step s told tells =
    let P : List Text → Type 0 = λ ls. AllZip Tells ls (steps ++ step ∷ []) in
    let cut = filter-append told_line lines (line ∷ []) ∙ ap (λ ls. filter told_line lines ++ ls) (taken_in line told) in
    record {
      told = subst P (sym cut) (zip_push (filter told_line lines) steps line step s.told tells);
      each = All-push (λ l. (is_skipped l ≡ true) ⊎ ((some : Act) × Tells l some)) lines line s.each (inr (step, tells));
    }

abbrev pub here : Bor (List ℕ) → Text
here line = line.now

pub one_further : (lines : List (Bor (List ℕ))) (i : ℕ) (d : Bor (List ℕ)) → i < length lines → map here (take (i + 1) lines) ≡ map here (take i lines) ++ (get_or lines i d).now ∷ []
one_further lines i d lt = ap (map here) (take_more lines i d lt) ∙ map_push here (take i lines) (get_or lines i d)

pub skip_at : (lines : List (Bor (List ℕ))) (i : ℕ) (d : Bor (List ℕ)) (steps : List Act) → i < length lines → SoFar (map (λ l. l.now) (take i lines)) steps → is_skipped (get_or lines i d).now ≡ true →
    SoFar (map (λ l. l.now) (take (i + 1) lines)) steps
skip_at lines i d steps lt s skipped =
    let P : List Text → Type 0 = λ ls. SoFar ls steps in
    subst P (sym (one_further lines i d lt)) (skip_one (map here (take i lines)) steps (get_or lines i d).now s skipped)

pub tell_at : (lines : List (Bor (List ℕ))) (i : ℕ) (d : Bor (List ℕ)) (steps : List Act) (step : Act) → i < length lines → SoFar (map (λ l. l.now) (take i lines)) steps → is_skipped (get_or lines i d).now ≡ false →
    Tells (get_or lines i d).now step → SoFar (map (λ l. l.now) (take (i + 1) lines)) (steps ++ step ∷ [])
tell_at lines i d steps step lt s told tells =
    let P : List Text → Type 0 = λ ls. SoFar ls (steps ++ step ∷ []) in
    subst P (sym (one_further lines i d lt)) (tell_one (map here (take i lines)) steps (get_or lines i d).now step s told tells)

-- the line at which the reading ends
pub wrong_at : (text : Text) (lines : List (Bor (List ℕ))) (i : ℕ) (d : Bor (List ℕ)) (steps : List Act) → map (λ l. l.now) lines ≡ cuts 10 text → i < length lines → SoFar (map (λ l. l.now) (take i lines)) steps →
    is_skipped (get_or lines i d).now ≡ false → ((step : Act) → Tells (get_or lines i d).now step → ⊥) → IsFirstWrong text (i + 1)
wrong_at text lines i d steps cut lt s told none =
    let whole : lines ≡ take i lines ++ get_or lines i d ∷ drop (i + 1) lines = sym (take-append-drop i lines) ∙ ap (λ ls. take i lines ++ ls) (drop_more lines i d lt) in
    let parts = ap (map here) whole ∙ map-append here (take i lines) (get_or lines i d ∷ drop (i + 1) lines) in
    let count : length (map here (take i lines)) ≡ i = length-map (take i lines) here ∙ length-take-le i lines (omega arith) in
    (map here (take i lines), (get_or lines i d).now, map here (drop (i + 1) lines), sym cut ∙ parts, ap (λ n. n + 1) (sym count), told, none, s.each)
