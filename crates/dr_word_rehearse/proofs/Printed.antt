-- What is printed of a rehearsal, and how it ends.
use Rattle.std.proofs.Common.{◌≡◌, ◌∷◌, [], ◌∙◌, ◌++◌, ◌+◌, ◌<◌, append_assoc, get_or, length, take, Bool, cond, List, Result, Ok, Err, Option, Vec, ap, refl, false, true, subst, sym, ℕ}
use Rattle.std.proofs.lemmas.Bool.{false≢true}
use Rattle.std.proofs.lemmas.List.{append-nil, take_more}
use Rattle.std.proofs.lemmas.List.Concat.{flat_map-append}
use Rattle.std.specs.Global.{Global}
use Rattle.std.specs.Prelude.{IfOk, IsErr, IsErrAnd, MatchResult, flat_map}
use Rattle.std.specs.Io.KnownBytes.{Appends}
use Rattle.std.proofs.KnownBytes.{Appends-trans}
use Rattle.dr_base.specs.Texts.{Text}
use Rattle.dr_run_open.specs.Ends.{printed_by}
use Rattle.dr_run_open.specs.declared.halt.Halt.{Halt}
use Rattle.dr_run_open.specs.declared.status.Status.{Status}
use Rattle.dr_word_adopt.specs.Endings.{EndsChange}
use Rattle.dr_word_adopt.specs.declared.change.Halted.{Halted}
use Rattle.dr_word_rehearse.specs.Endings.{EndsRehearsal, fits, fits_line, lines_of, printed_of}
use Rattle.dr_word_rehearse.specs.Rehearsals.{halt_of}
use Rattle.dr_word_rehearse.specs.declared.looking.Looked.{Looked}

-- what is so of a value that is answered, another says of it too
pub ok_as : {X E : Type 0} (r : Result X E) (P Q : X → Type 0) → ((x : X) → P x → Q x) → IfOk r P → IfOk r Q
ok_as (Ok x) P Q f h = f x h
ok_as (Err e) P Q f h = tt

-- what holds of a halt holds of the result that hands it on
pub halt_as : {A : Type 0} (P : Result A Halt → Type 0) (why : Halt) (r : Result A Halted) → IsErr r → IsErrAnd r (λ (e : Halted). e.halt ≡ why) → P (Err why) → P (halt_of r)
halt_as {A} P why (Ok done) no_err gives h = absurd (false≢true no_err)
halt_as {A} P why (Err e) err gives h = subst (λ (w : Halt). P (Err w)) (sym gives) h

-- the text that was made was written
pub wrote : {E : Type 0} (old new : Option (List ℕ)) (text : Text) (made : Result (Vec ℕ Global) E) → IfOk made (λ bytes. bytes.items ≡ text) → MatchResult made (λ bytes. Appends old new bytes.items) (λ fault. ⊥) → Appends old new text
wrote old new text (Ok bytes) is written = subst (Appends old new) is written
wrote old new text (Err e) is none = absurd none

-- lines, and then why there aren't more
pub ends_some : {E : Type 0} (all : List Looked) (halt : Halt) (old mid new : Option (List ℕ)) (result : Result Status E) → Appends old mid (flat_map lines_of all) → IfOk result (EndsChange (Err halt) mid new) → IfOk result (EndsRehearsal (Err halt) all old new)
ends_some all halt old mid new result before h =
    ok_as result (EndsChange (Err halt) mid new) (EndsRehearsal (Err halt) all old new)
    (λ status ends. (Appends-trans old mid new (flat_map lines_of all) (printed_by halt) before ends.0, ends.1)) h

-- all fits, and that is printed behind the lines
pub printed_fits : (all : List Looked) (b : Bool) (was new : Text) → b ≡ true → b ≡ fits all → was ≡ flat_map lines_of all → new ≡ was ++ fits_line → new ≡ printed_of all
printed_fits all b was new yes_it is lines more =
    more ∙ ap (λ (t : Text). t ++ fits_line) lines ∙ ap (λ (x : Bool). flat_map lines_of all ++ cond x fits_line []) (sym yes_it ∙ is)

-- not all fits, and nothing is
pub printed_unfit : (all : List Looked) (b : Bool) (was : Text) → b ≡ false → b ≡ fits all → was ≡ flat_map lines_of all → was ≡ printed_of all
printed_unfit all b was no_it is lines =
    lines ∙ sym (append-nil (flat_map lines_of all)) ∙ ap (λ (x : Bool). flat_map lines_of all ++ cond x fits_line []) (sym no_it ∙ is)

-- the lines of one more of them
pub more_lines : {X : Type 0} (f : X → Text) (xs : List X) (i : ℕ) (x : X) → i < length xs → x ≡ get_or xs i x → (start was new : Text) → was ≡ start ++ flat_map f (take i xs) → new ≡ was ++ f x → new ≡ start ++ flat_map f (take (i + 1) xs)
more_lines {X} f xs i x lt at start was new so_far more =
    more ∙ ap (λ (t : Text). t ++ f x) so_far ∙ append_assoc start (flat_map f (take i xs)) (f x) ∙ ap (λ (t : Text). start ++ t) (sym step)
  where
    step : flat_map f (take (i + 1) xs) ≡ flat_map f (take i xs) ++ f x
    step =
        ap (λ (ys : List X). flat_map f ys) (take_more xs i x lt) ∙ ap (λ (y : X). flat_map f (take i xs ++ y ∷ [])) (sym at) ∙ flat_map-append f (take i xs) (x ∷ [])
        ∙ ap (λ (t : Text). flat_map f (take i xs) ++ t) (append-nil (f x))
