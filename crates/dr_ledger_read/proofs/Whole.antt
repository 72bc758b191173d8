-- The whole text of a line.
use Rattle.std.proofs.Common.{◌≡◌, ◌∙◌, ◌<◌, ◌^◌, ℕ, Bool, inr, List, [], ◌∷◌, ◌++◌, Option, None, Some, Bor, refl, sym, ap, subst, arith, append_assoc, get_or, codes, decimal}
use Rattle.hex.specs.Hex.{encode_lower}
use Rattle.dr_base.specs.Texts.{Text}
use Rattle.dr_base.specs.Syntaxes.{syntax_uid}
use Rattle.dr_ledger.specs.declared.item.Instance.{Instance}
use Rattle.dr_ledger_history.specs.declared.line.JournalLine.{JournalLine}
use Rattle.dr_ledger_history.specs.declared.line.JournalLine.TheVariants as told
use Rattle.dr_ledger_text.specs.Laws.{FitsInstance, FitsLine, FitsMoment, IsSealable}
use Rattle.dr_ledger_text.specs.Lines.{arrived_part, begun_line, goals_part, item_part, key_part, kind_part, line_part, moment_part, names_text, outcome_text, row_part, sealed_text}
use Rattle.dr_ledger_text.specs.Members.{flag, member, number, word}
use Rattle.dr_ledger_read.specs.Behind.{brought_then, digest_then, ended, goals_then, item_then, key_then, kind_of, kind_text, line_then, row_then, sealed_then}
use Rattle.dr_ledger_read.specs.Cutting.{HasNone, IsCut, Same}
use Rattle.dr_ledger_read.specs.Held.{IsHeldItem, IsHeldLine}
use Rattle.dr_ledger_read.specs.Pieces.{IsCount, EndsDigits}
use Rattle.dr_ledger_read.specs.Places.{EndsAt, IsLineFirst, ShowsLine}
use Rattle.dr_ledger_read.specs.Reading.{IsFound, IsOfNoLine, IsTextOf}
use Rattle.dr_ledger_read.specs.declared.kind.CallKind.{CallKind}
use Rattle.dr_ledger_read.specs.declared.kind.CallKind.TheVariants as kind
use Rattle.dr_ledger_read.specs.declared.places.LinePlaces.{LinePlaces}
use Rattle.dr_ledger_read.specs.declared.places.SealedPlaces.{SealedPlaces}
use Rattle.dr_ledger_read.proofs.Between.{found_is}
use Rattle.dr_ledger_read.proofs.Instances.{comma}

-- ---- the text, each piece with what is behind it

key_is : (item : Instance) (x : Text) → key_part item ++ x ≡ key_then item.key x
key_is item x =
    let c = word (codes "class") item.key.class in
    let s = word (codes "syntax") (syntax_uid item.key.syntax) in
    let m = word (codes "modality") item.key.modality in
    let t = word (codes "station") item.key.station in
    append_assoc (c ++ s ++ m) t x ∙ append_assoc (c ++ s) m (t ++ x) ∙ append_assoc c s (m ++ (t ++ x))

item_is : (item : Instance) (x : Text) → item_part item ++ x ≡ item_then item x
item_is item x =
    let u = word (codes "uid") item.uid in
    let l = number (codes "length") item.size in
    let d = word (codes "sha256") (encode_lower item.digest) in
    append_assoc (u ++ key_part item) (l ++ d) x ∙ append_assoc u (key_part item) ((l ++ d) ++ x) ∙ ap (λ (t : Text). u ++ (key_part item ++ t)) (append_assoc l d x)
    ∙ ap (λ (t : Text). u ++ t) (key_is item (l ++ (d ++ x)))

arrived_is : (kind caller : Text) (item : Instance) (x : Text) → arrived_part kind caller item ++ x ≡ kind_part kind ++ brought_then caller item x
arrived_is kind caller item x =
    let c = word (codes "caller") caller in
    append_assoc (kind_part kind ++ c) (item_part item) x ∙ append_assoc (kind_part kind) c (item_part item ++ x) ∙ ap (λ (t : Text). kind_part kind ++ (c ++ t)) (item_is item x)

goals_are : (to : List Text) (keep : Bool) (x : Text) → goals_part to keep ++ x ≡ goals_then to keep x
goals_are to keep x =
    let f = flag (codes "keep") keep in
    append_assoc (member (codes "to") (codes "[" ++ names_text to ++ codes "]")) f x ∙ ap (λ (t : Text). codes ",\"to\":[" ++ t) (append_assoc (names_text to) (93 ∷ []) (f ++ x))

row_is : (uid dest x : Text) → row_part uid dest ++ x ≡ row_then uid dest x
row_is uid dest x = append_assoc (word (codes "uid") uid) (word (codes "dest") dest) x

line_is : (line : JournalLine) (x : Text) → line_part line ++ x ≡ line_then line x
line_is (told.Arrival caller item to keep) x =
    append_assoc (arrived_part (codes "arrival") caller item) (goals_part to keep) x ∙ ap (λ (t : Text). arrived_part (codes "arrival") caller item ++ t) (goals_are to keep x)
    ∙ arrived_is (codes "arrival") caller item (goals_then to keep x)
line_is (told.Repeat caller item) x = arrived_is (codes "repeat") caller item x
line_is (told.Settling uid dest came now) x =
    let k = kind_part (codes "settling") in
    let r = row_part uid dest in
    let o = word (codes "outcome") (outcome_text came) in
    let m = number (codes "moment") now in
    append_assoc (k ++ r ++ o) m x ∙ append_assoc (k ++ r) o (m ++ x) ∙ append_assoc k r (o ++ (m ++ x)) ∙ ap (λ (t : Text). k ++ t) (row_is uid dest (o ++ (m ++ x)))
line_is (told.Requeuing uid dest) x =
    let k = kind_part (codes "requeuing") in
    append_assoc k (row_part uid dest) x ∙ ap (λ (t : Text). k ++ t) (row_is uid dest x)
line_is (told.Dropping uid dest now) x =
    let k = kind_part (codes "dropping") in
    let m = number (codes "moment") now in
    append_assoc (k ++ row_part uid dest) m x ∙ append_assoc k (row_part uid dest) (m ++ x) ∙ ap (λ (t : Text). k ++ t) (row_is uid dest (m ++ x))
line_is (told.Forgetting uid) x = append_assoc (kind_part (codes "forgetting")) (word (codes "uid") uid) x
line_is told.Adoption x = refl

abbrev opened : Text
opened = codes "{\"line\":"

pub sealed_is : (n : ℕ) (line : JournalLine) (moment : Option ℕ) → sealed_text n line moment ≡ sealed_then n line moment
sealed_is n line moment =
    append_assoc (begun_line n line) (moment_part moment) (codes "}") ∙ append_assoc (opened ++ decimal n) (line_part line) (ended moment) ∙ append_assoc opened (decimal n) (line_part line ++ ended moment)
    ∙ ap (λ (t : Text). opened ++ (decimal n ++ t)) (line_is line (ended moment))

-- ---- its end

brace_stops : EndsDigits (codes "}")
brace_stops = record { it = inr (omega arith) }

end_stops : (moment : Option ℕ) → EndsDigits (ended moment)
end_stops None = brace_stops
end_stops (Some moment) = comma (ended (Some moment)) refl

ends_well : (line : JournalLine) (moment : Option ℕ) → EndsAt line (ended moment)
ends_well (told.Settling uid dest came now) moment = end_stops moment
ends_well (told.Dropping uid dest now) moment = end_stops moment
ends_well line moment = tt

abbrev pub NoEnd : Text → Type 0
NoEnd text = (moment : Option ℕ) → FitsMoment moment → text ≡ ended moment → ⊥

pub no_end : (text : Text) → (text ≡ codes "}" → ⊥) → HasNone (IsCount (codes ",\"at\":") text) → NoEnd text
no_end text brace none None fits is = brace is
no_end text brace none (Some moment) fits is = none moment (codes "}") (fits, brace_stops, is)

module _ (text : Text) (n : ℕ) (rest : Bor Text) (cut : IsCut ℕ ℕ Same (IsCount (codes ",\"at\":") text) (n, rest)) where
  pub end_goes_on : (text ≡ codes "}" → ⊥) → (rest.now ≡ codes "}" → ⊥) → NoEnd text
  end_goes_on brace more None fits is = brace is
  end_goes_on brace more (Some moment) fits is = more (sym (cut.each moment (codes "}") (fits, brace_stops, is)).1)

  pub ended_there : rest.now ≡ codes "}" → FitsMoment (Some n) × (text ≡ ended (Some n))
  ended_there is =
      let found = found_is ℕ (IsCount (codes ",\"at\":") text) n rest cut in
      (found.0, found.2 ∙ ap (λ (t : Text). codes ",\"at\":" ++ (decimal n ++ t)) is)

-- ---- all of it

kind_stops : (k : CallKind) (x : Text) → EndsDigits (kind_text k ++ x)
kind_stops kind.Arrival x = comma (kind_text kind.Arrival ++ x) refl
kind_stops kind.Repeat x = comma (kind_text kind.Repeat ++ x) refl
kind_stops kind.Settling x = comma (kind_text kind.Settling ++ x) refl
kind_stops kind.Requeuing x = comma (kind_text kind.Requeuing ++ x) refl
kind_stops kind.Dropping x = comma (kind_text kind.Dropping ++ x) refl
kind_stops kind.Forgetting x = comma (kind_text kind.Forgetting ++ x) refl
kind_stops kind.Adoption x = comma (kind_text kind.Adoption ++ x) refl

pub number_there : (text : Text) (n : ℕ) (line : JournalLine) (moment : Option ℕ) → IsTextOf text n line moment → IsCount opened text n (line_then line (ended moment))
number_there text n line moment is = (is.number, kind_stops (kind_of line) _, is.is ∙ sealed_is n line moment)

pub unnumbered : (text : Text) → HasNone (IsCount opened text) → IsOfNoLine text
unnumbered text none n line moment is = none n (line_then line (ended moment)) (number_there text n line moment is)

module _ (text : Text) (number : ℕ) (r1 : Bor Text) (c1 : IsCut ℕ ℕ Same (IsCount opened text) (number, r1)) where
  line_there : (n : ℕ) (line : JournalLine) (moment : Option ℕ) → IsTextOf text n line moment → IsLineFirst r1.now line (ended moment)
  line_there n line moment is =
      record { held = is.held; ends = ends_well line moment; is = sym (c1.each n (line_then line (ended moment)) (number_there text n line moment is)).1 }

  pub no_line : HasNone (IsLineFirst r1.now) → IsOfNoLine text
  no_line none n line moment is = none line (ended moment) (line_there n line moment is)

  module _ (places : LinePlaces) (r2 : Bor Text) (c2 : IsCut LinePlaces JournalLine ShowsLine (IsLineFirst r1.now) (places, r2)) where
    pub no_moment : NoEnd r2.now → IsOfNoLine text
    no_moment none n line moment is = none moment is.written (sym (c2.each line (ended moment) (line_there n line moment is)).1)

    pub found : (moment : Option ℕ) → FitsMoment moment × (r2.now ≡ ended moment) → IsFound text (record { number = number; line = places; moment = moment })
    found moment end =
        let line = c2.value in
        let count = found_is ℕ (IsCount opened text) number r1 c1 in (
          line,
          (c2.each line r2.now c2.is).0,
          record {
            number = count.0;
            held = c2.is.held;
            written = end.0;
            is = count.2 ∙ ap (λ (t : Text). opened ++ (decimal number ++ t)) (c2.is.is ∙ ap (λ (t : Text). line_then line t) end.1) ∙ sym (sealed_is number line moment);
          },
        )

-- ---- as the program has it

held_fits : (item : Instance) → IsHeldItem item → FitsInstance item
held_fits item held = (held.size, held.digest.bytes)

fits : (line : JournalLine) → IsHeldLine line → FitsLine line
fits (told.Arrival caller item to keep) held = held_fits item held.1
fits (told.Repeat caller item) held = held_fits item held.1
fits (told.Settling uid dest came now) held = (held.2, held.3)
fits (told.Requeuing uid dest) held = tt
fits (told.Dropping uid dest now) held = held.2
fits (told.Forgetting uid) held = tt
fits told.Adoption held = tt

pub sealable : (text : Text) (n : ℕ) (line : JournalLine) (moment : Option ℕ) → IsTextOf text n line moment → IsSealable n line moment
sealable text n line moment is = record { number = is.number; said = fits line is.held; written = is.written }
