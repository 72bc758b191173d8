-- What lines say, cut off the front of a text.
use Rattle.std.proofs.Common.{◌≡◌, ◌∙◌, ◌<◌, ◌^◌, ℕ, Bool, List, [], ◌∷◌, ◌++◌, Option, None, Some, Bor, refl, sym, ap, subst, arith, append_assoc, get_or, inl, inr, codes, decimal}
use Rattle.dr_base.specs.Texts.{Text}
use Rattle.dr_ledger.specs.declared.item.Instance.{Instance}
use Rattle.dr_ledger.specs.declared.item.Outcome.{Outcome}
use Rattle.dr_ledger_history.specs.declared.line.JournalLine.{JournalLine}
use Rattle.dr_ledger_history.specs.declared.line.JournalLine.TheVariants as told
use Rattle.dr_ledger_text.specs.Lines.{names_text}
use Rattle.dr_ledger_text.specs.Members.{flag, number, word}
use Rattle.dr_ledger_text.proofs.Pieces.{behind_same}
use Rattle.dr_ledger_read.specs.Behind.{goals_then, item_then, kind_of, kind_text, line_then, moment_then, outcome_then, row_then, said_then}
use Rattle.dr_ledger_read.specs.Cutting.{Cuts, HasNone, IsCut, Same}
use Rattle.dr_ledger_read.specs.Held.{IsHeldLine}
use Rattle.dr_ledger_read.specs.Pieces.{AreBytes, Holds, IsCount, IsNames, IsWord, EndsDigits}
use Rattle.dr_ledger_read.specs.Places.{EndsAt, HoldsNames, IsItem, IsKeep, IsKind, IsLineFirst, IsOutcome, IsRow, IsSaid, ShowsItem, ShowsLine}
use Rattle.dr_ledger_read.specs.declared.kind.CallKind.{CallKind}
use Rattle.dr_ledger_read.specs.declared.kind.CallKind.TheVariants as kind
use Rattle.dr_ledger_read.specs.declared.places.ItemPlaces.{ItemPlaces}
use Rattle.dr_ledger_read.specs.declared.places.LinePlaces.{LinePlaces}
use Rattle.dr_ledger_read.specs.declared.places.LinePlaces.TheVariants as stands
use Rattle.dr_ledger_read.proofs.Instances.{CutsWord, comma}

-- a number by which kinds are told apart
abbrev order_of : CallKind → ℕ
order_of kind.Arrival = 0
order_of kind.Repeat = 1
order_of kind.Settling = 2
order_of kind.Requeuing = 3
order_of kind.Dropping = 4
order_of kind.Forgetting = 5
order_of kind.Adoption = 6

-- ---- a row

abbrev ShowsRow : Bor Text × Bor Text → Text × Text → Type 0
ShowsRow places row = Holds places.0.now row.0 × Holds places.1.now row.1

pub no_row_uid : (text : Text) → HasNone (IsWord (codes ",\"uid\":") text) → HasNone (IsRow text)
no_row_uid text none row rest is = none row.0 (word (codes "dest") row.1 ++ rest) (is.0, is.2)

module _ (text : Text) (uid r1 : Bor Text) (c1 : CutsWord (codes ",\"uid\":") text uid r1) where
  after_row_uid : (row : Text × Text) (rest : Text) → IsRow text row rest → Holds uid.now row.0 × (word (codes "dest") row.1 ++ rest ≡ r1.now)
  after_row_uid row rest is = c1.each row.0 (word (codes "dest") row.1 ++ rest) (is.0, is.2)

  pub no_dest : HasNone (IsWord (codes ",\"dest\":") r1.now) → HasNone (IsRow text)
  no_dest none row rest is = none row.1 rest (is.1, sym (after_row_uid row rest is).1)

  pub row_cut : (dest r2 : Bor Text) → CutsWord (codes ",\"dest\":") r1.now dest r2 → IsCut (Bor Text × Bor Text) (Text × Text) ShowsRow (IsRow text) ((uid, dest), r2)
  row_cut dest r2 c2 = record {
    value = (c1.value, c2.value);
    is = (c1.is.0, c2.is.0, c1.is.1 ∙ ap (λ (l : Text). word (codes "uid") c1.value ++ l) c2.is.1);
    each = λ row rest is. let last = c2.each row.1 rest (is.1, sym (after_row_uid row rest is).1) in (((after_row_uid row rest is).0, last.0), last.1);
  }

-- ---- a line without a row

pub forgetting_none : (text : Text) → HasNone (IsWord (codes ",\"uid\":") text) → HasNone (IsSaid kind.Forgetting text)
forgetting_none text none (told.Forgetting uid) rest is = none uid rest (is.held, is.is)
forgetting_none text none line rest is = absurd (omega (arith, ap order_of is.of_kind))

pub forgetting_cut : (text : Text) (uid r1 : Bor Text) → CutsWord (codes ",\"uid\":") text uid r1 → IsCut LinePlaces JournalLine ShowsLine (IsSaid kind.Forgetting text) (stands.Forgetting uid, r1)
forgetting_cut text uid r1 c1 = record { value = told.Forgetting c1.value; is = record { of_kind = refl; held = c1.is.0; ends = tt; is = c1.is.1 }; each = one }
  where
    one : (line : JournalLine) (rest : Text) → IsSaid kind.Forgetting text line rest → ShowsLine (stands.Forgetting uid) line × (rest ≡ r1.now)
    one (told.Forgetting u) rest is = c1.each u rest (is.held, is.is)
    one line rest is = absurd (omega (arith, ap order_of is.of_kind))

-- ---- a line of a row alone

pub requeuing_none : (text : Text) → HasNone (IsRow text) → HasNone (IsSaid kind.Requeuing text)
requeuing_none text none (told.Requeuing uid dest) rest is = none (uid, dest) rest (is.held.0, is.held.1, is.is)
requeuing_none text none line rest is = absurd (omega (arith, ap order_of is.of_kind))

pub requeuing_cut : (text : Text) (uid dest r1 : Bor Text) → IsCut (Bor Text × Bor Text) (Text × Text) ShowsRow (IsRow text) ((uid, dest), r1)
    → IsCut LinePlaces JournalLine ShowsLine (IsSaid kind.Requeuing text) (stands.Requeuing uid dest, r1)
requeuing_cut text uid dest r1 c1 =
    record { value = told.Requeuing c1.value.0 c1.value.1; is = record { of_kind = refl; held = (c1.is.0, c1.is.1); ends = tt; is = c1.is.2 }; each = one }
  where
    one : (line : JournalLine) (rest : Text) → IsSaid kind.Requeuing text line rest → ShowsLine (stands.Requeuing uid dest) line × (rest ≡ r1.now)
    one (told.Requeuing u d) rest is = c1.each (u, d) rest (is.held.0, is.held.1, is.is)
    one line rest is = absurd (omega (arith, ap order_of is.of_kind))

-- ---- a row given up

pub dropping_none : (text : Text) → HasNone (IsRow text) → HasNone (IsSaid kind.Dropping text)
dropping_none text none (told.Dropping uid dest now) rest is = none (uid, dest) (moment_then now rest) (is.held.0, is.held.1, is.is)
dropping_none text none line rest is = absurd (omega (arith, ap order_of is.of_kind))

module _ (text : Text) (uid dest r1 : Bor Text) (c1 : IsCut (Bor Text × Bor Text) (Text × Text) ShowsRow (IsRow text) ((uid, dest), r1)) where
  dropped_row : (u d : Text) (now : ℕ) (rest : Text) → IsSaid kind.Dropping text (told.Dropping u d now) rest → ShowsRow (uid, dest) (u, d) × IsCount (codes ",\"moment\":") r1.now now rest
  dropped_row u d now rest is = let r = c1.each (u, d) (moment_then now rest) (is.held.0, is.held.1, is.is) in (r.0, (is.held.2, is.ends, sym r.1))

  pub dropping_unended : HasNone (IsCount (codes ",\"moment\":") r1.now) → HasNone (IsSaid kind.Dropping text)
  dropping_unended none (told.Dropping u d now) rest is = none now rest (dropped_row u d now rest is).1
  dropping_unended none line rest is = absurd (omega (arith, ap order_of is.of_kind))

  pub dropping_cut : (now : ℕ) (r2 : Bor Text) → IsCut ℕ ℕ Same (IsCount (codes ",\"moment\":") r1.now) (now, r2)
      → IsCut LinePlaces JournalLine ShowsLine (IsSaid kind.Dropping text) (stands.Dropping uid dest now, r2)
  dropping_cut now r2 c2 = record {
    value = told.Dropping c1.value.0 c1.value.1 c2.value;
    is = record { of_kind = refl; held = (c1.is.0, c1.is.1, c2.is.0); ends = c2.is.1; is = c1.is.2 ∙ ap (λ (l : Text). row_then c1.value.0 c1.value.1 l) c2.is.2 };
    each = one;
  }
    where
      one : (line : JournalLine) (rest : Text) → IsSaid kind.Dropping text line rest → ShowsLine (stands.Dropping uid dest now) line × (rest ≡ r2.now)
      one (told.Dropping u d n) rest is =
          let r = dropped_row u d n rest is in
          let s = c2.each n rest r.1 in
          ((r.0.0, r.0.1, s.0), s.1)
      one line rest is = absurd (omega (arith, ap order_of is.of_kind))

-- ---- what came of a try

abbrev came_then : Outcome → ℕ → Text → Text
came_then came now rest = outcome_then came (moment_then now rest)

pub settling_none : (text : Text) → HasNone (IsRow text) → HasNone (IsSaid kind.Settling text)
settling_none text none (told.Settling uid dest came now) rest is = none (uid, dest) (came_then came now rest) (is.held.0, is.held.1, is.is)
settling_none text none line rest is = absurd (omega (arith, ap order_of is.of_kind))

module _ (text : Text) (uid dest r1 : Bor Text) (c1 : IsCut (Bor Text × Bor Text) (Text × Text) ShowsRow (IsRow text) ((uid, dest), r1)) where
  settled_row : (u d : Text) (came : Outcome) (now : ℕ) (rest : Text) → IsSaid kind.Settling text (told.Settling u d came now) rest → ShowsRow (uid, dest) (u, d) × IsOutcome r1.now came (moment_then now rest)
  settled_row u d came now rest is = let r = c1.each (u, d) (came_then came now rest) (is.held.0, is.held.1, is.is) in (r.0, (is.held.2, sym r.1))

  pub settling_no_outcome : HasNone (IsOutcome r1.now) → HasNone (IsSaid kind.Settling text)
  settling_no_outcome none (told.Settling u d came now) rest is = none came (moment_then now rest) (settled_row u d came now rest is).1
  settling_no_outcome none line rest is = absurd (omega (arith, ap order_of is.of_kind))

  module _ (outcome : Outcome) (r2 : Bor Text) (c2 : IsCut Outcome Outcome Same (IsOutcome r1.now) (outcome, r2)) where
    settled : (u d : Text) (came : Outcome) (now : ℕ) (rest : Text) → IsSaid kind.Settling text (told.Settling u d came now) rest → (outcome ≡ came) × IsCount (codes ",\"moment\":") r2.now now rest
    settled u d came now rest is = let r = c2.each came (moment_then now rest) (settled_row u d came now rest is).1 in (r.0, (is.held.3, is.ends, sym r.1))

    pub settling_unended : HasNone (IsCount (codes ",\"moment\":") r2.now) → HasNone (IsSaid kind.Settling text)
    settling_unended none (told.Settling u d came now) rest is = none now rest (settled u d came now rest is).1
    settling_unended none line rest is = absurd (omega (arith, ap order_of is.of_kind))

    pub settling_cut : (now : ℕ) (r3 : Bor Text) → IsCut ℕ ℕ Same (IsCount (codes ",\"moment\":") r2.now) (now, r3)
        → IsCut LinePlaces JournalLine ShowsLine (IsSaid kind.Settling text) (stands.Settling uid dest outcome now, r3)
    settling_cut now r3 c3 = record {
      value = told.Settling c1.value.0 c1.value.1 c2.value c3.value;
      is = record {
        of_kind = refl;
        held = (c1.is.0, c1.is.1, c2.is.0, c3.is.0);
        ends = c3.is.1;
        is = c1.is.2 ∙ ap (λ (l : Text). row_then c1.value.0 c1.value.1 l) (c2.is.1 ∙ ap (λ (l : Text). outcome_then c2.value l) c3.is.2);
      };
      each = one;
    }
      where
        one : (line : JournalLine) (rest : Text) → IsSaid kind.Settling text line rest → ShowsLine (stands.Settling uid dest outcome now) line × (rest ≡ r3.now)
        one (told.Settling u d came n) rest is =
            let r = settled_row u d came n rest is in
            let s = settled u d came n rest is in
            let t = c3.each n rest s.1 in
            ((r.0.0, r.0.1, s.0, t.0), t.1)
        one line rest is = absurd (omega (arith, ap order_of is.of_kind))

-- ---- an arrival again

pub repeat_none : (text : Text) → HasNone (IsWord (codes ",\"caller\":") text) → HasNone (IsSaid kind.Repeat text)
repeat_none text none (told.Repeat caller item) rest is = none caller (item_then item rest) (is.held.0, is.is)
repeat_none text none line rest is = absurd (omega (arith, ap order_of is.of_kind))

module _ (text : Text) (caller r1 : Bor Text) (c1 : CutsWord (codes ",\"caller\":") text caller r1) where
  repeated : (c : Text) (item : Instance) (rest : Text) → IsSaid kind.Repeat text (told.Repeat c item) rest → Holds caller.now c × IsItem r1.now item rest
  repeated c item rest is = let r = c1.each c (item_then item rest) (is.held.0, is.is) in (r.0, (is.held.1, sym r.1))

  pub repeat_no_item : HasNone (IsItem r1.now) → HasNone (IsSaid kind.Repeat text)
  repeat_no_item none (told.Repeat c item) rest is = none item rest (repeated c item rest is).1
  repeat_no_item none line rest is = absurd (omega (arith, ap order_of is.of_kind))

  pub repeat_cut : (item : ItemPlaces) (r2 : Bor Text) → IsCut ItemPlaces Instance ShowsItem (IsItem r1.now) (item, r2)
      → IsCut LinePlaces JournalLine ShowsLine (IsSaid kind.Repeat text) (stands.Repeat caller item, r2)
  repeat_cut item r2 c2 = record {
    value = told.Repeat c1.value c2.value;
    is = record { of_kind = refl; held = (c1.is.0, c2.is.0); ends = tt; is = c1.is.1 ∙ ap (λ (l : Text). word (codes "caller") c1.value ++ l) c2.is.1 };
    each = one;
  }
    where
      one : (line : JournalLine) (rest : Text) → IsSaid kind.Repeat text line rest → ShowsLine (stands.Repeat caller item) line × (rest ≡ r2.now)
      one (told.Repeat c i) rest is =
          let r = repeated c i rest is in
          let s = c2.each i rest r.1 in
          ((r.0, s.0), s.1)
      one line rest is = absurd (omega (arith, ap order_of is.of_kind))

-- ---- a first arrival

abbrev arrived_2 : Instance → List Text → Bool → Text → Text
arrived_2 item to keep rest = item_then item (goals_then to keep rest)

abbrev names_then : List Text → Bool → Text → Text
names_then to keep rest = names_text to ++ 93 ∷ (flag (codes "keep") keep ++ rest)

pub arrival_none : (text : Text) → HasNone (IsWord (codes ",\"caller\":") text) → HasNone (IsSaid kind.Arrival text)
arrival_none text none (told.Arrival caller item to keep) rest is = none caller (arrived_2 item to keep rest) (is.held.0, is.is)
arrival_none text none line rest is = absurd (omega (arith, ap order_of is.of_kind))

module _ (text : Text) (caller r1 : Bor Text) (c1 : CutsWord (codes ",\"caller\":") text caller r1) where
  arrived : (c : Text) (i : Instance) (to : List Text) (keep : Bool) (rest : Text) → IsSaid kind.Arrival text (told.Arrival c i to keep) rest → Holds caller.now c × IsItem r1.now i (goals_then to keep rest)
  arrived c i to keep rest is = let r = c1.each c (arrived_2 i to keep rest) (is.held.0, is.is) in (r.0, (is.held.1, sym r.1))

  pub arrival_no_item : HasNone (IsItem r1.now) → HasNone (IsSaid kind.Arrival text)
  arrival_no_item none (told.Arrival c i to keep) rest is = none i (goals_then to keep rest) (arrived c i to keep rest is).1
  arrival_no_item none line rest is = absurd (omega (arith, ap order_of is.of_kind))

  module _ (item : ItemPlaces) (r2 : Bor Text) (c2 : IsCut ItemPlaces Instance ShowsItem (IsItem r1.now) (item, r2)) where
    brought : (c : Text) (i : Instance) (to : List Text) (keep : Bool) (rest : Text) → IsSaid kind.Arrival text (told.Arrival c i to keep) rest → ShowsItem item i × (goals_then to keep rest ≡ r2.now)
    brought c i to keep rest is = c2.each i (goals_then to keep rest) (arrived c i to keep rest is).1

    pub arrival_no_list : ((rest : Text) → r2.now ≡ codes ",\"to\":[" ++ rest → ⊥) → HasNone (IsSaid kind.Arrival text)
    arrival_no_list none (told.Arrival c i to keep) rest is = none (names_then to keep rest) (sym (brought c i to keep rest is).1)
    arrival_no_list none line rest is = absurd (omega (arith, ap order_of is.of_kind))

    module _ (r3 : Text) (opens : r2.now ≡ codes ",\"to\":[" ++ r3) where
      named : (c : Text) (i : Instance) (to : List Text) (keep : Bool) (rest : Text) → IsSaid kind.Arrival text (told.Arrival c i to keep) rest → IsNames r3 to (flag (codes "keep") keep ++ rest)
      named c i to keep rest is = (is.held.2, behind_same (codes ",\"to\":[") r3 (names_then to keep rest) (sym opens ∙ sym (brought c i to keep rest is).1))

      pub arrival_no_names : HasNone (IsNames r3) → HasNone (IsSaid kind.Arrival text)
      arrival_no_names none (told.Arrival c i to keep) rest is = none to (flag (codes "keep") keep ++ rest) (named c i to keep rest is)
      arrival_no_names none line rest is = absurd (omega (arith, ap order_of is.of_kind))

      module _ (to r4 : Bor Text) (c4 : IsCut (Bor Text) (List Text) (λ (p : Bor Text). HoldsNames p.now) (IsNames r3) (to, r4)) where
        sent : (c : Text) (i : Instance) (t : List Text) (keep : Bool) (rest : Text) → IsSaid kind.Arrival text (told.Arrival c i t keep) rest → HoldsNames to.now t × IsKeep r4.now keep rest
        sent c i t keep rest is = let r = c4.each t (flag (codes "keep") keep ++ rest) (named c i t keep rest is) in (r.0, sym r.1)

        pub arrival_unended : HasNone (IsKeep r4.now) → HasNone (IsSaid kind.Arrival text)
        arrival_unended none (told.Arrival c i t keep) rest is = none keep rest (sent c i t keep rest is).1
        arrival_unended none line rest is = absurd (omega (arith, ap order_of is.of_kind))

        pub arrival_cut : (keep : Bool) (r5 : Bor Text) → IsCut Bool Bool Same (IsKeep r4.now) (keep, r5)
            → IsCut LinePlaces JournalLine ShowsLine (IsSaid kind.Arrival text) (stands.Arrival caller item to keep, r5)
        arrival_cut keep r5 c5 = record {
          value = told.Arrival c1.value c2.value c4.value c5.value;
          is = record {
            of_kind = refl;
            held = (c1.is.0, c2.is.0, c4.is.0);
            ends = tt;
            is = c1.is.1 ∙ ap (λ (l : Text). word (codes "caller") c1.value ++ l)
                (c2.is.1 ∙ ap (λ (l : Text). item_then c2.value l) (opens ∙ ap (λ (l : Text). codes ",\"to\":[" ++ l) (c4.is.1 ∙ ap (λ (l : Text). names_text c4.value ++ 93 ∷ l) c5.is)));
          };
          each = one;
        }
          where
            one : (line : JournalLine) (rest : Text) → IsSaid kind.Arrival text line rest → ShowsLine (stands.Arrival caller item to keep) line × (rest ≡ r5.now)
            one (told.Arrival c i t k) rest is =
                let s = sent c i t k rest is in
                let u = c5.each k rest s.1 in
                (((arrived c i t k rest is).0, (brought c i t k rest is).0, s.0, u.0), u.1)
            one line rest is = absurd (omega (arith, ap order_of is.of_kind))

-- ---- a line with its kind

pub no_line_kind : (text : Text) → HasNone (IsKind text) → HasNone (IsLineFirst text)
no_line_kind text none line rest is = none (kind_of line) (said_then line rest) is.is

module _ (text : Text) (k : CallKind) (behind : Bor Text) (c1 : IsCut CallKind CallKind Same (IsKind text) (k, behind)) where
  said_there : (line : JournalLine) (rest : Text) → IsLineFirst text line rest → IsSaid k behind.now line rest
  said_there line rest is = let r = c1.each (kind_of line) (said_then line rest) is.is in record { of_kind = sym r.0; held = is.held; ends = is.ends; is = sym r.1 }

  pub line_cut : (r : Option (LinePlaces × Bor Text)) → Cuts ShowsLine (IsSaid k behind.now) r → Cuts ShowsLine (IsLineFirst text) r
  line_cut None none = λ line rest is. none line rest (said_there line rest is)
  line_cut (Some found) cut =
      let same : k ≡ c1.value = (c1.each c1.value behind.now c1.is).0 in record {
        value = cut.value;
        is = record {
          held = cut.is.held;
          ends = cut.is.ends;
          is = c1.is ∙ ap (λ (j : CallKind). kind_text j ++ behind.now) (sym same ∙ sym cut.is.of_kind) ∙ ap (λ (l : Text). kind_text (kind_of cut.value) ++ l) cut.is.is;
        };
        each = λ line rest is. cut.each line rest (said_there line rest is);
      }

pub adoption_cut : (text : Bor Text) → IsCut LinePlaces JournalLine ShowsLine (IsSaid kind.Adoption text.now) (stands.Adoption, text)
adoption_cut text = record { value = told.Adoption; is = record { of_kind = refl; held = tt; ends = tt; is = refl }; each = one }
  where
    one : (line : JournalLine) (rest : Text) → IsSaid kind.Adoption text.now line rest → ShowsLine stands.Adoption line × (rest ≡ text.now)
    one told.Adoption rest is = (tt, sym is.is)
    one line rest is = absurd (omega (arith, ap order_of is.of_kind))
