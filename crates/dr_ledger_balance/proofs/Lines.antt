-- Lines, cut off the front of a text.
use Rattle.std.proofs.Common.{◌≡◌, ◌∙◌, ℕ, List, [], ◌∷◌, ◌++◌, refl, sym, ap, drop, codes}
use Rattle.dr_base.specs.Texts.{Text}
use Rattle.dr_base.specs.declared.syntax.Syntax.{Syntax}
use Rattle.dr_route.specs.declared.key.Key.{Key}
use Rattle.dr_cert_text.specs.Printable.{IsDigest}
use Rattle.dr_ledger.specs.Pairs.{Pair}
use Rattle.dr_ledger.specs.declared.item.Instance.{Instance}
use Rattle.dr_ledger.specs.declared.item.Progress.{Progress}
use Rattle.dr_ledger_balance.specs.Fields.{FitsField, FitsNumber, FitsProgress, digest_then, field_then, number_then, progress_then, syntax_then}
use Rattle.dr_ledger_balance.specs.Pieces.{HasNone, IsPiece}
use Rattle.dr_ledger_balance.specs.Spelling.{FitsArrival, FitsItem, FitsKey, FitsRow, arrival_then, end_then, item_then, kept_then, key_then, row_then}
use Rattle.dr_ledger_balance.proofs.Apart.{digest_apart, field_apart, key_apart, number_apart, progress_apart, syntax_apart}
use Rattle.dr_ledger_balance.proofs.Cutting.{behind}

-- what is behind the word of a line
pub said : (word text rest other : Text) → text ≡ word ++ rest → text ≡ word ++ other → rest ≡ other
said [] text rest other e f = sym e ∙ f
said (c ∷ cs) text rest other e f = said cs (cs ++ rest) rest other refl (ap (λ (l : List ℕ). drop 1 l) (sym e ∙ f))

-- ---- what rules read of an instance

module _ (text : Text) where
  abbrev key_2 : Key → Text → Text
  key_2 key x = syntax_then key.syntax (field_then key.modality (field_then key.station x))

  abbrev key_3 : Key → Text → Text
  key_3 key x = field_then key.modality (field_then key.station x)

  abbrev key_4 : Key → Text → Text
  key_4 key x = field_then key.station x

  pub no_class : HasNone FitsField field_then text → HasNone FitsKey key_then text
  no_class none key rest is = none key.class (key_2 key rest) (is.0.class, is.1)

  module _ (class r1 : Text) (c1 : IsPiece FitsField field_then text class r1) where
    after_class : (key : Key) (rest : Text) → IsPiece FitsKey key_then text key rest → r1 ≡ key_2 key rest
    after_class key rest is = (behind FitsField field_then field_apart text class key.class r1 (key_2 key rest) c1 is.0.class is.1).1

    pub no_syntax_there : HasNone (λ (s : Syntax). Unit {0}) syntax_then r1 → HasNone FitsKey key_then text
    no_syntax_there none key rest is = none key.syntax (key_3 key rest) (tt, after_class key rest is)

    module _ (syntax : Syntax) (r2 : Text) (c2 : IsPiece (λ (s : Syntax). Unit {0}) syntax_then r1 syntax r2) where
      after_syntax : (key : Key) (rest : Text) → IsPiece FitsKey key_then text key rest → r2 ≡ key_3 key rest
      after_syntax key rest is = (behind (λ (s : Syntax). Unit {0}) syntax_then syntax_apart r1 syntax key.syntax r2 (key_3 key rest) c2 tt (after_class key rest is)).1

      pub no_modality : HasNone FitsField field_then r2 → HasNone FitsKey key_then text
      no_modality none key rest is = none key.modality (key_4 key rest) (is.0.modality, after_syntax key rest is)

      module _ (modality r3 : Text) (c3 : IsPiece FitsField field_then r2 modality r3) where
        pub no_station : HasNone FitsField field_then r3 → HasNone FitsKey key_then text
        no_station none key rest is =
            none key.station rest (is.0.station, (behind FitsField field_then field_apart r2 modality key.modality r3 (key_4 key rest) c3 is.0.modality (after_syntax key rest is)).1)

        pub key_there : (station r4 : Text) → IsPiece FitsField field_then r3 station r4
            → IsPiece FitsKey key_then text (record { class = class; syntax = syntax; modality = modality; station = station }) r4
        key_there station r4 c4 = (
          record { class = c1.0; modality = c3.0; station = c4.0 },
          c1.1 ∙ ap (λ (l : Text). field_then class l) (c2.1 ∙ ap (λ (l : Text). syntax_then syntax l) (c3.1 ∙ ap (λ (l : Text). field_then modality l) c4.1)),
        )

-- ---- an instance

abbrev item_1 : Instance → Text → Text
item_1 item x = field_then item.uid (key_then item.key (number_then item.size (digest_then item.digest (10 ∷ x))))

abbrev item_2 : Instance → Text → Text
item_2 item x = key_then item.key (number_then item.size (digest_then item.digest (10 ∷ x)))

abbrev item_3 : Instance → Text → Text
item_3 item x = number_then item.size (digest_then item.digest (10 ∷ x))

pub no_instance : (text : Text) → ((rest : Text) → text ≡ codes "instance" ++ rest → ⊥) → HasNone FitsItem item_then text
no_instance text none item rest is = none (item_1 item rest) is.1

module _ (text fields : Text) (opens : text ≡ codes "instance" ++ fields) where
  fields_are : (item : Instance) (rest : Text) → IsPiece FitsItem item_then text item rest → fields ≡ item_1 item rest
  fields_are item rest is = said (codes "instance") text fields (item_1 item rest) opens is.1

  pub no_item_uid : HasNone FitsField field_then fields → HasNone FitsItem item_then text
  no_item_uid none item rest is = none item.uid (item_2 item rest) (is.0.uid, fields_are item rest is)

  module _ (uid r1 : Text) (c1 : IsPiece FitsField field_then fields uid r1) where
    after_uid : (item : Instance) (rest : Text) → IsPiece FitsItem item_then text item rest → r1 ≡ item_2 item rest
    after_uid item rest is = (behind FitsField field_then field_apart fields uid item.uid r1 (item_2 item rest) c1 is.0.uid (fields_are item rest is)).1

    pub no_key : HasNone FitsKey key_then r1 → HasNone FitsItem item_then text
    no_key none item rest is = none item.key (item_3 item rest) (is.0.key, after_uid item rest is)

    module _ (key : Key) (r2 : Text) (c2 : IsPiece FitsKey key_then r1 key r2) where
      after_key : (item : Instance) (rest : Text) → IsPiece FitsItem item_then text item rest → r2 ≡ item_3 item rest
      after_key item rest is = (behind FitsKey key_then key_apart r1 key item.key r2 (item_3 item rest) c2 is.0.key (after_uid item rest is)).1

      pub no_size : HasNone FitsNumber number_then r2 → HasNone FitsItem item_then text
      no_size none item rest is = none item.size (digest_then item.digest (10 ∷ rest)) (is.0.size, after_key item rest is)

      module _ (size : ℕ) (r3 : Text) (c3 : IsPiece FitsNumber number_then r2 size r3) where
        after_size : (item : Instance) (rest : Text) → IsPiece FitsItem item_then text item rest → r3 ≡ digest_then item.digest (10 ∷ rest)
        after_size item rest is = (behind FitsNumber number_then number_apart r2 size item.size r3 (digest_then item.digest (10 ∷ rest)) c3 is.0.size (after_key item rest is)).1

        pub no_item_digest : HasNone IsDigest digest_then r3 → HasNone FitsItem item_then text
        no_item_digest none item rest is = none item.digest (10 ∷ rest) (is.0.digest, after_size item rest is)

        module _ (digest r4 : Text) (c4 : IsPiece IsDigest digest_then r3 digest r4) where
          pub unended_item : ((rest : Text) → r4 ≡ 10 ∷ rest → ⊥) → HasNone FitsItem item_then text
          unended_item none item rest is =
              none rest (behind IsDigest digest_then digest_apart r3 digest item.digest r4 (10 ∷ rest) c4 is.0.digest (after_size item rest is)).1

          pub item_there : (rest : Text) → r4 ≡ 10 ∷ rest → IsPiece FitsItem item_then text (record { uid = uid; key = key; size = size; digest = digest }) rest
          item_there rest closes = (
            record { uid = c1.0; key = c2.0; size = c3.0; digest = c4.0 },
            opens
                ∙ ap (λ (l : Text). codes "instance" ++ l)
                (c1.1
                ∙ ap (λ (l : Text). field_then uid l)
                (c2.1 ∙ ap (λ (l : Text). key_then key l) (c3.1 ∙ ap (λ (l : Text). number_then size l) (c4.1 ∙ ap (λ (l : Text). digest_then digest l) closes)))),
          )

-- ---- a line of one field

pub no_kept : (text : Text) → ((rest : Text) → text ≡ codes "kept" ++ rest → ⊥) → HasNone FitsField kept_then text
no_kept text none uid rest is = none (field_then uid (10 ∷ rest)) is.1

module _ (text fields : Text) (opens : text ≡ codes "kept" ++ fields) where
  kept_is : (uid rest : Text) → IsPiece FitsField kept_then text uid rest → fields ≡ field_then uid (10 ∷ rest)
  kept_is uid rest is = said (codes "kept") text fields (field_then uid (10 ∷ rest)) opens is.1

  pub no_kept_uid : HasNone FitsField field_then fields → HasNone FitsField kept_then text
  no_kept_uid none uid rest is = none uid (10 ∷ rest) (is.0, kept_is uid rest is)

  module _ (uid r1 : Text) (c1 : IsPiece FitsField field_then fields uid r1) where
    pub unended_kept : ((rest : Text) → r1 ≡ 10 ∷ rest → ⊥) → HasNone FitsField kept_then text
    unended_kept none other rest is = none rest (behind FitsField field_then field_apart fields uid other r1 (10 ∷ rest) c1 is.0 (kept_is other rest is)).1

    pub kept_there : (rest : Text) → r1 ≡ 10 ∷ rest → IsPiece FitsField kept_then text uid rest
    kept_there rest closes = (c1.0, opens ∙ ap (λ (l : Text). codes "kept" ++ l) (c1.1 ∙ ap (λ (l : Text). field_then uid l) closes))

-- ---- the last line

pub no_end : (text : Text) → ((rest : Text) → text ≡ codes "lines" ++ rest → ⊥) → HasNone FitsNumber end_then text
no_end text none n rest is = none (number_then n (10 ∷ rest)) is.1

module _ (text fields : Text) (opens : text ≡ codes "lines" ++ fields) where
  end_is : (n : ℕ) (rest : Text) → IsPiece FitsNumber end_then text n rest → fields ≡ number_then n (10 ∷ rest)
  end_is n rest is = said (codes "lines") text fields (number_then n (10 ∷ rest)) opens is.1

  pub no_count : HasNone FitsNumber number_then fields → HasNone FitsNumber end_then text
  no_count none n rest is = none n (10 ∷ rest) (is.0, end_is n rest is)

  module _ (count : ℕ) (r1 : Text) (c1 : IsPiece FitsNumber number_then fields count r1) where
    pub unended_end : ((rest : Text) → r1 ≡ 10 ∷ rest → ⊥) → HasNone FitsNumber end_then text
    unended_end none n rest is = none rest (behind FitsNumber number_then number_apart fields count n r1 (10 ∷ rest) c1 is.0 (end_is n rest is)).1

    pub end_there : (rest : Text) → r1 ≡ 10 ∷ rest → IsPiece FitsNumber end_then text count rest
    end_there rest closes = (c1.0, opens ∙ ap (λ (l : Text). codes "lines" ++ l) (c1.1 ∙ ap (λ (l : Text). number_then count l) closes))

-- ---- an arrival

pub no_arrival : (text : Text) → ((rest : Text) → text ≡ codes "arrival" ++ rest → ⊥) → HasNone FitsArrival arrival_then text
no_arrival text none at rest is = none (field_then at.0 (field_then at.1 (10 ∷ rest))) is.1

module _ (text fields : Text) (opens : text ≡ codes "arrival" ++ fields) where
  arrival_is : (at : Pair) (rest : Text) → IsPiece FitsArrival arrival_then text at rest → fields ≡ field_then at.0 (field_then at.1 (10 ∷ rest))
  arrival_is at rest is = said (codes "arrival") text fields (field_then at.0 (field_then at.1 (10 ∷ rest))) opens is.1

  pub no_caller : HasNone FitsField field_then fields → HasNone FitsArrival arrival_then text
  no_caller none at rest is = none at.0 (field_then at.1 (10 ∷ rest)) (is.0.0, arrival_is at rest is)

  module _ (caller r1 : Text) (c1 : IsPiece FitsField field_then fields caller r1) where
    after_caller : (at : Pair) (rest : Text) → IsPiece FitsArrival arrival_then text at rest → r1 ≡ field_then at.1 (10 ∷ rest)
    after_caller at rest is = (behind FitsField field_then field_apart fields caller at.0 r1 (field_then at.1 (10 ∷ rest)) c1 is.0.0 (arrival_is at rest is)).1

    pub no_brought : HasNone FitsField field_then r1 → HasNone FitsArrival arrival_then text
    no_brought none at rest is = none at.1 (10 ∷ rest) (is.0.1, after_caller at rest is)

    module _ (uid r2 : Text) (c2 : IsPiece FitsField field_then r1 uid r2) where
      pub unended_arrival : ((rest : Text) → r2 ≡ 10 ∷ rest → ⊥) → HasNone FitsArrival arrival_then text
      unended_arrival none at rest is = none rest (behind FitsField field_then field_apart r1 uid at.1 r2 (10 ∷ rest) c2 is.0.1 (after_caller at rest is)).1

      pub arrival_there : (rest : Text) → r2 ≡ 10 ∷ rest → IsPiece FitsArrival arrival_then text (caller, uid) rest
      arrival_there rest closes = (
        (c1.0, c2.0),
        opens ∙ ap (λ (l : Text). codes "arrival" ++ l) (c1.1 ∙ ap (λ (l : Text). field_then caller l) (c2.1 ∙ ap (λ (l : Text). field_then uid l) closes)),
      )

-- ---- a row

abbrev row_1 : Pair × Progress → Text → Text
row_1 row x = field_then row.0.0 (field_then row.0.1 (progress_then row.1 (10 ∷ x)))

abbrev row_2 : Pair × Progress → Text → Text
row_2 row x = field_then row.0.1 (progress_then row.1 (10 ∷ x))

pub no_row : (text : Text) → ((rest : Text) → text ≡ codes "row" ++ rest → ⊥) → HasNone FitsRow row_then text
no_row text none row rest is = none (row_1 row rest) is.1

module _ (text fields : Text) (opens : text ≡ codes "row" ++ fields) where
  row_is : (row : Pair × Progress) (rest : Text) → IsPiece FitsRow row_then text row rest → fields ≡ row_1 row rest
  row_is row rest is = said (codes "row") text fields (row_1 row rest) opens is.1

  pub no_row_uid : HasNone FitsField field_then fields → HasNone FitsRow row_then text
  no_row_uid none row rest is = none row.0.0 (row_2 row rest) (is.0.0.0, row_is row rest is)

  module _ (uid r1 : Text) (c1 : IsPiece FitsField field_then fields uid r1) where
    after_row_uid : (row : Pair × Progress) (rest : Text) → IsPiece FitsRow row_then text row rest → r1 ≡ row_2 row rest
    after_row_uid row rest is = (behind FitsField field_then field_apart fields uid row.0.0 r1 (row_2 row rest) c1 is.0.0.0 (row_is row rest is)).1

    pub no_dest : HasNone FitsField field_then r1 → HasNone FitsRow row_then text
    no_dest none row rest is = none row.0.1 (progress_then row.1 (10 ∷ rest)) (is.0.0.1, after_row_uid row rest is)

    module _ (dest r2 : Text) (c2 : IsPiece FitsField field_then r1 dest r2) where
      after_dest : (row : Pair × Progress) (rest : Text) → IsPiece FitsRow row_then text row rest → r2 ≡ progress_then row.1 (10 ∷ rest)
      after_dest row rest is = (behind FitsField field_then field_apart r1 dest row.0.1 r2 (progress_then row.1 (10 ∷ rest)) c2 is.0.0.1 (after_row_uid row rest is)).1

      pub no_row_progress : HasNone FitsProgress progress_then r2 → HasNone FitsRow row_then text
      no_row_progress none row rest is = none row.1 (10 ∷ rest) (is.0.1, after_dest row rest is)

      module _ (p : Progress) (r3 : Text) (c3 : IsPiece FitsProgress progress_then r2 p r3) where
        pub unended_row : ((rest : Text) → r3 ≡ 10 ∷ rest → ⊥) → HasNone FitsRow row_then text
        unended_row none row rest is = none rest (behind FitsProgress progress_then progress_apart r2 p row.1 r3 (10 ∷ rest) c3 is.0.1 (after_dest row rest is)).1

        pub row_there : (rest : Text) → r3 ≡ 10 ∷ rest → IsPiece FitsRow row_then text ((uid, dest), p) rest
        row_there rest closes = (
          ((c1.0, c2.0), c3.0),
          opens
              ∙ ap (λ (l : Text). codes "row" ++ l)
              (c1.1 ∙ ap (λ (l : Text). field_then uid l) (c2.1 ∙ ap (λ (l : Text). field_then dest l) (c3.1 ∙ ap (λ (l : Text). progress_then p l) closes))),
        )
