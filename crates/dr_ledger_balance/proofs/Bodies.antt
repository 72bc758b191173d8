-- The lines of a balance, read.
use Rattle.std.proofs.Common.{◌≡◌, ◌≢◌, ◌∙◌, ℕ, List, [], ◌∷◌, ◌++◌, All, Bor, Option, None, Some, refl, sym, ap, subst, arith, get_or}
use Rattle.std.specs.Prelude.{MatchOption}
use Rattle.std.proofs.lemmas.List.Elements.{All-nil, All-push}
use Rattle.dr_base.specs.Texts.{Text}
use Rattle.dr_ledger.specs.Pairs.{Pair}
use Rattle.dr_ledger.specs.declared.item.Instance.{Instance}
use Rattle.dr_ledger.specs.declared.item.Progress.{Progress}
use Rattle.dr_ledger_balance.specs.Balances.{FitsBalance, balance_text, body_of}
use Rattle.dr_ledger_balance.specs.Fields.{FitsField, FitsNumber}
use Rattle.dr_ledger_balance.specs.Pieces.{AreAll, HasNone, IsPiece, all_spelled}
use Rattle.dr_ledger_balance.specs.Reading.{HasNoBody}
use Rattle.dr_ledger_balance.specs.Spelling.{FitsArrival, FitsItem, FitsRow, arrival_then, end_then, item_then, kept_then, row_then}
use Rattle.dr_ledger_balance.specs.declared.balance.Balance.{Balance}
use Rattle.dr_ledger_balance.proofs.Apart.{all_apart, all_push, arrival_apart, end_apart, item_apart, kept_apart, row_apart}
use Rattle.dr_ledger_balance.proofs.Ending.{one_body}

-- ---- one kind

module _ {X : Type 0} (Fits : X → Type 0) (spelled : X → Text → Text) (text : Text) where
  -- these, and what is left
  abbrev pub SoFar : List X → Text → Type 0
  SoFar xs rest = All Fits xs × (text ≡ all_spelled spelled xs rest)

  pub none_so_far : (xs : List X) → xs ≡ [] → SoFar xs text
  none_so_far xs e = subst (λ (l : List X). SoFar l text) (sym e) (All-nil Fits, refl)

  pub one_more : (xs ys : List X) (x : X) (rest later : Text) → SoFar xs rest → Fits x × (rest ≡ spelled x later) → ys ≡ xs ++ x ∷ [] → SoFar ys later
  one_more xs ys x rest later so is e =
      subst (λ (l : List X). SoFar l later) (sym e) (All-push Fits xs x so.0 is.0, so.1 ∙ ap (λ (t : Text). all_spelled spelled xs t) is.1 ∙ sym (all_push spelled xs x later))

-- what was cut off, by whether there was one
module _ {X : Type 0} (Fits : X → Type 0) (spelled : X → Text → Text) (text : Text) where
  abbrev Answers : Option (X × Bor (List ℕ)) → Type 0
  Answers cut = MatchOption cut (HasNone Fits spelled text) (λ f. IsPiece Fits spelled text f.0 f.1.now)

  pub piece_of : (cut : Option (X × Bor (List ℕ))) (x : X) (later : Bor (List ℕ)) → Answers cut → cut ≡ Some (x, later) → IsPiece Fits spelled text x later.now
  piece_of cut x later h e = subst Answers e h

  pub none_of : (cut : Option (X × Bor (List ℕ))) → Answers cut → cut ≡ None → HasNone Fits spelled text
  none_of cut h e = subst Answers e h

-- ---- which line is first

abbrev first : Text → ℕ
first text = get_or text 0 0

-- where none of these lines begins with that byte, nor what is behind them
begins_other : {X : Type 0} (c : ℕ) (spelled : X → Text → Text) (xs : List X) (rest : Text) → ((x : X) (r : Text) → first (spelled x r) ≢ c) → first rest ≢ c → first (all_spelled spelled xs rest) ≢ c
begins_other c spelled [] rest each end = end
begins_other c spelled (x ∷ xs) rest each end = each x (all_spelled spelled xs rest)

abbrev rows_on : Balance → Text
rows_on b = all_spelled row_then b.rows (end_then b.count [])

abbrev kept_on : Balance → Text
kept_on b = all_spelled kept_then b.kept (rows_on b)

abbrev arrivals_on : Balance → Text
arrivals_on b = all_spelled arrival_then b.arrivals (kept_on b)

-- behind the lines of a kind is none of it
pub no_item_on : (b : Balance) → HasNone FitsItem item_then (arrivals_on b)
no_item_on b item rest is =
    begins_other 105 arrival_then b.arrivals (kept_on b) (λ x r e. omega (arith, e))
    (begins_other 105 kept_then b.kept (rows_on b) (λ x r e. omega (arith, e))
    (begins_other 105 row_then b.rows (end_then b.count []) (λ x r e. omega (arith, e)) (λ e. omega (arith, e)))) (ap first is.1)

pub no_arrival_on : (b : Balance) → HasNone FitsArrival arrival_then (kept_on b)
no_arrival_on b at rest is =
    begins_other 97 kept_then b.kept (rows_on b) (λ x r e. omega (arith, e))
    (begins_other 97 row_then b.rows (end_then b.count []) (λ x r e. omega (arith, e)) (λ e. omega (arith, e))) (ap first is.1)

pub no_kept_on : (b : Balance) → HasNone FitsField kept_then (rows_on b)
no_kept_on b uid rest is = begins_other 107 row_then b.rows (end_then b.count []) (λ x r e. omega (arith, e)) (λ e. omega (arith, e)) (ap first is.1)

pub no_row_on : (b : Balance) → HasNone FitsRow row_then (end_then b.count [])
no_row_on b row rest is = omega (arith, ap first is.1)

-- ---- all kinds

abbrev pub made : ℕ → List Instance → List Pair → List Text → List (Pair × Progress) → Balance
made count items arrivals kept rows = record { count = count; items = items; arrivals = arrivals; kept = kept; rows = rows }

module _ (body t1 t2 t3 t4 : Text) (items : List Instance) (arrivals : List Pair) (kept : List Text) (rows : List (Pair × Progress))
    (a1 : AreAll FitsItem item_then body items t1) (a2 : AreAll FitsArrival arrival_then t1 arrivals t2) (a3 : AreAll FitsField kept_then t2 kept t3) (a4 : AreAll FitsRow row_then t3 rows t4) where
  -- a balance of these lines has these lists, and what is left is its end
  parts : (b : Balance) → FitsBalance b → body ≡ body_of b → (items ≡ b.items) × ((arrivals ≡ b.arrivals) × ((kept ≡ b.kept) × ((rows ≡ b.rows) × (t4 ≡ end_then b.count []))))
  parts b fits e =
      let r1 = all_apart FitsItem item_then item_apart items b.items t1 (arrivals_on b) a1.fit fits.items a1.ends (no_item_on b) (sym a1.is ∙ e) in
      let r2 = all_apart FitsArrival arrival_then arrival_apart arrivals b.arrivals t2 (kept_on b) a2.fit fits.arrivals a2.ends (no_arrival_on b) (sym a2.is ∙ r1.1) in
      let r3 = all_apart FitsField kept_then kept_apart kept b.kept t3 (rows_on b) a3.fit fits.kept a3.ends (no_kept_on b) (sym a3.is ∙ r2.1) in
      let r4 = all_apart FitsRow row_then row_apart rows b.rows t4 (end_then b.count []) a4.fit fits.rows a4.ends (no_row_on b) (sym a4.is ∙ r3.1) in
      (r1.0, (r2.0, (r3.0, (r4.0, r4.1))))

  pub no_end : HasNone FitsNumber end_then t4 → HasNoBody body
  no_end none b fits e = none b.count [] (fits.count, (parts b fits e).1.1.1.1)

  module _ (count : ℕ) (rest : Text) (cut : FitsNumber count × (t4 ≡ end_then count rest)) where
    pub goes_on : (rest ≡ [] → ⊥) → HasNoBody body
    goes_on more b fits e = more (end_apart count b.count rest [] cut.0 fits.count (sym cut.1 ∙ (parts b fits e).1.1.1.1)).1

    pub body_there : rest ≡ [] → FitsBalance (made count items arrivals kept rows) × (body ≡ body_of (made count items arrivals kept rows))
    body_there none = (
      record { items = a1.fit; arrivals = a2.fit; kept = a3.fit; rows = a4.fit; count = cut.0 },
      a1.is
          ∙ ap (λ (t : Text). all_spelled item_then items t)
          (a2.is
          ∙ ap (λ (t : Text). all_spelled arrival_then arrivals t)
          (a3.is ∙ ap (λ (t : Text). all_spelled kept_then kept t) (a4.is ∙ ap (λ (t : Text). all_spelled row_then rows t) (cut.1 ∙ ap (λ (t : Text). end_then count t) none)))),
    )

-- ---- a text is of one balance

all_of : (b : Balance) → FitsBalance b → (c : Balance) → FitsBalance c → body_of b ≡ body_of c → b ≡ c
all_of b fb c fc e =
    let a1 : AreAll FitsItem item_then (body_of b) b.items (arrivals_on b) = record { fit = fb.items; is = refl; ends = no_item_on b } in
    let a2 : AreAll FitsArrival arrival_then (arrivals_on b) b.arrivals (kept_on b) = record { fit = fb.arrivals; is = refl; ends = no_arrival_on b } in
    let a3 : AreAll FitsField kept_then (kept_on b) b.kept (rows_on b) = record { fit = fb.kept; is = refl; ends = no_kept_on b } in
    let a4 : AreAll FitsRow row_then (rows_on b) b.rows (end_then b.count []) = record { fit = fb.rows; is = refl; ends = no_row_on b } in
    let r = parts (body_of b) (arrivals_on b) (kept_on b) (rows_on b) (end_then b.count []) b.items b.arrivals b.kept b.rows a1 a2 a3 a4 c fc e in
    let n = end_apart b.count c.count [] [] fb.count fc.count r.1.1.1.1 in
    ap (λ (x : ℕ). made x b.items b.arrivals b.kept b.rows) n.0 ∙ ap (λ (x : List Instance). made c.count x b.arrivals b.kept b.rows) r.0
    ∙ ap (λ (x : List Pair). made c.count c.items x b.kept b.rows) r.1.0 ∙ ap (λ (x : List Text). made c.count c.items c.arrivals x b.rows) r.1.1.0
    ∙ ap (λ (x : List (Pair × Progress)). made c.count c.items c.arrivals c.kept x) r.1.1.1.0

pub one_balance : (b c : Balance) → FitsBalance b → FitsBalance c → balance_text b ≡ balance_text c → b ≡ c
one_balance b c fb fc e = all_of b fb c fc (one_body (body_of b) (body_of c) e)
