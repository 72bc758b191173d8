-- Books can be compared.
use Rattle.std.proofs.Common.{◌≡◌, ◌⊎◌, inl, inr, ℕ, Bool, List, Option, Some, None, refl, ap}
use Rattle.std.specs.Coded.{Coded, Coded-set, code_by, coded_ℕ, coded_bool, coded_list, coded×, coded⊎, coded_option}
use base.Stored.{coded_unit}
use Rattle.std.specs.FinMap as map
use Rattle.std.specs.FinMap.{FinMap}
use Rattle.std.specs.FinSet as set
use Rattle.std.specs.FinSet.{FinSet}
use Rattle.dr_base.specs.Texts.{Text, text_cmp}
use Rattle.dr_route.specs.declared.key.Key.{Key}
use Rattle.dr_route.specs.contracts.key.Key as key_row
use Rattle.dr_ledger.specs.declared.item.Entry.{Entry}
use Rattle.dr_ledger.specs.declared.item.Instance.{Instance}
use Rattle.dr_ledger.specs.declared.item.Outcome.{Outcome}
use Rattle.dr_ledger.specs.declared.item.Progress.{Progress}
use Rattle.dr_ledger.specs.contracts.item.Entry as entry_row
use Rattle.dr_ledger.specs.contracts.item.Instance as instance_row
use Rattle.dr_ledger.specs.contracts.item.Outcome as outcome_row
use Rattle.dr_ledger.specs.contracts.item.Progress as progress_row
use Rattle.dr_ledger.specs.Bodies.{Bodies}
use Rattle.dr_ledger.specs.Books.{Book, Line, Arrival, Repeat, Settling, Requeuing, Dropping, Forgetting, Adoption}
use Rattle.dr_ledger.specs.Pairs.{Pair, pair_cmp}

pub coded_text : Coded Text
coded_text = coded_list coded_ℕ

pub coded_instance : Coded Instance
coded_instance = instance_row.the_row.coded

pub coded_outcome : Coded Outcome
coded_outcome = outcome_row.the_row.coded

pub coded_progress : Coded Progress
coded_progress = progress_row.the_row.coded

pub coded_entry : Coded Entry
coded_entry = entry_row.the_row.coded

pub coded_key : Coded Key
coded_key = key_row.the_row.coded

pub coded_pair : Coded Pair
coded_pair = coded× coded_text coded_text

-- ---- lines

abbrev Parts : Type 0
Parts = (Text × (Instance × (List Text × Bool))) ⊎ ((Text × Instance) ⊎ ((Text × (Text × (Outcome × ℕ))) ⊎ ((Text × Text) ⊎ ((Text × (Text × ℕ)) ⊎ (Text ⊎ Unit {0})))))

abbrev split : Line → Parts
split (Arrival caller item to keep) = inl (caller, (item, (to, keep)))
split (Repeat caller item) = inr (inl (caller, item))
split (Settling uid dest outcome now) = inr (inr (inl (uid, (dest, (outcome, now)))))
split (Requeuing uid dest) = inr (inr (inr (inl (uid, dest))))
split (Dropping uid dest now) = inr (inr (inr (inr (inl (uid, (dest, now))))))
split (Forgetting uid) = inr (inr (inr (inr (inr (inl uid)))))
split Adoption = inr (inr (inr (inr (inr (inr tt)))))

abbrev join : Parts → Line
join (inl p) = Arrival p.0 p.1.0 p.1.1.0 p.1.1.1
join (inr (inl p)) = Repeat p.0 p.1
join (inr (inr (inl p))) = Settling p.0 p.1.0 p.1.1.0 p.1.1.1
join (inr (inr (inr (inl p)))) = Requeuing p.0 p.1
join (inr (inr (inr (inr (inl p))))) = Dropping p.0 p.1.0 p.1.1
join (inr (inr (inr (inr (inr (inl uid)))))) = Forgetting uid
join (inr (inr (inr (inr (inr (inr p)))))) = Adoption

back : (line : Line) → join (split line) ≡ line
back (Arrival caller item to keep) = refl
back (Repeat caller item) = refl
back (Settling uid dest outcome now) = refl
back (Requeuing uid dest) = refl
back (Dropping uid dest now) = refl
back (Forgetting uid) = refl
back Adoption = refl

pub coded_line : Coded Line
coded_line = code_by Parts
    (coded⊎ (coded× coded_text (coded× coded_instance (coded× (coded_list coded_text) coded_bool)))
    (coded⊎ (coded× coded_text coded_instance) (coded⊎ (coded× coded_text (coded× coded_text (coded× coded_outcome coded_ℕ))) (coded⊎ (coded× coded_text coded_text) (coded⊎ (coded× coded_text (coded× coded_text coded_ℕ)) (coded⊎ coded_text coded_unit))))))
    split join back

-- ---- books

pub coded_items : Coded (FinMap text_cmp Instance)
coded_items = map.code coded_text coded_instance

pub coded_rows : Coded (FinMap pair_cmp Progress)
coded_rows = map.code coded_pair coded_progress

pub coded_bodies : Coded Bodies
coded_bodies = map.code coded_text (coded_list coded_ℕ)

pub coded_book : Coded Book
coded_book = code_by (FinMap text_cmp Instance × (FinSet pair_cmp × (FinSet text_cmp × (FinMap pair_cmp Progress × List Line))))
    (coded× coded_items (coded× (set.code coded_pair) (coded× (set.code coded_text) (coded× coded_rows (coded_list coded_line)))))
    (λ b. (b.items, (b.arrivals, (b.kept, (b.rows, b.lines)))))
    (λ p. record { items = p.0; arrivals = p.1.0; kept = p.1.1.0; rows = p.1.1.1.0; lines = p.1.1.1.1 })
    (λ b. refl)
