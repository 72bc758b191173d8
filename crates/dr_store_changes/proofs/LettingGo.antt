-- Data sets that are let go.
use Rattle.std.proofs.Common.{◌≡◌, ℕ, Bool, true, false, cond, List, [], Option, Some, None, IsSome, refl, sym, ap, subst, ◌∙◌, arith}
use Rattle.std.specs.Cmp.Lexicographic.{nat_list_cmp_total}
use Rattle.std.specs.FinMap as map
use Rattle.std.specs.FinMap.{FinMap}
use Rattle.std.specs.Ordering.{eq_by_cmp}
use Rattle.std.proofs.lemmas.Map.Lookups.{exact_bytes}
use Rattle.sqlite.specs.State.{State}
use Rattle.dr_base.specs.Texts.{Text, text_cmp}
use Rattle.dr_store_schema.specs.Books.{bodies_by, contents_in, is_whole, items_in, prints_in, wholes_in}
use Rattle.dr_store_writes.specs.Effects.{GoesOn, HasPrint, SetsBody, SetsWhole}
use Rattle.dr_store_changes.specs.Changes.{HasBoth, LetsGo, TakesBack}
use Rattle.dr_store_changes.proofs.Together.{both_put}

-- what stands at a uid
pub body_at : (contents : FinMap text_cmp (List ℕ)) (wholes : FinMap text_cmp ℕ) (q : Text) → map.get (bodies_by contents wholes) q ≡ cond (is_whole (map.get wholes q)) (map.get contents q) None
body_at contents wholes q = map.get-retain_keys {R = text_cmp} contents (λ x. is_whole (map.get wholes x)) q (λ x same. ap (λ y. is_whole (map.get wholes y)) (sym (exact_bytes q x same)))

pub gone_body : (contents : FinMap text_cmp (List ℕ)) (wholes : FinMap text_cmp ℕ) (uid : Text) → bodies_by (map.insert contents uid []) (map.insert wholes uid 0) ≡ map.remove (bodies_by contents wholes) uid
gone_body contents wholes uid = map.same_map nat_list_cmp_total exact_bytes _ _ (λ q.
    body_at (map.insert contents uid []) (map.insert wholes uid 0) q
    ∙ ap (λ w. cond (is_whole w) (map.get (map.insert contents uid []) q) None) (map.get-insert nat_list_cmp_total wholes uid 0 q)
    ∙ ap (λ b. cond (is_whole (cond (eq_by_cmp text_cmp q uid) (Some 0) (map.get wholes q))) b None) (map.get-insert nat_list_cmp_total contents uid [] q)
    ∙ at q (eq_by_cmp text_cmp q uid)
    ∙ ap (λ b. cond (eq_by_cmp text_cmp q uid) None b) (sym (body_at contents wholes q)) ∙ sym (map.get-remove nat_list_cmp_total (bodies_by contents wholes) uid q))
  where
    at : (q : Text) (b : Bool) → ◌≡◌ {A = Option (List ℕ)} (cond (is_whole (cond b (Some 0) (map.get wholes q))) (cond b (Some []) (map.get contents q)) None)
        (cond b None (cond (is_whole (map.get wholes q)) (map.get contents q) None))
    at q true = refl
    at q false = refl

pub back_body : (contents : FinMap text_cmp (List ℕ)) (wholes : FinMap text_cmp ℕ) (uid : Text) (body : List ℕ)
    → bodies_by (map.insert contents uid body) (map.insert wholes uid 1) ≡ map.insert (bodies_by contents wholes) uid body
back_body contents wholes uid body = map.same_map nat_list_cmp_total exact_bytes _ _ (λ q.
    body_at (map.insert contents uid body) (map.insert wholes uid 1) q
    ∙ ap (λ w. cond (is_whole w) (map.get (map.insert contents uid body) q) None) (map.get-insert nat_list_cmp_total wholes uid 1 q)
    ∙ ap (λ b. cond (is_whole (cond (eq_by_cmp text_cmp q uid) (Some 1) (map.get wholes q))) b None) (map.get-insert nat_list_cmp_total contents uid body q)
    ∙ at q (eq_by_cmp text_cmp q uid)
    ∙ ap (λ b. cond (eq_by_cmp text_cmp q uid) (Some body) b) (sym (body_at contents wholes q)) ∙ sym (map.get-insert nat_list_cmp_total (bodies_by contents wholes) uid body q))
  where
    at : (q : Text) (b : Bool) → ◌≡◌ {A = Option (List ℕ)} (cond (is_whole (cond b (Some 1) (map.get wholes q))) (cond b (Some body) (map.get contents q)) None)
        (cond b (Some body) (cond (is_whole (map.get wholes q)) (map.get contents q) None))
    at q true = refl
    at q false = refl

-- after the data set was changed, the print is there still
pub print_there : (uid : Text) (body : List ℕ) (old mid : State) → HasBoth uid old.now.trees → SetsBody uid body old mid → GoesOn old mid × HasPrint uid mid.now.trees
print_there uid body old mid both sets = (
  sets.goes_on,
  subst (λ rows. IsSome (map.get (wholes_in rows) uid)) (sym (sets.others.prints (omega arith))) both.1,
)

-- both statements
pub lets_go : (uid : Text) (old mid new : State) → SetsBody uid [] old mid → SetsWhole uid 0 mid new → LetsGo uid old.now.trees new.now.trees
lets_go uid old mid new body whole =
    let before = old.now.trees in
    let between = mid.now.trees in
    let after = new.now.trees in
    let b = body.others in
    let w = whole.others in
    let contents : contents_in (after 1) ≡ map.insert (contents_in (before 1)) uid [] = ap contents_in (w.items (omega arith)) ∙ body.contents in
    let wholes : wholes_in (after 3) ≡ map.insert (wholes_in (before 3)) uid 0 = whole.wholes ∙ ap (λ rows. map.insert (wholes_in rows) uid 0) (b.prints (omega arith)) in
    let prints : prints_in (after 3) ≡ prints_in (before 3) = whole.prints ∙ ap prints_in (b.prints (omega arith)) in
    record {
      items = ap (λ rows. items_in (prints_in (after 3)) rows) (w.items (omega arith)) ∙ body.items (prints_in (after 3)) ∙ ap (λ p. items_in p (before 1)) prints;
      bodies = (λ i. bodies_by (contents i) (wholes i)) ∙ gone_body (contents_in (before 1)) (wholes_in (before 3)) uid;
      together = both_put before after uid [] 0 contents wholes;
      site = w.site (omega arith) ∙ b.site (omega arith);
      arrivals = w.arrivals (omega arith) ∙ b.arrivals (omega arith);
      kept = w.kept (omega arith) ∙ b.kept (omega arith);
      queue = w.queue (omega arith) ∙ b.queue (omega arith);
      journal = w.journal (omega arith) ∙ b.journal (omega arith);
      targets = w.targets (omega arith) ∙ b.targets (omega arith);
    }

pub takes_back : (uid : Text) (content : List ℕ) (old mid new : State) → SetsBody uid content old mid → SetsWhole uid 1 mid new → TakesBack uid content old.now.trees new.now.trees
takes_back uid content old mid new body whole =
    let before = old.now.trees in
    let after = new.now.trees in
    let b = body.others in
    let w = whole.others in
    let contents : contents_in (after 1) ≡ map.insert (contents_in (before 1)) uid content = ap contents_in (w.items (omega arith)) ∙ body.contents in
    let wholes : wholes_in (after 3) ≡ map.insert (wholes_in (before 3)) uid 1 = whole.wholes ∙ ap (λ rows. map.insert (wholes_in rows) uid 1) (b.prints (omega arith)) in
    let prints : prints_in (after 3) ≡ prints_in (before 3) = whole.prints ∙ ap prints_in (b.prints (omega arith)) in
    record {
      items = ap (λ rows. items_in (prints_in (after 3)) rows) (w.items (omega arith)) ∙ body.items (prints_in (after 3)) ∙ ap (λ p. items_in p (before 1)) prints;
      bodies = (λ i. bodies_by (contents i) (wholes i)) ∙ back_body (contents_in (before 1)) (wholes_in (before 3)) uid content;
      together = both_put before after uid content 1 contents wholes;
      site = w.site (omega arith) ∙ b.site (omega arith);
      arrivals = w.arrivals (omega arith) ∙ b.arrivals (omega arith);
      kept = w.kept (omega arith) ∙ b.kept (omega arith);
      queue = w.queue (omega arith) ∙ b.queue (omega arith);
      journal = w.journal (omega arith) ∙ b.journal (omega arith);
      targets = w.targets (omega arith) ∙ b.targets (omega arith);
    }
