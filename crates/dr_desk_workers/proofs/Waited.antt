-- What was heard of a connection while its first PDU is awaited.
use Rattle.std.proofs.Common.{◌≡◌, ℕ, List, [], ◌∷◌, ◌++◌, Option, Some, None, refl, sym, ap, subst, ◌∙◌, append_assoc, inl, inr, take, drop}
use Rattle.std.specs.List.{AllByRecursion}
use Rattle.std.proofs.lemmas.List.{append-nil, take-append-drop}
use Rattle.dr_session.specs.declared.ends.Heard.{Heard}
use Rattle.dr_session.specs.declared.ends.Heard.TheVariants.{Bytes, End, Late, Idle, Crowded, Fault, Memory}
use Rattle.dr_desk_workers.specs.declared.ahead.Ahead.{Ahead}
use Rattle.dr_desk_workers.specs.Hearing.{HearsAll, IsAhead, IsHeard, IsWaited, Puts, TakesHeard, listed, spoken}

-- the link heard these, of which none ended the waiting, and this is what they say
pub record Waited {K : Type 0} (hears : K → Heard → K → Type 0) (k : K) (text : List ℕ) (l : K) : Type 0 where
  pub heard : List Heard
  pub all : HearsAll hears k heard l
  pub waited : AllByRecursion IsWaited heard
  pub are : text ≡ spoken heard

pub none_yet : {K : Type 0} (hears : K → Heard → K → Type 0) (k : K) → Waited hears k [] k
none_yet hears k = record { heard = []; all = refl; waited = tt; are = refl }

hears_on : {K : Type 0} (hears : K → Heard → K → Type 0) (heard more : List Heard) (k m l : K) → HearsAll hears k heard m → HearsAll hears m more l
    → HearsAll hears k (heard ++ more) l
hears_on hears [] more k m l same h = subst (λ x. HearsAll hears x more l) same h
hears_on hears (came ∷ rest) more k m l (n, first, behind) h = (n, first, hears_on hears rest more n m l behind h)

waited_on : (heard more : List Heard) → AllByRecursion IsWaited heard → AllByRecursion IsWaited more → AllByRecursion IsWaited (heard ++ more)
waited_on [] more h w = w
waited_on (came ∷ rest) more h w = (h.0, waited_on rest more h.1 w)

spoken_on : (heard more : List Heard) → spoken (heard ++ more) ≡ spoken heard ++ spoken more
spoken_on [] more = refl
spoken_on (Bytes piece ∷ rest) more = ap (λ (t : List ℕ). piece ++ t) (spoken_on rest more) ∙ sym (append_assoc piece (spoken rest) (spoken more))
spoken_on (End ∷ rest) more = spoken_on rest more
spoken_on (Late ∷ rest) more = spoken_on rest more
spoken_on (Idle ∷ rest) more = spoken_on rest more
spoken_on (Crowded ∷ rest) more = spoken_on rest more
spoken_on (Fault ∷ rest) more = spoken_on rest more
spoken_on (Memory ∷ rest) more = spoken_on rest more

pub one_more : {K : Type 0} (hears : K → Heard → K → Type 0) (k m l : K) (text new : List ℕ) (came : Heard) → Waited hears k text m → hears m came l
    → TakesHeard came text None new → Waited hears k new l
one_more hears k m l text new came w h (is, same) = record {
  heard = w.heard ++ (came ∷ []);
  all = hears_on hears w.heard (came ∷ []) k m l w.all (l, h, refl);
  waited = waited_on w.heard (came ∷ []) w.waited (is, tt);
  are = same ∙ (ap (λ (t : List ℕ). t ++ spoken (came ∷ [])) w.are ∙ sym (spoken_on w.heard (came ∷ [])));
}

heard_more : {K : Type 0} (hears : K → Heard → K → Type 0) (k m l : K) (text : List ℕ) (came : Heard) (ahead : Ahead) → Waited hears k text m → hears m came l
    → IsWaited came → Puts (text ++ spoken (came ∷ [])) None ahead → IsHeard hears k ahead l
heard_more hears k m l text came ahead w h is puts = record {
  heard = w.heard ++ (came ∷ []);
  ended = None;
  all = subst (λ (x : List Heard). HearsAll hears k x l) (sym (append-nil (w.heard ++ (came ∷ [])))) (hears_on hears w.heard (came ∷ []) k m l w.all (l, h, refl));
  waited = waited_on w.heard (came ∷ []) w.waited (is, tt);
  puts = subst (λ (t : List ℕ). Puts t None ahead) (ap (λ (t : List ℕ). t ++ spoken (came ∷ [])) w.are ∙ sym (spoken_on w.heard (came ∷ []))) puts;
}

heard_last : {K : Type 0} (hears : K → Heard → K → Type 0) (k m l : K) (text : List ℕ) (came : Heard) (ahead : Ahead) → Waited hears k text m → hears m came l
    → Puts text (Some came) ahead → IsHeard hears k ahead l
heard_last hears k m l text came ahead w h puts = record {
  heard = w.heard;
  ended = Some came;
  all = hears_on hears w.heard (came ∷ []) k m l w.all (l, h, refl);
  waited = w.waited;
  puts = subst (λ (t : List ℕ). Puts t (Some came) ahead) w.are puts;
}

pub is_ahead : {K : Type 0} (hears : K → Heard → K → Type 0) (k m l : K) (text new : List ℕ) (came : Heard) (ahead : Ahead) → Waited hears k text m → hears m came l
    → TakesHeard came text (Some ahead) new → IsAhead hears k ahead l
is_ahead hears k m l text new came ahead w h (inl (is, puts)) = inl (heard_more hears k m l text came ahead w h is puts)
is_ahead hears k m l text new came ahead w h (inr puts) = inl (heard_last hears k m l text came ahead w h puts)

-- a text as one piece, of which nothing is left behind
pub one_piece : (text first back : List ℕ) (n : ℕ) (ended : Option Heard) → first ≡ take n text → back ≡ drop n text → back ≡ []
    → Puts text ended (record { first = Some (Bytes first); second = ended; third = None })
one_piece text first back n ended front behind none = record {
  pieces = Bytes first ∷ [];
  are = (tt, tt);
  join = append-nil first ∙ (front ∙ (sym (append-nil (take n text)) ∙ (ap (λ (t : List ℕ). take n text ++ t) (sym none ∙ behind) ∙ take-append-drop n text)));
  told = refl;
}

-- a text as two pieces
pub two_pieces : (text first second : List ℕ) (n : ℕ) (ended : Option Heard) → first ≡ take n text → second ≡ drop n text
    → Puts text ended (record { first = Some (Bytes first); second = Some (Bytes second); third = ended })
two_pieces text first second n ended front behind = record {
  pieces = Bytes first ∷ Bytes second ∷ [];
  are = (tt, (tt, tt));
  join = ap (λ (t : List ℕ). first ++ t) (append-nil second) ∙ (ap (λ (t : List ℕ). t ++ second) front ∙ (ap (λ (t : List ℕ). take n text ++ t) behind ∙ take-append-drop n text));
  told = refl;
}
