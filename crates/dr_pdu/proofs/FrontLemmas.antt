-- Two spellings that begin one text.
use Rattle.std.proofs.Common.{◌≡◌, ℕ, ◌+◌, ◌*◌, ◌/◌, ◌%◌, ◌^◌, List, ◌∷◌, ◌++◌, length, get_or, take, drop, refl, sym, ap, subst, ◌∙◌, arith}
use Rattle.std.specs.Int.{w32, to_be_bytes}
use Rattle.std.proofs.lemmas.List.{take_at, drop_at, append-nil}
use Rattle.dr_pdu.specs.declared.pdu.Pdu.{Pdu}
use Rattle.dr_pdu.specs.Grammar.{StartsFrame, IsBody, Spells}
use Rattle.dr_pdu.proofs.OneBody.{one_body}

pub record SameFront (kind len : ℕ) (rest : List ℕ) (kind' len' : ℕ) (rest' : List ℕ) : Type 0 where
  pub same_kind : kind ≡ kind'
  pub same_len : len ≡ len'
  pub same_rest : rest ≡ rest'

-- the number that six bytes have
front_len : List ℕ → ℕ
front_len text = ((get_or text 2 0 * 256 + get_or text 3 0) * 256 + get_or text 4 0) * 256 + get_or text 5 0

len_is : (text : List ℕ) (kind len : ℕ) (rest : List ℕ) → StartsFrame text kind len rest → len ≡ front_len text
unfolding front_len
len_is text kind len rest b =
    let number : ((len / 256 ^ 3 % 256 * 256 + len / 256 ^ 2 % 256) * 256 + len / 256 ^ 1 % 256) * 256 + len % 256 ≡ len = omega (arith, b.1) in
    sym number ∙ ap front_len (sym b.2)

pub same_front : (text : List ℕ) (kind len : ℕ) (rest : List ℕ) (kind' len' : ℕ) (rest' : List ℕ) → StartsFrame text kind len rest → StartsFrame text kind' len' rest' → SameFront kind len rest kind' len' rest'
same_front text kind len rest kind' len' rest' b c = record {
  same_kind = ap (λ (t : List ℕ). get_or t 0 0) (sym b.2 ∙ c.2);
  same_len = len_is text kind len rest b ∙ sym (len_is text kind' len' rest' c);
  same_rest = ap (drop 6) (sym b.2 ∙ c.2);
}

-- a spelling that goes on, as the front of a text
pub goes_on : (limit : ℕ) (a x : List ℕ) (p : Pdu) (s : Spells limit a p) → StartsFrame (a ++ x) s.0 (length s.1) (s.1 ++ x)
goes_on limit a x p s =
    (s.2.0.0, s.2.0.1, ap (λ (t : List ℕ). t ++ x) s.2.0.2 ∙ ap (λ (t : List ℕ). s.0 ∷ s.2.0.0 ∷ (to_be_bytes w32 (length s.1) ++ (t ++ x))) (append-nil s.1))

pub length_of : (limit : ℕ) (a : List ℕ) (p : Pdu) (s : Spells limit a p) → length a ≡ length s.1 + 6
length_of limit a p s = let whole = ap (λ (t : List ℕ). length t) s.2.0.2 in let nothing = ap (λ (t : List ℕ). length t) (append-nil s.1) in omega (arith, whole, nothing)

pub record SameWhole (kind : ℕ) (body rest : List ℕ) (kind' : ℕ) (body' rest' : List ℕ) : Type 0 where
  pub kinds : kind ≡ kind'
  pub whole_bodies : body ≡ body'
  pub rests : rest ≡ rest'

-- a text has one whole body at most
pub same_whole : (text : List ℕ) (kind : ℕ) (body rest : List ℕ) (kind' : ℕ) (body' rest' : List ℕ) → StartsFrame text kind (length body) (body ++ rest) → StartsFrame text kind' (length body') (body' ++ rest') → SameWhole kind body rest kind' body' rest'
same_whole text kind body rest kind' body' rest' b c =
    let same = same_front text kind (length body) (body ++ rest) kind' (length body') (body' ++ rest') b c in
    record {
      kinds = same.same_kind;
      whole_bodies = sym (take_at body rest (length body) refl) ∙ ap (λ (w : List ℕ). take (length body) w) same.same_rest ∙ ap (λ (n : ℕ). take n (body' ++ rest')) same.same_len ∙ take_at body' rest' (length body') refl;
      rests = sym (drop_at body rest (length body) refl) ∙ ap (λ (w : List ℕ). drop (length body) w) same.same_rest ∙ ap (λ (n : ℕ). drop n (body' ++ rest')) same.same_len ∙ drop_at body' rest' (length body') refl;
    }

-- two spellings that begin one text are one spelling of one PDU
pub one_spelling : (limit limit' : ℕ) (a b x y : List ℕ) (p q : Pdu) → Spells limit a p → Spells limit' b q → a ++ x ≡ b ++ y → (a ≡ b) × (p ≡ q)
one_spelling limit limit' a b x y p q s t e =
    let b1 = subst (λ (w : List ℕ). StartsFrame w s.0 (length s.1) (s.1 ++ x)) e (goes_on limit a x p s) in
    let b2 = goes_on limit' b y q t in
    let same = same_whole (b ++ y) s.0 s.1 x t.0 t.1 y b1 b2 in
    let same_length : length s.1 ≡ length t.1 = ap (λ (w : List ℕ). length w) same.whole_bodies in
    let len : length a ≡ length b = omega (arith, length_of limit a p s, length_of limit' b q t, same_length) in (
      sym (take_at a x (length a) refl) ∙ ap (λ (w : List ℕ). take (length a) w) e ∙ ap (λ (n : ℕ). take n (b ++ y)) len ∙ take_at b y (length b) refl,
      one_body t.0 t.1 p q (subst (λ (k : ℕ). IsBody k t.1 p) same.kinds (subst (λ (w : List ℕ). IsBody s.0 w p) same.whole_bodies s.3)) t.3,
    )
