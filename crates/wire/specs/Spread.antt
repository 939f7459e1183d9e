-- Proof machinery, which need not be believed: lent words of a known number, written out one by one, so that what a call writes to them, and
-- what the other program reads of them, computes.
use Rattle.std.specs.Prelude.{ℕ, zero, suc, ℤ, pos, ◌≡◌, refl, List, [], ◌∷◌, map as mapped, Float, length, get_or, drop}
use Rattle.std.proofs.Common.{arith, ap, subst, sym, ◌∙◌}
use Rattle.wire.specs.Wire.{Wire, Lent, wire}
use Rattle.wire.specs.Verdicts.{nowhere}

module _ {A : Type 0} (d : A) where
  abbrev pub entries : ℕ → List A → List A
  entries zero l = []
  entries (suc n) l = get_or l 0 d ∷ entries n (drop 1 l)

  pub spread : (n : ℕ) (l : List A) → length l ≡ n → l ≡ entries n l
  spread zero [] h = refl
  spread zero (x ∷ l) h = absurd (omega arith)
  spread (suc n) [] h = absurd (omega arith)
  spread (suc n) (x ∷ l) h = ap (λ k. x ∷ k) (spread n l (omega arith))

abbrev pub all_entries : List ℕ → List (List ℕ) → List (List ℕ)
all_entries [] l = []
all_entries (n ∷ ns) l = entries 0 n (get_or l 0 []) ∷ all_entries ns (drop 1 l)

heads : (n k : ℕ) (ns ks : List ℕ) → n ∷ ns ≡ k ∷ ks → n ≡ k
heads n k ns ks h = ap (λ l. get_or l 0 0) h

tails : (n k : ℕ) (ns ks : List ℕ) → n ∷ ns ≡ k ∷ ks → ns ≡ ks
tails n k ns ks h = ap (drop 1) h

pub spread-all : (ns : List ℕ) (l : List (List ℕ)) → mapped length l ≡ ns → l ≡ all_entries ns l
spread-all [] [] h = refl
spread-all [] (x ∷ l) h = let z : ◌≡◌ {A = ℕ} 0 1 = cc in absurd (omega arith)
spread-all (n ∷ ns) [] h = let z : ◌≡◌ {A = ℕ} 0 1 = cc in absurd (omega arith)
spread-all (n ∷ ns) (x ∷ l) h =
    ap (λ k. k ∷ l) (spread 0 n x (heads (length x) n (mapped length l) ns h))
    ∙ ap (λ k. entries 0 n x ∷ k) (spread-all ns l (tails (length x) n (mapped length l) ns h))

abbrev pub spread_wire : List ℕ → (signed degrees : ℕ) → Wire → Wire
spread_wire ns s d w = record {
  number = w.number;
  lists = all_entries ns w.lists;
  signed = entries (pos 0) s w.signed;
  degrees = entries nowhere d w.degrees;
}

-- what holds of words written out holds of words of that number
pub spread-out : (ns : List ℕ) (s d : ℕ) (w : Wire) → Lent ns s d w → (P : Wire → Type 0) → P (spread_wire ns s d w) → P w
spread-out ns s d w h P p = subst P (sym same) p
  where
    whole : (n : ℕ) (l l' : List (List ℕ)) (z z' : List ℤ) (f f' : List Float) → l ≡ l' → z ≡ z' → f ≡ f' → wire n l z f ≡ wire n l' z' f'
    whole n l l' z z' f f' p q r = rw (p, q, r) refl

    same : w ≡ spread_wire ns s d w
    same = whole w.number _ _ _ _ _ _ (spread-all ns w.lists h.lists) (spread (pos 0) s w.signed h.signed) (spread nowhere d w.degrees h.degrees)
