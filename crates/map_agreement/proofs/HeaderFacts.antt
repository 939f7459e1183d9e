-- Opening, as the machine of a whole map has it.
use Prim.Native.Nat.{ℕ}
use mathlib.Core.Path.{◌≡◌, refl, ap, ◌∙◌}
use mathlib.Core.Bool.{Bool, true, false, cond}
use mathlib.Core.List.{List, [], ◌∷◌, map}
use Rattle.parsing.specs.Parse.{Res, ok, no, and_then}
use Rattle.parsing.specs.Good.{split}
use Rattle.format.specs.Header.{Interval, Header, header, signature, signatures, opened, debug}
use Rattle.agreement.specs.MapLayout as layout
use Rattle.agreement.specs.MapLayout.{open_map}
use Rattle.format.specs.Index.{Grid}
use Rattle.map_agreement.specs.MapsforgeMap.{signature_places, mapsforge}

same-signatures : (l : List Interval) (m : List ℕ) → signatures l m ≡ layout.signatures signature (map (λ z. z.start) l) m
unfolding signatures
same-signatures [] m = refl
same-signatures (z ∷ l) m = ap (λ (r : ℕ → Res Unit). and_then (signature m z.start) (λ _ x. r x)) (λ-same (same-signatures l m))
  where
    λ-same : {a b : Res Unit} → a ≡ b → ◌≡◌ {A = ℕ → Res Unit} (λ _. a) (λ _. b)
    λ-same e = ap (λ a _. a) e

checked : (h : Header) (m : List ℕ) → cond (debug h) (signatures h.intervals m) (ok tt 0) ≡ layout.signatures signature (signature_places h) m
checked h m = go (debug h)
  where
    go : (c : Bool) → cond c (signatures h.intervals m) (ok tt 0) ≡ layout.signatures signature (cond c (map (λ z. z.start) h.intervals) []) m
    go true = same-signatures h.intervals m
    go false = refl

pub opened-is : (s : ℕ) (g : Grid) (number : ℕ) (m : List ℕ) → opened m ≡ open_map (mapsforge s g number) m
unfolding opened
opened-is s g number m = go (header m 0)
  where
    go : (r : Res Header) → and_then r (λ h e. and_then (cond (debug h) (signatures h.intervals m) (ok tt 0)) (λ _ _. ok h e)) ≡ and_then r (λ h e. and_then (layout.signatures signature (signature_places h) m) (λ _ _. ok h e))
    go (ok h e) = ap (λ r. and_then r (λ _ _. ok h e)) (checked h m)
    go (no k v) = refl

pub header_of : (m : List ℕ) (h : Header) (e : ℕ) → opened m ≡ ok h e → header m 0 ≡ ok h e
unfolding opened
header_of m h e q =
    let a = split (header m 0) (λ h e. and_then (cond (debug h) (signatures h.intervals m) (ok tt 0)) (λ _ _. ok h e)) h e q in
    let b = split (cond (debug a.val) (signatures a.val.intervals m) (ok tt 0)) (λ _ _. ok a.val a.mid) h e a.second in
    a.first ∙ b.second
