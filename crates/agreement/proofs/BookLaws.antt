-- Document 01's book, which holds a number k, replies as the machine that holds what remains.
use mathlib.Core.Path.{◌≡◌, refl, sym}
use mathlib.Core.Bool.{true, false}
use mathlib.Core.List.{List, [], ◌∷◌}
use Prim.Native.Nat.{ℕ, zero, suc, ◌+◌, ◌-◌, ◌≤◌, ◌<◌, zero-le, suc-le-suc}
use native.Mathlib.Nat.{zero-sub, le_of_suc-le-suc, not-suc-le-zero}
use native.Mathlib.Omega.{arith}
use borrow.Author.Tests.{lt-ltb, le-ltb}
use lib.ListN.{length-take, drop_of_length-le, length, take, drop}
use Rattle.parsing.specs.Parse.{some, nth}
use Rattle.format.specs.Lent.{fits}
use Rattle.format.specs.Tile.{TileHead}
use Rattle.agreement.specs.Calls.{Call, next, accept, decline, run}
use Rattle.agreement.specs.Format.{Format}
use Rattle.agreement.specs.Collected.{Way, StoredTile, stored_collection, stored_tile, a_point, a_way, fetch}
use Rattle.agreement.specs.Book.{BookState, book_state, book_start, book_lent, book_call}
use Rattle.agreement.proofs.Remaining.{Alike, simulate, accept-alike, Remaining, between, waiting, on_way, remaining}

-- what remains of the first n of l, k of them gone: it begins with entry k of l, or k is at n
record Begins {A : Type 0} (l : List A) (n k : ℕ) (a : A) (r : List A) : Type 0 where
  entry : nth l k ≡ some a
  below : k < n
  tail : r ≡ drop (suc k) (take n l)

begins : {A : Type 0} (l : List A) (n k : ℕ) (a : A) (r : List A) → a ∷ r ≡ drop k (take n l) → Begins l n k a r
begins [] zero zero a r h = absurd (let z : ◌≡◌ {A = ℕ} 0 1 = cc in omega arith)
begins [] zero (suc k) a r h = absurd (let z : ◌≡◌ {A = ℕ} 0 1 = cc in omega arith)
begins [] (suc n) zero a r h = absurd (let z : ◌≡◌ {A = ℕ} 0 1 = cc in omega arith)
begins [] (suc n) (suc k) a r h = absurd (let z : ◌≡◌ {A = ℕ} 0 1 = cc in omega arith)
begins (x ∷ l) zero zero a r h = absurd (let z : ◌≡◌ {A = ℕ} 0 1 = cc in omega arith)
begins (x ∷ l) zero (suc k) a r h = absurd (let z : ◌≡◌ {A = ℕ} 0 1 = cc in omega arith)
begins (x ∷ l) (suc n) zero a r h = record { entry = cc; below = suc-le-suc zero-le; tail = cc }
begins (x ∷ l) (suc n) (suc k) a r h = let b = begins l n k a r h in record { entry = b.entry; below = suc-le-suc b.below; tail = b.tail }

none_left : {A : Type 0} (l : List A) (n k : ℕ) → n ≤ length l → [] ≡ drop k (take n l) → n ≤ k
none_left l zero k f h = zero-le
none_left [] (suc n) k f h = absurd (not-suc-le-zero f)
none_left (x ∷ l) (suc n) zero f h = absurd (let z : ◌≡◌ {A = ℕ} 0 1 = cc in omega arith)
none_left (x ∷ l) (suc n) (suc k) f h = suc-le-suc (none_left l n k (le_of_suc-le-suc f) h)

module _ {F : Format} (t : StoredTile F) (fed : TileHead → F.End) (P W : ℕ) (hp : P ≤ length t.points) (hw : W ≤ length t.ways) where
  fetch-point : (k : ℕ) (p : F.Point) → k < P → nth t.points k ≡ some p → fetch (stored_tile t fed) k ≡ a_point p
  fetch-point k p l h = rw (lt-ltb k (length t.points) (omega arith), h)

  fetch-way : (j : ℕ) (w : Way F) → nth t.ways j ≡ some w → fetch (stored_tile t fed) (length t.points + j) ≡ a_way w
  fetch-way j w h =
      let e : length t.points + j - length t.points ≡ j = omega arith in
      rw (le-ltb (length t.points + j) (length t.points) (omega arith), e, h)

  data Match : BookState F.End → Remaining F → Type 0 where
    m-between : (k : ℕ) (ps : List F.Point) (ws : List (Way F)) (z : F.End) → ps ≡ drop k (take P t.points) → ws ≡ drop (k - P) (take W t.ways)
        → Match (book_state k false z) (between ps ws z)
    m-waiting : (k : ℕ) (w : Way F) (ws : List (Way F)) (z : F.End) → P ≤ k → nth t.ways (k - P) ≡ some w → ws ≡ drop (suc (k - P)) (take W t.ways)
        → Match (book_state k true z) (waiting w ws z)

  passed : (k : ℕ) (ws : List (Way F)) (z : F.End) → P ≤ k → ws ≡ drop (suc (k - P)) (take W t.ways) → Match (book_state (suc k) false z) (between [] ws z)
  passed k ws z l h =
      let q : suc (k - P) ≡ suc k - P = omega arith in
      m-between (suc k) [] ws z (sym (drop_of_length-le (take P t.points) {i = suc k} (simp length-take (omega arith)))) (rw q at h)

  follows : (s : BookState F.End) (r : Remaining F) (c : Call) → Match s r
      → Alike Match (book_call (stored_collection F) (stored_tile t fed) P W s.k s.waiting s.end c) (remaining F r c)
  follows s r next (m-between k (p ∷ ps) ws z e f) =
      let b = begins t.points P k p ps e in
      let l = b.below in
      let q : k - P ≡ suc k - P = omega arith in
      rw (lt-ltb k P l, fetch-point k p l b.entry) record { reply = refl; left = m-between (suc k) ps ws _ b.tail (rw q at f) }
  follows s r next (m-between k [] (w ∷ ws) z e f) =
      let l = none_left t.points P k hp e in
      let b = begins t.ways W (k - P) w ws f in
      rw (le-ltb k P l, lt-ltb k (P + W) (omega (arith, b.below)), fetch-way (k - P) w b.entry) record {
        reply = refl;
        left = m-waiting k w ws _ l b.entry b.tail;
      }
  follows s r next (m-between k [] [] z e f) =
      let l = none_left t.points P k hp e in
      let o = none_left t.ways W (k - P) hw f in
      rw (le-ltb k P l, le-ltb k (P + W) (omega arith)) record { reply = refl; left = m-between k [] [] z e f }
  follows s r next (m-waiting k w ws z l e f) = record { reply = refl; left = m-waiting k w ws z l e f }
  follows s r (accept n) (m-between k ps ws z e f) = record { reply = refl; left = m-between k ps ws z e f }
  follows s r (accept n) (m-waiting k w ws z l e f) =
      rw (fetch-way (k - P) w e) (accept-alike (book_lent (stored_collection F) k z) (on_way F w ws z) (F.whole (F.kept w.head) w.body) w.body 0 0 (F.lists w.body) n
      (record { reply = refl; left = passed k ws _ l f }) (record { reply = refl; left = m-waiting k w ws z l e f }) (fits (F.lists w.body) n))
  follows s r decline (m-between k ps ws z e f) = record { reply = refl; left = m-between k ps ws z e f }
  follows s r decline (m-waiting k w ws z l e f) = record { reply = refl; left = passed k ws z l f }

  pub book-remaining : (cs : List Call)
      → run (λ s c. book_call (stored_collection F) (stored_tile t fed) P W s.k s.waiting s.end c) (book_start (fed t.head)) cs
      ≡ run (remaining F) (between (take P t.points) (take W t.ways) (fed t.head)) cs
  book-remaining cs =
      simulate _ (remaining F) Match follows (book_start (fed t.head)) (between (take P t.points) (take W t.ways) (fed t.head)) (m-between 0 _ _ (fed t.head) refl (rw zero-sub)) cs
