-- A tile of an axis is touched exactly if it lies in the grid and a quarter, rounded down, of a sub tile between the ends is its number.
use Prim.Native.Nat.{ℕ, suc, ◌+◌, ◌*◌, ◌-◌, ◌/◌, ◌≤◌, ◌<◌}
use native.Mathlib.Omega.{arith}
use mathlib.Core.Path.{◌≡◌, refl, sym, ap, ◌∙◌}
use mathlib.Core.Bool.{Bool, true, false, cond, false≢true, and-eq-true_iff}
use lib.IntN.{ℤ, pos, negsuc, nat_abs, ◌+ℤ◌, ◌-ℤ◌}
use lib.Signed.{mag, le_z}
use borrow.Author.Tests.{le-leb, leb-true, leb-false, le-ltb, lt-ltb}
use Rattle.format.specs.Header.{between}
use Rattle.format.specs.Index.{width}
use Rattle.window.specs.Window.{quarter, four, max_z, min_z, first_of, count_of}
use Rattle.window.specs.WindowSays.{Touching}
use Rattle.window.specs.Biased.{biased}
use Rattle.window.proofs.SignedLaws.{order, sum-biased, gap}

-- the order, on numbers that are not below a bias
module _ (half : ℕ) (a b : ℤ) (f : mag a < half) (g : mag b < half) where
  below : le_z a b ≡ true → biased half a ≤ biased half b
  below h = leb-true (biased half a) (biased half b) (sym (order half a b f g) ∙ h)

  above : le_z a b ≡ false → biased half b < biased half a
  above h = leb-false (biased half a) (biased half b) (sym (order half a b f g) ∙ h)

  is_below : biased half a ≤ biased half b → le_z a b ≡ true
  is_below h = order half a b f g ∙ le-leb (biased half a) (biased half b) h

  same : biased half a ≡ biased half b → a ≡ b
  same e = go a b f g e
    where
      go : (a b : ℤ) → mag a < half → mag b < half → biased half a ≡ biased half b → a ≡ b
      go (pos a) (pos b) f g e = let z : a ≡ b = omega arith in ap pos z
      go (pos a) (negsuc b) f g e = absurd (omega arith)
      go (negsuc a) (pos b) f g e = absurd (omega arith)
      go (negsuc a) (negsuc b) f g e = let z : a ≡ b = omega arith in ap negsuc z

-- a quarter, rounded down
quarter-is : (half : ℕ) (z : ℤ) → mag z < half → biased (4 * half) z / 4 ≡ biased half (quarter z)
quarter-is half (pos n) h = omega arith
quarter-is half (negsuc n) h = omega arith

quarter-in : (half : ℕ) (z : ℤ) → mag z < half → mag (quarter z) < half
quarter-in half (pos n) h = omega arith
quarter-in half (negsuc n) h = omega arith

four_is : (half : ℕ) (x : ℤ) → mag x < half → (biased (4 * half) (four x) ≡ 4 * biased half x) × (mag (four x) < 4 * half)
four_is half (pos n) h = (omega arith, omega arith)
four_is half (negsuc n) h = (omega arith, omega arith)

pub quarter-four : (x : ℤ) → quarter (four x) ≡ x
quarter-four (pos n) = let z : (n + n + n + n) / 4 ≡ n = omega arith in ap pos z
quarter-four (negsuc n) = let z : suc (suc (suc (n + n) + n) + n) / 4 ≡ n = omega arith in ap negsuc z

-- from a number up to another
pub record Reached (a x : ℤ) : Type 0 where
  pub steps : ℕ
  pub there : a +ℤ pos steps ≡ x

reach : (a x : ℤ) → le_z a x ≡ true → Reached a x
reach (pos a) (pos b) h =
    let l = leb-true a b h in
    let z : a + (b - a) ≡ b = omega arith in
    record { steps = b - a; there = ap pos z }
reach (pos a) (negsuc b) h = absurd (false≢true h)
reach (negsuc a) (pos b) h =
    let z : b + suc a - suc a ≡ b = omega arith in
    record { steps = b + suc a; there = rw (le-ltb (b + suc a) (suc a) (omega arith), z) }
reach (negsuc a) (negsuc b) h =
    let l = leb-true b a h in
    let z : suc a - suc (a - b) ≡ b = omega arith in
    record { steps = a - b; there = rw (lt-ltb (a - b) (suc a) (omega arith), z) }

-- tile x is one of the touched tiles of an axis
pub record Listed (gl gh low high x : ℤ) : Type 0 where
  pub index : ℕ
  pub few : index < count_of gl gh low high
  pub at : first_of gl low +ℤ pos index ≡ x

ends_of : (low high x : ℤ) → between low high x ≡ true → (le_z low x ≡ true) × (le_z x high ≡ true)
ends_of low high x h = (and-eq-true_iff _ _).0 h

from-ends : (low high x : ℤ) → le_z low x ≡ true → le_z x high ≡ true → between low high x ≡ true
from-ends low high x h k = rw (h, k)

max-is : (half : ℕ) (a b : ℤ) → mag a < half → mag b < half → (mag (max_z a b) < half) × ((biased half a ≤ biased half (max_z a b)) × (biased half b ≤ biased half (max_z a b)))
max-is half a b f g = go (le_z a b) refl
  where
    go : (t : Bool) → le_z a b ≡ t → (mag (cond t b a) < half) × ((biased half a ≤ biased half (cond t b a)) × (biased half b ≤ biased half (cond t b a)))
    go true h = (g, (below half a b f g h, omega arith))
    go false h = (f, (omega arith, omega (arith, above half a b f g h)))

max_least : (half : ℕ) (a b : ℤ) (n : ℕ) → biased half a ≤ n → biased half b ≤ n → biased half (max_z a b) ≤ n
max_least half a b n h k = go (le_z a b)
  where
    go : (t : Bool) → biased half (cond t b a) ≤ n
    go true = k
    go false = h

min-is : (half : ℕ) (a b : ℤ) → mag a < half → mag b < half → (mag (min_z a b) < half) × ((biased half (min_z a b) ≤ biased half a) × (biased half (min_z a b) ≤ biased half b))
min-is half a b f g = go (le_z a b) refl
  where
    go : (t : Bool) → le_z a b ≡ t → (mag (cond t a b) < half) × ((biased half (cond t a b) ≤ biased half a) × (biased half (cond t a b) ≤ biased half b))
    go true h = (f, (omega arith, below half a b f g h))
    go false h = (g, (omega (arith, above half a b f g h), omega arith))

min-most : (half : ℕ) (a b : ℤ) (n : ℕ) → n ≤ biased half a → n ≤ biased half b → n ≤ biased half (min_z a b)
min-most half a b n h k = go (le_z a b)
  where
    go : (t : Bool) → n ≤ biased half (cond t a b)
    go true = h
    go false = k

-- what a count says
width-means : (half : ℕ) (a b : ℤ) (i : ℕ) → mag a < half → mag b < half → i < width a b → biased half a + i ≤ biased half b
width-means half a b i f g = go (le_z a b) refl
  where
    go : (t : Bool) → le_z a b ≡ t → i < cond t (nat_abs (b -ℤ a) + 1) 0 → biased half a + i ≤ biased half b
    go true e h = omega (arith, gap half a b f g e, below half a b f g e)
    go false e h = absurd (omega arith)

width-holds : (half : ℕ) (a b : ℤ) (i : ℕ) → mag a < half → mag b < half → biased half a + i ≤ biased half b → i < width a b
width-holds half a b i f g h =
    let e : le_z a b ≡ true = is_below half a b f g (omega arith) in
    rw e (omega (arith, gap half a b f g e))

quarter-order : (half : ℕ) (a b : ℤ) → mag a < half → mag b < half → le_z a b ≡ true → biased half (quarter a) ≤ biased half (quarter b)
quarter-order half a b f g h =
    omega (arith, quarter-is half a f, quarter-is half b g, below (4 * half) a b (omega arith) (omega arith) h)

module _ (half : ℕ) (gl gh low high x : ℤ) (fl : mag gl < half) (fh : mag gh < half) (ml : mag low < half) (mh : mag high < half) (mx : mag x < half) where
  first-in : mag (first_of gl low) < half
  first-in = (max-is half gl (quarter low) fl (quarter-in half low ml)).0

  last-in : mag (min_z gh (quarter high)) < half
  last-in = (min-is half gh (quarter high) fh (quarter-in half high mh)).0

  -- every tile of the grid with a sub tile between the ends is listed
  listed_by : between gl gh x ≡ true → (t : Touching low high x) → mag t.sub < half → Listed gl gh low high x
  listed_by inside t ms =
      let d = ends_of gl gh x inside in
      let e = ends_of low high t.sub t.within in
      let n : biased half (quarter t.sub) ≡ biased half x = ap (biased half) t.in-tile in
      let u : biased half (quarter low) ≤ biased half x = omega (arith, n, quarter-order half low t.sub ml ms e.0) in
      let v : biased half x ≤ biased half (quarter high) = omega (arith, n, quarter-order half t.sub high ms mh e.1) in
      let p : biased half (first_of gl low) ≤ biased half x = max_least half gl (quarter low) (biased half x) (below half gl x fl mx d.0) u in
      let q : biased half x ≤ biased half (min_z gh (quarter high)) = min-most half gh (quarter high) (biased half x) (below half x gh mx fh d.1) v in
      let o : le_z low high ≡ true = is_below half low high ml mh (omega (arith, below half low t.sub ml ms e.0, below half t.sub high ms mh e.1)) in
      let r = reach (first_of gl low) x (is_below half (first_of gl low) x first-in mx p) in
      let s : biased half (first_of gl low) + r.steps ≡ biased half x = sym (sum-biased half (first_of gl low) r.steps first-in) ∙ ap (biased half) r.there in
      record { index = r.steps; few = rw o (width-holds half (first_of gl low) (min_z gh (quarter high)) r.steps first-in last-in (omega arith)); at = r.there }

  -- every listed tile lies in the grid and has a sub tile between the ends
  module _ (i : ℕ) (at : first_of gl low +ℤ pos i ≡ x) (o : le_z low high ≡ true) (w : i < width (first_of gl low) (min_z gh (quarter high))) where
    here : biased half (first_of gl low) + i ≡ biased half x
    here = sym (sum-biased half (first_of gl low) i first-in) ∙ ap (biased half) at

    reached : biased half x ≤ biased half (min_z gh (quarter high))
    reached = omega (arith, here, width-means half (first_of gl low) (min_z gh (quarter high)) i first-in last-in w)

    low_end : biased half (quarter low) ≤ biased half x
    low_end = omega (arith, here, (max-is half gl (quarter low) fl (quarter-in half low ml)).1.1)

    high_end : biased half x ≤ biased half (quarter high)
    high_end = omega (arith, reached, (min-is half gh (quarter high) fh (quarter-in half high mh)).1.1)

    in-grid : between gl gh x ≡ true
    in-grid =
        from-ends gl gh x
        (is_below half gl x fl mx (omega (arith, here, (max-is half gl (quarter low) fl (quarter-in half low ml)).1.0)))
        (is_below half x gh mx fh (omega (arith, reached, (min-is half gh (quarter high) fh (quarter-in half high mh)).1.0)))

    four-in : mag (four x) < 4 * half
    four-in = (four_is half x mx).1

    four-high : le_z (four x) high ≡ true
    four-high =
        is_below (4 * half) (four x) high four-in (omega arith)
        (omega (arith, high_end, quarter-is half high mh, (four_is half x mx).0))

    touching : Touching low high x
    touching = go (le_z low (four x)) refl
      where
        go : (t : Bool) → le_z low (four x) ≡ t → Touching low high x
        go true h = record { sub = four x; within = from-ends low high (four x) h four-high; in-tile = quarter-four x }
        go false h =
            let a = above (4 * half) low (four x) (omega arith) four-in h in
            let e : biased half (quarter low) ≡ biased half x = omega (arith, a, low_end, quarter-is half low ml, (four_is half x mx).0) in
            record {
              sub = low;
              within = from-ends low high low (is_below half low low ml ml (omega arith)) o;
              in-tile = same half (quarter low) x (quarter-in half low ml) mx e;
            }

-- tile x of the grid with a sub tile between the ends, exactly if it is listed
module _ (gl gh low high x : ℤ) where
  pub listed : between gl gh x ≡ true → Touching low high x → Listed gl gh low high x
  listed inside t =
      listed_by (mag gl + mag gh + mag low + mag high + mag x + mag t.sub + 1) gl gh low high x
      (omega arith) (omega arith) (omega arith) (omega arith) (omega arith) inside t (omega arith)

  counted : (i : ℕ) → i < count_of gl gh low high → (le_z low high ≡ true) × (i < width (first_of gl low) (min_z gh (quarter high)))
  counted i = go (le_z low high) refl
    where
      go : (t : Bool) → le_z low high ≡ t → i < cond t (width (first_of gl low) (min_z gh (quarter high))) 0 → (le_z low high ≡ true) × (i < width (first_of gl low) (min_z gh (quarter high)))
      go true e h = (e, h)
      go false e h = absurd (omega arith)

  pub listed-touches : Listed gl gh low high x → (between gl gh x ≡ true) × Touching low high x
  listed-touches l =
      let half = mag gl + mag gh + mag low + mag high + mag x + 1 in
      let c = counted l.index l.few in (
        in-grid half gl gh low high x (omega arith) (omega arith) (omega arith) (omega arith) (omega arith) l.index l.at c.0 c.1,
        touching half gl gh low high x (omega arith) (omega arith) (omega arith) (omega arith) (omega arith) l.index l.at c.0 c.1,
      )
