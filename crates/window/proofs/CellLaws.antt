-- The sixteen cells of a tile are the sub tiles whose numbers, divided by 4 and rounded down, are its own.
use Prim.Native.Nat.{ℕ, suc, ◌+◌, ◌*◌, ◌-◌, ◌/◌, ◌%◌, ◌<◌}
use native.Mathlib.Omega.{arith}
use mathlib.Core.Path.{◌≡◌, ap, ◌∙◌}
use mathlib.Core.Bool.{Bool, true, cond, ◌&&◌}
use lib.IntN.{ℤ, pos, negsuc, ◌+ℤ◌}
use borrow.Author.Tests.{lt-ltb}
use Rattle.parsing.specs.Parse.{some, nth}
use Rattle.format.specs.Header.{between}
use Rattle.format.specs.Index.{Grid}
use Rattle.window.specs.Window.{Rectangle, Touched, quarter, four, cell_touched, mask_of, touched}
use Rattle.window.specs.WindowSays.{Touching, StepInto, bit}
use Rattle.window.proofs.MeaningLaws.{mask-bit}
use Rattle.window.proofs.WindowLaws.{only-touched}

pub cell-quarter : (x : ℤ) (d : ℕ) → d < 4 → quarter (four x +ℤ pos d) ≡ x
cell-quarter (pos n) d h = let z : (n + n + n + n + d) / 4 ≡ n = omega arith in ap pos z
cell-quarter (negsuc n) d h =
    let z : (suc (suc (suc (suc (n + n) + n) + n)) - suc d) / 4 ≡ n = omega arith in
    rw (lt-ltb d (suc (suc (suc (suc (n + n) + n) + n))) (omega arith), z)

into-own : (s : ℤ) → StepInto s (quarter s)
into-own (pos n) =
    let z : n / 4 + n / 4 + n / 4 + n / 4 + n % 4 ≡ n = omega arith in
    record { step = n % 4; short = omega arith; is = ap pos z }
into-own (negsuc n) =
    let z : suc (suc (suc (suc (n / 4 + n / 4) + n / 4) + n / 4)) - suc (3 - n % 4) ≡ n = omega arith in
    record { step = 3 - n % 4; short = omega arith; is = rw (lt-ltb (3 - n % 4) (suc (suc (suc (suc (n / 4 + n / 4) + n / 4) + n / 4))) (omega arith), z) }

pub into : (s x : ℤ) → quarter s ≡ x → StepInto s x
into s x e = rw e at (into-own s)

-- a touched cell of a tile
pub record Cell (r : Rectangle) (x y : ℤ) : Type 0 where
  pub cell : ℕ
  pub few : cell < 16
  pub is : cell_touched r x y cell ≡ true

both : (a b : Bool) → a ≡ true → b ≡ true → a && b ≡ true
both a b h k = rw (h, k)

pub some-cell : (r : Rectangle) (x y : ℤ) → Touching r.left r.right x → Touching r.top r.bottom y → Cell r x y
some-cell r x y a b =
    let i = into a.sub x a.in-tile in
    let j = into b.sub y b.in-tile in
    let p : (4 * j.step + i.step) % 4 ≡ i.step = omega (arith, i.short) in
    let q : (4 * j.step + i.step) / 4 ≡ j.step = omega (arith, i.short) in
    record {
      cell = 4 * j.step + i.step;
      few = omega (arith, i.short, j.short);
      is =
          both _ _
          (ap (λ d. between r.left r.right (four x +ℤ pos d)) p ∙ ap (between r.left r.right) i.is ∙ a.within)
          (ap (λ d. between r.top r.bottom (four y +ℤ pos d)) q ∙ ap (between r.top r.bottom) j.is ∙ b.within);
    }

-- the mask of a tile that comes has a bit that is 1
pub record Marked (mask : ℕ) : Type 0 where
  pub place : ℕ
  pub low : place < 16
  pub one : bit place mask ≡ 1

marked : (r : Rectangle) (x y : ℤ) → Cell r x y → Marked (mask_of r x y)
marked r x y c =
    record { place = 15 - c.cell; low = omega (arith, c.few); one = mask-bit r x y c.cell c.few ∙ ap (λ t. cond t 1 0) c.is }

pub mask-marked : (g : Grid) (r : Rectangle) (k : ℕ) (t : Touched) → nth (touched g r) k ≡ some t → Marked t.mask
mask-marked g r k t e =
    let w = only-touched g r k t e in
    rw w.mask (marked r t.x t.y (some-cell r t.x t.y w.across w.down))
