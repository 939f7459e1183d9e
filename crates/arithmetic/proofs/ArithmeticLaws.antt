-- Laws of products and powers modulo 2 ^ 64, and of sums cut at 2 ^ 64 - 1.
use Rattle.std.proofs.Common.{◌≡◌, ℕ, zero, suc, ◌+◌, ◌-◌, ◌*◌, ◌/◌, ◌%◌, ◌^◌, ◌<◌, ◌≤◌, sym, refl, ap, ◌∙◌, lt_of_le_of_lt, le_of_lt, mod-lt, mod-eq_of_lt, mul_assoc, mul_comm, add-mul, mul-le-mul_left, mul-lt-mul_of_pos_right, pow-suc, mul-one, mul-add, mul_left_comm, arith, lit<, pow_pos, pow-add, rules, le-ltb, lt-ltb}
use native.Mathlib.Nat.{pow-zero, add-mul-mod_self_left, mod-add-div}
use lib.Pow.{mod-mod-pow}
use Rattle.arithmetic.specs.Cut.{cut}

-- a product of two numbers of 32 bits has 64 bits
pub halves-fit : (x y : ℕ) → x < 4294967296 → y < 4294967296 → x * y < 2 ^ 64
halves-fit x y h k = lt_of_le_of_lt (mul-le-mul_left x (le_of_lt k)) (mul-lt-mul_of_pos_right {m = x} {n = 4294967296} {k = 4294967296} h (lit< tt))

-- a remainder in a product
pub mul_mod_left : (a b m : ℕ) → a % m * b % m ≡ a * b % m
mul_mod_left a b m =
    sym (ap (λ (x : ℕ). x * b % m) (sym (mod-add-div a m)) ∙ rw (add-mul, mul_assoc) (add-mul-mod_self_left (a % m * b) m (a / m * b)))

pub mul_mod_right : (a b m : ℕ) → a * (b % m) % m ≡ a * b % m
mul_mod_right a b m = rw (mul_comm a (b % m), mul_comm a b) (mul_mod_left b a m)

by-half : (x q r : ℕ) → x * (r + 4294967296 * q) ≡ x * r + 4294967296 * (x * q)
by-half x q r = rw (mul-add, mul_left_comm x 4294967296 q)

-- the halves' products, as the code adds them up
pub by-halves : (a b : ℕ) → (a % 4294967296 * (b % 4294967296) + ((a / 4294967296 * (b % 4294967296) + a % 4294967296 * (b / 4294967296)) % 2 ^ 64) % 4294967296 * 4294967296) % 2 ^ 64 ≡ a * b % 2 ^ 64
by-halves a b =
    let a1 = a / 4294967296 in
    let a0 = a % 4294967296 in
    let b1 = b / 4294967296 in
    let b0 = b % 4294967296 in
    let x = a1 * b0 + a0 * b1 in
    let whole : a * b ≡ a0 * b0 + x % 4294967296 * 4294967296 + 2 ^ 64 * (a1 * b1 + x / 4294967296) =
    omega (
      arith,
      ap (λ (z : ℕ). a * z) (mod-add-div b 4294967296),
      by-half a b1 b0,
      ap (λ (z : ℕ). z * b0) (mod-add-div a 4294967296),
      ap (λ (z : ℕ). z * b1) (mod-add-div a 4294967296),
      add-mul a0 (4294967296 * a1) b0,
      add-mul a0 (4294967296 * a1) b1,
      mul_assoc 4294967296 a1 b0,
      mul_assoc 4294967296 a1 b1,
      mod-add-div x 4294967296,
    ) in
    rw (mod-mod-pow x 32 32, whole) (sym (add-mul-mod_self_left (a0 * b0 + x % 4294967296 * 4294967296) (2 ^ 64) (a1 * b1 + x / 4294967296)))

-- one turn of a power by squares
pub pow-odd : (r b e : ℕ) → r < 2 ^ 64 → e % 2 ≡ 0 → r ≡ r * b ^ (e % 2) % 2 ^ 64
pow-odd r b e h k = rw (k, pow-zero, mul-one, mod-eq_of_lt h)

pub pow_even : (r b e x : ℕ) → (e % 2 ≡ 0 → ⊥) → x ≡ r * b % 2 ^ 64 → x ≡ r * b ^ (e % 2) % 2 ^ 64
pow_even r b e x h k =
    let o : e % 2 ≡ 1 = omega arith in
    rw (o, pow-one b) k
  where
    pow-one : (z : ℕ) → z ^ 1 ≡ z
    pow-one z = rw (pow-suc z 0, pow-zero z) (omega arith)

square-pow : (b k : ℕ) → (b * b) ^ k ≡ b ^ (2 * k)
square-pow b zero = pow-zero (b * b) ∙ sym (pow-zero b)
square-pow b (suc k) =
    let e : 2 * suc k ≡ 2 * k + 2 = omega arith in
    let two : b ^ 2 ≡ b * b = rw (pow-suc b 1, pow-suc b 0, pow-zero b) (omega arith) in
    rw (pow-suc (b * b) k, square-pow b k, e, pow-add b (2 * k) 2, two)

pow-mod : (b m k : ℕ) → (b % m) ^ k % m ≡ b ^ k % m
pow-mod b m zero = rw (pow-zero (b % m), pow-zero b)
pow-mod b m (suc k) =
    rw (pow-suc (b % m) k, pow-suc b k, mul_mod_right ((b % m) ^ k) b m, ← mul_mod_left ((b % m) ^ k) b m, pow-mod b m k, mul_mod_left (b ^ k) b m)

pub pow-turn : (r b e x y t : ℕ) → x ≡ r * b ^ (e % 2) % 2 ^ 64 → y ≡ b * b % 2 ^ 64 → r * b ^ e % 2 ^ 64 ≡ t → x * y ^ (e / 2) % 2 ^ 64 ≡ t
pow-turn r b e x y t hx hy h =
    let e2 : e % 2 + 2 * (e / 2) ≡ e = mod-add-div e 2 in
    let s : r * b ^ (e % 2) * b ^ (2 * (e / 2)) ≡ r * b ^ e = rw (mul_assoc, ← pow-add b (e % 2) (2 * (e / 2)), e2) in
    rw (
      hx,
      hy,
      mul_mod_left (r * b ^ (e % 2)) ((b * b % 2 ^ 64) ^ (e / 2)) (2 ^ 64),
      ← mul_mod_right (r * b ^ (e % 2)) ((b * b % 2 ^ 64) ^ (e / 2)) (2 ^ 64),
      pow-mod (b * b) (2 ^ 64) (e / 2),
      mul_mod_right (r * b ^ (e % 2)) ((b * b) ^ (e / 2)) (2 ^ 64),
      square-pow b (e / 2),
      s,
    ) h

pub pow-start : (b e : ℕ) → 1 * b ^ e % 2 ^ 64 ≡ b ^ e % 2 ^ 64
pow-start b e = let h : 1 * b ^ e ≡ b ^ e = omega arith in rw h

pub pow-end : (r b e t : ℕ) → r < 2 ^ 64 → e ≤ 0 → r * b ^ e % 2 ^ 64 ≡ t → r ≡ t
pow-end r b e t l z h =
    let o : e ≡ 0 = omega arith in
    sym (mod-eq_of_lt l) ∙ (rw (o, pow-zero b, mul-one r) at h)

pub rest-fits : (x y : ℕ) → x ≡ y % 2 ^ 64 → x < 2 ^ 64
rest-fits x y e = rw e (mod-lt y (lit< tt))

-- sums cut at 2 ^ 64 - 1
pub sum_over : (a b : ℕ) → 2 ^ 64 - 1 - a < b → 2 ^ 64 - 1 ≡ cut (a + b)
sum_over a b h = rw (le-ltb (a + b) (2 ^ 64) (omega arith))

pub sum_fits : (a b : ℕ) → a < 2 ^ 64 → b ≤ 2 ^ 64 - 1 - a → a + b ≡ cut (a + b)
sum_fits a b f h = rw (lt-ltb (a + b) (2 ^ 64) (omega arith))

pub ruleset sums = (rules, sum_over, sum_fits)

pub ruleset powers = (rules, rest-fits, pow-odd, pow_even, pow-turn, pow-start, pow-end, halves-fit)
