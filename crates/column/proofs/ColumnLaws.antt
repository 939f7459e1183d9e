-- The two answers, by the steps that the code takes.
use Rattle.std.proofs.Common.{◌≡◌, ℕ, ◌*◌, ◌%◌, ◌^◌, ◌<◌, ◌≤◌, [], ℤ, refl, ap, ◌∙◌, arith, shl_exact, w32, to_z, of_z, to_z-of_z, rules, le-leb}
use lib.Ieee.{Float, binary64, to_signed, of_bits, of_int, add, sub, mul, div}
use lib.Ieee.Casts.{to_signed_in}
use borrow.Author.Tests.{lt-leb}
use Rattle.parsing.specs.Parse.{ok, no}
use Rattle.column.specs.Column.{as_float, longitude_of, longitude, column_of, column}

-- a float cut to 32 bits fits them
pub kept : (x : Float) (z : ℤ) → z ≡ to_signed 31 x → to_z w32 (of_z w32 z) ≡ to_signed 31 x
kept x z e = rw (e, to_z-of_z {w = w32} (record { sfits = to_signed_in 31 x }))

-- a shift that loses no bit
pub tiles-at : (k : ℕ) (x : Float) → k ≤ 63 → x ≡ as_float (1 * 2 ^ k % 2 ^ 64) → x ≡ as_float (2 ^ k)
tiles-at k x h e = e ∙ ap as_float (shl_exact {a = 1} 1 k 64 (omega arith) (omega arith) ∙ omega arith)

degrees-180 : of_bits binary64 4640537203540230144 ≡ as_float 180
unfolding of_bits of_int
degrees-180 = refl

degrees-360 : of_bits binary64 4645040803167600640 ≡ as_float 360
unfolding of_bits of_int
degrees-360 = refl

pub longitude-no : (x zoom : ℕ) → 63 < zoom → no 18 [] ≡ longitude x zoom
unfolding longitude
longitude-no x zoom h = rw (lt-leb zoom 63 h)

pub longitude-ok : (x zoom : ℕ) (n : Float) → zoom ≤ 63 → n ≡ as_float (2 ^ zoom) → ok (sub binary64 (mul binary64 (div binary64 (as_float x) n) (of_bits binary64 4645040803167600640)) (of_bits binary64 4640537203540230144)) 0 ≡ longitude x zoom
unfolding longitude longitude_of
longitude-ok x zoom n h e = rw (le-leb zoom 63 h, e, degrees-180, degrees-360)

pub column-no : (d : Float) (zoom : ℕ) → 63 < zoom → no 18 [] ≡ column d zoom
unfolding column
column-no d zoom h = rw (lt-leb zoom 63 h)

pub column-ok : (d : Float) (zoom : ℕ) (n : Float) (z : ℤ) → zoom ≤ 63 → n ≡ as_float (2 ^ zoom) → z ≡ to_signed 31 (div binary64 (mul binary64 n (add binary64 d (of_bits binary64 4640537203540230144))) (of_bits binary64 4645040803167600640)) → ok z 0 ≡ column d zoom
unfolding column column_of
column-ok d zoom n z h e g = rw (le-leb zoom 63 h, g, e, degrees-180, degrees-360)

pub ruleset columns = (rules, tiles-at, longitude-no, longitude-ok, column-no, column-ok)
