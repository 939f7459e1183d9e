-- Answers as words, and the digest of the runs against the Rust (compare/src/answer.rs has the same).
use Rattle.std.specs.Prelude.{ℕ, zero, suc, ◌+◌, ◌*◌, ◌%◌, ◌^◌, min, cond, List, [], ◌∷◌, replicate, ℤ, pos, from_bits, int_le, nat_lt, slice_index, slice_set, to_bits, Float}
use Rattle.std.specs.Float.{nan, binary64}
use Rattle.std.specs.Float.Ieee.{ne, nan_bits}
use Rattle.report.specs.declared.Words.{Words}

unfoldable pub no_words : Words
no_words = record { words = replicate 40 0; count = 0 }

-- one word more, while there is room
unfoldable pub pushed : Words → ℕ → Words
pushed w x = cond (nat_lt w.count 40) (record { words = slice_set w.words w.count x; count = w.count + 1 }) w

unfoldable pub mixed : ℕ → ℕ → ℕ
mixed h x = (h * 1099511628211 % 2 ^ 64 + x) % 2 ^ 64

abbrev pub mixed_all : ℕ → List ℕ → ℕ
mixed_all h [] = h
mixed_all h (x ∷ xs) = mixed_all (mixed h x) xs

-- the first n words
unfoldable pub mixed_upto : ℕ → List ℕ → ℕ → ℕ
mixed_upto h l zero = h
mixed_upto h l (suc n) = mixed (mixed_upto h l n) (slice_index l n)

-- the number of words, and then these
abbrev pub digest_of : ℕ → Words → ℕ
digest_of h w = mixed_upto (mixed h w.count) w.words (min w.count 40)

abbrev pub sign_of : ℤ → ℕ
sign_of z = cond (int_le (pos 0) z) 0 1

-- the bits of a float; one pattern stands for every NaN
abbrev pub bits_of : Float → ℕ
bits_of x = cond (ne x x) 9221120237041090560 (to_bits binary64 x)

-- the float of a bit pattern; every pattern of a NaN is the NaN
abbrev pub float_of : ℕ → Float
float_of n = cond (nan_bits binary64 n) nan (from_bits binary64 n)
