-- Document 01: places and counts are whole numbers and never wrap. Code holds them in 64 bits; 2 ^ 64 - 1 stands for any larger one.
use Rattle.std.specs.Prelude.{ℕ, ◌-◌, ◌^◌, cond, nat_lt}

abbrev pub cut : ℕ → ℕ
cut n = cond (nat_lt n (2 ^ 64)) n (2 ^ 64 - 1)
