-- Document 01, poi.rs: elevation keeps the low 32 bits of the stored number, two's complement.
use Rattle.std.specs.Prelude.{ℕ, ◌-◌, ◌%◌, ◌^◌, ℤ, pos, negsuc}
use Rattle.byte_source.specs.BigEndian.{twos_complement}

-- -1 - n has the bits that n has not
abbrev pub low_bits : ℤ → ℕ
low_bits (pos n) = n % 2 ^ 32
low_bits (negsuc n) = 2 ^ 32 - 1 - n % 2 ^ 32

abbrev pub low32 : ℤ → ℤ
low32 z = twos_complement (low_bits z)
