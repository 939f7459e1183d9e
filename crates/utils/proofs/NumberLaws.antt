-- A signed number that was read, in a definition that goes on from it.
use Rattle.std.proofs.Common.{◌≡◌, ℕ, ◌^◌, ◌<◌, Bool, ℤ, to_z-of_z, w64, to_z, of_z}
use lib.Signed.{mag}
use Rattle.parsing.specs.Parse.{Res, ok, and_then}
use Rattle.byte_source.proofs.ReadLaws as reading
use Rattle.byte_source.proofs.ReadLaws.{went-on}
use Rattle.utils.specs.Vbe.{Noted, noted}

-- the code's local holds the number's bits, and its value is read back from them
pub signed-on : {B : Type 0} (v : ℤ) (p : Bool) (n : ℕ) (r : Res (Noted ℤ)) (f : Noted ℤ → ℕ → Res B) (x : Res B) → ok (noted v p) n ≡ r → mag v < 2 ^ 63 → x ≡ f (noted (to_z w64 (of_z w64 v)) p) n → x ≡ and_then r f
signed-on v p n r f x e m q = went-on (noted v p) n r f x e (rw (to_z-of_z {w = w64} {z = v} (record { sfits = m })) at q)

pub ruleset reads = (reading.reads, signed-on)
