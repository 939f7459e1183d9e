-- Document 01, io.rs: big-endian numbers; 32 bits in two's complement.
use Rattle.std.specs.Prelude.{ℕ, ◌+◌, ◌*◌, ◌-◌, ◌^◌, ◌<◌, ◌≡◌, cond, List, [], ◌∷◌, ltb, ℤ, pos, neg_ℤ, take, drop}
use Rattle.parsing.specs.Parse.{Parser, ◌>>=◌, return, chunk}
use Rattle.parsing.specs.Good.{Good}
use Rattle.parsing.proofs.GoodLaws.{goods}

-- the number of these bytes behind acc, most significant byte first
unfoldable pub big_endian_of : ℕ → List ℕ → ℕ
big_endian_of acc [] = acc
big_endian_of acc (b ∷ s) = big_endian_of (256 * acc + b) s

unfoldable pub big_endian : ℕ → Parser ℕ
big_endian k = do
  b ← chunk k
  return (big_endian_of 0 b)

abbrev pub twos_complement : ℕ → ℤ
twos_complement n = cond (ltb n (2 ^ 31)) (pos n) (neg_ℤ (pos (2 ^ 32 - n)))

unfoldable pub int32 : Parser ℤ
int32 = do
  n ← big_endian 4
  return (twos_complement n)

-- the laws
pub big_endian-good : (k : ℕ) → Good (big_endian k)
unfolding big_endian
big_endian-good k = search goods

pub int32-good : Good int32
unfolding int32
int32-good = search (goods, big_endian-good)

pub ruleset bytes = (goods, big_endian-good, int32-good)

-- a number that the next k bytes hold
pub record Holds (k : ℕ) (s : List ℕ) (at r : ℕ) : Type 0 where
  pub value : r ≡ big_endian_of 0 (take k (drop at s))
  pub small : r < 256 ^ k
