-- Document 01, utils.rs: the hash of a text. "For character i of n, counting from 0, add its code point, then multiply by 31 to the
-- power n − i + 1, all modulo 2^64."
use Rattle.std.specs.Prelude.{ℕ, ◌+◌, ◌-◌, ◌*◌, ◌%◌, ◌^◌, List, [], ◌∷◌, length}

-- from character i of n on, with h so far
unfoldable pub hash_from : ℕ → ℕ → ℕ → List ℕ → ℕ
hash_from n i h [] = h
hash_from n i h (c ∷ cs) = hash_from n (i + 1) ((h + c) * 31 ^ (n - i + 1) % 2 ^ 64) cs

-- of a text's code points
abbrev pub hash : List ℕ → ℕ
hash cs = hash_from (length cs) 0 0 cs
