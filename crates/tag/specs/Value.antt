-- Document 01, tag.rs: the inline value of a tag. b is 1 byte, h 2, i and f 4, s a length (not held to the limit of texts) and that
-- many bytes; any other letter, or none, has nothing.
use Rattle.std.specs.Prelude.{ℕ, true}
use Rattle.parsing.specs.Parse.{Parser, ◌>>=◌, return, Part, part}
use Rattle.parsing.specs.Good.{Good}
use Rattle.parsing.proofs.GoodLaws.{goods}
use Rattle.utils.specs.Vbe.{Noted, noted, noted_unsigned, numbers}
use Rattle.tag.specs.declared.Kind.{Kind}
use Rattle.tag.specs.declared.Kind.TheVariants.{Byte, Short, Int, Float, Text, Nothing}

-- with whether the length was plain
unfoldable pub sized : Parser (Noted Part)
sized = do
  n ← noted_unsigned
  b ← part n.value
  return (noted b n.plain)

-- no number is stored with n bytes of a fixed number
abbrev pub fixed : ℕ → Parser (Noted Part)
fixed n = do
  b ← part n
  return (noted b true)

unfoldable pub value : Kind → Parser (Noted Part)
value Byte = fixed 1
value Short = fixed 2
value Int = fixed 4
value Float = fixed 4
value Text = sized
value Nothing = fixed 0

pub sized-good : Good sized
unfolding sized
sized-good = search numbers

pub value-good : (k : Kind) → Good (value k)
unfolding value
value-good Byte = search goods
value-good Short = search goods
value-good Int = search goods
value-good Float = search goods
value-good Text = sized-good
value-good Nothing = search goods
