-- The records that the runs against the Rust are asked by (compare/src/records.rs writes them).
use Rattle.std.specs.Prelude.{ℕ, List}
use Rattle.parsing.specs.Parse.{Parser, ◌>>=◌, return, byte, Part, part}
use Rattle.byte_source.specs.BigEndian.{big_endian}
use Rattle.byte_source.specs.Answers.{part_in}
use Rattle.report.specs.declared.Record.{Record}

-- the letter of what is asked, and the question
pub record Asked : Type 0 where
  pub letter : ℕ
  pub question : Part

unfoldable pub a_record : Parser Asked
a_record = do
  l ← byte
  n ← big_endian 4
  q ← part n
  return (record { letter = l; question = q })

-- a record that the code holds, of the input m
abbrev pub asked_in : List ℕ → Record → Asked
asked_in m r = record { letter = r.letter; question = part_in m r.question }
