use mathlib.Core.Path.{◌≡◌}
use Rattle.parsing.specs.Parse.{ok, many, passed}
use Rattle.utils.specs.Vbe.{text}
use Rattle.tag_table.proofs.skip_texts.Given as goal

abbrev pub invariant-loop : goal.invariant-loop
invariant-loop l = passed (many text l.counter l.map l.at) ≡ ok tt l.next
