-- What the readers answer, as the format has it.
use Rattle.std.specs.Prelude.{List, ℕ, ℤ}
use Rattle.parsing.specs.Parse.{Part}
use Rattle.byte_source.specs.declared.Span.{Span}
use Rattle.byte_source.specs.Answers.{part_in}
use Rattle.utils.specs.Vbe.{Groups, Noted, noted}
use Rattle.utils.specs.declared.Groups.{Groups as HeldGroups}
use Rattle.utils.specs.declared.Noted.{Noted as Held}
use Rattle.utils.specs.declared.Microdegrees.{Microdegrees}

abbrev pub groups_held : HeldGroups → Groups
groups_held g = record { magnitude = g.magnitude; sign = g.sign; weight = g.weight }

-- a noted value, of which the format has a view
abbrev pub noted_by : {A C : Type 0} → (A → C) → Held A → Noted C
noted_by view v = noted (view v.value) v.plain

abbrev pub noted_held : {A : Type 0} → Held A → Noted A
noted_held v = noted v.value v.plain

abbrev pub microdegrees : Microdegrees → ℤ
microdegrees m = m.0

-- a noted part of the map m
abbrev pub noted_part : List ℕ → Held Span → Noted Part
noted_part m t = noted (part_in m t.value) t.plain
