use Rattle.tag.specs.Value.{value}
use Rattle.tag.proofs.ValueLaws.{values}
use Rattle.tag.proofs.skip_inline_value.Goals as goal

pub returns-in-Byte : goal.returns-in-Byte
unfolding value
returns-in-Byte c = search values

pub returns-in-Short : goal.returns-in-Short
unfolding value
returns-in-Short c = search values

pub returns-in-Int : goal.returns-in-Int
unfolding value
returns-in-Int c = search values

pub returns-in-Float : goal.returns-in-Float
unfolding value
returns-in-Float c = search values

pub returns-in-Text : goal.returns-in-Text
unfolding value
returns-in-Text c = search values

pub returns-in-Nothing : goal.returns-in-Nothing
unfolding value
returns-in-Nothing c = search values
