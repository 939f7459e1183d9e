use Rattle.format.specs.Tile.{debug_signature}
use Rattle.fields.proofs.FieldLaws.{flagged}
use Rattle.fields.proofs.read_signature.Goals as goal

pub returns-then-not-debug : goal.returns-then-not-debug
unfolding debug_signature
returns-then-not-debug c = search flagged

pub returns-in_err-span : goal.returns-in_err-span
unfolding debug_signature
returns-in_err-span c = search flagged

pub returns : goal.returns
unfolding debug_signature
returns c = search flagged
