use Rattle.std.proofs.Common.{rules}
use Rattle.error.specs.Refusals.{in_tile_head}
use Rattle.byte_source.proofs.CutOffLaws.{Mapped, mapped-head}
use Rattle.format.specs.CutOff.{where_byte}
use Rattle.utils.specs.Answers.{noted_held}
use Rattle.tile_head.proofs.head_number.Goals as goal

pub returns : goal.returns
returns c =
    let h : Mapped (in_tile_head (where_byte c.args.map.now c.args.at)) c.read_vbe_u_int.result c.map_err.result = search (rules, c.map_err.ensures.cases) in
    mapped-head noted_held _ _ _ _ h c.read_vbe_u_int.ensures
