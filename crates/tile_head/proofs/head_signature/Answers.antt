use Rattle.std.proofs.Common.{rules}
use Rattle.error.specs.Refusals.{in_tile_head}
use Rattle.byte_source.proofs.CutOffLaws.{Mapped, mapped-head}
use Rattle.format.specs.CutOff.{where_read}
use Rattle.types.specs.Types.{maybe_part}
use Rattle.tile_head.proofs.head_signature.Goals as goal

pub returns : goal.returns
returns c =
    let h : Mapped (in_tile_head (where_read c.args.map.now c.args.at)) c.read_signature.result c.map_err.result = search (rules, c.map_err.ensures.cases) in
    mapped-head (maybe_part c.args.map.now) _ _ _ _ h c.read_signature.ensures
