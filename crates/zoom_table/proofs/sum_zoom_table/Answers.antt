use Rattle.std.proofs.Common.{rules, ◌∙◌}
use Rattle.error.specs.Refusals.{in_tile_head}
use Rattle.byte_source.proofs.CutOffLaws.{Mapped, mapped-head}
use Rattle.format.specs.CutOff.{where_byte}
use Rattle.utils.specs.Answers.{noted_held}
use Rattle.zoom_table.proofs.CutOffLaws.{table-cut-off}
use Rattle.zoom_table.proofs.sum_zoom_table.Goals as goal

pub returns : goal.returns
returns c =
    let h : Mapped (in_tile_head (where_byte c.args.map.now c.args.at)) c.sum_table_numbers.result c.map_err.result = search (rules, c.map_err.ensures.cases) in
    mapped-head noted_held _ _ _ _ h c.sum_table_numbers.ensures ∙ table-cut-off _ _ _ _ _
