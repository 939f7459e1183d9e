use Rattle.std.proofs.Common.{ap}
use Rattle.parsing.specs.Parse.{map_res}
use Rattle.utils.specs.Vbe.{values_of}
use Rattle.zoom_table.specs.Blocks.{rows_of}
use Rattle.zoom_table.proofs.BlockLaws.{table-reversed, table_is}
use Rattle.zoom_table.proofs.read_table_numbers.Goals as goal

pub returns-then-max-min : goal.returns-then-max-min
returns-then-max-min c = ap (map_res rows_of) (ap (map_res values_of) (table-reversed _ _ _ _ c.if-max-min.true))

pub returns : goal.returns
returns c = rw (← table_is c.args.map.now c.args.min c.args.max c.args.at c.if-max-min.false) c.fill_rows.ensures
