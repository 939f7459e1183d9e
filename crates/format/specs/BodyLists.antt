-- Document 01, way.rs: what a way's body gives to the lent lists; its coordinate blocks one behind the other, over all data blocks.
use Rattle.format.specs.Lent.{LentLists}
use Rattle.format.specs.WayData.{concat}
use Rattle.format.specs.Nodes.{way_lists}
use Rattle.format.specs.Tile.{Body, double_delta}

abbrev pub body_lists : Body → LentLists
body_lists b = way_lists (double_delta b.fields) (concat b.data_blocks)
