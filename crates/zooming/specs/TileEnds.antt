-- What the ends of a Mapsforge tile's streams say at two zooms: the same sub file and water mark, and where the richer one says that all was
-- plain, so does the poorer one, which has read less.
use Rattle.std.specs.Prelude.{◌≡◌, true}
use Rattle.agreement.specs.TileFormat.{TileEnd}

pub record PlainToo (poorer richer : TileEnd) : Type 0 where
  pub sub_file : richer.sub_file ≡ poorer.sub_file
  pub water : richer.water ≡ poorer.water
  pub plain : richer.plain ≡ true → poorer.plain ≡ true
