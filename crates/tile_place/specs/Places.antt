-- A tile's place as the code holds it (document 01, "Order for a tile").
use Rattle.std.specs.Prelude.{ℕ, ◌+◌, Bool, cond, List, eqb}
use Rattle.parsing.specs.Parse.{Res, map_res}
use Rattle.arithmetic.specs.Cut.{cut}
use Rattle.format.specs.Header.{Interval}
use Rattle.format.specs.Index.{answered, entry_at, next_offset, Located, located_entry}
use Rattle.tile_place.specs.declared.FoundTile.{FoundTile}

abbrev pub place_of : Located → FoundTile
place_of l = record {
  min_zoom = l.interval.min;
  max_zoom = l.interval.max;
  at = cond l.empty 0 (cut l.entry.absolute);
  is_water = l.entry.water;
  empty = l.empty;
}

-- What private functions find, which need not be believed: the next tile's offset, and the place of a tile that is there
abbrev pub next_after : (debug : Bool) → Interval → (tile tiles : ℕ) → List ℕ → Res ℕ
next_after d z tile tiles m = answered (next_offset z (eqb (tile + 1) tiles) m (entry_at d z.start (tile + 1)))

abbrev pub place_there : (debug : Bool) → Interval → (tile tiles : ℕ) → List ℕ → Res FoundTile
place_there d z tile tiles m = map_res place_of (answered (located_entry z (eqb (tile + 1) tiles) m (entry_at d z.start tile)))
