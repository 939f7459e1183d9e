-- The Mapsforge tile meets what the machines ask of a format; and each of its parts is refused at the map's end and behind it.
use Prim.Native.Nat.{ℕ, ◌^◌, ◌≤◌, ◌<◌, max}
use native.Mathlib.Omega.{arith}
use mathlib.Core.Path.{◌≡◌, refl, ap}
use mathlib.Core.Bool.{Bool, true, false, cond, ◌&&◌}
use mathlib.Core.List.{List, [], ◌∷◌}
use lib.Dec.{lit≤}
use lib.ListN.{length}
use Rattle.parsing.specs.Parse.{Res, ok, no, and_then, many, renumbered, optional, none}
use Rattle.arithmetic.specs.Cut.{cut}
use Rattle.arithmetic.proofs.CutLaws.{Cuts, cuts-past}
use Rattle.parsing.proofs.Ends.{PastEnd, Still, AtEnd, stopped, stays, part_end, ends}
use Rattle.utils.specs.Vbe.{Noted, values_of, all_plain, groups, noted_unsigned, noted_signed, noted_coordinate}
use Rattle.format.specs.WayData.{node}
use Rattle.format.specs.Tile as tile
use Rattle.format.proofs.HeadLaws as heads
use Rattle.format.specs.Rows.{points_of, ways_of, marked_head}
use Rattle.format.proofs.EmptyLaws.{no-points, no-ways}
use Rattle.parsing.specs.Good.{ok-val}
use Rattle.tag.specs.declared.Kind.{Kind}
use Rattle.agreement.specs.Format.{Laws}
use Rattle.agreement.specs.Heads.{HeadCounts}
use Rattle.agreement.specs.TileFormat.{tile_format}

pub tile-laws : (debug : Bool) (poi_kinds way_kinds : List Kind) → Laws (tile_format debug poi_kinds way_kinds)
tile-laws debug poi_kinds way_kinds = record {
  point-good = tile.point-good debug poi_kinds;
  point-strict = tile.point-strict debug poi_kinds;
  head-good = tile.head-good debug way_kinds;
  head-strict = tile.head-strict debug way_kinds;
  head_post = heads.head_post debug way_kinds;
  body-good = tile.body-good;
}

-- an empty tile counts nothing, and any other tile has a head
pub head-counts : (empty debug : Bool) (rows : ℕ) → HeadCounts (marked_head empty debug rows)
unfolding marked_head
head-counts true debug rows = record {
  passes = λ m i h e q b.
      let c = ok-val q in
      let p = ap (λ (a : tile.TileHead). points_of a.table) c in
      let w = ap (λ (a : tile.TileHead). ways_of a.table) c in
      absurd (omega (arith, no-points rows, no-ways rows));
}
head-counts false debug rows = record { passes = λ m i h e q _. (tile.tile_head-strict debug rows).more m i h e q }

pub unsigned-end : PastEnd noted_unsigned
unfolding noted_unsigned groups
unsigned-end = search ends

signed-end : PastEnd noted_signed
unfolding noted_signed groups
signed-end = search ends

coordinate-end : PastEnd noted_coordinate
unfolding noted_coordinate
coordinate-end = search (ends, signed-end)

node_end : PastEnd node
unfolding node
node_end = search (ends, coordinate-end)

row-end : PastEnd tile.row
unfolding tile.row
row-end = search (ends, unsigned-end)

rows-still : (n : ℕ) → Still (many tile.row n)
rows-still n = search (ends, row-end)

signature-still : (debug : Bool) → Still (tile.debug_signature debug)
unfolding tile.debug_signature
signature-still debug = search ends

-- a tile's head behind the map is refused by its own place
head-past : (debug : Bool) (rows : ℕ) (m : List ℕ) (i : ℕ) → length m ≤ i → tile.tile_head debug rows m i ≡ no 20 (cut i ∷ [])
unfolding tile.tile_head tile.debug_signature optional tile.zoom_table
head-past true rows m i h = rw ((part_end 32 (lit≤ tt)).stops m i h)
head-past false rows m i h = go (many tile.row rows m i) ((rows-still rows).stops m i h)
  where
    e : max i (length m) ≡ i
    e = omega arith

    go : (r : Res (List (Noted tile.Row))) → AtEnd i r
        → ◌≡◌ {A = Res tile.TileHead} (and_then (renumbered 20 (cut (max i (length m))) r) (λ t x. and_then (renumbered 20 (cut (max x (length m))) (noted_unsigned m x)) (λ o y. ok (record { signature = none; table = values_of t; offset = o.value; plain = all_plain t && o.plain }) y))) (no 20 (cut i ∷ []))
    go r stopped = rw e
    go r (stays a) = rw (unsigned-end.stops m i h, e)

tile_head-cuts : (debug : Bool) (rows : ℕ) → Cuts (tile.tile_head debug rows)
tile_head-cuts debug rows = cuts-past 20 (head-past debug rows)

-- so a tile's place may be cut; an empty tile stands nowhere, and its place is 0
pub head-cut : (empty debug : Bool) (rows : ℕ) (m : List ℕ) (i : ℕ) → length m < 2 ^ 64 → marked_head empty debug rows m (cond empty 0 (cut i)) ≡ marked_head empty debug rows m (cond empty 0 i)
unfolding marked_head
head-cut true debug rows m i small = refl
head-cut false debug rows m i small = (tile_head-cuts debug rows).at m i small

pub point-end : (debug : Bool) (kinds : List Kind) → PastEnd (tile.point debug kinds)
unfolding tile.point
point-end debug kinds = search (ends, signature-still, node_end)

pub head-end : (debug : Bool) (kinds : List Kind) → PastEnd (tile.head debug kinds)
unfolding tile.head
head-end debug kinds = search (ends, signature-still, unsigned-end)
