-- The second sentence of demand 3 is false as literally written, of the Mapsforge tile itself. In a tile whose first-way offset is 0 the
-- way lies over the point: a byte of the declined way, behind its tag values, is a byte of the point too, so altering it alters the
-- point that is delivered.
use mathlib.Core.Path.{◌≡◌, refl, ap}
use mathlib.Core.Logic.{◌≢◌}
use mathlib.Core.Bool.{true, false}
use mathlib.Core.List.{List, [], ◌∷◌}
use Prim.Native.Nat.{ℕ, zero, suc}
use native.Mathlib.Omega.{arith}
use lib.IntN.{pos}
use lib.ListN.{get_or}
use Rattle.parsing.specs.Parse.{Parser, Part, part, Maybe, none, some, optional}
use Rattle.byte_source.specs.BigEndian.{big_endian_of, big_endian}
use Rattle.utils.specs.Vbe.{groups, noted_unsigned, noted_signed, noted_coordinate, noted_text}
use Rattle.format.specs.Lent.{Reply}
use Rattle.format.specs.WayData.{node, block, data_block, way_data}
use Rattle.format.specs.Tile.{TileHead, row, zoom_table, debug_signature, tile_head, values, tag_id, tagged, point_fields, point, head_rest, head, way_fields, data_block_count, body}
use Rattle.agreement.specs.Calls.{Call, next, decline, got_point, got_head, got_body, declined, ended, refused}
use Rattle.agreement.specs.Format.{Format}
use Rattle.agreement.specs.Stream.{StreamAnswer}
use Rattle.agreement.specs.Collected.{StoredTile}
use Rattle.agreement.specs.Declined.{LiesIn, this, DifferOnly, declined_bytes}
use Rattle.agreement.specs.TileFormat.{TileEnd, tile_format}
use Rattle.agreement.specs.Demand3.{Collects, Agrees, stored_replies}

-- tiles of one zoom level, in a map with no tags and no debug signatures
abbrev pub plain_head : Parser TileHead
plain_head = tile_head false 1

abbrev pub plain_tile : Format
plain_tile = tile_format false [] []

-- the sentence without a word on where the ways start (compare `tile-literal` of TileAltered.antt)
abbrev pub Literally : Type 0
Literally =
    (m : List ℕ) (i : ℕ) (t : StoredTile plain_tile) → Collects plain_head plain_tile m i t → (z : TileHead → TileEnd) (rows : ℕ) (cs : List Call) (m' : List ℕ)
    → DifferOnly m m' (λ j. LiesIn j (declined_bytes plain_tile cs (stored_replies plain_tile t z rows cs))) → Agrees plain_head plain_tile m' i t z rows cs

-- a tile of one point and one way, and with one byte altered. Behind the head, 01 01 00, the point is 05 00, its position, 50, no tags,
-- and 80 01 00, a name of one byte. From the same place on the way has size 05, bitmap 00 50, no tags by 80, and its body is 01 00: the
-- first of these two bytes is the length of the point's name.
abbrev before : List ℕ
before = 0x01 ∷ 0x01 ∷ 0x00 ∷ 0x05 ∷ 0x00 ∷ 0x50 ∷ 0x80 ∷ 0x01 ∷ 0x00 ∷ []

abbrev after : List ℕ
after = 0x01 ∷ 0x01 ∷ 0x00 ∷ 0x05 ∷ 0x00 ∷ 0x50 ∷ 0x80 ∷ 0x00 ∷ 0x00 ∷ []

abbrev stored : StoredTile plain_tile
stored = record {
  head = record { signature = none; table = record { points = 1; ways = 1 } ∷ []; offset = 0; plain = true };
  start = 3;
  points = record {
    signature = none;
    position = record { latitude = pos 5; longitude = pos 0 };
    tagged = record { layer = pos 0; ids = []; values = []; plain = true };
    name = some (record { start = 8; size = 1; bytes = 0 ∷ [] });
    house_number = none;
    elevation = none;
    plain = true;
  } ∷ [];
  ways = record {
    head = record { signature = none; size = 5; start = 4; bitmap = 80; tagged = record { layer = pos 3; ids = []; values = []; plain = true }; behind = 7; plain = true };
    body = record { fields = record { name = none; house_number = none; reference = none; label = none; flags = 1; plain = true }; data_blocks = [] ∷ []; plain = true };
    end = 9;
  } ∷ [];
}

collects : Collects plain_head plain_tile before 0 stored
unfolding part optional big_endian_of big_endian groups noted_unsigned noted_signed noted_coordinate noted_text node block data_block way_data row zoom_table debug_signature tile_head values tag_id tagged point_fields point head_rest head way_fields data_block_count body
collects = record { past = 9; collects = refl; sizes = refl; small = omega arith }

-- the point, then the way, which is declined
abbrev calls : List Call
calls = next ∷ next ∷ decline ∷ []

abbrev land : TileHead → TileEnd
land h = record { sub_file = 0; water = false; plain = h.plain }

differ : DifferOnly before after (λ j. LiesIn j (declined_bytes plain_tile calls (stored_replies plain_tile stored land 1 calls)))
differ = record { long = refl; only = go }
  where
    go : (j : ℕ) → get_or before j 0 ≢ get_or after j 0 → LiesIn j (declined_bytes plain_tile calls (stored_replies plain_tile stored land 1 calls))
    go zero n = absurd (n refl)
    go (suc zero) n = absurd (n refl)
    go (suc (suc zero)) n = absurd (n refl)
    go (suc (suc (suc zero))) n = absurd (n refl)
    go (suc (suc (suc (suc zero)))) n = absurd (n refl)
    go (suc (suc (suc (suc (suc zero))))) n = absurd (n refl)
    go (suc (suc (suc (suc (suc (suc zero)))))) n = absurd (n refl)
    go (suc (suc (suc (suc (suc (suc (suc zero))))))) n = this {b = record { from = 7; to = 9 }} (omega arith) (omega arith)
    go (suc (suc (suc (suc (suc (suc (suc (suc zero)))))))) n = absurd (n refl)
    go (suc (suc (suc (suc (suc (suc (suc (suc (suc j))))))))) n = absurd (n refl)

-- how long the name of the first point delivered is
abbrev size_of : Maybe Part → ℕ
size_of none = 0
size_of (some p) = p.size

abbrev named : StreamAnswer plain_tile → ℕ
named (got_point p) = size_of p.name
named (got_head h) = 0
named (got_body b) = 0
named declined = 0
named (ended z) = 0
named (refused n v) = 0

abbrev first_named : List (Reply (StreamAnswer plain_tile)) → ℕ
first_named [] = 0
first_named (r ∷ rs) = named r.answer

pub literally-false : Literally → ⊥
unfolding part optional big_endian_of big_endian groups noted_unsigned noted_signed noted_coordinate noted_text node tagged values tag_id point_fields debug_signature point
literally-false f =
    let a = f before 0 stored collects land 1 calls after differ in
    let e : ◌≡◌ {A = ℕ} 0 1 = ap first_named a.replies in
    omega arith
