-- Opening, by what the readers answered.
use Prim.Native.Nat.{ℕ, ◌+◌, ◌^◌, ◌≤◌, ◌<◌}
use mathlib.Core.Path.{◌≡◌, refl, sym, ap, ◌∙◌}
use mathlib.Core.List.{List}
use lib.ListN.{length}
use borrow.Author.Tests.{le-leb}
use Rattle.parsing.specs.Parse.{Res, ok, no, and_then, map_res, Maybe}
use Rattle.parsing.specs.Good.{ok-val, no_ok}
use Rattle.parsing.proofs.Views.{view-stop}
use Rattle.error.specs.Refusals.{refused}
use Rattle.error.specs.declared.Refusal.{Refusal}
use Rattle.arithmetic.specs.Cut.{cut}
use Rattle.format.specs.Header.{Interval}
use Rattle.format.specs.Index.{answered, Grid, Located, locate, tile_at}
use Rattle.format.specs.Rows.{rows_of_interval, rows_upto, located_head, interval_head}
use Rattle.format.specs.Tile as format
use Rattle.tile_head.specs.TileHead.{head_at}
use Rattle.tile_head.specs.declared.TileHead.{TileHead}
use Rattle.std.specs.Prelude.{Result}
use Rattle.std.specs.Result.{IsErr, IsErrAnd}
use Rattle.byte_source.proofs.ReadLaws as reading
use Rattle.byte_source.proofs.ReadLaws.{met}
use Rattle.tile_place.specs.Places.{place_of}
use Rattle.visit.specs.declared.Stream.{Stream}
use Rattle.tile_place.specs.declared.FoundTile.{FoundTile}
use Rattle.tile_place.proofs.PlaceLaws.{located-ordered}
use Rattle.agreement.specs.Stream.{open_stream, fresh_stream}
use Rattle.agreement.specs.TileFormat as tile
use Rattle.agreement.proofs.TileFormatLaws.{head-cut}
use Rattle.tile_layout.specs.declared.TileLayout.{TileLayout}
use Rattle.visit.specs.Visit.{TileState, state_of, open_tile, open_res, opened_at}
use Rattle.visit.specs.declared.Turn.TheVariants as turn

pub fresh-made : (s zoom : ℕ) (p : FoundTile) (h : TileHead) (n way : ℕ) (a : format.TileHead) → way ≡ cut (n + h.offset) → h ≡ head_at p.min_zoom p.max_zoom zoom a
    → ◌≡◌ {A = Res (TileState)} (ok (state_of (record { turn = turn.Idle (record { points = h.sums.points; ways = h.sums.ways; at = n; way = way }); end = record { sub_file = s; is_water = p.is_water; plain = h.plain } })) 0)
    (answered (ok (fresh_stream (rows_upto p.min_zoom p.max_zoom zoom) (tile.tile_end s p.is_water) a n) n))
fresh-made s zoom p h n way a w q = rw (w, q)

pub ruleset heads = (reading.reads, fresh-made)

-- a stream at a tile's place as the code holds it is the machine's
module _ (t : TileLayout) (i : Maybe Interval) (s : ℕ) (zoom : ℕ) (m : List ℕ) (small : length m < 2 ^ 64) where
  abbrev opened : Located → Res (TileState)
  opened l =
      answered (open_stream (located_head t.debug l) (rows_upto l.interval.min l.interval.max zoom) (tile.tile_end s l.entry.water) m (tile_at l))

  opened-is : (l : Located) → l.interval.min ≤ l.interval.max → opened_at t.debug s zoom (place_of l) m ≡ opened l
  unfolding interval_head
  opened-is l o =
      rw (le-leb l.interval.min l.interval.max o, head-cut l.empty t.debug (rows_of_interval l.interval.min l.interval.max) m l.entry.absolute small)

  module _ (grid : Grid) (number : ℕ) where
    pub open_no : (g : Result Stream Refusal) (x : Refusal) → IsErr g × IsErrAnd g (λ y. y ≡ x) → refused x ≡ map_res place_of (locate t.debug i grid number m) → open_res g ≡ open_tile t i s grid number zoom m
    unfolding open_tile
    open_no g x h q = ap open_res (met h) ∙ view-stop place_of (locate t.debug i grid number m) (λ l _. opened l) (sym q)

    pub open-found : (p : FoundTile) (x : Res TileState) → ok p 0 ≡ map_res place_of (locate t.debug i grid number m) → x ≡ opened_at t.debug s zoom p m → x ≡ open_tile t i s grid number zoom m
    unfolding open_tile
    open-found p x q w = w ∙ go (locate t.debug i grid number m) refl q
      where
        go : (k : Res Located) → locate t.debug i grid number m ≡ k → ok p 0 ≡ map_res place_of k → opened_at t.debug s zoom p m ≡ and_then k (λ l _. opened l)
        go (ok l e) f d = ap (λ x. opened_at t.debug s zoom x m) (ok-val d) ∙ opened-is l (located-ordered t.debug i grid number m l e f)
        go (no k v) f d = no_ok (sym d)
