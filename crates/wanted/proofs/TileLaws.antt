-- The figures of a whole tile, by what the readers of its place and head and the loops answered.
use Rattle.index.specs.Answers.{answer_res}
use Prim.Native.Nat.{ℕ, max, ◌+◌, ◌^◌, ◌<◌}
use mathlib.Core.Path.{◌≡◌, refl, sym, ap, ◌∙◌}
use Rattle.std.specs.Prelude.{Result, Err}
use Rattle.std.specs.Result.{IsErr, IsErrAnd}
use Rattle.byte_source.proofs.ReadLaws.{met}
use mathlib.Core.List.{List}
use lib.ListN.{length}
use Rattle.parsing.specs.Parse.{Res, ok, and_then, map_res, many, Maybe}
use Rattle.parsing.proofs.Loops.{many-count}
use Rattle.error.specs.Refusals.{refused, number_of, values_of}
use Rattle.error.specs.declared.Refusal.{Refusal}
use Rattle.arithmetic.specs.Cut.{cut}
use Rattle.format.specs.Header.{Interval}
use Rattle.format.specs.Index.{answer, answered, Grid, locate}
use Rattle.format.specs.Rows.{rows_upto, interval_head}
use Rattle.format.specs.Tile as format
use Rattle.format.specs.Tile.{Point}
use Rattle.tile_head.specs.TileHead.{head_at}
use Rattle.tile_head.specs.declared.TileHead.{TileHead}
use Rattle.tile_place.specs.Places.{place_of}
use Rattle.tile_place.specs.declared.FoundTile.{FoundTile}
use Rattle.agreement.specs.Stream.{idle, fresh_stream}
use Rattle.agreement.specs.TileFormat.{TileEnd, tile_end}
use Rattle.agreement.proofs.Stored.{stored, stopped}
use Rattle.tile_layout.specs.TileLayout.{TileKinds, kinds_of, format_of}
use Rattle.tile_layout.specs.declared.TileLayout.{TileLayout}
use Rattle.visit.specs.Visit.{TileState, end_of, opened_at}
use Rattle.visit.proofs.OpenLaws.{fresh-made, open_no, open-found}
use Rattle.wanted.specs.Taken.{Taken, taken_ways}
use Rattle.wanted.specs.Wanted.{greatest, point_text, figures, wanted_state, wanted_after, wanted_tile, all_ways}
use Rattle.wanted.specs.declared.WantedFigures.{WantedFigures}
use Rattle.wanted.specs.declared.WayFigures.{WayFigures}

-- behind the opening
module _ (k : TileKinds) (ds m : List ℕ) (n w i v : ℕ) where
  abbrev whole : TileEnd → Res WantedFigures
  whole z = wanted_state k ds m (idle n w i v z)

  reads : (ps : List Point) (ws : List (Taken (format_of k))) (e b : ℕ) (z : TileEnd) → many (format_of k).point n m i ≡ ok ps e → taken_ways (format_of k) ds 0 w m v ≡ ok ws b
      → answer (figures k (record { points = ps; ways = ws })) ≡ whole z
  reads ps ws e b z p s = rw (p, s)

  pub points-stop : (g : Result WantedFigures Refusal) (x : Refusal) → IsErr g × IsErrAnd g (λ y. y ≡ x) → refused x ≡ map_res (greatest point_text) (many (format_of k).point n m i) → (z : TileEnd) → answer_res g ≡ whole z
  points-stop g x h q z =
      let s = stopped (greatest point_text) (number_of x) (values_of x) (many (format_of k).point n m i) q in
      ap answer_res (met h) ∙ rw s

  module _ (t e : ℕ) (q : ok t e ≡ map_res (greatest point_text) (many (format_of k).point n m i)) where
    pub ways-stop : (g : Result WantedFigures Refusal) (x : Refusal) → IsErr g × IsErrAnd g (λ y. y ≡ x) → refused x ≡ map_res (all_ways k) (taken_ways (format_of k) ds 0 w m v) → (z : TileEnd) → answer_res g ≡ whole z
    ways-stop g x h r z =
        let p = stored (greatest point_text) t e (many (format_of k).point n m i) q in
        let s = stopped (all_ways k) (number_of x) (values_of x) (taken_ways (format_of k) ds 0 w m v) r in
        ap answer_res (met h) ∙ rw (p.same, s)

    pub tile-ends : (o : WayFigures) (b x : ℕ) → ok o b ≡ map_res (all_ways k) (taken_ways (format_of k) ds 0 w m v) → x ≡ max t o.text → (z : TileEnd)
        → answer (record { points = n; ways = o.ways; blocks = o.blocks; nodes = o.nodes; text = x }) ≡ whole z
    tile-ends o b x r u z =
        let p = stored (greatest point_text) t e (many (format_of k).point n m i) q in
        let s = stored (all_ways k) o b (taken_ways (format_of k) ds 0 w m v) r in
        made p.value s.value x p.shown s.shown u (many-count (format_of k).point m n i p.value e p.same)
        ∙ reads p.value s.value e b z p.same s.same
      where
        made : {t : ℕ} {o : WayFigures} (ps : List Point) (ws : List (Taken (format_of k))) (x : ℕ) → t ≡ greatest point_text ps → o ≡ all_ways k ws → x ≡ max t o.text → length ps ≡ n
            → answer (record { points = n; ways = o.ways; blocks = o.blocks; nodes = o.nodes; text = x }) ≡ answer (figures k (record { points = ps; ways = ws }))
        made ps ws x a b c d = rw (c, a, b, ← d)

-- from a tile's place on, by what its head's reader answered
module _ (l : TileLayout) (letters ds m : List ℕ) (zoom : ℕ) (p : FoundTile) where
  abbrev read : Res format.TileHead
  read = interval_head p.empty l.debug p.min_zoom p.max_zoom m p.at

  abbrev opens : Res format.TileHead → Res TileState
  opens r = answered (and_then r (λ h e. ok (fresh_stream (rows_upto p.min_zoom p.max_zoom zoom) (tile_end 0 p.is_water) h e) e))

  abbrev at_place : Res WantedFigures
  at_place = wanted_after l letters ds m (opened_at l.debug 0 zoom p m)

  pub head-stops : (g : Result WantedFigures Refusal) (x : Refusal) → IsErr g × IsErrAnd g (λ y. y ≡ x) → refused x ≡ map_res (head_at p.min_zoom p.max_zoom zoom) (interval_head p.empty l.debug p.min_zoom p.max_zoom m p.at) → answer_res g ≡ at_place
  head-stops g x h q =
      let s = stopped (head_at p.min_zoom p.max_zoom zoom) (number_of x) (values_of x) read q in
      ap answer_res (met h) ∙ rw s

  pub head-goes-on : (h : TileHead) (n way : ℕ) (x : Res WantedFigures) → ok h n ≡ map_res (head_at p.min_zoom p.max_zoom zoom) (interval_head p.empty l.debug p.min_zoom p.max_zoom m p.at) → way ≡ cut (n + h.offset)
      → ((z : TileEnd) → x ≡ wanted_state (kinds_of l letters) ds m (idle h.sums.points h.sums.ways n way z)) → x ≡ at_place
  head-goes-on h n way x q c d =
      let s = stored (head_at p.min_zoom p.max_zoom zoom) h n read q in
      let f = fresh-made 0 zoom p h n way s.value c s.shown in
      d (end_of (record { sub_file = 0; is_water = p.is_water; plain = h.plain })) ∙ ap (wanted_after l letters ds m) f ∙ ap (λ r. wanted_after l letters ds m (opens r)) (sym s.same)

-- of a tile, by where it was found
module _ (l : TileLayout) (letters : List ℕ) (i : Maybe Interval) (grid : Grid) (t zoom : ℕ) (ds m : List ℕ) (small : length m < 2 ^ 64) where
  pub place-stops : (g : Result WantedFigures Refusal) (x : Refusal) → IsErr g × IsErrAnd g (λ y. y ≡ x) → refused x ≡ map_res place_of (locate l.debug i grid t m) → answer_res g ≡ wanted_tile l letters i grid t zoom ds m
  unfolding wanted_tile
  place-stops g x h q = ap answer_res (met h) ∙ ap (wanted_after l letters ds m) (open_no l i 0 zoom m small grid t (Err x) x (refl, refl) q)

  pub place-goes-on : (p : FoundTile) (x : Res WantedFigures) → ok p 0 ≡ map_res place_of (locate l.debug i grid t m) → x ≡ wanted_after l letters ds m (opened_at l.debug 0 zoom p m) → x ≡ wanted_tile l letters i grid t zoom ds m
  unfolding wanted_tile
  place-goes-on p x q d = d ∙ ap (wanted_after l letters ds m) (open-found l i 0 zoom m small grid t p _ q refl)
