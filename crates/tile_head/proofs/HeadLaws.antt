-- A tile's head, and definitions that go on from it.
use Prim.Native.Nat.{ℕ, suc, ◌-◌, ◌≤◌, ◌<◌}
use mathlib.Core.Path.{◌≡◌, ap, ◌∙◌}
use mathlib.Core.Bool.{Bool, true, false, ◌&&◌}
use mathlib.Core.List.{List, []}
use borrow.Author.Tests.{le-leb, lt-leb}
use Rattle.byte_source.specs.declared.Span.{Span}
use Rattle.std.specs.Prelude.{Option}
use Rattle.parsing.specs.Parse.{Res, ok, no, and_then, map_res, Part, Maybe}
use Rattle.error.specs.Refusals.{refused}
use Rattle.error.specs.declared.Refusal.{Refusal}
use Rattle.byte_source.proofs.ReadLaws.{reads, view-on, view-refused}
use Rattle.utils.specs.Vbe.{Noted, noted, values_of, all_plain, noted_unsigned}
use Rattle.format.specs.CutOff.{where_read, where_byte, of_head}
use Rattle.utils.specs.declared.Noted.{Noted as Held}
use Rattle.format.specs.Tile.{Row, zoom_table, tile_head, debug_signature}
use Rattle.format.specs.Rows.{interval_table, rows_upto, marked_head, interval_head}
use Rattle.format.proofs.EmptyLaws.{no-points, no-ways, no-points-of, no-ways-of}
use Rattle.types.specs.Types.{optional_span, maybe_part}
use Rattle.fields.proofs.FieldLaws.{optional-span-on}
use Rattle.zoom_table.specs.Blocks.{noted_sums}
use Rattle.zoom_table.specs.declared.Sums.{Sums}
use Rattle.tile_head.specs.TileHead.{head_at, no_features}
use Rattle.tile_head.specs.declared.TileHead.{TileHead}

-- the zoom table of an interval that is not reversed
module _ {B : Type 0} (m : List ℕ) (at low high zoom : ℕ) (f : List (Noted Row) → ℕ → Res B) (o : low ≤ high) where
  table_is : map_res (noted_sums low high zoom) (interval_table low high m at) ≡ map_res (noted_sums low high zoom) (zoom_table (suc (high - low)) m at)
  unfolding interval_table
  table_is = rw (le-leb low high o)

  pub sums-on : (v : Held Sums) (n : ℕ) (x : Res B) → ok (noted v.value v.plain) n ≡ map_res (noted_sums low high zoom) (interval_table low high m at) → ((a : List (Noted Row)) → noted v.value v.plain ≡ noted_sums low high zoom a → x ≡ f a n) → x ≡ and_then (zoom_table (suc (high - low)) m at) f
  sums-on v n x q p = view-on (noted_sums low high zoom) (noted v.value v.plain) n (zoom_table (suc (high - low)) m at) f x (q ∙ table_is) p

  pub sums-refused : (e : Refusal) → refused e ≡ map_res (noted_sums low high zoom) (interval_table low high m at) → refused e ≡ and_then (zoom_table (suc (high - low)) m at) f
  sums-refused e q = view-refused (noted_sums low high zoom) e (zoom_table (suc (high - low)) m at) f (q ∙ table_is)

pub head-made : (s : Option Span) (v : Held Sums) (o : Held ℕ) (low high zoom n : ℕ) (a : Maybe Part) (t : List (Noted Row)) → s ≡ optional_span a → noted v.value v.plain ≡ noted_sums low high zoom t → ◌≡◌ {A = Res TileHead} (ok (record { signature = s; sums = v.value; offset = o.value; plain = v.plain && o.plain }) n) (ok (head_at low high zoom (record { signature = a; table = values_of t; offset = o.value; plain = all_plain t && o.plain })) n)
head-made s v o low high zoom n a t h k = rw (h, ap (λ (z : Noted Sums). z.value) k, ap (λ (z : Noted Sums). z.plain) k)

-- the test of the interval comes first, then the mark
module _ (empty debug : Bool) (low high zoom : ℕ) (m : List ℕ) (at : ℕ) where
  pub head-reversed : high < low → no 13 [] ≡ map_res (head_at low high zoom) (interval_head empty debug low high m at)
  unfolding interval_head
  head-reversed o = rw (lt-leb low high o)

  pub head-empty : (v : TileHead) → low ≤ high → empty ≡ true → v ≡ no_features → ok v at ≡ map_res (head_at low high zoom) (interval_head empty debug low high m at)
  unfolding interval_head marked_head
  head-empty v o e h =
      let n = suc (high - low) in
      let k = rows_upto low high zoom in
      rw (le-leb low high o, e, h, no-points-of n k, no-ways-of n k, no-points n, no-ways n)

  pub head-ordered : (x : Res TileHead) → low ≤ high → empty ≡ false → x ≡ map_res (head_at low high zoom) (tile_head debug (suc (high - low)) m at) → x ≡ map_res (head_at low high zoom) (interval_head empty debug low high m at)
  unfolding interval_head marked_head
  head-ordered x o e h = h ∙ rw (le-leb low high o, e)

pub ruleset heads = (reads, head-reversed, head-empty, head-ordered, optional-span-on, sums-on, sums-refused, head-made)

-- behind the signature and the zoom table: stated here, where little is known, since the search among all that the code knows stops at its limits
module _ (debug : Bool) (low high zoom : ℕ) (m : List ℕ) (at : ℕ) (s : Option Span) (i : ℕ) (v : Held Sums) (j : ℕ) (o : low ≤ high)
    (p : ok (maybe_part m s) i ≡ of_head where_read (debug_signature debug) m at) (q : ok (noted v.value v.plain) j ≡ map_res (noted_sums low high zoom) (interval_table low high m i)) where
  pub offset-refused : (e : Refusal) → refused e ≡ of_head where_byte noted_unsigned m j → refused e ≡ map_res (head_at low high zoom) (tile_head debug (suc (high - low)) m at)
  unfolding tile_head
  offset-refused e h = search heads depth 12

  pub offset-on : (w : Held ℕ) (n : ℕ) → ok (noted w.value w.plain) n ≡ of_head where_byte noted_unsigned m j
      → ok (record { signature = s; sums = v.value; offset = w.value; plain = v.plain && w.plain }) n ≡ map_res (head_at low high zoom) (tile_head debug (suc (high - low)) m at)
  unfolding tile_head
  offset-on w n h = search heads depth 12
