-- Zooming in only adds, by words (specs/WordZooming.antt): what was seen by words was seen of the inner functions, and back.
use Rattle.std.specs.Prelude.{Result, Ok, Err}
use Rattle.error.specs.declared.Refusal.{Refusal}
use Rattle.visit.specs.declared.Stream.{Stream}
use Prim.Native.Nat.{ℕ}
use mathlib.Core.Path.{◌≡◌, sym, ap, ◌∙◌}
use mathlib.Core.Bool.{Bool}
use mathlib.Core.List.{List}
use Rattle.format.specs.Lent.{LentLists}
use Rattle.types.specs.Types.{grid_of}
use Rattle.types.specs.declared.Grid.{Grid}
use Rattle.tagged.specs.declared.TagIds.{TagIds}
use Rattle.poi.specs.declared.Poi.{Poi}
use Rattle.index.specs.Answers.{interval_found}
use Rattle.agreement.specs.TileFormat.{TileEnd}
use Rattle.wire.specs.Wire.{Wire, list_of}
use Rattle.header_wire.specs.Header.{layout_in}
use Rattle.index_wire.specs.Index.{interval_in}
use Rattle.stream_wire.specs.Streams.{stream_in, opened_wire}
use Rattle.stream_wire.specs.Codecs.{opened-back}
use Rattle.exports.specs.Calls.{StreamOf}
use Rattle.map_agreement.specs.ZoomingIn.{SeenWay, calls_of, replies_of, Saw}
use Rattle.map_agreement.proofs.ZoomingLaws.{zooming-says}
use Rattle.word_agreement.specs.WordZooming.{WordSaw, WordZooming}
use Rattle.word_agreement.proofs.Words.{renamed, refusal-number, opened-stream, word-called, word-streams}

module _ (m : List ℕ) (s : ℕ) (grid : Grid) (number zoom : ℕ) (layout letters interval : List ℕ) (rule : (bitmap : ℕ) → TagIds → Bool) (lists : List LentLists) (points : List Poi) (ways : List SeenWay) (z : TileEnd)
    (w : WordSaw m s grid number zoom layout letters interval rule lists points ways z) where
  saw : Saw m (layout_in layout) letters (interval_found (interval_in interval)) s (grid_of grid) number zoom rule lists points ways z
  saw = go w.opens.answer w.opens.is w.opens.crossed
    where
      go : (o : Result Stream Refusal) → StreamOf m s number zoom (layout_in layout) (interval_in interval) grid o → w.after ≡ opened_wire w.before o
          → Saw m (layout_in layout) letters (interval_found (interval_in interval)) s (grid_of grid) number zoom rule lists points ways z
      go (Ok st) i q = record {
        small = w.small;
        stream = st;
        opens = i;
        decides = w.decides;
        calls =
            renamed (ap (λ (v : Wire). stream_in (list_of v 1)) q ∙ opened-stream (opened-back w.before w.lent (Ok st)))
            (word-called m layout letters (list_of w.after 1) (calls_of points ways) (replies_of points ways z) w.calls);
      }
      go (Err r) i q = refusal-number r (sym w.opened ∙ ap (λ (v : Wire). v.number) q)

  pub word-zooming : WordZooming m s grid number zoom layout letters interval rule lists points ways z
  word-zooming =
      let says = zooming-says m (layout_in layout) letters (interval_found (interval_in interval)) s (grid_of grid) number zoom rule lists points ways z saw in
      record {
        says = says;
        lower = λ zoom' le. word-streams m s grid number zoom' layout letters interval _ _ (says.lower zoom' le).opens (says.lower zoom' le).replies;
      }
