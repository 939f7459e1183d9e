-- What a Mapsforge tile's stream will want under a list of decisions: request 1, document 02.
use Rattle.std.specs.Prelude.{List, [], ◌∷◌, ℕ, ◌+◌, max, length, Option, Some, None}
use Rattle.byte_source.specs.declared.Span.{Span}
use Rattle.parsing.specs.Parse.{Res, and_then, map_res, Part, Maybe, none, some}
use Rattle.format.specs.Header.{Interval}
use Rattle.format.specs.Index.{Grid}
use Rattle.format.specs.Tile.{Point, Body}
use Rattle.format.specs.WayData.{concat, node_count}
use Rattle.way.specs.declared.WayBody.{WayBody}
use Rattle.tile_layout.specs.TileLayout.{TileKinds, kinds_of, format_of}
use Rattle.tile_layout.specs.declared.TileLayout.{TileLayout}
use Rattle.visit.specs.Visit.{TileState, open_tile}
use Rattle.wanted.specs.Taken.{Taken, Delivered, delivered, bodies}
use Rattle.wanted.specs.declared.WantedFigures.{WantedFigures}
use Rattle.wanted.specs.declared.WayFigures.{WayFigures}

-- the largest value; 0 over nothing
abbrev pub greatest : {A : Type 0} → (A → ℕ) → List A → ℕ
greatest f [] = 0
greatest f (a ∷ l) = max (f a) (greatest f l)

-- the stored size of a text, before its UTF-8 check; 0 where there is none
abbrev pub text_size : Maybe Part → ℕ
text_size none = 0
text_size (some p) = p.size

-- the longest text of a point and of an accepted way: inline values of tags are none
abbrev pub point_text : Point → ℕ
point_text p = max (text_size p.name) (text_size p.house_number)

abbrev pub body_text : Body → ℕ
body_text b = max (max (text_size b.fields.name) (text_size b.fields.house_number)) (text_size b.fields.reference)

-- the coordinate blocks of a way, and all their nodes
abbrev pub blocks_in : Body → ℕ
blocks_in b = length (concat b.data_blocks)

abbrev pub nodes_in : Body → ℕ
nodes_in b = node_count (concat b.data_blocks)

abbrev pub figures : (k : TileKinds) → Delivered (format_of k) → WantedFigures
figures k d = record {
  points = length d.points;
  ways = length (bodies d.ways);
  blocks = greatest blocks_in (bodies d.ways);
  nodes = greatest nodes_in (bodies d.ways);
  text = max (greatest point_text d.points) (greatest body_text (bodies d.ways));
}

-- of what a stream delivers that was opened
abbrev pub wanted_state : TileKinds → (decisions : List ℕ) → List ℕ → TileState → Res WantedFigures
wanted_state k ds m s = map_res (figures k) (delivered (format_of k) ds m s)

-- of a stream that was opened, or the refusal of opening it
abbrev pub wanted_after : TileLayout → (letters : List ℕ) → (decisions : List ℕ) → List ℕ → Res TileState → Res WantedFigures
wanted_after l letters ds m opened = and_then opened (λ s _. wanted_state (kinds_of l letters) ds m s)

-- opening the stream, then what it delivers. (Which sub file it is, here 0, goes into the stream's end alone.)
unfoldable pub wanted_tile : TileLayout → (letters : List ℕ) → Maybe Interval → Grid → (number zoom : ℕ) → (decisions : List ℕ) → List ℕ → Res WantedFigures
wanted_tile l letters i g t zoom ds m = wanted_after l letters ds m (open_tile l i 0 g t zoom m)

-- What private functions make, which need not be believed: the figures of these bodies, of one way, and of several
abbrev pub body_figures : List Body → WayFigures
body_figures l = record { ways = length l; blocks = greatest blocks_in l; nodes = greatest nodes_in l; text = greatest body_text l }

abbrev pub one_way : (k : TileKinds) → Taken (format_of k) → WayFigures
one_way k w = body_figures (bodies (w ∷ []))

abbrev pub all_ways : (k : TileKinds) → List (Taken (format_of k)) → WayFigures
all_ways k ws = body_figures (bodies ws)

abbrev pub joined : WayFigures → WayFigures → WayFigures
joined a b = record { ways = a.ways + b.ways; blocks = max a.blocks b.blocks; nodes = max a.nodes b.nodes; text = max a.text b.text }

-- of a text and of a body as they are handed out
abbrev pub span_size : Option Span → ℕ
span_size None = 0
span_size (Some s) = s.size

abbrev pub figures_of : WayBody → WayFigures
figures_of b = record {
  ways = 1;
  blocks = b.blocks;
  nodes = b.nodes;
  text = max (max (span_size b.name) (span_size b.house_number)) (span_size b.reference);
}
