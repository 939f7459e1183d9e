-- The file header, from the format document, "File header" and "Tile index header", and document 01, header.rs and tile.rs
-- (`from_source`). Where the Rust checks less than the format document says, the Rust is followed (docs/DIFFERENCES.md).
use Rattle.std.specs.Prelude.{ℕ, zero, suc, ◌+◌, ◌*◌, ◌/◌, ◌%◌, ◌^◌, Bool, true, false, cond, ◌&&◌, List, [], ◌∷◌, leb, eqb, ℤ, pos, negsuc}
use Rattle.std.specs.Int.Signed.{le_z}
use Rattle.parsing.specs.Parse.{Res, ok, no, Parser, and_then, bind, ◌>>=◌, return, fail, pick, many, here, seek, byte, chunk, Part, Maybe, none, some, optional}
use Rattle.parsing.specs.Good.{Good}
use Rattle.parsing.proofs.GoodLaws.{goods}
use Rattle.byte_source.specs.BigEndian.{big_endian, int32, bytes}
use Rattle.utils.specs.Vbe.{text, numbers}
use Rattle.format.specs.WayData.{Node}

-- bit k of a byte, counted from the lowest
abbrev pub bit : ℕ → ℕ → Bool
bit k b = eqb (b / 2 ^ k % 2) 1

abbrev pub same : List ℕ → List ℕ → Bool
same [] [] = true
same [] (y ∷ ys) = false
same (x ∷ xs) [] = false
same (x ∷ xs) (y ∷ ys) = eqb x y && same xs ys

-- "mapsforge binary OSM"
abbrev pub magic : List ℕ
magic =
    109 ∷ 97 ∷ 112 ∷ 115 ∷ 102 ∷ 111 ∷ 114 ∷ 103 ∷ 101 ∷ 32 ∷ 98 ∷ 105 ∷ 110 ∷ 97 ∷ 114 ∷ 121 ∷ 32 ∷ 79 ∷ 83 ∷ 77 ∷ []

pub record Preamble : Type 0 where
  pub size : ℕ
  pub version : ℕ
  pub file_size : ℕ
  pub date : ℕ

-- behind the magic bytes; version 3 or higher
unfoldable pub versioned : Parser Preamble
versioned = do
  size ← big_endian 4
  version ← big_endian 4
  pick (leb 3 version) (do
    file_size ← big_endian 8
    date ← big_endian 8
    return (record { size = size; version = version; file_size = file_size; date = date })) (fail 3 (version ∷ []))

unfoldable pub preamble : Parser Preamble
preamble = do
  m ← chunk 20
  pick (same m magic) versioned (fail 2 [])

-- a position in microdegrees, of four bytes each
unfoldable pub place : Parser Node
place = do
  latitude ← int32
  longitude ← int32
  return (record { latitude = latitude; longitude = longitude })

pub record Box : Type 0 where
  pub min : Node
  pub max : Node

abbrev pub between : ℤ → ℤ → ℤ → Bool
between low high z = le_z low z && le_z z high

-- latitudes from -90 to 90 degrees, longitudes from -180 to 180
abbrev pub on_earth : Node → Bool
on_earth p = between (negsuc 89999999) (pos 90000000) p.latitude && between (negsuc 179999999) (pos 180000000) p.longitude

abbrev pub valid_box : Node → Node → Bool
valid_box a b = on_earth a && on_earth b && le_z a.latitude b.latitude && le_z a.longitude b.longitude

-- checked right after its 16 bytes
unfoldable pub box : Parser Box
box = do
  a ← place
  b ← place
  pick (valid_box a b) (return (record { min = a; max = b })) (fail 4 [])

-- what every header has in front of the optional fields
pub record Front : Type 0 where
  pub preamble : Preamble
  pub box : Box
  pub tile_size : ℕ
  pub projection : Part
  pub flags : ℕ

unfoldable pub front : Parser Front
front = do
  p ← preamble
  b ← box
  t ← big_endian 2
  j ← text
  f ← byte
  return (record { preamble = p; box = b; tile_size = t; projection = j; flags = f })

-- the fields that the flags announce
pub record Options : Type 0 where
  pub start_position : Maybe Node
  pub start_zoom : Maybe ℕ
  pub language : Maybe Part
  pub comment : Maybe Part
  pub created_by : Maybe Part

unfoldable pub options : ℕ → Parser Options
options flags = do
  s ← optional (bit 6 flags) place
  z ← optional (bit 5 flags) byte
  l ← optional (bit 4 flags) text
  c ← optional (bit 3 flags) text
  y ← optional (bit 2 flags) text
  return (record { start_position = s; start_zoom = z; language = l; comment = c; created_by = y })

-- tag names, ids counted from 0; `start` is where the first one stands
pub record Tags : Type 0 where
  pub start : ℕ
  pub texts : List Part

unfoldable pub tags : Parser Tags
tags = do
  n ← big_endian 2
  s ← here
  t ← many text n
  return (record { start = s; texts = t })

-- a zoom interval and its sub file
pub record Interval : Type 0 where
  pub base : ℕ
  pub min : ℕ
  pub max : ℕ
  pub start : ℕ
  pub size : ℕ

unfoldable pub interval : Parser Interval
interval = do
  b ← byte
  l ← byte
  h ← byte
  s ← big_endian 8
  z ← big_endian 8
  return (record { base = b; min = l; max = h; start = s; size = z })

unfoldable pub intervals : Parser (List Interval)
intervals = do
  n ← byte
  many interval n

pub record Header : Type 0 where
  pub front : Front
  pub options : Options
  pub poi_tags : Tags
  pub way_tags : Tags
  pub intervals : List Interval

-- header size 0 is refused only after the last interval
abbrev pub closed : Front → Options → Tags → Tags → List Interval → Parser Header
closed f o p w z =
    pick (eqb f.preamble.size 0) (fail 5 []) (return (record { front = f; options = o; poi_tags = p; way_tags = w; intervals = z }))

-- what stands behind the optional fields
unfoldable pub tables : Front → Options → Parser Header
tables f o = do
  p ← tags
  w ← tags
  z ← intervals
  closed f o p w z

unfoldable pub header : Parser Header
header = do
  f ← front
  o ← options f.flags
  tables f o

abbrev pub debug : Header → Bool
debug h = bit 7 h.front.flags

-- "+++IndexStart+++"
abbrev pub index_signature : List ℕ
index_signature =
    43 ∷ 43 ∷ 43 ∷ 73 ∷ 110 ∷ 100 ∷ 101 ∷ 120 ∷ 83 ∷ 116 ∷ 97 ∷ 114 ∷ 116 ∷ 43 ∷ 43 ∷ 43 ∷ []

-- a sub file of a debug map starts with the signature
unfoldable pub signature : Parser Unit
signature = do
  s ← chunk 16
  pick (same s index_signature) (return tt) (fail 6 [])

-- every sub file's, in the order of the intervals, each at its sub file's start
unfoldable pub signatures : List Interval → List ℕ → Res Unit
signatures [] m = ok tt 0
signatures (z ∷ zs) m = and_then (signature m z.start) (λ _ _. signatures zs m)

-- opening a map: its header, and in debug maps the signatures; the place is the one behind the header
unfoldable pub opened : List ℕ → Res Header
opened m = and_then (header m 0) (λ h e. and_then (cond (debug h) (signatures h.intervals m) (ok tt 0)) (λ _ _. ok h e))

-- the laws
ruleset fields = (numbers, bytes)

pub versioned-good : Good versioned
unfolding versioned
versioned-good = search fields depth 20

pub preamble-good : Good preamble
unfolding preamble
preamble-good = search (fields, versioned-good)

pub place-good : Good place
unfolding place
place-good = search fields

pub box-good : Good box
unfolding box
box-good = search (fields, place-good)

pub front-good : Good front
unfolding front
front-good = search (fields, preamble-good, box-good) depth 20

pub options-good : (flags : ℕ) → Good (options flags)
unfolding options
options-good flags = search (fields, place-good) depth 20

pub tags-good : Good tags
unfolding tags
tags-good = search fields depth 12

pub interval-good : Good interval
unfolding interval
interval-good = search fields depth 20

pub intervals-good : Good intervals
unfolding intervals
intervals-good = search (fields, interval-good)

pub tables-good : (f : Front) (o : Options) → Good (tables f o)
unfolding tables
tables-good f o = search (goods, tags-good, intervals-good) depth 20

pub header-good : Good header
unfolding header
header-good = search (goods, front-good, options-good, tables-good)

pub signature-good : Good signature
unfolding signature
signature-good = search fields
