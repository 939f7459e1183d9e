-- The texts that a stream delivers. A program gets a text as a part of the lent map, its start and its size, and finds the text's bytes
-- there; the tile as stored has the bytes themselves.
use Rattle.std.specs.Prelude.{ℕ, List, [], ◌∷◌, map}
use Rattle.parsing.specs.Parse.{Part, Maybe}
use Rattle.format.specs.Lent.{Reply}
use Rattle.format.specs.Streamed.{streamed_maybe}
use Rattle.format.specs.Tile.{Point, Head, Body}
use Rattle.types.specs.Types.{maybe_part}
use Rattle.agreement.specs.Calls.{Answer, got_point, got_head, got_body, declined, ended, refused}
use Rattle.agreement.specs.TileFormat.{TileEnd}
use Rattle.visit.specs.Visit.{ShownAnswer}

-- what a program finds in the map m by an answer: name and house number of a point; name, house number and reference of a way
abbrev pub found_texts : List ℕ → ShownAnswer → List (Maybe Part)
found_texts m (got_point p) = maybe_part m p.name ∷ maybe_part m p.house_number ∷ []
found_texts m (got_head h) = []
found_texts m (got_body b) = maybe_part m b.name ∷ maybe_part m b.house_number ∷ maybe_part m b.reference ∷ []
found_texts m declined = []
found_texts m (ended z) = []
found_texts m (refused n v) = []

-- the same of a feature as stored: its bytes, or none of them if they are not valid UTF-8
abbrev pub stored_texts : Answer Point Head Body TileEnd → List (Maybe Part)
stored_texts (got_point p) = streamed_maybe p.name ∷ streamed_maybe p.house_number ∷ []
stored_texts (got_head h) = []
stored_texts (got_body b) = streamed_maybe b.fields.name ∷ streamed_maybe b.fields.house_number ∷ streamed_maybe b.fields.reference ∷ []
stored_texts declined = []
stored_texts (ended z) = []
stored_texts (refused n v) = []

-- of a list of replies, reply by reply
abbrev pub texts_found : List ℕ → List (Reply ShownAnswer) → List (List (Maybe Part))
texts_found m rs = map (λ r. found_texts m r.answer) rs

abbrev pub texts_stored : List (Reply (Answer Point Head Body TileEnd)) → List (List (Maybe Part))
texts_stored rs = map (λ r. stored_texts r.answer) rs
