-- Two views of a stored feature: what a stream shows of it, and what collecting and fetching show of it (document 01, "The stream and
-- the collected tile": a streamed feature has the collected one's fields but for some; a text is its stored bytes, or empty if they
-- are not valid UTF-8). The book is fed the collected view, with its texts as stored.
use Rattle.std.specs.Prelude.{◌≡◌, List, [], ◌∷◌, map}
use Rattle.format.specs.Lent.{Reply}
use Rattle.format.specs.Tile.{TileHead}
use Rattle.agreement.specs.Calls.{map_answer}
use Rattle.agreement.specs.Format.{Format}
use Rattle.agreement.specs.Stream.{StreamAnswer}
use Rattle.agreement.specs.Collected.{Way, StoredTile, Collection, CollectedTile}
use Rattle.agreement.specs.Book.{BookAnswer}

pub record View (F : Format) : Type 1 where
  pub collection : Collection
  -- as collected
  pub collected_point : F.Point → collection.Point
  pub collected_way : Way F → collection.Way
  -- as streamed
  pub streamed_point : F.Point → collection.PointAnswer
  pub streamed_head : F.Head → collection.HeadAnswer
  pub streamed_body : F.Body → collection.BodyAnswer
  pub streamed_end : F.End → collection.EndAnswer

-- what the book says of a collected feature is what the stream shows of the stored one
pub record ViewLaws {F : Format} (S : View F) : Type 0 where
  pub point : (p : F.Point) → S.collection.point (S.collected_point p) ≡ S.streamed_point p
  pub head : (w : Way F) → S.collection.head (S.collected_way w) ≡ S.streamed_head w.head
  pub body : (w : Way F) → S.collection.body (S.collected_way w) ≡ S.streamed_body (F.whole (F.kept w.head) w.body)
  pub lists : (w : Way F) → S.collection.lists (S.collected_way w) ≡ F.lists w.body
  pub note_point : (p : F.Point) (z : F.End) → S.collection.note_point (S.streamed_point p) (S.streamed_end z) ≡ S.streamed_end (F.note_point p z)
  pub note_head : (h : F.Head) (z : F.End) → S.collection.note_head (S.streamed_head h) (S.streamed_end z) ≡ S.streamed_end (F.note_head h z)
  pub note_body : (b : F.Body) (z : F.End) → S.collection.note_body (S.streamed_body b) (S.streamed_end z) ≡ S.streamed_end (F.note_body b z)

module _ {F : Format} (S : View F) where
  -- a collected tile, as collecting and fetches show it; z is what its stream's end would answer
  abbrev pub collected_tile : StoredTile F → (TileHead → F.End) → CollectedTile S.collection
  collected_tile t z = record {
    table = t.head.table;
    points = map S.collected_point t.points;
    ways = map S.collected_way t.ways;
    end = S.streamed_end (z t.head);
  }

  -- a stream's answers, as it shows them
  abbrev pub streamed : StreamAnswer F → BookAnswer S.collection
  streamed a = map_answer S.streamed_point S.streamed_head S.streamed_body S.streamed_end a

  abbrev pub streamed_reply : Reply (StreamAnswer F) → Reply (BookAnswer S.collection)
  streamed_reply r = record { answer = streamed r.answer; lists = r.lists }

  abbrev pub streamed_replies : List (Reply (StreamAnswer F)) → List (Reply (BookAnswer S.collection))
  streamed_replies [] = []
  streamed_replies (r ∷ rs) = streamed_reply r ∷ streamed_replies rs
