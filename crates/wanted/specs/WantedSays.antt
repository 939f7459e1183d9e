-- What the figures of request 1 (document 02) are good for, of the stream of crate agreement, driven by a list of decisions as crate zooming
-- drives it: with lists of those lengths it ends well, so that no call of it is 15, and delivers just what was counted; and where there are no
-- figures, it meets that same refusal. First of a tile of any format, then from the contracts of `wanted` and `visit::open`.
use Rattle.std.specs.Prelude.{Result, Ok, Err}
use Rattle.std.specs.Prelude.{◌≡◌, Bool, true, false, List, [], ◌∷◌, ℕ, suc, ◌≤◌, length}
use Rattle.parsing.specs.Parse.{ok, no, none, some}
use Rattle.error.specs.Refusals.{number_of, values_of}
use Rattle.error.specs.declared.Refusal.{Refusal}
use Rattle.format.specs.Lent.{LentLists, fits, written}
use Rattle.agreement.specs.Calls.{next, accept, decline, got_point, got_head, got_body, declined, refused, plain, lending}
use Rattle.agreement.specs.Format.{Format}
use Rattle.agreement.specs.Stream.{StreamState, stream}
use Rattle.zooming.specs.Zooming.{Way, by_head, whole, EndsWell}
use Rattle.tile_layout.specs.TileLayout.{TileKinds, format_of}
use Rattle.visit.specs.Visit.{TileState, state_of}
use Rattle.visit.specs.declared.Stream.{Stream}
use Rattle.wanted.specs.Taken.{accepts, Taken, Delivered, delivered, bodies}
use Rattle.wanted.specs.Wanted.{figures}
use Rattle.wanted.specs.declared.WantedFigures.{WantedFigures}

-- the rule by which the stream is driven: by the way's number alone
abbrev pub decided : (F : Format) → (decisions : List ℕ) → ℕ → F.Head → Bool
decided F ds k h = accepts ds k

-- the same ways as the stream delivers them: an accepted one with the next of the lent lists, its body as accept gives it, and the lists
-- after the call
pub data StreamedAs (F : Format) : List (Taken F) → (lent : List LentLists) → List (Way F) → Type 0 where
  no-ways : StreamedAs F [] [] []
  by-head : {h : F.Head} {ts : List (Taken F)} {ls : List LentLists} {ws : List (Way F)}
      → StreamedAs F ts ls ws → StreamedAs F (record { head = h; body = none } ∷ ts) ls (by_head h ∷ ws)
  with-body : {h : F.Head} {b : F.Body} {l : LentLists} {ts : List (Taken F)} {ls : List LentLists} {ws : List (Way F)}
      → StreamedAs F ts ls ws → StreamedAs F (record { head = h; body = some b } ∷ ts) (l ∷ ls) (whole h l (F.whole (F.kept h) b) (written (F.lists b) l) ∷ ws)

-- driven by the decisions, with these lists, the stream ends well and has delivered just this
pub record Streams (F : Format) (m : List ℕ) (ds : List ℕ) (s : StreamState F) (lent : List LentLists) (d : Delivered F) : Type 0 where
  pub ways : List (Way F)
  pub said : F.End
  pub ends : EndsWell F m (decided F ds) 0 s lent d.points ways said
  pub same : StreamedAs F d.ways lent ways

-- Driven by a rule as in `EndsWell`, with these lists for way k, the stream answers well until a call is refused by this number and these
-- values.
pub data Meets (F : Format) (m : List ℕ) (rule : ℕ → F.Head → Bool) (lent : ℕ → LentLists) (n : ℕ) (v : List ℕ) : (way : ℕ) → StreamState F → Type 0 where
  at_next : {k : ℕ} {s s' : StreamState F} → stream F m s next ≡ plain (refused n v) s' → Meets F m rule lent n v k s
  at-accept : {k : ℕ} {s s' s'' : StreamState F} {h : F.Head} → stream F m s next ≡ plain (got_head h) s' → rule k h ≡ true
      → stream F m s' (accept (lent k)) ≡ lending (refused n v) (lent k) s'' → Meets F m rule lent n v k s
  on-point : {k : ℕ} {s s' : StreamState F} {p : F.Point} → stream F m s next ≡ plain (got_point p) s'
      → Meets F m rule lent n v k s' → Meets F m rule lent n v k s
  on-declined : {k : ℕ} {s s' s'' : StreamState F} {h : F.Head} → stream F m s next ≡ plain (got_head h) s' → rule k h ≡ false
      → stream F m s' decline ≡ plain declined s'' → Meets F m rule lent n v (suc k) s'' → Meets F m rule lent n v k s
  on-accepted : {k : ℕ} {s s' s'' : StreamState F} {h : F.Head} {b : F.Body} {l : LentLists} → stream F m s next ≡ plain (got_head h) s' → rule k h ≡ true
      → stream F m s' (accept (lent k)) ≡ lending (got_body b) l s'' → Meets F m rule lent n v (suc k) s'' → Meets F m rule lent n v k s

-- lists that are long enough for any way body in this map
pub record LongEnough (F : Format) (m : List ℕ) (l : LentLists) : Type 0 where
  pub fit : (i : ℕ) (b : F.Body) (e : ℕ) → F.body m i ≡ ok b e → fits (F.lists b) l ≡ true

-- all entries of a list are so
pub data Each {A : Type 0} (P : A → Type 0) : List A → Type 0 where
  none_left : Each P []
  and-each : {a : A} {l : List A} → P a → Each P l → Each P (a ∷ l)

-- The theorem of any format: what is delivered is what the stream delivers with lists that fit each body of it, three for each accepted way; and
-- what is refused is what the stream meets.
pub record DeliveredIsStream (F : Format) (m : List ℕ) (ds : List ℕ) (s : StreamState F) : Type 0 where
  pub delivers : (d : Delivered F) (e : ℕ) → delivered F ds m s ≡ ok d e → (lent : List LentLists) → length lent ≡ length (bodies d.ways)
      → Each (λ l. Each (λ b. fits (F.lists b) l ≡ true) (bodies d.ways)) lent → Streams F m ds s lent d
  pub refuses : (n : ℕ) (v : List ℕ) → delivered F ds m s ≡ no n v → (lent : ℕ → LentLists) → ((j : ℕ) → LongEnough F m (lent j)) → Meets F m (decided F ds) lent n v 0 s

-- lists of the lengths that are wanted, or longer ones, of any content
pub record LongAs (w : WantedFigures) (l : LentLists) : Type 0 where
  pub counts : w.blocks ≤ length l.counts
  pub latitudes : w.nodes ≤ length l.latitudes
  pub longitudes : w.nodes ≤ length l.longitudes

-- a stream whose figures are w: what it delivers has these figures, and with such lists, three for each accepted way, it delivers it
pub record Wants (k : TileKinds) (m : List ℕ) (ds : List ℕ) (w : WantedFigures) (s : TileState) : Type 0 where
  pub what : Delivered (format_of k)
  pub figured : w ≡ figures k what
  pub streams : (lent : List LentLists) → length lent ≡ w.ways → Each (LongAs w) lent → Streams (format_of k) m ds s lent what

-- opened, as a stream of which this holds
pub data OpenedWith (P : TileState → Type 0) : (Result Stream Refusal) → Type 0 where
  opened : {s : Stream} → P (state_of s) → OpenedWith P (Ok s)

-- refused by that number and those values: by opening, or by a call of the stream
pub data RefusedToo (k : TileKinds) (m : List ℕ) (ds : List ℕ) (n : ℕ) (v : List ℕ) : (Result Stream Refusal) → Type 0 where
  at-opening : {r : Refusal} → number_of r ≡ n → values_of r ≡ v → RefusedToo k m ds n v (Err r)
  at_call : {s : Stream} → ((lent : ℕ → LentLists) → ((j : ℕ) → LongEnough (format_of k) m (lent j)) → Meets (format_of k) m (decided (format_of k) ds) lent n v 0 (state_of s))
      → RefusedToo k m ds n v (Ok s)

-- what an answer of `wanted` says of the stream that `visit::open` gives for the same tile and zoom
pub record WantedSays (k : TileKinds) (m : List ℕ) (ds : List ℕ) (r : (Result WantedFigures Refusal)) (o : (Result Stream Refusal)) : Type 0 where
  pub value : (w : WantedFigures) → r ≡ Ok w → OpenedWith (Wants k m ds w) o
  pub refusal : (x : Refusal) → r ≡ Err x → RefusedToo k m ds (number_of x) (values_of x) o
