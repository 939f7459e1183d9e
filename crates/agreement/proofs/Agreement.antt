-- Demand 3 of a whole map (specs/Demand3.antt): the header, the index signatures and the tile's entry are read alike from a map that
-- is altered elsewhere, so the tile is the same, and its replies are those of TileAgrees.antt and TileAltered.antt.
use mathlib.Core.Path.{◌≡◌, ap, ◌∙◌}
use mathlib.Core.List.{List, [], ◌∷◌, map}
use Prim.Native.Nat.{ℕ, ◌≤◌, ◌<◌}
use lib.ListN.{length, get_or}
use Rattle.parsing.specs.Parse.{ok, Parser, and_then, end_of}
use Rattle.parsing.specs.Good.{Good, split, ok-val, ok_at}
use Rattle.agreement.specs.Calls.{Call}
use Rattle.agreement.specs.Collected.{StoredTile}
use Rattle.agreement.specs.Book.{book_start}
use Rattle.agreement.specs.Declined.{LiesIn, this, later, passed_bytes, DifferOnly}
use Rattle.agreement.specs.View.{streamed_replies}
use Rattle.agreement.specs.MapLayout.{MapLayout, MapLaws, signatures, open_map, opened_bytes, rows_at}
use Rattle.agreement.specs.Demand3.{Collects, Agrees, point_bytes, Opens, MapCollects, MapAgrees, map_replies, OnlyDeclined, MapAlterable, Demand3}
use Rattle.agreement.proofs.TileAgrees.{tile-agrees}
use Rattle.agreement.proofs.TileAltered.{decided, tile-altered, declined-alterable}
use Rattle.agreement.proofs.Delivered.{points_delivered, undelivered-alterable}
use Rattle.agreement.proofs.Views.{view-book}

module _ (m m' : List ℕ) (long : length m ≡ length m') where
  -- a read whose bytes two maps share
  read-near : {A : Type 0} {p : Parser A} {i e : ℕ} {a : A} → Good p → ((j : ℕ) → i ≤ j → j < end_of (p m i) → get_or m j 0 ≡ get_or m' j 0) → p m i ≡ ok a e → p m' i ≡ ok a e
  read-near {i = i} {e = e} {a = a} g s h = g.near m m' i a e (record { long = long; same = λ j u v. s j u (rw h v) }) h

  signatures-near : (p : Parser Unit) → Good p → (l : List ℕ) (u : Unit) (x : ℕ)
      → ((j : ℕ) → LiesIn j (map (λ i. passed_bytes p m i) l) → get_or m j 0 ≡ get_or m' j 0) → signatures p l m ≡ ok u x → signatures p l m' ≡ ok u x
  signatures-near p g [] u x s h = h
  signatures-near p g (i ∷ l) u x s h =
      let a = split (p m i) (λ _ _. signatures p l m) u x h in
      rw (read-near g (λ j y z. s j (this y z)) a.first) (signatures-near p g l u x (λ j k. s j (later k)) a.second)

  module _ (C : MapLayout) (L : MapLaws C) where
    pub open-near : (h : C.Header) (e : ℕ) → ((j : ℕ) → LiesIn j (opened_bytes C m h) → get_or m j 0 ≡ get_or m' j 0) → open_map C m ≡ ok h e → open_map C m' ≡ ok h e
    open-near h e s o =
        let a = split (C.header m 0) (λ g x. and_then (signatures C.signature (C.signatures_at g) m) (λ _ _. ok g x)) h e o in
        let b = split (signatures C.signature (C.signatures_at a.val) m) (λ _ _. ok a.val a.mid) h e a.second in
        go a.val a.mid b.val b.mid a.first b.first (ok-val b.second) (ok_at b.second)
      where
        go : (g : C.Header) (x : ℕ) (u : Unit) (y : ℕ) → C.header m 0 ≡ ok g x → signatures C.signature (C.signatures_at g) m ≡ ok u y → g ≡ h → x ≡ e
            → open_map C m' ≡ ok h e
        go g x u y p q r w =
            let q' = rw r at q in
            rw (read-near L.header (λ j k z. s j (this k z)) p, r, signatures-near C.signature L.signature (C.signatures_at h) u y (λ j k. s j (later (later k))) q', w)

    pub entry-near : (h : C.Header) (n : C.Entry) (x : ℕ) → ((j : ℕ) → LiesIn j (opened_bytes C m h) → get_or m j 0 ≡ get_or m' j 0)
        → C.entry h m (C.entry_at h) ≡ ok n x → C.entry h m' (C.entry_at h) ≡ ok n x
    entry-near h n x s o = read-near (L.entry h) (λ j k z. s j (later (this k z))) o

module _ (C : MapLayout) (L : MapLaws C) (m : List ℕ) (h : C.Header) (n : C.Entry) (t : StoredTile (C.format h)) (c : MapCollects C m h n t) where
  collects : Collects (C.tile_head h n) (C.format h) m (C.tile_at h n) t
  collects = let k = c.collects in record { past = c.past; collects = rw c.map.entry at k; sizes = c.sizes; small = c.small }

  agreed : (zoom : ℕ) (cs : List Call) (m' : List ℕ) → Opens C m' h n → Agrees (C.tile_head h n) (C.format h) m' (C.tile_at h n) t (C.end h n) (rows_at C h zoom) cs → MapAgrees C m' h n t zoom cs
  agreed zoom cs m' o a = record {
    map = o;
    opens = rw o.entry a.opens;
    replies = a.replies;
    shown = ap (streamed_replies (C.view h)) a.replies ∙ view-book (C.view h) (L.view h) t (C.end h n) (rows_at C h zoom) (book_start (C.end h n t.head)) cs;
  }

  altered : (zoom : ℕ) (cs : List Call) (m' : List ℕ) → DifferOnly m m' (MapAlterable C m h t zoom cs (map_replies C h n t zoom cs)) → MapAgrees C m' h n t zoom cs
  altered zoom cs m' D =
      let o = c.map in
      let s : (j : ℕ) → LiesIn j (opened_bytes C m h) → get_or m j 0 ≡ get_or m' j 0 = λ j k. decided _ _ (λ e. (D.only j e).only.opened k) in
      agreed zoom cs m'
      (record {
        header_end = o.header_end;
        header = open-near m m' D.long C L h o.header_end s o.header;
        entry_end = o.entry_end;
        entry = entry-near m m' D.long C L h n o.entry_end s o.entry;
      })
      (tile-altered (C.tile_head h n) (C.format h) m (C.tile_at h n) t (L.tile_head h n) (L.format h) collects (C.end h n) (rows_at C h zoom) cs m'
      (record { long = D.long; only = λ j e. record { declined = (D.only j e).only.declined; points = (D.only j e).points } }))

  pub demand-3 : Demand3 C m h n t
  demand-3 = record {
    agrees = λ zoom cs. agreed zoom cs m c.map (tile-agrees (C.tile_head h n) (C.format h) m (C.tile_at h n) t (L.format h) collects (C.end h n) (rows_at C h zoom) cs);
    altered = altered;
    literal = λ zoom cs m' b D.
        altered zoom cs m' (record {
          long = D.long;
          only = λ j e. record {
            only = D.only j e;
            points = (declined-alterable (C.tile_head h n) (C.format h) m (C.tile_at h n) t (L.tile_head h n) (L.format h) collects (C.end h n) (rows_at C h zoom) cs b j (D.only j e).declined).points;
          };
        });
  }

  -- of a byte that lies only in ways declined untried, "in no point that the calls delivered" says as much as "in no point up to the zoom"
  pub undelivered : (zoom : ℕ) (cs : List Call) (j : ℕ) → OnlyDeclined C m h cs (map_replies C h n t zoom cs) j
      → (LiesIn j (point_bytes (C.format h) m t (points_delivered (map_replies C h n t zoom cs)) ∷ []) → ⊥) → MapAlterable C m h t zoom cs (map_replies C h n t zoom cs) j
  undelivered zoom cs j o k = record {
    only = o;
    points = (undelivered-alterable (C.tile_head h n) (C.format h) m (C.tile_at h n) t (L.format h) collects (C.end h n) (rows_at C h zoom) cs j o.declined k).points;
  }
