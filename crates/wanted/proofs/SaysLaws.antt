-- From the contracts of `wanted` and `visit::open` to the stream.
use Rattle.index.specs.Answers.{answer_res}
use Rattle.std.specs.Prelude.{Result, Ok, Err}
use Rattle.error.specs.declared.Refusal.{Refusal}
use Rattle.visit.specs.declared.Stream.{Stream}
use mathlib.Core.Path.{◌≡◌, refl, sym, ap, ◌∙◌}
use mathlib.Core.Bool.{true}
use mathlib.Core.List.{List, [], ◌∷◌}
use Prim.Native.Nat.{ℕ, ◌≤◌}
use native.Mathlib.Omega.{arith}
use lib.ListN.{length, length-map}
use borrow.Author.Tests.{le-leb}
use Rattle.parsing.specs.Parse.{Res, ok, no, and_then, Maybe}
use Rattle.parsing.specs.Good.{split, ok-val, no_ok}
use Rattle.error.specs.Refusals.{number_of, values_of}
use Rattle.format.specs.BodyLists.{body_lists}
use Rattle.format.specs.Header.{Interval}
use Rattle.format.specs.Index.{answer, answered, Grid, Located, locate, tile_at}
use Rattle.format.specs.Lent.{LentLists, fits}
use Rattle.format.specs.Nodes.{latitude_of, longitude_of}
use Rattle.format.specs.Rows.{rows_upto, located_head}
use Rattle.format.specs.Tile.{Body, TileHead, double_delta}
use Rattle.format.specs.WayData.{concat}
use Rattle.way_data.proofs.BlockLaws.{length-along}
use Rattle.agreement.specs.Stream.{fresh_stream}
use Rattle.agreement.specs.TileFormat.{tile_end}
use Rattle.agreement.proofs.Stored.{stopped}
use Rattle.tile_layout.specs.TileLayout.{TileKinds, kinds_of, format_of}
use Rattle.tile_layout.specs.declared.TileLayout.{TileLayout}
use Rattle.visit.specs.Visit.{TileState, state_of, open_tile, open_res}
use Rattle.wanted.specs.Taken.{Delivered, delivered, bodies}
use Rattle.wanted.specs.Wanted.{greatest, blocks_in, nodes_in, figures, wanted_state, wanted_after, wanted_tile}
use Rattle.wanted.specs.WantedSays.{Each, none_left, and-each, LongAs, Wants, OpenedWith, opened, RefusedToo, at-opening, at_call, WantedSays}
use Rattle.wanted.specs.declared.WantedFigures.{WantedFigures}
use Rattle.wanted.proofs.StreamLaws.{delivered-is-stream}

-- lists as long as the largest are long enough for each
fits-long : (b : Body) (l : LentLists) → blocks_in b ≤ length l.counts → nodes_in b ≤ length l.latitudes → nodes_in b ≤ length l.longitudes → fits (body_lists b) l ≡ true
fits-long b l x y z =
    let all = concat b.data_blocks in
    rw (length-map all length, length-along (double_delta b.fields) latitude_of all, length-along (double_delta b.fields) longitude_of all, le-leb _ _ x, le-leb _ _ y, le-leb _ _ z)

all_fit : (bs : List Body) (l : LentLists) → greatest blocks_in bs ≤ length l.counts → greatest nodes_in bs ≤ length l.latitudes → greatest nodes_in bs ≤ length l.longitudes
    → Each (λ b. fits (body_lists b) l ≡ true) bs
all_fit [] l x y z = none_left
all_fit (b ∷ bs) l x y z = and-each (fits-long b l (omega arith) (omega arith) (omega arith)) (all_fit bs l (omega arith) (omega arith) (omega arith))

each_fits : (bs : List Body) (w : WantedFigures) → w.blocks ≡ greatest blocks_in bs → w.nodes ≡ greatest nodes_in bs → {ls : List LentLists} → Each (LongAs w) ls
    → Each (λ l. Each (λ b. fits (body_lists b) l ≡ true) bs) ls
each_fits bs w p q none_left = none_left
each_fits bs w p q (and-each {a = l} f r) =
    and-each (all_fit bs l (rw p at f.counts) (rw q at f.latitudes) (rw q at f.longitudes)) (each_fits bs w p q r)

-- what is known of a stream whose figures are w: what it delivers, and that lists of the wanted lengths fit it
pub record Known (k : TileKinds) (m : List ℕ) (ds : List ℕ) (w : WantedFigures) (s : TileState) : Type 0 where
  pub what : Delivered (format_of k)
  pub behind : ℕ
  pub is : delivered (format_of k) ds m s ≡ ok what behind
  pub figured : w ≡ figures k what
  pub count : (lent : List LentLists) → length lent ≡ w.ways → length lent ≡ length (bodies what.ways)
  pub fit : (lent : List LentLists) → Each (LongAs w) lent → Each (λ l. Each (λ b. fits (body_lists b) l ≡ true) (bodies what.ways)) lent

module _ (k : TileKinds) (m : List ℕ) (ds : List ℕ) where
  pub known : (w : WantedFigures) (e : ℕ) (s : TileState) → wanted_state k ds m s ≡ ok w e → Known k m ds w s
  known w e s q =
      let a = split (delivered (format_of k) ds m s) (λ d x. ok (figures k d) x) w e q in
      let f : w ≡ figures k a.val = sym (ok-val a.second) in
      record {
        what = a.val;
        behind = a.mid;
        is = a.first;
        figured = f;
        count = λ lent c. c ∙ ap (λ (x : WantedFigures). x.ways) f;
        fit = λ lent long. each_fits (bodies a.val.ways) w (ap (λ (x : WantedFigures). x.blocks) f) (ap (λ (x : WantedFigures). x.nodes) f) long;
      }

  wants : (w : WantedFigures) (e : ℕ) (s : TileState) → wanted_state k ds m s ≡ ok w e → Wants k m ds w s
  wants w e s q =
      let a = known w e s q in
      record {
        what = a.what;
        figured = a.figured;
        streams = λ lent c long. (delivered-is-stream (format_of k) m ds s).delivers a.what a.behind a.is lent (a.count lent c) (a.fit lent long);
      }

  -- figures come of a stream that opens
  pub opened-value : (P : TileState → Type 0) (w : WantedFigures) → ((s : TileState) → wanted_state k ds m s ≡ ok w 0 → P s) → (o : (Result Stream Refusal))
      → answer w ≡ and_then (open_res o) (λ s _. wanted_state k ds m s) → OpenedWith P o
  opened-value P w p (Ok s) q = opened (p (state_of s) (sym q))
  opened-value P w p (Err r) q = no_ok (sym q)

  refused-too : (n : ℕ) (v : List ℕ) (o : (Result Stream Refusal)) → no n v ≡ and_then (open_res o) (λ s _. wanted_state k ds m s) → RefusedToo k m ds n v o
  refused-too n v (Ok s) q =
      at_call ((delivered-is-stream (format_of k) m ds (state_of s)).refuses n v (stopped (figures k) n v (delivered (format_of k) ds m (state_of s)) q))
  refused-too n v (Err r) q = let a : number_of r ≡ n = cc in let b : values_of r ≡ v = cc in at-opening a b

-- the stream delivers the same whatever its sub file's number is, which goes into its end alone
module _ (l : TileLayout) (i : Maybe Interval) (s : ℕ) (g : Grid) (t zoom : ℕ) (k : TileKinds) (ds : List ℕ) (m : List ℕ) where
  abbrev after : Res TileState → Res WantedFigures
  after r = and_then r (λ x _. wanted_state k ds m x)

  abbrev from : ℕ → Located → Res TileHead → Res TileState
  from n a r = answered (and_then r (λ h e. ok (fresh_stream (rows_upto a.interval.min a.interval.max zoom) (tile_end n a.entry.water) h e) e))

  by-head : (a : Located) (r : Res TileHead) → after (from s a r) ≡ after (from 0 a r)
  by-head a (ok h e) = refl
  by-head a (no n v) = refl

  by_place : (r : Res Located) → after (and_then r (λ a _. from s a (located_head l.debug a m (tile_at a)))) ≡ after (and_then r (λ a _. from 0 a (located_head l.debug a m (tile_at a))))
  by_place (ok a e) = by-head a (located_head l.debug a m (tile_at a))
  by_place (no n v) = refl

  any-sub-file : after (open_tile l i s g t zoom m) ≡ after (open_tile l i 0 g t zoom m)
  unfolding open_tile
  any-sub-file = by_place (locate l.debug i g t m)

-- what `wanted` answers, by what `visit::open` gives for the same tile and zoom
module _ (l : TileLayout) (letters : List ℕ) (i : Maybe Interval) (s : ℕ) (g : Grid) (t zoom : ℕ) (ds m : List ℕ) (r : (Result WantedFigures Refusal)) (o : (Result Stream Refusal))
    (q : answer_res r ≡ wanted_tile l letters i g t zoom ds m) (p : open_res o ≡ open_tile l i s g t zoom m) where
  pub after-opening : answer_res r ≡ wanted_after l letters ds m (open_res o)
  unfolding wanted_tile
  after-opening = q ∙ sym (any-sub-file l i s g t zoom (kinds_of l letters) ds m) ∙ ap (wanted_after l letters ds m) (sym p)

  -- the theorem: the premises are the contracts of `wanted` and of `visit::open`, for any sub file number s
  pub wanted-says : WantedSays (kinds_of l letters) m ds r o
  wanted-says =
      let k = kinds_of l letters in
      record {
        value = λ w e. opened-value k m ds (Wants k m ds w) w (wants k m ds w 0) o (ap answer_res (sym e) ∙ after-opening);
        refusal = λ x e. refused-too k m ds (number_of x) (values_of x) o (ap answer_res (sym e) ∙ after-opening);
      }
