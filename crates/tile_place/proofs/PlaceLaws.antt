-- A tile's place, from its sub file's interval, its entry and the next one.
use Prim.Native.Nat.{ℕ, ◌+◌, ◌%◌, ◌^◌, ◌≤◌, ◌<◌}
use native.Mathlib.Omega.{arith}
use mathlib.Core.Path.{◌≡◌, refl, sym, ap, ◌∙◌, subst}
use mathlib.Core.Logic.{◌≢◌}
use mathlib.Core.Bool.{Bool, true, false, cond}
use mathlib.Core.List.{List, []}
use lib.Dec.{leb, ltb, eqb}
use lib.ListN.{length, take, drop}
use borrow.Author.Tests.{le-leb, lt-leb, leb-true, le-ltb, lt-ltb, eq-eqb, ne_eqb}
use Rattle.parsing.specs.Parse.{Res, ok, no, and_then, map_res, renumbered, Maybe, none, some}
use Rattle.parsing.specs.Good.{split, ok-val, ok_at, no_ok}
use Rattle.parsing.proofs.Views.{view-stop}
use Rattle.error.specs.Refusals.{refused}
use Rattle.error.specs.declared.Refusal.{Refusal}
use Rattle.arithmetic.specs.Cut.{cut}
use Rattle.byte_source.specs.BigEndian.{big_endian_of, big_endian}
use Rattle.format.specs.Header.{Interval}
use Rattle.format.specs.Index.{answer, answered, Grid, good_grid, tiles_of, grid_tiles, Entry, entry, entry_at, next_offset, Located, located_entry, located, locate_in, locate}
use Rattle.index.specs.Answers.{held_entry, held_res}
use Rattle.index.specs.declared.TileIndexEntry.{TileIndexEntry}
use Rattle.index.proofs.AnswerLaws as index
use Rattle.tile_place.specs.Places.{place_of, next_after, place_there}
use Rattle.tile_place.specs.declared.FoundTile.{FoundTile}

-- an entry is five bytes, so the next one stands right behind it
entry-end : (start : ℕ) (m : List ℕ) (i : ℕ) (e : Entry) (x : ℕ) → entry start m i ≡ ok e x → x ≡ i + 5
unfolding entry big_endian
entry-end start m i e x h = go (leb (i + 5) (length m)) h
  where
    go : (c : Bool)
        → and_then {B = Entry} (renumbered 19 (cut i) (and_then (cond c (ok (take 5 (drop i m)) (i + 5)) (no 1 [])) (λ b y. ok (big_endian_of 0 b) y))) (λ n y. ok (record { water = leb (2 ^ 39) n; offset = n % 2 ^ 39; absolute = start + n % 2 ^ 39 }) y) ≡ ok e x
        → x ≡ i + 5
    go true q = sym (ok_at q)
    go false q = no_ok q

-- the next tile's offset
module _ (d : Bool) (z : Interval) (tile tiles : ℕ) (m : List ℕ) where
  pub next_last : tile + 1 ≡ tiles → ok z.size 0 ≡ next_after d z tile tiles m
  unfolding next_offset
  next_last e = rw (eq-eqb (tile + 1) tiles e)

  module _ (o : tile + 1 ≢ tiles) where
    next-by : next_after d z tile tiles m ≡ map_res (λ (e : TileIndexEntry). e.offset) (held_res (entry z.start m (entry_at d z.start (tile + 1))))
    unfolding next_offset
    next-by = rw (ne_eqb (tile + 1) tiles o) (same (entry z.start m (entry_at d z.start (tile + 1))))
      where
        same : (r : Res Entry) → answered (and_then r (λ e x. ok e.offset x)) ≡ map_res (λ (e : TileIndexEntry). e.offset) (held_res r)
        same (ok e x) = refl
        same (no n v) = refl

    pub next-no : (e : Refusal) → refused e ≡ held_res (entry z.start m (entry_at d z.start (tile + 1))) → refused e ≡ next_after d z tile tiles m
    next-no e q = ap (map_res (λ (e : TileIndexEntry). e.offset)) q ∙ sym next-by

    pub next-at : (v : TileIndexEntry) → answer v ≡ held_res (entry z.start m (entry_at d z.start (tile + 1))) → answer v.offset ≡ next_after d z tile tiles m
    next-at v q = ap (map_res (λ (e : TileIndexEntry). e.offset)) q ∙ sym next-by

-- a place that the code made
made : (z : Interval) (a : Entry) (v : TileIndexEntry) (n at : ℕ) (empty : Bool) → v ≡ held_entry a → empty ≡ eqb v.offset n → at ≡ cond empty 0 v.offset_abs
    → ◌≡◌ {A = Res FoundTile} (ok (record { min_zoom = z.min; max_zoom = z.max; at = at; is_water = v.is_water; empty = empty }) 0) (answer (place_of (record { interval = z; entry = a; empty = eqb a.offset n })))
made z a v n at empty h f p = rw (p, f, h)

-- the place, by what was learnt of the entry, of the next one, and of the order of the zoom levels
module _ (d : Bool) (z : Interval) (tile tiles : ℕ) (m : List ℕ) where
  abbrev on_entry : Entry → ℕ → Res Located
  on_entry e i =
      and_then (next_offset z (eqb (tile + 1) tiles) m i) (λ n j.
      cond (leb z.min z.max) (ok (record { interval = z; entry = e; empty = eqb e.offset n }) j) (no 13 []))

  pub no_own : (x : Refusal) → refused x ≡ held_res (entry z.start m (entry_at d z.start tile)) → refused x ≡ place_there d z tile tiles m
  unfolding located_entry
  no_own x q = go (entry z.start m (entry_at d z.start tile)) q
    where
      go : (r : Res Entry) → refused x ≡ held_res r → refused x ≡ map_res place_of (answered (and_then r on_entry))
      go (ok a n) e = no_ok e
      go (no n v) e = cc

  module _ (v : TileIndexEntry) (q : answer v ≡ held_res (entry z.start m (entry_at d z.start tile))) where
    -- the stored entry
    record Own (r : Res Entry) : Type 0 where
      value : Entry
      held : v ≡ held_entry value
      same : r ≡ ok value (entry_at d z.start (tile + 1))

    own : Own (entry z.start m (entry_at d z.start tile))
    own = go (entry z.start m (entry_at d z.start tile)) refl q
      where
        go : (r : Res Entry) → entry z.start m (entry_at d z.start tile) ≡ r → answer v ≡ held_res r → Own r
        go (ok a x) f e =
            let i = entry-end z.start m (entry_at d z.start tile) a x f in
            let j : x ≡ entry_at d z.start (tile + 1) = omega arith in
            record { value = a; held = ok-val e; same = ap (ok a) j }
        go (no n u) f e = no_ok (sym e)

    there : place_there d z tile tiles m ≡ map_res place_of (answered (on_entry own.value (entry_at d z.start (tile + 1))))
    unfolding located_entry
    there = ap (λ r. map_res place_of (answered (and_then r on_entry))) own.same

    pub no-next : (x : Refusal) → refused x ≡ next_after d z tile tiles m → refused x ≡ place_there d z tile tiles m
    no-next x w = go (next_offset z (eqb (tile + 1) tiles) m (entry_at d z.start (tile + 1))) w ∙ sym there
      where
        go : (r : Res ℕ) → refused x ≡ answered r
            → refused x ≡ map_res place_of (answered (and_then r (λ n j. cond (leb z.min z.max) (ok (record { interval = z; entry = own.value; empty = eqb own.value.offset n }) j) (no 13 []))))
        go (ok n j) f = no_ok f
        go (no n u) f = cc

    module _ (n : ℕ) (w : answer n ≡ next_after d z tile tiles m) where
      -- the rest, by the order of the zoom levels
      abbrev rest : Bool → Res FoundTile
      rest c = cond c (answer (place_of (record { interval = z; entry = own.value; empty = eqb own.value.offset n }))) (no 13 [])

      known : place_there d z tile tiles m ≡ rest (leb z.min z.max)
      known = there ∙ go (next_offset z (eqb (tile + 1) tiles) m (entry_at d z.start (tile + 1))) w
        where
          by_order : (c : Bool) (a j : ℕ) → n ≡ a → map_res place_of (answered (cond c (ok (record { interval = z; entry = own.value; empty = eqb own.value.offset a }) j) (no 13 []))) ≡ rest c
          by_order true a j f = rw f
          by_order false a j f = refl

          go : (r : Res ℕ) → answer n ≡ answered r
              → map_res place_of (answered (and_then r (λ n j. cond (leb z.min z.max) (ok (record { interval = z; entry = own.value; empty = eqb own.value.offset n }) j) (no 13 [])))) ≡ rest (leb z.min z.max)
          go (ok a j) f = by_order (leb z.min z.max) a j (ok-val f)
          go (no a u) f = no_ok (sym f)

      pub reversed : z.max < z.min → no 13 [] ≡ place_there d z tile tiles m
      reversed l = sym (known ∙ rw (lt-leb z.min z.max l))

      pub found : (empty : Bool) (at : ℕ) → z.min ≤ z.max → empty ≡ eqb v.offset n → at ≡ cond empty 0 v.offset_abs
          → ◌≡◌ {A = Res FoundTile} (ok (record { min_zoom = z.min; max_zoom = z.max; at = at; is_water = v.is_water; empty = empty }) 0) (place_there d z tile tiles m)
      found empty at l f p = made z own.value v n at empty own.held f p ∙ sym (known ∙ ap rest (le-leb z.min z.max l))

-- grid and tile first
module _ (d : Bool) (z : Interval) (grid : Grid) (tile : ℕ) (m : List ℕ) where
  abbrev in_grid : Res ℕ → Res FoundTile
  in_grid r = map_res place_of (answered (and_then r (λ n _. cond (ltb tile n) (located_entry z (eqb (tile + 1) n) m (entry_at d z.start tile)) (no 8 []))))

  by-grid : (r : Res ℕ) → r ≡ grid_tiles grid → map_res place_of (locate_in d z grid tile m) ≡ in_grid r
  unfolding locate_in located
  by-grid r q = ap in_grid (sym q)

  pub no-grid : (x : Refusal) → refused x ≡ grid_tiles grid → refused x ≡ map_res place_of (locate_in d z grid tile m)
  no-grid x q = sym (by-grid (refused x) q)

  module _ (n : ℕ) (q : answer n ≡ grid_tiles grid) where
    pub no_tile : n ≤ tile → no 8 [] ≡ map_res place_of (locate_in d z grid tile m)
    no_tile l = sym (by-grid (answer n) q ∙ rw (le-ltb tile n l))

    pub in-tile : (x : Res FoundTile) → tile < n → x ≡ place_there d z tile n m → x ≡ map_res place_of (locate_in d z grid tile m)
    in-tile x l e = e ∙ sym (by-grid (answer n) q ∙ rw (lt-ltb tile n l))

pub ruleset places = index.reads

-- a place that was found, in a definition that goes on from it
module _ {B : Type 0} where
  pub place-on : (v : FoundTile) (r : Res Located) (f : Located → Res B) (x : Res B) → answer v ≡ map_res place_of r → ((a : Located) → v ≡ place_of a → x ≡ f a) → x ≡ and_then r (λ a _. f a)
  place-on v (ok a n) f x q p = p a (ok-val q)
  place-on v (no n w) f x q p = no_ok (sym q)

  pub place-refused : (e : Refusal) (r : Res Located) (f : Located → ℕ → Res B) → refused e ≡ map_res place_of r → refused e ≡ and_then r f
  place-refused e r f q = view-stop place_of r f (sym q)

-- a tile that was located: it is in its grid, its entry was read, and its interval is not reversed
pub record Found (grid : Grid) (tile : ℕ) (z : Interval) (m : List ℕ) (i : ℕ) (l : Located) : Type 0 where
  pub interval : z ≡ l.interval
  pub ordered : z.min ≤ z.max
  pub tiles : ℕ
  pub counted : grid_tiles grid ≡ answer tiles
  pub inside : ltb tile tiles ≡ true
  pub behind : ℕ
  pub own : entry z.start m i ≡ ok l.entry behind

-- by the entry
record Read (z : Interval) (m : List ℕ) (i : ℕ) (l : Located) : Type 0 where
  interval : z ≡ l.interval
  ordered : z.min ≤ z.max
  behind : ℕ
  own : entry z.start m i ≡ ok l.entry behind

entry_read : (z : Interval) (last : Bool) (m : List ℕ) (i : ℕ) (l : Located) (e : ℕ) → located_entry z last m i ≡ ok l e → Read z m i l
unfolding located_entry
entry_read z last m i l e h =
    let a = split (entry z.start m i) (λ x j. and_then (next_offset z last m j) (λ n j. cond (leb z.min z.max) (ok (record { interval = z; entry = x; empty = eqb x.offset n }) j) (no 13 []))) l e h in
    let b = split (next_offset z last m a.mid) (λ n j. cond (leb z.min z.max) (ok (record { interval = z; entry = a.val; empty = eqb a.val.offset n }) j) (no 13 [])) l e a.second in
    go (leb z.min z.max) a.val a.mid b.val b.mid refl a.first b.second
  where
    go : (c : Bool) (x : Entry) (y n j : ℕ) → leb z.min z.max ≡ c → entry z.start m i ≡ ok x y → cond c (ok (record { interval = z; entry = x; empty = eqb x.offset n }) j) (no 13 []) ≡ ok l e → Read z m i l
    go true x y n j f r q = record {
      interval = ap (λ (y : Located). y.interval) (ok-val q);
      ordered = leb-true z.min z.max f;
      behind = y;
      own = r ∙ ap (λ (k : Located). ok k.entry y) (ok-val q);
    }
    go false x y n j f r q = no_ok q

pub located-found : (grid : Grid) (tile : ℕ) (z : Interval) (m : List ℕ) (i : ℕ) (l : Located) (e : ℕ) → located grid tile z m i ≡ ok l e → Found grid tile z m i l
unfolding located grid_tiles
located-found grid tile z m i l e h = in-grid (good_grid grid) refl h
  where
    in-tile : (c : Bool) → good_grid grid ≡ true → ltb tile (tiles_of grid) ≡ c → cond c (located_entry z (eqb (tile + 1) (tiles_of grid)) m i) (no 8 []) ≡ ok l e → Found grid tile z m i l
    in-tile true f g q =
        let r = entry_read z (eqb (tile + 1) (tiles_of grid)) m i l e q in
        record {
          interval = r.interval;
          ordered = r.ordered;
          tiles = tiles_of grid;
          counted = rw f refl;
          inside = g;
          behind = r.behind;
          own = r.own;
        }
    in-tile false f g q = no_ok q

    in-grid : (c : Bool) → good_grid grid ≡ c → and_then (cond c (answer (tiles_of grid)) (no 14 [])) (λ n _. cond (ltb tile n) (located_entry z (eqb (tile + 1) n) m i) (no 8 [])) ≡ ok l e → Found grid tile z m i l
    in-grid true f q = in-tile (ltb tile (tiles_of grid)) f refl q
    in-grid false f q = no_ok q

pub located-ordered : (d : Bool) (i : Maybe Interval) (grid : Grid) (tile : ℕ) (m : List ℕ) (l : Located) (e : ℕ) → locate d i grid tile m ≡ ok l e → l.interval.min ≤ l.interval.max
unfolding locate locate_in
located-ordered d none grid tile m l e h = no_ok h
located-ordered d (some z) grid tile m l e h =
    let a = split (located grid tile z m (entry_at d z.start tile)) (λ x _. answer x) l e h in
    let f = located-found grid tile z m (entry_at d z.start tile) a.val a.mid a.first in
    subst (λ (y : Interval). y.min ≤ y.max) (f.interval ∙ ap (λ (y : Located). y.interval) (ok-val a.second)) f.ordered
