-- Where reads in a row start: what loops write to a list, and the k-th of them.
use Prim.Native.Nat.{ℕ, zero, suc, ◌+◌, ◌-◌, ◌^◌, ◌<◌}
use native.Mathlib.Nat.{zero-add, le_of_suc-le-suc, not-suc-le-zero}
use native.Mathlib.Numerals.{add-one}
use native.Mathlib.Omega.{arith}
use mathlib.Core.Path.{◌≡◌, refl, sym, ap, ◌∙◌, subst}
use mathlib.Core.Bool.{Bool, true, false, ◌&&◌}
use mathlib.Core.List.{List, [], ◌∷◌, ◌++◌}
use lib.Dec.{T, eqb, eqb→eq}
use lib.ListN.{length, get_or, set, length-append}
use lib.Seq.{sets}
use Rattle.parsing.specs.Parse.{Res, ok, no, Parser, and_then, map_res, bind, return, here, many, end_of, Maybe, some, nth, Part}
use Rattle.parsing.specs.Good.{split, ok-val, ok_at, no_ok}
use Rattle.parsing.proofs.Loops.{many_more, many-no, many-count, sets-append}
use Rattle.error.specs.Refusals.{number_of, values_of}
use Rattle.error.specs.declared.Refusal.{Refusal}
use Rattle.arithmetic.specs.Cut.{cut}
use Rattle.arithmetic.proofs.CutLaws.{cut_fits}
use Rattle.utils.specs.Vbe.{Noted, noted_unsigned}
use Rattle.std.specs.Prelude.{Result, Ok, Err, Option}
use Rattle.error.specs.Refusals.{refused}
use Rattle.byte_source.specs.declared.Span.{Span}
use Rattle.byte_source.proofs.ReadLaws.{refused-on}
use Rattle.utils.specs.declared.Noted.{Noted as Held}
use Rattle.utils.specs.Answers.{noted_held}
use Rattle.tag.specs.declared.Kind.{Kind}
use Rattle.byte_source.specs.BigEndian.{big_endian}
use Rattle.format.specs.Tile as format
use Rattle.format.specs.Tile.{point, Head, head, head_rest, debug_signature, tagged}
use Rattle.types.specs.Types.{maybe_part}
use Rattle.poi.specs.Poi.{poi_of}
use Rattle.poi.specs.declared.Poi.{Poi}
use Rattle.agreement.specs.Format.{Format, Laws}
use Rattle.agreement.specs.TileFormat.{tile_format}
use Rattle.agreement.specs.Collected.{Way, way, exact, all_exact, StoredTile, collect}
use Rattle.agreement.proofs.Chain.{Chain, stop, link, many-chain}
use Rattle.agreement.proofs.Stored.{stored, stopped}
use Rattle.agreement.proofs.TileAgrees.{way-good, way-strict, collected}
use Rattle.agreement.proofs.TileFormatLaws.{tile-laws}
use Rattle.tile_layout.specs.TileLayout.{TileKinds, format_of}
use Rattle.tile_walk.specs.TileWalk.{said_of_all, said_ways}
use Rattle.tile_walk.specs.declared.WaysSaid.{WaysSaid}
use Rattle.tile.specs.Tile.{shown_tile, summary_of, places_of, feature_places, ReadsPut, ExactPut, WaysPut, PlacesPut, EndsExact}
use Rattle.tile.specs.declared.TileSummary.{TileSummary}

module _ {A : Type 0} (p : Parser A) (m : List ℕ) where
  pub places-length : (n i : ℕ) → length (places_of p n m i) ≡ n
  places-length zero i = refl
  places-length (suc n) i = ap suc (places-length n (end_of (p m i)))

  places-suc : (n i : ℕ) (xs : List A) (e : ℕ) → many p n m i ≡ ok xs e → places_of p (suc n) m i ≡ places_of p n m i ++ (e ∷ [])
  places-suc zero i xs e h = ap (λ x. x ∷ []) (ok_at h)
  places-suc (suc n) i xs e h =
      let s = split (p m i) (λ a x. and_then (many p n m x) (λ l y. ok (a ∷ l) y)) xs e h in
      let t = split (many p n m s.mid) (λ l y. ok (s.val ∷ l) y) xs e s.second in
      let q : t.mid ≡ e = ok_at t.second in
      rw s.first (ap (λ (l : List ℕ). i ∷ l) (places-suc n s.mid t.val e (t.first ∙ ap (ok t.val) q)))

  -- i reads were made and listed
  pub record Reached (i at next first : ℕ) (lent left : List ℕ) : Type 0 where
    pub before : List A
    pub read : many p i m at ≡ ok before next
    pub put : left ≡ sets lent first (places_of p i m at)

  pub reached-more : (i at next first : ℕ) (lent left : List ℕ) → Reached i at next first lent left → (v : A) (k : ℕ) → p m next ≡ ok v k → Reached (i + 1) at k first lent (set left (first + i) next)
  reached-more i at next first lent left r v k h = record {
    before = r.before ++ (v ∷ []);
    read = many_more p m i at r.read h;
    put =
        ap (λ (l : List ℕ). set l (first + i) next) r.put
        ∙ ap (λ n. set (sets lent first (places_of p i m at)) (first + n) next) (sym (places-length i at))
        ∙ sym (sets-append (places_of p i m at) (next ∷ []) lent first)
        ∙ ap (sets lent first) (sym (places-suc i at r.before next r.read))
        ∙ ap (λ n. sets lent first (places_of p n m at)) (sym (add-one i));
  }

  -- from the list's front on
  pub reached-front : (i at next : ℕ) (lent left : List ℕ) → Reached i at next 0 lent left → (v : A) (k : ℕ) → p m next ≡ ok v k → Reached (i + 1) at k 0 lent (set left i next)
  reached-front i at next lent left r v k h = subst (λ j. Reached (i + 1) at k 0 lent (set left j next)) (zero-add i) (reached-more i at next 0 lent left r v k h)

  pub reached-stop : (i n at next first : ℕ) (lent left left' : List ℕ) → Reached i at next first lent left → (k : ℕ) (v : List ℕ) → p m next ≡ no k v → i < n → ReadsPut p n m at first lent left'
  reached-stop i n at next first lent left left' r k v h b = record { put = λ xs e q. no_ok (sym (many-no p m i n at r.read h b) ∙ q) }

  -- value k of a run, and where it stands
  pub record Stands (l : List A) (k i : ℕ) : Type 0 where
    pub before : List A
    pub at : ℕ
    pub value : A
    pub end : ℕ
    pub reached : many p k m i ≡ ok before at
    pub read : p m at ≡ ok value end
    pub kth : nth l k ≡ some value
    pub listed : get_or (places_of p (length l) m i) k 0 ≡ at

  pub stands : {i e : ℕ} {l : List A} → Chain p m i l e → (k : ℕ) → k < length l → Stands l k i
  stands stop k b = absurd (not-suc-le-zero b)
  stands (link {i = i} {x = x} {a = a} h c) zero b = record { before = []; at = i; value = a; end = x; reached = refl; read = h; kth = refl; listed = refl }
  stands (link {i = i} {x = x} {a = a} {l = l} h c) (suc k) b =
      let s = stands c k (le_of_suc-le-suc b) in
      record { before = a ∷ s.before; at = s.at; value = s.value; end = s.end; reached = rw (h, s.reached) refl; read = s.read; kth = s.kth; listed = rw h s.listed }

  -- the whole run, read again
  pub reads-again : {i e : ℕ} {l : List A} → Chain p m i l e → many p (length l) m i ≡ ok l e
  reads-again stop = refl
  reads-again (link h c) = rw (h, reads-again c) refl

-- one for each feature
pub places_count : (F : Format) (m : List ℕ) (t : StoredTile F) → length (feature_places F m t) ≡ length t.points + length t.ways
places_count F m t =
    length-append (places_of F.point (length t.points) m t.start) (places_of (way F) (length t.ways) m (t.start + t.head.offset))
    ∙ ap (λ n. n + length (places_of (way F) (length t.ways) m (t.start + t.head.offset))) (places-length F.point m (length t.points) t.start)
    ∙ ap (λ n. length t.points + n) (places-length (way F) m (length t.ways) (t.start + t.head.offset))

-- points
module _ (m : List ℕ) (debug : Bool) (kinds : List Kind) (i at next : ℕ) (lent left : List ℕ) (r : Reached (point debug kinds) m i at next 0 lent left) where
  pub point-more : (v : Poi) (k : ℕ) → ok v k ≡ map_res poi_of (point debug kinds m next) → Reached (point debug kinds) m (i + 1) at k 0 lent (set left i next)
  point-more v k q =
      let s = stored poi_of v k (point debug kinds m next) q in
      reached-front (point debug kinds) m i at next lent left r s.value k s.same

  pub point-stop : (x : Refusal) (n : ℕ) (left' : List ℕ) → refused x ≡ map_res poi_of (point debug kinds m next) → i < n → ReadsPut (point debug kinds) n m at 0 lent left'
  point-stop x n left' q b =
      reached-stop (point debug kinds) m i n at next 0 lent left left' r _ _ (stopped poi_of (number_of x) (values_of x) (point debug kinds m next) q) b

-- ways that are measured, each by a walk over one
one_of : {A B : Type 0} (f : List A → B) (r : Res A) → map_res f (and_then r (λ a e. ok (a ∷ []) e)) ≡ map_res (λ a. f (a ∷ [])) r
one_of f (ok a e) = refl
one_of f (no k v) = refl

module _ (m : List ℕ) (l : TileKinds) (i at next first : ℕ) (lent left : List ℕ) (r : Reached (way (format_of l)) m i at next first lent left) where
  abbrev said_one : Way (format_of l) → WaysSaid
  said_one w = said_of_all l (w ∷ [])

  one : said_ways l m 1 next ≡ map_res said_one (way (format_of l) m next)
  one = one_of (said_of_all l) (way (format_of l) m next)

  pub way-more : (s : WaysSaid) (k : ℕ) → ok s k ≡ said_ways l m 1 next → Reached (way (format_of l)) m (i + 1) at k first lent (set left (first + i) next)
  way-more s k q =
      let w = stored said_one s k (way (format_of l) m next) (q ∙ one) in
      reached-more (way (format_of l)) m i at next first lent left r w.value k w.same

  pub way-stop : (x : Refusal) (n : ℕ) (left' : List ℕ) → refused x ≡ said_ways l m 1 next → i < n → ReadsPut (way (format_of l)) n m at first lent left'
  way-stop x n left' q b =
      reached-stop (way (format_of l)) m i n at next first lent left left' r _ _ (stopped said_one (number_of x) (values_of x) (way (format_of l) m next) (q ∙ one)) b

-- ways by their stored sizes
and_left : (a b : Bool) → (a && b) ≡ true → a ≡ true
and_left true b h = refl
and_left false b h = h

and_right : (a b : Bool) → (a && b) ≡ true → b ≡ true
and_right true b h = h
and_right false b h = absurd (let z : ◌≡◌ {A = ℕ} 0 1 = cc in omega arith)

test_of : (b : Bool) → b ≡ true → T b
test_of true e = tt
test_of false e = absurd (let z : ◌≡◌ {A = ℕ} 0 1 = cc in omega arith)

exact-kth : {F : Format} (ws : List (Way F)) (k : ℕ) (w : Way F) → all_exact ws ≡ true → nth ws k ≡ some w → exact w ≡ true
exact-kth [] k w h q = absurd (let z : ◌≡◌ {A = ℕ} 0 1 = cc in omega arith)
exact-kth {F} (x ∷ ws) zero w h q = let z : x ≡ w = cc in subst (λ (y : Way F). exact y ≡ true) z (and_left (exact x) (all_exact ws) h)
exact-kth (x ∷ ws) (suc k) w h q = exact-kth ws k w (and_right (exact x) (all_exact ws) h) q

module _ (debug : Bool) (points ways : List Kind) (m : List ℕ) (small : length m < 2 ^ 64) where
  abbrev F : Format
  F = tile_format debug points ways

  abbrev L : Laws F
  L = tile-laws debug points ways

  -- an exact way ends at its data start plus stored size, which is not cut
  record Exactly (i x : ℕ) : Type 0 where
    head : Head
    behind : ℕ
    read : format.head debug ways m i ≡ ok head behind
    ends : cut (head.start + head.size) ≡ x

  exactly : (i : ℕ) (w : Way F) (x : ℕ) → way F m i ≡ ok w x → exact w ≡ true → Exactly i x
  exactly i w x h t =
      let s = split (F.head m i) (λ g b. bind F.body (λ d. bind here (λ e. return (record { head = g; body = d; end = e }))) m b) w x h in
      let u = split (F.body m s.mid) (λ d e. ok (record { head = s.val; body = d; end = e }) e) w x s.second in
      known s.val s.mid u.val u.mid s.first u.first u.second
    where
      known : (g : Head) (b : ℕ) (d : format.Body) (e : ℕ) → F.head m i ≡ ok g b → F.body m b ≡ ok d e → ◌≡◌ {A = Res (Way F)} (ok (record { head = g; body = d; end = e }) e) (ok w x) → Exactly i x
      known g b d e p q r =
          let a = L.head_post.holds m i g b p in
          let f = L.body-good.forth m b d e q in
          let o = (way-strict F L).more m i w x h in
          let v = (way-good F L).bound m i w x h in
          let z : exact {F = F} (record { head = g; body = d; end = e }) ≡ true = subst (λ (y : Way F). exact y ≡ true) (sym (ok-val r)) t in
          let y = eqb→eq g.size (e - g.start) (test_of (eqb g.size (e - g.start)) z) in
          let k : e ≡ x = ok_at r in
          let j : g.start + g.size ≡ x = omega (arith, a.0) in
          record { head = g; behind = b; read = p; ends = cut_fits (g.start + g.size) (omega arith) ∙ j }

  module _ (n at : ℕ) (ws : List (Way F)) (e : ℕ) (h : many (way F) n m at ≡ ok ws e) (t : all_exact ws ≡ true) (i next first : ℕ) (lent left : List ℕ) (r : Reached (way F) m i at next first lent left) (b : i < n) where
    there : Stands (way F) m ws i at
    there = stands (way F) m (many-chain (way F) m n at ws e h).chain i (subst (λ k. i < k) (sym (many-count (way F) m n at ws e h)) b)

    here-now : there.at ≡ next
    here-now = ok_at (sym there.reached ∙ r.read)

    read_here : way F m next ≡ ok there.value there.end
    read_here = subst (λ k. way F m k ≡ ok there.value there.end) here-now there.read

    ends-here : (g : Result ℕ Refusal) → EndsExact debug m next g → g ≡ Ok there.end
    ends-here g q =
        let k = exactly next there.value there.end read_here (exact-kth ws i there.value t there.kth) in
        q.ends ways k.head k.behind k.read ∙ ap Ok k.ends

    more : (k : ℕ) → EndsExact debug m next (Ok k) → Reached (way F) m (i + 1) at k first lent (set left (first + i) next)
    more k q =
        let e : k ≡ there.end = let z = ends-here (Ok k) q in cc in
        reached-more (way F) m i at next first lent left r there.value k (read_here ∙ ap (ok there.value) (sym e))

    nowhere : {C : Type 0} (x : Refusal) → EndsExact debug m next (Err x) → C
    nowhere x q = absurd (let z = ends-here (Err x) q in cc)

-- i ways were passed, if all are there and exact
pub record ExactReached (debug : Bool) (n : ℕ) (m : List ℕ) (i at next first : ℕ) (lent left : List ℕ) : Type 0 where
  pub so : (points ways : List Kind) (ws : List (Way (tile_format debug points ways))) (e : ℕ) → many (way (tile_format debug points ways)) n m at ≡ ok ws e → all_exact ws ≡ true
      → Reached (way (tile_format debug points ways)) m i at next first lent left

module _ (debug : Bool) (n : ℕ) (m : List ℕ) (at first : ℕ) (lent : List ℕ) (i next : ℕ) (left : List ℕ) (r : ExactReached debug n m i at next first lent left) where
  pub exact-more : (k : ℕ) → EndsExact debug m next (Ok k) → i < n → length m < 2 ^ 64 → ExactReached debug n m (i + 1) at k first lent (set left (first + i) next)
  exact-more k q b small = record { so = λ points ways ws e h t. more debug points ways m small n at ws e h t i next first lent left (r.so points ways ws e h t) b k q }

  pub exact-stop : (x : Refusal) (left' : List ℕ) → EndsExact debug m next (Err x) → i < n → length m < 2 ^ 64 → ExactPut debug n m at first lent left'
  exact-stop x left' q b small = record { put = λ points ways ws e h t. nowhere debug points ways m small n at ws e h t i next first lent left (r.so points ways ws e h t) b x q }

-- ways that are there start inside the map
starts-inside : (F : Format) (L : Laws F) (m : List ℕ) {i e : ℕ} {ws : List (Way F)} → Chain (way F) m i ws e → 0 < length ws → i < length m
starts-inside F L m stop b = absurd (omega arith)
starts-inside F L m (link {i = i} {x = x} {a = w} h c) b =
    let u = (way-strict F L).more m i w x h in
    let v = (way-good F L).bound m i w x h in
    omega arith

-- points, then ways
module _ (l : TileKinds) (m : List ℕ) (small : length m < 2 ^ 64) (start first : ℕ) (s : TileSummary) (f : first ≡ cut (start + s.first_way_offset)) (lent half left : List ℕ)
    (a : ReadsPut (format_of l).point s.points m start 0 lent half) (b : WaysPut l s.ways s.exact m first s.points half left) where
  pub places-put : PlacesPut l m start s lent left
  places-put = record { put = λ t e H at c h k. go t e H at c h k }
    where
      go : (t : StoredTile (format_of l)) (e : ℕ) (H : Parser format.TileHead) (at : ℕ) → collect H (format_of l) m at ≡ ok t e → start ≡ t.start → s ≡ summary_of (shown_tile t) → left ≡ sets lent 0 (feature_places (format_of l) m t)
      go t e H at c h k =
          let C = collected H (format_of l) m at t e c in
          let from : ℕ = t.start + t.head.offset in
          let p : half ≡ sets lent 0 (places_of (format_of l).point (length t.points) m t.start) = points-are t C.last h k (reads-again (format_of l).point m C.points.chain) in
          let w : left ≡ sets half (length t.points) (places_of (way (format_of l)) (length t.ways) m (t.start + t.head.offset)) = ways-are t C.past h k C.ways.chain in
          w
          ∙ ap (λ (x : List ℕ). sets x (length t.points) (places_of (way (format_of l)) (length t.ways) m (t.start + t.head.offset))) p
          ∙ ap (λ n. sets (sets lent 0 (places_of (format_of l).point (length t.points) m t.start)) n (places_of (way (format_of l)) (length t.ways) m (t.start + t.head.offset))) (sym (zero-add (length (places_of (format_of l).point (length t.points) m t.start)) ∙ places-length (format_of l).point m (length t.points) t.start))
          ∙ sym (sets-append (places_of (format_of l).point (length t.points) m t.start) (places_of (way (format_of l)) (length t.ways) m (t.start + t.head.offset)) lent 0)
        where
          points-are : (t : StoredTile (format_of l)) (x : ℕ) → start ≡ t.start → s ≡ summary_of (shown_tile t) → many (format_of l).point (length t.points) m t.start ≡ ok t.points x
              → half ≡ sets lent 0 (places_of (format_of l).point (length t.points) m t.start)
          points-are t x h k q =
              let n : s.points ≡ length t.points = ap (λ (y : TileSummary). y.points) k in
              a.put t.points x (rw (n, h) q) ∙ rw (n, h) refl

          cut-or-none : (t : StoredTile (format_of l)) {x : ℕ} → Chain (way (format_of l)) m (t.start + t.head.offset) t.ways x → (n : ℕ) → length t.ways ≡ n
              → places_of (way (format_of l)) n m (cut (t.start + t.head.offset)) ≡ places_of (way (format_of l)) n m (t.start + t.head.offset)
          cut-or-none t c zero z = refl
          cut-or-none t c (suc n) z =
              let u = starts-inside (format_of l) (tile-laws l.debug l.points l.ways) m c (omega arith) in
              ap (places_of (way (format_of l)) (suc n) m) (cut_fits (t.start + t.head.offset) (omega arith))

          cut-read : (t : StoredTile (format_of l)) {x : ℕ} → Chain (way (format_of l)) m (t.start + t.head.offset) t.ways x → (ws : List (Way (format_of l))) → t.ways ≡ ws
              → many (way (format_of l)) (length t.ways) m (cut (t.start + t.head.offset)) ≡ ok t.ways (end_of (many (way (format_of l)) (length t.ways) m (cut (t.start + t.head.offset))))
          cut-read t c [] z = rw z refl
          cut-read t {x} c (w ∷ ws) z =
              let u = starts-inside (format_of l) (tile-laws l.debug l.points l.ways) m c (let y : length t.ways ≡ suc (length ws) = ap length z in omega arith) in
              let k = ap (λ i. many (way (format_of l)) (length t.ways) m i) (cut_fits (t.start + t.head.offset) (omega arith)) ∙ reads-again (way (format_of l)) m c in
              k ∙ ap (ok t.ways) (sym (ap end_of k))

          ways-are : (t : StoredTile (format_of l)) (x : ℕ) → start ≡ t.start → s ≡ summary_of (shown_tile t) → Chain (way (format_of l)) m (t.start + t.head.offset) t.ways x
              → left ≡ sets half (length t.points) (places_of (way (format_of l)) (length t.ways) m (t.start + t.head.offset))
          ways-are t x h k c =
              let p : s.points ≡ length t.points = ap (λ (y : TileSummary). y.points) k in
              let n : s.ways ≡ length t.ways = ap (λ (y : TileSummary). y.ways) k in
              let o : s.first_way_offset ≡ t.head.offset = ap (λ (y : TileSummary). y.first_way_offset) k in
              let i : first ≡ cut (t.start + t.head.offset) = f ∙ rw (h, o) refl in
              b.put t.ways (end_of (many (way (format_of l)) (length t.ways) m (cut (t.start + t.head.offset)))) (rw (n, i) (cut-read t c t.ways refl)) (sym (ap (λ (y : TileSummary). y.exact) k))
              ∙ rw (p, n, i) (ap (sets half (length t.points)) (cut-or-none t c (length t.ways) refl))

-- a head has the size and the data start that stand in front of it
abbrev head_with : Maybe Part → Noted ℕ → ℕ → ℕ → format.Tagged → ℕ → Head
head_with g n a b t e = record { signature = g; size = n.value; start = a; bitmap = b; tagged = t; behind = e; plain = n.plain && t.plain }

sized : (m : List ℕ) (kinds : List Kind) (a : Maybe Part) (n : Noted ℕ) (from i : ℕ) (h : Head) (b : ℕ) → head_rest kinds a n from m i ≡ ok h b → (h.start ≡ from) × (h.size ≡ n.value)
unfolding head_rest
sized m kinds a n from i h b e =
    let x = split (big_endian 2 m i) (λ y j. and_then (tagged kinds m j) (λ t k. ok (head_with a n from y t k) k)) h b e in
    let y = split (tagged kinds m x.mid) (λ t k. ok (head_with a n from x.val t k) k) h b x.second in
    let u = ok-val y.second in
    (sym (ap (λ (o : Head). o.start) u), sym (ap (λ (o : Head). o.size) u))

-- where an exact way ends, by its signature and its size
module _ (debug : Bool) (m : List ℕ) (at : ℕ) where
  pub ends_nowhere : (x : Refusal) (r : Result ℕ Refusal) → refused x ≡ debug_signature debug m at → EndsExact debug m at r
  unfolding head
  ends_nowhere x r q = record { ends = λ kinds h b e. no_ok (refused-on x (debug_signature debug m at) (λ a n. and_then (noted_unsigned m n) (λ s k. head_rest kinds a s k m k)) q ∙ e) }

  module _ (v : Option Span) (n : ℕ) (q : ok (maybe_part m v) n ≡ debug_signature debug m at) where
    -- the head from its size on
    on : (kinds : List Kind) (r : Res (Noted ℕ)) → r ≡ noted_unsigned m n → and_then r (λ s k. head_rest kinds (maybe_part m v) s k m k) ≡ head debug kinds m at
    unfolding head
    on kinds r f =
        ap (λ r. and_then r (λ s k. head_rest kinds (maybe_part m v) s k m k)) f
        ∙ ap (λ r. and_then r (λ a n. and_then (noted_unsigned m n) (λ s k. head_rest kinds a s k m k))) q

    pub ends-unsized : (x : Refusal) (r : Result ℕ Refusal) → refused x ≡ noted_unsigned m n → EndsExact debug m at r
    ends-unsized x r f = record { ends = λ kinds h b e. no_ok (on kinds (refused x) f ∙ e) }

    pub ends_at : (s : Held ℕ) (k r : ℕ) → ok (noted_held s) k ≡ noted_unsigned m n → r ≡ cut (k + s.value) → EndsExact debug m at (Ok r)
    ends_at s k r f c = record {
      ends = λ kinds h b e.
          let j = sized m kinds (maybe_part m v) (noted_held s) k k h b (on kinds (ok (noted_held s) k) f ∙ e) in
          rw (c, j.0, j.1) refl;
    }
