-- Loops over a tile's points and ways.
use Prim.Native.Nat.{ℕ, ◌+◌, ◌-◌, ◌≤◌, ◌<◌}
use native.Mathlib.Nat.{le_trans}
use native.Mathlib.Omega.{arith}
use mathlib.Core.Path.{◌≡◌, refl, sym, ap, ◌∙◌}
use mathlib.Core.Bool.{Bool, true, ◌&&◌}
use mathlib.Core.List.{List, [], ◌∷◌, ◌++◌}
use lib.Dec.{eqb}
use Rattle.std.specs.Prelude.{Result}
use Rattle.std.specs.Result.{IsErr, IsErrAnd}
use Rattle.parsing.specs.Parse.{Res, ok, no, map_res}
use Rattle.parsing.specs.Good.{ok-val, ok_at, no_ok}
use Rattle.parsing.proofs.Loops.{fold_more, fold-no}
use Rattle.error.specs.Refusals.{refused, number_of, values_of}
use Rattle.error.specs.declared.Refusal.{Refusal}
use Rattle.byte_source.specs.Answers.{read_res}
use Rattle.byte_source.proofs.ReadLaws.{handed-up}
use Rattle.tag.specs.declared.Kind.{Kind}
use Rattle.format.specs.Tile.{Point, Head, point, head, body, body-good}
use Rattle.format.proofs.HeadLaws.{head_post}
use Rattle.types.proofs.NotedLaws.{and-true, and_assoc}
use Rattle.poi.specs.Poi.{poi_of}
use Rattle.poi.specs.declared.Poi.{Poi}
use Rattle.way_head.specs.WayHead.{head_of}
use Rattle.way_head.specs.declared.WayHead.{WayHead}
use Rattle.way.specs.Way.{body_of}
use Rattle.way.specs.declared.WayBody.{WayBody}
use Rattle.agreement.specs.Collected.{Way, way, exact, all_exact, plain_way, plain_points, plain_ways}
use Rattle.agreement.proofs.Stored.{Stored, stored, stopped}
use Rattle.tile_layout.specs.TileLayout.{TileKinds, format_of}
use Rattle.tile_walk.specs.TileWalk.{plain_of, said_of, said_of_all, said_way, said_ways}
use Rattle.tile_walk.specs.declared.WaysSaid.{WaysSaid}

-- what is said of all entries, and of one more
module _ {A : Type 0} (f : A → Bool) (all : List A → Bool) (none : all [] ≡ true) (some : (x : A) (l : List A) → all (x ∷ l) ≡ (f x && all l)) where
  all_more : (xs : List A) (v : A) → all (xs ++ (v ∷ [])) ≡ (all xs && f v)
  all_more [] v = some v [] ∙ ap (λ b. f v && b) none ∙ and-true (f v) ∙ ap (λ b. b && f v) (sym none)
  all_more (x ∷ xs) v = some x (xs ++ (v ∷ [])) ∙ ap (λ b. f x && b) (all_more xs v) ∙ and_assoc (f x) (all xs) (f v) ∙ ap (λ b. b && f v) (sym (some x xs))

-- a view of a view
via : {A B C : Type 0} (view : A → C) (f : C → B) (v : C) (n : ℕ) (r : Res A) → map_res view r ≡ ok v n → map_res (λ a. f (view a)) r ≡ ok (f v) n
via view f v n (ok a e) d = let u : view a ≡ v = ok-val d in let w : e ≡ n = ok_at d in rw (u, w)
via view f v n (no k l) d = no_ok d

-- a tile's kinds by their parts, which a search finds
abbrev by : Bool → List Kind → List Kind → TileKinds
by debug points ways = record { debug = debug; points = points; ways = ways }

-- points
module _ (m : List ℕ) (debug : Bool) (points ways : List Kind) (i at n : ℕ) (all : Bool) (e : ok all n ≡ plain_of (by debug points ways) m i at) where
  abbrev every : List Point → Bool
  every ps = plain_points (format_of (by debug points ways)) ps

  pub points-more : (p : Poi) (k : ℕ) → ok p k ≡ map_res poi_of (point debug points m n) → ok (all && p.plain) k ≡ plain_of (by debug points ways) m (i + 1) at
  points-more p k q =
      sym (fold_more (point debug points) m every (λ p. p.plain) (λ b c. b && c) (all_more (λ p. p.plain) every refl (λ x l. refl)) i at (sym e)
      (via poi_of (λ (p : Poi). p.plain) p k (point debug points m n) (sym q)))

  pub points-no : (k : ℕ) (g : Result (Bool × ℕ) Refusal) (x : Refusal) → refused x ≡ map_res poi_of (point debug points m n) → IsErr g × IsErrAnd g (λ y. y ≡ x) → i < k → read_res g ≡ plain_of (by debug points ways) m k at
  points-no k g x q p l =
      handed-up _ g x _ p (sym (fold-no (point debug points) m every poi_of i k at (sym e) (sym q) l))

-- one way
module _ (m : List ℕ) (debug : Bool) (ways : List Kind) (at : ℕ) where
  abbrev read : Res Head
  read = head debug ways m at

  pub way-stops : (points : List Kind) (x : Refusal) → refused x ≡ map_res head_of read → refused x ≡ said_way (by debug points ways) m at
  way-stops points x q = rw (stopped head_of (number_of x) (values_of x) read q)

  module _ (h : WayHead) (n : ℕ) (q : ok h n ≡ map_res head_of read) where
    got : Stored head_of h n read
    got = stored head_of h n read q

    starts-before : h.start ≤ n
    starts-before =
        let p = ((head_post debug ways).holds m at got.value n got.same).0 in
        let w : h.start ≡ got.value.start = ap (λ (x : WayHead). x.start) got.shown in
        omega arith

    pub body-stops : (points : List Kind) (x : Refusal) → refused x ≡ map_res body_of (body m n) → refused x ≡ said_way (by debug points ways) m at
    body-stops points x d = rw (got.same, stopped body_of (number_of x) (values_of x) (body m n) d)

    module _ (v : WayBody) (k : ℕ) (d : ok v k ≡ map_res body_of (body m n)) where
      measured : Stored body_of v k (body m n)
      measured = stored body_of v k (body m n) d

      -- a way ends behind its data start
      pub length-fits : h.start ≤ k
      length-fits = le_trans starts-before (body-good.forth m n measured.value k measured.same)

      pub way-ends : (points : List Kind) → ok (record { exact = eqb h.size (k - h.start); plain = h.plain && v.plain }) k ≡ said_way (by debug points ways) m at
      way-ends points = rw (got.shown, measured.shown, got.same, measured.same)

-- ways
abbrev also : WaysSaid → WaysSaid → WaysSaid
also a b = record { exact = a.exact && b.exact; plain = a.plain && b.plain }

said_more : (l : TileKinds) (ws : List (Way (format_of l))) (w : Way (format_of l)) → said_of_all l (ws ++ (w ∷ [])) ≡ also (said_of_all l ws) (said_of l w)
said_more l ws w = rw (all_more exact all_exact refl (λ x l. refl) ws w, all_more plain_way plain_ways refl (λ x l. refl) ws w)

module _ (m : List ℕ) (debug : Bool) (points ways : List Kind) (i at n : ℕ) (x y : Bool) (e : ok (record { exact = x; plain = y }) n ≡ said_ways (by debug points ways) m i at) where
  pub ways-more : (s : WaysSaid) (k : ℕ) → ok s k ≡ said_way (by debug points ways) m n → ok (record { exact = x && s.exact; plain = y && s.plain }) k ≡ said_ways (by debug points ways) m (i + 1) at
  ways-more s k q =
      sym (fold_more (way (format_of (by debug points ways))) m (said_of_all (by debug points ways)) (said_of (by debug points ways)) also (said_more (by debug points ways)) i at (sym e) (sym q))

  pub ways-no : (k : ℕ) (g : Result (WaysSaid × ℕ) Refusal) (z : Refusal) → refused z ≡ said_way (by debug points ways) m n → IsErr g × IsErrAnd g (λ y. y ≡ z) → i < k → read_res g ≡ said_ways (by debug points ways) m k at
  ways-no k g z q p l =
      handed-up _ g z _ p (sym (fold-no (way (format_of (by debug points ways))) m (said_of_all (by debug points ways)) (said_of (by debug points ways)) i k at (sym e) (sym q) l))
