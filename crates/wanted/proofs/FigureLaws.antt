-- The figures of points and ways, by what the readers answered.
use Prim.Native.Nat.{ℕ, suc, ◌+◌, ◌-◌, ◌≤◌, ◌<◌, max, zero-le}
use native.Mathlib.Omega.{arith}
use native.Mathlib.Numerals.{add-one}
use mathlib.Core.Path.{◌≡◌, refl, sym, ap, ◌∙◌}
use mathlib.Core.Bool.{Bool, true, false}
use mathlib.Core.List.{List, [], ◌∷◌, ◌++◌}
use borrow.Author.Rules.{rules}
use lib.ListN.{length, get_or-eq_default}
use Rattle.parsing.specs.Parse.{Res, ok, no, and_then, map_res, many, Part, Maybe, none, some}
use Rattle.parsing.proofs.Loops.{fold_more, fold-no}
use Rattle.error.specs.Refusals.{refused, number_of, values_of}
use Rattle.error.specs.declared.Refusal.{Refusal}
use Rattle.arithmetic.specs.Cut.{cut}
use Rattle.byte_source.proofs.ReadLaws.{handed-up, view-refused}
use Rattle.tag.specs.declared.Kind.{Kind}
use Rattle.format.specs.Tile.{Head, Body, point, head, body}
use Rattle.types.specs.Types.{optional_span}
use Rattle.poi.specs.Poi.{poi_of}
use Rattle.poi.specs.declared.Poi.{Poi}
use Rattle.way_head.specs.WayHead.{head_of}
use Rattle.way_head.specs.declared.WayHead.{WayHead}
use Rattle.way.specs.Way.{body_of}
use Rattle.way.specs.declared.WayBody.{WayBody}
use Rattle.agreement.proofs.Stored.{Stored, stored, stopped}
use Rattle.tile_layout.specs.TileLayout.{TileKinds, format_of}
use Rattle.wanted.specs.Taken.{accepts, Taken, taken_way, taken_ways, with_maybe, bodies}
use Rattle.wanted.specs.Wanted.{greatest, text_size, point_text, body_text, blocks_in, nodes_in, body_figures, one_way, all_ways, joined, span_size, figures_of}
use Rattle.wanted.specs.declared.WayFigures.{WayFigures}

-- a decision behind the end declines
pub behind-end : (ds : List ℕ) (k : ℕ) → length ds ≤ k → false ≡ accepts ds k
behind-end ds k l = rw (get_or-eq_default ds 0 l)

-- a text's size
span-size : (p : Maybe Part) → span_size (optional_span p) ≡ text_size p
span-size none = refl
span-size (some p) = refl

-- one point
module _ (m : List ℕ) (debug : Bool) (kinds : List Kind) (at : ℕ) where
  pub point-ends : (p : Poi) (n x y t : ℕ) → ok p n ≡ map_res poi_of (point debug kinds m at) → x ≡ span_size p.name → y ≡ span_size p.house_number → t ≡ max x y → ok t n ≡ map_res point_text (point debug kinds m at)
  point-ends p n x y t b i j r =
      let s = stored poi_of p n (point debug kinds m at) b in
      let u : x ≡ text_size s.value.name = i ∙ ap (λ (z : Poi). span_size z.name) s.shown ∙ span-size s.value.name in
      let v : y ≡ text_size s.value.house_number = j ∙ ap (λ (z : Poi). span_size z.house_number) s.shown ∙ span-size s.value.house_number in
      rw (s.same, r, u, v)

pub ruleset point-reads = (rules, handed-up, view-refused, point-ends)

-- points
greatest-more : {A : Type 0} (f : A → ℕ) (xs : List A) (v : A) → greatest f (xs ++ (v ∷ [])) ≡ max (greatest f xs) (f v)
greatest-more f [] v = omega arith
greatest-more f (x ∷ xs) v = let h = greatest-more f xs v in omega arith

module _ (m : List ℕ) (debug : Bool) (kinds : List Kind) (i at longest n : ℕ) (e : ok longest n ≡ map_res (greatest point_text) (many (point debug kinds) i m at)) where
  pub texts-more : (s k c : ℕ) → ok s k ≡ map_res point_text (point debug kinds m n) → c ≡ max longest s → ok c k ≡ map_res (greatest point_text) (many (point debug kinds) (i + 1) m at)
  texts-more s k c q w =
      ap (λ x. ok x k) w ∙ sym (fold_more (point debug kinds) m (greatest point_text) point_text max (greatest-more point_text) i at (sym e) (sym q))

  pub texts-no : (k : ℕ) (x : Refusal) → refused x ≡ map_res point_text (point debug kinds m n) → i < k → refused x ≡ map_res (greatest point_text) (many (point debug kinds) k m at)
  texts-no k x q l = sym (fold-no (point debug kinds) m (greatest point_text) point_text i k at (sym e) (sym q) l)

  pub texts-done : (k : ℕ) → i ≤ k → k ≤ i → ok longest n ≡ map_res (greatest point_text) (many (point debug kinds) k m at)
  texts-done k l l' = let z : i ≡ k = omega arith in rw z at e

pub texts-start : (m : List ℕ) (debug : Bool) (kinds : List Kind) (at : ℕ) → ok 0 at ≡ map_res (greatest point_text) (many (point debug kinds) 0 m at)
texts-start m debug kinds at = refl

pub ruleset text-loops = (rules, handed-up, texts-start, texts-more, texts-no, texts-done)

-- the body of an accepted way
pub same-figures : {a a' b b' c c' d d' : ℕ} → a ≡ a' → b ≡ b' → c ≡ c' → d ≡ d'
    → ◌≡◌ {A = WayFigures} (record { ways = a; blocks = b; nodes = c; text = d }) (record { ways = a'; blocks = b'; nodes = c'; text = d' })
same-figures p q r s = rw (p, q, r, s)

pub figures-made : (v : WayBody) (x y l z t : ℕ) → x ≡ span_size v.name → y ≡ span_size v.house_number → l ≡ max x y → z ≡ span_size v.reference → t ≡ max l z
    → record { ways = 1; blocks = v.blocks; nodes = v.nodes; text = t } ≡ figures_of v
figures-made v x y l z t p q r s u = rw (u, r, p, q, s)

pub ruleset made = (rules, behind-end, same-figures, figures-made)

one-body : (b : Body) → figures_of (body_of b) ≡ body_figures (b ∷ [])
one-body b =
    let n = span-size b.fields.name in
    let h = span-size b.fields.house_number in
    let r = span-size b.fields.reference in
    same-figures refl (omega arith) (omega arith) (omega arith)

pub body-ends : (m : List ℕ) (at : ℕ) (v : WayBody) (n : ℕ) (f : WayFigures) → ok v n ≡ map_res body_of (body m at) → f ≡ figures_of v → ok f n ≡ map_res (λ b. body_figures (b ∷ [])) (body m at)
body-ends m at v n f q w =
    let s = stored body_of v n (body m at) q in
    let u : f ≡ body_figures (s.value ∷ []) = w ∙ ap figures_of s.shown ∙ one-body s.value in
    rw (s.same, u)

pub ruleset body-reads = (rules, handed-up, view-refused, body-ends)

-- one way
abbrev by : Bool → List Kind → List Kind → TileKinds
by debug points ways = record { debug = debug; points = points; ways = ways }

through : (r : Res Body) (h : Head) (k : TileKinds) → map_res (λ b. body_figures (b ∷ [])) r ≡ map_res (one_way k) (and_then r (λ b e. ok (record { head = h; body = some b }) e))
through (ok b e) h k = refl
through (no n v) h k = refl

module _ (m : List ℕ) (debug : Bool) (points ways : List Kind) (at : ℕ) where
  abbrev result : Bool → Res WayFigures
  result c = map_res (one_way (by debug points ways)) (taken_way (format_of (by debug points ways)) c m at)

  pub head-stops : (c : Bool) (x : Refusal) → refused x ≡ map_res head_of (head debug ways m at) → refused x ≡ result c
  head-stops c x q = let k = stopped head_of (number_of x) (values_of x) (head debug ways m at) q in rw k

  module _ (v : WayHead) (n : ℕ) (q : ok v n ≡ map_res head_of (head debug ways m at)) where
    got : Stored head_of v n (head debug ways m at)
    got = stored head_of v n (head debug ways m at) q

    pub way-accepted : (c : Bool) (x : Res WayFigures) → c ≡ true → x ≡ map_res (λ b. body_figures (b ∷ [])) (body m n) → x ≡ result c
    way-accepted c x t e = e ∙ rw (got.same, t) (through (body m n) got.value (by debug points ways))

    pub way-declined : (c : Bool) (past : ℕ) (f : WayFigures) → c ≡ false → past ≡ cut (v.start + v.size) → f ≡ body_figures [] → ok f past ≡ result c
    way-declined c past f t p e =
        let u : past ≡ cut (got.value.start + got.value.size) = p ∙ ap (λ (w : WayHead). cut (w.start + w.size)) got.shown in
        rw (got.same, t, u, e)

pub ruleset way-reads = (rules, handed-up, head-stops, way-accepted, way-declined)

-- ways: those that were read, and what is left to read
max_none : (x y : ℕ) → max (max x 0) y ≡ max x y
max_none x y = omega arith

max-more : (x y z : ℕ) → max (max x (max y 0)) z ≡ max x (max y z)
max-more x y z = omega arith

one_more : (a : WayFigures) (o : Maybe Body) (bs : List Body) → joined (joined a (body_figures (with_maybe o []))) (body_figures bs) ≡ joined a (body_figures (with_maybe o bs))
one_more a none bs = same-figures (omega arith) (max_none a.blocks _) (max_none a.nodes _) (max_none a.text _)
one_more a (some b) bs = same-figures (omega arith) (max-more a.blocks (blocks_in b) _) (max-more a.nodes (nodes_in b) _) (max-more a.text (body_text b) _)

few : (o : Maybe Body) → (body_figures (with_maybe o [])).ways ≤ 1
few none = zero-le
few (some b) = omega arith

pub few-yet : (a : WayFigures) (i : ℕ) → a ≡ body_figures [] → a.ways ≤ i
few-yet a i h = omega (arith, ap (λ (x : WayFigures). x.ways) h)

nothing_left : (a : WayFigures) → a ≡ joined a (body_figures [])
nothing_left a = same-figures (omega arith) (omega arith) (omega arith) (omega arith)

nothing_yet : (a : WayFigures) → joined (body_figures []) a ≡ a
nothing_yet a = same-figures (omega arith) (omega arith) (omega arith) (omega arith)

module _ (k : TileKinds) (m : List ℕ) (ds : List ℕ) where
  abbrev pub rest : WayFigures → (i n next : ℕ) → Res WayFigures
  rest a i n next = map_res (λ ws. joined a (all_ways k ws)) (taken_ways (format_of k) ds i (n - i) m next)

  joins : (a : WayFigures) (w : Taken (format_of k)) (r : Res (List (Taken (format_of k))))
      → map_res (λ ws. joined (joined a (one_way k w)) (all_ways k ws)) r ≡ map_res (λ ws. joined a (all_ways k ws)) (and_then r (λ l y. ok (w ∷ l) y))
  joins a w (ok l e) = ap (λ x. ok x e) (one_more a w.body (bodies l))
  joins a w (no n v) = refl

  joins-as : (a a' o : WayFigures) (w : Taken (format_of k)) (r : Res (List (Taken (format_of k)))) → a' ≡ joined a o → o ≡ one_way k w
      → map_res (λ ws. joined a' (all_ways k ws)) r ≡ map_res (λ ws. joined a (all_ways k ws)) (and_then r (λ l y. ok (w ∷ l) y))
  joins-as a a' o w r p q = rw (p, q) (joins a w r)

  all_of : (r : Res (List (Taken (format_of k)))) → map_res (λ ws. joined (body_figures []) (all_ways k ws)) r ≡ map_res (all_ways k) r
  all_of (ok l e) = ap (λ x. ok x e) (nothing_yet (body_figures (bodies l)))
  all_of (no r v) = refl

  pub ways-start : (a : WayFigures) (n at : ℕ) → a ≡ body_figures [] → rest a 0 n at ≡ map_res (all_ways k) (taken_ways (format_of k) ds 0 n m at)
  ways-start a n at q = let h : n - 0 ≡ n = omega arith in rw (q, h) (all_of (taken_ways (format_of k) ds 0 n m at))

  module _ (a : WayFigures) (i n next : ℕ) (t : Res WayFigures) (e : rest a i n next ≡ t) where
    pub ways-done : n ≤ i → ok a next ≡ t
    ways-done l = let h : n - i ≡ 0 = omega arith in ap (λ x. ok x next) (nothing_left a) ∙ (rw h at e)

    module _ (l : i < n) (c : Bool) (d : c ≡ accepts ds i) where
      one_way_lem : rest a i n next ≡ map_res (λ ws. joined a (all_ways k ws)) (and_then (taken_way (format_of k) c m next) (λ w x. and_then (taken_ways (format_of k) ds (i + 1) (n - (i + 1)) m x) (λ l y. ok (w ∷ l) y)))
      one_way_lem = let h : n - i ≡ suc (n - (i + 1)) = omega arith in rw (h, d, add-one i)

      pub ways-no : (x : Refusal) → refused x ≡ map_res (one_way k) (taken_way (format_of k) c m next) → refused x ≡ t
      ways-no x q =
          let s = stopped (one_way k) (number_of x) (values_of x) (taken_way (format_of k) c m next) q in
          sym (rw s at one_way_lem) ∙ e

      module _ (o : WayFigures) (after : ℕ) (q : ok o after ≡ map_res (one_way k) (taken_way (format_of k) c m next)) where
        got-way : Stored (one_way k) o after (taken_way (format_of k) c m next)
        got-way = stored (one_way k) o after (taken_way (format_of k) c m next) q

        pub at_most_one : o.ways ≤ 1
        at_most_one = rw got-way.shown (few got-way.value.body)

        pub ways-more : (a' : WayFigures) → a' ≡ joined a o → rest a' (i + 1) n after ≡ t
        ways-more a' w =
            joins-as a a' o got-way.value (taken_ways (format_of k) ds (i + 1) (n - (i + 1)) m after) w got-way.shown
            ∙ sym (rw got-way.same at one_way_lem) ∙ e
