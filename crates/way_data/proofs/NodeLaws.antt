-- The nodes of one block: what is left to write, of a block that is known to be readable.
use Prim.Native.Nat.{ℕ, zero, suc, ◌+◌, ◌-◌, ◌≤◌, ◌<◌}
use native.Mathlib.Omega.{arith}
use native.Mathlib.Numerals.{add-one}
use mathlib.Core.Path.{◌≡◌, refl, sym, ap, ◌∙◌}
use mathlib.Core.Bool.{Bool, true, false}
use mathlib.Core.List.{List, []}
use lib.ListN.{length, length-set, set}
use lib.Seq.{sets, length-sets}
use lib.Ieee as Ieee
use lib.Ieee.{Float, binary64}
use borrow.Author.Rules.{rules}
use Rattle.parsing.specs.Parse.{Res, ok, Parser, many, Fine, end_of, list_of}
use Rattle.parsing.proofs.Loops.{rest}
use Rattle.utils.specs.Degree.{degrees}
use Rattle.format.specs.WayData.{Node}
use Rattle.format.specs.Nodes.{zero64, next_delta}
use Rattle.way_measure.specs.declared.Node.{Node as CodeNode}
use Rattle.way_data.specs.Writes.{node_alone, node_res, start_at, moved_by, Coordinates, later, in_block, NodesFit, NodesWritten}
use Rattle.way_data.specs.declared.Cursor.{Cursor}
use Rattle.way_data.proofs.CoordinateLaws.{fine-first, node-exact}

-- one node
module _ (t : Bool) (d x : Float) where
  pub double-yes : t ≡ true → Ieee.add binary64 d x ≡ next_delta t d x
  double-yes h = rw h

  pub double-no : t ≡ false → x ≡ next_delta t d x
  double-no h = rw h

pub start_is : (n : CodeNode) (a o : Float) → a ≡ degrees n.latitude.0 → o ≡ degrees n.longitude.0 → record { latitude = a; longitude = o; dlat = zero64; dlon = zero64 } ≡ start_at n
start_is n a o e f = rw (e, f)

pub moved-is : (t : Bool) (p s : Cursor) (n : CodeNode) (a o : Float) → s ≡ start_at n → a ≡ next_delta t p.dlat s.latitude → o ≡ next_delta t p.dlon s.longitude
    → record { latitude = Ieee.add binary64 p.latitude a; longitude = Ieee.add binary64 p.longitude o; dlat = a; dlon = o } ≡ moved_by t p n
moved-is t p s n a o e g h = rw (g, h, e)

-- the loop over the nodes behind the first: what is left of them, written to the lists as they are, gives what is to be written
pub record NodesLeft (t : Bool) (s : List ℕ) (next left : ℕ) (p : Cursor) (pos : ℕ) (la lo : List Float) (E : ℕ) (LA LO : List Float) : Type 0 where
  pub fit : NodesFit s next left pos la lo
  pub end : end_of (many node_alone left s next) ≡ E
  pub lats : sets la pos (later t p (list_of (many node_alone left s next))).lats ≡ LA
  pub lons : sets lo pos (later t p (list_of (many node_alone left s next))).lons ≡ LO

pub later-start : (t : Bool) (s : List ℕ) (at n left : ℕ) (p : Cursor) (pos : ℕ) (la lo : List Float) → NodesFit s at n pos la lo → left ≡ n
    → NodesLeft t s at left p pos la lo (end_of (many node_alone n s at)) (sets la pos (later t p (list_of (many node_alone n s at))).lats) (sets lo pos (later t p (list_of (many node_alone n s at))).lons)
later-start t s at n left p pos la lo y h = rw h record { fit = y; end = refl; lats = refl; lons = refl }

none_left : {A : Type 0} (p : Parser A) (s : List ℕ) (left next : ℕ) → left ≤ 0 → many p left s next ≡ ok [] next
none_left p s zero next h = refl
none_left p s (suc n) next h = absurd (omega arith)

one-fine : (s : List ℕ) (left next : ℕ) → 0 < left → Fine (many node_alone left s next) → Fine (node_alone s next)
one-fine s zero next h f = absurd (omega arith)
one-fine s (suc n) next h f = fine-first (node_alone s next) _ f

module _ (t : Bool) (s : List ℕ) (next left : ℕ) (p : Cursor) (pos : ℕ) (la lo : List Float) (E : ℕ) (LA LO : List Float) (y : NodesLeft t s next left p pos la lo E LA LO) where
  pub later-fine : 0 < left → Fine (node_alone s next)
  later-fine b = one-fine s left next b y.fit.fine

  pub later_more : (q : Cursor) (g : CodeNode) (e after : ℕ) → left ≡ after + 1 → node_res (g, e) ≡ node_alone s next → q ≡ moved_by t p g
      → NodesLeft t s e after q (pos + 1) (set la pos q.latitude) (set lo pos q.longitude) E LA LO
  later_more q g i after b e m =
      let r = rest node_alone s left next (omega arith) y.fit.fine (sym e) in
      let k : left - 1 ≡ after = omega arith in
      rw (m, ← k) record {
        fit = record {
          fine = r.fine;
          lats = simp length-set (omega (arith, y.fit.lats));
          lons = simp length-set (omega (arith, y.fit.lons));
        };
        end = r.end ∙ y.end;
        lats = rw add-one (rw r.list at y.lats);
        lons = rw add-one (rw r.list at y.lons);
      }

pub later-done : (t : Bool) (s : List ℕ) (next left : ℕ) (p : Cursor) (pos : ℕ) (la lo : List Float) (f : List Node → Coordinates) (w : Res (List Node)) (from : ℕ) (la₀ lo₀ : List Float)
    → NodesLeft t s next left p pos la lo (end_of w) (sets la₀ from (f (list_of w)).lats) (sets lo₀ from (f (list_of w)).lons) → left ≤ 0 → NodesWritten f w from la₀ lo₀ next la lo
later-done t s next left p pos la lo f w from la₀ lo₀ y h =
    let e = none_left node_alone s left next h in
    record { end = rw e at y.end; lats = rw e at y.lats; lons = rw e at y.lons }

-- a block's nodes: the first, and the others behind it
pub nodes-none : (t : Bool) (s : List ℕ) (n at from : ℕ) (la lo : List Float) → n < 1 → NodesWritten (in_block t) (many node_alone n s at) from la lo at la lo
nodes-none t s n at from la lo h =
    let e = none_left node_alone s n at (omega arith) in
    rw e record { end = refl; lats = refl; lons = refl }

module _ (s : List ℕ) (at n from : ℕ) (la lo : List Float) (y : NodesFit s at n from la lo) (b : 1 ≤ n) where
  pub first_fine : Fine (node_alone s at)
  first_fine = one-fine s n at b y.fine

  module _ (g : CodeNode) (i : ℕ) (e : node_res (g, i) ≡ node_alone s at) where
    pub first-fit : (a o : Float) → NodesFit s i (n - 1) (from + 1) (set la from a) (set lo from o)
    first-fit a o = record {
      fine = (rest node_alone s n at b y.fine (sym e)).fine;
      lats = simp length-set (omega (arith, y.lats));
      lons = simp length-set (omega (arith, y.lons));
    }

    pub first_more : (t : Bool) (r : ℕ) (p : Cursor) (la' lo' : List Float) → p ≡ start_at g
        → NodesWritten (later t p) (many node_alone (n - 1) s i) (from + 1) (set la from p.latitude) (set lo from p.longitude) r la' lo'
        → NodesWritten (in_block t) (many node_alone n s at) from la lo r la' lo'
    first_more t r p la' lo' j d =
        let q = rest node_alone s n at b y.fine (sym e) in
        record {
          end = d.end ∙ q.end;
          lats = rw q.list (rw (add-one, j) at d.lats);
          lons = rw q.list (rw (add-one, j) at d.lons);
        }

module _ (f : List Node → Coordinates) (w : Res (List Node)) (from : ℕ) (la₀ lo₀ : List Float) (i : ℕ) (a o : Float) (next : ℕ) (la lo : List Float) (d : NodesWritten f w from (set la₀ i a) (set lo₀ i o) next la lo) where
  pub written-lats : length la ≡ length la₀
  written-lats = ap length d.lats ∙ length-sets (set la₀ i a) from (f (list_of w)).lats ∙ length-set la₀ i a

  pub written-lons : length lo ≡ length lo₀
  written-lons = ap length d.lons ∙ length-sets (set lo₀ i o) from (f (list_of w)).lons ∙ length-set lo₀ i o

pub ruleset nodes = (rules, node-exact, double-yes, double-no, start_is, moved-is, later-start, later-fine, later_more, later-done, nodes-none, first_fine, first-fit, first_more, written-lats, written-lons)
