-- A way's nodes and its blocks' initial positions, written to the lists.
use Prim.Native.Nat.{ℕ, ◌≤◌}
use native.Mathlib.Omega.{arith}
use mathlib.Core.Path.{◌≡◌, refl, sym, ap, ◌∙◌}
use mathlib.Core.Bool.{Bool, true, false, ◌&&◌}
use mathlib.Core.List.{List}
use lib.Ieee.{Float}
use lib.ListN.{length, take, drop, length-map}
use lib.Seq.{take_at}
use borrow.Author.Tests.{le-leb}
use Rattle.std.specs.Prelude.{Some}
use Rattle.parsing.specs.Parse.{ok}
use Rattle.format.specs.Lent.{front, LentLists, fits, written, deliver}
use Rattle.format.specs.WayData.{Node, concat}
use Rattle.format.specs.Nodes.{latitude_of, longitude_of, node_counts, latitudes, longitudes, initial_latitudes, initial_longitudes}
use Rattle.format.specs.BodyLists.{body_lists}
use Rattle.format.specs.Tile.{Body, body, double_delta}
use Rattle.way.specs.Way.{body_of}
use Rattle.way_data.specs.Reply as lists
use Rattle.initial_positions.specs.Initial.{write_initials}
use Rattle.initial_positions.proofs.InitialLaws.{initials-are}
use Rattle.way_lists.specs.WayLists.{ListsWritten}
use Rattle.way_lists.specs.declared.ListPlan.{ListPlan}
use Rattle.fetched.specs.Fetched.{FetchLists}
use Rattle.fetch_way.specs.FetchWay.{lent}

-- tests joined
pub and_first : (a b : Bool) → (a && b) ≡ true → a ≡ true
and_first true b h = refl
and_first false b h = h

pub and_second : (a b : Bool) → (a && b) ≡ true → b ≡ true
and_second true b h = h
and_second false b h = absurd (let z : ◌≡◌ {A = ℕ} 0 1 = cc in omega arith)

-- the lists of a body at the fronts of those that were lent, and a buffer
abbrev pub lists_of : Body → List ℕ → List Float → List Float → List Float → List Float → List ℕ → FetchLists
lists_of d counts lats lons initial_lats initial_lons buffer = record {
  lists = written (body_lists d) (lists.lent counts lats lons);
  initial_latitudes = front (initial_latitudes (concat d.data_blocks)) initial_lats;
  initial_longitudes = front (initial_longitudes (concat d.data_blocks)) initial_lons;
  buffer = buffer;
}

-- the lists of a body that was read and has room, at the fronts of those that were lent
module _ (m : List ℕ) (p : ListPlan) (c : List ℕ) (la lo il io : List Float) (c' : List ℕ) (la' lo' il' io' : List Float) (w : ListsWritten m (Some p) c la lo il io c' la' lo' il' io') where
  module _ (d : Body) (e : ℕ) (f : body m p.start ≡ ok d e) (n : p.blocks ≡ length (concat d.data_blocks)) (h : fits (body_lists d) (lists.lent c la lo) ≡ true) where
    abbrev all : List (List Node)
    all = concat d.data_blocks

    given : lists.lent c' la' lo' ≡ written (body_lists d) (lists.lent c la lo)
    given = w.nodes ∙ ap (λ r. (deliver body_of body_lists r (lists.lent c la lo)).lists) f ∙ rw h

    counts-are : take p.blocks c' ≡ node_counts all
    counts-are =
        ap (λ (l : LentLists). take p.blocks l.counts) given
        ∙ take_at (node_counts all) (drop (length (node_counts all)) c) p.blocks (length-map all length ∙ sym n)

    lats-initial : p.blocks ≤ length il → il' ≡ front (initial_latitudes all) il
    lats-initial r =
        let z : length (node_counts all) ≤ length il = omega (arith, length-map all length) in
        w.latitudes ∙ ap (λ (l : LentLists). write_initials (take p.blocks c') l.latitudes il) given
        ∙ ap (λ y. write_initials y (front (latitudes (double_delta d.fields) all) la) il) counts-are
        ∙ rw (le-leb (length (node_counts all)) (length il) z)
        (ap (λ y. front y il) (initials-are (double_delta d.fields) latitude_of all (drop (length (latitudes (double_delta d.fields) all)) la)))

    lons-initial : p.blocks ≤ length io → io' ≡ front (initial_longitudes all) io
    lons-initial r =
        let z : length (node_counts all) ≤ length io = omega (arith, length-map all length) in
        w.longitudes ∙ ap (λ (l : LentLists). write_initials (take p.blocks c') l.longitudes io) given
        ∙ ap (λ y. write_initials y (front (longitudes (double_delta d.fields) all) lo) io) counts-are
        ∙ rw (le-leb (length (node_counts all)) (length io) z)
        (ap (λ y. front y io) (initials-are (double_delta d.fields) longitude_of all (drop (length (longitudes (double_delta d.fields) all)) lo)))

    pub lists-written : (b : List ℕ) → p.blocks ≤ length il → p.blocks ≤ length io → lent c' la' lo' il' io' b ≡ lists_of d c la lo il io b
    lists-written b r s =
        ap (λ (l : LentLists). record { lists = l; initial_latitudes = il'; initial_longitudes = io'; buffer = b }) given
        ∙ ap (λ (l : List Float). record { lists = written (body_lists d) (lists.lent c la lo); initial_latitudes = l; initial_longitudes = io'; buffer = b }) (lats-initial r)
        ∙ ap (λ (l : List Float). record { lists = written (body_lists d) (lists.lent c la lo); initial_latitudes = front (initial_latitudes all) il; initial_longitudes = l; buffer = b }) (lons-initial s)
