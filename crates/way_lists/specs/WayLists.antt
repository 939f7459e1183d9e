-- A way's lists as they are written from where its body starts: document 01, way.rs (a block's initial position is its node 0) and "The
-- stream and the collected tile" (node counts, latitudes and longitudes at the fronts of lent lists, those of each block at two more).
use Rattle.std.specs.Prelude.{ℕ, ◌≡◌, List, Float, take, Option, Some, None}
use Rattle.format.specs.Lent.{deliver}
use Rattle.format.specs.BodyLists.{body_lists}
use Rattle.format.specs.Tile.{body}
use Rattle.way.specs.Way.{body_of}
use Rattle.way_data.specs.Reply.{lent}
use Rattle.initial_positions.specs.Initial.{write_initials}
use Rattle.way_lists.specs.declared.ListPlan.{ListPlan}

-- what a plan writes, or with none what stood there
abbrev pub planned : {A : Type 0} → Option ListPlan → (ListPlan → A) → A → A
planned (Some p) writes _ = writes p
planned None _ stays = stays

-- the lists before and after: the body's, where one is planned, can be read and has room; and the initial positions found in what the
-- lists hold then
pub record ListsWritten (m : List ℕ) (plan : Option ListPlan) (c : List ℕ) (la lo il io : List Float) (c' : List ℕ) (la' lo' il' io' : List Float) : Type 0 where
  pub nodes : lent c' la' lo' ≡ planned plan (λ p. (deliver body_of body_lists (body m p.start) (lent c la lo)).lists) (lent c la lo)
  pub latitudes : il' ≡ planned plan (λ p. write_initials (take p.blocks c') la' il) il
  pub longitudes : io' ≡ planned plan (λ p. write_initials (take p.blocks c') lo' io) io
