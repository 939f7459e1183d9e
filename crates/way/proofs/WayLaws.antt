-- A way's body, from its fields and its data.
use Prim.Native.Nat.{ℕ}
use mathlib.Core.Path.{◌≡◌, refl, sym, ap, ◌∙◌}
use mathlib.Core.Bool.{Bool, true, false, cond, ◌&&◌}
use mathlib.Core.List.{List}
use lib.Ieee.{Float}
use Rattle.parsing.specs.Parse.{Res, ok, no, and_then, map_res}
use Rattle.parsing.specs.Good.{ok-val, ok_at, no_ok}
use Rattle.std.specs.Prelude.{Result}
use Rattle.error.specs.Refusals.{refused}
use Rattle.error.specs.declared.LentRefusal.{LentRefusal}
use Rattle.error.specs.declared.Refusal.{Refusal}
use Rattle.utils.specs.Vbe.{Noted, values_of, all_plain}
use Rattle.format.specs.Lent.{LentLists, Reply, fits, written, needed, deliver}
use Rattle.format.specs.WayData.{Node, way_data, concat}
use Rattle.format.specs.Nodes.{way_lists}
use Rattle.format.specs.Tile.{double_delta, Body, body}
use Rattle.format.specs.BodyLists.{body_lists}
use Rattle.way_fields.specs.WayFields.{BodyHead, body_head, way_fields_of}
use Rattle.way_fields.specs.declared.WayFields.{WayFields}
use Rattle.way_fields.proofs.StreamLaws.{body-by-head}
use Rattle.way_measure.specs.Answers.{way_sizes}
use Rattle.way_measure.specs.declared.Sizes.{Sizes}
use Rattle.way_data.specs.Reply.{lent, reply, read_way_data}
use Rattle.way.specs.Way.{body_of, body_with}
use Rattle.way.specs.declared.WayBody.{WayBody}

abbrev Data : Type 0
Data = List (Noted (List (List Node)))

-- the body of these fields and these data
abbrev made : BodyHead → Data → Body
made h d = record { fields = h.fields; data_blocks = values_of d; plain = h.plain && all_plain d }

abbrev behind : BodyHead → Res Data → Res Body
behind h r = and_then r (λ d i. ok (made h d) i)

-- a body whose fields are known by what is handed out of them
record From (v : WayFields) (m : List ℕ) (n : ℕ) (r : Res Body) : Type 0 where
  head : BodyHead
  shown : v ≡ way_fields_of head
  same : r ≡ behind head (way_data head.data_blocks m n)

from : (v : WayFields) (m : List ℕ) (n : ℕ) (r : Res BodyHead) → map_res way_fields_of r ≡ ok v n → From v m n (and_then r (λ h e. behind h (way_data h.data_blocks m e)))
from v m n (ok h e) q = record { head = h; shown = sym (ok-val q); same = ap (λ x. behind h (way_data h.data_blocks m x)) (ok_at q) }
from v m n (no k l) q = no_ok q

stopped : (k : ℕ) (l : List ℕ) (m : List ℕ) (r : Res BodyHead) → map_res way_fields_of r ≡ no k l → and_then r (λ h e. behind h (way_data h.data_blocks m e)) ≡ no k l
stopped k l m (ok h e) q = no_ok (sym q)
stopped k l m (no x y) q = cc

-- shown, and delivered
map-behind : (h : BodyHead) (r : Res Data) → map_res body_of (behind h r) ≡ map_res (body_with (way_fields_of h)) (map_res way_sizes r)
map-behind h (ok d i) = refl
map-behind h (no n v) = refl

abbrev map_reply : Reply (Res Sizes) → (Sizes → WayBody) → Reply (Res WayBody)
map_reply r f = record { answer = map_res f r.answer; lists = r.lists }

deliver-behind : (h : BodyHead) (r : Res Data) (l : LentLists) → deliver body_of body_lists (behind h r) l ≡ map_reply (deliver way_sizes (λ d. way_lists (double_delta h.fields) (concat (values_of d))) r l) (body_with (way_fields_of h))
deliver-behind h (no n v) l = refl
deliver-behind h (ok d i) l = go (way_lists (double_delta h.fields) (concat (values_of d))) (fits (way_lists (double_delta h.fields) (concat (values_of d))) l)
  where
    go : (v : LentLists) (c : Bool) → cond c (record { answer = ok (body_of (made h d)) i; lists = written v l }) (record { answer = no 15 (needed v); lists = l }) ≡ map_reply (cond c (record { answer = ok (way_sizes d) i; lists = written v l }) (record { answer = no 15 (needed v); lists = l })) (body_with (way_fields_of h))
    go v true = refl
    go v false = refl

module _ (m : List ℕ) (at : ℕ) where
  no_fields : (x : Refusal) → refused x ≡ map_res way_fields_of (body_head m at) → body m at ≡ refused x
  no_fields x q = body-by-head m at ∙ stopped _ _ m (body_head m at) (sym q)

  pub measure-no-fields : (x : Refusal) → refused x ≡ map_res way_fields_of (body_head m at) → refused x ≡ map_res body_of (body m at)
  measure-no-fields x q = rw (no_fields x q)

  pub read-no-fields : (x : Refusal) (c : List ℕ) (la lo : List Float) → refused x ≡ map_res way_fields_of (body_head m at) → ◌≡◌ {A = Reply (Res WayBody)} (record { answer = refused x; lists = lent c la lo }) (deliver body_of body_lists (body m at) (lent c la lo))
  read-no-fields x c la lo q = rw (no_fields x q)

  module _ (v : WayFields) (n : ℕ) (q : ok v n ≡ map_res way_fields_of (body_head m at)) where
    body-from : From v m n (body m at)
    body-from = rw (body-by-head m at) (from v m n (body_head m at) (sym q))

    -- the sizes that the data gave, or their refusal
    pub measured : (w : Res Sizes) → w ≡ map_res way_sizes (way_data v.data_blocks m n) → map_res (body_with v) w ≡ map_res body_of (body m at)
    measured w p =
        let f = body-from in
        let s : w ≡ map_res way_sizes (way_data f.head.data_blocks m n) = p ∙ ap (λ (x : WayFields). map_res way_sizes (way_data x.data_blocks m n)) f.shown in
        ap (map_res (body_with v)) s
        ∙ ap (λ a. map_res (body_with a) (map_res way_sizes (way_data f.head.data_blocks m n))) f.shown
        ∙ sym (map-behind f.head (way_data f.head.data_blocks m n))
        ∙ ap (map_res body_of) (sym f.same)

    pub delivered : (w : Result (Sizes × ℕ) LentRefusal) (c₀ c : List ℕ) (la₀ lo₀ la lo : List Float) → reply w c la lo ≡ read_way_data v.double_delta (way_data v.data_blocks m n) c₀ la₀ lo₀ → map_reply (reply w c la lo) (body_with v) ≡ deliver body_of body_lists (body m at) (lent c₀ la₀ lo₀)
    delivered w c₀ c la₀ lo₀ la lo p =
        let f = body-from in
        let s : reply w c la lo ≡ read_way_data (double_delta f.head.fields) (way_data f.head.data_blocks m n) c₀ la₀ lo₀ = p ∙ ap (λ (x : WayFields). read_way_data x.double_delta (way_data x.data_blocks m n) c₀ la₀ lo₀) f.shown in
        ap (λ a. map_reply a (body_with v)) s
        ∙ ap (λ a. map_reply (read_way_data (double_delta f.head.fields) (way_data f.head.data_blocks m n) c₀ la₀ lo₀) (body_with a)) f.shown
        ∙ sym (deliver-behind f.head (way_data f.head.data_blocks m n) (lent c₀ la₀ lo₀))
        ∙ ap (λ a. deliver body_of body_lists a (lent c₀ la₀ lo₀)) (sym f.same)
