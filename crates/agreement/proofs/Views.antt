-- The book's replies, fed the tile as collected, are those of the tile as stored, as the stream shows them.
use mathlib.Core.Path.{◌≡◌, refl, ap, ap₂, ◌∙◌}
use mathlib.Core.Bool.{Bool, true, false, cond}
use mathlib.Core.List.{List, [], ◌∷◌, map}
use Prim.Native.Nat.{ℕ, zero, suc, ◌+◌, ◌-◌}
use lib.Dec.{ltb}
use lib.ListN.{length}
use Rattle.format.specs.Lent.{LentLists, fits}
use Rattle.format.specs.Tile.{TileHead}
use Rattle.agreement.specs.Calls.{Call, next, accept, decline, ended, run, plain}
use Rattle.agreement.specs.Format.{Format}
use Rattle.agreement.specs.Heads.{points_up_to, ways_up_to}
use Rattle.parsing.specs.Parse.{nth}
use Rattle.agreement.specs.Collected.{Way, StoredTile, stored_collection, stored_tile, Feature, a_point, a_way, missing, point_or, way_or, fetch}
use Rattle.agreement.specs.Book.{BookState, BookStep, book_state, book_point, book_head, book_lent, book_body, book_way, book_next, book_call, book}
use Rattle.agreement.specs.View.{View, ViewLaws, collected_tile, streamed_reply, streamed_replies}
use Rattle.agreement.proofs.Remaining.{lent_reply}

module _ {F : Format} (S : View F) where
  abbrev streamed_state : BookState F.End → BookState S.collection.EndAnswer
  streamed_state s = book_state s.k s.waiting (S.streamed_end s.end)

  abbrev streamed_step : BookStep (stored_collection F) → BookStep S.collection
  streamed_step s = record { reply = streamed_reply S s.reply; left = streamed_state s.left }

  -- a stored feature, as a fetch shows it
  abbrev pub shown_feature : Feature (stored_collection F) → Feature S.collection
  shown_feature (a_point p) = a_point (S.collected_point p)
  shown_feature (a_way w) = a_way (S.collected_way w)
  shown_feature missing = missing

  length-map : {A B : Type 0} (f : A → B) (l : List A) → length (map f l) ≡ length l
  length-map f [] = refl
  length-map f (a ∷ l) = ap suc (length-map f l)

  nth-point : (l : List F.Point) (k : ℕ) → point_or {K = S.collection} (nth (map S.collected_point l) k) ≡ shown_feature (point_or (nth l k))
  nth-point [] k = refl
  nth-point (a ∷ l) zero = refl
  nth-point (a ∷ l) (suc k) = nth-point l k

  nth-way : (l : List (Way F)) (k : ℕ) → way_or {K = S.collection} (nth (map S.collected_way l) k) ≡ shown_feature (way_or (nth l k))
  nth-way [] k = refl
  nth-way (a ∷ l) zero = refl
  nth-way (a ∷ l) (suc k) = nth-way l k

  shown-cond : (c : Bool) (x y : Feature (stored_collection F)) → cond c (shown_feature x) (shown_feature y) ≡ shown_feature (cond c x y)
  shown-cond true x y = refl
  shown-cond false x y = refl

  module _ (t : StoredTile F) (z : TileHead → F.End) where
    -- a fetch shows the stored feature
    pub shown-fetch : (k : ℕ) → fetch (collected_tile S t z) k ≡ shown_feature (fetch (stored_tile t z) k)
    shown-fetch k =
        rw (length-map S.collected_point t.points, nth-point t.points k, nth-way t.ways (k - length t.points))
        (shown-cond (ltb k (length t.points)) (point_or (nth t.points k)) (way_or (nth t.ways (k - length t.points))))

    shown-way : (P k : ℕ) → book_way (collected_tile S t z) P k ≡ shown_feature (book_way (stored_tile t z) P k)
    shown-way P k =
        ap (λ n. fetch (collected_tile S t z) (n + (k - P))) (length-map S.collected_point t.points) ∙ shown-fetch (length t.points + (k - P))

  module _ (L : ViewLaws S) where
    view-point : (k : ℕ) (z : F.End) (f : Feature (stored_collection F)) → book_point S.collection k (S.streamed_end z) (shown_feature f) ≡ streamed_step (book_point (stored_collection F) k z f)
    view-point k z (a_point p) = rw (L.point p, L.note_point p z)
    view-point k z (a_way w) = refl
    view-point k z missing = refl

    view-head : (k : ℕ) (z : F.End) (f : Feature (stored_collection F)) → book_head S.collection k (S.streamed_end z) (shown_feature f) ≡ streamed_step (book_head (stored_collection F) k z f)
    view-head k z (a_point p) = refl
    view-head k z (a_way w) = rw (L.head w, L.note_head w.head z)
    view-head k z missing = refl

    view-cond : (c : Bool) (x y : BookStep (stored_collection F)) → cond c (streamed_step x) (streamed_step y) ≡ streamed_step (cond c x y)
    view-cond true x y = refl
    view-cond false x y = refl

    view-lent : (k : ℕ) (z : F.End) (b : F.Body) (v l : LentLists) (c : Bool)
        → (let r = lent_reply (S.streamed_body b) 0 v l c in book_lent S.collection k (S.streamed_end z) r.lists r.answer)
        ≡ streamed_step (let r = lent_reply b 0 v l c in book_lent (stored_collection F) k z r.lists r.answer)
    view-lent k z b v l true = rw (L.note_body b z)
    view-lent k z b v l false = refl

    view-body : (k : ℕ) (z : F.End) (l : LentLists) (f : Feature (stored_collection F)) → book_body S.collection k (S.streamed_end z) l (shown_feature f) ≡ streamed_step (book_body (stored_collection F) k z l f)
    view-body k z l (a_point p) = refl
    view-body k z l (a_way w) = rw (L.lists w, L.body w) (view-lent k z (F.whole (F.kept w.head) w.body) (F.lists w.body) l (fits (F.lists w.body) l))
    view-body k z l missing = refl

    module _ (t : StoredTile F) (fed : TileHead → F.End) where
      view-next : (P W k : ℕ) (z : F.End) → book_next S.collection (collected_tile S t fed) P W k (S.streamed_end z) ≡ streamed_step (book_next (stored_collection F) (stored_tile t fed) P W k z)
      view-next P W k z =
          let p = ap (book_point S.collection k (S.streamed_end z)) (shown-fetch t fed k) ∙ view-point k z (fetch (stored_tile t fed) k) in
          let h = ap (book_head S.collection k (S.streamed_end z)) (shown-way t fed P k) ∙ view-head k z (book_way (stored_tile t fed) P k) in
          let e : BookStep (stored_collection F) = plain (ended z) (book_state k false z) in
          ap₂ (λ x y. cond (ltb k P) x (cond (ltb k (P + W)) y (streamed_step e))) p h
          ∙ ap (cond (ltb k P) _) (view-cond (ltb k (P + W)) (book_head (stored_collection F) k z (book_way (stored_tile t fed) P k)) e)
          ∙ view-cond (ltb k P) (book_point (stored_collection F) k z (fetch (stored_tile t fed) k)) _

      view-call : (P W k : ℕ) (b : Bool) (z : F.End) (c : Call)
          → book_call S.collection (collected_tile S t fed) P W k b (S.streamed_end z) c ≡ streamed_step (book_call (stored_collection F) (stored_tile t fed) P W k b z c)
      view-call P W k false z next = view-next P W k z
      view-call P W k false z (accept l) = refl
      view-call P W k false z decline = refl
      view-call P W k true z next = refl
      view-call P W k true z (accept l) = ap (book_body S.collection k (S.streamed_end z) l) (shown-way t fed P k) ∙ view-body k z l (book_way (stored_tile t fed) P k)
      view-call P W k true z decline = refl

      pub view-book : (rows : ℕ) (s : BookState F.End) (cs : List Call)
          → streamed_replies S (run (book (stored_collection F) (stored_tile t fed) rows) s cs) ≡ run (book S.collection (collected_tile S t fed) rows) (streamed_state s) cs
      view-book rows s [] = refl
      view-book rows s (c ∷ cs) =
          let e = view-call (points_up_to t.head.table rows) (ways_up_to t.head.table rows) s.k s.waiting s.end c in
          rw e (ap (λ l. streamed_reply S (book (stored_collection F) (stored_tile t fed) rows s c).reply ∷ l) (view-book rows (book (stored_collection F) (stored_tile t fed) rows s c).left cs))
