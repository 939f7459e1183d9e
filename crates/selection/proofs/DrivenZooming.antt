-- Request 12 of a driven stream: it is the stream under its rule, of which crate zooming speaks, and the selected ways among the first ways
-- are the first of the selected ways.
use mathlib.Core.Path.{◌≡◌, refl, sym, ap, ◌∙◌}
use mathlib.Core.Bool.{Bool}
use mathlib.Core.List.{List, [], ◌∷◌, ◌++◌}
use Prim.Native.Nat.{ℕ, ◌^◌, ◌<◌}
use lib.ListN.{length, take, drop, take-append-drop}
use Rattle.parsing.specs.Parse.{ok, Parser}
use Rattle.format.specs.Lent.{LentLists}
use Rattle.format.specs.Tile.{TileHead}
use Rattle.agreement.specs.Format.{Format, Laws}
use Rattle.agreement.specs.Heads.{HeadCounts, ways_up_to}
use Rattle.agreement.specs.Stream.{StreamState, open_stream}
use Rattle.zooming.specs.Zooming.{Delivered, Way, by_head, whole, Advances, Grows}
use Rattle.zooming.proofs.Zooming.{zooming-in}
use Rattle.selection.specs.Driven.{DrivenWell, accepted, DrivenAdds}
use Rattle.selection.proofs.DrivenLaws.{selected-is-stream}

accepted-both : {H B : Type 0} (a b : List (Delivered H B)) → accepted (a ++ b) ≡ accepted a ++ accepted b
accepted-both [] b = refl
accepted-both (by_head h ∷ a) b = accepted-both a b
accepted-both (whole h l d l' ∷ a) b = ap (λ r. whole h l d l' ∷ r) (accepted-both a b)

module _ (H : Parser TileHead) (LH : HeadCounts H) (F : Format) (L : Laws F) (A : Advances F) (m : List ℕ) (small : length m < 2 ^ 64) (rule : F.Head → Bool) (i : ℕ) (z : TileHead → F.End) {R : F.End → F.End → Type 0} (G : Grows F R) where
  pub driven-adds : (rows : ℕ) {s : StreamState F} {e : ℕ} → open_stream H rows z m i ≡ ok s e
      → {ls : List LentLists} {ps : List F.Point} {ws : List (Way F)} {y : F.End} → DrivenWell F m rule s ls ps ws y
      → DrivenAdds H F R m rule i z rows ls ps ws y
  driven-adds rows o d =
      let w = selected-is-stream F m rule in
      let u = w.under d 0 in
      let a = zooming-in H LH F L A m small (λ _ h. rule h) i z G rows o u.ends in
      record {
        head = a.head;
        behind = a.behind;
        read = a.read;
        fewer = λ rows' le.
            let f = a.fewer rows' le in
            let n = ways_up_to a.head.table rows' in
            record {
              start = f.start;
              behind = f.behind;
              opens = f.opens;
              first = f.first;
              rest = f.rest;
              lists = f.lists;
              given = accepted (take n u.all);
              later = accepted (drop n u.all);
              selected = sym u.same ∙ ap accepted (sym (take-append-drop n u.all)) ∙ accepted-both (take n u.all) (drop n u.all);
              said = f.said;
              ends = w.driven f.ends;
              grows = f.grows;
              point-count = f.point-count;
            };
      }
