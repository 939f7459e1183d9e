-- The lists that `open_map` filled are what a walk through the header finds (specs/ListedTags.antt).
use Prim.Native.Nat.{ℕ}
use mathlib.Core.Path.{◌≡◌, sym, subst}
use mathlib.Core.List.{List}
use Rattle.parsing.specs.Parse.{ok}
use Rattle.format.specs.Header.{Header, opened}
use Rattle.format.specs.TagLists.{TagLists, tag_lists, lists_written}
use Rattle.format.proofs.TagLaws.{opened-header}
use Rattle.format.proofs.ListLaws.{lists-are-the-walk}
use Rattle.header.specs.HeaderView.{map_header}
use Rattle.std.specs.Prelude.{Ok}
use Rattle.types.specs.declared.MapHeader.{MapHeader}
use Rattle.opening.specs.Opening.{OpenIs}
use Rattle.opening.proofs.OpenedLaws.{opened_with}
use Rattle.map_agreement.specs.ListedTags.{ListedTags}

pub listed-tags : (m : List ℕ) (lent : TagLists) (v : MapHeader) (tags : TagLists) (e : ℕ) → OpenIs (opened m) lent (Ok (v, e)) tags → ListedTags m v tags
listed-tags m lent v tags e i =
    let k = opened_with map_header (opened m) lent v e tags i in
    subst (λ v. ListedTags m v tags) (sym k.shown) (subst (λ t. ListedTags m (map_header k.header) t) (sym k.lists) (go k.header k.read))
  where
    go : (h : Header) → opened m ≡ ok h e → ListedTags m (map_header h) (lists_written (tag_lists h) lent)
    go h o =
        let w = lists-are-the-walk m h e (opened-header m h e o) lent in
        record {
          poi = record { start = w.poi.start; letter = w.poi.letter; kinds = w.poi.kinds; name = w.poi.name };
          way = record { start = w.way.start; letter = w.way.letter; kinds = w.way.kinds; name = w.way.name };
        }
