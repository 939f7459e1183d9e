-- The texts that a stream delivers stand in the map where it says: what was read from a map m is found in m again.
use Prim.Native.Nat.{ℕ, zero, suc}
use mathlib.Core.Path.{◌≡◌, refl, sym, ap, ◌∙◌}
use mathlib.Core.Bool.{Bool, true, false, cond}
use mathlib.Core.List.{List, [], ◌∷◌}
use Rattle.parsing.specs.Parse.{Res, ok, no, Part, Maybe, some}
use Rattle.byte_source.specs.Answers.{part_in}
use Rattle.text.specs.Utf8.{valid}
use Rattle.format.specs.Lent.{LentLists, fits, deliver}
use Rattle.format.specs.Streamed.{streamed_maybe}
use Rattle.format.specs.BodyLists.{body_lists}
use Rattle.format.specs.Tile.{Point, Head, Body, point, body}
use Rattle.tag.specs.declared.Kind.{Kind}
use Rattle.types.specs.Types.{optional_span, maybe_part}
use Rattle.fields.proofs.StreamLaws.{Within, absent, stored}
use Rattle.poi.proofs.StreamLaws.{point-within}
use Rattle.agreement.specs.Calls.{Answer, Call, next, accept, decline, got_body, run}
use Rattle.agreement.specs.Format.{Format}
use Rattle.agreement.specs.Stream.{idle, waits, stream, on_point, on_head, on_body}
use Rattle.agreement.specs.TileFormat.{TileEnd, whole_body, note_body, tile_format}
use Rattle.agreement.proofs.Remaining.{lent_reply}
use Rattle.visit.specs.Visit.{TileState, shown}
use Rattle.visit.proofs.AcceptLaws.{body-within}
use Rattle.map_agreement.specs.Texts.{found_texts, stored_texts, texts_found, texts_stored}
use Rattle.map_agreement.proofs.Chain.{shown_replies}

-- a text that is a part of the map, as it is streamed, also where it is empty for not being valid UTF-8
found : (m : List ℕ) (x : Maybe Part) → Within m x → maybe_part m (optional_span (streamed_maybe x)) ≡ streamed_maybe x
found m x absent = refl
found m x (stored {p = p} w) = go (valid p.bytes)
  where
    go : (c : Bool) → some (part_in m (record { start = p.start; size = cond c p.size 0 })) ≡ some (record { start = p.start; size = cond c p.size 0; bytes = cond c p.bytes [] })
    go true = ap (λ b. some (record { start = p.start; size = p.size; bytes = b })) (sym w.bytes)
    go false = refl

-- by an answer, by one call, and by a list of calls
module _ (debug : Bool) (p w : List Kind) (m : List ℕ) where
  abbrev F : Format
  F = tile_format debug p w

  record Spelled (a : Answer Point Head Body TileEnd) : Type 0 where
    spelled : found_texts m (shown a) ≡ stored_texts a

  on-point : (n v i y : ℕ) (z : TileEnd) (r : Res Point) → point debug p m i ≡ r → Spelled (on_point F n v i y z r).reply.answer
  on-point n v i y z (ok a e) h =
      let t = (point-within m debug p).holds i a e h in
      record { spelled = rw (found m a.name t.first, found m a.house_number t.second) }
  on-point n v i y z (no k x) h = record { spelled = refl }

  on-head : (v i y : ℕ) (z : TileEnd) (r : Res Head) → Spelled (on_head F v i y z r).reply.answer
  on-head v i y z (ok h e) = record { spelled = refl }
  on-head v i y z (no k x) = record { spelled = refl }

  on-body : (v y b : ℕ) (k : Bool) (z : TileEnd) (l : LentLists) (r : Res Body) → body m b ≡ r → Spelled (let a = deliver (λ d. d) body_lists r l in (on_body whole_body note_body v y b k z a.lists a.answer).reply.answer)
  on-body v y b k z l (ok d e) h = go (fits (body_lists d) l)
    where
      spelled-body : Spelled (got_body (whole_body k d))
      spelled-body =
          let t = (body-within m).holds b d e h in
          record { spelled = rw (found m d.fields.name t.name, found m d.fields.house_number t.house_number, found m d.fields.reference t.reference) }

      go : (c : Bool) → Spelled (let a = lent_reply d e (body_lists d) l c in (on_body whole_body note_body v y b k z a.lists a.answer).reply.answer)
      go true = spelled-body
      go false = record { spelled = refl }
  on-body v y b k z l (no n x) h = record { spelled = refl }

  one-call : (s : TileState) (c : Call) → Spelled (stream F m s c).reply.answer
  one-call (idle (suc n) v i y z) next = on-point n v i y z (point debug p m i) refl
  one-call (idle zero (suc v) i y z) next = on-head v i y z (F.head m y)
  one-call (idle zero zero i y z) next = record { spelled = refl }
  one-call (idle n v i y z) (accept l) = record { spelled = refl }
  one-call (idle n v i y z) decline = record { spelled = refl }
  one-call (waits v y b k z) next = record { spelled = refl }
  one-call (waits v y b k z) (accept l) = on-body v y b k z l (body m b) refl
  one-call (waits v y b k z) decline = record { spelled = refl }

  pub texts-found : (cs : List Call) (s : TileState) → texts_found m (shown_replies (run (stream F m) s cs)) ≡ texts_stored (run (stream F m) s cs)
  texts-found [] s = refl
  texts-found (c ∷ cs) s =
      ap (λ x. x ∷ texts_found m (shown_replies (run (stream F m) (stream F m s c).left cs))) (one-call s c).spelled
      ∙ ap (λ x. stored_texts (stream F m s c).reply.answer ∷ x) (texts-found cs (stream F m s c).left)
