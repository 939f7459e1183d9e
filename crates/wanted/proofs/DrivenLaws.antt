-- From the decisions of a rule to the stream that it drives.
use Rattle.index.specs.Answers.{answer_res}
use Rattle.std.specs.Prelude.{Result}
use Rattle.error.specs.declared.Refusal.{Refusal}
use Rattle.visit.specs.declared.Stream.{Stream}
use mathlib.Core.Path.{◌≡◌, refl, sym, ap, subst, ◌∙◌}
use mathlib.Core.Bool.{Bool}
use mathlib.Core.List.{List, ◌∷◌}
use Prim.Native.Nat.{ℕ, suc}
use Rattle.parsing.specs.Parse.{ok, Maybe, some}
use Rattle.format.specs.Header.{Interval}
use Rattle.format.specs.Index.{Grid}
use Rattle.format.specs.Lent.{LentLists}
use Rattle.agreement.specs.Format.{Format}
use Rattle.agreement.specs.Stream.{StreamState}
use Rattle.zooming.specs.Zooming.{Way, EndsWell}
use Rattle.zooming.specs.Zooming as zooming
use Rattle.tile_layout.specs.TileLayout.{TileKinds, kinds_of, format_of}
use Rattle.tile_layout.specs.declared.TileLayout.{TileLayout}
use Rattle.visit.specs.Visit.{TileState, open_tile, open_res}
use Rattle.selection.specs.Selects.{selected}
use Rattle.selection.proofs.DrivenLaws.{selected-is-stream}
use Rattle.wanted.specs.Taken.{Taken, accepts}
use Rattle.wanted.specs.Wanted.{wanted_state, wanted_tile}
use Rattle.wanted.specs.WantedSays.{decided, StreamedAs, no-ways, by-head, with-body}
use Rattle.wanted.specs.DrivenLists.{DecidesAs, on_none, on-more, DeliveredIsDriven, DrivenWants, WantedDriven}
use Rattle.wanted.specs.declared.WantedFigures.{WantedFigures}
use Rattle.wanted.proofs.StreamLaws.{delivered-is-stream}
use Rattle.wanted.proofs.SaysLaws.{known, opened-value, after-opening}

module _ (F : Format) (m : List ℕ) (rule : F.Head → Bool) (ds : List ℕ) where
  -- what was taken of a way that was accepted, and of those behind it
  record Bodied (ts : List (Taken F)) (h : F.Head) (ls : List LentLists) (ws : List (Way F)) : Type 0 where
    pub body : F.Body
    pub rest : List (Taken F)
    pub is : ts ≡ record { head = h; body = some body } ∷ rest
    pub same : StreamedAs F rest ls ws

  bodied : {ts : List (Taken F)} {ls' : List LentLists} {ws' : List (Way F)} (h : F.Head) (l l' : LentLists) (b : F.Body) (ls : List LentLists) (ws : List (Way F))
      → StreamedAs F ts ls' ws' → ls' ≡ l ∷ ls → ws' ≡ zooming.whole h l b l' ∷ ws → Bodied ts h ls ws
  bodied h l l' b ls ws no-ways p q = cc
  bodied h l l' b ls ws (by-head t) p q = cc
  bodied h l l' b ls ws (with-body {h = g} {b = x} {ts = us} {ls = ks} {ws = vs} t) p q =
      let e : g ≡ h = cc in
      let f : ks ≡ ls = cc in
      let d : vs ≡ ws = cc in
      record { body = x; rest = us; is = rw e; same = rw (← f, ← d) t }

  record More (k : ℕ) (w : Taken F) (ws : List (Taken F)) : Type 0 where
    pub agrees : accepts ds k ≡ rule w.head
    pub behind : DecidesAs F rule ds (suc k) ws

  more : {k : ℕ} {w : Taken F} {ws : List (Taken F)} → DecidesAs F rule ds k (w ∷ ws) → More k w ws
  more (on-more q a) = record { agrees = q; behind = a }

  -- where they agree on the ways, a stream by the decisions is the stream by the rule
  by-rule : {k : ℕ} {s : StreamState F} {ls : List LentLists} {ps : List F.Point} {ws : List (Way F)} {z : F.End} {ts : List (Taken F)}
      → EndsWell F m (decided F ds) k s ls ps ws z → StreamedAs F ts ls ws → DecidesAs F rule ds k ts → EndsWell F m (λ _ h. rule h) k s ls ps ws z
  by-rule (zooming.at-end e) no-ways on_none = zooming.at-end e
  by-rule (zooming.on-point e d) t a = zooming.on-point e (by-rule d t a)
  by-rule (zooming.on-declined e r c d) (by-head t) (on-more q a) = zooming.on-declined e (sym q ∙ r) c (by-rule d t a)
  by-rule {k = k} (zooming.on-accepted {h = h} {b = b} {l = l} {l' = l'} {ls = ls} {ws = ws} e r c d) t a =
      let x = bodied h l l' b ls ws t refl refl in
      let y = more (subst (λ (us : List (Taken F)). DecidesAs F rule ds k us) x.is a) in
      zooming.on-accepted e (sym y.agrees ∙ r) c (by-rule d x.same y.behind)

  pub delivered-is-driven : (s : StreamState F) → DeliveredIsDriven F m rule ds s
  delivered-is-driven s = record {
    drives = λ d e q a lent count fit.
        let t = (delivered-is-stream F m ds s).delivers d e q lent count fit in
        record { ways = t.ways; said = t.said; driven = (selected-is-stream F m rule).driven (by-rule t.ends t.same a); same = t.same };
  }

driven-wants : (k : TileKinds) (m : List ℕ) (ds : List ℕ) (w : WantedFigures) (e : ℕ) (s : TileState) → wanted_state k ds m s ≡ ok w e → DrivenWants k m ds w s
driven-wants k m ds w e s q =
    let a = known k m ds w e s q in
    record {
      what = a.what;
      behind = a.behind;
      is = a.is;
      figured = a.figured;
      drives = λ sel classes c lent n long. (delivered-is-driven (format_of k) m (selected sel classes) ds s).drives a.what a.behind a.is c lent (a.count lent n) (a.fit lent long);
    }

-- the theorem: the first premise is the contract of `wanted`, the second that of `visit::open`, for any sub file number s
pub wanted-driven : (l : TileLayout) (letters : List ℕ) (i : Maybe Interval) (s : ℕ) (g : Grid) (t zoom : ℕ) (ds m : List ℕ) (r : (Result WantedFigures Refusal)) (o : (Result Stream Refusal))
    → answer_res r ≡ wanted_tile l letters i g t zoom ds m → open_res o ≡ open_tile l i s g t zoom m
    → WantedDriven (kinds_of l letters) m ds r o
wanted-driven l letters i s g t zoom ds m r o q p = record {
  value = λ w e.
      let k = kinds_of l letters in
      opened-value k m ds (DrivenWants k m ds w) w (driven-wants k m ds w 0) o (ap answer_res (sym e) ∙ after-opening l letters i s g t zoom ds m r o q p);
}
