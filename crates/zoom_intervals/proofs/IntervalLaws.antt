-- Intervals filled into an array from the front.
use Prim.Native.Nat.{ℕ, ◌+◌, ◌≤◌, ◌<◌}
use mathlib.Core.Path.{◌≡◌, sym, ap, ◌∙◌}
use mathlib.Core.List.{List, [], ◌∷◌, ◌++◌}
use lib.ListN.{length, set, replicate}
use Rattle.std.specs.Prelude.{Result}
use Rattle.std.specs.Result.{IsErr, IsErrAnd}
use Rattle.parsing.specs.Parse.{Res, ok, map_res, many}
use Rattle.error.specs.Refusals.{refused}
use Rattle.error.specs.declared.Refusal.{Refusal}
use Rattle.byte_source.specs.Answers.{read_res}
use Rattle.byte_source.proofs.ReadLaws.{reads, met, loop-refused}
use Rattle.format.specs.Header.{Interval, interval}
use Rattle.types.specs.Types.{interval_of}
use Rattle.types.specs.declared.ZoomInterval.{ZoomInterval}
use Rattle.types.proofs.FillLaws.{front-map-more, fill_more, fill_done}
use Rattle.zoom_intervals.specs.Intervals.{zoom_interval, empty_interval, filled, zoom_intervals}
use Rattle.zoom_intervals.specs.declared.ZoomIntervals.{ZoomIntervals}

filled_more : (xs : List Interval) (z : Interval) → length xs < 255 → filled (xs ++ (z ∷ [])) ≡ set (filled xs) (length xs) (zoom_interval z)
unfolding filled
filled_more xs z h = front-map-more zoom_interval xs z (replicate 255 empty_interval) h

module _ (m : List ℕ) (at : ℕ) where
  pub intervals-none : (e : ZoomInterval) → e ≡ empty_interval → ok (filled []) at ≡ ok (replicate 255 e) at
  unfolding filled
  intervals-none e h = rw h

  module _ (i n : ℕ) (l : List ZoomInterval) (h : map_res filled (many interval i m at) ≡ ok l n) where
    pub intervals-more : (e : ℕ) (v : ZoomInterval) → ok (interval_of v) e ≡ interval m n → i < 255 → map_res filled (many interval (i + 1) m at) ≡ ok (set l i v) e
    intervals-more e v q b =
        fill_more filled zoom_interval 255 filled_more interval m i at n l e v h (ap (map_res zoom_interval) (sym q)) b

    pub intervals-no : (k : ℕ) (g : Result (ZoomIntervals × ℕ) Refusal) (e : Refusal) → IsErr g × IsErrAnd g (λ x. x ≡ e) → refused e ≡ interval m n → i < k → read_res g ≡ map_res zoom_intervals (many interval k m at)
    intervals-no k g e p q b =
        ap read_res (met p) ∙ ap (map_res zoom_intervals) (loop-refused interval filled zoom_interval m i k at n l e (sym h) (ap (map_res zoom_interval) q) b)

    pub intervals-done : (k : ℕ) → i ≤ k → k ≤ i → ◌≡◌ {A = Res ZoomIntervals} (ok (record { intervals = l; count = k }) n) (map_res zoom_intervals (many interval k m at))
    intervals-done k b c = fill_done filled (λ l k. record { intervals = l; count = k }) interval m i at n k l h b c

pub ruleset fills = (reads, intervals-none, intervals-more, intervals-no, intervals-done)
